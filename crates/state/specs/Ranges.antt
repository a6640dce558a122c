-- The range of every number of a service but those that fill their bytes: the Alt sum and the words.
-- Assumes nothing.
use Rattle.queue.specs.Words.{QueueInRange}
use Rattle.line.specs.Ranges.{LineInRange}
use Rattle.state.specs.declared.Service.{Service}

pub record InRange (service : Service) : Type 0 where
  pub queue : QueueInRange service.queue
  pub line : LineInRange service.line
