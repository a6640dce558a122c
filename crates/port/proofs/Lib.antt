pub mod Disjunction
pub mod NothingSwallowed
pub mod AltSumSettles
pub mod LocksHold
