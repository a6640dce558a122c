-- A call that is lent a struct by `&`, over a core by value: its code, and the contracts.
--     core(*s)
-- The proof stands in `Looked`. Assumes nothing.
use mathlib.Core.Path.{◌≡◌}
use mathlib.Core.List.{[], ◌∷◌}
use seplogic.Ra.Ura.{Ura}
use mir.Syntax.{Ty, ty_ref, imm, named, Fn, local, value_local, seq, assign, call, return, place, deref, copy, rv_opd}
use base.Logic.{emp}
use prog.Routine.{Callee}
use types.Logic.{Logic}
use contract.Monad.{fact}
use denote.Builtin.{RefOf}
use denote.Signature.{plain}
use denote.Triple.Spec.{triple_of}
use denote.Triple.Statement.{Contract}
use denote.Triple.Clauses.{Ended, Clauses, closing}
use denote.Exit.{yes}
use Rattle.lent_walks.proofs.Plain.{Plain, row}

module _ (T N : Plain) (name_of : Ty) (#core : Callee) (spec : T.Denot → N.Denot) where
  abbrev pub function : Fn
  function = record {
    lifetimes = 1;
    outlives = [];
    ty_params = [];
    givens = 0;
    params = 1;
    locals = local N.type value_local ∷ local (ty_ref (named 0) imm name_of) value_local ∷ local T.type value_local ∷ [];
    body = seq (assign (place 2 []) (rv_opd (copy (place 1 (deref T.type ∷ []))))) (seq (call #core (copy (place 2 []) ∷ []) (place 0 [])) return);
  }

  abbrev pub core_ended : Ended
  core_ended = record { signature = record { lifetimes = 0; outlives = []; params = plain (λ κs. row T) ∷ []; result = plain (λ κs. row N) }; kept = (yes, tt) }

  abbrev pub ended : Ended
  ended = record {
    signature = record { lifetimes = 1; outlives = []; params = RefOf (0 ∷ []) tt (plain (λ κs. row T)) (λ κs. tt) ∷ []; result = plain (λ κs. row N) };
    kept = (yes, tt);
  }

  abbrev pub core_clauses : {M : Type 1} (𝓤 : Ura M) → Clauses 𝓤 core_ended
  core_clauses 𝓤 κs a = record { ghost = Unit {0}; requires = λ _. emp 𝓤; ensures = λ _ r _. fact 𝓤 (r ≡ spec a.0) }

  abbrev pub clauses : {M : Type 1} (𝓤 : Ura M) → Clauses 𝓤 ended
  clauses 𝓤 κs a = record { ghost = Unit {0}; requires = λ _. emp 𝓤; ensures = λ _ r _. fact 𝓤 (r ≡ spec a.0.now) }

  abbrev pub Core : {M : Type 1} {𝓤 : Ura M} (𝓛 : Logic 𝓤) → Contract 𝓤
  Core {𝓤 = 𝓤} 𝓛 = triple_of 𝓛 core_ended.signature (closing 𝓛 core_ended (core_clauses 𝓤))
