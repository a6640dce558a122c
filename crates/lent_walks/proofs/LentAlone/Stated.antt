-- A call that is lent a struct by `&mut`, with no further parameter, over a core by value: its code, and the contracts.
--     let out = core(*s); *s = out.left; out.reply
-- The proof stands in `LentAlone`. Assumes nothing.
use mathlib.Core.Path.{◌≡◌}
use mathlib.Core.List.{[], ◌∷◌}
use seplogic.Ra.Ura.{Ura}
use mir.Syntax.{Ty, ty_ref, ty_struct, tcons, tnil, mut, named, Fn, local, value_local, seq, assign, call, return, place, deref, field, copy, rv_opd}
use base.Logic.{emp}
use prog.Routine.{Callee}
use types.Logic.{Logic}
use contract.Monad.{fact}
use denote.Builtin.{RefMutOf}
use denote.Signature.{plain}
use denote.Triple.Spec.{triple_of}
use denote.Triple.Statement.{Contract}
use denote.Triple.Clauses.{Ended, Clauses, closing}
use denote.Exit.{yes}
use Rattle.lent_walks.proofs.Plain.{Plain, row, Outcome, outcome_row}

module _ (T N : Plain) (O : Outcome T N) (name_of : Ty) (#core : Callee) (spec : T.Denot → O.Denot) where
  -- the code
  abbrev pub outcome : Ty
  outcome = ty_struct O.name (tcons T.type (tcons N.type tnil))

  abbrev pub function : Fn
  function = record {
    lifetimes = 1;
    outlives = [];
    ty_params = [];
    givens = 0;
    params = 1;
    locals = local N.type value_local ∷ local (ty_ref (named 0) mut name_of) value_local ∷ local outcome value_local ∷ local T.type value_local ∷ local T.type value_local ∷ [];
    body =
        seq (assign (place 3 []) (rv_opd (copy (place 1 (deref T.type ∷ []))))) (seq (call #core (copy (place 3 []) ∷ []) (place 2 [])) (seq (assign (place 4 []) (rv_opd (copy (place 2 (field 0 ∷ []))))) (seq (assign (place 1 (deref T.type ∷ [])) (rv_opd (copy (place 4 [])))) (seq (assign (place 0 []) (rv_opd (copy (place 2 (field 1 ∷ []))))) (return)))));
  }

  -- the contracts: the core returns `spec`, and the lent call leaves and returns its two parts
  abbrev pub core_ended : Ended
  core_ended = record {
    signature = record { lifetimes = 0; outlives = []; params = plain (λ κs. row T) ∷ []; result = plain (λ κs. outcome_row T N O) };
    kept = (yes, tt);
  }

  abbrev pub ended : Ended
  ended = record {
    signature = record { lifetimes = 1; outlives = []; params = RefMutOf (0 ∷ []) tt (plain (λ κs. row T)) (λ κs. tt) ∷ []; result = plain (λ κs. row N) };
    kept = (yes, tt);
  }

  abbrev pub core_clauses : {M : Type 1} (𝓤 : Ura M) → Clauses 𝓤 core_ended
  core_clauses 𝓤 κs a = record { ghost = Unit {0}; requires = λ _. emp 𝓤; ensures = λ _ r _. fact 𝓤 (r ≡ spec a.0) }

  abbrev pub clauses : {M : Type 1} (𝓤 : Ura M) → Clauses 𝓤 ended
  clauses 𝓤 κs a = record {
    ghost = Unit {0};
    requires = λ _. emp 𝓤;
    ensures = λ _ r last. fact 𝓤 ((last.0.now ≡ O.left (spec a.0.now)) × (r ≡ O.reply (spec a.0.now)));
  }

  abbrev pub Core : {M : Type 1} {𝓤 : Ura M} (𝓛 : Logic 𝓤) → Contract 𝓤
  Core {𝓤 = 𝓤} 𝓛 = triple_of 𝓛 core_ended.signature (closing 𝓛 core_ended (core_clauses 𝓤))
