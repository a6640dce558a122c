-- A call by value that lends a copy and a buffer to a lent call, and hands back the copy and the reply: its code, and the contracts.
--     let mut copy = s; let reply = lent(&mut copy, p, buffer); Outcome { copy, reply }
-- The proof stands in `LentCopyWithBuffer`. Assumes nothing.
use mathlib.Core.Path.{◌≡◌}
use Prim.Native.Nat.{ℕ}
use mathlib.Core.List.{[], ◌∷◌, List}
use seplogic.Ra.Ura.{Ura}
use mir.Syntax.{w8, Ty, ty_ref, ty_int, ty_struct, tcons, tnil, mut, named, erased, Fn, local, value_local, memory_slot, seq, assign, call, return, place, deref, field, copy, rv_opd, addr_of, aggregate}
use base.Logic.{emp}
use prog.Routine.{Callee}
use types.Logic.{Logic}
use contract.Monad.{fact}
use denote.Builtin.{SliceRefMutOf, u8}
use denote.Slice.{slice_ty}
use denote.Signature.{plain}
use denote.Triple.Spec.{triple_of}
use denote.Triple.Statement.{Contract}
use denote.Triple.Clauses.{Ended, Clauses, closing}
use denote.Exit.{yes}
use Rattle.lent_walks.proofs.Plain.{Plain, row, Outcome, outcome_row}
use Rattle.lent_walks.proofs.LentWithBuffer.Stated as lent

module _ (T N P : Plain) (O : Outcome T N) (name_of : Ty) (#core #lent : Callee) (spec : T.Denot → P.Denot → List ℕ → O.Denot) (written : T.Denot → P.Denot → List ℕ → List ℕ) where
  abbrev pub outcome : Ty
  outcome = ty_struct O.name (tcons T.type (tcons N.type tnil))

  abbrev pub function : Fn
  function = record {
    lifetimes = 1;
    outlives = [];
    ty_params = [];
    givens = 0;
    params = 3;
    locals = local outcome value_local ∷ local T.type value_local ∷ local P.type value_local ∷ local (slice_ty (ty_ref (named 0) mut (ty_int w8))) value_local ∷ local T.type memory_slot ∷ local N.type value_local ∷ local (ty_ref erased mut name_of) value_local ∷ local (ty_ref erased mut (ty_int w8)) value_local ∷ local (slice_ty (ty_ref erased mut (ty_int w8))) value_local ∷ local T.type value_local ∷ [];
    body =
        seq (assign (place 4 []) (rv_opd (copy (place 1 [])))) (seq (assign (place 6 []) (addr_of (place 4 []))) (seq (assign (place 7 []) (addr_of (place 3 (field 0 ∷ deref (ty_int w8) ∷ [])))) (seq (assign (place 8 []) (aggregate (copy (place 7 []) ∷ copy (place 3 (field 1 ∷ [])) ∷ [])))
        (seq (call #lent (copy (place 6 []) ∷ copy (place 2 []) ∷ copy (place 8 []) ∷ []) (place 5 [])) (seq (assign (place 9 []) (rv_opd (copy (place 4 [])))) (seq (assign (place 0 []) (aggregate (copy (place 9 []) ∷ copy (place 5 []) ∷ []))) return))))));
  }

  abbrev pub ended : Ended
  ended = record {
    signature = record { lifetimes = 1; outlives = []; params = plain (λ κs. row T) ∷ plain (λ κs. row P) ∷ SliceRefMutOf (0 ∷ []) tt (plain (λ κs. u8)) (λ κs. tt) ∷ []; result = plain (λ κs. outcome_row T N O) };
    kept = (yes, (yes, (yes, tt)));
  }

  abbrev pub clauses : {M : Type 1} (𝓤 : Ura M) → Clauses 𝓤 ended
  clauses 𝓤 κs a = record { ghost = Unit {0}; requires = λ _. emp 𝓤; ensures = λ _ r last. fact 𝓤 ((r ≡ spec a.0 a.1.0 a.1.1.0.now) × (last.1.1.0.now ≡ written a.0 a.1.0 a.1.1.0.now)) }

  abbrev pub lent_ended : Ended
  lent_ended = lent.ended T N P O name_of #core spec written

  abbrev pub lent_clauses : {M : Type 1} (𝓤 : Ura M) → Clauses 𝓤 lent_ended
  lent_clauses 𝓤 = lent.clauses T N P O name_of #core spec written 𝓤

  abbrev pub Lent : {M : Type 1} {𝓤 : Ura M} (𝓛 : Logic 𝓤) → Contract 𝓤
  Lent {𝓤 = 𝓤} 𝓛 = triple_of 𝓛 lent_ended.signature (closing 𝓛 lent_ended (lent_clauses 𝓤))
