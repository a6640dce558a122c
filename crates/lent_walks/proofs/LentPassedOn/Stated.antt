-- A call that is lent a struct by `&mut`, with one further parameter, and passes both on to a lent call: its code, and the contracts.
--     lent(s, p)
-- The proof stands in `LentPassedOn`. Assumes nothing.
use mathlib.Core.List.{[], ◌∷◌}
use seplogic.Ra.Ura.{Ura}
use mir.Syntax.{Ty, ty_ref, mut, named, erased, Fn, local, value_local, seq, assign, call, return, place, deref, copy, addr_of}
use prog.Routine.{Callee}
use types.Logic.{Logic}
use denote.Triple.Spec.{triple_of}
use denote.Triple.Statement.{Contract}
use denote.Triple.Clauses.{Ended, Clauses, closing}
use Rattle.lent_walks.proofs.Plain.{Plain, Outcome}
use Rattle.lent_walks.proofs.LentWithOne.Stated as lent

module _ (T N P : Plain) (O : Outcome T N) (name_of : Ty) (#core #lent : Callee) (spec : T.Denot → P.Denot → O.Denot) where
  -- the code
  abbrev pub function : Fn
  function = record {
    lifetimes = 1;
    outlives = [];
    ty_params = [];
    givens = 0;
    params = 2;
    locals = local N.type value_local ∷ local (ty_ref (named 0) mut name_of) value_local ∷ local P.type value_local ∷ local (ty_ref erased mut name_of) value_local ∷ [];
    body = seq (assign (place 3 []) (addr_of (place 1 (deref T.type ∷ [])))) (seq (call #lent (copy (place 3 []) ∷ copy (place 2 []) ∷ []) (place 0 [])) return);
  }

  -- the contract, which is that of the lent call
  abbrev pub ended : Ended
  ended = lent.ended T N P O name_of #core spec

  abbrev pub clauses : {M : Type 1} (𝓤 : Ura M) → Clauses 𝓤 ended
  clauses 𝓤 = lent.clauses T N P O name_of #core spec 𝓤

  abbrev pub Lent : {M : Type 1} {𝓤 : Ura M} (𝓛 : Logic 𝓤) → Contract 𝓤
  Lent {𝓤 = 𝓤} 𝓛 = triple_of 𝓛 ended.signature (closing 𝓛 ended (clauses 𝓤))
