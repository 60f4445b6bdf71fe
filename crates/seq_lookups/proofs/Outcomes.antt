-- What was found, and what is refused.
use Rattle.seq_state.proofs.{◌≡◌, refl, sym, subst, Reply, Change, Judged, Refused, Found, state_of, same_by}
use Rattle.{seq_state.specs.Maps.Maps, seq_lookups.specs.Carried.IsCarriedOut, seq_lookups.specs.Ranges.WhereFound}

-- What is said of what is found holds of it.
pub where_found : {A : Type 0} (j : Judged A) (P : A → Type 0) (x : A) → Found x ≡ j → WhereFound j P → P x
where_found {A = A} j P x e h = subst (λ (i : Judged A). WhereFound i P) (sym e) h

-- A refused call leaves the kernel as it was.
pub refused : (k : Maps) (o : Judged Change) (r : Reply) → o ≡ Refused r → IsCarriedOut (state_of k) o r k
refused k o r e = subst (λ (j : Judged Change). IsCarriedOut (state_of k) j r k) (sym e) record {
  reply = refl;
  state = same_by (state_of k) (state_of k) refl;
}
