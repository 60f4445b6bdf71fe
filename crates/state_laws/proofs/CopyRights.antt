-- A copy that is carried out puts what its first name leads to, with no right that this lacks.
use Rattle.kernel_laws.proofs.{◌≡◌, ℕ, [], ◌∷◌, Some, refl, sym, ap, ◌∙◌, subst, Capability, kept, Copy, Place, Holds, put, Slot, Named}
use Rattle.kernel_laws.proofs.{Under, found, any, only, reached, to_copy, to_use, Nothing, Fill, Change, does, Judged, Refused, Found}
use Rattle.kernel_laws.proofs.{IsFoundAnd, named, name_of, vacant, outcome, change_of, changed, put_same, then_parts, suits, name_parts}
use Rattle.{kernel_laws.proofs.leads_is, kernel_laws.proofs.Kind, kernel_laws.specs.spk_nums.proofs.KeptRights.kept_has}
use Rattle.{kernel_laws.specs.kernel_rules.specs.CapabilityCalls.copy_rule, kernel_laws.specs.kernel_invariant.proofs.Facts.vacant_facts}
use Rattle.{kernel_laws.specs.Causes.used_at, state_laws.specs.Rights.CopiesPutNoMore}

-- What is found, of what is found and has a property.
record Has (j : Judged Change) : Type 0 where
  change : Change
  is : j ≡ Found change

has : (j : Judged Change) (P : Change → Type 0) → IsFoundAnd j P → Has j
has (Refused r) P h = absurd h
has (Found x) P h = record { change = x; is = refl }

found_inj : (x y : Change) → Found x ≡ Found y → x ≡ y
found_inj x y e = cc

pub copies_put_no_more : CopiesPutNoMore
copies_put_no_more s c a u b rights v may =
    let done : Has (outcome s c (copy_rule a u b rights.0)) = has (outcome s c (copy_rule a u b rights.0)) _ may.1.1 in
    let first = then_parts (named s c a (to_copy any)) _ done.change done.is in
    let second = then_parts (named s c u (to_use (only Kind.Table))) _ done.change first.2 in
    let target = then_parts (vacant s c (Under (found second.0) b)) _ done.change second.2 in
    let k : Capability = first.0 in
    let at : Slot = target.0 in
    let parts = name_parts s c a (to_copy any) k first.1 in
    let table : name_of (named s c u (to_use (only Kind.Table))) ≡ found second.0 = ap name_of second.1 in
    let change_is : change_of s c (Copy a u b rights) ≡ Found (does c s Nothing (Fill at (kept k rights.0) ∷ [])) =
    done.is ∙ ap (λ (x : Change). Found x) (sym (found_inj (does c s Nothing (Fill at (kept k rights.0) ∷ [])) done.change target.2)) in
    record {
      source = k;
      leads_there = ap (used_at s c) parts.1 ∙ parts.3 ∙ ap (λ (x : Capability). Some x) (suits (to_copy any) parts.2 k parts.4).is;
      at = at;
      reaches = subst (λ (x : Named). reached s c (Under x b) ≡ Some at) (sym table ∙ leads_is s c (only Kind.Table) u)
          (vacant_facts s c (Under (found second.0) b) at target.1).0;
      put = kept k rights.0;
      holds = ap (λ x. (changed s x).place at.node at.index) change_is
          ∙ ap (λ (row : ℕ → Place). row at.index)
          (put_same s.place at.node (put (s.place at.node) at.index (Holds (kept k rights.0))) at.node refl)
          ∙ put_same (s.place at.node) at.index (Holds (kept k rights.0)) at.index refl;
      kind = refl;
      frame = refl;
      arg = refl;
      rights = λ needs. kept_has k.kind k.rights rights.0 needs;
    }
