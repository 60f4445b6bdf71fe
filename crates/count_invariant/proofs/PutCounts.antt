-- What a call puts at its target is counted: the call changes references, and the frame that it names there is in its footprint.
use Rattle.step_ways.specs.act_states.proofs as low
use low.{◌≡◌, ◌≢◌, ℕ, ◌+◌, ◌++◌, ◌==◌, ◌^◌, ◌<◌, ◌≤◌, Bool, true, false, if◌then◌else◌, leb as nat_le, List, [], ◌∷◌, Option, Some, None}
use low.{IsTrue, refl, sym, ◌∙◌, ap, subst, Capability, cap_of, Call, Copy, Gate, Grow}
use low.{Map, State, named_by, only, Found, only_is, at_place, First, Second, plan_for, Leads}
use low.{LeadsIn, put_by, to_use, suits, part_of, has_frames, found, false≢true}
use Rattle.plan_ways.specs.kernel_history.specs.{counts_references, is_one_of, footprint_frames, of_kind}
use Rattle.step_ways.specs.act_states.specs.{gate_if, gate_to}
use Rattle.step_ways.specs.kernel_laws.proofs.{name_parts, kept}
use Rattle.plan_ways.specs.spk_nums.specs.declared.kinds.Kind.TheVariants.{Comp as comp_kind, Gate as gate_kind}
use Rattle.step_ways.specs.act_states.specs.Acts.{kept_of, part_in}
use Rattle.count_invariant.proofs.LinkCounts.{link_footprint, page_footprint}
use Rattle.{plan_ways.specs.kernel_invariant.proofs.Facts.Suits}
use Rattle.{plan_ways.specs.spk_nums.specs.declared.rights.Rights.Rights, plan_ways.proofs.InFootprint.footprint_found}

cap_same : (j k : Capability) → Some j ≡ Some k → j ≡ k
cap_same j k h = cc

-- A part of a range names no frame that is counted.
pub part_unnamed : (o : Option Capability) (g n : ℕ) (k : Capability) → part_in o g n ≡ Some k
    → (f : ℕ) → is_one_of f (named_by k.kind k.frame) ≡ true → ⊥
part_unnamed None g n k puts f names_it = absurd (cc)
part_unnamed (Some range) g n k puts f names_it = by (has_frames (found range) g n) puts
  where
    by : (has : Bool) → (if has then Some (part_of range g n) else None) ≡ Some k → ⊥
    by true h =
        let none : named_by k.kind k.frame ≡ [] =
        subst (λ (x : Capability). named_by x.kind x.frame ≡ []) (cap_same (part_of range g n) k h) refl in
        false≢true (sym (ap (is_one_of f) none) ∙ names_it)
    by false h = absurd (cc)

-- So is nothing that a call without a target puts.
part_counts : (o : Option Capability) (g n : ℕ) (k : Capability) → part_in o g n ≡ Some k
    → (f : ℕ) → is_one_of f (named_by k.kind k.frame) ≡ true → IsTrue false
part_counts o g n k puts f names_it = absurd (part_unnamed o g n k puts f names_it)

part_footprint : (xs : List ℕ) (o : Option Capability) (g n : ℕ) (k : Capability) → part_in o g n ≡ Some k
    → (f : ℕ) → is_one_of f (named_by k.kind k.frame) ≡ true → is_one_of f xs ≡ true
part_footprint xs o g n k puts f names_it = absurd (part_unnamed o g n k puts f names_it)

none_counts : (k : Capability) → None ≡ Some k → IsTrue false
none_counts k puts = absurd (cc)

none_footprint : (xs : List ℕ) (f : ℕ) (k : Capability) → None ≡ Some k → is_one_of f xs ≡ true
none_footprint xs f k puts = absurd (cc)

-- A call that fills its target with what names a frame changes references, and that frame is in its footprint.
pub put_counts : (call : Call) (ks : List Capability) (read : Option ℕ) (k : Capability) → put_by call ks read ≡ Some k
    → (d : ℕ) → is_one_of d (named_by k.kind k.frame) ≡ true → IsTrue (counts_references call)
put_counts (Copy a u b rights) ks read k puts d names_it = refl
put_counts _ ks read k puts d names_it = search (part_counts, none_counts)

-- A name that wants a component has led to one.
wanted_is : (j k : Capability) → of_kind (to_use (only comp_kind)) j ≡ Found k → k.kind ≡ comp_kind
wanted_is j k h =
    let w : Suits (to_use (only comp_kind)) j k = suits (to_use (only comp_kind)) j k h in
    ap (λ (x : Capability). x.kind) (sym w.is) ∙ only_is comp_kind j.kind w.kind

-- A gate names the frame of the component to which its call's first name has led.
gate_footprint : (s : State) (c : ℕ) (n u b : ℕ) (ks : List Capability) (o : Option Capability) (read : Option ℕ) (k : Capability)
    → at_place ks First ≡ o → gate_to o read ≡ Some k
    → Leads (LeadsIn s c) (plan_for (Gate n u b)).names [] ks
    → (f : ℕ) → is_one_of f (named_by k.kind k.frame) ≡ true → is_one_of f (footprint_frames s c (Gate n u b)) ≡ true
gate_footprint s c n u b ks None read k is puts lead f names_it = absurd (cc)
gate_footprint s c n u b ks (Some comp) None k is puts lead f names_it = absurd (cc)
gate_footprint s c n u b [] (Some comp) (Some epoch) k is puts lead f names_it = absurd (cc)
gate_footprint s c n u b (j ∷ ks) (Some comp) (Some epoch) k is puts lead f names_it =
    footprint_found s c (Gate n u b) (j ∷ ks) lead First j refl f (by (nat_le 1 epoch) puts)
  where
    by : (some : Bool) → gate_if some comp.frame epoch ≡ Some k → is_one_of f (named_by j.kind j.frame) ≡ true
    by true h =
        let parts = name_parts s c n (to_use (only comp_kind)) j lead.0 in
        subst (λ x. is_one_of f (named_by x j.frame) ≡ true) (sym (wanted_is parts.2 j parts.4))
        (subst (λ (x : Capability). is_one_of f (x.frame ∷ []) ≡ true) (sym (cap_same j comp is))
        (subst (λ (x : Capability). is_one_of f (named_by x.kind x.frame) ≡ true)
        (sym (cap_same (cap_of gate_kind comp.frame epoch) k h)) names_it))
    by false h = absurd (cc)

-- A copy names the frame of the capability to which its first name has led.
copy_footprint : (s : State) (c a u b : ℕ) (rights : Rights) (ks : List Capability) (o : Option Capability) (k : Capability)
    → at_place ks First ≡ o → kept_of rights.0 o ≡ Some k
    → Leads (LeadsIn s c) (plan_for (Copy a u b rights)).names [] ks
    → (f : ℕ) → is_one_of f (named_by k.kind k.frame) ≡ true → is_one_of f (footprint_frames s c (Copy a u b rights)) ≡ true
copy_footprint s c a u b rights ks None k is puts lead f names_it = absurd (cc)
copy_footprint s c a u b rights ks (Some j) k is puts lead f names_it =
    footprint_found s c (Copy a u b rights) ks lead First j is f
    (subst (λ (x : Capability). is_one_of f (named_by x.kind x.frame) ≡ true) (sym (cap_same (kept j rights.0) k puts)) names_it)

pub put_footprint : (s : State) (c : ℕ) (call : Call) (ks : List Capability) (read : Option ℕ) (k : Capability)
    → put_by call ks read ≡ Some k
    → Leads (LeadsIn s c) (plan_for call).names [] ks
    → (f : ℕ) → is_one_of f (named_by k.kind k.frame) ≡ true → is_one_of f (footprint_frames s c call) ≡ true
put_footprint s c (Copy a u b rights) ks read k puts lead f names_it =
    copy_footprint s c a u b rights ks (at_place ks First) k refl puts lead f names_it
put_footprint s c (Grow u i l) ks read k puts lead f names_it = link_footprint s c u i l ks k puts lead f names_it
put_footprint s c (Map p v r g w) ks read k puts lead f names_it = page_footprint s c p v r g w (at_place ks Second) k puts f names_it
put_footprint s c (Gate n u b) ks read k puts lead f names_it = gate_footprint s c n u b ks
    (at_place ks First) read k refl puts lead f names_it
put_footprint s c _ ks read k puts lead f names_it =
    search (part_footprint, none_footprint)
