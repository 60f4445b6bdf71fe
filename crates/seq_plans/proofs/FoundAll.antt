-- All that is found by a plan, one by one.
use Rattle.call_plans.specs as low
use Rattle.seq_state.specs.kernel_rules.proofs.{◌≡◌, ℕ, Bool, true, false, refl, sym, ap, subst, Option, Some, None, IsFalse, is_some}
use Rattle.seq_state.specs.kernel_rules.proofs.{IsSome, IsSomeAnd, true≢false, Capability, comp_of, translation_of, Judged, Refused, Found}
use Rattle.seq_state.specs.kernel_rules.proofs.{and_then, named, vacant, held, mapped}
use low.declared.plans.Nth.TheVariants.{First, Second, Third, Fourth}
use low.declared.plans.Target.TheVariants.{Nowhere, Free, Held, Own}
use Rattle.seq_plans.specs.{declared.walking.Looked.Looked, Walks.before, Resolving.named_by, Resolving.paged_by, Resolving.aimed_by}
use Rattle.{seq_plans.specs.names_in, seq_plans.specs.nothing, seq_plans.specs.resolved, seq_state.specs.kernel_rules.specs.State.State}
use Rattle.{seq_plans.specs.Resolving.from_second, seq_plans.specs.Resolving.from_third, seq_plans.specs.Resolving.from_fourth}
use low.{at_place, want_of, place_of_spot, declared.plans.Name.Name, declared.plans.Target.Target, declared.plans.Plan.Plan}

found_is : {A : Type 0} (x y : A) → Found x ≡ Found y → x ≡ y
found_is x y e = cc

-- What is found after what was found.
parts : {A B : Type 0} (x : Judged A) (f : A → Judged B) (b : B) → and_then x f ≡ Found b → (a : A) × (x ≡ Found a) × (f a ≡ Found b)
parts (Refused r) f b e = absurd (cc)
parts (Found a) f b e = (a, refl, e)

-- A name, if there is one, has led to a capability.
abbrev pub NameIs : State → ℕ → Looked → Option Name → Option Capability → Type 0
NameIs s c l None o = Unit {0}
NameIs s c l (Some name) o = IsSomeAnd o λ k. named s c name.number (want_of (names_in l) name) ≡ Found k

name_is : (s : State) (c : ℕ) (l : Looked) (name : Option Name) (o : Option Capability)
    → named_by s c l name ≡ Found o → NameIs s c l name o
name_is s c l None o e = tt
name_is s c l (Some name) o e =
    let p = parts (named s c name.number (want_of (names_in l) name)) (λ k. Found (Some k)) o e in
    subst (λ (o : Option Capability). IsSomeAnd o λ k. named s c name.number (want_of (names_in l) name) ≡ Found k)
    (found_is (Some p.0) o p.2) p.1

-- The target was found, and what it holds where it is to be held; a page was found mapped, where its translation is not cached.
abbrev pub TargetIs : State → ℕ → Target → Looked → Type 0
TargetIs s c Nowhere l = Unit {0}
TargetIs s c (Free spot) l = IsSome l.at
TargetIs s c (Held spot) l = IsSome l.at × IsSome l.held
TargetIs s c (Own v) l =
    IsFalse (is_some (translation_of (s.core c).cached (comp_of s c).pages v))
    → IsSomeAnd l.held λ k. mapped s c (comp_of s c).pages v ≡ Found k

-- What the names have led to.
abbrev pub heads : Looked → Looked
heads l = record l { at = None; held = None }

target_is : (s : State) (c : ℕ) (target : Target) (l m : Looked) → aimed_by s c target l ≡ Found m
    → (heads l ≡ heads m) × TargetIs s c target m
target_is s c Nowhere l m e = (ap heads (found_is l m e), tt)
target_is s c (Free spot) l m e =
    let p = parts (vacant s c (place_of_spot (names_in l) spot)) (λ at. Found (record l { at = Some at })) m e in
    let q : record l { at = Some p.0 } ≡ m = found_is (record l { at = Some p.0 }) m p.2 in
    (ap heads q, subst (λ (x : Looked). IsSome x.at) q refl)
target_is s c (Held spot) l m e =
    let p = parts (held s c (place_of_spot (names_in l) spot)) (λ p. Found (record l { at = Some p.0; held = Some p.1 })) m e in
    let q : record l { at = Some (p.0).0; held = Some (p.0).1 } ≡ m = found_is (record l { at = Some (p.0).0; held = Some (p.0).1 }) m p.2 in
    (ap heads q, (subst (λ (x : Looked). IsSome x.at) q refl, subst (λ (x : Looked). IsSome x.held) q refl))
target_is s c (Own v) l m e = by_cache (is_some (translation_of (s.core c).cached (comp_of s c).pages v)) e
  where
    by_cache : (b : Bool) → paged_by s c v l b ≡ Found m
        → (heads l ≡ heads m) × (IsFalse b → IsSomeAnd m.held λ k. mapped s c (comp_of s c).pages v ≡ Found k)
    by_cache true e = (ap heads (found_is l m e), λ none. absurd (true≢false none))
    by_cache false e =
        let p = parts (mapped s c (comp_of s c).pages v) (λ k. Found (record l { held = Some k })) m e in
        let q : record l { held = Some p.0 } ≡ m = found_is (record l { held = Some p.0 }) m p.2 in (
          ap heads q,
          λ none. subst (λ (x : Looked). IsSomeAnd x.held λ k. mapped s c (comp_of s c).pages v ≡ Found k) q p.1,
        )

-- All that is found by a plan.
pub record IsFound (s : State) (c : ℕ) (plan : Plan) (l : Looked) : Type 0 where
  pub first : NameIs s c nothing (at_place plan.names First) l.first
  pub second : NameIs s c (before l Second) (at_place plan.names Second) l.second
  pub third : NameIs s c (before l Third) (at_place plan.names Third) l.third
  pub fourth : NameIs s c (before l Fourth) (at_place plan.names Fourth) l.fourth
  pub target : TargetIs s c plan.target l

pub found_all : (s : State) (c : ℕ) (plan : Plan) (l : Looked) → Found l ≡ resolved s c plan → IsFound s c plan l
found_all s c plan l e =
    let p = parts (named_by s c nothing (at_place plan.names First))
    (λ k. from_second s c plan (record nothing { first = k })) l (sym e) in
    let l1 : Looked = record nothing { first = p.0 } in
    let q = parts (named_by s c l1 (at_place plan.names Second)) (λ k. from_third s c plan (record l1 { second = k })) l p.2 in
    let l2 : Looked = record nothing { first = p.0; second = q.0 } in
    let r = parts (named_by s c l2 (at_place plan.names Third)) (λ k. from_fourth s c plan (record l2 { third = k })) l q.2 in
    let l3 : Looked = record nothing { first = p.0; second = q.0; third = r.0 } in
    let t = parts (named_by s c l3 (at_place plan.names Fourth))
    (λ k. aimed_by s c plan.target (record l3 { fourth = k })) l r.2 in
    let l4 : Looked = record nothing { first = p.0; second = q.0; third = r.0; fourth = t.0 } in
    let at = target_is s c plan.target l4 l t.2 in
    record {
      first = subst (λ (x : Looked). NameIs s c nothing (at_place plan.names First) x.first) at.0
          (name_is s c nothing (at_place plan.names First) p.0 p.1);
      second = subst (λ (x : Looked). NameIs s c (before x Second) (at_place plan.names Second) x.second) at.0
          (name_is s c l1 (at_place plan.names Second) q.0 q.1);
      third = subst (λ (x : Looked). NameIs s c (before x Third) (at_place plan.names Third) x.third) at.0
          (name_is s c l2 (at_place plan.names Third) r.0 r.1);
      fourth = subst (λ (x : Looked). NameIs s c (before x Fourth) (at_place plan.names Fourth) x.fourth) at.0
          (name_is s c l3 (at_place plan.names Fourth) t.0 t.1);
      target = at.1;
    }
