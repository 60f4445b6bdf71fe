-- The count of a leaf that a grow links is in the call's footprint: its second name has led to the leaf. And so is that of a frame that
-- a map
-- maps, its
-- argument.
use Rattle.step_ways.proofs.{◌≡◌, ℕ, Bool, true, false, if◌then◌else◌, List, [], ◌∷◌, Option, Some, None, refl, ◌∙◌, ap, Capability, Kind}
use Rattle.step_ways.proofs.{Grow, State, found, to_use, only, has_frame, named_by, is_one_of, footprint_frames, Second, at_place, plan_for}
use Rattle.step_ways.proofs.{Leads, LeadsIn, page_cap, plain_cap}
use Rattle.plan_ways.specs.kernel_rules.specs.{Map, PageFlags, leaf_of, leaf_for}
use Rattle.plan_ways.proofs.InFootprint.{footprint_found}
use Rattle.step_ways.specs.act_states.specs.Acts.{link_to, page_of}
use Rattle.count_invariant.proofs.MakingCounts.{argument_footprint, named_kind}

-- A leaf names its frame.
no_range : (root : Kind) → only (leaf_of root) Kind.Range ≡ true → ⊥
no_range Kind.Table wanted = cc
no_range root wanted = cc

leaf_names : (root k : Kind) (frame : ℕ) → only (leaf_of root) k ≡ true → named_by k frame ≡ frame ∷ []
leaf_names root Kind.Range frame wanted = absurd (no_range root wanted)
leaf_names root k frame wanted = refl

same_cap : (x y : Capability) → Some x ≡ Some y → x ≡ y
same_cap x y h = cc

pub link_footprint : (s : State) (c u i l : ℕ) (ks : List Capability) (k : Capability) → link_to (at_place ks Second) ≡ Some k
    → Leads (LeadsIn s c) (plan_for (Grow u i l)).names [] ks
    → (f : ℕ) → is_one_of f (named_by k.kind k.frame) ≡ true → is_one_of f (footprint_frames s c (Grow u i l)) ≡ true
link_footprint s c u i l (x ∷ y ∷ ks) k puts lead f names_it =
    footprint_found s c (Grow u i l) (x ∷ y ∷ ks) lead Second y refl f
    (ap (is_one_of f) (leaf_names x.kind y.kind y.frame (named_kind s c l (to_use (leaf_for (found x))) y lead.1.0))
    ∙ ap (λ (q : Capability). is_one_of f (named_by q.kind q.frame)) (same_cap (plain_cap Kind.Link y.frame) k puts) ∙ names_it)
link_footprint s c u i l _ k puts lead f names_it = absurd (cc)

pub page_footprint : (s : State) (c p v r g : ℕ) (w : PageFlags) (range : Option Capability) (k : Capability) → page_of range g w ≡ Some k
    → (f : ℕ) → is_one_of f (named_by k.kind k.frame) ≡ true → is_one_of f (footprint_frames s c (Map p v r g w)) ≡ true
page_footprint s c p v r g w None k puts f names_it = absurd (cc)
page_footprint s c p v r g w (Some range) k puts f names_it = by (has_frame (found range) g) puts
  where
    by : (has : Bool) → (if has then Some (page_cap g w) else None) ≡ Some k → is_one_of f (footprint_frames s c (Map p v r g w)) ≡ true
    by true is = argument_footprint s c (Map p v r g w) f
        (ap (λ (q : Capability). is_one_of f (named_by q.kind q.frame)) (same_cap (page_cap g w) k is) ∙ names_it)
    by false is = absurd (cc)
