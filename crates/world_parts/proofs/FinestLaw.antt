-- The partition that joins what holds each other is the finest into worlds that are apart.
use Rattle.seal_check.specs.world_laws.specs.kernel_laws.proofs.{◌≡◌, inl, inr, ℕ, ◌<◌, ◌==◌, Bool, true, false, not, ◌&&◌, refl}
use Rattle.seal_check.specs.world_laws.specs.kernel_laws.proofs.{sym, ◌∙◌, ap, subst, arith, List, Some, None, if◌then◌else◌}
use Rattle.seal_check.specs.world_laws.specs.kernel_laws.proofs.{false≢true, Setting, Capability, has_rights, Place, Free, Holds}
use Rattle.seal_check.specs.world_laws.specs.kernel_laws.proofs.{Quiescing, CompFields, Comp}
use Rattle.seal_check.specs.world_laws.specs.kernel_laws.proofs.{Frame, Untyped, Kernel, PlaceOf, Limits, State, held_in}
use Rattle.seal_check.specs.world_laws.specs.kernel_laws.proofs.{usable, usable_in, Event, after, is_in, waits_inside, some_inj, none_some}
use Rattle.seal_check.specs.world_laws.specs.kernel_laws.proofs.{limits_stay, inside_is, runs_sound}
use Rattle.world_parts.specs.{sight_of, IsLast, HasField, Reaches, IsHeldBelow, IsParts, Joins, world_in, IsFinest}
use Rattle.seal_check.specs.world_laws.specs.{LeadsTo, gates, IsSealed, AreApart}
use Rattle.std.proofs.lemmas.Bool.{and_parts, cases_lt}
use Rattle.world_parts.specs.{Sight.Sight, Sight.fields_of, Seen.seen, Led.HoldsFrame, Partitions.IsPartition, Partitions.Respects}
use Rattle.world_parts.proofs.{Leads.held_leads, Leads.fields_within, SeenLaw.seen_is}
use Rattle.{spk_nums.specs.Rights.right_to_use, machine_image.specs.Views.ImageOf, seal_check.specs.Holding.holds}
use Rattle.{seal_check.proofs.Reached.held_within, world_parts.specs.Finest.TellsFinest}

not_true : (b : Bool) → not b ≡ true → b ≡ false
not_true true e = absurd (false≢true e)
not_true false e = refl

untyped_comp : (k : CompFields) → Untyped ≡ Kernel (Comp k) → ⊥
untyped_comp k e = cc

-- Where two frames are on one side of a sealed world and of the rest, both are.
sides : (a b : Bool) → (a ≡ false → b ≡ false) → (not a ≡ false → not b ≡ false) → a ≡ b
sides true true x y = refl
sides true false x y = absurd (false≢true (sym (y refl)))
sides false true x y = sym (x refl)
sides false false x y = refl

-- What a frame holds is on its side of each world that is sealed.
module _ (w : ℕ → Bool) (s : State) (h : IsSealed w gates s) (f g : ℕ) (out : w f ≡ false) where
  fields_side : (k : CompFields) → s.frame f ≡ Kernel (Comp k) → HasField (Some (k.table, k.pages)) g → w g ≡ false
  fields_side k is (inl e) = ap w e ∙ (h.comps f k out is).0
  fields_side k is (inr e) = ap w e ∙ (h.comps f k out is).1

  comp_side : (x : Frame) → s.frame f ≡ x → HasField (fields_of x) g → w g ≡ false
  comp_side (Kernel (Comp k)) is field = fields_side k is field
  comp_side _ is never = absurd never

  cap_side : (i : ℕ) (k : Capability) → s.place f i ≡ Holds k → (holds k ≡ true) × LeadsTo k.kind k g → w g ≡ false
  cap_side i k is it =
      let parts : (has_rights k.rights right_to_use ≡ true) × (not (gates k.kind) ≡ true) =
      and_parts (has_rights k.rights right_to_use) (not (gates k.kind)) it.0 in
      h.places f i 0 k out (ap (λ p. usable_in p ((s.grace (PlaceOf f i)).waits 0)) is) parts.0 (not_true (gates k.kind) parts.1) g it.1

  place_side : (i : ℕ) (p : Place) → s.place f i ≡ p → Reaches (held_in p) g → w g ≡ false
  place_side i (Holds k) is it = cap_side i k is it
  place_side i Free is never = absurd never
  place_side i (Quiescing k) is never = absurd never

  frame_side : HoldsFrame (sight_of s) f g → w g ≡ false
  frame_side (inl field) = comp_side (s.frame f) refl field
  frame_side (inr at) = place_side at.0 (s.place f at.0) refl at.2

one_side : (w : ℕ → Bool) (s : State) (n f g : ℕ) → AreApart w gates s → IsHeldBelow (sight_of s) n f g → w f ≡ w g
one_side w s n f g apart h = sides (w f) (w g) (λ out. frame_side w s apart.inside f g out h.1)
    (λ out. frame_side (λ f. not (w f)) s apart.outside f g out h.1)

module _ (setting : Setting) (events : List Event) (m : ImageOf) (last : IsLast setting events m) (old new : ℕ → ℕ)
    (alone : (f : ℕ) → old f ≡ f) (partition : IsPartition new)
    (joined : Joins (IsHeldBelow (sight_of (after setting events)) (after setting events).limits.frames) old new) where
  abbrev s : State
  s = after setting events

  frames_are : s.limits.frames ≡ setting.frames
  frames_are = ap (λ (l : Limits). l.frames) (limits_stay setting events)

  small : (f : ℕ) → f < setting.frames → f < 512
  small f below = let most = last.limits.most_frames in omega (arith, below, most)

  here : (f : ℕ) → f < setting.frames → f < s.limits.frames
  here f = subst (λ n. f < n) (sym frames_are)

  -- No core is in a call, so what a core may use is held.
  no_wait : (f i d : ℕ) → (s.grace (PlaceOf f i)).waits d ≡ true → ⊥
  no_wait f i d e = false≢true (sym (ap is_in (last.out d)) ∙ sym (inside_is setting events last.run d)
      ∙ waits_inside setting events (PlaceOf f i) d e)

  by_wait : (j k : Capability) (b : Bool) → (if b then Some j else None) ≡ Some k → b ≡ true
  by_wait j k true e = refl
  by_wait j k false e = absurd (none_some k e)

  used_held : (f i d : ℕ) (k : Capability) (p : Place) → s.place f i ≡ p → usable_in p ((s.grace (PlaceOf f i)).waits d) ≡ Some k
      → s.place f i ≡ Holds k
  used_held f i d k Free is e = absurd (none_some k e)
  used_held f i d k (Holds j) is e = is ∙ ap Holds (some_inj j k e)
  used_held f i d k (Quiescing j) is e = absurd (no_wait f i d (by_wait j k ((s.grace (PlaceOf f i)).waits d) e))

  -- A place that holds a frame joins its node with it.
  place_joins : (f i d g : ℕ) (k : Capability) → usable s d (record { node = f; index = i }) ≡ Some k
      → has_rights k.rights right_to_use ≡ true → gates k.kind ≡ false → LeadsTo k.kind k g → new f ≡ new g
  place_joins f i d g k e right kind leads =
      let is : s.place f i ≡ Holds k = used_held f i d k (s.place f i) refl e in
      let at : (f < setting.frames) × (i < 64) = held_within setting last.limits events last.run f i k is in
      let held : holds k ≡ true = ap (λ b. b && not (gates k.kind)) right ∙ ap not kind in
      joined.joins f g (here f at.0, inr (i, at.1, subst (λ p. Reaches (held_in p) g) (sym is) (held, leads))) (small f at.0)
      (small g (held_leads setting last.limits events last.run f i k is g leads))

  -- So does a component with its table and its pages.
  fields_join : (f : ℕ) (k : CompFields) → s.frame f ≡ Kernel (Comp k) → (new f ≡ new k.table) × (new f ≡ new k.pages)
  fields_join f k is = elim (cases_lt f s.limits.frames) [
    | inl below ↦
        let within = fields_within setting last.limits events last.run f k is in
        let low : f < 512 = small f (subst (λ n. f < n) frames_are below) in (
          joined.joins f k.table (below, inl (subst (λ x. HasField (fields_of x) k.table) (sym is) (inl refl))) low
              (small k.table within.0),
          joined.joins f k.pages (below, inl (subst (λ x. HasField (fields_of x) k.pages) (sym is) (inr refl))) low
              (small k.pages within.1),
        )
    | inr past ↦ absurd (untyped_comp k (sym ((runs_sound setting last.limits events last.run).beyond f past) ∙ is))
  ]

  -- A union of worlds is sealed.
  union_sealed : (w : ℕ → Bool) → Respects new w → IsSealed w gates s
  union_sealed w respects = record {
    places = λ f i d k out e right kind g leads. sym (respects f g (place_joins f i d g k e right kind leads)) ∙ out;
    comps = λ f k out is.
        let j : (new f ≡ new k.table) × (new f ≡ new k.pages) = fields_join f k is in
        (sym (respects f k.table j.0) ∙ out, sym (respects f k.pages j.1) ∙ out);
  }

  finest_is : IsFinest s new
  finest_is = record {
    partition = partition;
    apart = λ r. record {
      inside = union_sealed (λ f. new f == r) (λ f g e. ap (λ x. x == r) e);
      outside = union_sealed (λ f. not (new f == r)) (λ f g e. ap (λ x. not (x == r)) e);
    };
    finest = λ w apart. joined.only w (λ f g h. one_side w s s.limits.frames f g apart h)
        (λ f g e. ap w (sym (alone f) ∙ e ∙ alone g));
  }

pub tells_finest : (m : ImageOf) (old new : List ℕ) → ((f : ℕ) → world_in old f ≡ f) → IsParts new
    → Joins (IsHeldBelow (seen m) m.shape.frames) (world_in old) (world_in new) → TellsFinest m new
tells_finest m old new alone parts joined setting events last =
    finest_is setting events m last (world_in old) (world_in new) alone parts.partition
    (subst (λ (x : Sight). Joins (IsHeldBelow x x.frames) (world_in old) (world_in new)) (seen_is setting events m last) joined)
