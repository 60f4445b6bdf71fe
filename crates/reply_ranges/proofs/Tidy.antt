-- In every state that a run reaches, capabilities have numbers and rights in the range of their kind, and cached translations have flags
-- in range.
use Rattle.state_laws.specs.kernel_laws.proofs as low
use low.{◌≡◌, ℕ, ◌<◌, ◌≤◌, ◌^◌, Bool, true, false, List, [], ◌∷◌, ◌++◌, Option, Some, None, IsTrue, sym, ap, subst, arith, ◌==◌}
use low.{ltb as nat_lt, ◌+◌, length, if◌then◌else◌, false≢true, Capability, cap_of, kept, part_of, Setting, IsSetting, InLimits, Kind}
use low.{FrameKind, Call, Retype, Make as make_call, Touch}
use low.{Tick, Translation, Reply, Place, Free, Holds, Quiescing, Comp, Frame, Kernel, Core}
use low.{State, put, comp_in, comp_of, plain_cap, start_cap, place_with, start, entered, returned, Slot, Want}
use low.{Under, found, root_at, place_at, held_in, usable_in, usable, reached, only, Change, Judged, Refused, Found}
use low.{and_then, or_refuse, unless, named, mapped, make_rule, has_frames, touch_by, translation_of, caching}
use low.{rule_of, change_of, changed, counted, owed_by, state_by, fits, IsGood, EndsWithin, Event, Enters, Decides, Returns, after, is_open}
use low.{IsRun, IfFound, put_all, only_is, IsOpen, opened, open_is, open_limits, limits_stay, ChangesFrom, outcome_from, suits, named_fit}
use low.{then_parts, or_found, named_good, name_parts, Shaped, runs_shape, IsFitted, runs_fit, held_is, mapped_page}
use Rattle.state_laws.specs.kernel_rules.specs.{least_rights, Make, to_part, to_use, first_cause, beyond}
use Rattle.state_laws.specs.kernel_invariant.proofs.{within_by, held_facts}
use Rattle.state_laws.specs.kernel_rules.proofs.Rows.{Looks}
use Rattle.state_laws.specs.kernel_invariant.proofs.Facts.{LedBy, HoldsAt, from_left, edits_map}
use Rattle.state_laws.specs.kernel_rules.specs.{Edits.Remove as remove_edit, Edits.Flush as flush_edit, Edits.Switch as switch_edit}
use Rattle.state_laws.specs.kernel_laws.proofs.{Edit, edited, after_edits, Fill, Node, Cache, Charge, Give, Value, Target, held}
use Rattle.state_laws.specs.spk_nums.proofs.KeptRights.{kept_above, kept_below}
use Rattle.{std.specs.List.AllByRecursion}
use Rattle.{state_laws.specs.kernel_rules.specs.Start.start_range, state_laws.specs.kernel_rules.proofs.PartFrames.frames_in}
use low.{Shapes.FrameShape}

-- The number of a capability is in the range of its kind; the frame of a range is below 512.
abbrev pub NumberFits : Kind → ℕ → ℕ → Type 0
NumberFits Kind.Range f a = f ≤ 511
NumberFits Kind.Gate f a = (1 ≤ a) × (a < 2 ^ 16)
NumberFits Kind.Page f a = a < 4
NumberFits _ f a = a < 1

pub record IsCap (k : Capability) : Type 0 where
  pub number : NumberFits k.kind k.frame k.arg
  pub least : least_rights k.kind ≤ k.rights
  pub most : k.rights < 4

-- What a place holds or held is so.
abbrev pub PlaceFits : Place → Type 0
PlaceFits Free = Unit {0}
PlaceFits (Holds k) = IsCap k
PlaceFits (Quiescing k) = IsCap k

-- The flags of translations are in range.
abbrev pub FlagsFit : List Translation → Type 0
FlagsFit ts = AllByRecursion (λ (t : Translation). t.flags.0 < 4) ts

pub record IsTidy (s : State) : Type 0 where
  pub places : (f i : ℕ) → PlaceFits (s.place f i)
  pub flags : (d : ℕ) → FlagsFit (s.core d).cached

placed : (q : ℕ → ℕ → Place) (n i : ℕ) (p : Place) → PlaceFits p → ((f j : ℕ) → PlaceFits (q f j))
    → (f j : ℕ) → PlaceFits (put q n (put (q n) i p) f j)
placed q n i p has h f j =
    put_all (λ g (row : ℕ → Place). PlaceFits (row j)) q n (put (q n) i p) f
    (λ same. put_all (λ g x. PlaceFits x) (q n) i p j (λ here. has) (λ other. h n j)) (λ other. h f j)

core_flags : (core : ℕ → Core) (c : ℕ) (k : Core) → FlagsFit k.cached → ((d : ℕ) → FlagsFit (core d).cached)
    → (d : ℕ) → FlagsFit (put core c k d).cached
core_flags core c k own h d = put_all (λ e (x : Core). FlagsFit x.cached) core c k d (λ same. own) (λ other. h d)

flags_more : (ts : List Translation) (t : Translation) → FlagsFit ts → t.flags.0 < 4 → FlagsFit (ts ++ t ∷ [])
flags_more [] t h new = (new, tt)
flags_more (x ∷ ts) t h new = (h.0, flags_more ts t h.1 new)

flags_cached : (ts : List Translation) (t : Translation) → FlagsFit ts → t.flags.0 < 4 → FlagsFit (caching ts t)
flags_cached ts t h new = by (nat_lt (length ts) 64)
  where
    by : (b : Bool) → FlagsFit (if b then ts ++ t ∷ [] else ts)
    by true = flags_more ts t h new
    by false = h

-- ---- capabilities that are made

plain_table : (f : ℕ) → IsCap (plain_cap Kind.Table f)
plain_table f = record { number = omega arith; least = omega arith; most = omega arith }

plain_leaf : (f : ℕ) → IsCap (plain_cap Kind.Leaf f)
plain_leaf f = record { number = omega arith; least = omega arith; most = omega arith }

plain_pages : (f : ℕ) → IsCap (plain_cap Kind.Pages f)
plain_pages f = record { number = omega arith; least = omega arith; most = omega arith }

plain_pleaf : (f : ℕ) → IsCap (plain_cap Kind.Pleaf f)
plain_pleaf f = record { number = omega arith; least = omega arith; most = omega arith }

plain_comp : (f : ℕ) → IsCap (plain_cap Kind.Comp f)
plain_comp f = record { number = omega arith; least = omega arith; most = omega arith }

plain_thread : (f : ℕ) → IsCap (plain_cap Kind.Thread f)
plain_thread f = record { number = omega arith; least = omega arith; most = omega arith }

plain_tcap : (f : ℕ) → IsCap (plain_cap Kind.Tcap f)
plain_tcap f = record { number = omega arith; least = omega arith; most = omega arith }

plain_link : (f : ℕ) → IsCap (plain_cap Kind.Link f)
plain_link f = record { number = omega arith; least = omega arith; most = omega arith }

page_cap : (f w : ℕ) → w < 4 → IsCap (cap_of Kind.Page f w)
page_cap f w few = record { number = few; least = omega arith; most = omega arith }

gate_cap : (f e : ℕ) → (1 ≤ e) × (e < 2 ^ 16) → IsCap (cap_of Kind.Gate f e)
gate_cap f e few = record { number = few; least = omega arith; most = omega arith }

kept_cap : (k : Capability) (these : ℕ) → IsCap k → IsCap (kept k these)
kept_cap k these h = record {
  number = h.number;
  least = kept_above k.kind k.rights these h.least;
  most = kept_below k.kind k.rights these h.most;
}

-- The epoch of a component is in range.
epoch_fits : (epochs : ℕ) (x : Frame) → epochs < 2 ^ 16 → FrameShape epochs x → IsTrue (fits Kind.Comp x)
    → (1 ≤ (comp_in x).epoch) × ((comp_in x).epoch < 2 ^ 16)
epoch_fits epochs (Kernel (Comp k)) small shape fit =
    let most : k.epoch ≤ epochs = shape.epoch.most in
    (shape.epoch.least, omega arith)
epoch_fits epochs _ small shape fit = absurd (false≢true fit)

pub usable_cap : (s : State) (c : ℕ) (at : Slot) (k : Capability) → IsTidy s → usable s c at ≡ Some k → IsCap k
usable_cap s c at k h is = by (place_at s at) _ (h.places at.node at.index) is
  where
    by : (p : Place) (b : Bool) → PlaceFits p → usable_in p b ≡ Some k → IsCap k
    by Free b has is = absurd (cc)
    by (Holds j) b has is = let same : j ≡ k = cc in subst IsCap same has
    by (Quiescing j) true has is = let same : j ≡ k = cc in subst IsCap same has
    by (Quiescing j) false has is = absurd (cc)

-- Where a mapping is found.
pub mapped_at : (s : State) (c pages v : ℕ) (k : Capability) → mapped s c pages v ≡ Found k
    → (at : Slot) × (held_in (place_at s at) ≡ Some k)
mapped_at s c pages v k e =
    let a = then_parts (unless (if nat_lt 4095 v then Some Reply.NoSlot else None) v)
    (λ v. and_then (or_refuse (reached s c (Under (root_at pages) v)) Reply.Fault)
    λ at. or_refuse (held_in (place_at s at)) Reply.Fault) k e in
    let b = then_parts (or_refuse (reached s c (Under (root_at pages) a.0)) Reply.Fault)
    (λ at. or_refuse (held_in (place_at s at)) Reply.Fault) k a.2 in
    (b.0, or_found (held_in (place_at s b.0)) Reply.Fault k b.2)

-- ---- every call that is carried out

abbrev Keeps : Change → Type 0
Keeps change = IsTidy change.next

-- What edits put, cache or remove is so.
abbrev AreTidy : List Edit → Type 0
AreTidy [] = Unit {0}
AreTidy (Fill at k ∷ es) = IsCap k × AreTidy es
AreTidy (remove_edit at k ∷ es) = IsCap k × AreTidy es
AreTidy (Cache t ∷ es) = (t.flags.0 < 4) × AreTidy es
AreTidy (_ ∷ es) = AreTidy es

cleared : (s : State) → IsTidy s → (f g i : ℕ) → PlaceFits (put s.place f (λ j. Free) g i)
cleared s h f g i =
    put_all (λ g (row : ℕ → Place). PlaceFits (row i)) s.place f (λ j. Free) g (λ same. tt) (λ other. h.places g i)

edit_tidy : (s : State) (c : ℕ) (e : Edit) → AreTidy (e ∷ []) → IsTidy s → IsTidy (edited c s e)
edit_tidy s c (Fill at k) are h = record { places = placed s.place at.node at.index (Holds k) are.0 h.places; flags = h.flags }
edit_tidy s c (remove_edit at k) are h =
    record { places = placed s.place at.node at.index (Quiescing k) are.0 h.places; flags = h.flags }
edit_tidy s c (Node f object) are h = record { places = cleared s h f; flags = h.flags }
edit_tidy s c (Cache t) are h =
    record { places = h.places; flags = core_flags s.core c _ (flags_cached (s.core c).cached t (h.flags c) are.0) h.flags }
edit_tidy s c flush_edit are h = record { places = h.places; flags = core_flags s.core c _ tt h.flags }
edit_tidy s c (switch_edit f q) are h = record { places = h.places; flags = core_flags s.core c _ (h.flags c) h.flags }
edit_tidy s c (Charge n) are h = record { places = h.places; flags = core_flags s.core c _ (h.flags c) h.flags }
edit_tidy s c (Give f m) are h = record { places = h.places; flags = core_flags s.core c _ (h.flags c) h.flags }
edit_tidy s c _ are h = record { places = h.places; flags = h.flags }

tidy_parts : (e : Edit) (es : List Edit) → AreTidy (e ∷ es) → AreTidy (e ∷ []) × AreTidy es
tidy_parts (Fill at k) es are = ((are.0, tt), are.1)
tidy_parts (remove_edit at k) es are = ((are.0, tt), are.1)
tidy_parts (Cache t) es are = ((are.0, tt), are.1)
tidy_parts _ es are = (tt, are)

edits_tidy : (s : State) (c : ℕ) (es : List Edit) → AreTidy es → IsTidy s → IsTidy (after_edits c s es)
edits_tidy s c [] are h = h
edits_tidy s c (e ∷ es) are h =
    let p = tidy_parts e es are in
    edits_tidy (edited c s e) c es p.1 (edit_tidy s c e p.0 h)

module _ (s : State) (o : ℕ → Bool) (c : ℕ) (opens : IsOpen s o c) (w : IsFitted s o) (shape : Shaped s) (epochs : s.limits.epochs < 2 ^ 16)
    (frames : s.limits.frames ≤ 512) (h : IsTidy s) where
  pub named_cap : (n : ℕ) (want : Want) (k : Capability) → named s c n want ≡ Found k → IsCap k
  named_cap n want k e =
      let p = name_parts s c n want k e in
      subst IsCap (suits want p.2 k p.4).is (usable_cap s c p.0 p.2 h p.3)

  pub held_cap : (f i : ℕ) (k : Capability) → s.place f i ≡ Holds k → IsCap k
  held_cap f i k is = subst PlaceFits is (h.places f i)

  -- A part of a range begins at a frame of the machine.
  part_cap : (k : Capability) (f n : ℕ) → IsCap k → IsGood s k × IsTrue (only Kind.Range k.kind) → has_frames (found k) f n ≡ true
      → IsCap (part_of k f n)
  part_cap k f n cap good has =
      let ends : EndsWithin Kind.Range k.frame k.arg s.limits.frames =
      subst (λ j. EndsWithin j k.frame k.arg s.limits.frames) (only_is Kind.Range k.kind good.1) good.0.within in
      let p = frames_in (found k) f n has in
      let some = p.some in
      let last = p.last in
      record { number = omega (arith, ends, frames); least = omega arith; most = cap.most }

  -- By the value and the edits.
  abbrev TidyBy : Value → List Edit → Type 0
  TidyBy v es = AreTidy es

  make_tidy : (what : Make) (r f t b : ℕ) (g : Looks) → HoldsAt TidyBy (make_rule s what r f t b) g
  make_tidy Make.Table r f t b g = (plain_table f, tt)
  make_tidy Make.Leaf r f t b g = (plain_leaf f, tt)
  make_tidy Make.Pages r f t b g = (plain_pages f, tt)
  make_tidy Make.Pleaf r f t b g = (plain_pleaf f, tt)
  make_tidy (Make.Thread comp) r f t b g = (plain_thread f, tt)
  make_tidy (Make.Tcap sched quality) r f t b g = (plain_tcap f, tt)
  make_tidy (Make.Comp x p l) r f t b g = (plain_comp f, tt)

  -- what is removed was held
  removed : (target : Target) (at : Slot) (k : Capability) → held s c target ≡ Found (at, k) → IsCap k
  removed target at k e = held_cap at.node at.index k (held_facts s c target at k e).1

  -- what is kept of a capability that a name leads to, a part of one, and the gate of one
  kept_named : (n : ℕ) (want : Want) (k : Capability) (these : ℕ) → named s c n want ≡ Found k → IsCap (kept k these)
  kept_named n want k these e = kept_cap k these (named_cap n want k e)

  part_named : (r f n : ℕ) (k : Capability) → named s c r (to_part (only Kind.Range)) ≡ Found k
      → first_cause s c (beyond (found k) f n ∷ []) ≡ None → IsCap (part_of k f n)
  part_named r f n k e calm = part_cap k f n (named_cap r (to_part (only Kind.Range)) k e)
      (named_good s o c r (to_part (only Kind.Range)) k opens.sound opens.is e) (within_by s c k f n calm)

  gate_named : (n : ℕ) (k : Capability) → named s c n (to_use (only Kind.Comp)) ≡ Found k
      → IsCap (cap_of Kind.Gate k.frame (comp_in (s.frame k.frame)).epoch)
  gate_named n k e = gate_cap k.frame (comp_in (s.frame k.frame)).epoch
      (epoch_fits s.limits.epochs (s.frame k.frame) epochs (shape.frames k.frame) (named_fit s o c n Kind.Comp k opens.sound opens.is e))

  -- the flags of a mapping
  page_flags : (k : Kind) (f a : ℕ) → k ≡ Kind.Page → NumberFits k f a → a < 4
  page_flags k f a is fits = subst (λ (j : Kind). NumberFits j f a) is fits

  touch_tidy : (v : ℕ) (t : Option Translation) (g : Looks) → LedBy s c (touch_by (comp_of s c).pages v t) g
      → HoldsAt TidyBy (touch_by (comp_of s c).pages v t) g
  touch_tidy v None g led =
      let mapping : Capability = g.held 0 in
      let at = mapped_at s c (comp_of s c).pages v mapping led.0 in
      let cap : IsCap mapping = held_cap at.0.node at.0.index mapping (held_is s o c opens w (place_at s at.0) mapping at.1) in
      (page_flags mapping.kind mapping.frame mapping.arg (mapped_page s o c opens w v mapping led.0) cap.number, tt)
  touch_tidy v (Some t) g led = tt

  row_tidy : (call : Call) → InLimits call → (g : Looks) → LedBy s c (rule_of s c call) g → HoldsAt TidyBy (rule_of s c call) g
  row_tidy (Retype r f FrameKind.Untyped) lim g led = tt
  row_tidy (make_call what r f t b) lim g led = make_tidy what r f t b g
  row_tidy (Touch v) lim g led = touch_tidy v (translation_of (s.core c).cached (comp_of s c).pages v) g led
  row_tidy _ lim g led = search (kept_named, part_named, gate_named, removed, plain_link, page_cap)

  rule_tidy : (call : Call) → InLimits call → ChangesFrom Keeps s c (rule_of s c call)
  rule_tidy call lim = edits_map TidyBy (λ v es. IsTidy (after_edits c s es)) s c (rule_of s c call) (λ v es are. edits_tidy s c es are h)
      (from_left TidyBy s c (rule_of s c call) (row_tidy call lim))

  counted_tidy : (t : State) → IsTidy t → IsTidy (counted t c)
  counted_tidy t h = record { places = h.places; flags = core_flags t.core c _ (h.flags c) h.flags }

  change_tidy : (x : Judged Change) → IfFound x Keeps → IsTidy (changed s x)
  change_tidy (Refused r) by = h
  change_tidy (Found change) by = record { places = by.places; flags = by.flags }

  owed_tidy : (call : Call) → IsTidy (owed_by s c call)
  owed_tidy (Tick n) = record { places = h.places; flags = core_flags s.core c _ (h.flags c) h.flags }
  owed_tidy _ = h

  pub decided_tidy : (call : Call) (r : Reply) → InLimits call → IsTidy (state_by s c call r)
  decided_tidy call (Reply.Ok v) lim =
      counted_tidy (changed s (change_of s c call))
      (change_tidy (change_of s c call) (outcome_from Keeps s c (rule_of s c call) (rule_tidy call lim)))
  decided_tidy call Reply.CallsSpent lim = h
  decided_tidy call Reply.Raced lim = counted_tidy (owed_by s c call) (owed_tidy call)
  decided_tidy call (Reply.Busy e) lim = counted_tidy (owed_by s c call) (owed_tidy call)
  decided_tidy call _ lim = counted_tidy s h

-- ---- the start

choose : {A : Type 0} (P : A → Type 0) (b : Bool) (x y : A) → P x → P y → P (if b then x else y)
choose P true x y hx hy = hx
choose P false x y hx hy = hy

abbrev MayFit : Option Capability → Type 0
MayFit None = Unit {0}
MayFit (Some k) = IsCap k

start_tidy : (setting : Setting) → IsSetting setting → IsTidy (start setting)
start_tidy setting lim = record { places = places; flags = λ d. tt }
  where
    with_cap : (o : Option Capability) → MayFit o → PlaceFits (place_with o)
    with_cap None h = tt
    with_cap (Some k) h = h

    range : IsCap (start_range setting)
    range =
        let few : setting.cores ≤ 8 = lim.most_cores in
        record { number = omega arith; least = omega arith; most = omega arith }

    caps : (i : ℕ) → MayFit (start_cap setting i)
    caps i =
        choose MayFit (i == 0) _ _ range
        (choose MayFit (i == 1) _ _ (plain_table 0)
        (choose MayFit (i == 2) _ _ (plain_pages 2)
        (choose MayFit (i == 3) _ _ (plain_comp 3)
        (choose MayFit (nat_lt i 4) _ _ tt
        (choose MayFit (nat_lt i (4 + setting.cores)) _ _ (plain_thread i)
        (choose MayFit (nat_lt i 12) _ _ tt
        (choose MayFit (nat_lt i (12 + setting.cores)) _ _ (plain_tcap _) tt)))))))

    places : (f i : ℕ) → PlaceFits ((start setting).place f i)
    places f i =
        choose PlaceFits (f == 0) _ _ (choose PlaceFits (i == 0) _ _ (plain_link 1) tt)
        (choose PlaceFits (f == 1) _ _ (with_cap (start_cap setting i) (caps i)) tt)

entered_tidy : (s : State) (c : ℕ) → IsTidy s → IsTidy (entered s c)
entered_tidy s c h = record { places = h.places; flags = core_flags s.core c _ (h.flags c) h.flags }

returned_tidy : (s : State) (c : ℕ) → IsTidy s → IsTidy (returned s c)
returned_tidy s c h = record { places = h.places; flags = core_flags s.core c _ (h.flags c) h.flags }

pub runs_tidy : (setting : Setting) → IsSetting setting → (events : List Event) → IsRun setting events → IsTidy (after setting events)
runs_tidy setting lim [] run = start_tidy setting lim
runs_tidy setting lim (Enters c call ∷ events) run = entered_tidy (after setting events) c (runs_tidy setting lim events run.0)
runs_tidy setting lim (Returns c ∷ events) run = returned_tidy (after setting events) c (runs_tidy setting lim events run.0)
runs_tidy setting lim (Decides c call r ∷ events) run =
    decided_tidy (after setting events) (opened events) c (open_is setting lim events c run.0 (ap is_open run.1.is_open))
    (runs_fit setting lim events run.0) (runs_shape setting lim events run.0)
    (subst (λ l. l.epochs < 2 ^ 16) (sym (limits_stay setting events)) lim.most_epochs)
    (subst (λ l. l.frames ≤ 512) (sym (limits_stay setting events)) lim.most_frames) (runs_tidy setting lim events run.0) call r
    (open_limits setting events c call run.0 run.1.is_open)
