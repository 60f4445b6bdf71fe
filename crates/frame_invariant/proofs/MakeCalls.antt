-- A call that makes an object, at its act: what it knows, and what is left of its rule.
use Rattle.place_invariant.specs.step_ways.proofs as low
use low.{◌≡◌, arith, Bool, true, false, Some, None, refl, ℕ, ◌<◌, ◌≢◌, sym, ◌&&◌, [], ◌∷◌, ap, ◌∙◌, subst, IsTrue, not, lt-ltb, false≢true}
use low.{Capability, Setting, IsSetting, Call, frame_of_word, same_same, EntryAt, FrameAt, found, Target, Under, Slot, reached, rule_of}
use low.{change_of, has_frame, not_blank, is_blank, is_node, Found, Change, first_cause, and_then, unless, vacant, outcome, first_of, Blank}
use low.{Kernel, State, Leaf, opened, events_of, sound_of, opened_is, marked_by, mark_in_frame, frame_value, Trace, Open, phase}
use low.{state_after, last_left, target_of, outcome_left, names_after, Leads, NextFree, next_of, rule_after, LeadsIn, own_pages, GoesBy}
use low.{plan_for, Plan, object_made, object_dues, Making, MakingAt, Act, StageFits, HasRoom, Core, ActiveCall, Undecided, limits_of}
use low.{holds_counts, settled_by, settled, keeps, AreDuesApart, phase_at, KnowsUndecided, holds_in, Invariant, holds, held_by}
use low.{if◌then◌else◌, List, Make as make_call, blank_is, is_active, call_is, plain_cap, does, Reply}
use Rattle.place_invariant.specs.core_invariant.specs.{MakesBy, blank_word, Make as make_act, KnowsMaking}
use Rattle.place_invariant.specs.act_states.specs.{object_kind, MakingFits, NamesFit, Nothing as no_value}
use Rattle.place_invariant.specs.kernel_rules.specs.{Make, Fill as fill_edit}
use Rattle.place_invariant.specs.count_invariant.proofs.{plan_leads, goes_by}
use Rattle.place_invariant.proofs.{ObjectMakes.made_by, ObjectMakes.make_rest, ObjectMakes.IsObjectMake, ObjectMakes.object_make}
use Rattle.place_invariant.proofs.{ObjectMakes.HasObjects, ObjectMakes.dues_apart, Outside.none_left_of, Vacancy.in_leaf}
use Rattle.{place_invariant.specs.plan_ways.proofs.Ways.target_is as target_is_of, place_invariant.specs.plan_ways.specs.Laws.IsTargetOf}
use Rattle.{frame_invariant.proofs.NewObjects.names_small}

-- It makes this object in this frame, which the range has to which its first name has led.
pub record IsObjectCall (call : Call) (ks : List Capability) (m : Making) : Type 0 where
  pub what : Make
  pub name : ℕ
  pub root : ℕ
  pub slot : ℕ
  pub range : Capability
  pub rest : List Capability
  pub call_is : call ≡ make_call what name m.frame root slot
  pub found_is : ks ≡ range ∷ rest
  pub object_is : object_made what ks ≡ Some m.object
  pub within : has_frame (found range) m.frame ≡ true

object_call : (call : Call) (ks : List Capability) (m : Making) → MakesBy call ks m → IsObjectCall call ks m
object_call (make_call what r f u b) (range ∷ ks) m is = record {
  what = what;
  name = r;
  root = u;
  slot = b;
  range = range;
  rest = ks;
  call_is = ap (λ (x : ℕ). make_call what r x u b) (sym is.frame);
  found_is = refl;
  object_is = is.object;
  within = ap (has_frame (found range)) is.frame ∙ is.within;
}
object_call (make_call what r f u b) [] m is = absurd is
object_call call ks m is = absurd is

-- It makes it wherever its steps stand.
pub makes_on : (call : Call) (ks : List Capability) (m : Making) (at : MakingAt) → MakesBy call ks m
    → MakesBy call ks (record m { at = at })
makes_on (make_call what r f u b) (range ∷ ks) m at is = record { frame = is.frame; object = is.object; within = is.within }
makes_on (make_call what r f u b) [] m at is = absurd is
makes_on call ks m at is = absurd is

module _ (setup : Setting) (setting : IsSetting setup) (cores : ℕ → Core) (t : Trace) (stands : Invariant setup cores t) (c : ℕ)
    (here : c < setup.cores)
    (a : ActiveCall) (active : (cores c).active ≡ Some a) (m : Making) (stage_is : a.stage ≡ Undecided (Act (make_act m)))
    (has : KnowsUndecided setup t c (cores c).own.table a (Act (make_act m))) where
  abbrev s : State
  s = state_after setup t

  abbrev pub knows : KnowsMaking setup t c a.call (plan_for a.call) a.found setup.cores m
  knows = has.knows.knows

  abbrev slot : Slot
  slot = record { node = m.fill.node; index = m.fill.entry }

  pub is : IsObjectCall a.call a.found m
  is = object_call a.call a.found m knows.makes

  pub opens : phase_at a.call a.stage ≡ Open a.call
  opens = ap (phase_at a.call) stage_is

  pub is_open : phase t c ≡ Open a.call
  is_open = (call_is setup setting cores t stands c here a active).phase ∙ opens

  pub room : (cores c).own.made < (cores c).own.limit
  room = subst (HasRoom (cores c).own.made (cores c).own.limit) stage_is (is_active setup setting cores t stands c here a active).room

  pub fits_in : MakingFits (cores c).own.layout m
  fits_in = subst (StageFits (cores c).own.layout) stage_is (is_active setup setting cores t stands c here a active).stage

  frames_are : (cores c).own.layout.frames ≡ s.limits.frames
  frames_are = ap (λ x. x.frames) (stands.each c here).shape ∙ sym (ap (λ l. l.frames) (limits_of setup t))

  pub below : m.frame < s.limits.frames
  below = subst (λ (n : ℕ). m.frame < n) frames_are fits_in.frame

  -- what its object names is a frame of the largest machine
  pub small_names : NamesFit 512 m.object
  small_names = names_small m.object (cores c).own.layout.frames
      (let most = setting.most_frames in
      let same : (cores c).own.layout.frames ≡ setup.frames = ap (λ x. x.frames) (stands.each c here).shape in
      omega (arith, most, same)) fits_in.object.names

  pub node_below : m.fill.node < s.limits.frames
  node_below = subst (λ (n : ℕ). m.fill.node < n) frames_are fits_in.fill.node

  pub leads : Leads (LeadsIn s c) (plan_for a.call).names [] a.found
  leads = plan_leads setup setting cores t stands c here a active has.names

  pub by_plan : GoesBy (own_pages s c) (plan_for a.call) (rule_of s c a.call)
  by_plan = goes_by setup setting cores t stands c here a active has.names

  plan_call : plan_for a.call ≡ plan_for (make_call is.what is.name m.frame is.root is.slot)
  plan_call = ap plan_for is.call_is

  pub make : IsObjectMake s c is.name m.frame is.root is.slot is.what m.object a.found
  make = object_make s c is.name m.frame is.root is.slot is.what m.object a.found is.object_is
      (subst (λ (p : Plan). Leads (LeadsIn s c) p.names [] a.found) plan_call leads)
      (subst (λ (p : Plan). names_after p.names a.found ≡ []) plan_call
      (none_left_of (plan_for a.call) a.found knows.spot.target knows.spot.next))

  abbrev pub target : Target
  target = Under (found make.two.table) is.slot

  pub target_is : target ≡ knows.spot.target
  target_is = same _ _ (sym make.next ∙ ap (λ p. next_of p a.found) (sym plan_call) ∙ knows.spot.next)
    where
      same : (p q : Target) → NextFree p ≡ NextFree q → p ≡ q
      same p q h = cc

  pub reached_is : reached s c target ≡ Some slot
  reached_is = ap (reached s c) target_is ∙ knows.spot.way.reached

  pub leaf : s.frame m.fill.node ≡ Kernel Leaf
  leaf = in_leaf setup setting t stands.legal c a.call is_open is.root is.slot make.two.table slot make.two.second reached_is

  pub in_node : IsTrue (is_node (s.frame m.fill.node))
  in_node = ap is_node leaf

  pub within : has_frame (found make.two.range) m.frame ≡ true
  within = ap (λ (k : Capability). has_frame (found k) m.frame) (first_same _ _ _ _ (sym make.two.found_is ∙ is.found_is)) ∙ is.within
    where
      first_same : (k j : Capability) (ks js : List Capability) → k ∷ ks ≡ j ∷ js → k ≡ j
      first_same k j ks js h = cc

  pub left : rule_after (rule_of s c a.call) a.found ≡ make_rest s make.two.range m.frame m.object target
  left = ap (λ x. rule_after (rule_of s c x) a.found) is.call_is ∙ make.rule

  pub target_slot : target_of s c (rule_of s c a.call) ≡ Some slot
  target_slot = subst (λ x. IsTargetOf s c x (target_of s c (rule_of s c a.call))) knows.spot.next
      (target_is_of s c (own_pages s c) (plan_for a.call) (rule_of s c a.call) a.found by_plan leads)
      ∙ knows.spot.way.reached

  -- the change that it makes, and what comes of the call where its target is vacant
  abbrev pub change : Change
  change = does c s no_value (made_by m.object m.frame ∷ fill_edit slot (plain_cap (object_kind m.object) m.frame) ∷ [])

  pub by_blank : vacant s c target ≡ Found slot → (blank : Bool) → is_blank (s.frame m.frame) ≡ blank
      → change_of s c a.call ≡ unless (if not blank then Some Reply.FrameKind else None) change
  by_blank free blank at_frame =
      outcome_left s c (own_pages s c) (plan_for a.call) (rule_of s c a.call) a.found by_plan leads ∙ ap (outcome s c) left
      ∙ ap (λ x. and_then x λ at. unless (first_of (if not (has_frame (found make.two.range) m.frame) then Some Reply.OutOfRange else None)
      (first_cause s c (not_blank s m.frame ∷ [])))
      (does c s no_value (made_by m.object m.frame ∷ fill_edit at (plain_cap (object_kind m.object) m.frame) ∷ []))) free
      ∙ ap (λ b. unless (first_of (if not b then Some Reply.OutOfRange else None) (first_cause s c (not_blank s m.frame ∷ []))) change)
      within
      ∙ ap (λ b. unless (first_of (if b && not (is_blank (s.frame m.frame)) then Some Reply.FrameKind else None) None) change)
      (lt-ltb m.frame s.limits.frames below)
      ∙ ap (λ b. unless (first_of (if not b then Some Reply.FrameKind else None) None) change) at_frame
      ∙ last blank
    where
      last : (b : Bool) → unless (first_of (if not b then Some Reply.FrameKind else None) None) change
          ≡ unless (if not b then Some Reply.FrameKind else None) change
      last true = refl
      last false = refl

  -- what its object names has objects, so its counts are of frames that differ
  pub names_objects : HasObjects s m.object
  names_objects = make.names (opened (events_of t)) (sound_of setup setting t stands.legal) (opened_is t c a.call is_open)

  pub counts_apart : s.frame m.frame ≡ Kernel Blank → AreDuesApart (object_dues m.object m.frame)
  counts_apart blank = dues_apart s m.frame m.object blank names_objects

  -- Where the frame is marked for it, as it was found, the frame is blank.
  module _ (word : ℕ) (held : holds_in (Some a) ≡ keeps (FrameAt m.frame) word (holds_counts None a.counts))
      (says : frame_of_word word ≡ Some blank_word) where
    holds_is : holds (cores c) ≡ keeps (FrameAt m.frame) word (holds_counts None a.counts)
    holds_is = ap holds_in active ∙ held

    pub own_mark : marked_by setup t (FrameAt m.frame) ≡ Some c
    own_mark = (stands.marks (FrameAt m.frame) c).kept (ap (λ h. h.marks (FrameAt m.frame)) holds_is
        ∙ ap (λ b. if b then true else (holds_counts None a.counts).marks (FrameAt m.frame)) (same_same (FrameAt m.frame)))

    settled_is : settled setup (held_by cores) t (FrameAt m.frame) ≡ word
    settled_is = ap (λ o. settled_by o (held_by cores) (FrameAt m.frame) (last_left setup t (FrameAt m.frame))) own_mark
        ∙ ap (λ h. h.stands (FrameAt m.frame)) holds_is
        ∙ ap (λ b. if b then word else (holds_counts None a.counts).stands (FrameAt m.frame)) (same_same (FrameAt m.frame))

    pub blank : s.frame m.frame ≡ Kernel Blank
    blank = blank_is (s.frame m.frame)
        (sym (subst (λ (x : ℕ). frame_of_word x ≡ Some (frame_value (s.frame m.frame))) settled_is (stands.words (FrameAt m.frame))) ∙ says)

    pub apart : m.frame ≢ m.fill.node
    apart same = false≢true (sym (ap is_node (sym (ap s.frame same) ∙ blank)) ∙ in_node)

    pub no_mark : (i : ℕ) → marked_by setup t (EntryAt m.frame i) ≡ None
    no_mark i = ap (λ x. mark_in_frame x i (last_left setup t (EntryAt m.frame i))) blank
