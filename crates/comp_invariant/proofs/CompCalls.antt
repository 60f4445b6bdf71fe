-- What a call that makes a component knows of its rule: what is left of it after its names, and what refuses it; and what it knows of the
-- frame and of the number that it has marked.
use Rattle.scan_invariant.specs.step_ways.proofs as low
use low.{◌≡◌, ◌+◌, Bool, true, false, Option, Some, None, ℕ, ◌<◌, ◌≢◌, sym, ◌&&◌, [], ◌∷◌, ap, ◌∙◌, subst, IsTrue, not, inr, lt-ltb}
use low.{false≢true, Capability, Setting, IsSetting, Reply, frame_of_word, live_of_word, EntryAt, FrameAt, LiveAt, found, Target, Under}
use low.{Slot, reached, rule_of, change_of, has_frame, not_blank, is_blank, fits, is_node, Found, Change, first_cause, and_then, unless}
use low.{vacant, outcome, first_of, RuleMay, Blank, Kernel, State, Leaf, NumberOf, named_fit, opened, events_of, sound_of, opened_is}
use low.{marked_by, mark_in_frame, frame_value, stamp, Trace, Open, phase, state_after, last_left, target_of, outcome_left, left_may}
use low.{names_after, Leads, NextFree, next_of, rule_after, LeadsIn, own_pages, GoesBy, plan_for, Plan, comp_due_list, CompMaking, Act}
use low.{StageFits, HasRoom, Core, ActiveCall, Undecided, limits_of, settled_by, settled, AreDuesApart, phase_at, KnowsUndecided, KnowsComp}
use low.{Invariant, holds, held_by, NumberIs, if◌then◌else◌, Make as make_call, does, MakeComp as comp_act, blank_is, is_active, call_is}
use low.{plain_cap, Kind}
use Rattle.state_laws.specs.kernel_rules.specs.{not_taken, OneMay, Component as component_edit, Fill as fill_edit, Nothing as no_value}
use Rattle.scan_invariant.specs.count_invariant.proofs.{plan_leads, goes_by, IsCompCall}
use Rattle.scan_invariant.specs.place_invariant.proofs.{CompMakes.IsCompMake, CompMakes.comp_make, CompMakes.comp_rest, CompMakes.new_comp}
use Rattle.scan_invariant.specs.place_invariant.proofs.{CompMakes.comp_dues_apart, Outside.none_left_of, Vacancy.in_leaf}
use Rattle.{state_laws.specs.kernel_rules.specs.Make, scan_invariant.specs.act_states.specs.Comps.CompMakingFits}
use Rattle.{scan_invariant.specs.plan_ways.proofs.Ways.target_is as target_is_of, scan_invariant.specs.plan_ways.specs.Laws.IsTargetOf}
use Rattle.{scan_invariant.specs.core_invariant.specs.Acting.SaysBlank, scan_invariant.specs.count_invariant.proofs.CompCounts.comp_call}

module _ (setup : Setting) (setting : IsSetting setup) (cores : ℕ → Core) (t : Trace) (stands : Invariant setup cores t) (c : ℕ)
    (here : c < setup.cores)
    (a : ActiveCall) (active : (cores c).active ≡ Some a) (m : CompMaking) (stage_is : a.stage ≡ Undecided (Act (comp_act m)))
    (has : KnowsUndecided setup t c (cores c).own.table a (Act (comp_act m))) where
  abbrev s : State
  s = state_after setup t

  abbrev pub knows : KnowsComp setup t c a.call (plan_for a.call) a.found setup.cores m
  knows = has.knows.knows

  abbrev slot : Slot
  slot = record { node = m.fill.node; index = m.fill.entry }

  pub is : IsCompCall a.call a.found m
  is = comp_call a.call a.found m knows.makes

  pub opens : phase_at a.call a.stage ≡ Open a.call
  opens = ap (phase_at a.call) stage_is

  pub is_open : phase t c ≡ Open a.call
  is_open = (call_is setup setting cores t stands c here a active).phase ∙ opens

  pub room : (cores c).own.made < (cores c).own.limit
  room = subst (HasRoom (cores c).own.made (cores c).own.limit) stage_is (is_active setup setting cores t stands c here a active).room

  pub fits_in : CompMakingFits (cores c).own.layout m
  fits_in = subst (StageFits (cores c).own.layout) stage_is (is_active setup setting cores t stands c here a active).stage

  frames_are : (cores c).own.layout.frames ≡ s.limits.frames
  frames_are = ap (λ x. x.frames) (stands.each c here).shape ∙ sym (ap (λ l. l.frames) (limits_of setup t))

  pub below : m.frame < s.limits.frames
  below = subst (λ (n : ℕ). m.frame < n) frames_are fits_in.frame

  pub table_below : m.table < s.limits.frames
  table_below = subst (λ (n : ℕ). m.table < n) frames_are fits_in.table

  pub pages_below : m.pages < s.limits.frames
  pages_below = subst (λ (n : ℕ). m.pages < n) frames_are fits_in.pages

  pub node_below : m.fill.node < s.limits.frames
  node_below = subst (λ (n : ℕ). m.fill.node < n) frames_are fits_in.fill.node

  pub cores_are : m.cores ≡ setup.cores
  cores_are = fits_in.cores ∙ ap (λ x. x.cores) (stands.each c here).shape

  pub epochs_are : m.epochs ≡ s.limits.epochs
  epochs_are = knows.epochs ∙ sym (ap (λ l. l.epochs) (limits_of setup t))

  pub leads : Leads (LeadsIn s c) (plan_for a.call).names [] a.found
  leads = plan_leads setup setting cores t stands c here a active has.names

  pub by_plan : GoesBy (own_pages s c) (plan_for a.call) (rule_of s c a.call)
  by_plan = goes_by setup setting cores t stands c here a active has.names

  plan_call : plan_for a.call ≡ plan_for (make_call (Make.Comp is.x is.p m.number) is.name m.frame is.root is.slot)
  plan_call = ap plan_for is.call_is

  pub make : IsCompMake s c is.name m.frame is.root is.slot is.x is.p m.number a.found
  make = comp_make s c is.name m.frame is.root is.slot is.x is.p m.number a.found
      (subst (λ (p : Plan). Leads (LeadsIn s c) p.names [] a.found) plan_call leads)
      (subst (λ (p : Plan). names_after p.names a.found ≡ []) plan_call
      (none_left_of (plan_for a.call) a.found knows.spot.target knows.spot.next))

  same_caps : (k j i h : Capability) (k' j' i' h' : Capability) → k ∷ j ∷ i ∷ h ∷ [] ≡ k' ∷ j' ∷ i' ∷ h' ∷ []
      → (k ≡ k') × (i ≡ i') × (h ≡ h')
  same_caps k j i h k' j' i' h' same = (cc, cc, cc)

  caps_are : (make.range ≡ is.range) × (make.table ≡ is.table) × (make.pages ≡ is.pages)
  caps_are = same_caps _ _ _ _ _ _ _ _ (sym make.found_is ∙ is.found_is)

  pub table_is : make.table.frame ≡ m.table
  table_is = ap (λ (k : Capability). k.frame) caps_are.1 ∙ sym is.table_is

  pub pages_is : make.pages.frame ≡ m.pages
  pages_is = ap (λ (k : Capability). k.frame) caps_are.2 ∙ sym is.pages_is

  abbrev pub target : Target
  target = Under (found make.second) is.slot

  pub target_is : target ≡ knows.spot.target
  target_is = same _ _ (sym make.next ∙ ap (λ p. next_of p a.found) (sym plan_call) ∙ knows.spot.next)
    where
      same : (p q : Target) → NextFree p ≡ NextFree q → p ≡ q
      same p q h = cc

  pub reached_is : reached s c target ≡ Some slot
  reached_is = ap (reached s c) target_is ∙ knows.spot.way.reached

  pub leaf : s.frame m.fill.node ≡ Kernel Leaf
  leaf = in_leaf setup setting t stands.legal c a.call is_open is.root is.slot make.second slot make.under reached_is

  pub in_node : IsTrue (is_node (s.frame m.fill.node))
  in_node = ap is_node leaf

  pub within : has_frame (found make.range) m.frame ≡ true
  within = ap (λ (k : Capability). has_frame (found k) m.frame) caps_are.0 ∙ is.within

  pub left : rule_after (rule_of s c a.call) a.found ≡ comp_rest s make.range m.frame m.table m.pages m.number target
  left = ap (λ x. rule_after (rule_of s c x) a.found) is.call_is ∙ make.rule
      ∙ ap (λ (x : ℕ). comp_rest s make.range m.frame x make.pages.frame m.number target) table_is
      ∙ ap (λ (x : ℕ). comp_rest s make.range m.frame m.table x m.number target) pages_is

  pub target_slot : target_of s c (rule_of s c a.call) ≡ Some slot
  target_slot = subst (λ x. IsTargetOf s c x (target_of s c (rule_of s c a.call))) knows.spot.next
      (target_is_of s c (own_pages s c) (plan_for a.call) (rule_of s c a.call) a.found by_plan leads)
      ∙ knows.spot.way.reached

  -- the change that it makes, and what comes of the call where its target is vacant
  abbrev pub change : Change
  change = does c s no_value (component_edit m.frame (new_comp s m.table m.pages m.number) ∷ fill_edit slot (plain_cap Kind.Comp m.frame)
      ∷ [])

  abbrev pub taken : Option Reply
  taken = first_cause s c (not_taken s m.number)

  pub by_blank : vacant s c target ≡ Found slot → (blank : Bool) → is_blank (s.frame m.frame) ≡ blank
      → change_of s c a.call ≡ unless (first_of (if not blank then Some Reply.FrameKind else None) taken) change
  by_blank free blank at_frame =
      outcome_left s c (own_pages s c) (plan_for a.call) (rule_of s c a.call) a.found by_plan leads ∙ ap (outcome s c) left
      ∙ ap (λ x. and_then x λ at. unless (first_of (if not (has_frame (found make.range) m.frame) then Some Reply.OutOfRange else None)
      (first_cause s c (not_blank s m.frame ∷ not_taken s m.number)))
      (does c s no_value (component_edit m.frame (new_comp s m.table m.pages m.number) ∷ fill_edit at (plain_cap Kind.Comp m.frame)
      ∷ []))) free
      ∙ ap (λ b. unless (first_of (if not b then Some Reply.OutOfRange else None)
      (first_cause s c (not_blank s m.frame ∷ not_taken s m.number))) change) within
      ∙ ap (λ b. unless (first_of (if b && not (is_blank (s.frame m.frame)) then Some Reply.FrameKind else None) taken) change)
      (lt-ltb m.frame s.limits.frames below)
      ∙ ap (λ b. unless (first_of (if not b then Some Reply.FrameKind else None) taken) change) at_frame

  pub by_taken : vacant s c target ≡ Found slot → s.frame m.frame ≡ Kernel Blank → (o : Option Reply) → taken ≡ o
      → change_of s c a.call ≡ unless o change
  by_taken free blank o so = by_blank free true (ap is_blank blank) ∙ ap (λ x. unless x change) so

  -- a cause for which its number is not taken may refuse it
  pub may_refuse : (r : Reply) → OneMay s c (not_taken s m.number) r → RuleMay s c (rule_of s c a.call) r
  may_refuse r may = left_may s c (own_pages s c) (plan_for a.call) (rule_of s c a.call) a.found by_plan leads r
      (subst (λ x. RuleMay s c x r) (sym left) (inr (inr (inr may))))

  -- its table and its pages are such
  pub table_fits : IsTrue (fits Kind.Table (s.frame m.table))
  table_fits = subst (λ (x : ℕ). IsTrue (fits Kind.Table (s.frame x))) table_is
      (named_fit s (opened (events_of t)) c is.x Kind.Table make.table (sound_of setup setting t stands.legal)
      (opened_is t c a.call is_open) make.third)

  pub pages_fits : IsTrue (fits Kind.Pages (s.frame m.pages))
  pages_fits = subst (λ (x : ℕ). IsTrue (fits Kind.Pages (s.frame x))) pages_is
      (named_fit s (opened (events_of t)) c is.p Kind.Pages make.pages (sound_of setup setting t stands.legal)
      (opened_is t c a.call is_open) make.fourth)

  pub counts_apart : s.frame m.frame ≡ Kernel Blank → AreDuesApart (comp_due_list m)
  counts_apart blank = comp_dues_apart s m blank table_fits pages_fits

  -- Where the frame is marked for it, as it was found, the frame is blank.
  module _ (word : ℕ) (marks_it : (holds (cores c)).marks (FrameAt m.frame) ≡ true)
      (stands_for : (holds (cores c)).stands (FrameAt m.frame) ≡ word) (says : SaysBlank word) where
    pub own_mark : marked_by setup t (FrameAt m.frame) ≡ Some c
    own_mark = (stands.marks (FrameAt m.frame) c).kept marks_it

    settled_is : settled setup (held_by cores) t (FrameAt m.frame) ≡ word
    settled_is = ap (λ o. settled_by o (held_by cores) (FrameAt m.frame) (last_left setup t (FrameAt m.frame))) own_mark ∙ stands_for

    pub blank : s.frame m.frame ≡ Kernel Blank
    blank = blank_is (s.frame m.frame)
        (sym (subst (λ (x : ℕ). frame_of_word x ≡ Some (frame_value (s.frame m.frame))) settled_is (stands.words (FrameAt m.frame))) ∙ says)

    pub apart : m.frame ≢ m.fill.node
    apart same = false≢true (sym (ap is_node (sym (ap s.frame same) ∙ blank)) ∙ in_node)

    pub no_mark : (i : ℕ) → marked_by setup t (EntryAt m.frame i) ≡ None
    no_mark i = ap (λ x. mark_in_frame x i (last_left setup t (EntryAt m.frame i))) blank

  -- Where the number is marked for it, its word as it was found says what the number is.
  module _ (live : ℕ) (marks_number : (holds (cores c)).marks (LiveAt m.number) ≡ true)
      (stands_number : (holds (cores c)).stands (LiveAt m.number) ≡ live) where
    pub number_mark : marked_by setup t (LiveAt m.number) ≡ Some c
    number_mark = (stands.marks (LiveAt m.number) c).kept marks_number

    pub number_says : NumberIs (s.number m.number) (stamp setup t (NumberOf m.number)) (live_of_word live)
    number_says = subst (λ (x : ℕ). NumberIs (s.number m.number) (stamp setup t (NumberOf m.number)) (live_of_word x))
        (ap (λ o. settled_by o (held_by cores) (LiveAt m.number) (last_left setup t (LiveAt m.number))) number_mark ∙ stands_number)
        (stands.words (LiveAt m.number))
