-- The steps that type an untyped frame are good: the load of its word, and the compare, which is lost to another core or makes the
-- frame a user frame or a blank kernel frame.
use Rattle.place_invariant.specs.step_ways.proofs as low
use low.{Want, IsSome, ◌≡◌, ◌≢◌, inl, inr, ℕ, ◌||◌, map, ◌++◌, ◌+◌, ◌^◌, ◌<◌, ◌≤◌, ◌==◌, ◌&&◌, not, Bool, true, false, List, [], ◌∷◌}
use low.{Option, Some, None, arith, refl, sym, ◌∙◌, ap, subst, IsTrue, if◌then◌else◌, eqb-true, eqb-false, eq-eqb, lt-ltb, false≢true}
use low.{Capability, Setting, IsSetting, left_if, FrameKind, Call, Retype, FrameFits, word_of_frame, frame_of_word, FrameWord, Word}
use low.{EntryAt, FrameAt, CountAt, CoreAt, FlushAt, LiveAt, ClockAt, Move, LoadOf, CompareOf, word_of, left_of, told_of, Place, PlaceOf}
use low.{NumberOf, Frame, Untyped, User, Kernel, Blank, Thing, State, put, with_frame, thread_in, comp_in, refs, frame_names, times, Slot}
use low.{found, own, Change, Cause, Found, Does, RuleMay, outcome, unless, first_of, IsFoundAnd, has_frame, is_frame, outside, is_untyped}
use low.{rule_of, ends_by, flushes_by, change_of, changed, counted, MayReply, calls_counted, frame_refs, put_same, put_other, frame_value}
use low.{mark_of, mark_in_frame, frame_mark, marked_by, Step, Trace, Open, phase, state_after, last_left, state_decided_in, own_left}
use low.{ok_first, ends_in, flushes_in, stamp, changes_frames, is_one_of, frames_named, frame_at_slot, frame_argument, footprint_frames}
use low.{HasReached, way_to, ways, target_of, own_read-here, decided-inside, GoesBy, own_pages, rule_after, Leads, LeadsIn, leads_by}
use low.{outcome_left, left_may, Acquired, Act, Goes, refuse, Undecided, Decided, ActiveCall, StageFits, HasRoom, landed, Core}
use low.{holds_counts, settled_by, settled, IsFrameWord, WordIs, HasFound, own_in, due_of, KnowsUndecided, WorksIn, phase_at, untypes}
use low.{holds_at, holds_in, holds, held_by, times_of, counted_in, Invariant, counts, calm_counted, counted_rises, IsUntimed, plain_begins}
use low.{plain_stamp, plain_flush, plain_exit, names_on, own_kept, counted_refs, limits_of, sums_keep, SameFor, ReadsAlike, StaysSaid}
use low.{word_stays, others_settled, begins_in as begins_then, TypingAt, Compare as type_compare, Nothing as no_tail, spares_other}
use low.{IsOfCall, OnlyLooks, step_to, next_at, core_in_call, inner, call_is, is_active, loads_on, GoodTook, ticks_at, not_spent}
use low.{refuses_raced, refuses_busy, same_marks, does, plan_for, Reply, Refusal}
use Rattle.place_invariant.specs.act_states.specs.{begins_in, Nothing, typed, typing_at, meets_frame, meets_word, typed_if, took_typing_at}
use Rattle.place_invariant.specs.count_invariant.proofs.{own_is, found_named, way_gone, plan_leads, goes_by}
use Rattle.place_invariant.specs.kernel_rules.specs.{retypes, not_untyped, not_retyped, Become as become_edit}
use Rattle.place_invariant.specs.core_invariant.specs.{Typing, Retype as type_act, TypesBy}
use Rattle.place_invariant.specs.plan_ways.proofs.{one_right, footprint_about}
use Rattle.std.proofs.{lemmas.List.Elements.All-nil, lemmas.Bool.cases_eq}
use Rattle.place_invariant.specs.act_states.specs.{declared.typings.TypingAt.TheVariants.Load, Typings.meets_kind}
use low.{Refusals.refuses_frame_kind, Writes.writes_on}
use Rattle.{place_invariant.specs.kernel_history.specs.Discipline.looks_at_frames}
use Rattle.{place_invariant.specs.frame_words.proofs.FrameLemmas.spelling, place_invariant.specs.plan_ways.proofs.Ways.all_ways}
use Rattle.{place_invariant.specs.core_invariant.specs.Acting.HasMet, place_invariant.specs.kept_facts.proofs.Calm.own_works}

-- What a frame becomes, and what its word then says.
abbrev pub typed_frame : FrameKind → Frame
typed_frame FrameKind.Untyped = Untyped
typed_frame FrameKind.User = User
typed_frame FrameKind.Kernel = Kernel Blank

typed_value : (k : FrameKind) → frame_value (typed_frame k) ≡ typed k
typed_value FrameKind.Untyped = refl
typed_value FrameKind.User = refl
typed_value FrameKind.Kernel = refl

typed_fits : (k : FrameKind) → FrameFits (typed k)
typed_fits FrameKind.Untyped = (tt, omega arith)
typed_fits FrameKind.User = (tt, omega arith)
typed_fits FrameKind.Kernel = (tt, omega arith)

-- It names no frame, has no thread and no component, and its words say nothing and carry no mark.
typed_names : (k : FrameKind) → frame_names (typed_frame k) ≡ []
typed_names FrameKind.Untyped = refl
typed_names FrameKind.User = refl
typed_names FrameKind.Kernel = refl

typed_thread : (k : FrameKind) → thread_in (typed_frame k) ≡ thread_in Untyped
typed_thread FrameKind.Untyped = refl
typed_thread FrameKind.User = refl
typed_thread FrameKind.Kernel = refl

typed_comp : (k : FrameKind) → comp_in (typed_frame k) ≡ comp_in Untyped
typed_comp FrameKind.Untyped = refl
typed_comp FrameKind.User = refl
typed_comp FrameKind.Kernel = refl

typed_says : (k : FrameKind) (n : ℕ) (p : Place) (r i x : ℕ) → IsFrameWord n (typed_frame k) p r i x
typed_says FrameKind.Untyped n p r i x = tt
typed_says FrameKind.User n p r i x = tt
typed_says FrameKind.Kernel n p r i x = tt

typed_mark : (k : FrameKind) (i x : ℕ) → mark_in_frame (typed_frame k) i x ≡ None
typed_mark FrameKind.Untyped i x = refl
typed_mark FrameKind.User i x = refl
typed_mark FrameKind.Kernel i x = refl

-- A frame is untyped exactly where its word says so.
untyped_is : (x : Frame) → (frame_value x).kind ≡ FrameKind.Untyped → x ≡ Untyped
untyped_is Untyped is = refl
untyped_is User is = absurd (cc)
untyped_is (Kernel object) is = absurd (cc)

typed_is : (x : Frame) (k : FrameKind) → (frame_value x).kind ≡ k → (k ≡ FrameKind.Untyped → ⊥) → is_untyped x ≡ false
typed_is Untyped k is other = absurd (other (sym is))
typed_is User k is other = refl
typed_is (Kernel object) k is other = refl

-- The rule of such a retype, after its name.
typing_causes : (s : State) (f : ℕ) (k : FrameKind) → k ≢ FrameKind.Untyped → not_retyped s f k ≡ not_untyped s f ∷ []
typing_causes s f FrameKind.Untyped typing = absurd (typing refl)
typing_causes s f FrameKind.User typing = refl
typing_causes s f FrameKind.Kernel typing = refl

typing_change : (f : ℕ) (k : FrameKind) → k ≢ FrameKind.Untyped → retypes f k ≡ become_edit f (typed_frame k)
typing_change f FrameKind.Untyped typing = absurd (typing refl)
typing_change f FrameKind.User typing = refl
typing_change f FrameKind.Kernel typing = refl

typing_ends : (r f : ℕ) (k : FrameKind) → k ≢ FrameKind.Untyped → (x : Thing) → ends_by (Retype r f k) x ≡ false
typing_ends r f FrameKind.Untyped typing x = absurd (typing refl)
typing_ends r f FrameKind.User typing x = refl
typing_ends r f FrameKind.Kernel typing x = refl

typing_types : (r f : ℕ) (k : FrameKind) → k ≢ FrameKind.Untyped → untypes (Retype r f k) ≡ false
typing_types r f FrameKind.Untyped typing = absurd (typing refl)
typing_types r f FrameKind.User typing = refl
typing_types r f FrameKind.Kernel typing = refl

-- The call that types a frame.
pub record IsRetype (call : Call) (ks : List Capability) (f : ℕ) (k : FrameKind) : Type 0 where
  pub name : ℕ
  pub range : Capability
  pub call_is : call ≡ Retype name f k
  pub found_is : ks ≡ range ∷ []
  pub within : has_frame (found range) f ≡ true
  pub types : k ≢ FrameKind.Untyped

retype_of : (call : Call) (ks : List Capability) (f : ℕ) (k : FrameKind) (at : TypingAt)
    → TypesBy call ks (record { frame = f; kind = k; at = at }) → IsRetype call ks f k
retype_of (Retype r g j) (range ∷ []) f k at is = record {
  name = r;
  range = range;
  call_is = ap (λ (x : ℕ). Retype r x j) (sym is.frame) ∙ ap (Retype r f) (sym is.kind);
  found_is = refl;
  within = ap (has_frame (found range)) is.frame ∙ is.within;
  types = is.types;
}
retype_of (Retype r g j) [] f k at is = absurd is
retype_of (Retype r g j) (range ∷ q ∷ ks) f k at is = absurd is
retype_of call ks f k at is = absurd is

-- The frame that a retype names is in its footprint.
retype_footprint : (s : State) (c r f : ℕ) (k : FrameKind) → is_one_of f (footprint_frames s c (Retype r f k)) ≡ true
retype_footprint s c r f k = footprint_about s c (Retype r f k) f
    (one_right f (frames_named s c (rule_of s c (Retype r f k)))
    (frame_at_slot s (target_of s c (rule_of s c (Retype r f k))) ++ frame_argument (Retype r f k))
    (one_right f (frame_at_slot s (target_of s c (rule_of s c (Retype r f k)))) (frame_argument (Retype r f k))
    (ap (λ b. b || false) (eq-eqb f f refl))))

module _ (setup : Setting) (setting : IsSetting setup) (cores : ℕ → Core) (t : Trace) (stands : Invariant setup cores t) (c : ℕ)
    (here : c < setup.cores)
    (a : ActiveCall) (active : (cores c).active ≡ Some a) (f : ℕ) (k : FrameKind) (at : TypingAt)
    (stage_is : a.stage ≡ Undecided (Act (type_act (record { frame = f; kind = k; at = at }))))
    (has : KnowsUndecided setup t c (cores c).own.table a (Act (type_act (record { frame = f; kind = k; at = at })))) where
  abbrev s : State
  s = state_after setup t

  abbrev typing : Typing
  typing = record { frame = f; kind = k; at = at }

  abbrev was : ℕ
  was = last_left setup t (FrameAt f)

  is : IsRetype a.call a.found f k
  is = retype_of a.call a.found f k at has.knows.knows.types

  types : k ≢ FrameKind.Untyped
  types = is.types

  opens : phase_at a.call a.stage ≡ Open a.call
  opens = ap (phase_at a.call) stage_is

  held_is : holds_in (Some a) ≡ holds_counts None a.counts
  held_is = ap (λ s. holds_at s a.counts) stage_is

  room : (cores c).own.made < (cores c).own.limit
  room = subst (HasRoom (cores c).own.made (cores c).own.limit) stage_is (is_active setup setting cores t stands c here a active).room

  is_open : phase t c ≡ Open a.call
  is_open = (call_is setup setting cores t stands c here a active).phase ∙ opens

  leads : Leads (LeadsIn s c) (plan_for a.call).names [] a.found
  leads = plan_leads setup setting cores t stands c here a active has.names

  by_plan : GoesBy (own_pages s c) (plan_for a.call) (rule_of s c a.call)
  by_plan = goes_by setup setting cores t stands c here a active has.names

  below : f < s.limits.frames
  below = subst (λ (n : ℕ). f < n) (ap (λ x. x.frames) (stands.each c here).shape ∙ sym (ap (λ l. l.frames) (limits_of setup t)))
      (subst (StageFits (cores c).own.layout) stage_is (is_active setup setting cores t stands c here a active).stage)

  -- no count is acquired
  no_counts : a.counts ≡ []
  no_counts = none_of a.counts has.knows.all
    where
      none_of : (xs : List Acquired) → [] ≡ map due_of xs → xs ≡ []
      none_of [] h = refl
      none_of (x ∷ xs) h = absurd (cc)

  bare : (fate : Option (Option ℕ)) (w : Word) → (holds_counts fate a.counts).marks w ≡ false
  bare fate w = ap (λ (xs : List Acquired). (holds_counts fate xs).marks w) no_counts

  -- what is left of the rule
  abbrev causes : List Cause
  causes = outside (found is.range) f ∷ not_untyped s f ∷ []

  abbrev change : Change
  change = does c s Nothing (become_edit f (typed_frame k) ∷ [])

  left : rule_after (rule_of s c a.call) a.found ≡ Does causes Nothing (become_edit f (typed_frame k) ∷ [])
  left =
      ap (λ x. rule_after (rule_of s c x) a.found) is.call_is ∙ ap (rule_after (rule_of s c (Retype is.name f k))) is.found_is
      ∙ ap (λ x. Does (outside (found is.range) f ∷ x) Nothing (retypes f k ∷ [])) (typing_causes s f k types)
      ∙ ap (λ e. Does causes Nothing (e ∷ [])) (typing_change f k types)

  outcome_is : change_of s c a.call ≡ outcome s c (Does causes Nothing (become_edit f (typed_frame k) ∷ []))
  outcome_is = outcome_left s c (own_pages s c) (plan_for a.call) (rule_of s c a.call) a.found by_plan leads ∙ ap (outcome s c) left

  -- the range has the frame, so only what the frame is may refuse it
  by_frame : (untyped : Bool) → is_untyped (s.frame f) ≡ untyped
      → change_of s c a.call ≡ unless (if not untyped then Some Reply.FrameKind else None) change
  by_frame untyped at_frame =
      outcome_is
      ∙ ap (λ b. unless (first_of (if not b then Some Reply.OutOfRange else None)
      (first_of (if is_frame s f && not (is_untyped (s.frame f)) then Some Reply.FrameKind else None) None)) change) is.within
      ∙ ap (λ b. unless (first_of (if b && not (is_untyped (s.frame f)) then Some Reply.FrameKind else None) None) change)
      (lt-ltb f s.limits.frames below)
      ∙ ap (λ b. unless (first_of (if not b then Some Reply.FrameKind else None) None) change) at_frame
      ∙ last untyped
    where
      last : (b : Bool) → unless (first_of (if not b then Some Reply.FrameKind else None) None) change
          ≡ unless (if not b then Some Reply.FrameKind else None) change
      last true = refl
      last false = refl

  -- what the frame's word shows, where no core has marked it
  frame_says : marked_by setup t (FrameAt f) ≡ None → frame_of_word was ≡ Some (frame_value (s.frame f))
  frame_says unmarked = subst (λ o. frame_of_word (settled_by o (held_by cores) (FrameAt f) was) ≡ Some (frame_value (s.frame f))) unmarked
      (stands.words (FrameAt f))

  some_word : (v u : FrameWord) → Some v ≡ Some u → v ≡ u
  some_word v u h = cc

  -- a step on the frame's word is one of the call
  footprint : is_one_of f (footprint_frames s c a.call) ≡ true
  footprint = subst (λ x. is_one_of f (footprint_frames s c x) ≡ true) (sym is.call_is) (retype_footprint s c is.name f k)

  loading : OnlyLooks setup t c a.call (LoadOf (FrameAt f))
  loading = record {
    of_call = record { moves = subst (λ x. IsTrue (looks_at_frames x)) (sym is.call_is) refl; footprint = inl footprint };
    kept = refl;
    apart = λ d. refl;
  }

  -- the load
  module _ (at_load : at ≡ Load) where
    marked_good : (d : ℕ) → marked_by setup t (FrameAt f) ≡ Some d
        → GoodTook setup cores t c (LoadOf (FrameAt f)) (landed a (refuse (Refusal.Busy d)))
    marked_good d mark = refuses_busy setup setting cores t stands c here a active opens held_is room (LoadOf (FrameAt f)) loading
        (ap ticks_at stage_is) d
        (bare None (FrameAt f)) mark tt

    kind_good : (v : FrameWord) → frame_of_word was ≡ Some v → (v.mark ≡ None) → (j : FrameKind) → v.kind ≡ j → (j ≡ FrameKind.Untyped → ⊥)
        → GoodTook setup cores t c (LoadOf (FrameAt f)) (landed a (refuse Refusal.FrameKind))
    kind_good v shown no_mark j kind_is other =
        refuses_frame_kind setup setting cores t stands c here a active opens held_is room (LoadOf (FrameAt f)) loading has.acts
        (left_may s c (own_pages s c) (plan_for a.call) (rule_of s c a.call) a.found by_plan leads Reply.FrameKind
        (subst (λ x. RuleMay s c x Reply.FrameKind) (sym left) (inr (inl (stands_so, refl)))))
        (λ nobody. by_frame false typed_now)
      where
        value : frame_value (s.frame f) ≡ v
        value = some_word (frame_value (s.frame f)) v (sym (frame_says (ap frame_mark shown ∙ no_mark)) ∙ shown)

        typed_now : is_untyped (s.frame f) ≡ false
        typed_now = typed_is (s.frame f) j (ap (λ x. x.kind) value ∙ kind_is) other

        stands_so : (is_frame s f && not (is_untyped (s.frame f))) ≡ true
        stands_so = ap (λ b. b && not (is_untyped (s.frame f))) (lt-ltb f s.limits.frames below) ∙ ap (λ b. not b) typed_now

    untyped_good : (v : FrameWord) → frame_of_word was ≡ Some v → v.mark ≡ None → v.kind ≡ FrameKind.Untyped
        → GoodTook setup cores t c (LoadOf (FrameAt f))
        (landed a (Goes (Act (type_act (record { frame = f; kind = k; at = type_compare was })))))
    untyped_good v shown no_mark kind_is lands =
        let e : Step = step_to c None (LoadOf (FrameAt f)) was None None in
        loads_on setup setting cores t stands c here a active (LoadOf (FrameAt f)) a.found
        (Undecided (Act (type_act (record { frame = f; kind = k; at = type_compare was })))) loading lands (sym held_is) opens
        (λ carries. record {
          acts = has.acts;
          names = names_on setup setting t e stands.legal c a.call is_open carries (cores c).own.table (plan_for a.call) a.found has.names;
          knows = record {
            knows = record {
              types = types_on a.call a.found has.knows.knows.types;
              met = record {
                own = own_read-here c e t refl (FrameAt f) refl ∙ ap (λ b. if b then Some was else None) (eq-eqb was was refl);
                shown = v;
                says = shown;
                kind = kind_is;
                mark = no_mark;
              };
            };
            all = has.knows.all;
            goes = refl;
          };
        })
      where
        types_on : (call : Call) (ks : List Capability) → TypesBy call ks typing
            → TypesBy call ks (record { frame = f; kind = k; at = type_compare was })
        types_on (Retype r g j) (range ∷ []) h = record { frame = h.frame; kind = h.kind; types = h.types; within = h.within }
        types_on (Retype r g j) [] h = absurd h
        types_on (Retype r g j) (range ∷ q ∷ ks) h = absurd h
        types_on call ks h = absurd h

    load_good : GoodTook setup cores t c (LoadOf (FrameAt f)) (landed a (meets_word typing was (frame_of_word was)))
    load_good = by_word (frame_of_word was) refl
      where
        not_none : (v : FrameWord) → None ≡ Some v → ⊥
        not_none v h = cc

        by_kind : (v : FrameWord) → frame_of_word was ≡ Some v → v.mark ≡ None → (j : FrameKind) → v.kind ≡ j
            → GoodTook setup cores t c (LoadOf (FrameAt f)) (landed a (meets_kind typing was j))
        by_kind v shown no_mark FrameKind.Untyped kind_is = untyped_good v shown no_mark kind_is
        by_kind v shown no_mark FrameKind.User kind_is = kind_good v shown no_mark FrameKind.User kind_is (λ h. cc)
        by_kind v shown no_mark FrameKind.Kernel kind_is = kind_good v shown no_mark FrameKind.Kernel kind_is (λ h. cc)

        by_mark : (v : FrameWord) → frame_of_word was ≡ Some v → (mark : Option ℕ) → v.mark ≡ mark
            → GoodTook setup cores t c (LoadOf (FrameAt f)) (landed a (meets_frame typing was v.kind mark))
        by_mark v shown None no_mark = by_kind v shown no_mark v.kind refl
        by_mark v shown (Some d) mark = marked_good d (ap frame_mark shown ∙ mark)

        by_word : (o : Option FrameWord) → frame_of_word was ≡ o
            → GoodTook setup cores t c (LoadOf (FrameAt f)) (landed a (meets_word typing was o))
        by_word None shown = absurd (not_none (frame_value (s.frame f)) (sym shown ∙ frame_says (ap frame_mark shown)))
        by_word (Some v) shown = by_mark v shown v.mark refl

  -- the compare
  module _ (word : ℕ) (met : HasMet t c f word) where
    abbrev new : ℕ
    new = word_of_frame (typed k)

    abbrev compare : Move
    compare = CompareOf (FrameAt f) word new

    of_call : IsOfCall setup t c a.call compare
    of_call = record { moves = subst (λ x. IsTrue (changes_frames x)) (sym is.call_is) refl; footprint = inl footprint }

    lost : (was == word) ≡ false → GoodTook setup cores t c compare (landed a (typed_if false))
    lost other =
        refuses_raced setup setting cores t stands c here a active opens held_is room compare
        (record { of_call = of_call; kept = kept; apart = λ d. refl }) (ap ticks_at stage_is)
        (record {
          at = tt;
          reads = eq-eqb (left_of compare was) was kept;
          own = word;
          has_read = met.own;
          changed = eqb-false was word other;
        })
      where
        kept : left_of compare was ≡ was
        kept = ap (λ b. left_if b was new) other

    module _ (equal : (was == word) ≡ true) where
      abbrev e : Step
      e = inner setup setting cores t stands c here a active compare (Some (Reply.Ok Nothing)) None

      abbrev s' : State
      s' = state_after setup (e ∷ t)

      abbrev made : ℕ
      made = (cores c).own.made + calls_counted (Reply.Ok Nothing)

      abbrev after : Core
      after = core_in_call (cores c) made (next_at a a.found (Decided (Reply.Ok Nothing) None no_tail))

      leaves_it : left_of compare was ≡ new
      leaves_it = ap (λ b. left_if b was new) equal

      shown_is : frame_of_word was ≡ Some met.shown
      shown_is = ap frame_of_word (eqb-true was word equal) ∙ met.says

      unmarked : marked_by setup t (FrameAt f) ≡ None
      unmarked = ap frame_mark shown_is ∙ met.mark

      untyped : s.frame f ≡ Untyped
      untyped = untyped_is (s.frame f)
          (ap (λ x. x.kind) (some_word (frame_value (s.frame f)) met.shown (sym (frame_says unmarked) ∙ shown_is)) ∙ met.kind)

      change_is : change_of s c a.call ≡ Found change
      change_is = by_frame true (ap is_untyped untyped)

      now : s' ≡ counted (with_frame s f (typed_frame k)) c
      now = ap (λ p. state_decided_in p (Reply.Ok Nothing) s c) is_open ∙ ap (λ x. counted (changed s x) c) change_is

      frame_here : (g : ℕ) → g ≡ f → s'.frame g ≡ typed_frame k
      frame_here g same = ap (λ x. x.frame g) now ∙ put_same s.frame f (typed_frame k) g same

      frame_there : (g : ℕ) → g ≢ f → s'.frame g ≡ s.frame g
      frame_there g other = ap (λ x. x.frame g) now ∙ put_other s.frame f (typed_frame k) g other

      was_untyped : (g : ℕ) → g ≡ f → s.frame g ≡ Untyped
      was_untyped g same = ap s.frame same ∙ untyped

      limits : s'.limits ≡ s.limits
      limits = ap (λ x. x.limits) now

      threads : (g : ℕ) → thread_in (s'.frame g) ≡ thread_in (s.frame g)
      threads g = elim (cases_eq g f) [
        | inl same ↦ ap thread_in (frame_here g same) ∙ typed_thread k ∙ ap thread_in (sym (was_untyped g same))
        | inr other ↦ ap thread_in (frame_there g other)
      ]

      comps : (g : ℕ) → comp_in (s'.frame g) ≡ comp_in (s.frame g)
      comps g = elim (cases_eq g f) [
        | inl same ↦ ap comp_in (frame_here g same) ∙ typed_comp k ∙ ap comp_in (sym (was_untyped g same))
        | inr other ↦ ap comp_in (frame_there g other)
      ]

      one_more : (s'.core c).counted ≡ (s.core c).counted + 1
      one_more = ap (λ y. (y.core c).counted) now ∙ ap (λ j. j.counted)
          (put_same s.core c (record (s.core c) { counted = (s.core c).counted + 1 }) c refl)

      made_is : made ≡ (s'.core c).counted
      made_is = let own = (stands.each c here).works.made in let more = one_more in omega arith

      own_stays : s'.core c ≡ counts (s.core c) (s'.core c).inside (s'.core c).counted
      own_stays = subst (λ y. y.core c ≡ counts (s.core c) (y.core c).inside (y.core c).counted) (sym now) (calm_counted s c).own

      works : WorksIn (record (cores c).own { made = made }) s' c
      works = own_works s s' c (cores c).own (record (cores c).own { made = made }) threads comps own_stays
          (ap (λ (m : ℕ). record (cores c).own { made = m }) made_is) (stands.each c here).works

      rises : counted_in setup s ≤ counted_in setup s'
      rises = subst (λ y. counted_in setup s ≤ counted_in setup y) (sym now) (counted_rises setup s (counted s c) c (calm_counted s c))

      plain : IsUntimed setup t e
      plain = record {
        begins = λ x. ap (λ p. begins_then (Some (Reply.Ok Nothing)) p s c x) is_open ∙ ap (λ y. begins_in y x) change_is;
        ends = λ x. ap (λ p. ends_in (Some (Reply.Ok Nothing)) p x) is_open ∙ ap (λ y. ends_by y x) is.call_is ∙ typing_ends is.name f k
            types x;
        flushes = ap (flushes_in (Some (Reply.Ok Nothing))) is_open ∙ ap flushes_by is.call_is;
        apart = λ d. refl;
        same = refl;
      }

      alike : ReadsAlike setup t e
      alike (EntryAt g i) = elim (cases_eq g f) [
        | inl same ↦ ap (λ x. mark_in_frame x i (last_left setup (e ∷ t) (EntryAt g i))) (frame_here g same)
            ∙ typed_mark k i (last_left setup (e ∷ t) (EntryAt g i))
            ∙ ap (λ x. mark_in_frame x i (last_left setup (e ∷ t) (EntryAt g i))) (sym (was_untyped g same))
        | inr other ↦ ap (λ x. mark_in_frame x i (last_left setup (e ∷ t) (EntryAt g i))) (frame_there g other)
      ]
      alike (FrameAt g) = refl
      alike (CountAt g d) = refl
      alike (CoreAt d) = refl
      alike (FlushAt d) = refl
      alike (LiveAt l) = refl
      alike ClockAt = refl

      -- what is said of each other word stays
      said : (w : Word) → SameFor s s' (times_of setup t) (times_of setup (e ∷ t)) w → StaysSaid setup cores t e w
      said w same = word_stays s s' (times_of setup t) (times_of setup (e ∷ t)) w (settled setup (held_by cores) t w) same

      stays : (w : Word) → w ≢ FrameAt f → marked_by setup t w ≢ Some c → StaysSaid setup cores t e w
      stays (EntryAt g i) there free = elim (cases_eq g f) [
        | inl same ↦ λ h. subst (λ x. IsFrameWord s'.limits.frames x (s'.place g i) (stamp setup (e ∷ t) (PlaceOf g i)) i
            (settled setup (held_by cores) t (EntryAt g i))) (sym (frame_here g same))
            (typed_says k s'.limits.frames (s'.place g i) (stamp setup (e ∷ t) (PlaceOf g i)) i
            (settled setup (held_by cores) t (EntryAt g i)))
        | inr other ↦ said (EntryAt g i) (record {
          frames = ap (λ l. l.frames) limits;
          frame = frame_there g other;
          place = ap (λ x. x.place g i) now;
          stamp = plain_stamp setup t e plain (PlaceOf g i);
        })
      ]
      stays (FrameAt g) there free = said (FrameAt g) (frame_there g (λ same. there (ap (λ (x : ℕ). FrameAt x) same)))
      stays (CountAt g d) there free = said (CountAt g d) tt
      stays (CoreAt d) there free = said (CoreAt d) (record {
        inside = decided-inside (Some (Reply.Ok Nothing)) (phase t c) s c d;
        exit = plain_exit t e refl d;
      })
      stays (FlushAt d) there free = said (FlushAt d) (plain_flush setup t e plain d)
      stays (LiveAt l) there free = said (LiveAt l) (record {
        number = ap (λ x. x.number l) now;
        stamp = plain_stamp setup t e plain (NumberOf l);
      })
      stays ClockAt there free = λ h. tt

      now_says : frame_of_word new ≡ Some (frame_value (s'.frame f))
      now_says = spelling.reads (typed k) (typed_fits k) ∙ ap (λ v. Some v) (sym (typed_value k))
          ∙ ap (λ x. Some (frame_value x)) (sym (frame_here f refl))

      bare_now : mark_of s (FrameAt f) (left_of compare was) ≡ None
      bare_now = ap (λ (n : ℕ). frame_mark (frame_of_word n)) leaves_it ∙ ap frame_mark (spelling.reads (typed k) (typed_fits k))

      -- the core holds nothing
      free_of : (w : Word) → marked_by setup t w ≡ Some c → ⊥
      free_of w own = false≢true (sym (ap (λ h. h.marks w) (ap holds_in active ∙ held_is) ∙ bare None w) ∙ (stands.marks w c).owned own)

      still : (w : Word) → (holds after).marks w ≡ (holds (cores c)).marks w
      still w = same_marks (Some None) None a.counts w ∙ sym (ap (λ h. h.marks w) (ap holds_in active ∙ held_is))

      -- no reference changes
      kept_refs : (g : ℕ) → refs s' g ≡ refs s g
      kept_refs g = ap (λ x. refs x g) now ∙ counted_refs (with_frame s f (typed_frame k)) c g ∙ same_refs
        where
          same_refs : refs (with_frame s f (typed_frame k)) g ≡ refs s g
          same_refs =
              let sum = frame_refs s f (typed_frame k) g below in
              let old : times g (frame_names (s.frame f)) ≡ times g [] = ap (λ x. times g (frame_names x)) untyped in
              let fresh : times g (frame_names (typed_frame k)) ≡ times g [] = ap (times g) (typed_names k) in
              omega (arith, sum, old, fresh)

      no_count : (g d : ℕ) → CountAt g d ≢ FrameAt f
      no_count g d h = cc

      permitted : MayReply s c a.call (Reply.Ok Nothing)
      permitted = (
        not_spent setup (cores c) t c (stands.each c here) room,
        (has.acts, subst (λ x. IsFoundAnd x (λ y. y.value ≡ Nothing)) (sym change_is) refl),
      )

      -- the place of the name has been stepped on
      gone : HasReached (e ∷ t) c (ways s c (rule_of s c a.call))
      gone = all_ways s c (own_pages s c) (e ∷ t) (plan_for a.call) (rule_of s c a.call) a.found by_plan
          (leads_by (λ n wanted q. HasFound setup t c (own_in (cores c).own.table n) wanted q)
          (λ n wanted q. LeadsIn s c n wanted q × HasReached (e ∷ t) c (way_to s c (own s c n)))
          own_gone (plan_for a.call).names [] a.found has.names)
          (subst (λ x. HasReached (e ∷ t) c (ways s c x)) (sym left)
          (All-nil (λ (x : Slot). IsSome (own_left (e ∷ t) c (EntryAt x.node x.index)))))
        where
          own_gone : (n : ℕ) (wanted : Want) (q : Capability) → HasFound setup t c (own_in (cores c).own.table n) wanted q
              → LeadsIn s c n wanted q × HasReached (e ∷ t) c (way_to s c (own s c n))
          own_gone n wanted q had = (
            found_named setup t c (cores c).own.table n wanted q (stands.each c here).works.table had,
            subst (λ x. HasReached (e ∷ t) c (way_to s c x)) (own_is s c (cores c).own.table n (stands.each c here).works.table)
                (way_gone setup t (e ∷ t) c (own_in (cores c).own.table n) had.at had.way.reached
                (λ m d h. own_kept t e c refl refl _ (had.way.stepped m d h))),
          )

      no_entry_word : (g i : ℕ) → FrameAt f ≡ EntryAt g i → ⊥
      no_entry_word g i h = cc

      won : GoodTook setup cores t c compare (landed a (typed_if true))
      won lands = writes_on setup setting cores t stands c here a active compare made (Reply.Ok Nothing) a.found
          (Decided (Reply.Ok Nothing) None no_tail) unmarked bare_now
          (subst (λ (n : ℕ). n < 2 ^ 64) (sym leaves_it) (spelling.small (typed k) (typed_fits k)))
          of_call lands opens refl refl (λ g i h. absurd (no_entry_word g i h))
          alike (plain_begins setup t e plain) (spares_other setup t e (λ g i h. cc))
          (inl (ap untypes is.call_is ∙ typing_types is.name f k types)) rises works stays
          (subst (WordIs s' (times_of setup (e ∷ t)) (FrameAt f)) (sym leaves_it) now_says)
          held_is (λ w own. absurd (free_of w own))
          (sums_keep setup t e (held_by cores) (held_by (put cores c after))
          (λ g d. others_settled setup cores t e after still alike unmarked bare_now (CountAt g d) (no_count g d) (free_of (CountAt g d))
          refl)
          plain limits kept_refs stands.sums)
          (record { call = a.call; is_open = is_open; permitted = permitted; justified = gone })
          (λ is_alone. ok_first s c a.call Nothing permitted)
          tt

    compare_good : GoodTook setup cores t c compare (landed a (typed_if (was == word)))
    compare_good = by_test (was == word) refl
      where
        by_test : (equal : Bool) → (was == word) ≡ equal → GoodTook setup cores t c compare (landed a (typed_if equal))
        by_test true same = won same
        by_test false other = lost other

-- A step of a typing is good.
pub typing_good : (setup : Setting) → IsSetting setup → (cores : ℕ → Core) (t : Trace) → Invariant setup cores t → (c : ℕ) → c < setup.cores
    → (a : ActiveCall) → (cores c).active ≡ Some a → (f : ℕ) (k : FrameKind) (at : TypingAt)
    → a.stage ≡ Undecided (Act (type_act (record { frame = f; kind = k; at = at })))
    → KnowsUndecided setup t c (cores c).own.table a (Act (type_act (record { frame = f; kind = k; at = at })))
    → GoodTook setup cores t c (typing_at f k at)
    (landed a (took_typing_at (record { frame = f; kind = k; at = at }) at
    (told_of (typing_at f k at) (last_left setup t (word_of (typing_at f k at))))))
typing_good setup setting cores t stands c here a active f k Load is has =
    load_good setup setting cores t stands c here a active f k Load is has refl
typing_good setup setting cores t stands c here a active f k (type_compare word) is has =
    compare_good setup setting cores t stands c here a active f k (type_compare word) is has word has.knows.knows.met
