-- Along a machine's traces, a count word that a core shows as frozen is one of those that its call has frozen, with the count and the
-- stamp that were found there; so it settles to these, or to none where the call has made the frame untyped.
use Rattle.time_laws.specs.step_ways.proofs.{◌≡◌, ◌≢◌, inl, inr, ℕ, ℤ, pos, ◌+◌, ◌<◌, ◌≤◌, ◌==◌, ◌++◌, ltb as nat_lt, Bool, true, false}
use Rattle.time_laws.specs.step_ways.proofs.{if◌then◌else◌, List, [], ◌∷◌, length, slice_get, Option, Some, None, IfSome, arith, refl, sym}
use Rattle.time_laws.specs.step_ways.proofs.{◌∙◌, ap, subst, false≢true, eq-eqb, eqb-true, ltb-false, Setting, IsSetting, Call, Reply}
use Rattle.time_laws.specs.step_ways.proofs.{StageEnd, count_of_word, word_of_count, CountWord, Pinned as pinned_by, Closed, CountAt}
use Rattle.time_laws.specs.step_ways.proofs.{CompareOf, Move, StoreOf, left_of, told_of, word_of, put_other, count_at, marked_by}
use Rattle.time_laws.specs.step_ways.proofs.{count_mark, hold_mark, Step, Trace, last_left, phase, last_left-here, acquired, unheld}
use Rattle.time_laws.specs.step_ways.proofs.{Acquired, Pin, at_after, end_by, frozen, swept_of, released, thaw_of, Sweep, SweepAt, Swept}
use Rattle.time_laws.specs.step_ways.proofs.{Thaw, dues, next_work, reply_of, took_sweep, release_of, Own, Refusal, Untyping, UntypingAt}
use Rattle.time_laws.specs.step_ways.proofs.{Untype as untype_act, Due, Tail, Release, Acquire, Act, core_after, StageFits, landed}
use Rattle.time_laws.specs.step_ways.proofs.{stage_move, took_at, took_count, is_ok, tail_move, took_tail, ActiveCall, Stage, Undecided}
use Rattle.time_laws.specs.step_ways.proofs.{Decided, Core, holds_thaw, Holding, holds_counts, settled, settled_by, Invariant, held_by}
use Rattle.time_laws.specs.step_ways.proofs.{holds_in, is_done, phase_at, call_is, is_active}
use Rattle.time_laws.specs.act_states.specs.{Pinned, move_at, ThawFits, acquires, took_untyping_at, refusal_of, thaw_left_by, untyping_undo}
use Rattle.time_laws.specs.stage_sweep.specs.{frozen_at, frozen_if, kept_with, sweep_kept, sweep_next, sweep_refuses}
use Rattle.time_laws.specs.flight.specs.{cores_after, stepping_core, IsMade}
use Rattle.std.proofs.lemmas.Bool.{cases_eq, cases_lt}
use Rattle.time_laws.specs.stage_sweep.specs.{Freeze.owned_at, Release.more_end}
use Rattle.time_laws.specs.act_states.specs.{declared.untypings.Release.Release as ReleaseOf, declared.work.Act.Act as ActOf}
use Rattle.time_laws.specs.kept_facts.proofs.FrozenSums.{got_before, got_last}
use Rattle.flight_laws.proofs.{CountSteps.Freezing, CountHolds.kept, CountHolds.no_entry, CountHolds.raw_other, AcquiredCounts.active_now}
use Rattle.flight_laws.proofs.{AcquiredCounts.found as word_told, AcquiredCounts.move_now, AcquiredCounts.move_stage}
use Rattle.{std.proofs.lemmas.Option.slice_get_within, time_laws.specs.core_invariant.specs.Invariant.holds_stage}
use Rattle.{time_laws.specs.core_invariant.proofs.Freezing.thaw_here, time_laws.specs.flight.proofs.Made.made_stands}
use Rattle.{time_laws.specs.history_laws.specs.Counts.is_carried_out}
use Rattle.time_laws.specs.frame_words.proofs.CountLemmas as counts
use Rattle.time_laws.specs.flight.specs.Made as made_of
use Rattle.flight_laws.proofs.CountSteps as steps

none_some : (d : ℕ) → None ≡ Some d → ⊥
none_some d h = cc

same_some : {A : Type 0} (x y : A) → Some x ≡ Some y → x ≡ y
same_some x y h = cc

pub no_ok : (r : Refusal) → is_ok (reply_of r) ≡ false
no_ok Refusal.NoSlot = refl
no_ok r = refl

-- A list has at k what this word shows.
abbrev Got : List CountWord → ℕ → CountWord → Type 0
Got xs k v = slice_get xs k ≡ Some (unheld v.count v.stamp)

-- A counter that is still to be released, as it was found, or cleared.
pub record IsThawed (ok : Bool) (th : Thaw) (f k : ℕ) (v : CountWord) : Type 0 where
  pub frame : th.frame ≡ f
  pub from : th.at ≤ k
  pub got : Got th.words k v
  pub clear : th.clear ≡ ok

abbrev ThawHas : Bool → Option Thaw → ℕ → ℕ → CountWord → Type 0
ThawHas ok None f k v = ⊥
ThawHas ok (Some th) f k v = IsThawed ok th f k v

abbrev TailHas : Bool → Tail → ℕ → ℕ → CountWord → Type 0
TailHas ok (Release y) f k v = ThawHas ok y.thaw f k v
TailHas ok tail f k v = ⊥

abbrev AtHas : UntypingAt → ℕ → ℕ → CountWord → Type 0
AtHas UntypingAt.Load f k v = ⊥
AtHas (UntypingAt.Mark word x) f k v = ⊥
AtHas (UntypingAt.Sweep word w) f k v = (w.frame ≡ f) × Got w.kept k v
AtHas (UntypingAt.Draw word w) f k v = (w.frame ≡ f) × Got w.words k v

abbrev ActHas : ActOf → ℕ → ℕ → CountWord → Type 0
ActHas (untype_act m) f k v = AtHas m.at f k v
ActHas act f k v = ⊥

-- The stage of a call has frozen a counter.
abbrev StageHas : Stage → ℕ → ℕ → CountWord → Type 0
StageHas (Undecided (Acquire pin change act)) f k v = ActHas act f k v
StageHas (Undecided (Act act)) f k v = ActHas act f k v
StageHas (Decided r drawn tail) f k v = TailHas (is_ok r) tail f k v
StageHas stage f k v = ⊥

abbrev CallHas : Option ActiveCall → ℕ → ℕ → CountWord → Type 0
CallHas None f k v = ⊥
CallHas (Some a) f k v = StageHas a.stage f k v

thaw_has : (w : Swept) (clear : Bool) (f k : ℕ) (v : CountWord) → w.frame ≡ f → Got w.words k v → ThawHas clear (thaw_of w clear) f k v
thaw_has w clear f k v same got = by (length w.words == 0) refl
  where
    by : (none : Bool) → (length w.words == 0) ≡ none
        → ThawHas clear (if none then None else Some (record { frame = w.frame; words = w.words; clear = clear; at = 0 })) f k v
    by true is =
        absurd (let below = slice_get_within w.words k _ got in let zero = eqb-true (length w.words) 0 is in omega (arith, below, zero))
    by false is = record { frame = same; from = omega arith; got = got; clear = refl }

-- What is stored there.
abbrev pub cleared_if : Bool → CountWord → CountWord
cleared_if true v = unheld (pos 0) 0
cleared_if false v = unheld v.count v.stamp

thaw_stands : (o : Option Thaw) (ok : Bool) (h : Holding) (f k : ℕ) (v : CountWord) → ThawHas ok o f k v
    → (holds_thaw o h).stands (CountAt f k) ≡ word_of_count (cleared_if ok v)
thaw_stands None ok h f k v has = absurd has
thaw_stands (Some th) ok h f k v has =
    subst (λ (g : ℕ). (holds_thaw (Some th) h).stands (CountAt g k) ≡ word_of_count (cleared_if ok v)) has.frame
    ((thaw_here th h k has.from (slice_get_within th.words k _ has.got)).1
    ∙ ap (λ b. word_of_count (released b (slice_get th.words k))) has.clear ∙ ap (λ o. word_of_count (released ok o)) has.got ∙ by ok)
  where
    by : (b : Bool) → word_of_count (released b (Some (unheld v.count v.stamp))) ≡ word_of_count (cleared_if b v)
    by true = refl
    by false = refl

-- Whether the stage is that of a call carried out.
abbrev is_ok_at : Stage → Bool
is_ok_at (Decided r drawn tail) = is_ok r
is_ok_at stage = false

at_stands : (g : ℕ) (at : UntypingAt) (h : Holding) (f k : ℕ) (v : CountWord) → AtHas at f k v
    → (Rattle.time_laws.specs.core_invariant.specs.Frozen.holds_untyping g at h).stands (CountAt f k) ≡ word_of_count (cleared_if false v)
at_stands g (UntypingAt.Sweep word w) h f k v has =
    thaw_stands (thaw_of (swept_of w) false) false h f k v (thaw_has (swept_of w) false f k v has.0 has.1)
at_stands g (UntypingAt.Draw word w) h f k v has = thaw_stands (thaw_of w false) false h f k v (thaw_has w false f k v has.0 has.1)
at_stands g _ h f k v has = absurd has

act_stands : (act : ActOf) (h : Holding) (f k : ℕ) (v : CountWord) → ActHas act f k v
    → (Rattle.time_laws.specs.core_invariant.specs.Invariant.holds_act act h).stands (CountAt f k) ≡ word_of_count (cleared_if false v)
act_stands (untype_act m) h f k v has = at_stands m.frame m.at h f k v has
act_stands act h f k v has = absurd has

tail_stands : (ok : Bool) (tail : Tail) (h : Holding) (f k : ℕ) (v : CountWord) → TailHas ok tail f k v
    → (Rattle.time_laws.specs.core_invariant.specs.Invariant.holds_tail tail h).stands (CountAt f k) ≡ word_of_count (cleared_if ok v)
tail_stands ok (Release y) h f k v has = thaw_stands y.thaw ok h f k v has
tail_stands ok tail h f k v has = absurd has

stage_stands : (stage : Stage) (h : Holding) (f k : ℕ) (v : CountWord) → StageHas stage f k v
    → (holds_stage stage h).stands (CountAt f k) ≡ word_of_count (cleared_if (is_ok_at stage) v)
stage_stands (Undecided (Acquire pin change act)) h f k v has = act_stands act h f k v has
stage_stands (Undecided (Act act)) h f k v has = act_stands act h f k v has
stage_stands (Decided r drawn tail) h f k v has = tail_stands (is_ok r) tail h f k v has
stage_stands stage h f k v has = absurd has

-- The stage says by its phase whether it is carried out.
stage_carried : (call : Call) (stage : Stage) (f k : ℕ) (v : CountWord) → StageHas stage f k v
    → is_carried_out (phase_at call stage) ≡ is_ok_at stage
stage_carried call (Undecided (Acquire pin change act)) f k v has = refl
stage_carried call (Undecided (Act act)) f k v has = refl
stage_carried call (Decided (Reply.Ok x) drawn tail) f k v has = refl
stage_carried call (Decided r drawn tail) f k v has = refl
stage_carried call stage f k v has = absurd has

-- A step of the call keeps what it has frozen, but for the counter that it stores.
module _ (own : Own) (a : ActiveCall) (f k : ℕ) (v : CountWord) where
  abbrev Has : Option ActiveCall → Type 0
  Has o = CallHas o f k v

  goes_to : (core n : ℕ) (m : Untyping) → AtHas m.at f k v → Has (Some (record a {
    steps = a.steps + 1;
    stage = Undecided (next_work core n (untype_act m));
  }))
  goes_to core n m has = by (slice_get (dues (untype_act m)) n)
    where
      by : (o : Option Due) → Has (Some (record a { steps = a.steps + 1; stage = Undecided (acquires core (untype_act m) o) }))
      by None = has
      by (Some due) = has

  refused : (q : Refusal) (tail : Tail) → TailHas false tail f k v → TailHas (is_ok (reply_of q)) tail f k v
  refused q tail has = subst (λ b. TailHas b tail f k v) (sym (no_ok q)) has

  from_sweep : (m : Untyping) (word : ℕ) (w : Sweep) (found : ℕ) → w.frame ≡ f → Got (sweep_kept w found) k v
      → Has (core_after own (landed a (took_untyping_at own.layout m (UntypingAt.Sweep word w) found))).active
  from_sweep m word w found same got = by (sweep_refuses own.layout w found) (sweep_next own.layout w found)
    where
      after : Option Reply → Option SweepAt → Sweep
      after r next = record {
        frame = w.frame;
        word = w.word;
        core = w.core;
        kept = sweep_kept w found;
        owned = owned_at own.layout w.word.object w.at found w.owned;
        at = at_after w.at r next;
      }

      by : (r : Option Reply) (next : Option SweepAt)
          → Has (core_after own (landed a (took_sweep m word (after r next) (end_by r next (swept_of (after r next)))))).active
      by (Some q) next = refused (refusal_of q) (Release (release_of m.frame word (swept_of (after (Some q) next)) false))
          (thaw_has (swept_of (after (Some q) next)) false f k v same got)
      by None (Some at) = (same, got)
      by None None = goes_to m.core 0 (record m { at = UntypingAt.Draw word (swept_of (after None None)) }) (same, got)

  kept_still : (w : Sweep) (found : ℕ) → Got w.kept k v → Got (sweep_kept w found) k v
  kept_still w found got = by (frozen_at w.at found)
    where
      by : (o : Option CountWord) → Got (kept_with w.kept o) k v
      by None = got
      by (Some u) = got_before w.kept u k (slice_get_within w.kept k _ got) ∙ got

  from_act : (m : Untyping) (at : UntypingAt) (found : ℕ) → AtHas at f k v
      → Has (core_after own (landed a (took_untyping_at own.layout m at found))).active
  from_act m (UntypingAt.Sweep word w) found has = from_sweep m word w found has.0 (kept_still w found has.1)
  from_act m (UntypingAt.Draw word w) found has = thaw_has w true f k v has.0 has.1
  from_act m _ found has = absurd has

  undone : (q : Refusal) (g : ℕ) (at : UntypingAt) → AtHas at f k v → TailHas (is_ok (reply_of q)) (untyping_undo g at) f k v
  undone q g (UntypingAt.Sweep word w) has = refused q (Release (release_of g word (swept_of w) false))
      (thaw_has (swept_of w) false f k v has.0 has.1)
  undone q g (UntypingAt.Draw word w) has = refused q (Release (release_of g word w false)) (thaw_has w false f k v has.0 has.1)
  undone q g _ has = absurd has

  from_count : (core n : ℕ) (change : ℤ) (m : Untyping) (pin : Pin) (end : StageEnd Pinned) → AtHas m.at f k v
      → Has (core_after own (landed a (took_count core n change (untype_act m) pin end))).active
  from_count core n change m pin StageEnd.Going has = has
  from_count core n change m pin (StageEnd.Decided q) has = undone (refusal_of q) m.frame m.at has
  from_count core n change m pin (StageEnd.Refuse q) has = undone (refusal_of q) m.frame m.at has
  from_count core n change m pin (StageEnd.Done p) has = goes_to core (n + 1) m has

  -- the counter that is stored is another
  abbrev NotStored : Stage → List Acquired → Type 0
  NotStored (Decided r drawn (Release y)) [] = IfSome y.thaw (λ th. k ≢ th.at)
  NotStored stage xs = Unit {0}

  from_thaw : (ok : Bool) (y : ReleaseOf) (o : Option Thaw) → ThawHas ok o f k v → IfSome o (λ th. k ≢ th.at)
      → TailHas ok (Rattle.time_laws.specs.act_states.specs.Untypings.after_store y o) f k v
  from_thaw ok y None has other = absurd has
  from_thaw ok y (Some th) has other = by (nat_lt (th.at + 1) (length th.words)) refl
    where
      by : (more : Bool) → nat_lt (th.at + 1) (length th.words) ≡ more → ThawHas ok (thaw_left_by (record {
        frame = th.frame;
        words = th.words;
        clear = th.clear;
        at = Rattle.time_laws.specs.stage_sweep.specs.Release.at_next more th.at;
      }) (more_end more)) f k v
      by true is = record {
        frame = has.frame;
        from = (let low = has.from in omega (arith, low, other));
        got = has.got;
        clear = has.clear;
      }
      by false is = absurd (let low = has.from in let below = slice_get_within th.words k _ has.got in
          let last = ltb-false (th.at + 1) (length th.words) is in omega (arith, low, below, last, other))

  from_tail : (r : Reply) (drawn : Option ℕ) (tail : Tail) (xs : List Acquired) (found : ℕ) → TailHas (is_ok r) tail f k v
      → NotStored (Decided r drawn tail) xs → StageHas (took_tail r drawn tail xs found) f k v
  from_tail r drawn (Release y) [] found has other = from_thaw (is_ok r) y y.thaw has other
  from_tail r drawn (Release y) (x ∷ xs) found has other = has
  from_tail r drawn tail xs found has other = absurd has

  from_acquire : (pin : Pin) (change : ℤ) (act : ActOf) (found : ℕ) → ActHas act f k v
      → Has (core_after own (took_at own a (Undecided (Acquire pin change act)) found)).active
  from_acquire pin change (untype_act m) found has = from_count own.core (length a.counts) change m _ _ has
  from_acquire pin change act found has = absurd has

  from_any : (act : ActOf) (found : ℕ) → ActHas act f k v → Has (core_after own (took_at own a (Undecided (Act act)) found)).active
  from_any (untype_act m) found has = from_act m m.at found has
  from_any act found has = absurd has

  pub stage_keeps : (stage : Stage) (found : ℕ) → StageHas stage f k v → NotStored stage a.counts
      → Has (core_after own (took_at own a stage found)).active
  stage_keeps (Undecided (Acquire pin change act)) found has other = from_acquire pin change act found has
  stage_keeps (Undecided (Act act)) found has other = from_any act found has
  stage_keeps (Decided r drawn tail) found has other = from_tail r drawn tail a.counts found has other
  stage_keeps stage found has other = absurd has

-- What a core has frozen after its step.
module _ (setup : Setting) (setting : IsSetting setup) (f k : ℕ) (t : Trace) (e : Step) (made : IsMade setup (e ∷ t))
    (mark : marked_by setup (e ∷ t) (CountAt f k) ≡ Some e.core) where
  before : Invariant setup (cores_after setup t) t
  before = made_stands setup setting t made.0

  pub entry : e.enters ≡ None
  entry = no_entry setup setting f k t e made mark

  abbrev now : Option ActiveCall
  now = (cores_after setup (e ∷ t) e.core).active

  abbrev its_own : Own
  its_own = (cores_after setup t e.core).own

  -- what it had frozen already
  module _ (a : ActiveCall) (active : (cores_after setup t e.core).active ≡ Some a) (v : CountWord) where
    not_last : (r : Reply) (drawn : Option ℕ) (y : ReleaseOf) → a.stage ≡ Decided r drawn (Release y) → a.counts ≡ []
        → (o : Option Thaw) → y.thaw ≡ o → ThawHas (is_ok r) o f k v → IfSome o (ThawFits its_own.layout) → IfSome o (λ th. k ≢ th.at)
    not_last r drawn y is none None thaw has fits = tt
    not_last r drawn y is none (Some th) thaw has fits = λ same.
        let move : e.move ≡ StoreOf (CountAt th.frame th.at) (word_of_count (released th.clear (slice_get th.words th.at))) =
        move_stage setup setting t e made entry a active ∙ ap (λ s. stage_move its_own a.counts s) is
        ∙ ap (tail_move r drawn (Release y)) none
        ∙ ap (λ o. Rattle.time_laws.specs.act_states.specs.Untypings.release_at y.frame y.word o) thaw in
        let on : CountAt f k ≡ word_of e.move =
        ap (λ (g : ℕ). CountAt g k) (sym has.frame) ∙ ap (CountAt th.frame) same ∙ sym (ap word_of move) in
        let left : last_left setup (e ∷ t) (CountAt f k) ≡ word_of_count (released th.clear (slice_get th.words th.at)) =
        last_left-here setup (CountAt f k) e t on ∙ ap (λ m. left_of m e.found) move in
        none_some e.core (sym (steps.thaw_unheld setup setting (cores_after setup t) t before e.core made.1.is_core f k a active r drawn y
        th thaw is fits) ∙ sym (ap (λ (i : ℕ). count_mark (count_of_word i)) left) ∙ mark)

    not_stored : (stage : Stage) → a.stage ≡ stage → StageHas stage f k v → StageFits its_own.layout stage → (xs : List Acquired)
        → a.counts ≡ xs → NotStored its_own a f k v stage xs
    not_stored (Decided r drawn (Release y)) is has fits [] all = not_last r drawn y is all y.thaw refl has fits.thaw
    not_stored stage is has fits xs all = tt

    kept_frozen : StageHas a.stage f k v → CallHas now f k v
    kept_frozen has = subst (λ o. CallHas o f k v) (sym (active_now setup setting t e made entry a active))
        (stage_keeps its_own a f k v a.stage (word_told setup setting t e made entry) has
        (not_stored a.stage refl has (is_active setup setting (cores_after setup t) t before e.core made.1.is_core a active).stage
        a.counts refl))

  pub frozen_stays : (v : CountWord) → CallHas (cores_after setup t e.core).active f k v → CallHas now f k v
  frozen_stays v has = by (cores_after setup t e.core).active refl has
    where
      by : (o : Option ActiveCall) → (cores_after setup t e.core).active ≡ o → CallHas o f k v → CallHas now f k v
      by None active has = absurd has
      by (Some a) active has = kept_frozen a active v has

  -- a counter that it has frozen now
  module _ (count : ℤ) (stamp : ℕ) (takes : Freezing (cores_after setup t e.core).active f k count stamp)
      (shown : count_of_word (last_left setup t (CountAt f k)) ≡ Some (unheld count stamp)) where
    abbrev moving : Move
    moving = CompareOf (CountAt takes.w.frame (length takes.w.kept)) (word_of_count (unheld count stamp))
        (word_of_count (frozen takes.w.core count stamp))

    moves : e.move ≡ moving
    moves = move_stage setup setting t e made entry takes.a takes.active
        ∙ ap (λ s. stage_move its_own takes.a.counts s) takes.stage
        ∙ ap (Rattle.time_laws.specs.act_states.specs.Untypings.untyping_at takes.m.frame takes.m.core) takes.sweeps
        ∙ ap (move_at takes.w.frame takes.w.core (length takes.w.kept)) takes.at

    word_is : CountAt takes.w.frame (length takes.w.kept) ≡ CountAt f k
    word_is = ap (λ (g : ℕ). CountAt g (length takes.w.kept)) takes.frame ∙ ap (CountAt f) takes.number

    abbrev told : ℕ
    told = word_told setup setting t e made entry

    found_is : told ≡ word_of_count (unheld count stamp)
    found_is = ap (λ m. told_of m e.found) (sym (move_now setup setting t e made entry) ∙ moves)
        ∙ made.1.found ∙ ap (last_left setup t) (ap word_of moves ∙ word_is)
        ∙ sym (counts.spelling.spells (last_left setup t (CountAt f k)) (unheld count stamp) shown).1

    got_now : Got (sweep_kept takes.w told) k (frozen e.core count stamp)
    got_now =
        ap (λ at. slice_get (kept_with takes.w.kept (frozen_at at told)) k) takes.at
        ∙ ap (λ b. slice_get (kept_with takes.w.kept (frozen_if b (unheld count stamp))) k)
        (eq-eqb told (word_of_count (unheld count stamp)) found_is)
        ∙ ap (slice_get (takes.w.kept ++ unheld count stamp ∷ [])) (sym takes.number)
        ∙ got_last takes.w.kept (unheld count stamp)

    pub frozen_now : CallHas now f k (frozen e.core count stamp)
    frozen_now = subst (λ o. CallHas o f k (frozen e.core count stamp)) (sym (active_now setup setting t e made entry takes.a takes.active
        ∙ ap (λ s. (core_after its_own (took_at its_own takes.a s told)).active) takes.stage
        ∙ ap (λ at. (core_after its_own (landed takes.a (took_untyping_at its_own.layout takes.m at told))).active) takes.sweeps))
        (from_sweep its_own takes.a f k (frozen e.core count stamp) takes.m takes.word takes.w told takes.frame got_now)

-- So it is after each trace.
module _ (setup : Setting) (setting : IsSetting setup) (f k d : ℕ) (v : CountWord) (is_closed : v.hold ≡ Closed d) where
  abbrev Shows : Trace → Type 0
  Shows u = count_at (last_left setup u) f k ≡ Some v

  marked_so : (u : Trace) → Shows u → marked_by setup u (CountAt f k) ≡ Some d
  marked_so u shows = ap count_mark shows ∙ ap hold_mark is_closed

  module _ (u : Trace) (e : Step) (made : IsMade setup (e ∷ u)) (shows : Shows (e ∷ u))
      (rest : Shows u → CallHas (cores_after setup u d).active f k v) where
    has_other : d ≢ e.core → CallHas (cores_after setup (e ∷ u) d).active f k v
    has_other other = subst (λ (c : Core). CallHas c.active f k v)
        (sym (put_other (cores_after setup u) e.core (made_of.core_after (stepping_core setup u e) e.found) d other))
        (rest (ap count_of_word (sym (raw_other setup setting f k u e made d other (marked_so (e ∷ u) shows))) ∙ shows))

    has_own : marked_by setup (e ∷ u) (CountAt f k) ≡ Some e.core → d ≡ e.core → CallHas (cores_after setup (e ∷ u) e.core).active f k v
    has_own mark own = elim (kept setup setting f k u e made mark) [
      | inl same ↦ frozen_stays setup setting f k u e made mark v
          (subst (λ (c : ℕ). CallHas (cores_after setup u c).active f k v) own (rest (ap count_of_word (sym same) ∙ shows)))
      | inr takes ↦ elim takes.left [
        | inl is ↦ absurd (not_pinned takes.count takes.stamp (sym shows ∙ is.0))
        | inr is ↦ subst (λ (w : CountWord). CallHas (cores_after setup (e ∷ u) e.core).active f k w)
            (same_some (frozen e.core takes.count takes.stamp) v (sym is.0 ∙ shows))
            (frozen_now setup setting f k u e made mark takes.count takes.stamp is.1.freezes takes.found)
      ]
    ]
      where
        not_pinned : (count : ℤ) (stamp : ℕ) → Some v ≡ Some (acquired e.core count stamp) → ⊥
        not_pinned count stamp is =
            apart (sym is_closed ∙ ap (λ (x : CountWord). x.hold) (same_some v (acquired e.core count stamp) is))
          where
            apart : Closed d ≡ pinned_by e.core → ⊥
            apart h = cc

  pub has_frozen : (u : Trace) → IsMade setup u → Shows u → CallHas (cores_after setup u d).active f k v
  has_frozen [] made shows =
      absurd (false≢true (((made_stands setup setting [] made).marks (CountAt f k) d).owned (marked_so [] shows)))
  has_frozen (e ∷ u) made shows = elim (cases_eq d e.core) [
    | inl own ↦ subst (λ (c : ℕ). CallHas (cores_after setup (e ∷ u) c).active f k v) (sym own)
        (has_own u e made shows (has_frozen u made.0)
        (subst (λ (c : ℕ). marked_by setup (e ∷ u) (CountAt f k) ≡ Some c) own (marked_so (e ∷ u) shows)) own)
    | inr other ↦ has_other u e made shows (has_frozen u made.0) other
  ]

-- What such a word settles to.
pub frozen_settles : (setup : Setting) → IsSetting setup → (t : Trace) → IsMade setup t → (f k d : ℕ) (v : CountWord)
    → count_at (last_left setup t) f k ≡ Some v → v.hold ≡ Closed d
    → settled setup (held_by (cores_after setup t)) t (CountAt f k) ≡ word_of_count (cleared_if (is_carried_out (phase t d)) v)
frozen_settles setup setting t made f k d v shows is_closed =
    by (cores_after setup t d).active refl (has_frozen setup setting f k d v is_closed t made shows)
  where
    stands : Invariant setup (cores_after setup t) t
    stands = made_stands setup setting t made

    marks : marked_by setup t (CountAt f k) ≡ Some d
    marks = ap count_mark shows ∙ ap hold_mark is_closed

    inside : (a : ActiveCall) → (cores_after setup t d).active ≡ Some a → d < setup.cores
    inside a active = elim (cases_lt d setup.cores) [
      | inl here ↦ here
      | inr past ↦ absurd (none_active a (sym (stands.away d past).idle ∙ active))
    ]
      where
        none_active : (b : ActiveCall) → None ≡ Some b → ⊥
        none_active b h = cc

    by : (o : Option ActiveCall) → (cores_after setup t d).active ≡ o → CallHas o f k v
        → settled setup (held_by (cores_after setup t)) t (CountAt f k) ≡ word_of_count (cleared_if (is_carried_out (phase t d)) v)
    by None active has = absurd has
    by (Some a) active has =
        ap (λ o. settled_by o (held_by (cores_after setup t)) (CountAt f k) (last_left setup t (CountAt f k))) marks
        ∙ ap (λ o. (holds_in o).stands (CountAt f k)) active
        ∙ stage_stands a.stage (holds_counts (is_done a.stage) a.counts) f k v has
        ∙ ap (λ b. word_of_count (cleared_if b v)) (sym (ap is_carried_out
        (call_is setup setting (cores_after setup t) t stands d (inside a active) a active).phase
        ∙ stage_carried a.call a.stage f k v has))
