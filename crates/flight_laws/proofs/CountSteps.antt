-- What a step of a call leaves in a count word: what it has found there; a word that no core holds; or the count that it has found, which
-- its core then holds, for the count of its call or to make the frame untyped.
use Rattle.time_laws.specs.core_invariant.proofs as low
use low.{AtComp, AtLive, ◌≡◌, ◌≢◌, ◌⊎◌, inl, inr, ℕ, ℤ, ◌<◌, ◌==◌, Bool, true, false, List, [], ◌∷◌, length, slice_get, ◌++◌, map, Option}
use low.{Some, None, IfSome, arith, refl, sym, ◌∙◌, ap, subst, IsSome, false≢true, eqb-true, Capability, Setting, IsSetting, left_if, Call}
use low.{FrameKind, Reply, CountFits, word_of_count, count_of_word, CountAt, Move, word_of, left_of, count_mark, Step, Trace, Open, phase}
use low.{last_left, look_move, Look, unheld, acquired, Acquired, Pin, AtCompare as close_compare, AtDraw, AtStore, Quiet, frozen, released}
use low.{Sweep, SweepAt, Thaw, Charge, Pair, PairAt, dues, put_by, CompAt, CompMaking, InvokingAt, ReturningAt, KillingAt}
use low.{MakingAt, NewObject, SwitchAt, Switching, TypingAt, Untyping, UntypingAt, Due, Fill as fill_act, Remove as remove_act}
use low.{Retype as type_act, Make as make_act, Tick as tick_act, Touch as touch_act, Kill as kill_act, Untype as untype_act, Map as map_act}
use low.{MakeComp as comp_act, Invoke as invoke_act, Return as return_act, Share as share_act, Refill as refill_act, Switch as switch_act}
use low.{Tail, Nothing, Quiesce, Release, Push, Pop, Lookup, Read, Scan, Acquire, Act, move_in, move_of, CountsAt, StageFits, stage_move}
use low.{is_ok, tail_move, Core, ActiveCall, Stage, Enter, Living, Undecided, Decided, Leave, holds_release, holds_thaw, count_of}
use low.{committed, holds_counts, settled_by, settled, done_by, holds_at, holds_in, holds, held_by, CallIs, KnowsAct, KnowsAt, KnowsClose}
use low.{due_of, KnowsUndecided, phase_at, untypes, KnowsSweep, KnowsUntypingAt, UntypesBy, claimed_by, SaysCount, release_away, thaw_here}
use low.{plan_for, Freezing.is_count}
use Rattle.time_laws.specs.act_states.specs.{Retype, pin_move, commit_of, AtLoad, close_move, quiet_move, Close, move_at, ThawFits}
use Rattle.time_laws.specs.act_states.specs.{charge_move, Refill, RefillAt, Pop as PopOf, Push as PushOf, act_move, comp_at, invoking_at}
use Rattle.time_laws.specs.act_states.specs.{returning_at, killing_at, making_at, switching_at, typing_at, is_drawing, untyping_at}
use Rattle.time_laws.specs.flight.proofs.{Invariant, turned, MayStep, cores_after, stepping_core, IsMade}
use Rattle.time_laws.specs.step_ways.proofs.{first_marked, first_stands, is_active}
use Rattle.time_laws.specs.core_invariant.specs.{pin_frame, KnowsSweepAt, Knows.HasLoaded, Knows.pin_core, Sweeps.KnowsRelease}
use Rattle.time_laws.specs.stage_tcap.specs.{move_at as pair_at_move, refill_move_at}
use Rattle.time_laws.specs.stage_thread.specs.{push_move, pop_move}
use Rattle.time_laws.specs.stage_pins.specs.{Commit.settled_word, declared.pin.Pin.TheVariants.AtCompare}
use Rattle.time_laws.specs.act_states.specs.{Untypings.release_at, declared.fills.Fill.Fill as FillOf}
use Rattle.time_laws.specs.act_states.specs.{declared.typings.TypingAt.TheVariants.Load, declared.untypings.Release.Release as ReleaseOf}
use Rattle.time_laws.specs.act_states.specs.{declared.work.Act.Act as ActOf, declared.work.Tail.TheVariants.Share}
use Rattle.time_laws.specs.count_invariant.proofs.{ActHolds.SparesAt, Acquiring.removal_types, CompCounts.comp_call}
use Rattle.time_laws.specs.count_invariant.proofs.{KillingCounts.kill_types, MakingCounts.made_types, StackCounts.invoke_of}
use Rattle.time_laws.specs.count_invariant.proofs.{SweepCounts.sweep_spares, SwitchCounts.switch_of}
use Rattle.{std.proofs.lemmas.List.Elements.All-head}
use Rattle.{time_laws.specs.comp_invariant.specs.act_fits.proofs.DuesFit.few_dues, time_laws.specs.flight.proofs.Made.made_stands}
use Rattle.time_laws.specs.frame_words.proofs.CountLemmas as counts
use Rattle.time_laws.specs.act_states.specs.declared.untypings.UntypingAt.TheVariants as untype

-- Steps on other words

look_beside : (look : Look) → is_count (word_of (look_move look)) ≡ false
look_beside look = grind arith

quiet_beside : (q : Quiet) → is_count (word_of (quiet_move q)) ≡ false
quiet_beside q = grind arith

close_beside : (close : Close) → is_count (word_of (close_move close)) ≡ false
close_beside close = grind arith

typing_beside : (f : ℕ) (k : FrameKind) (at : TypingAt) → is_count (word_of (typing_at f k at)) ≡ false
typing_beside f k at = grind arith

making_beside : (f : ℕ) (object : NewObject) (core : ℕ) (fill : FillOf) (at : MakingAt)
    → is_count (word_of (making_at f object core fill at)) ≡ false
making_beside f object core fill at = grind arith

charge_beside : (charge : Charge) → is_count (word_of (charge_move charge)) ≡ false
charge_beside charge = grind arith

refill_beside : (r : Refill) (at : RefillAt) → is_count (word_of (refill_move_at r at)) ≡ false
refill_beside r at = grind arith

killing_beside : (f core : ℕ) (at : KillingAt) → is_count (word_of (killing_at f core at)) ≡ false
killing_beside f core at = grind arith

invoking_beside : (f : ℕ) (at : InvokingAt) → is_count (word_of (invoking_at f at)) ≡ false
invoking_beside f at = grind arith

returning_beside : (thread depth : ℕ) (at : ReturningAt) → is_count (word_of (returning_at thread depth at)) ≡ false
returning_beside thread depth at = grind arith

comp_beside : (m : CompMaking) (at : CompAt) → is_count (word_of (comp_at m at)) ≡ false
comp_beside m (CompAt.Scan word last q) = quiet_beside q
comp_beside m _ = refl

pair_beside : (p : Pair) (at : PairAt) → is_count (word_of (pair_at_move p at)) ≡ false
pair_beside p at = grind arith

switching_beside : (m : Switching) (at : SwitchAt) → is_count (word_of (switching_at m at)) ≡ false
switching_beside m at = grind arith

push_beside : (x : PushOf) → is_count (word_of (push_move x)) ≡ false
push_beside x = grind arith

pop_beside : (x : PopOf) → is_count (word_of (pop_move x)) ≡ false
pop_beside x = grind arith

-- Steps on a count word

-- The call is one that makes the frame untyped.
pub record UntypesFrame (call : Call) (f : ℕ) : Type 0 where
  pub range : ℕ
  pub is : call ≡ Retype range f FrameKind.Untyped

pub untypes_frame : (call : Call) (ks : List Capability) (m : Untyping) → UntypesBy call ks m → UntypesFrame call m.frame
untypes_frame (Retype r f FrameKind.Untyped) (range ∷ []) m by =
    record { range = r; is = ap (λ (n : ℕ). Retype r n FrameKind.Untyped) (sym by.frame) }
untypes_frame (Retype r f FrameKind.Untyped) [] m by = absurd by
untypes_frame (Retype r f FrameKind.Untyped) (range ∷ k ∷ ks) m by = absurd by
untypes_frame (Retype r f FrameKind.User) ks m by = absurd by
untypes_frame (Retype r f FrameKind.Kernel) ks m by = absurd by
untypes_frame call ks m by = absurd by

-- A call stands where it acquires this count, or freezes it.
pub record Acquiring (o : Option ActiveCall) (f k : ℕ) (count : ℤ) (stamp : ℕ) : Type 0 where
  pub a : ActiveCall
  pub active : o ≡ Some a
  pub change : ℤ
  pub act : ActOf
  pub stage : a.stage ≡ Undecided (Acquire (AtCompare f k count stamp) change act)
  pub few : length a.counts < 4

pub record Freezing (o : Option ActiveCall) (f k : ℕ) (count : ℤ) (stamp : ℕ) : Type 0 where
  pub a : ActiveCall
  pub active : o ≡ Some a
  pub m : Untyping
  pub word : ℕ
  pub w : Sweep
  pub stage : a.stage ≡ Undecided (Act (untype_act m))
  pub sweeps : m.at ≡ untype.Sweep word w
  pub frame : w.frame ≡ f
  pub number : length w.kept ≡ k
  pub at : w.at ≡ SweepAt.Compare count stamp

-- A count that is acquired is the core's own, of a frame that the call does not make untyped; one that is frozen is of the frame that it
-- makes untyped.
pub record IsOwnCount (o : Option ActiveCall) (call : Call) (c f k : ℕ) (count : ℤ) (stamp : ℕ) : Type 0 where
  pub own : k ≡ c
  pub spares : UntypesFrame call f → ⊥
  pub acquires : Acquiring o f k count stamp

pub record IsSweptCount (o : Option ActiveCall) (call : Call) (f k : ℕ) (count : ℤ) (stamp : ℕ) : Type 0 where
  pub untypes : UntypesFrame call f
  pub freezes : Freezing o f k count stamp

-- An open call of core c, which stands here, has found a count word k of frame f that no core held, and has left it as one that the core
-- holds.
pub record Takes (t : Trace) (o : Option ActiveCall) (c f k was now : ℕ) : Type 0 where
  pub call : Call
  pub is_open : phase t c ≡ Open call
  pub count : ℤ
  pub stamp : ℕ
  pub found : count_of_word was ≡ Some (unheld count stamp)
  pub left : ((count_of_word now ≡ Some (acquired c count stamp)) × IsOwnCount o call c f k count stamp)
      ⊎ ((count_of_word now ≡ Some (frozen c count stamp)) × IsSweptCount o call f k count stamp)

-- What a step of core c leaves in count word k of frame f.
abbrev pub LeavesCount : Trace → Option ActiveCall → ℕ → ℕ → ℕ → ℕ → ℕ → Type 0
LeavesCount t o c f k was now = (now ≡ was) ⊎ ((count_mark (count_of_word now) ≡ None) ⊎ Takes t o c f k was now)

stored_by : (r : Reply) (drawn : Option ℕ) (x : Acquired)
    → committed (done_by r drawn) x ≡ word_of_count (settled_word (commit_of (is_ok r) drawn x))
stored_by (Reply.Ok v) drawn x = refl
stored_by r drawn x = refl

same_count : (g j f k : ℕ) → CountAt g j ≡ CountAt f k → g ≡ f
same_count g j f k h = cc

same_number : (g j f k : ℕ) → CountAt g j ≡ CountAt f k → j ≡ k
same_number g j f k h = cc

-- A call that fills its target, makes a component, calls, or switches makes no frame untyped.
put_types : (call : Call) (ks : List Capability) (read : Option ℕ) (k : Capability) → put_by call ks read ≡ Some k → untypes call ≡ false
put_types (Retype r f kind) ks read k puts = absurd (cc)
put_types call ks read k puts = refl

none_due : (xs : List Due) (d : Due) (ys : List Due) → [] ≡ xs ++ d ∷ ys → ⊥
none_due [] d ys h = cc
none_due (x ∷ xs) d ys h = cc

not_untyping : (call : Call) (g : ℕ) → untypes call ≡ false → UntypesFrame call g → ⊥
not_untyping call g not is = false≢true (sym not ∙ ap untypes is.is)

-- So the frame of a count that an act acquires is none that its call makes untyped.
module _ (setup : Setting) (setting : IsSetting setup) (cores : ℕ → Core) (t : Trace) (stands : Invariant setup cores t) (c : ℕ)
    (here : c < setup.cores) (a : ActiveCall) (active : (cores c).active ≡ Some a) (pin : Pin) (change : ℤ) where
  closes_none : (close : Close) (cap : Capability) → KnowsClose setup t c a.call (plan_for a.call) a.found close cap → untypes a.call
      ≡ false
  closes_none (close_compare node index word by) cap has = removal_types a.call has.removal.removes
  closes_none (AtDraw node index) cap has = removal_types a.call has.removes
  closes_none (AtStore node index x) cap has = absurd has

  swept_none : (m : Untyping) (at : UntypingAt) → is_drawing at ≡ true → KnowsUntypingAt setup t c m.frame at → SparesAt at (pin_frame pin)
      → (g : ℕ) → pin_frame pin ≡ g → m.frame ≡ g → ⊥
  swept_none m (untype.Draw word w) draws knows spares g own same = spares (own ∙ sym same ∙ sym knows.frame)
  swept_none m _ draws knows spares g own same = false≢true draws

  same_untyping : (call : Call) (f g : ℕ) → UntypesFrame call f → UntypesFrame call g → f ≡ g
  same_untyping call f g first second = same_frame first.range f second.range g (sym first.is ∙ second.is)
    where
      same_frame : (r f q g : ℕ) → Retype r f FrameKind.Untyped ≡ Retype q g FrameKind.Untyped → f ≡ g
      same_frame r f q g h = cc

  spares_frame : (act : ActOf) → a.stage ≡ Undecided (Acquire pin change act)
      → KnowsUndecided setup t c (cores c).own.table a (Acquire pin change act) → UntypesFrame a.call (pin_frame pin) → ⊥
  spares_frame (fill_act fill) is has by = not_untyping a.call (pin_frame pin)
      (put_types a.call a.found has.knows.knows.read fill.cap has.knows.knows.puts) by
  spares_frame (map_act fill) is has by = not_untyping a.call (pin_frame pin)
      (put_types a.call a.found None fill.cap has.knows.knows.puts) by
  spares_frame (remove_act close cap) is has by = not_untyping a.call (pin_frame pin) (closes_none close cap has.knows.knows) by
  spares_frame (make_act m) is has by = not_untyping a.call (pin_frame pin) (made_types a.call a.found m has.knows.knows.makes) by
  spares_frame (kill_act m) is has by = not_untyping a.call (pin_frame pin) (kill_types a.call a.found m.comp has.knows.knows.kills) by
  spares_frame (comp_act m) is has by = not_untyping a.call (pin_frame pin)
      (ap untypes (comp_call a.call a.found m has.knows.knows.makes).call_is) by
  spares_frame (invoke_act m) is has by = not_untyping a.call (pin_frame pin)
      (ap untypes (invoke_of a.call a.found m has.knows.knows.invokes).call_is) by
  spares_frame (return_act m) is has by = not_untyping a.call (pin_frame pin) (ap untypes has.knows.knows.call_is) by
  spares_frame (switch_act m) is has by = not_untyping a.call (pin_frame pin)
      (ap untypes (switch_of a.call a.found (claimed_by m.at) m.tcap has.knows.knows.switches).call_is) by
  spares_frame (untype_act m) is has by = swept_none m m.at has.knows.starts has.knows.knows.at
      (sweep_spares setup setting cores t stands c here a active pin change m is has) (pin_frame pin) refl
      (same_untyping a.call m.frame (pin_frame pin) (untypes_frame a.call a.found m has.knows.knows.untypes) by)
  spares_frame act is has by =
      none_due (map due_of a.counts) (record { frame = pin_frame pin; change = change }) has.knows.rest has.knows.due

module _ (setup : Setting) (setting : IsSetting setup) (cores : ℕ → Core) (t : Trace) (stands : Invariant setup cores t) (c : ℕ)
    (here : c < setup.cores) (f k : ℕ) where
  abbrev was : ℕ
  was = last_left setup t (CountAt f k)

  abbrev LeavesIt : ℕ → Type 0
  LeavesIt now = LeavesCount t (cores c).active c f k was now

  -- what an operation leaves there, if it is on this word
  abbrev Leaves : Move → Type 0
  Leaves move = word_of move ≡ CountAt f k → LeavesIt (left_of move was)

  beside : (move : Move) → is_count (word_of move) ≡ false → Leaves move
  beside move not at = absurd (false≢true (sym not ∙ ap is_count at))

  core_fits : (core : ℕ) → core ≡ c → core < 8
  core_fits core own = let most = setting.most_cores in omega (arith, most, own, here)

  -- a compare that expects a count which no core holds
  compared : (call : Call) (count : ℤ) (stamp : ℕ) (new : ℕ) → phase t c ≡ Open call → CountFits (unheld count stamp)
      → (((count_of_word new ≡ Some (acquired c count stamp)) × IsOwnCount (cores c).active call c f k count stamp)
      ⊎ ((count_of_word new ≡ Some (frozen c count stamp)) × IsSweptCount (cores c).active call f k count stamp))
      → LeavesIt (left_if (was == word_of_count (unheld count stamp)) was new)
  compared call count stamp new is_open fits left = by (was == word_of_count (unheld count stamp)) refl
    where
      by : (won : Bool) → (was == word_of_count (unheld count stamp)) ≡ won → LeavesIt (left_if won was new)
      by false is = inl refl
      by true is = inr (inr (record {
        call = call;
        is_open = is_open;
        count = count;
        stamp = stamp;
        found = ap count_of_word (eqb-true was (word_of_count (unheld count stamp)) is) ∙ counts.spelling.reads (unheld count stamp) fits;
        left = left;
      }))

  pin_leaves : (call : Call) (pin : Pin) → phase t c ≡ Open call → pin_core pin ≡ c → HasLoaded t c pin
      → (UntypesFrame call (pin_frame pin) → ⊥)
      → ((frame core : ℕ) (count : ℤ) (stamp : ℕ) → pin ≡ AtCompare frame core count stamp
      → Acquiring (cores c).active frame core count stamp)
      → Leaves (pin_move pin)
  pin_leaves call (AtLoad frame core) is_open own loaded spares stands_at at = inl refl
  pin_leaves call (AtCompare frame core count stamp) is_open own loaded spares stands_at at =
      compared call count stamp (word_of_count (acquired core count stamp)) is_open loaded.fits
      (inl (
        counts.spelling.reads (acquired core count stamp) (core_fits core own, loaded.fits.1, loaded.fits.2)
            ∙ ap (λ (d : ℕ). Some (acquired d count stamp)) own,
        record {
          own = sym (same_number frame core f k at) ∙ own;
          spares = subst (λ (g : ℕ). UntypesFrame call g → ⊥) (same_count frame core f k at) spares;
          acquires = subst (λ (g : ℕ). Acquiring (cores c).active g k count stamp) (same_count frame core f k at)
              (subst (λ (j : ℕ). Acquiring (cores c).active frame j count stamp) (same_number frame core f k at)
              (stands_at frame core count stamp refl));
        },
      ))

  sweep_leaves : (call : Call) (g word : ℕ) (w : Sweep) → phase t c ≡ Open call → UntypesFrame call g → KnowsSweep setup t c g word w
      → ((count : ℤ) (stamp : ℕ) → w.at ≡ SweepAt.Compare count stamp → Freezing (cores c).active w.frame (length w.kept) count stamp)
      → (at : SweepAt) → w.at ≡ at → KnowsSweepAt setup t c g w at → Leaves (move_at w.frame w.core (length w.kept) at)
  sweep_leaves call g word w is_open untypes knows stands_at (SweepAt.Compare count stamp) at_is has at =
      compared call count stamp (word_of_count (frozen w.core count stamp)) is_open has.fits
      (inr (
        counts.spelling.reads (frozen w.core count stamp) (core_fits w.core knows.core, has.fits.1, has.fits.2)
            ∙ ap (λ (d : ℕ). Some (frozen d count stamp)) knows.core,
        record {
          untypes = subst (UntypesFrame call) (sym knows.frame ∙ same_count w.frame (length w.kept) f k at) untypes;
          freezes = subst (λ (i : ℕ). Freezing (cores c).active i k count stamp) (same_count w.frame (length w.kept) f k at)
              (subst (λ (j : ℕ). Freezing (cores c).active w.frame j count stamp) (same_number w.frame (length w.kept) f k at)
              (stands_at count stamp at_is));
        },
      ))
  sweep_leaves call g word w is_open untypes knows stands_at (SweepAt.Scan q) at_is has at = beside (quiet_move q) (quiet_beside q) at
  sweep_leaves call g word w is_open untypes knows stands_at _ at_is has at = inl refl

  untyping_leaves : (call : Call) (g core : ℕ) (at : UntypingAt) → phase t c ≡ Open call → UntypesFrame call g
      → KnowsUntypingAt setup t c g at
      → ((word : ℕ) (w : Sweep) (count : ℤ) (stamp : ℕ) → at ≡ untype.Sweep word w → w.at ≡ SweepAt.Compare count stamp
      → Freezing (cores c).active w.frame (length w.kept) count stamp)
      → Leaves (untyping_at g core at)
  untyping_leaves call g core untype.Load is_open untypes has stands_at = beside (untyping_at g core untype.Load) refl
  untyping_leaves call g core (untype.Mark word v) is_open untypes has stands_at = beside (untyping_at g core (untype.Mark word v)) refl
  untyping_leaves call g core (untype.Sweep word w) is_open untypes has stands_at =
      sweep_leaves call g word w is_open untypes has (λ count stamp. stands_at word w count stamp refl) w.at refl has.at
  untyping_leaves call g core (untype.Draw word w) is_open untypes has stands_at = beside (untyping_at g core (untype.Draw word w)) refl

  module _ (a : ActiveCall) (active : (cores c).active ≡ Some a) where
    act_leaves : (act : ActOf) → a.stage ≡ Undecided (Act act) → phase t c ≡ Open a.call
        → KnowsAct setup t c a.call (plan_for a.call) a.found setup.cores act → Leaves (act_move act)
    act_leaves (remove_act close cap) is is_open has = beside (close_move close) (close_beside close)
    act_leaves (type_act y) is is_open has = beside (act_move (type_act y)) (typing_beside y.frame y.kind y.at)
    act_leaves (make_act m) is is_open has = beside (act_move (make_act m)) (making_beside m.frame m.object m.core m.fill m.at)
    act_leaves (tick_act charge) is is_open has = beside (charge_move charge) (charge_beside charge)
    act_leaves (touch_act m) is is_open has = beside (look_move m.look) (look_beside m.look)
    act_leaves (kill_act m) is is_open has = beside (act_move (kill_act m)) (killing_beside m.comp m.core m.at)
    act_leaves (untype_act m) is is_open has =
        untyping_leaves a.call m.frame m.core m.at is_open (untypes_frame a.call a.found m has.untypes) has.at
        (λ word w count stamp at_is compares. record {
          a = a;
          active = active;
          m = m;
          word = word;
          w = w;
          stage = is;
          sweeps = at_is;
          frame = refl;
          number = refl;
          at = compares;
        })
    act_leaves (comp_act m) is is_open has = beside (act_move (comp_act m)) (comp_beside m m.at)
    act_leaves (invoke_act m) is is_open has = beside (act_move (invoke_act m)) (invoking_beside m.comp m.at)
    act_leaves (return_act m) is is_open has = beside (act_move (return_act m)) (returning_beside m.thread m.depth m.at)
    act_leaves (share_act p) is is_open has = beside (act_move (share_act p)) (pair_beside p p.at)
    act_leaves (refill_act r) is is_open has = beside (act_move (refill_act r)) (refill_beside r r.at)
    act_leaves (switch_act m) is is_open has = beside (act_move (switch_act m)) (switching_beside m m.at)
    act_leaves act is is_open has = beside (act_move act) refl

    -- what a call stores in a word that it holds, no core holds then
    pub stores : (g j x : ℕ) → (holds (cores c)).marks (CountAt g j) ≡ true → (holds (cores c)).stands (CountAt g j) ≡ x
        → count_mark (count_of_word x) ≡ None
    stores g j x marks settles = ap count_mark says.says
      where
        settled_is : settled setup (held_by cores) t (CountAt g j) ≡ x
        settled_is =
            ap (λ o. settled_by o (held_by cores) (CountAt g j) (last_left setup t (CountAt g j)))
            ((stands.marks (CountAt g j) c).kept marks)
            ∙ settles

        says : SaysCount (count_of_word x)
        says = subst (λ (n : ℕ). SaysCount (count_of_word n)) settled_is (stands.words (CountAt g j))

    module _ (r : Reply) (drawn : Option ℕ) where
      abbrev fate : Option (Option ℕ)
      fate = done_by r drawn

      held_is : (tail : Tail) → a.stage ≡ Decided r drawn tail → holds (cores c) ≡ holds_at (Decided r drawn tail) a.counts
      held_is tail is = ap holds_in active ∙ ap (λ s. holds_at s a.counts) is

      -- the commit of a count
      pub commits : (x : Acquired) (xs : List Acquired) → a.counts ≡ x ∷ xs → a.stage ≡ Decided r drawn Nothing
          → count_mark (count_of_word (word_of_count (settled_word (commit_of (is_ok r) drawn x)))) ≡ None
      commits x xs all is =
          stores x.pin.frame x.pin.core (word_of_count (settled_word (commit_of (is_ok r) drawn x)))
          (ap (λ h. h.marks (count_of x)) held ∙ first_marked fate x xs)
          (ap (λ h. h.stands (count_of x)) held ∙ first_stands fate x xs ∙ stored_by r drawn x)
        where
          held : holds (cores c) ≡ holds_counts fate (x ∷ xs)
          held = held_is Nothing is ∙ ap (holds_counts fate) all

      -- that of one beside frozen counters
      pub commits_beside : (y : ReleaseOf) (x : Acquired) (xs : List Acquired) → a.counts ≡ x ∷ xs → a.stage ≡ Decided r drawn (Release y)
          → KnowsRelease a.call (x ∷ xs) y
          → count_mark (count_of_word (word_of_count (settled_word (commit_of (is_ok r) drawn x)))) ≡ None
      commits_beside y x xs all is knows =
          stores x.pin.frame x.pin.core (word_of_count (settled_word (commit_of (is_ok r) drawn x)))
          (ap (λ h. h.marks (count_of x)) held ∙ away.0 ∙ first_marked fate x xs)
          (ap (λ h. h.stands (count_of x)) held ∙ away.1 ∙ first_stands fate x xs ∙ stored_by r drawn x)
        where
          held : holds (cores c) ≡ holds_release y (holds_counts fate (x ∷ xs))
          held = held_is (Release y) is ∙ ap (λ ys. holds_release y (holds_counts fate ys)) all

          away : ((holds_release y (holds_counts fate (x ∷ xs))).marks (count_of x) ≡ (holds_counts fate (x ∷ xs)).marks (count_of x))
              × ((holds_release y (holds_counts fate (x ∷ xs))).stands (count_of x) ≡ (holds_counts fate (x ∷ xs)).stands (count_of x))
          away = release_away y (holds_counts fate (x ∷ xs)) x.pin.frame x.pin.core knows.thaws
              (All-head (λ (z : Acquired). z.pin.frame ≢ y.frame) x xs knows.apart)

      -- the release of a frozen counter
      pub thaw_unheld : (y : ReleaseOf) (th : Thaw) → y.thaw ≡ Some th → a.stage ≡ Decided r drawn (Release y)
          → ThawFits (cores c).own.layout th
          → count_mark (count_of_word (word_of_count (released th.clear (slice_get th.words th.at)))) ≡ None
      thaw_unheld y th is at fits = stores th.frame th.at
          (word_of_count (released th.clear (slice_get th.words th.at)))
          (ap (λ h. h.marks (CountAt th.frame th.at)) held ∙ frozen_here.0)
          (ap (λ h. h.stands (CountAt th.frame th.at)) held ∙ frozen_here.1)
        where
          held : holds (cores c) ≡ holds_release y (holds_counts fate a.counts)
          held = held_is (Release y) at

          frozen_here : ((holds_release y (holds_counts fate a.counts)).marks (CountAt th.frame th.at) ≡ true)
              × ((holds_release y (holds_counts fate a.counts)).stands (CountAt th.frame th.at)
              ≡ word_of_count (released th.clear (slice_get th.words th.at)))
          frozen_here = subst (λ (q : Option Thaw). ((holds_thaw q (holds_counts fate a.counts)).marks (CountAt th.frame th.at) ≡ true)
              × ((holds_thaw q (holds_counts fate a.counts)).stands (CountAt th.frame th.at)
              ≡ word_of_count (released th.clear (slice_get th.words th.at)))) (sym is)
              (thaw_here th (holds_counts fate a.counts) th.at (omega arith) fits.at)

      thaws : (y : ReleaseOf) (o : Option Thaw) → y.thaw ≡ o → a.stage ≡ Decided r drawn (Release y)
          → IfSome o (ThawFits (cores c).own.layout) → Leaves (release_at y.frame y.word o)
      thaws y None is at fits = beside (release_at y.frame y.word None) refl
      thaws y (Some th) is at fits = λ word. inr (inl (thaw_unheld y th is at fits))

      tail_leaves : (tail : Tail) (xs : List Acquired) → a.stage ≡ Decided r drawn tail → a.counts ≡ xs
          → KnowsAt setup t c (cores c).own.table a (Decided r drawn tail) → StageFits (cores c).own.layout (Decided r drawn tail)
          → Leaves (tail_move r drawn tail xs)
      tail_leaves (Quiesce close) xs is all has fits = beside (close_move close) (close_beside close)
      tail_leaves (Push x) xs is all has fits = beside (push_move x) (push_beside x)
      tail_leaves (Pop x) xs is all has fits = beside (pop_move x) (pop_beside x)
      tail_leaves (Share p) xs is all has fits = beside (tail_move r drawn (Share p) xs) (pair_beside p p.at)
      tail_leaves Nothing (x ∷ xs) is all has fits = λ word. inr (inl (commits x xs all is))
      tail_leaves (Release y) [] is all has fits = thaws y y.thaw refl is fits.thaw
      tail_leaves (Release y) (x ∷ xs) is all has fits = λ word. inr (inl (commits_beside y x xs all is
          (subst (λ (ys : List Acquired). KnowsRelease a.call ys y) all has.1)))
      tail_leaves tail xs is all has fits = beside (tail_move r drawn tail xs) refl

    stage_leaves : (stage : Stage) → a.stage ≡ stage → phase t c ≡ phase_at a.call stage → KnowsAt setup t c (cores c).own.table a stage
        → Leaves (stage_move (cores c).own a.counts stage)
    stage_leaves Enter is at has = absurd has
    stage_leaves (Living (AtComp comp)) is at has = beside (stage_move (cores c).own a.counts (Living (AtComp comp))) refl
    stage_leaves (Living (AtLive life)) is at has = beside (stage_move (cores c).own a.counts (Living (AtLive life))) refl
    stage_leaves (Undecided (Lookup look)) is at has = beside (look_move look) (look_beside look)
    stage_leaves (Undecided (Read comp look)) is at has = beside (stage_move (cores c).own a.counts (Undecided (Read comp look))) refl
    stage_leaves (Undecided (Scan q act)) is at has = beside (quiet_move q) (quiet_beside q)
    stage_leaves (Undecided (Acquire pin change act)) is at has = pin_leaves a.call pin at has.knows.core has.knows.loaded
        (spares_frame setup setting cores t stands c here a active pin change act is has)
        (λ frame core count stamp pin_is. record {
          a = a;
          active = active;
          change = change;
          act = act;
          stage = is ∙ ap (λ x. Undecided (Acquire x change act)) pin_is;
          few =
              let waits : length a.counts < length (dues act) =
              subst (λ x. CountsAt a.counts x) is (is_active setup setting cores t stands c here a active).counts in
              let four = few_dues act in
              omega (arith, waits, four);
        })
    stage_leaves (Undecided (Act act)) is at has = act_leaves act is at has.knows.knows
    stage_leaves (Decided r drawn tail) is at has = tail_leaves r drawn tail a.counts is refl has
        (subst (StageFits (cores c).own.layout) is (is_active setup setting cores t stands c here a active).stage)
    stage_leaves (Leave r x) is at has = beside (stage_move (cores c).own a.counts (Leave r x)) refl

  call_leaves : (o : Option ActiveCall) → (cores c).active ≡ o → IsSome o → CallIs setup t c (cores c).own.table o
      → Leaves (move_in (cores c).own o)
  call_leaves None active some is = absurd (false≢true some)
  call_leaves (Some a) active some is = stage_leaves a active a.stage refl is.phase is.knows

-- A step of the machine.
module _ (setup : Setting) (setting : IsSetting setup) (t : Trace) (e : Step) (made : IsMade setup (e ∷ t)) (f k : ℕ) where
  abbrev core : Core
  core = cores_after setup t e.core

  stands : Invariant setup (cores_after setup t) t
  stands = made_stands setup setting t made.0

  pub count_step : word_of e.move ≡ CountAt f k
      → LeavesCount t core.active e.core f k (last_left setup t (CountAt f k)) (left_of e.move e.found)
  count_step at =
      subst (λ (n : ℕ). LeavesCount t core.active e.core f k (last_left setup t (CountAt f k)) (left_of e.move n))
      (sym (made.1.found ∙ ap (last_left setup t) at))
      (subst (λ (m : Move). LeavesCount t core.active e.core f k (last_left setup t (CountAt f k))
      (left_of m (last_left setup t (CountAt f k))))
      (sym move_is) (by e.enters made.1.may (ap word_of (sym move_is) ∙ at)))
    where
      move_is : e.move ≡ move_of (stepping_core setup t e)
      move_is = ap (λ (x : Step). x.move) made.1.made

      by : (o : Option Call) → MayStep o core → word_of (move_of (turned o core)) ≡ CountAt f k
          → LeavesCount t core.active e.core f k (last_left setup t (CountAt f k))
          (left_of (move_of (turned o core)) (last_left setup t (CountAt f k)))
      by None may word =
          call_leaves setup setting (cores_after setup t) t stands e.core made.1.is_core f k core.active refl may
          (stands.each e.core made.1.is_core).active word
      by (Some call) may word = absurd (cc)
