-- The steps by which a call that makes a frame untyped freezes its counters: the load, which finds another core's mark or a count that no
-- core holds; and the compare, which is lost to another core or freezes the counter. After the last, references refuse the call, or the
-- scan begins.
use Rattle.scan_invariant.specs as low
use low.step_ways.proofs.{All, ◌≡◌, ◌≢◌, inl, ℕ, ℤ, ◌<◌, ◌≤◌, length, slice_get, Bool, true, false, List, [], ◌∷◌, Option, Some, None}
use low.step_ways.proofs.{IsTrue, arith, refl, sym, ◌∙◌, ap, subst, eq-eqb, Setting, IsSetting, count_of_word, CountWord, FrameWord, Word}
use low.step_ways.proofs.{CountAt, Move, LoadOf, word_of, State, FrameOf, refs, count_mark, marked_by, frame_value, stamp, Step, Trace}
use low.step_ways.proofs.{state_after, last_left, own_read-here, unheld, Acquired, latest_stamp, at_after, end_by, swept_of, thaw_of, Owned}
use low.step_ways.proofs.{Sweep, SweepAt, Swept, took_sweep, release_of, Untyping, Tail, Act, Goes, Refuses, Undecided, ActiveCall, landed}
use low.step_ways.proofs.{Core, holds_release, holds_thaw, Holding, holds_counts, settled_by, settled, KnowsTail, KnowsUndecided, holds}
use low.step_ways.proofs.{holds_in, held_by, Invariant, KnowsSweep, SaysCount, names_on, IsInFootprint, if◌then◌else◌, Hold}
use low.step_ways.proofs.{Untype as untype_act, Release as release_tail, shape_of, counters, count_shown, OnlyLooks, step_to, loads_on}
use low.step_ways.proofs.{GoodTook, ticks_at, plan_for, Refusal}
use low.core_invariant.proofs.{Compare, AreFrozen, thaws_own, SameAt, thaw_all, thaw_from}
use low.kept_facts.proofs.{FrozenSums.counters_length, Swept.frame_says, Swept.kept_shows, Swept.stamp_is}
use low.{stage_sweep.specs.counters_of, stage_sweep.specs.load_refuses, stage_sweep.specs.load_next, kept_facts.proofs.HoldsSwept}
use low.{kept_facts.proofs.release_swept, kept_facts.proofs.no_refs, core_invariant.specs.is_frozen, core_invariant.specs.ThawsFrame}
use low.{stage_sweep.specs.declared.sweep.SweepAt.TheVariants.Load as sweep_load}
use low.{act_states.specs.declared.untypings.UntypingAt.TheVariants.Sweep as sweep_at, core_invariant.specs.Sweeps.HasReadCount}
use low.{core_invariant.specs.Frozen.thawed, core_invariant.proofs.Freezing.IsFrozenWord, core_invariant.proofs.Freezing.frozen_word}
use low.{step_ways.proofs.Refusals.busy_leaving, kernel_history.specs.Discipline.may_count, kernel_history.proofs.OwnCounts.untype_counts}
use Rattle.{std.proofs.lemmas.List.Elements.All-nil, freeze_invariant.proofs.UntypeCalls.IsUntype}
use Rattle.{freeze_invariant.proofs.UntypeCalls.untypes_on}
use Rattle.scan_invariant.specs.frame_words.proofs.CountLemmas as counts
use Rattle.freeze_invariant.proofs.UntypeCalls as calls

none_some : (d : ℕ) → None ≡ Some d → ⊥
none_some d h = cc

not_some : (v : CountWord) → None ≡ Some v → ⊥
not_some v h = cc

-- A counter that is not frozen yet is not held.
pub thaw_past : (w : Swept) (clear : Bool) (h : Holding) (d : ℕ) → length w.words ≤ d
    → SameAt (holds_thaw (thaw_of w clear) h) h (CountAt w.frame d)
thaw_past w clear h d past =
    let all = thaw_all w clear h (CountAt w.frame d) in (
      all.0 ∙ ap (λ b. if b then true else h.marks (CountAt w.frame d)) (none (is_frozen (thaw_from w clear) (CountAt w.frame d)) refl),
      all.1 ∙ ap (λ b. if b then thawed (thaw_from w clear) (CountAt w.frame d) else
          h.stands (CountAt w.frame d)) (none (is_frozen (thaw_from w clear) (CountAt w.frame d)) refl),
    )
  where
    same_count : (g i f j : ℕ) → CountAt g i ≡ CountAt f j → i ≡ j
    same_count g i f j h = cc

    none : (b : Bool) → is_frozen (thaw_from w clear) (CountAt w.frame d) ≡ b → b ≡ false
    none false at = refl
    none true at =
        let word : IsFrozenWord (thaw_from w clear) (CountAt w.frame d) = frozen_word (thaw_from w clear) (CountAt w.frame d) at in
        let same : d ≡ word.d = same_count w.frame d w.frame word.d word.word in
        let below = word.below in
        absurd (omega (arith, past, same, below))

-- A frame has a counter for each of the list.
pub counters_number : (setup : Setting) → counters_of (shape_of setup) ≡ length (counters setup.cores)
unfolding counters_of
counters_number setup = sym (counters_length setup.cores)

-- A sweep with these parts stands here.
abbrev pub sweeping : ℕ → FrameWord → ℕ → List CountWord → Owned → SweepAt → Sweep
sweeping g v b kept o at = record { frame = g; word = v; core = b; kept = kept; owned = o; at = at }

abbrev pub untyping_by : ℕ → ℕ → ℕ → Sweep → Untyping
untyping_by f core word w = record { frame = f; core = core; at = sweep_at word w }

-- What a call has of its sweep, wherever this stands.
module _ (setup : Setting) (setting : IsSetting setup) (cores : ℕ → Core) (t : Trace) (stands : Invariant setup cores t) (c : ℕ)
    (here : c < setup.cores)
    (a : ActiveCall) (active : (cores c).active ≡ Some a) (f core word : ℕ) (w : Sweep)
    (stage_is : a.stage ≡ Undecided (Act (untype_act (untyping_by f core word w))))
    (has : KnowsUndecided setup t c (cores c).own.table a (Act (untype_act (untyping_by f core word w)))) where
  abbrev sweep_call : Untyping
  sweep_call = untyping_by f core word w

  pub sweep_is : IsUntype a.call a.found f
  sweep_is = calls.is setup setting cores t stands c here a active sweep_call stage_is has

  pub sweep_knows : KnowsSweep setup t c f word w
  sweep_knows = has.knows.knows.at

  pub sweep_held : holds_in (Some a) ≡ holds_release (release_of f word (swept_of w) false) (holds_counts None a.counts)
  sweep_held = calls.held_at setup setting cores t stands c here a active sweep_call stage_is has (sweep_at word w) refl

  pub sweep_counts : a.counts ≡ []
  sweep_counts = calls.none_acquired setup setting cores t stands c here a active sweep_call stage_is has (sweep_at word w) refl refl

  -- what a refusal has to store, where the counters frozen then are these
  abbrev pub undo_with : List CountWord → Tail
  undo_with kept = release_tail (release_of f word (swept_of (record w { kept = kept })) false)

  pub undo_known : (u : Trace) (kept : List CountWord) → KnowsTail setup u c a.call a.counts (undo_with kept)
  undo_known u kept = (
    calls.leaves_word setup setting cores t stands c here a active sweep_call stage_is has word w.word sweep_knows.met,
    record {
      range = sweep_is.name;
      retypes = sweep_is.call_is;
      counting = calls.untype_counts a.call a.found f sweep_is;
      thaws = subst (λ (n : ℕ). ThawsFrame n (thaw_of (swept_of (record w { kept = kept })) false)) sweep_knows.frame
          (thaws_own (swept_of (record w { kept = kept })) false);
      apart = subst (All (λ y. y.pin.frame ≢ f)) (sym sweep_counts) (All-nil (λ y. y.pin.frame ≢ f));
    },
  )

  -- a step on one of its counters is one of the call
  pub counter_footprint : (move : Move) (d : ℕ) → word_of move ≡ CountAt w.frame d
      → IsTrue (may_count c a.call w.frame d)
  counter_footprint move d at = subst (λ k. IsTrue (may_count c k w.frame d)) (sym sweep_is.call_is)
      (untype_counts sweep_is.name f w.frame c d sweep_knows.frame)

  pub footprint_counter : (d : ℕ) → IsInFootprint c a.call (CountAt w.frame d) (state_after setup t)
  footprint_counter d = subst (λ (n : ℕ). IsInFootprint c a.call (CountAt n d) (state_after setup t))
      (sym sweep_knows.frame) (calls.footprint setup setting cores t stands c here a active sweep_call stage_is has)

  -- its next counter is not held yet
  pub next_bare : (d : ℕ) → length w.kept ≤ d → (holds_in (Some a)).marks (CountAt w.frame d) ≡ false
  next_bare d past = ap (λ h. h.marks (CountAt w.frame d)) sweep_held
      ∙ (thaw_past (swept_of w) false (holds_counts None a.counts) d past).0
      ∙ ap (λ (xs : List Acquired). (holds_counts None xs).marks (CountAt w.frame d)) sweep_counts

  -- what it holds stands for what was found, so the frame is what its word says
  pub sweep_settles : (q : Word) → (holds (cores c)).marks q ≡ true → settled setup (held_by cores) t q ≡ (holds (cores c)).stands q
  sweep_settles q is = ap (λ x. settled_by x (held_by cores) q (last_left setup t q)) ((stands.marks q c).kept is)

  pub sweep_holds : HoldsSwept (holds (cores c)) f word w.kept
  sweep_holds = subst (λ h. HoldsSwept h f word w.kept) (sym (ap holds_in active ∙ sweep_held))
      (release_swept f word (swept_of w) (holds_counts None a.counts) sweep_knows.frame)

  pub sweep_frame : w.word ≡ frame_value ((state_after setup t).frame f)
  sweep_frame = same_value w.word (frame_value ((state_after setup t).frame f)) (sym sweep_knows.met.says
      ∙ frame_says setup cores t stands c f word w.kept (holds (cores c)) sweep_settles sweep_holds sweep_knows.kept)
    where
      same_value : (x y : FrameWord) → Some x ≡ Some y → x ≡ y
      same_value x y h = cc

  -- each counter that it has frozen shows what was found there
  pub sweep_shows : (d : ℕ) (v : CountWord) → slice_get w.kept d ≡ Some v
      → count_shown setup (held_by cores) t f d ≡ Some (unheld v.count v.stamp)
  sweep_shows = kept_shows setup cores t stands c f word w.kept (holds (cores c)) sweep_settles sweep_holds sweep_knows.kept

  -- where all counters are frozen nothing refers to the frame, and their latest stamp is the frame's
  pub sweep_refs : AreFrozen setup.cores w.kept → refs (state_after setup t) f ≡ 0
  sweep_refs all =
      no_refs setup cores t stands c f word w.kept (holds (cores c)) sweep_settles sweep_holds sweep_knows.kept all setting

  pub sweep_since : AreFrozen setup.cores w.kept → stamp setup t (FrameOf f) ≡ latest_stamp w.kept
  sweep_since all = stamp_is setup cores t stands c f word w.kept (holds (cores c)) sweep_settles sweep_holds sweep_knows.kept all

-- The load of a counter.
module _ (setup : Setting) (setting : IsSetting setup) (cores : ℕ → Core) (t : Trace) (stands : Invariant setup cores t) (c : ℕ)
    (here : c < setup.cores)
    (a : ActiveCall) (active : (cores c).active ≡ Some a) (f core word g : ℕ) (v : FrameWord) (b : ℕ) (kept : List CountWord) (o : Owned)
    (stage_is : a.stage ≡ Undecided (Act (untype_act (untyping_by f core word (sweeping g v b kept o sweep_load)))))
    (has : KnowsUndecided setup t c (cores c).own.table a (Act (untype_act (untyping_by f core word (sweeping g v b kept o sweep_load)))))
  where
    abbrev s : State
    s = state_after setup t

    abbrev w : Sweep
    w = sweeping g v b kept o sweep_load

    abbrev m : Untyping
    m = untyping_by f core word w

    abbrev at : Word
    at = CountAt g (length kept)

    abbrev was : ℕ
    was = last_left setup t at

    abbrev load : Move
    load = LoadOf at

    loads_counter : OnlyLooks setup t c a.call load
    loads_counter = record {
      of_call = record {
        moves = counter_footprint setup setting cores t stands c here a active f core word w stage_is has load (length kept) refl;
        footprint = inl (footprint_counter setup setting cores t stands c here a active f core word w stage_is has (length kept));
      };
      kept = refl;
      apart = λ d. refl;
    }

    abbrev After : Option CountWord → Sweep
    After shown = sweeping g v b kept o (at_after sweep_load (load_refuses shown) (load_next shown))

    abbrev Goal : Option CountWord → Type 0
    Goal shown = GoodTook setup cores t c load (landed a (took_sweep m word (After shown)
        (end_by (load_refuses shown) (load_next shown) (swept_of (After shown)))))

    held_good : (d : ℕ) → marked_by setup t at ≡ Some d
        → GoodTook setup cores t c load (landed a (Refuses (Refusal.Busy d) (release_tail (release_of f word (swept_of w) false))))
    held_good d mark = busy_leaving setup setting cores t stands c here a active
        (calls.opens setup setting cores t stands c here a active m stage_is has)
        (undo_with setup setting cores t stands c here a active f core word w stage_is has kept)
        (sym (sweep_held setup setting cores t stands c here a active f core word w stage_is has))
        (λ e. undo_known setup setting cores t stands c here a active f core word w stage_is has (e ∷ t) kept)
        (calls.room setup setting cores t stands c here a active m stage_is has) load loads_counter (ap ticks_at stage_is) d
        (next_bare setup setting cores t stands c here a active f core word w stage_is has (length kept) (omega arith)) mark tt

    free_good : (count : ℤ) (stamp : ℕ) → count_of_word was ≡ Some (unheld count stamp)
        → GoodTook setup cores t c load
        (landed a (Goes (Act (untype_act (untyping_by f core word (sweeping g v b kept o (Compare count stamp)))))))
    free_good count stamp shown lands =
        let e : Step = step_to c None load was None None in
        let is_open = calls.is_open setup setting cores t stands c here a active m stage_is has in
        let knows = sweep_knows setup setting cores t stands c here a active f core word w stage_is has in
        let spells = counts.spelling.spells was (unheld count stamp) shown in
        loads_on setup setting cores t stands c here a active load a.found
        (Undecided (Act (untype_act (untyping_by f core word (sweeping g v b kept o (Compare count stamp)))))) loads_counter lands
        (sym (sweep_held setup setting cores t stands c here a active f core word w stage_is has))
        (calls.opens setup setting cores t stands c here a active m stage_is has)
        (λ carries. record {
          acts = has.acts;
          names = names_on setup setting t e stands.legal c a.call is_open carries (cores c).own.table (plan_for a.call) a.found has.names;
          knows = record {
            knows = record {
              untypes = untypes_on a.call a.found m (untyping_by f core word (sweeping g v b kept o (Compare count stamp))) refl
                  has.knows.knows.untypes;
              core = has.knows.knows.core;
              at = record {
                frame = knows.frame;
                core = knows.core;
                met = knows.met;
                kept = knows.kept;
                at = subst (λ (n : ℕ). HasReadCount (e ∷ t) c n (length kept) (unheld count stamp)) knows.frame (record {
                  own = own_read-here c e t refl at refl ∙ ap (λ x. if x then Some was else None) (eq-eqb was was refl)
                      ∙ ap (λ (n : ℕ). Some n) (sym spells.1);
                  fits = spells.0;
                });
              };
            };
            all = has.knows.all;
            goes = refl;
          };
        })

    says : marked_by setup t at ≡ None → SaysCount (count_of_word was)
    says bare = subst (λ x. SaysCount (count_of_word (settled_by x (held_by cores) at was))) bare (stands.words at)

    pub counter_load_good : Goal (count_of_word was)
    counter_load_good = by_word (count_of_word was) refl
      where
        by_hold : (h : Hold) (count : ℤ) (stamp : ℕ) → count_of_word was ≡ Some (record { hold = h; count = count; stamp = stamp })
            → Goal (Some (record { hold = h; count = count; stamp = stamp }))
        by_hold Hold.Unheld count stamp shown = free_good count stamp shown
        by_hold (Hold.Pinned d) count stamp shown = held_good d (ap count_mark shown)
        by_hold (Hold.Closed d) count stamp shown = held_good d (ap count_mark shown)

        by_word : (shown : Option CountWord) → count_of_word was ≡ shown → Goal shown
        by_word None shown = absurd (not_some _ (sym shown ∙ (says (ap count_mark shown)).says))
        by_word (Some u) shown = by_hold u.hold u.count u.stamp shown
