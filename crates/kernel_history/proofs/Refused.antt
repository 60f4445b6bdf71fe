-- Worked traces that one definition alone refuses: the discipline, the footprints, the bounds, and what the words say. The checker
-- computes what holds of each.
use Rattle.kernel_history.specs.{◌≡◌, ℕ, ◌<◌, ◌≤◌, Bool, true, false, [], ◌∷◌, Option, Some, None, refl, whole_copy, bound_of, InLimits}
use Rattle.kernel_history.specs.{Call, Entry, word_of_entry, entry_of_word, core_of_word, word_of_count, word_of_frame, word_of_live}
use Rattle.kernel_history.specs.{CoreWord, EntryAt, FrameAt, CountAt, CoreAt, FlushAt, LiveAt, ClockAt, Move, LoadOf, StoreOf, AddOf}
use Rattle.kernel_history.specs.{word_of, Slot, sum_below, node_refs, refs, FrameKind, KeepsDiscipline, IsInFootprint, StepsInFootprint}
use Rattle.kernel_history.specs.{IsLegal, Step, state_after, WasBefore, two_cores, there, enters, goes, range_word}
use Rattle.kernel_rules.proofs.{sym, ◌∙◌, ap, subst, arith, false≢true, Make}
use Rattle.kernel_history.specs.Scenes.{one_step, mark_word, retyped, named, marked_beside}
use Rattle.kernel_history.specs.Refusals.{no_flags, BreaksDiscipline, DisciplineRefuses, OwnCountsRefuse, BreaksFootprint, FootprintsRefuse}
use Rattle.kernel_history.specs.Refusals.{BoundsRefuse, looks_six, WordsRefuse}
use Rattle.kernel_history.proofs.Computed.{neither, none, fits, may_follow, is_within, keeps_bounds, is_in_it, keeps_footprints}
use Rattle.kernel_history.proofs.Computed.{is_in_footprint, not_in_footprint, moves_well, undisciplined, has_reached, some_call}
use Rattle.{frame_words.specs.Core.word_of_core, kernel_history.specs.Moments.CoreSays, kernel_history.specs.Moments.EntrySays}

abbrev slot : ℕ → ℕ → Slot
slot f i = record { node = f; index = i }

-- The operation of a call that core 0 has just entered.
abbrev next : Call → Move → Step
next k m =
    record { core = 0; move = m; found = there (enters 0 k []) (word_of m); enters = None; decides = None; returns = None }

-- Whether it fits the machine.
abbrev fits_next : Call → Move → Bool
fits_next k m = fits two_cores (enters 0 k []) (next k m)

-- A call that core 0 has entered makes one operation: what it needs to be legal.
lone_legal : (k : Call) (m : Move) → InLimits k → fits_next k m ≡ true → IsLegal two_cores (one_step k m)
unfolding two_cores
lone_legal k m limits fit = ((tt, may_follow refl refl (refl, limits) tt tt), may_follow fit refl tt tt tt)

-- the discipline

row : (k : Call) (m : Move) → InLimits k → fits_next k m ≡ true → is_in_it two_cores (one_step k m) ≡ true
    → is_within 2 (one_step k m) ≡ true → moves_well (state_after two_cores (enters 0 k [])) 0 k m ≡ false → BreaksDiscipline (one_step k m)
row k m limits fit footprint within not = record {
  legal = lone_legal k m limits fit;
  footprint = keeps_footprints two_cores (one_step k m) footprint;
  within = keeps_bounds 2 (one_step k m) within;
  refused = undisciplined k refl not;
}

retype_user : BreaksDiscipline (goes 0 (StoreOf (EntryAt 8 0) 1) (retyped FrameKind.User 1))
unfolding two_cores retyped word_of_entry word_of_frame
retype_user = record {
  legal = (
    (
      (((tt, may_follow refl refl (refl, tt) tt tt), may_follow refl refl tt tt tt), may_follow refl refl tt tt tt),
      may_follow refl refl tt (record {
        call = Call.Retype 0 8 FrameKind.User;
        is_open = refl;
        permitted = (refl, (refl, refl));
        justified = has_reached (retyped FrameKind.User 1) 0 (slot 0 0 ∷ slot 1 0 ∷ []) refl;
      }) tt,
    ),
    may_follow refl refl tt tt tt,
  );
  footprint = keeps_footprints two_cores (goes 0 (StoreOf (EntryAt 8 0) 1) (retyped FrameKind.User 1)) refl;
  within = keeps_bounds 2 (goes 0 (StoreOf (EntryAt 8 0) 1) (retyped FrameKind.User 1)) refl;
  refused = undisciplined (Call.Retype 0 8 FrameKind.User) refl refl;
}

retype_blank : BreaksDiscipline (goes 0 (StoreOf (EntryAt 8 0) 1) (retyped FrameKind.Kernel 2))
unfolding two_cores retyped word_of_entry word_of_frame
retype_blank = record {
  legal = (
    (
      (((tt, may_follow refl refl (refl, tt) tt tt), may_follow refl refl tt tt tt), may_follow refl refl tt tt tt),
      may_follow refl refl tt (record {
        call = Call.Retype 0 8 FrameKind.Kernel;
        is_open = refl;
        permitted = (refl, (refl, refl));
        justified = has_reached (retyped FrameKind.Kernel 2) 0 (slot 0 0 ∷ slot 1 0 ∷ []) refl;
      }) tt,
    ),
    may_follow refl refl tt tt tt,
  );
  footprint = keeps_footprints two_cores (goes 0 (StoreOf (EntryAt 8 0) 1) (retyped FrameKind.Kernel 2)) refl;
  within = keeps_bounds 2 (goes 0 (StoreOf (EntryAt 8 0) 1) (retyped FrameKind.Kernel 2)) refl;
  refused = undisciplined (Call.Retype 0 8 FrameKind.Kernel) refl refl;
}

-- Core 0 puts the mark of core 1, which it may not.
marks_another : KeepsDiscipline two_cores (one_step (whole_copy 0 1 20) (StoreOf (EntryAt 1 20) (mark_word 1))) → ⊥
unfolding two_cores mark_word word_of_entry entry_of_word
marks_another keeps = neither (λ h. let was : None ≡ Some 1 = h in cc)
    (λ own. let other : 0 ≡ 1 = own.0 in omega (arith, other)) (keeps.1.marks (EntryAt 1 20) 1 refl)

-- Core 0 fills the place that core 1 has marked.
fills_marked : BreaksDiscipline (goes 0 (StoreOf (EntryAt 1 21) range_word) marked_beside)
unfolding two_cores range_word mark_word named marked_beside word_of_entry entry_of_word
fills_marked = record {
  legal = (
    (
      (
        (
          (((tt, may_follow refl refl (refl, omega arith) tt tt), may_follow refl refl tt tt tt), may_follow refl refl tt tt tt),
          may_follow refl refl tt tt tt,
        ),
        may_follow refl refl (refl, omega arith) tt tt,
      ),
      may_follow refl refl tt tt tt,
    ),
    may_follow refl refl tt tt tt,
  );
  footprint = keeps_footprints two_cores (goes 0 (StoreOf (EntryAt 1 21) range_word) marked_beside) refl;
  within = keeps_bounds 2 (goes 0 (StoreOf (EntryAt 1 21) range_word) marked_beside) refl;
  refused = λ keeps. let kept : 1573377 ≡ 6 = keeps.1.keeps 1 refl (λ e. omega (arith, e)) in omega (arith, kept);
}

pub discipline_refuses : DisciplineRefuses
unfolding two_cores mark_word word_of_entry word_of_frame word_of_live word_of_core word_of_count sum_below node_refs refs
discipline_refuses = record {
  look_changes_a_place = row (Call.Look 0) (StoreOf (EntryAt 1 0) 0) tt refl refl refl refl;
  copy_changes_a_thread = row (whole_copy 0 1 20) (StoreOf (EntryAt 4 1) 0) (omega arith) refl refl refl refl;
  copy_changes_a_budget = row (whole_copy 0 1 20) (StoreOf (EntryAt 6 0) 0) (omega arith) refl refl refl refl;
  return_changes_a_component = row Call.Ret (StoreOf (EntryAt 3 0) 1) tt refl refl refl refl;
  retype_writes_untyped = row (Call.Retype 0 8 FrameKind.User) (StoreOf (EntryAt 8 0) 1) tt refl refl refl refl;
  retype_writes_a_user_frame = retype_user;
  retype_writes_a_blank_frame = retype_blank;
  copy_looks_at_a_frame = row (whole_copy 0 1 20) (LoadOf (FrameAt 1)) (omega arith) refl refl refl refl;
  map_changes_a_frame = row (Call.Map 2 0 0 8 no_flags) (StoreOf (FrameAt 8) 1) (omega arith) refl refl refl refl;
  tick_looks_at_a_number = row (Call.Tick 1) (LoadOf (LiveAt 0)) (omega arith) refl refl refl refl;
  return_looks_at_a_number = row Call.Ret (LoadOf (LiveAt 0)) tt refl refl refl refl;
  flush_looks_at_a_number = row Call.Flush (LoadOf (LiveAt 0)) tt refl refl refl refl;
  gate_changes_a_number = row (Call.Call 0) (StoreOf (LiveAt 0) 0) tt refl refl refl refl;
  leaf_changes_a_number = row (Call.Make Make.Leaf 0 8 1 20) (StoreOf (LiveAt 0) 0) tt refl refl refl refl;
  look_reads_a_count = row (Call.Look 0) (LoadOf (CountAt 0 0)) tt refl refl refl refl;
  tick_changes_a_count = row (Call.Tick 1) (StoreOf (CountAt 6 0) 0) (omega arith) refl refl refl refl;
  core_of_another = row (Call.Look 0) (StoreOf (CoreAt 1) 1) tt refl refl refl refl;
  flush_of_another = row Call.Flush (StoreOf (FlushAt 1) 1) tt refl refl refl refl;
  look_stores_a_flush = row (Call.Look 0) (StoreOf (FlushAt 0) 1) tt refl refl refl refl;
  clock_is_set = row (Call.Remove 1 0) (StoreOf ClockAt 0) tt refl refl refl refl;
  clock_jumps = row (Call.Remove 1 0) (AddOf ClockAt 2) tt refl refl refl refl;
  own_word_is_raised = row (Call.Remove 1 0) (AddOf (CoreAt 0) 1) tt refl refl refl refl;
  copy_raises_the_clock = row (whole_copy 0 1 20) (AddOf ClockAt 1) (omega arith) refl refl refl refl;
  puts_the_mark_of_another = record {
    legal = lone_legal (whole_copy 0 1 20) (StoreOf (EntryAt 1 20) (mark_word 1)) (omega arith) refl;
    footprint = keeps_footprints two_cores (one_step (whole_copy 0 1 20) (StoreOf (EntryAt 1 20) (mark_word 1))) refl;
    within = keeps_bounds 2 (one_step (whole_copy 0 1 20) (StoreOf (EntryAt 1 20) (mark_word 1))) refl;
    refused = marks_another;
  };
  fills_a_marked_place = fills_marked;
}

-- own count words

pub own_counts_refuse : OwnCountsRefuse
unfolding two_cores mark_word word_of_entry word_of_frame word_of_live word_of_core word_of_count sum_below node_refs refs
own_counts_refuse = record {
  reads_anothers = row (whole_copy 1 1 20) (LoadOf (CountAt 0 1)) (omega arith) refl refl refl refl;
  changes_anothers = row (whole_copy 1 1 20) (StoreOf (CountAt 0 1) 0) (omega arith) refl refl refl refl;
  untypes_another_frame = row (Call.Retype 0 8 FrameKind.Untyped) (StoreOf (CountAt 0 1) 0) tt refl refl refl refl;
  retypes_to_kernel = row (Call.Retype 0 8 FrameKind.Kernel) (StoreOf (CountAt 8 1) 0) tt refl refl refl refl;
}

-- the footprints

abbrev footprint_next : Call → Move → Bool
footprint_next k m = is_in_footprint 0 k (word_of m) (state_after two_cores (enters 0 k []))

-- A word that is not in the call's footprint as that is entered has not been in its footprint.
not_footprint : (k : Call) (m : Move) → footprint_next k m ≡ false → StepsInFootprint two_cores (enters 0 k []) (next k m) → ⊥
not_footprint k m not footprint = neither far (neither far none)
    (subst (λ j. WasBefore (IsInFootprint 0 j (word_of m)) two_cores (enters 0 k []) (next k m))
    (some_call footprint.call k (sym footprint.is_of)) footprint.footprint)
  where
    far : IsInFootprint 0 k (word_of m) (state_after two_cores (enters 0 k [])) → ⊥
    far = not_in_footprint 0 k (word_of m) (state_after two_cores (enters 0 k [])) not

astray : (k : Call) (m : Move) → InLimits k → fits_next k m ≡ true → is_within 2 (one_step k m) ≡ true
    → footprint_next k m ≡ false → BreaksFootprint (one_step k m)
astray k m limits fit within not = record {
  legal = lone_legal k m limits fit;
  within = keeps_bounds 2 (one_step k m) within;
  refused = λ footprint. not_footprint k m not footprint.1;
}

pub footprints_refuse : FootprintsRefuse
unfolding two_cores word_of_entry word_of_frame word_of_live
footprints_refuse = record {
  look_reads_a_far_entry = astray (Call.Look 0) (LoadOf (EntryAt 8 0)) tt refl refl refl;
  map_reads_a_far_frame = astray (Call.Map 2 0 0 8 no_flags) (LoadOf (FrameAt 9)) (omega arith) refl refl refl;
  copy_changes_a_far_count = astray (whole_copy 0 1 20) (StoreOf (CountAt 9 0) 0) (omega arith) refl refl refl;
  kill_reads_a_far_number = astray (Call.Kill 3) (LoadOf (LiveAt 5)) tt refl refl refl;
}

-- the bounds

pub bounds_refuse : BoundsRefuse
unfolding two_cores word_of_entry
bounds_refuse = record {
  within = keeps_bounds 2 looks_six refl;
  legal = (
    (
      (
        (
          (
            (((tt, may_follow refl refl (refl, tt) tt tt), may_follow refl refl tt tt tt), may_follow refl refl tt tt tt),
            may_follow refl refl tt tt tt,
          ),
          may_follow refl refl tt tt tt,
        ),
        may_follow refl refl tt tt tt,
      ),
      may_follow refl refl tt tt tt,
    ),
    may_follow refl refl tt tt tt,
  );
  refused = λ keeps. too_many keeps.1.call (some_call keeps.1.call (Call.Look 0) (sym keeps.1.is_of)) keeps.1.steps;
}
  where
    too_many : (k : Call) → k ≡ Call.Look 0 → 8 ≤ bound_of k 2 → ⊥
    too_many k is steps = let bound : bound_of k 2 ≡ 7 = ap (λ k. bound_of k 2) is in omega (arith, bound, steps)

-- what the words say

is_inside : Option CoreWord → Bool
is_inside None = false
is_inside (Some v) = v.inside

-- The word 0 of a core in a call says that it is in none.
says_out : CoreSays two_cores (one_step (Call.Look 0) (StoreOf (CoreAt 0) 0)) 0 → ⊥
unfolding two_cores core_of_word is_inside
says_out says = let is : says.value.inside ≡ false = ap is_inside (sym says.says) in
    false≢true (sym is ∙ says.inside.1 (λ out. cc))

entry_kind : Option Entry → ℕ
entry_kind None = 0
entry_kind (Some Entry.Free) = 1
entry_kind (Some (Entry.Held k)) = 2
entry_kind (Some (Entry.Closing d)) = 3
entry_kind (Some (Entry.Quiescing stamp)) = 4

-- The word of a free place says that it holds the range.
says_held : EntrySays two_cores (one_step (whole_copy 0 1 20) (StoreOf (EntryAt 1 20) range_word)) 1 20 → ⊥
unfolding two_cores range_word word_of_entry entry_of_word entry_kind
says_held = neither (λ free. let h : 2 ≡ 1 = ap entry_kind free in omega (arith, h))
    (λ closed. let h : 2 ≡ 3 = ap entry_kind closed.says in omega (arith, h))

pub words_refuse : WordsRefuse
unfolding two_cores range_word word_of_entry
words_refuse = record {
  core_says_out = record {
    legal = lone_legal (Call.Look 0) (StoreOf (CoreAt 0) 0) tt refl;
    footprint = keeps_footprints two_cores (one_step (Call.Look 0) (StoreOf (CoreAt 0) 0)) refl;
    within = keeps_bounds 2 (one_step (Call.Look 0) (StoreOf (CoreAt 0) 0)) refl;
    refused = λ say. let below : 0 < 2 = omega arith in says_out (say.1.cores 0 below);
  };
  entry_is_filled = record {
    legal = lone_legal (whole_copy 0 1 20) (StoreOf (EntryAt 1 20) range_word) (omega arith) refl;
    footprint = keeps_footprints two_cores (one_step (whole_copy 0 1 20) (StoreOf (EntryAt 1 20) range_word)) refl;
    within = keeps_bounds 2 (one_step (whole_copy 0 1 20) (StoreOf (EntryAt 1 20) range_word)) refl;
    refused = λ say. let frame : 1 < 32 = omega arith in let place : 20 < 64 = omega arith in
        says_held (say.1.entries 1 20 frame place refl);
  };
}
