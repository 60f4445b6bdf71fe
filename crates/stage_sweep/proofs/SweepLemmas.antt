-- A sweep stays on the words of the machine while it goes on, whatever words are found.
use Rattle.stage_sweep.specs as low
use Rattle.std.proofs.Common.{◌≡◌, ℕ, ◌+◌, ◌==◌, ◌<◌, ◌≤◌, Bool, true, false, nat_lt, List, [], ◌∷◌, ◌++◌, length, Option, Some, None}
use Rattle.std.proofs.Common.{IfSome, MatchBool, if◌then◌else◌, refl, arith, ltb-true}
use low.{counters_of, loads_of, may_be_cached, AtFits, SweepFits, move_at, sweep_move, frozen_at, kept_with, load_next, empty_next}
use low.{scan_next, compare_next, scan_goes, at_after, sweep_refuses, sweep_next, sweep_kept, sweep_after, end_by, sweep_end}
use Rattle.stage_look.specs.word_map.specs.{Shape, IsShape, IsIn, word_of}
use Rattle.stage_quiet.specs.{QuietFits, quiet_end, quiet_after}
use Rattle.stage_look.specs.spk_nums.specs.{declared.kinds.Obj.Obj, declared.replies.Reply.Reply, declared.steps.StageEnd.StageEnd}
use Rattle.stage_look.specs.spk_nums.specs.{declared.steps.StageEnd.TheVariants.Going, declared.steps.StageEnd.TheVariants.Decided}
use Rattle.stage_look.specs.spk_nums.specs.{declared.steps.StageEnd.TheVariants.Done, declared.steps.StageEnd.TheVariants.Refuse}
use Rattle.stage_pins.specs.frame_words.specs.{Count.count_of_word, declared.count_word.CountWord.CountWord}
use Rattle.stage_quiet.proofs.QuietLemmas.{quiet_scan_fits, quiet_after_fits, quiet_is_in}
use low.{Freeze.StepFits, Freeze.KeepFits, Freeze.TookFits, Freeze.next_at, declared.sweep.Sweep.Sweep, declared.sweep.SweepAt.SweepAt}
use low.{declared.sweep.SweepAt.TheVariants.Load, declared.sweep.SweepAt.TheVariants.Compare, declared.sweep.SweepAt.TheVariants.Scan}
use low.{declared.sweep.SweepAt.TheVariants.Empty, declared.sweep.Swept.Swept}
use Rattle.{stage_pins.specs.frame_words.specs.declared.frame_word.FrameWord.FrameWord, stage_quiet.specs.declared.quiet.Quiet.Quiet}
use Rattle.stage_pins.specs.frame_words.proofs.CountLemmas as counts

pub took_fits : (s : Shape) (kept : List CountWord) (at : SweepAt) → AtFits s kept at → TookFits s at
took_fits s kept Load h = tt
took_fits s kept (Compare count stamp) h = h.1
took_fits s kept (Scan q) h = h
took_fits s kept (Empty entry) h = h

-- a frame has a counter for each core of the machine
pub counters_within : (s : Shape) → IsShape s → counters_of s ≤ s.cores
unfolding counters_of
counters_within s h = omega arith

-- a frame has a counter, so a sweep begins with one that is not frozen
pub some_counter : (s : Shape) → 1 ≤ s.cores → 0 < counters_of s
unfolding counters_of
some_counter s some = omega (arith, some)

counters_most : (s : Shape) → s.cores ≤ 8 → counters_of s ≤ 8
unfolding counters_of
counters_most s most = omega (arith, most)

-- a counter that is frozen finds room
pub keep_fits : (s : Shape) → s.cores ≤ 8 → (kept : List CountWord) (at : SweepAt) → AtFits s kept at → KeepFits kept at
keep_fits s most kept Load h = tt
keep_fits s most kept (Compare count stamp) h = let within = counters_most s most in (omega (arith, h.0, within), h.1)
keep_fits s most kept (Scan q) h = tt
keep_fits s most kept (Empty entry) h = tt

pub room_for : (kept : List CountWord) (at : SweepAt) (found : ℕ) (v : CountWord)
    → frozen_at at found ≡ Some v → KeepFits kept at → length kept < 8
room_for kept Load found v is h = absurd (cc)
room_for kept (Compare count stamp) found v is h = h.0
room_for kept (Scan q) found v is h = absurd (cc)
room_for kept (Empty entry) found v is h = absurd (cc)

pub step_fits : (kept : List CountWord) (at : SweepAt) → KeepFits kept at → StepFits at
step_fits kept Load h = tt
step_fits kept (Compare count stamp) h = h.1
step_fits kept (Scan q) h = tt
step_fits kept (Empty entry) h = tt

-- where there is room, what is added is added
pub added_so : (b : Bool) (xs ys : List CountWord) (v : CountWord)
    → MatchBool b ((length xs < 8) × (ys ≡ xs ++ v ∷ [])) ((length xs ≡ 8) × (ys ≡ xs)) → length xs < 8 → ys ≡ xs ++ v ∷ []
added_so true xs ys v h room = h.1
added_so false xs ys v h room = absurd (omega (arith, h.0, room))

-- the next step is on a word of the machine
pub sweep_is_in : (s : Shape) (w : Sweep) → IsShape s → SweepFits s w → IsIn s (word_of (sweep_move w))
sweep_is_in s w shape h = by_at w.at h.at where
  within : counters_of s ≤ s.cores
  within = counters_within s shape

  by_at : (at : SweepAt) → AtFits s w.kept at → IsIn s (word_of (move_at w.frame w.core (length w.kept) at))
  by_at Load a = (h.frame, omega (arith, a, within))
  by_at (Compare count stamp) a = (h.frame, omega (arith, a.0, within))
  by_at (Scan q) a = quiet_is_in s q a
  by_at (Empty entry) a = (h.frame, a)

load_next_fits : (s : Shape) (kept : List CountWord) (found : ℕ) (o : Option CountWord)
    → count_of_word found ≡ o → length kept < counters_of s → IfSome (load_next o) (AtFits s kept)
load_next_fits s kept found None is h = tt
load_next_fits s kept found (Some v) is h = (h, (counts.spelling.spells found v is).0.1)

empty_if : (s : Shape) (kept : List CountWord) (none : Bool) → IfSome (if none then None else Some (Empty 0)) (AtFits s kept)
empty_if s kept true = tt
empty_if s kept false = omega arith

empty_next_fits : (s : Shape) (kept : List CountWord) (o : Obj) → IfSome (empty_next o) (AtFits s kept)
empty_next_fits s kept o = empty_if s kept (loads_of o == 0)

scan_next_fits : (s : Shape) (kept : List CountWord) (o : Obj) (scan : Option Quiet)
    → IfSome scan (QuietFits s) → IfSome (scan_next o scan) (AtFits s kept)
scan_next_fits s kept o None h = empty_next_fits s kept o
scan_next_fits s kept o (Some q) h = h

more_fits : (s : Shape) (kept : List CountWord) (o : Obj) (scan : Option Quiet) (more : Bool)
    → more ≡ nat_lt (length kept) (counters_of s) → IfSome scan (QuietFits s) → IfSome (compare_next more o scan) (AtFits s kept)
more_fits s kept o scan true is h = ltb-true (length kept) (counters_of s) (cc)
more_fits s kept o scan false is h = scan_next_fits s kept o scan h

scan_goes_fits : (s : Shape) (kept : List CountWord) (o : Obj) (end : StageEnd (Unit {0})) (q : Quiet)
    → QuietFits s q → IfSome (scan_goes o end q) (AtFits s kept)
scan_goes_fits s kept o Going q h = h
scan_goes_fits s kept o (Decided r) q h = tt
scan_goes_fits s kept o (Done u) q h = empty_next_fits s kept o
scan_goes_fits s kept o (Refuse r) q h = tt

loads_most : (o : Obj) → loads_of o ≤ 64
loads_most Obj.Blank = omega arith
loads_most Obj.Table = omega arith
loads_most Obj.Leaf = omega arith
loads_most Obj.Pages = omega arith
loads_most Obj.Pleaf = omega arith
loads_most Obj.Comp = omega arith
loads_most Obj.Thread = omega arith
loads_most Obj.Tcap = omega arith

entry_fits : (s : Shape) (kept : List CountWord) (o : Obj) (entry : ℕ) (more : Bool)
    → more ≡ nat_lt (entry + 1) (loads_of o) → IfSome (if more then Some (Empty (entry + 1)) else None) (AtFits s kept)
entry_fits s kept o entry true is =
    let below : entry + 1 < loads_of o = ltb-true (entry + 1) (loads_of o) (cc) in
    omega (arith, below, loads_most o)
entry_fits s kept o entry false is = tt

-- where a step that finds this word does not refuse, it goes on on a word of the machine
next_fits : (s : Shape) (word : FrameWord) (core : ℕ) (kept : List CountWord) (at : SweepAt) (found : ℕ) → core < s.cores → AtFits s kept at
    → IfSome (next_at s word core (kept_with kept (frozen_at at found)) at found) (AtFits s (kept_with kept (frozen_at at found)))
next_fits s word core kept Load found c h = load_next_fits s kept found (count_of_word found) refl h
next_fits s word core kept (Compare count stamp) found c h =
    more_fits s _ word.object _ _ refl (quiet_scan_fits s _ core (may_be_cached word.kind word.object) c)
next_fits s word core kept (Scan q) found c h =
    scan_goes_fits s kept word.object (quiet_end s.cores q found) (quiet_after s.cores q found) (quiet_after_fits s q found h)
next_fits s word core kept (Empty entry) found c h = entry_fits s kept word.object entry _ refl

goes_fits : (s : Shape) (kept : List CountWord) (at : SweepAt) (r : Option Reply) (n : Option SweepAt) (swept : Swept)
    → end_by r n swept ≡ Going → IfSome n (AtFits s kept) → AtFits s kept (at_after at r n)
goes_fits s kept at (Some r) n swept e h = absurd (cc)
goes_fits s kept at None None swept e h = absurd (cc)
goes_fits s kept at None (Some a) swept e h = h

-- it stays on the words of the machine while it goes on
pub sweep_after_fits : (s : Shape) (w : Sweep) (found : ℕ)
    → sweep_end s w found ≡ Going → SweepFits s w → SweepFits s (sweep_after s w found)
sweep_after_fits s w found goes h = record {
  frame = h.frame;
  core = h.core;
  at = goes_fits s (sweep_kept w found) w.at (sweep_refuses s w found)
      (sweep_next s w found) _ goes (next_fits s w.word w.core w.kept w.at found h.core h.at);
}
