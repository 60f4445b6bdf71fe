-- Worked traces and states that the laws of time refuse.
use Rattle.kernel_history.proofs.{◌≡◌, ◌⊎◌, inl, inr, ℕ, ◌+◌, ◌<◌, Bool, true, false, [], ◌∷◌, Option, Some, None, refl, ◌∙◌, ap, arith}
use Rattle.kernel_history.proofs.{drop, Nothing, sum_below, Judged, Found, TcapFields, Kernel, Tcap, tcap_at, Capability, word_of_entry}
use Rattle.kernel_history.proofs.{entry_of_word, word_of_head, head_of_word, quality_of_word, HeadWord, QualityWord, KeepsDiscipline}
use Rattle.kernel_history.proofs.{IsLegal, two_cores, may_follow, carried_out, Call}
use Rattle.history_laws.specs.{AtEachMoment, AtEachStep, TimeSums, TicksAreCounted, BackIsCounted, HeadsSay, OpenHeadsSay}
use Rattle.history_laws.specs.{state_of_decision, MarkedHeadsSay, ListsSay, TestsTell}
use Rattle.kernel_history.specs.{preemption, preempts, done}
use Rattle.state_laws.specs.kernel_rules.specs.Rules.{Refused}
use Rattle.history_laws.specs.{Sums.HeadHolds, Time.KeepsTicks, Time.ShowsOwed, Time.LeadsTo, Time.TellsOf, Scenes.head_word}
use Rattle.history_laws.specs.{Scenes.ticks_lost, Scenes.tick_refused, Scenes.replenish_unspent, Scenes.budget_lost, Scenes.marked_lost}
use Rattle.history_laws.specs.{Scenes.list_changed, Scenes.taken_early, Scenes.added_twice, Scenes.tests_nothing, Refusals.TimeRefuses}
use Rattle.history_laws.proofs.{Traces.whole, Traces.newest, Traces.breaks, Disciplined.disciplined_by, Disciplined.go_disciplined}

-- What words show.
budget_in : Option HeadWord → ℕ
budget_in None = 0
budget_in (Some v) = v.budget

quality_in : Option (ℕ × ℕ) → ℕ
quality_in None = 0
quality_in (Some p) = p.1

first_in : Option QualityWord → ℕ
first_in None = 0
first_in (Some v) = quality_in v.0

frame_in : Judged Capability → ℕ
frame_in (Refused r) = 0
frame_in (Found k) = k.frame

-- The temporal capability of core 0 with this budget.
abbrev with_ticks : ℕ → TcapFields
with_ticks budget = record { budget = budget; qualities = (0, 1) ∷ [] }

-- sums

lost_refused : KeepsTicks two_cores ticks_lost → ⊥
unfolding two_cores ticks_lost sum_below
lost_refused kept = let is : 150 ≡ 200 = kept in omega (arith, is)

counted_refused : AtEachMoment (TicksAreCounted two_cores) tick_refused → ⊥
unfolding two_cores tick_refused
counted_refused law = let is : 0 ≡ 1 = whole (TicksAreCounted two_cores) tick_refused law 0 in omega (arith, is)

back_refused : AtEachMoment (BackIsCounted two_cores) replenish_unspent → ⊥
unfolding two_cores replenish_unspent
back_refused law = let is : 0 ≡ 1 = (whole (BackIsCounted two_cores) replenish_unspent law 0).is in omega (arith, is)

-- heads and lists

budget_legal : IsLegal two_cores budget_lost
unfolding two_cores budget_lost head_word word_of_head
budget_legal = ((tt, may_follow refl refl (refl, omega arith) tt tt), may_follow refl refl tt tt tt)

budget_disciplined : KeepsDiscipline two_cores budget_lost
unfolding two_cores budget_lost head_word word_of_head head_of_word
budget_disciplined = go_disciplined two_cores 2 budget_lost tt refl

sums_refused : AtEachMoment (TimeSums two_cores) budget_lost → ⊥
unfolding two_cores budget_lost head_word word_of_head head_of_word budget_in
sums_refused law =
    let holds : HeadHolds two_cores budget_lost 6 100 = (whole (TimeSums two_cores) budget_lost law).heads 6 (with_ticks 100) refl in
    let is : 5 ≡ holds.shown = ap budget_in holds.says in
    let all : holds.shown ≡ 100 = holds.transit in
    omega (arith, is, all)

heads_refused : AtEachMoment (HeadsSay two_cores) budget_lost → ⊥
unfolding two_cores budget_lost head_word word_of_head head_of_word budget_in
heads_refused law =
    let is : 5 ≡ 100 = ap budget_in (whole (HeadsSay two_cores) budget_lost law 6 (with_ticks 100) refl refl).says in
    omega (arith, is)

marked_legal : IsLegal two_cores marked_lost
unfolding two_cores marked_lost head_word word_of_head
marked_legal = ((tt, may_follow refl refl (refl, omega arith) tt tt), may_follow refl refl tt tt tt)

marked_disciplined : KeepsDiscipline two_cores marked_lost
unfolding two_cores marked_lost head_word word_of_head head_of_word
marked_disciplined = go_disciplined two_cores 2 marked_lost tt refl

open_refused : AtEachMoment (OpenHeadsSay two_cores) marked_lost → ⊥
unfolding two_cores marked_lost head_word word_of_head head_of_word budget_in
open_refused law =
    let is : 5 ≡ 100 =
    ap budget_in (whole (OpenHeadsSay two_cores) marked_lost law 6 (with_ticks 100) 0 (Call.Tick 1) refl refl refl).says in
    omega (arith, is)

list_legal : IsLegal two_cores list_changed
unfolding two_cores list_changed
list_legal = ((tt, may_follow refl refl (refl, omega arith) tt tt), may_follow refl refl tt tt tt)

list_disciplined : KeepsDiscipline two_cores list_changed
unfolding two_cores list_changed
list_disciplined = go_disciplined two_cores 2 list_changed tt refl

list_refused : AtEachMoment (ListsSay two_cores) list_changed → ⊥
unfolding two_cores list_changed word_of_head head_of_word quality_of_word quality_in first_in
list_refused law =
    let low : 0 < 8 = omega arith in
    let is : 2 ≡ 1 = ap first_in (whole (ListsSay two_cores) list_changed law 6 (with_ticks 100) refl refl 0 low) in
    omega (arith, is)

-- transfers and delegations

taken_legal : IsLegal two_cores taken_early
unfolding two_cores taken_early head_word word_of_head word_of_entry
taken_legal = (
  (
    (((tt, may_follow refl refl (refl, tt) tt tt), may_follow refl refl tt tt tt), may_follow refl refl tt tt tt),
    may_follow refl refl tt tt tt,
  ),
  may_follow refl refl tt (carried_out {k = Call.Transfer 12 13 10} refl (refl, (refl, refl)) refl) tt,
)

taken_disciplined : KeepsDiscipline two_cores taken_early
unfolding two_cores taken_early head_word word_of_head head_of_word word_of_entry entry_of_word
taken_disciplined = (
  go_disciplined two_cores 4 (drop 1 taken_early) tt refl,
  disciplined_by ((7, Kernel (Tcap (with_ticks 110))) ∷ (6, Kernel (Tcap (with_ticks 90))) ∷ []) refl refl
      ((tt, λ i d is. is), λ i d is. is),
)

taken_refused : AtEachMoment (MarkedHeadsSay two_cores) taken_early → ⊥
unfolding two_cores taken_early head_word word_of_head head_of_word budget_in
taken_refused law =
    let owed : ShowsOwed (state_of_decision two_cores taken_early 0) 0 (Call.Transfer 12 13 10) done 6 90 (Some (record {
      budget = 90;
      mark = Some 0;
      version = 0;
    })) = whole (MarkedHeadsSay two_cores) taken_early law 6 (with_ticks 90) 0 (Call.Transfer 12 13 10) done refl refl refl in
    let is : 90 ≡ owed.shown = ap budget_in owed.shows.says in
    let still : owed.shown ≡ 100 = owed.owes.1 in
    omega (arith, is, still)

added_legal : IsLegal two_cores added_twice
unfolding two_cores added_twice head_word word_of_head word_of_entry
added_legal = (
  (
    (((tt, may_follow refl refl (refl, tt) tt tt), may_follow refl refl tt tt tt), may_follow refl refl tt tt tt),
    may_follow refl refl tt tt tt,
  ),
  may_follow refl refl tt (carried_out {k = Call.Delegate 12 13 10} refl (refl, (refl, refl)) refl) tt,
)

added_disciplined : KeepsDiscipline two_cores added_twice
unfolding two_cores added_twice head_word word_of_head head_of_word word_of_entry entry_of_word
added_disciplined = (
  go_disciplined two_cores 4 (drop 1 added_twice) tt refl,
  disciplined_by
      ((7, Kernel (Tcap (with_ticks 110))) ∷ (7, Kernel (Tcap (with_ticks 110))) ∷ (6, Kernel (Tcap (with_ticks 90))) ∷ []) refl refl
      (((tt, λ i d is. is), λ i d is. is), λ i d is. is),
)

-- The head of frame 7 is not that of the first name, and shows more than the second is to get.
added_owes : (shown : ℕ) → 120 ≡ shown → (LeadsTo (state_of_decision two_cores added_twice 0) 0 12 7 × (shown ≡ 120))
    ⊎ (LeadsTo (state_of_decision two_cores added_twice 0) 0 13 7 × (shown + 10 ≡ 110)) → ⊥
unfolding two_cores added_twice frame_in
added_owes shown is (inl first) = let six : 6 ≡ 7 = ap frame_in first.0.is_named ∙ first.0.frame in omega (arith, six)
added_owes shown is (inr second) = let more : shown + 10 ≡ 110 = second.1 in omega (arith, is, more)

added_refused : AtEachMoment (MarkedHeadsSay two_cores) added_twice → ⊥
unfolding two_cores added_twice head_word word_of_head head_of_word budget_in
added_refused law =
    let owed : ShowsOwed (state_of_decision two_cores added_twice 0) 0 (Call.Delegate 12 13 10) done 7 110 (Some (record {
      budget = 120;
      mark = Some 0;
      version = 0;
    })) = whole (MarkedHeadsSay two_cores) added_twice law 7 (with_ticks 110) 0 (Call.Delegate 12 13 10) done refl refl refl in
    added_owes owed.shown (ap budget_in owed.shows.says) owed.owes

-- tests

no_answer : (b : Bool) → Nothing ≡ preemption b → ⊥
no_answer true h = cc
no_answer false h = cc

test_refused : AtEachStep (TestsTell two_cores) tests_nothing → ⊥
unfolding two_cores tests_nothing
test_refused law =
    let tells : TellsOf (state_of_decision two_cores tests_nothing 0) 0 12 13 Nothing =
    newest (TestsTell two_cores) tests_nothing law 12 13 Nothing refl refl in
    no_answer (preempts (tcap_at (state_of_decision two_cores tests_nothing 0) tells.first.frame)
    (tcap_at (state_of_decision two_cores tests_nothing 0) tells.second.frame)) tells.answer

pub time_refuses : TimeRefuses
unfolding two_cores budget_lost marked_lost list_changed taken_early added_twice head_word word_of_entry word_of_head
time_refuses = record {
  time_is_kept = lost_refused;
  ticks_are_counted = counted_refused;
  back_is_counted = back_refused;
  time_sums = breaks (AtEachMoment (TimeSums two_cores)) budget_lost budget_legal refl refl budget_disciplined sums_refused;
  heads_say = breaks (AtEachMoment (HeadsSay two_cores)) budget_lost budget_legal refl refl budget_disciplined heads_refused;
  open_heads_say = breaks (AtEachMoment (OpenHeadsSay two_cores)) marked_lost marked_legal refl refl marked_disciplined open_refused;
  marked_heads_say = breaks (AtEachMoment (MarkedHeadsSay two_cores)) taken_early taken_legal refl refl taken_disciplined taken_refused;
  delegated = breaks (AtEachMoment (MarkedHeadsSay two_cores)) added_twice added_legal refl refl added_disciplined added_refused;
  lists_say = breaks (AtEachMoment (ListsSay two_cores)) list_changed list_legal refl refl list_disciplined list_refused;
  tests_tell = test_refused;
}
