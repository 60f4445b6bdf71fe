-- Worked traces that the laws of counts refuse, and one of which they tell a stamp that is drawn and has still to be stored.
use Rattle.kernel_history.proofs.{◌≡◌, ℕ, [], ◌∷◌, Some, refl, arith, drop, pos, whole_copy, sum_below, node_refs, refs, word_of_entry}
use Rattle.kernel_history.proofs.{entry_of_word, word_of_count, count_of_word, Closed, count_at, KeepsDiscipline, IsLegal, two_cores}
use Rattle.kernel_history.proofs.{last_left, may_follow, carried_out, Call, FrameKind}
use Rattle.history_laws.specs.{AtEachMoment, Untypes, CountsTell, FrozenSay, StampsTell, FrozenSums}
use Rattle.history_laws.specs.{Sums.IsFrozenBy, Scenes.count_word, Scenes.counts_five, Scenes.dates_early, Scenes.counts_twice}
use Rattle.history_laws.specs.{Scenes.freezes_one, Scenes.freezes_both, Scenes.copy_freezes, Scenes.draws_held, Refusals.CountsRefuse}
use Rattle.history_laws.proofs.{Traces.whole, Traces.breaks, Disciplined.disciplined_by, Disciplined.go_disciplined}
use Rattle.{std.proofs.lemmas.List.Elements.All-nil, std.proofs.lemmas.List.Elements.All-cons, kernel_history.specs.Trace.Open}

-- A copy that stores a wrong count.
five_legal : IsLegal two_cores counts_five
unfolding two_cores counts_five count_word word_of_count
five_legal = ((tt, may_follow refl refl (refl, omega arith) tt tt), may_follow refl refl tt tt tt)

five_disciplined : KeepsDiscipline two_cores counts_five
unfolding two_cores counts_five count_word word_of_count count_of_word sum_below node_refs refs
five_disciplined = go_disciplined two_cores 2 counts_five tt refl

five_refused : AtEachMoment (CountsTell two_cores) counts_five → ⊥
unfolding two_cores counts_five count_word word_of_count count_of_word sum_below node_refs refs
five_refused law = let is : 5 ≡ 2 = whole (CountsTell two_cores) counts_five law 0 in omega (arith, is)

-- A copy whose held count shows already what it has still to add.
twice_legal : IsLegal two_cores counts_twice
unfolding two_cores counts_twice count_word word_of_entry word_of_count
twice_legal = (
  (
    (((tt, may_follow refl refl (refl, omega arith) tt tt), may_follow refl refl tt tt tt), may_follow refl refl tt tt tt),
    may_follow refl refl tt tt tt,
  ),
  may_follow refl refl tt (carried_out {k = whole_copy 1 1 20} refl (refl, (refl, refl)) refl) tt,
)

twice_disciplined : KeepsDiscipline two_cores counts_twice
unfolding two_cores counts_twice count_word word_of_entry entry_of_word word_of_count count_of_word sum_below node_refs refs
twice_disciplined = (go_disciplined two_cores 4 (drop 1 counts_twice) tt refl, disciplined_by [] refl refl tt)

twice_refused : AtEachMoment (CountsTell two_cores) counts_twice → ⊥
unfolding two_cores counts_twice count_word word_of_count count_of_word sum_below node_refs refs
twice_refused law = let is : 4 ≡ 3 = whole (CountsTell two_cores) counts_twice law 0 in omega (arith, is)

-- A retype to untyped that freezes a count which shows one reference too many.
one_legal : IsLegal two_cores freezes_one
unfolding two_cores freezes_one count_word word_of_count
one_legal = ((tt, may_follow refl refl (refl, tt) tt tt), may_follow refl refl tt tt tt)

one_disciplined : KeepsDiscipline two_cores freezes_one
unfolding two_cores freezes_one count_word word_of_count count_of_word sum_below node_refs refs
one_disciplined = go_disciplined two_cores 2 freezes_one tt refl

one_refused : AtEachMoment (CountsTell two_cores) freezes_one → ⊥
unfolding two_cores freezes_one count_word word_of_count count_of_word sum_below node_refs refs
one_refused law = let is : 1 ≡ 0 = whole (CountsTell two_cores) freezes_one law 8 in omega (arith, is)

both_legal : IsLegal two_cores freezes_both
unfolding two_cores freezes_one freezes_both count_word word_of_count
both_legal = (one_legal, may_follow refl refl tt tt tt)

both_disciplined : KeepsDiscipline two_cores freezes_both
unfolding two_cores freezes_one freezes_both count_word word_of_count count_of_word sum_below node_refs refs
both_disciplined = go_disciplined two_cores 1 freezes_both one_disciplined refl

abbrev FrozenAt : ℕ → Type 0
FrozenAt k = IsFrozenBy 0 (count_at (last_left two_cores freezes_both) 8 k)

both_refused : AtEachMoment (FrozenSums two_cores) freezes_both → ⊥
unfolding two_cores freezes_one freezes_both count_word word_of_count count_of_word sum_below node_refs refs
both_refused law =
    let is : 1 ≡ 0 = (whole (FrozenSums two_cores) freezes_both law 8 0
    (All-cons FrozenAt 0 (1 ∷ []) refl (All-cons FrozenAt 1 [] refl (All-nil FrozenAt))) refl).sum in
    omega (arith, is)

-- A copy that stores a stamp which no grace period has.
early_legal : IsLegal two_cores dates_early
unfolding two_cores dates_early count_word word_of_count
early_legal = ((tt, may_follow refl refl (refl, omega arith) tt tt), may_follow refl refl tt tt tt)

early_disciplined : KeepsDiscipline two_cores dates_early
unfolding two_cores dates_early count_word word_of_count count_of_word sum_below node_refs refs
early_disciplined = go_disciplined two_cores 2 dates_early tt refl

early_refused : AtEachMoment (StampsTell two_cores) dates_early → ⊥
unfolding two_cores dates_early count_word word_of_count count_of_word
early_refused law = let is : 5 ≡ 0 = whole (StampsTell two_cores) dates_early law 0 in omega (arith, is)

-- A copy that freezes a count.
frozen_legal : IsLegal two_cores copy_freezes
unfolding two_cores copy_freezes count_word word_of_count
frozen_legal = ((tt, may_follow refl refl (refl, omega arith) tt tt), may_follow refl refl tt tt tt)

frozen_disciplined : KeepsDiscipline two_cores copy_freezes
unfolding two_cores copy_freezes count_word word_of_count count_of_word sum_below node_refs refs
frozen_disciplined = go_disciplined two_cores 2 copy_freezes tt refl

frozen_refused : AtEachMoment (FrozenSay two_cores) copy_freezes → ⊥
unfolding two_cores copy_freezes count_word word_of_count count_of_word
frozen_refused law =
    let is : Untypes 0 (Open (whole_copy 1 1 20)) =
    whole (FrozenSay two_cores) copy_freezes law 0 0 0 (record { hold = Closed 0; count = pos 2; stamp = 0 }) refl refl in
    unlike is.range is.is
  where
    unlike : (r : ℕ) → Some (whole_copy 1 1 20) ≡ Some (Call.Retype r 0 FrameKind.Untyped) → ⊥
    unlike r h = cc

pub counts_refuse : CountsRefuse
unfolding two_cores counts_five dates_early counts_twice freezes_one freezes_both copy_freezes draws_held count_word word_of_entry
    entry_of_word word_of_count count_of_word sum_below node_refs refs
counts_refuse = record {
  counts_tell = breaks (AtEachMoment (CountsTell two_cores)) counts_five five_legal refl refl five_disciplined five_refused;
  to_be_added = breaks (AtEachMoment (CountsTell two_cores)) counts_twice twice_legal refl refl twice_disciplined twice_refused;
  frozen_counts = breaks (AtEachMoment (CountsTell two_cores)) freezes_one one_legal refl refl one_disciplined one_refused;
  stamps_tell = breaks (AtEachMoment (StampsTell two_cores)) dates_early early_legal refl refl early_disciplined early_refused;
  drawn = refl;
  frozen_say = breaks (AtEachMoment (FrozenSay two_cores)) copy_freezes frozen_legal refl refl frozen_disciplined frozen_refused;
  frozen_sums = breaks (AtEachMoment (FrozenSums two_cores)) freezes_both both_legal refl refl both_disciplined both_refused;
}
