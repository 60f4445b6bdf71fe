-- Worked traces that the laws of calls refuse: when they are decided, what they have found, and what scans have shown.
use Rattle.kernel_history.proofs.{◌≡◌, inl, ◌<◌, false, [], refl, arith, Some, None, drop, false≢true, true≢false, cap_of, PlaceOf}
use Rattle.kernel_history.proofs.{word_of_entry, entry_of_word, core_of_word, KeepsDiscipline, IsLegal, two_cores, may_follow, carried_out}
use Rattle.history_laws.specs.{AtEachMoment, AtEachStep, OfEachStretch, ReadyDecides, UnreadyRefuses, PlacesFound, ScannedCores}
use Rattle.history_laws.specs.Scenes.{looks_on, looked, none_ready, reads_stray, removed_beside, scans_stray}
use Rattle.history_laws.proofs.Traces.{whole, newest, since, breaks}
use Rattle.{kernel_history.proofs.Kind, kernel_history.proofs.Call, kernel_history.specs.range_word, kernel_history.specs.ready_to_look}
use Rattle.{kernel_history.specs.frame_words.specs.Core.word_of_core, kernel_history.specs.Scenes.range_found}
use Rattle.{history_laws.specs.Refusals.CallsRefuse, history_laws.proofs.Disciplined.disciplined_by}
use Rattle.{history_laws.proofs.Disciplined.go_disciplined}

-- A look that is ready decides nothing.
ready_refused : AtEachStep (ReadyDecides ready_to_look) looks_on → ⊥
unfolding two_cores looks_on
ready_refused law = false≢true (newest (ReadyDecides ready_to_look) looks_on law (Call.Look 0) refl refl)

looks_legal : IsLegal two_cores looks_on
unfolding two_cores looks_on word_of_entry
looks_legal = (((tt, may_follow refl refl (refl, tt) tt tt), may_follow refl refl tt tt tt), may_follow refl refl tt tt tt)

looks_disciplined : KeepsDiscipline two_cores looks_on
unfolding two_cores looks_on word_of_entry entry_of_word
looks_disciplined = go_disciplined two_cores 3 looks_on tt refl

-- A look is carried out where no core is ready.
unready_refused : AtEachStep (UnreadyRefuses none_ready) looked → ⊥
unfolding two_cores looked
unready_refused law = newest (UnreadyRefuses none_ready) looked law range_found refl refl

looked_legal : IsLegal two_cores looked
unfolding two_cores looked word_of_entry
looked_legal = (
  ((tt, may_follow refl refl (refl, tt) tt tt), may_follow refl refl tt tt tt),
  may_follow refl refl tt (carried_out {k = Call.Look 0} refl (refl, (refl, refl)) refl) tt,
)

looked_disciplined : KeepsDiscipline two_cores looked
unfolding two_cores looked word_of_entry entry_of_word
looked_disciplined = (go_disciplined two_cores 2 (drop 1 looked) tt refl, disciplined_by [] refl refl tt)

-- A place that is free is read as held.
places_refused : AtEachMoment (PlacesFound two_cores) reads_stray → ⊥
unfolding two_cores reads_stray range_word word_of_entry entry_of_word
places_refused law =
    let none : None ≡ Some (cap_of Kind.Range 8 24) =
    (whole (PlacesFound two_cores) reads_stray law 0 (Call.Look 20) refl 1 20 range_word (cap_of Kind.Range 8 24) refl refl refl).usable in
    cc

reads_legal : IsLegal two_cores reads_stray
unfolding two_cores reads_stray range_word word_of_entry
reads_legal = (
  (
    (((tt, may_follow refl refl (refl, omega arith) tt tt), may_follow refl refl tt tt tt), may_follow refl refl (refl, tt) tt tt),
    may_follow refl refl tt tt tt,
  ),
  may_follow refl refl tt tt tt,
)

reads_disciplined : KeepsDiscipline two_cores reads_stray
unfolding two_cores reads_stray range_word word_of_entry entry_of_word
reads_disciplined = go_disciplined two_cores 5 reads_stray tt refl

-- A core is shown out that is in its call.
scans_refused : OfEachStretch (ScannedCores two_cores) scans_stray → ⊥
unfolding two_cores removed_beside scans_stray core_of_word
scans_refused law = let later : 1 < 2 = omega arith in
    true≢false (since (ScannedCores two_cores) 0 scans_stray law 1 (record { inside = false; stamp = 0 }) refl refl 1 later (inl refl)
    (PlaceOf 1 13) refl)

removed_legal : IsLegal two_cores removed_beside
unfolding two_cores removed_beside word_of_entry
removed_legal = (
  (
    (
      (((tt, may_follow refl refl (refl, tt) tt tt), may_follow refl refl (refl, tt) tt tt), may_follow refl refl tt tt tt),
      may_follow refl refl tt tt tt,
    ),
    may_follow refl refl tt tt tt,
  ),
  may_follow refl refl tt (carried_out {k = Call.Remove 1 13} refl (refl, (refl, refl)) refl) tt,
)

scans_legal : IsLegal two_cores scans_stray
unfolding two_cores removed_beside scans_stray word_of_core
scans_legal = ((removed_legal, may_follow refl refl tt tt tt), may_follow refl refl tt tt tt)

removed_disciplined : KeepsDiscipline two_cores removed_beside
unfolding two_cores removed_beside word_of_entry entry_of_word
removed_disciplined = (go_disciplined two_cores 5 (drop 1 removed_beside) tt refl, disciplined_by [] refl refl tt)

scans_disciplined : KeepsDiscipline two_cores scans_stray
unfolding two_cores removed_beside scans_stray word_of_entry entry_of_word
scans_disciplined = go_disciplined two_cores 2 scans_stray removed_disciplined refl

pub calls_refuse : CallsRefuse
unfolding two_cores looks_on looked reads_stray removed_beside scans_stray range_word word_of_entry entry_of_word word_of_core
calls_refuse = record {
  ready_decides = breaks (AtEachStep (ReadyDecides ready_to_look)) looks_on looks_legal refl refl looks_disciplined ready_refused;
  unready_refuses = breaks (AtEachStep (UnreadyRefuses none_ready)) looked looked_legal refl refl looked_disciplined unready_refused;
  places_found = breaks (AtEachMoment (PlacesFound two_cores)) reads_stray reads_legal refl refl reads_disciplined places_refused;
  scanned_cores = breaks (OfEachStretch (ScannedCores two_cores)) scans_stray scans_legal refl refl scans_disciplined scans_refused;
}
