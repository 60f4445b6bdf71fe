-- What a core holds of what a call has marked beside its counts: words, and the counters that it has frozen.
use Rattle.std.specs.Prelude.{◌&&◌, ◌==◌, if◌then◌else◌, ◌∷◌}
use Rattle.act_fits.specs.act_states.specs.{ℕ, ltb as nat_lt, leb as nat_le, Bool, true, false, length, slice_get, Option, Some, None}
use Rattle.act_fits.specs.act_states.specs.{word_of_count, Word, CountAt, released, Thaw, List, [], Keeping.Keeping, KeepsWord}
use Rattle.act_fits.specs.act_states.specs.{KeepsCounters, Untypings.release_keeps, Untypings.untyping_keeps}
use Rattle.core_invariant.specs.Holding.{Holding, keeps}
use Rattle.{act_fits.specs.act_states.specs.declared.untypings.Release.Release}
use Rattle.{act_fits.specs.act_states.specs.declared.untypings.UntypingAt.UntypingAt}

-- Whether a word is a counter that is frozen and still to be released.
abbrev pub is_frozen : Thaw → Word → Bool
is_frozen t (CountAt f d) = f == t.frame && (nat_le t.at d && nat_lt d (length t.words))
is_frozen t _ = false

-- It stands for the word that is to be stored there: the count as it was found, or with no count and no stamp where the frame is cleared.
abbrev pub thawed : Thaw → Word → ℕ
thawed t (CountAt f d) = word_of_count (released t.clear (slice_get t.words d))
thawed t _ = 0

abbrev pub holds_thaw : Option Thaw → Holding → Holding
holds_thaw None h = h
holds_thaw (Some t) h = record {
  marks = λ u. if is_frozen t u then true else h.marks u;
  stands = λ u. if is_frozen t u then thawed t u else h.stands u;
  bare = h.bare;
}

-- What is held where one thing more is kept, and where all of these are.
abbrev pub holds_one : Keeping → Holding → Holding
holds_one (KeepsWord w x) h = keeps w x h
holds_one (KeepsCounters o) h = holds_thaw o h

abbrev pub holds_all : List Keeping → Holding → Holding
holds_all [] h = h
holds_all (k ∷ ks) h = holds_one k (holds_all ks h)

-- What is held until the release of a frame is done: its counters, and its word.
abbrev pub holds_release : Release → Holding → Holding
holds_release x h = holds_all (release_keeps x) h

-- Before its decision an untyping holds what a refusal would have to release, from when the frame is marked.
abbrev pub holds_untyping : ℕ → UntypingAt → Holding → Holding
holds_untyping f at h = holds_all (untyping_keeps f at) h
