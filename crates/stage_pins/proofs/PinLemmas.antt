-- Acquiring a count stays on its word and within its range, whatever words are found.
use Rattle.std.proofs.Common.{◌≡◌, ℕ, ℤ, pos, negsuc, ◌+ℤ◌, ◌<◌, ◌∙◌, Option, Some, None, refl, ap, sym, arith}
use Rattle.stage_pins.specs.{unheld, changed, PinFits, pinned_at, pin_move, pin_after, pin_end, load_end, end_by_hold, after_load}
use Rattle.word_map.specs.{CountAt, Shape, IsIn, word_of, StoreOf}
use Rattle.frame_words.specs.{NumberFits, word_of_count, count_of_word, wrapped}
use Rattle.frame_words.specs.{declared.count_word.CountWord.CountWord, declared.count_word.Hold.Hold}
use Rattle.stage_pins.specs.{Acquire.expected_by, Acquire.after_hold, Commit.SettleFits, declared.pin.Pin.Pin}
use Rattle.stage_pins.specs.{declared.pin.Pin.TheVariants.AtLoad, declared.pin.Pin.TheVariants.AtCompare, declared.settle.Settle.Settle}
use Rattle.{stage_pins.specs.settle_move, std.proofs.lemmas.Int.ints}
use Rattle.{word_map.specs.spk_nums.specs.declared.steps.StageEnd.TheVariants.Going}
use Rattle.{frame_words.proofs.ResidueLemmas.wrapped_same}
use Rattle.frame_words.proofs.CountLemmas as counts

after_hold_fits : (s : Shape) (frame core : ℕ) (count : ℤ) (stamp : ℕ) (h : Hold)
    → NumberFits count → frame < s.frames → core < s.cores → PinFits s (after_hold frame core count stamp h)
after_hold_fits s frame core count stamp Hold.Unheld n f c = (f, c, n)
after_hold_fits s frame core count stamp (Hold.Pinned by) n f c = (f, c)
after_hold_fits s frame core count stamp (Hold.Closed by) n f c = (f, c)

after_load_fits : (s : Shape) (frame core found : ℕ) (o : Option CountWord) → count_of_word found ≡ o
    → frame < s.frames → core < s.cores → PinFits s (after_load frame core o)
after_load_fits s frame core found None is f c = (f, c)
after_load_fits s frame core found (Some v) is f c =
    after_hold_fits s frame core v.count v.stamp v.hold (counts.spelling.spells found v is).0.1 f c

-- it stays within the machine, and the count that it found is within its range
pub after_fits : (s : Shape) (pin : Pin) (found : ℕ) → PinFits s pin → PinFits s (pin_after pin found)
after_fits s (AtLoad frame core) found h = after_load_fits s frame core found (count_of_word found) refl h.0 h.1
after_fits s (AtCompare frame core count stamp) found h = h

-- its next step is on a word of the machine
pub pin_is_in : (s : Shape) (pin : Pin) → PinFits s pin → IsIn s (word_of (pin_move pin))
pin_is_in s (AtLoad frame core) h = (h.0, h.1)
pin_is_in s (AtCompare frame core count stamp) h = (h.0, h.1)

-- and so is the step that commits it
pub settle_is_in : (s : Shape) (c : Settle) → SettleFits s c → IsIn s (word_of (settle_move c))
settle_is_in s c h = (h.frame, h.core)

expects_by_hold : (frame core found : ℕ) (v : CountWord) (h : Hold) → v.hold ≡ h → word_of_count v ≡ found → end_by_hold h ≡ Going
    → expected_by (pin_move (after_hold frame core v.count v.stamp h)) ≡ Some found
expects_by_hold frame core found v Hold.Unheld is spells goes =
    ap (λ k. Some (word_of_count (record { hold = k; count = v.count; stamp = v.stamp }))) (sym is) ∙ ap Some spells
expects_by_hold frame core found v (Hold.Pinned by) is spells goes = absurd (cc)
expects_by_hold frame core found v (Hold.Closed by) is spells goes = absurd (cc)

expects_by_load : (frame core found : ℕ) (o : Option CountWord) → count_of_word found ≡ o → load_end o ≡ Going
    → expected_by (pin_move (after_load frame core o)) ≡ Some found
expects_by_load frame core found None is goes = absurd (cc)
expects_by_load frame core found (Some v) is goes =
    expects_by_hold frame core found v v.hold refl (counts.spelling.spells found v is).1 goes

-- where the load goes on, the compare expects the word that was loaded
pub expects_found : (frame core found : ℕ) → pin_end (AtLoad frame core) found ≡ Going
    → expected_by (pin_move (pin_after (AtLoad frame core) found)) ≡ Some found
expects_found frame core found goes = expects_by_load frame core found (count_of_word found) refl goes

plus_none : (z : ℤ) → z +ℤ pos 0 ≡ z
plus_none (pos n) = ap pos (omega arith)
plus_none (negsuc n) = grind (arith, ints)

-- a count without a change is what it was
pub changed_none : (count : ℤ) → NumberFits count → changed count (pos 0) ≡ count
changed_none count h = ap wrapped (plus_none count) ∙ wrapped_same count h

-- with no change and no stamp a commit gives back the word that was found
pub gives_back : (frame core stamp : ℕ) (count : ℤ) → NumberFits count
    → settle_move (record { pin = pinned_at frame core count stamp; change = pos 0; stamp = None })
    ≡ StoreOf (CountAt frame core) (word_of_count (unheld count stamp))
gives_back frame core stamp count h =
    ap (λ k. StoreOf (CountAt frame core) (word_of_count (unheld k stamp)))
    (changed_none count h)
