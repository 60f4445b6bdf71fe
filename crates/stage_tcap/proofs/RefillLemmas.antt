-- The giving back of ticks stays on the words of the machine, whatever words are found.
use Rattle.stage_tcap.specs.{◌≡◌, ℕ, ◌+◌, ◌<◌, ◌^◌, Bool, true, false, ltb as nat_lt, Option, Some, None, refl, covers, head_of_word}
use Rattle.stage_tcap.specs.{quality_of_word, HeadWord, QualityWord, Shape, IsIn, word_of, in_order, RefillFits, refill_move}
use Rattle.stage_tcap.specs.{refill_move_at, refill_noted, from_mark, from_head, weighed_at, next_in, from_word, refill_after}
use Rattle.std.proofs.Common.{sym, arith, ltb-true}
use Rattle.stage_tcap.specs.{Heads.VersionFits, Pairs.EntryFits, Refilling.RefillAtFits, Refilling.refill_head_after}
use Rattle.stage_tcap.specs.{Refilling.refill_at_after, declared.refill.Refill.Refill, declared.refill.RefillAt.RefillAt}
use Rattle.stage_tcap.specs.{declared.refill.RefillAt.TheVariants.Load, declared.refill.RefillAt.TheVariants.List as at_list}
use Rattle.stage_tcap.specs.{declared.refill.RefillAt.TheVariants.Compare, declared.refill.RefillAt.TheVariants.Again}
use Rattle.stage_tcap.proofs.PairLemmas.{noted_fits, first_fits, more_fits}

-- the next step is on a word of the machine
pub refill_is_in : (s : Shape) (r : Refill) → RefillFits s r → IsIn s (word_of (refill_move r))
refill_is_in s r h = by_at r.at h.at where
  by_at : (at : RefillAt) → RefillAtFits at → IsIn s (word_of (refill_move_at r at))
  by_at Load a = (h.tcap, omega arith)
  by_at (at_list entry) a = (h.tcap, omega (arith, a.1))
  by_at Compare a = (h.tcap, omega arith)
  by_at Again a = (h.tcap, omega arith)

pub refill_head_fits : (at : RefillAt) (old : HeadWord) (found : ℕ) → VersionFits old → VersionFits (refill_head_after at old found)
refill_head_fits Load old found h = noted_fits old found (head_of_word found) refl h
refill_head_fits (at_list entry) old found h = h
refill_head_fits Compare old found h = h
refill_head_fits Again old found h = h

from_mark_fits : (mark : Option ℕ) → RefillAtFits (from_mark mark)
from_mark_fits None = first_fits
from_mark_fits (Some by) = tt

from_head_fits : (o : Option HeadWord) → RefillAtFits (from_head o)
from_head_fits None = tt
from_head_fits (Some h) = from_mark_fits h.mark

weighed_fits : (covered : Bool) → RefillAtFits (weighed_at covered)
weighed_fits true = tt
weighed_fits false = tt

next_in_fits : (more : Bool) (entry : ℕ) (r : Refill) → more ≡ nat_lt entry 8 → RefillAtFits (next_in more entry r)
next_in_fits true entry r is = more_fits entry is
next_in_fits false entry r is = weighed_fits (covers (in_order r.list) r.grant)

from_word_fits : (o : Option QualityWord) (entry : ℕ) (next : RefillAt) → EntryFits entry → RefillAtFits next
    → RefillAtFits (from_word o entry next)
from_word_fits None entry next h n = h
from_word_fits (Some v) entry next h n = n

refill_at_fits : (r : Refill) (at : RefillAt) (found : ℕ) → RefillAtFits at → RefillAtFits (refill_at_after r at found)
refill_at_fits r Load found h = from_head_fits (head_of_word found)
refill_at_fits r (at_list entry) found h = from_word_fits (quality_of_word found) entry _ h (next_in_fits _ entry r refl)
refill_at_fits r Compare found h = tt
refill_at_fits r Again found h = tt

-- and it stays so
pub refill_after_fits : (s : Shape) (r : Refill) (found : ℕ) → RefillFits s r → RefillFits s (refill_after r found)
refill_after_fits s r found h = record {
  tcap = h.tcap;
  head = refill_head_fits r.at r.head found h.head;
  at = refill_at_fits (refill_noted r found) r.at found h.at;
}
