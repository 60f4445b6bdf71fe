-- The steps by which ticks are given back to a temporal capability.
use Rattle.std.specs.Prelude.{ℕ, ◌+◌, ◌<◌, ◌==◌, ◌&&◌, nat_lt, not, Bool, Option, Some, None, if◌then◌else◌, List, []}
use Rattle.word_map.specs.{EntryAt, Shape, Move, LoadOf, CompareOf}
use Rattle.tcap_words.specs.{word_of_head, head_of_word, quality_of_word}
use Rattle.word_map.specs.spk_nums.specs.{Merging.covers, declared.replies.Value.Value, declared.steps.StageEnd.StageEnd}
use Rattle.word_map.specs.spk_nums.specs.{declared.steps.StageEnd.TheVariants.Going, declared.steps.StageEnd.TheVariants.Done}
use Rattle.word_map.specs.spk_nums.specs.{declared.steps.StageEnd.TheVariants.Refuse, declared.replies.Reply.Reply}
use Rattle.tcap_words.specs.{declared.head_word.HeadWord.HeadWord, declared.quality_word.QualityWord.QualityWord}
use Rattle.stage_tcap.specs.{Heads.head, Heads.credited, Heads.VersionFits, Lists.read_word, Lists.in_order, Charging.head_end}
use Rattle.stage_tcap.specs.{Pairs.EntryFits, Pairs.noted, declared.refill.Refill.Refill, declared.refill.RefillAt.RefillAt}
use Rattle.stage_tcap.specs.{declared.refill.RefillAt.TheVariants.Load, declared.refill.RefillAt.TheVariants.List as at_list}
use Rattle.stage_tcap.specs.{declared.refill.RefillAt.TheVariants.Compare, declared.refill.RefillAt.TheVariants.Again}

-- a word of the list is one of its eight
abbrev pub RefillAtFits : RefillAt → Type 0
RefillAtFits (at_list entry) = EntryFits entry
RefillAtFits _ = Unit {0}

-- the temporal capability is a frame of the machine, and the version that was found is within its range
pub record RefillFits (s : Shape) (r : Refill) : Type 0 where
  pub tcap : r.tcap < s.frames
  pub head : VersionFits r.head
  pub at : RefillAtFits r.at

-- the next step, where it stands there: the compare puts the head with the ticks in place of the one found
abbrev pub refill_move_at : Refill → RefillAt → Move
refill_move_at r Load = LoadOf (EntryAt r.tcap 0)
refill_move_at r (at_list entry) = LoadOf (EntryAt r.tcap entry)
refill_move_at r Compare = CompareOf (EntryAt r.tcap 0) (word_of_head r.head) (word_of_head (credited r.head r.ticks))
refill_move_at r Again = LoadOf (EntryAt r.tcap 0)

abbrev pub refill_move : Refill → Move
refill_move r = refill_move_at r r.at

-- the head with the word found, and the list with it
abbrev pub refill_head_after : RefillAt → HeadWord → ℕ → HeadWord
refill_head_after Load h found = noted h (head_of_word found)
refill_head_after _ h found = h

abbrev pub refill_list_after : RefillAt → Option (List (ℕ × ℕ)) → ℕ → Option (List (ℕ × ℕ))
refill_list_after (at_list entry) xs found = read_word xs (quality_of_word found)
refill_list_after _ xs found = xs

-- what is known after a step that finds this word
abbrev pub refill_noted : Refill → ℕ → Refill
refill_noted r found = record {
  tcap = r.tcap;
  ticks = r.ticks;
  left = r.left;
  grant = r.grant;
  head = refill_head_after r.at r.head found;
  list = refill_list_after r.at r.list found;
  at = r.at;
}

-- where it stands after the load of the head
abbrev pub from_mark : Option ℕ → RefillAt
from_mark None = at_list 1
from_mark (Some by) = Load

abbrev pub from_head : Option HeadWord → RefillAt
from_head None = Load
from_head (Some h) = from_mark h.mark

-- after the last word of the list: one that does not cover the grant is refused where the head is still the same
abbrev pub weighed_at : Bool → RefillAt
weighed_at covered = if covered then Compare else Again

-- after a word of the list the next one is loaded, and after the last the list is weighed
abbrev pub next_in : Bool → ℕ → Refill → RefillAt
next_in more entry r = if more then at_list (entry + 1) else weighed_at (covers (in_order r.list) r.grant)

abbrev pub from_word : Option QualityWord → ℕ → RefillAt → RefillAt
from_word None entry next = at_list entry
from_word (Some v) entry next = next

-- where it stands after a step that finds this word; `r` has what is known then
abbrev pub refill_at_after : Refill → RefillAt → ℕ → RefillAt
refill_at_after r Load found = from_head (head_of_word found)
refill_at_after r (at_list entry) found = from_word (quality_of_word found) entry (next_in (nat_lt entry 8) entry r)
refill_at_after r Compare found = Compare
refill_at_after r Again found = Again

-- where it stands after a step that finds this word
abbrev pub refill_after : Refill → ℕ → Refill
refill_after r found = record {
  tcap = r.tcap;
  ticks = r.ticks;
  left = r.left;
  grant = r.grant;
  head = refill_head_after r.at r.head found;
  list = refill_list_after r.at r.list found;
  at = refill_at_after (refill_noted r found) r.at found;
}

-- behind the last word a core is told where it has too few ticks left, unless the list is to be refused
abbrev pub weighed : Bool → ℕ → StageEnd Value
weighed less left = if less then Refuse (Reply.Short left) else Going

abbrev pub at_word : Bool → Refill → StageEnd Value
at_word more r = weighed (not more && (covers (in_order r.list) r.grant && nat_lt r.left r.ticks)) r.left

abbrev pub word_end : Option QualityWord → StageEnd Value → StageEnd Value
word_end None next = Refuse Reply.Raced
word_end (Some v) next = next

-- the compare of the head, and its second load, which found it the same or not
abbrev pub won : Bool → StageEnd Value
won same = if same then Done Value.Nothing else Refuse Reply.Raced

abbrev pub again : Bool → StageEnd Value
again same = if same then Refuse Reply.Unlike else Refuse Reply.Raced

-- what a step leads to that finds this word; `r` has what is known then
abbrev pub refill_end_at : Refill → RefillAt → ℕ → StageEnd Value
refill_end_at r Load found = head_end (head_of_word found)
refill_end_at r (at_list entry) found = word_end (quality_of_word found) (at_word (nat_lt entry 8) r)
refill_end_at r Compare found = won (found == word_of_head r.head)
refill_end_at r Again found = again (found == word_of_head r.head)

abbrev pub refill_end : Refill → ℕ → StageEnd Value
refill_end r found = refill_end_at (refill_noted r found) r.at found
