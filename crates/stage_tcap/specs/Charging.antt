-- The steps by which ticks are charged to a temporal capability.
use Rattle.std.specs.Prelude.{ℕ, ◌<◌, ◌==◌, ◌^◌, min, Bool, Option, Some, None, if◌then◌else◌}
use Rattle.word_map.specs.{EntryAt, Shape, Move, LoadOf, CompareOf}
use Rattle.word_map.specs.spk_nums.specs.{declared.replies.Value.Value, declared.steps.StageEnd.StageEnd}
use Rattle.word_map.specs.spk_nums.specs.{declared.steps.StageEnd.TheVariants.Going}
use Rattle.word_map.specs.spk_nums.specs.{declared.steps.StageEnd.TheVariants.Done, declared.steps.StageEnd.TheVariants.Refuse}
use Rattle.stage_tcap.specs.{Heads.head, Heads.debited, declared.charge.Charge.Charge, declared.charge.Charge.TheVariants.AtLoad}
use Rattle.{tcap_words.specs.word_of_head, tcap_words.specs.head_of_word, word_map.specs.spk_nums.specs.declared.replies.Reply.Reply}
use Rattle.{tcap_words.specs.declared.head_word.HeadWord.HeadWord, stage_tcap.specs.declared.charge.Charge.TheVariants.AtCompare}

-- a version that was found is within its range
abbrev pub ChargePacks : Charge → Type 0
ChargePacks (AtLoad t ticks) = Unit {0}
ChargePacks (AtCompare t ticks budget version) = version < 2 ^ 28

-- the temporal capability is a frame of the machine, and a version that was found is within its range
abbrev pub ChargeFits : Shape → Charge → Type 0
ChargeFits s (AtLoad t ticks) = t < s.frames
ChargeFits s (AtCompare t ticks budget version) = (t < s.frames) × (version < 2 ^ 28)

-- the next step loads the head, then puts the one that is charged in its place: by the ticks, or by the whole budget where that is less
abbrev pub charge_move : Charge → Move
charge_move (AtLoad t ticks) = LoadOf (EntryAt t 0)
charge_move (AtCompare t ticks budget version) =
    CompareOf (EntryAt t 0) (word_of_head (head budget version)) (word_of_head (debited (head budget version) (min ticks budget)))

-- a head that a core has marked is busy
abbrev pub end_by_mark : Option ℕ → StageEnd Value
end_by_mark None = Going
end_by_mark (Some by) = Refuse (Reply.Busy by)

abbrev pub head_end : Option HeadWord → StageEnd Value
head_end None = Refuse Reply.Raced
head_end (Some h) = end_by_mark h.mark

-- what the compare leads to, where it did or did not find the head
abbrev pub charged_end : Bool → ℕ → StageEnd Value
charged_end same charged = if same then Done (Value.Amount charged) else Refuse Reply.Raced

-- what a step leads to that finds this word
abbrev pub charge_end : Charge → ℕ → StageEnd Value
charge_end (AtLoad t ticks) found = head_end (head_of_word found)
charge_end (AtCompare t ticks budget version) found = charged_end (found == word_of_head (head budget version)) (min ticks budget)

-- where it stands after a load of this head
abbrev pub after_mark : ℕ → ℕ → ℕ → ℕ → Option ℕ → Charge
after_mark t ticks budget version None = AtCompare t ticks budget version
after_mark t ticks budget version (Some by) = AtLoad t ticks

abbrev pub after_head : ℕ → ℕ → Option HeadWord → Charge
after_head t ticks None = AtLoad t ticks
after_head t ticks (Some h) = after_mark t ticks h.budget h.version h.mark

-- where it stands after a step that finds this word
abbrev pub charge_after : Charge → ℕ → Charge
charge_after (AtLoad t ticks) found = after_head t ticks (head_of_word found)
charge_after (AtCompare t ticks budget version) found = AtCompare t ticks budget version
