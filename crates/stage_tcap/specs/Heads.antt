-- The head of a temporal capability: its budget, and a version that each change of the list raises.
use Rattle.std.specs.Prelude.{ℕ, ◌+◌, ◌-◌, ◌^◌, ◌<◌, min, Bool, Some, None, if◌then◌else◌}
use Rattle.tcap_words.specs.declared.head_word.HeadWord.{HeadWord}

-- a head that no core has marked
abbrev pub head : ℕ → ℕ → HeadWord
head budget version = record { budget = budget; mark = None; version = version }

-- a head that a core has marked
abbrev pub marked : ℕ → HeadWord → HeadWord
marked core h = record { budget = h.budget; mark = Some core; version = h.version }

-- the next version; a version that would leave its field stays at the field's end
abbrev pub raised : ℕ → ℕ
raised version = min (version + 1) (2 ^ 28 - 1)

-- a head in the next version where its list is changed, and in its own where not
abbrev pub relisted : Bool → HeadWord → HeadWord
relisted changed h = record { budget = h.budget; mark = h.mark; version = if changed then raised h.version else h.version }

-- a head with so many ticks less
abbrev pub debited : HeadWord → ℕ → HeadWord
debited h ticks = record { budget = h.budget - ticks; mark = None; version = h.version }

-- a head with so many ticks more; a budget that would leave its field stays at the field's end
abbrev pub credited : HeadWord → ℕ → HeadWord
credited h ticks = record { budget = min (h.budget + ticks) (2 ^ 32 - 1); mark = None; version = h.version }

-- a version is within its range
abbrev pub VersionFits : HeadWord → Type 0
VersionFits h = h.version < 2 ^ 28
