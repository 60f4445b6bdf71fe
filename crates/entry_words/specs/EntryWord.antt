use Rattle.std.specs.Prelude.{◌≡◌, ℕ, ◌+◌, ◌-◌, ◌*◌, ◌/◌, ◌%◌, ◌^◌, ◌<◌, ◌≤◌, ◌==◌, ◌&&◌, nat_lt, nat_le, Option, Some, None, if◌then◌else◌}
use Rattle.spk_nums.specs.{Capability.cap_of, Limits.least_arg, Limits.end_of_arg, Rights.least_rights, declared.kinds.Kind.Kind}
use Rattle.entry_words.specs.Kinds.{number_of_kind, kind_of_number, most_withheld}
use Rattle.entry_words.specs.declared.entry.Entry.{Entry}
use Rattle.entry_words.specs.declared.entry.Entry.TheVariants.{Free, Held, Closing, Quiescing}

-- the fields of an entry are within their ranges; the stamp of a Quiescing one is at least 1
abbrev pub EntryFits : Entry → Type 0
EntryFits Free = Unit {0}
EntryFits (Held cap) = (cap.frame < 512) × (least_arg cap.kind ≤ cap.arg) × (cap.arg < end_of_arg cap.kind)
    × (least_rights cap.kind ≤ cap.rights) × (cap.rights < 4)
EntryFits (Closing by) = by < 8
EntryFits (Quiescing stamp) = (1 ≤ stamp) × (stamp < 2 ^ 43)

-- the word of an entry: the power of two before a field is its lowest bit; of a capability, the highest field has the rights withheld
unfoldable pub word_of_entry : Entry → ℕ
word_of_entry Free = 0
word_of_entry (Held cap) =
    1 + 2 ^ 2 * number_of_kind cap.kind + 2 ^ 6 * cap.frame + 2 ^ 16 * cap.arg + 2 ^ 40 * (3 - cap.rights)
word_of_entry (Closing by) = 2 + 2 ^ 2 * by
word_of_entry (Quiescing stamp) = 3 + 2 ^ 4 * stamp

-- the entry that holds the capability with these numbers, where each is within its range
abbrev pub held_of : Option Kind → ℕ → ℕ → ℕ → Option Entry
held_of None frame arg withheld = None
held_of (Some kind) frame arg withheld =
    if nat_lt frame 512 && (nat_le (least_arg kind) arg && (nat_lt arg (end_of_arg kind) && nat_le withheld (most_withheld kind)))
    then Some (Held (record { kind = kind; frame = frame; arg = arg; rights = 3 - withheld }))
    else None

-- the closing entry of this core, where there is such a core
abbrev pub closing_of : ℕ → Option Entry
closing_of by = if nat_lt by 8 then Some (Closing by) else None

-- the quiescing entry of this stamp, where it is within its range
abbrev pub quiescing_of : ℕ → Option Entry
quiescing_of stamp = if nat_le 1 stamp && nat_lt stamp (2 ^ 43) then Some (Quiescing stamp) else None

-- the entry of a word: each field as it stands, with the bits above it that no field uses, must be within its range
unfoldable pub entry_of_word : ℕ → Option Entry
entry_of_word w =
    if w == 0 then Some Free
    else if w % 2 ^ 2 == 1 then held_of (kind_of_number (w / 2 ^ 2 % 2 ^ 4)) (w / 2 ^ 6 % 2 ^ 10) (w / 2 ^ 16 % 2 ^ 24) (w / 2 ^ 40)
    else if w % 2 ^ 2 == 2 then closing_of (w / 2 ^ 2)
    else if w % 2 ^ 4 == 3 then quiescing_of (w / 2 ^ 4)
    else None

-- the word of a capability with both rights has its kind, frame and number alone
abbrev pub BothWithholdNone : Type 0
BothWithholdNone = (kind : Kind) (frame arg : ℕ)
    → word_of_entry (Held (cap_of kind frame arg)) ≡ 1 + 2 ^ 2 * number_of_kind kind + 2 ^ 6 * frame + 2 ^ 16 * arg
