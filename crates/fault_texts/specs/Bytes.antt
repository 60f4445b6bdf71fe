-- The first byte that may not stand in a text.
use Rattle.std.specs.Prelude.{ℕ, ◌+◌, List, [], ◌∷◌, Option, Some, None, slice_get, if◌then◌else◌}
use Rattle.{script_tokens.specs.is_feed, script_tokens.specs.is_allowed, fault_texts.specs.declared.bytes.BadByte.BadByte}

-- the column of the byte after this one
abbrev pub column_after : ℕ → ℕ → ℕ
column_after b column = if is_feed b then 1 else column + 1

-- the first of these bytes that may not stand in a text, where the first of them has that column
abbrev pub bad_from : ℕ → List ℕ → Option BadByte
bad_from column [] = None
bad_from column (b ∷ bs) =
    if is_allowed b (slice_get bs 0) then bad_from (column_after b column) bs else Some (record { byte = b; column = column })

-- the first byte that may not stand in a text, if there is one
abbrev pub bad_byte : List ℕ → Option BadByte
bad_byte source = bad_from 1 source
