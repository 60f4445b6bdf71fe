-- The bytes of a script.
use Rattle.std.specs.Prelude.{ℕ, Bool, false, Option, Some, None, ◌==◌, ◌&&◌, ◌||◌, not, nat_le}

-- a line feed, which ends a line
abbrev pub is_feed : ℕ → Bool
is_feed b = b == 10

-- `#`, which begins a comment up to the line's end
abbrev pub is_hash : ℕ → Bool
is_hash b = b == 35

-- a byte of a word: a printed character other than `#`
abbrev pub is_word_byte : ℕ → Bool
is_word_byte b = nat_le 33 b && (nat_le b 126 && not (is_hash b))

-- the next byte is a line feed
abbrev pub feed_next : Option ℕ → Bool
feed_next None = false
feed_next (Some b) = is_feed b

-- a byte that may stand before `next`: a tab, a line feed, a carriage return directly before a line feed, 32 to 126
abbrev pub is_allowed : ℕ → Option ℕ → Bool
is_allowed b next = b == 9 || (is_feed b || ((b == 13 && feed_next next) || (nat_le 32 b && nat_le b 126)))
