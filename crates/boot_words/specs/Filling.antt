-- The table as it is filled with the words of the start.
use Rattle.std.specs.Prelude.{◌≡◌, ◌<◌}
use Rattle.kernel_history.specs.{ℕ, List, length, Setting, Word, EntryAt, FrameAt, CountAt, CoreAt, FlushAt, IsIn, boot_word}
use Rattle.kernel_history.specs.{shape_of, word_in}

-- The word of this name is that of the start.
abbrev pub IsRight : Setting → List ℕ → Word → Type 0
IsRight setup words w = word_in (shape_of setup) words w ≡ boot_word setup w

-- A write keeps the table's length, and the words that were right.
pub record Fills (setup : Setting) (old new : List ℕ) : Type 0 where
  pub size : length new ≡ length old
  pub kept : (w : Word) → IsIn (shape_of setup) w → IsRight setup old w → IsRight setup new w

-- A write that makes the word of this name right.
pub record Puts (setup : Setting) (old new : List ℕ) (w : Word) : Type 0 where
  pub fills : Fills setup old new
  pub right : IsRight setup new w

-- All words of a frame are right.
pub record IsFrameRight (setup : Setting) (words : List ℕ) (f : ℕ) : Type 0 where
  pub entries : (i : ℕ) → i < 64 → IsRight setup words (EntryAt f i)
  pub kind : IsRight setup words (FrameAt f)
  pub counts : (c : ℕ) → c < setup.cores → IsRight setup words (CountAt f c)

-- Both words of a core are right.
pub record IsCoreRight (setup : Setting) (words : List ℕ) (c : ℕ) : Type 0 where
  pub core : IsRight setup words (CoreAt c)
  pub flush : IsRight setup words (FlushAt c)
