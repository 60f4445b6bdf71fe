use Rattle.std.specs.Prelude.{ℕ, Bool, ◌==◌, ◌&&◌}

-- the words of the table, by name
pub data Word : Type 0 where
  -- an entry of a node, and a word of any other object, by its frame
  EntryAt : (frame entry : ℕ) → Word
  -- what a frame is
  FrameAt : (frame : ℕ) → Word
  -- the references to a frame that a core counts
  CountAt : (frame core : ℕ) → Word
  -- whether a core is inside a call, and its last exit
  CoreAt : (core : ℕ) → Word
  -- a core's last flush
  FlushAt : (core : ℕ) → Word
  -- a liveness number
  LiveAt : (number : ℕ) → Word
  -- the clock
  ClockAt : Word

-- the kinds of words, numbered
abbrev pub kind_of_word : Word → ℕ
kind_of_word (EntryAt f i) = 0
kind_of_word (FrameAt f) = 1
kind_of_word (CountAt f c) = 2
kind_of_word (CoreAt c) = 3
kind_of_word (FlushAt c) = 4
kind_of_word (LiveAt l) = 5
kind_of_word ClockAt = 6

-- the first number in a word's name, 0 where it has none
abbrev pub first_of_word : Word → ℕ
first_of_word (EntryAt f i) = f
first_of_word (FrameAt f) = f
first_of_word (CountAt f c) = f
first_of_word (CoreAt c) = c
first_of_word (FlushAt c) = c
first_of_word (LiveAt l) = l
first_of_word ClockAt = 0

-- the second number in a word's name, 0 where it has none
abbrev pub second_of_word : Word → ℕ
second_of_word (EntryAt f i) = i
second_of_word (FrameAt f) = 0
second_of_word (CountAt f c) = c
second_of_word (CoreAt c) = 0
second_of_word (FlushAt c) = 0
second_of_word (LiveAt l) = 0
second_of_word ClockAt = 0

-- whether two names are one
abbrev pub same_word : Word → Word → Bool
same_word w u = kind_of_word w == kind_of_word u && (first_of_word w == first_of_word u && second_of_word w == second_of_word u)
