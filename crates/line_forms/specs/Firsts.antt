-- Which lines may stand where.
use Rattle.std.specs.Prelude.{ℕ, List, Bool, true, false, Option, Some, None, ◌&&◌}
use Rattle.call_reader.specs.declared.first_words.FirstWord.{FirstWord}
use Rattle.line_forms.specs.{declared.context.Stage.Stage, declared.context.Context.Context, declared.starts.Start.Start}
use Rattle.line_forms.specs.{Numbered.is_numbered_below, Starts.start_of}

-- a word of a script may stand there
abbrev pub head_stands : Stage → FirstWord → Bool
head_stands Stage.Version FirstWord.Speck = true
head_stands Stage.Cores FirstWord.Cores = true
head_stands Stage.Frames FirstWord.Frames = true
head_stands Stage.Grants FirstWord.Grant = true
head_stands Stage.Calls FirstWord.Calls = true
head_stands Stage.Calls FirstWord.Epochs = true
head_stands Stage.Calls FirstWord.Core = true
head_stands Stage.Calls FirstWord.Order = true
head_stands Stage.Epochs FirstWord.Epochs = true
head_stands Stage.Epochs FirstWord.Core = true
head_stands Stage.Epochs FirstWord.Order = true
head_stands Stage.Lists FirstWord.Core = true
head_stands Stage.Lists FirstWord.Order = true
head_stands Stage.List FirstWord.Core = true
head_stands Stage.List FirstWord.Order = true
head_stands Stage.List (FirstWord.Call v) = true
head_stands Stage.Asks FirstWord.Core = true
head_stands Stage.AskList FirstWord.Core = true
head_stands _ _ = false

-- the last grant was read
abbrev pub is_whole : Stage → Bool
is_whole Stage.Version = false
is_whole Stage.Cores = false
is_whole Stage.Frames = false
is_whole Stage.Grants = false
is_whole _ = true

abbrev pub is_list : Stage → Bool
is_list Stage.AskList = true
is_list _ = false

-- a line that begins so may stand there
abbrev pub stands : Stage → Start → Bool
stands s (Start.Head f) = head_stands s f
stands s Start.Send = is_list s
stands s Start.Recv = is_list s
stands s Start.Task = true
stands s _ = is_whole s

-- the number before the dot of `C.I` is that of a core, and the one after it is a number
abbrev pub is_numbered_so : Start → List ℕ → ℕ → Bool
is_numbered_so Start.Whole word cores = is_numbered_below word cores
is_numbered_so _ word cores = true

abbrev pub fits_by : Context → Option Start → List ℕ → Bool
fits_by context None word = false
fits_by context (Some s) word = stands context.stage s && is_numbered_so s word context.cores

-- the line's first word fits
abbrev pub first_fits : Context → List (List ℕ) → List ℕ → Bool
first_fits context words word = fits_by context (start_of context.version context.reading context.stage words) word
