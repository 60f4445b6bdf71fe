-- The words of a page: of calls, of what a step finds, of titles.
use Rattle.std.specs.Prelude.{◌+◌, if◌then◌else◌, ◌++◌}
use Rattle.word_texts.specs.step_views.specs.kernel_rules.specs.{ℕ, ltb as nat_lt, Bool, true, false, List, [], length, codes}
use Rattle.word_texts.specs.step_views.specs.kernel_rules.specs.{decimal, Option, Some, None, call_text, reply_text, Call, Reply}
use Rattle.word_texts.specs.{Names.word_name, Values.value_text}
use Rattle.page_layers.specs.{Seen.Seen, Lanes.overlaps, declared.lanes.Lane.Lane, declared.lanes.Change.Change}

-- How many letters a text counts for, at most 1,000.
abbrev pub letters : List ℕ → ℕ
letters text = if nat_lt (length text) 1000 then length text else 1000

-- A call by its number: the core, and the call's among the core's.
abbrev pub call_name : ℕ → ℕ → List ℕ
call_name core index = decimal core ++ (codes "." ++ decimal index)

-- A core's call, as in a reply line.
abbrev pub call_words : Option Call → List ℕ
call_words None = []
call_words (Some call) = codes " " ++ call_text call

abbrev pub lane_words : ℕ → Lane → List ℕ
lane_words core l = call_name core l.index ++ call_words l.call

-- What a step finds in its word, and from which call, where the word of the word's frame is this.
abbrev pub word_words : ℕ → Seen → List ℕ
word_words frame s = word_name frame s.word ++ (codes ": " ++ value_text frame s.word s.found)

abbrev pub found_words : ℕ → Seen → Change → List ℕ
found_words frame s c = word_words frame s ++ (codes ", from " ++ call_name c.core c.index)

-- Who finds it, where the step decides nothing.
abbrev pub finder_words : ℕ → Lane → List ℕ
finder_words core l = call_name core l.index ++ codes " finds "

-- The title of an arrow.
abbrev pub meets_word : Bool → List ℕ
meets_word true = codes " meets "
meets_word false = codes " finds "

unfoldable pub at_step : ℕ → List ℕ
at_step n = codes " at step " ++ decimal n

abbrev pub arrow_words : ℕ → Seen → Lane → Change → List ℕ
arrow_words frame s l c =
    call_name s.core l.index ++ (meets_word (overlaps l c) ++ (word_words frame s ++ (codes ", left by " ++ (call_name c.core c.index
    ++ at_step c.step))))

-- The title of a bar: the call, its reply, and the steps at which it is entered, returns and is decided, as far as they are known.
abbrev pub reply_words : Option Reply → List ℕ
reply_words None = []
reply_words (Some r) = codes " = " ++ reply_text r

unfoldable pub decided_at : ℕ → List ℕ
decided_at n = codes ", decided at " ++ decimal n

abbrev pub decided_words : Option Reply → ℕ → List ℕ
decided_words None n = []
decided_words (Some r) n = decided_at n

unfoldable pub from_step : ℕ → List ℕ
from_step first = codes "&#10;from step " ++ decimal first

unfoldable pub steps_to : ℕ → ℕ → List ℕ
steps_to first last = codes "&#10;steps " ++ (decimal first ++ (codes " to " ++ decimal last))

abbrev pub span_words : ℕ → Option ℕ → List ℕ
span_words first None = from_step first
span_words first (Some last) = steps_to first last

abbrev pub bar_words : ℕ → Lane → Option ℕ → List ℕ
bar_words core l last = lane_words core l ++ (reply_words l.reply ++ (span_words l.entered last ++ decided_words l.reply l.decided))
