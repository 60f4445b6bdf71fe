-- What the text of counts tells, line by line.
use Rattle.std.specs.Prelude.{◌≡◌, ℕ, ◌<◌, List, [], ◌∷◌, ◌++◌, codes, length, All, Contains, sum_by}
use Rattle.spk_nums.specs.{declared.replies.Reply.Reply, declared.replies.Decision.Decision, Names.reply_code, Names.reply_word}
use Rattle.{spk_nums.specs.Texts.with_one, script_printer.specs.Printing.line, load_summary.specs.Summaries.with_number}

-- how often a reply was decided that has the number of this one
abbrev pub how_often : List Decision → Reply → ℕ
how_often ds r = length (with_number (reply_code r) ds)

-- a word, and how often it is told
pub record Count : Type 0 where
  pub word : List ℕ
  pub times : ℕ

-- the count of a reply
abbrev pub count_of : List Decision → Reply → Count
count_of ds r = record { word = reply_word r; times = how_often ds r }

-- counts as text, a line each
abbrev pub count_lines : List Count → List ℕ
count_lines [] = []
count_lines (k ∷ ks) = line (with_one k.word k.times) ++ count_lines ks

-- it is the count of a reply that was decided
pub record IsCount (ds : List Decision) (k : Count) : Type 0 where
  pub reply : Reply
  pub is : k ≡ count_of ds reply
  pub came : 0 < k.times

-- the text is that of counts and of how many calls there were: the counts are those of the replies that were decided, of each of them,
-- and they sum to the calls
pub record TellsEach (ds : List Decision) (text : List ℕ) : Type 0 where
  pub counts : List Count
  pub is_text : text ≡ count_lines counts ++ line (with_one (codes "calls") (length ds))
  pub own : All (IsCount ds) counts
  pub each : (r : Reply) → 0 < how_often ds r → Contains counts (count_of ds r)
  pub sum : sum_by (λ (k : Count). k.times) counts ≡ length ds

-- a reply has its number below 25, and one word with each reply of that number and with no other, so a summary counts each once, under
-- its word
pub record IsCounted (r : Reply) : Type 0 where
  pub below : reply_code r < 25
  pub word : (s : Reply) → reply_code r ≡ reply_code s → reply_word r ≡ reply_word s
  pub apart : (s : Reply) → reply_word r ≡ reply_word s → reply_code r ≡ reply_code s
