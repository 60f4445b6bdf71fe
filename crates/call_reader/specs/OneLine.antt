-- One call by itself: its bytes, then that it is one line, then its first word, then its arguments.
use Rattle.std.specs.Prelude.{◌≡◌, ℕ, List, Option, Some, None, Result, Ok, Err, map, nat_lt, if◌then◌else◌}
use Rattle.script_tokens.specs.{Word, words_of, ending_of}
use Rattle.line_reader.specs.{◌>>=◌, word_at}
use Rattle.script_tokens.specs.declared.scanning.ByteFault.TheVariants.{NotAscii, TooManyLines}
use Rattle.script_tokens.specs.declared.scanning.Ending.TheVariants.{Whole, Fault as Faulty}
use Rattle.line_reader.specs.{declared.cause.Cause.Cause, declared.cause.Cause.TheVariants.S2, declared.cause.Cause.TheVariants.S7}
use Rattle.line_reader.specs.{declared.cause.Cause.TheVariants.S8, declared.cause.Cause.TheVariants.S9, declared.cause.LineFault.LineFault}
use Rattle.{spk_nums.specs.declared.verbs.Verb.Verb, call_reader.specs.declared.first_words.FirstWord.FirstWord}
use Rattle.call_reader.specs.{declared.first_words.FirstWord.TheVariants.Call as call_first, FirstWords.first_word, CallLines.call_line}
use Rattle.{spk_nums.specs.declared.calls.Call.Call, script_tokens.specs.declared.scanning.Ending.Ending}

-- the word of a call that a first word is; S2 of an unknown one, S7 of another
abbrev pub verb_in : Option FirstWord → Result Verb Cause
verb_in (Some (call_first verb)) = Ok verb
verb_in (Some other) = Err S7
verb_in None = Err S2

-- the word of a call that a line of a script of this version begins with; S3 where it has no word
unfoldable pub verb_at : ℕ → List (List ℕ) → Result Verb Cause
verb_at version words = word_at words 0 >>= λ word. verb_in (first_word version word)

-- the call of a line, as version 3 has it
unfoldable pub call_at : List (List ℕ) → Result Call Cause
call_at words = verb_at 3 words >>= λ verb. call_line 3 words verb

-- the call of words whose bytes end so: S8 of a byte that may not stand there, S9 of more than one line
abbrev pub call_by : List (List ℕ) → Ending → Result Call Cause
call_by words (Faulty (NotAscii line)) = Err S8
call_by words (Faulty TooManyLines) = Err S9
call_by words (Whole lines) = if nat_lt 1 lines then Err S9 else call_at words

-- the call that bytes are, or their first fault
abbrev pub call_of : List ℕ → Result Call Cause
call_of source = call_by (map (λ (w : Word). w.text) (words_of source)) (ending_of source)

-- the answer is the call that the bytes are, or their first fault, unless memory has run out
abbrev pub IsCallOf : List ℕ → Result Call LineFault → Type 0
IsCallOf source (Ok call) = call_of source ≡ Ok call
IsCallOf source (Err (LineFault.Cause c)) = call_of source ≡ Err c
IsCallOf source (Err LineFault.Memory) = Unit {0}
