-- The words that a line may begin with.
use Rattle.std.specs.Prelude.{ℕ, nat_le, List, [], ◌∷◌, Bool, true, false, Option, Some, None, codes, if◌then◌else◌}
use Rattle.call_reader.specs.declared.first_words.FirstWord.TheVariants.{Speck, Cores, Frames, Grant, Calls, Epochs, Core, Order, Call}
use Rattle.{line_reader.specs.Arguments.is_word, spk_nums.specs.declared.verbs.Verb.Verb, spk_nums.specs.Verbs.verb_word}
use Rattle.{call_reader.specs.declared.first_words.FirstWord.FirstWord}

-- the word is one of version 3 on
abbrev pub is_late : Verb → Bool
is_late Verb.Part = true
is_late Verb.Replenish = true
is_late _ = false

-- the word of a call, where a script of this version has it
abbrev pub verb_in : ℕ → Verb → Option Verb
verb_in version v = if is_late v then (if nat_le 3 version then Some v else None) else Some v

-- the words of calls
abbrev pub later_verbs : List Verb
later_verbs = Verb.Flush ∷ Verb.Gate ∷ Verb.Kill ∷ Verb.Call ∷ Verb.Ret ∷ Verb.Switch ∷ Verb.Tick
    ∷ Verb.Transfer ∷ Verb.Delegate ∷ Verb.Test ∷ Verb.Part ∷ Verb.Replenish ∷ []

abbrev pub verbs : List Verb
verbs = Verb.Look ∷ Verb.Copy ∷ Verb.Remove ∷ Verb.Grow ∷ Verb.Shrink ∷ Verb.Retype ∷ Verb.Make ∷ Verb.Map
    ∷ Verb.Unmap ∷ Verb.Touch ∷ later_verbs

-- the one of them that a word is, in a script of this version
unfoldable pub find_verb : ℕ → List ℕ → List Verb → Option Verb
find_verb version word [] = None
find_verb version word (v ∷ vs) = if is_word word (verb_word v) then verb_in version v else find_verb version word vs

-- the word of a call that a word is
abbrev pub verb_of : ℕ → List ℕ → Option Verb
verb_of version word = find_verb version word verbs

-- a word of a call as a first word
abbrev pub call_word : Option Verb → Option FirstWord
call_word None = None
call_word (Some v) = Some (Call v)

-- the known first words in a script of this version; another is S2
unfoldable pub first_word : ℕ → List ℕ → Option FirstWord
first_word version word =
    if is_word word (codes "speck") then Some Speck
    else (if is_word word (codes "cores") then Some Cores
    else (if is_word word (codes "frames") then Some Frames
    else (if is_word word (codes "grant") then Some Grant
    else (if is_word word (codes "calls") then Some Calls
    else (if is_word word (codes "epochs") then Some Epochs
    else (if is_word word (codes "core") then Some Core
    else (if is_word word (codes "order") then Some Order
    else call_word (verb_of version word))))))))

-- the word of a call as a first word, where a script of this version has it
abbrev pub in_version : ℕ → Verb → Option FirstWord
in_version version v = call_word (verb_in version v)
