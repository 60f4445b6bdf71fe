-- A word of a call, spelled, is that first word.
use Rattle.std.proofs.Common.{◌≡◌, ℕ, List, Bool, true, false, Option, Some, None, nat_le, le-leb, if◌then◌else◌, refl, sym, ap, ◌∙◌}
use Rattle.spk_nums.specs.{declared.verbs.Verb.Verb, Verbs.verb_word}
use Rattle.call_reader.specs.{find_verb, first_word, call_word, FirstWords.in_version, FirstWords.is_late, Within.IsVerbIn}
use Rattle.call_reader.specs.{declared.first_words.FirstWord.FirstWord}
use Rattle.{std.proofs.lemmas.Slice.Eq.bytes_eq-Decides, line_reader.specs.Arguments.is_word}

pub word_of : (version : ℕ) (v : Verb) → first_word version (verb_word v) ≡ in_version version v
unfolding first_word find_verb is_word
word_of version Verb.Look = refl
word_of version _ = refl

is_same : (word name : List ℕ) → is_word word name ≡ true → word ≡ name
unfolding is_word
is_same word name same = (bytes_eq-Decides word name).0 same

pub found_word : (version : ℕ) (word name : List ℕ) (v : Verb) → is_word word name ≡ true → name ≡ verb_word v
    → in_version version v ≡ first_word version word
found_word version word name v same is = sym (ap (first_word version) (is_same word name same ∙ is) ∙ word_of version v)

-- So it is the word of a call where scripts of the version have it.
known : (version : ℕ) (v : Verb) (late : Bool) → is_late v ≡ late → IsVerbIn version v
    → call_word (if late then (if nat_le 3 version then Some v else None) else Some v) ≡ Some (FirstWord.Call v)
known version v true is h = ap (λ b. call_word (if b then Some v else None)) (le-leb 3 version (h is))
known version v false is h = refl

pub first_of : (version : ℕ) (v : Verb) → IsVerbIn version v → first_word version (verb_word v) ≡ Some (FirstWord.Call v)
first_of version v h = word_of version v ∙ known version v (is_late v) refl h
