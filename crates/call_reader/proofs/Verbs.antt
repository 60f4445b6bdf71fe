-- The word of a call that a word is found to be is spelled as that word, and is one of the version.
use Rattle.std.proofs.Common.{◌≡◌, ℕ, ◌≤◌, Bool, true, false, if◌then◌else◌, nat_le, leb-true, List, [], ◌∷◌, Option, Some, None, refl, sym, ap, subst, ◌∙◌}
use Rattle.line_reader.specs.Arguments.{is_word}
use Rattle.spk_nums.specs.{declared.verbs.Verb.Verb, Verbs.verb_word}
use Rattle.call_reader.specs.FirstWords.{is_late, verb_in, find_verb}
use Rattle.call_reader.specs.Within.{IsVerbIn}

some_same : (v w : Verb) → Some v ≡ Some w → v ≡ w
some_same v w e = cc

in_by : (version : ℕ) (v w : Verb) (late three : Bool) → is_late v ≡ late → nat_le 3 version ≡ three
    → (if late then (if three then Some v else None) else Some v) ≡ Some w → (v ≡ w) × IsVerbIn version v
in_by version v w true true is three e = (some_same v w e, λ late. leb-true 3 version three)
in_by version v w true false is three e = absurd cc
in_by version v w false three is three_is e = (some_same v w e, λ late. absurd (let no : true ≡ false = sym late ∙ is in cc))

-- The word is that of the version.
pub known_in : (version : ℕ) (v w : Verb) → verb_in version v ≡ Some w → (v ≡ w) × IsVerbIn version v
known_in version v w e = in_by version v w (is_late v) (nat_le 3 version) refl refl e

-- What is found among words of calls is the word, and one of the version.
found_by : (version : ℕ) (word : List ℕ) (v : Verb) (vs : List Verb) (w : Verb)
    → (find_verb version word vs ≡ Some w → (is_word word (verb_word w) ≡ true) × IsVerbIn version w)
    → (b : Bool) → is_word word (verb_word v) ≡ b → (if b then verb_in version v else find_verb version word vs) ≡ Some w
    → (is_word word (verb_word w) ≡ true) × IsVerbIn version w
found_by version word v vs w go true is e =
    let known = known_in version v w e in
    subst (λ x. (is_word word (verb_word x) ≡ true) × IsVerbIn version x) known.0 (is, known.1)
found_by version word v vs w go false is e = go e

pub verb_found : (version : ℕ) (word : List ℕ) (vs : List Verb) (w : Verb) → find_verb version word vs ≡ Some w
    → (is_word word (verb_word w) ≡ true) × IsVerbIn version w
unfolding find_verb
verb_found version word [] w e = absurd cc
verb_found version word (v ∷ vs) w e = found_by version word v vs w (verb_found version word vs w) (is_word word (verb_word v)) refl e
