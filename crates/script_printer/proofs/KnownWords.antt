-- What a version allows: the word of a call that a first word is, is one of the script's version; and calls.
use Rattle.std.proofs.Common.{◌≡◌, ℕ, ◌-◌, ◌^◌, ◌≤◌, arith, Bool, true, false, nat_le, if◌then◌else◌, List, Option, Some, None, IfSome}
use Rattle.std.proofs.Common.{Ok, codes, refl, subst, ok_or, option_and_then}
use Rattle.script_reader.specs.call_reader.specs.{call_word, first_word, most_calls, IsVerbIn, FirstWords.verbs, FirstWords.verb_of}
use Rattle.script_reader.specs.call_reader.specs.{declared.first_words.FirstWord.FirstWord}
use Rattle.script_reader.specs.call_reader.proofs.Verbs.{verb_found}
use Rattle.script_reader.specs.line_reader.specs.{declared.cause.Cause.TheVariants.S2, Arguments.is_word}
use Rattle.spk_nums.specs.{declared.verbs.Verb.Verb}

-- No version says more calls than a machine takes
pub most_machine : (version : ℕ) → most_calls version ≤ 2 ^ 40 - 1
most_machine version = by (nat_le 3 version)
  where
    by : (late : Bool) → (if late then 2 ^ 40 - 1 else 4194304) ≤ 2 ^ 40 - 1
    by true = omega arith
    by false = omega arith

-- A first word is one of a version.
abbrev pub IsWordIn : ℕ → FirstWord → Type 0
IsWordIn version (FirstWord.Call v) = IsVerbIn version v
IsWordIn version _ = Unit {0}

-- What a chain of tests finds is so, where each of its ends is.
chain : {A : Type 0} (K : A → Type 0) (v : A) (b : Bool) (rest : Option A) → K v → IfSome rest K → IfSome (if b then Some v else rest) K
chain K v true rest here go = here
chain K v false rest here go = go

call_known : (version : ℕ) (o : Option Verb) → ((v : Verb) → o ≡ Some v → IsVerbIn version v) → IfSome (call_word o) (IsWordIn version)
call_known version None h = tt
call_known version (Some v) h = h v refl

first_known : (version : ℕ) (word : List ℕ) → IfSome (first_word version word) (IsWordIn version)
unfolding first_word
first_known version word =
    chain (IsWordIn version) FirstWord.Speck (is_word word (codes "speck")) _ tt
    (chain (IsWordIn version) FirstWord.Cores (is_word word (codes "cores")) _ tt
    (chain (IsWordIn version) FirstWord.Frames (is_word word (codes "frames")) _ tt
    (chain (IsWordIn version) FirstWord.Grant (is_word word (codes "grant")) _ tt
    (chain (IsWordIn version) FirstWord.Calls (is_word word (codes "calls")) _ tt
    (chain (IsWordIn version) FirstWord.Epochs (is_word word (codes "epochs")) _ tt
    (chain (IsWordIn version) FirstWord.Core (is_word word (codes "core")) _ tt
    (chain (IsWordIn version) FirstWord.Order (is_word word (codes "order")) _ tt
    (call_known version (verb_of version word) (λ v e. (verb_found version word verbs v e).1)))))))))

found_known : (version : ℕ) (o : Option FirstWord) (w : FirstWord) → ok_or o S2 ≡ Ok w → IfSome o (IsWordIn version) → IsWordIn version w
found_known version None w e h = absurd (cc)
found_known version (Some x) w e h = subst (IsWordIn version) (word_is x w e) h
  where
    word_is : (x w : FirstWord) → ok_or (Some x) S2 ≡ Ok w → x ≡ w
    word_is x w e = cc

-- So is the first word of a line.
pub word_known : (version : ℕ) (o : Option (List ℕ)) (w : FirstWord) → ok_or (option_and_then (first_word version) o) S2 ≡ Ok w
    → IsWordIn version w
word_known version None w e = absurd (cc)
word_known version (Some word) w e = found_known version (first_word version word) w e (first_known version word)
