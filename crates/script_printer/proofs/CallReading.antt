-- Calls as words: the words of the line of a call are read as that call.
use Rattle.script_reader.specs.call_reader.specs as low
use low.{first_word, frame_kind_of, frame_kind_at, object_of, object_at, call_line, read_form, Form, form_of, MaySay, IsCallWithin}
use Rattle.std.proofs.Common.{◌≡◌, ◌≢◌, ℕ, suc, ◌≤◌, ◌<◌, ◌+◌, ◌==◌, Bool, true, false, ◌&&◌, if◌then◌else◌, List, [], ◌∷◌, ◌++◌, map}
use Rattle.std.proofs.Common.{Result, Some, Ok, refl, sym, ap, ◌∙◌, arith, eqb-true, le-leb, lt-ltb, le-ltb, slice_get, option_and_then}
use Rattle.std.proofs.Common.{nat_le, nat_lt, length, append-nil, length-append}
use Rattle.std.proofs.lemmas.Bool.{eqb-false}
use Rattle.script_reader.specs.line_reader.specs.{◌>>=◌, is_word, word_at, number_at, end_at, declared.cause.Cause.Cause}
use Rattle.script_reader.specs.call_reader.proofs.{Spelled.first_of, Forms.AllSay, Forms.IsLast, Forms.forms_say, Forms.may_be_said}
use Rattle.spk_nums.specs.Verbs.{Argument, argument_word, object_word, rights_written, said, with, said_words, call_words}
use Rattle.spk_nums.specs.{Names.frame_kind_word, Rights.both, declared.kinds.FrameKind.FrameKind, declared.calls.Call.Call}
use Rattle.spk_nums.specs.{declared.verbs.Verb.Verb, declared.verbs.Object.Object}
use Rattle.{script_reader.specs.line_of, script_reader.specs.line_by, script_reader.specs.declared.head.Head.Head}
use Rattle.script_printer.proofs.NumberWords.{number_back}
use Rattle.script_reader.specs.call_reader.specs.declared.first_words.FirstWord.TheVariants as first
use Rattle.script_reader.specs.declared.head.Section.TheVariants as section
use Rattle.script_reader.specs.declared.head.Line.TheVariants as line

-- ---- where an argument stands

there : (before : List Argument) (one : Argument) (more : List Argument)
    → slice_get (map argument_word ((before ++ one ∷ []) ++ more)) (length before) ≡ Some (argument_word one)
there [] one more = refl
there (a ∷ before) one more = there before one more

-- the place after so many arguments
abbrev After : List Argument → ℕ → Type 0
After before place = place ≡ suc (length before)

argument_there : (v : Verb) (c : Call) (before : List Argument) (one : Argument) (more : List Argument) (place : ℕ)
    → said c ≡ with v ((before ++ one ∷ []) ++ more) → After before place → slice_get (call_words c) place ≡ Some (argument_word one)
argument_there v c before one more place is at = (λ i. slice_get (said_words (is i)) (at i)) ∙ there before one more

next_place : (before : List Argument) (one : Argument) (place : ℕ) → After before place → After (before ++ one ∷ []) (place + 1)
next_place before one place at = omega (arith, at, length-append before (one ∷ []))

words_length : (xs : List Argument) → length (map argument_word xs) ≡ length xs
words_length [] = refl
words_length (a ∷ xs) = ap suc (words_length xs)

said_length : (v : Verb) (c : Call) (xs : List Argument) → said c ≡ with v xs → length (call_words c) ≡ suc (length xs)
said_length v c xs is = ap (λ s. length (said_words s)) is ∙ ap suc (words_length xs)

-- ---- what stands there is read

kind_read : (k : FrameKind) → frame_kind_of (frame_kind_word k) ≡ Some k
unfolding frame_kind_of is_word
kind_read FrameKind.Untyped = refl
kind_read _ = refl

kind_back : (words : List (List ℕ)) (place : ℕ) (k : FrameKind) → slice_get words place ≡ Some (frame_kind_word k)
    → frame_kind_at words place ≡ Ok k
unfolding frame_kind_at word_at
kind_back words place k e = rw (e, kind_read k) refl

object_read : (o : Object) → object_of (object_word o) ≡ Some o
unfolding object_of is_word
object_read Object.Table = refl
object_read _ = refl

object_back : (words : List (List ℕ)) (place : ℕ) (o : Object) → slice_get words place ≡ Some (object_word o) → object_at words place ≡ Ok o
unfolding object_at word_at
object_back words place o e = rw (e, object_read o) refl

end_back : (words : List (List ℕ)) (place : ℕ) → length words ≡ place → end_at words place ≡ Ok tt
unfolding end_at
end_back words place e = rw (le-leb (length words) place (omega (arith, e))) refl

-- what is read at a place, and what comes after it
then_read : {A : Type 0} (r : Result A Cause) (f : A → Result Call Cause) (a : A) (c : Call) → r ≡ Ok a → f a ≡ Ok c → (r >>= f) ≡ Ok c
then_read r f a c e h = ap (λ x. x >>= f) e ∙ h

-- ---- the number that may be left out

last_says : (v : Verb) (version : ℕ) (f : Form) (before : List Argument) (c : Call) → IsLast f → AllSay v f before → MaySay version f c
    → said c ≡ with v before
last_says v version (Form.Says d) before c last all may = ap said (sym may) ∙ all
last_says v version _ before c last all may = absurd last

no_more : {A : Type 0} (two more : Bool) (x y z : A) → more ≡ false → y ≡ z → (if two && more then x else y) ≡ z
no_more true true x y z e h = absurd cc
no_more true false x y z e h = h
no_more false more x y z e h = h

-- as a number is written where it is not both rights
abbrev written : Bool → ℕ → List Argument
written whole n = if whole then [] else Argument.Number n ∷ []

may_number : (v : Verb) (version : ℕ) (letter : List ℕ) (next : ℕ → Form) (before : List Argument) (c : Call) (place n : ℕ) (whole : Bool)
    → (n == both) ≡ whole → 1 ≤ version → n ≤ 3 → (version ≡ 1 → n ≡ both) → IsLast (next n)
    → AllSay v (next n) (before ++ written whole n) → MaySay version (next n) c → After before place
    → ((p : ℕ) → After (before ++ written whole n) p → read_form version (call_words c) p (next n) ≡ Ok c)
    → read_form version (call_words c) place (Form.MayNumber letter next) ≡ Ok c
may_number v version letter next before c place n true is some few one last all may at go =
    let words = call_words c in
    let said_is : said c ≡ with v (before ++ []) = last_says v version (next n) (before ++ []) c last all may in
    let long : length words ≡ suc (length (before ++ [])) = said_length v c (before ++ []) said_is in
    let here : After (before ++ []) place = omega (arith, at, ap length (append-nil before)) in
    let past : nat_lt place (length words) ≡ false = le-ltb place (length words) (omega (arith, long, here)) in
    let rest : read_form version words place (next both) ≡ Ok c =
    ap (λ k. read_form version words place (next k)) (sym (eqb-true n both is)) ∙ go place here in
    no_more (nat_le 2 version) (nat_lt place (length words)) _ _ _ past rest
may_number v version letter next before c place n false is some few one last all may at go =
    let words = call_words c in
    let x = Argument.Number n in
    let said_is : said c ≡ with v (before ++ x ∷ []) = last_says v version (next n) (before ++ x ∷ []) c last all may in
    let long : length words ≡ suc (length (before ++ x ∷ [])) = said_length v c (before ++ x ∷ []) said_is in
    let other : version ≢ 1 = λ e. eqb-false n both is (one e) in
    let two : 2 ≤ version = omega (arith, some, other) in
    let below : place < length words = omega (arith, long, at, length-append before (x ∷ [])) in
    let here = argument_there v c before x [] place (said_is ∙ ap (λ xs. with v xs) (sym (append-nil (before ++ x ∷ [])))) at in
    let rest = then_read (number_at words place 0 3) (λ k. read_form version words (place + 1) (next k)) n c
    (number_back words place 0 3 n here (omega arith) few (omega arith)) (go (place + 1) (next_place before x place at)) in
    rw (le-leb 2 version two, lt-ltb place (length words) below) rest

-- ---- the line is read

-- where what stands before a place is what the line says, what stands from there on is read as the call
reads : (v : Verb) (version : ℕ) (f : Form) (before : List Argument) (c : Call) (place : ℕ) → 1 ≤ version → AllSay v f before
    → MaySay version f c → After before place → read_form version (call_words c) place f ≡ Ok c
reads v version (Form.Says d) before c place some all may at =
    let words = call_words c in
    let long : length words ≡ suc (length before) = said_length v c before (ap said (sym may) ∙ all) in
    then_read (end_at words place) (λ done. Ok d) tt c (end_back words place (long ∙ sym at)) (ap Ok may)
reads v version (Form.Number letter least most next) before c place some all may at =
    let words = call_words c in
    let n = may.0 in
    let x = Argument.Number n in
    let more = may_be_said v version (next n) (before ++ x ∷ []) c (all.1 n) may.3 in
    let here = argument_there v c before x more.0 place more.1 at in
    let small : most ≤ 4000000000 = all.0 in
    then_read (number_at words place least most) (λ k. read_form version words (place + 1) (next k)) n c
    (number_back words place least most n here may.1 may.2 (omega (arith, small)))
    (reads v version (next n) (before ++ x ∷ []) c (place + 1) some (all.1 n) may.3 (next_place before x place at))
reads v version (Form.MayNumber letter next) before c place some all may at =
    let n = may.0 in
    may_number v version letter next before c place n (n == both) refl some may.1 may.2 (all n).0 (all n).1 may.3 at
    (λ p here. reads v version (next n) (before ++ rights_written n) c p some (all n).1 may.3 here)
reads v version (Form.Kind letter next) before c place some all may at =
    let words = call_words c in
    let k = may.0 in
    let x = Argument.Kind k in
    let more = may_be_said v version (next k) (before ++ x ∷ []) c (all k) may.1 in
    then_read (frame_kind_at words place) (λ j. read_form version words (place + 1) (next j)) k c
    (kind_back words place k (argument_there v c before x more.0 place more.1 at))
    (reads v version (next k) (before ++ x ∷ []) c (place + 1) some (all k) may.1 (next_place before x place at))
reads v version (Form.Made letter next) before c place some all may at =
    let words = call_words c in
    let o = may.0 in
    let x = Argument.Made o in
    let more = may_be_said v version (next o) (before ++ x ∷ []) c (all o) may.1 in
    then_read (object_at words place) (λ j. read_form version words (place + 1) (next j)) o c
    (object_back words place o (argument_there v c before x more.0 place more.1 at))
    (reads v version (next o) (before ++ x ∷ []) c (place + 1) some (all o) may.1 (next_place before x place at))

call_read : (version : ℕ) (c : Call) → 1 ≤ version → IsCallWithin version c → call_line version (call_words c) (said c).verb ≡ Ok c
unfolding call_line
call_read version c some h =
    let v = (said c).verb in
    reads v version (form_of v) [] c 1 some (forms_say v) h.1 refl

call_first : (version : ℕ) (c : Call) → IsCallWithin version c
    → option_and_then (first_word version) (slice_get (call_words c) 0) ≡ Some (first.Call (said c).verb)
call_first version c h = first_of version (said c).verb h.0

-- after a `core` line, the line of a call says that call
pub call_back : (head : Head) (c : Call) → head.section ≡ section.List → 1 ≤ head.version
    → IsCallWithin head.version c → line_of head (call_words c) ≡ Ok (line.Call c)
unfolding line_of line_by
call_back head c e some h = rw (call_first head.version c h, e, call_read head.version c some h) refl
