-- Calls as words: the printed line of a call is its words, and they are words.
use Rattle.spk_nums.specs as low
use Rattle.std.proofs.Common.{◌≡◌, ℕ, ◌≤◌, ◌==◌, Bool, true, false, if◌then◌else◌, List, [], ◌∷◌, ◌++◌, map, refl, sym, ap, subst}
use Rattle.std.proofs.Common.{◌∙◌, arith, append_assoc}
use Rattle.std.proofs.lemmas.Bool.{and_from}
use Rattle.script_reader.specs.call_reader.specs.{Form, form_of, MaySay, IsCallWithin}
use Rattle.script_reader.specs.call_reader.proofs.{Judgements.both_left, Judgements.both_right, Forms.AllSay, Forms.forms_say}
use Rattle.script_printer.specs.{call_line}
use Rattle.script_printer.proofs.Spans.{is_text, are_texts, is_line, words_onto, line_onto}
use Rattle.script_printer.proofs.NumberWords.{number_text}
use low.Verbs.{Argument, argument_word, verb_word, object_word, rights_written, said, call_words}
use low.{Texts.spaced, Texts.call_text, Names.frame_kind_word, Rights.both, declared.kinds.FrameKind.FrameKind}
use low.{declared.calls.Call.Call, declared.verbs.Verb.Verb, declared.verbs.Object.Object}

-- ---- the line is its words

-- words with a space between, before the bytes after them
pub spaced_onto : (ws : List (List ℕ)) (tail : List ℕ) → spaced ws ++ tail ≡ words_onto ws tail
spaced_onto [] tail = refl
spaced_onto (w ∷ []) tail = refl
spaced_onto (w ∷ v ∷ ws) tail =
    append_assoc w (32 ∷ spaced (v ∷ ws)) tail ∙ ap (λ t. w ++ 32 ∷ t) (spaced_onto (v ∷ ws) tail)

-- the line of a call, before the bytes after it
pub call_onto : (c : Call) (rest : List ℕ) → call_line c ++ rest ≡ line_onto (call_words c) rest
call_onto c rest = append_assoc (call_text c) (10 ∷ []) rest ∙ spaced_onto (call_words c) (10 ∷ rest)

-- ---- its words are words

verb_text : (v : Verb) → is_text (verb_word v) ≡ true
verb_text Verb.Look = refl
verb_text _ = refl

object_text : (o : Object) → is_text (object_word o) ≡ true
object_text Object.Table = refl
object_text _ = refl

kind_text : (k : FrameKind) → is_text (frame_kind_word k) ≡ true
kind_text FrameKind.Untyped = refl
kind_text _ = refl

-- arguments are written as words
abbrev AreTexts : List Argument → Type 0
AreTexts xs = are_texts (map argument_word xs) ≡ true

one_text : (a : Argument) → is_text (argument_word a) ≡ true → AreTexts (a ∷ [])
one_text a h = and_from (is_text (argument_word a)) true h refl

rights_by : (n : ℕ) (whole : Bool) → n ≤ 3 → AreTexts (if whole then [] else Argument.Number n ∷ [])
rights_by n true few = refl
rights_by n false few = one_text (Argument.Number n) (number_text n (omega arith))

both_texts : (xs ys : List Argument) → AreTexts xs → AreTexts ys → AreTexts (xs ++ ys)
both_texts [] ys h k = k
both_texts (a ∷ xs) ys h k = and_from _ _ (both_left _ _ h) (both_texts xs ys (both_right _ _ h) k)

-- where the arguments before a place are words, all of what the line may say are
said_texts : (v : Verb) (version : ℕ) (f : Form) (before : List Argument) (c : Call) → AllSay v f before → MaySay version f c
    → AreTexts before → AreTexts (said c).arguments
said_texts v version (Form.Says d) before c all may h = subst AreTexts (sym (ap (λ s. s.arguments) (ap said (sym may) ∙ all))) h
said_texts v version (Form.Number letter least most next) before c all may h =
    let n = may.0 in
    let few : n ≤ most = may.2 in
    let small : most ≤ 4000000000 = all.0 in
    said_texts v version (next n) (before ++ Argument.Number n ∷ []) c (all.1 n) may.3
    (both_texts before (Argument.Number n ∷ []) h (one_text (Argument.Number n) (number_text n (omega (arith, few, small)))))
said_texts v version (Form.MayNumber letter next) before c all may h =
    let n = may.0 in
    said_texts v version (next n) (before ++ rights_written n) c (all n).1 may.3
    (both_texts before (rights_written n) h (rights_by n (n == both) may.1))
said_texts v version (Form.Kind letter next) before c all may h =
    let k = may.0 in
    said_texts v version (next k) (before ++ Argument.Kind k ∷ []) c (all k) may.1
    (both_texts before (Argument.Kind k ∷ []) h (one_text (Argument.Kind k) (kind_text k)))
said_texts v version (Form.Made letter next) before c all may h =
    let o = may.0 in
    said_texts v version (next o) (before ++ Argument.Made o ∷ []) c (all o) may.1
    (both_texts before (Argument.Made o ∷ []) h (one_text (Argument.Made o) (object_text o)))

pub call_is_line : (v : ℕ) (c : Call) → IsCallWithin v c → is_line (call_words c) ≡ true
call_is_line version c h =
    let v = (said c).verb in
    and_from _ _ (verb_text v) (said_texts v version (form_of v) [] c (forms_say v) h.1 refl)
