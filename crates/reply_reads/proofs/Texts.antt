-- Replies as words: the text of a reply is its words with a space between each two, and they are words.
use Rattle.kernel_history.proofs.{◌≡◌, ℕ, ◌<◌, ◌≤◌, ◌==◌, ◌^◌, Bool, true, false, if◌then◌else◌, List, [], ◌∷◌, ◌++◌, refl, ap, ◌∙◌, arith}
use Rattle.kernel_history.proofs.{append_assoc, codes, and_from, Kind, Value, Reply}
use Rattle.kernel_history.specs.spk_nums.specs.{Names.kind_word, Names.reply_word, Limits.end_of_arg, Texts.with_two, Texts.cap_text_by}
use Rattle.reply_reads.specs.Words.{rights_words, cap_words_by, value_words, words_after}
use Rattle.{reply_reads.specs.spaced, reply_reads.specs.reply_words, reply_reads.specs.IsReplyWithin, kernel_history.specs.decimal}
use Rattle.{kernel_history.specs.with_one, kernel_history.specs.reply_text, script_printer.proofs.is_text, script_printer.proofs.is_line}
use Rattle.{script_printer.proofs.line_onto, kernel_history.specs.spk_nums.specs.Texts.ok_text, reply_ranges.specs.Ranges.ValueFits}
use Rattle.script_printer.proofs.{Spans.are_texts, NumberWords.number_text, CallWords.spaced_onto}

-- ---- the text is its words

-- The text of a capability, and of its rights where they are not both.
abbrev with_rights : Bool → List ℕ → ℕ → List ℕ
with_rights whole text rights = if whole then text else text ++ codes " rights " ++ decimal rights

one_spaced : (whole : Bool) (w : List ℕ) (f rights : ℕ)
    → with_rights whole (with_one w f) rights ≡ spaced (w ∷ decimal f ∷ rights_words whole rights)
one_spaced true w f rights = simp append_assoc
one_spaced false w f rights = simp append_assoc

two_spaced : (whole : Bool) (w : List ℕ) (f a rights : ℕ)
    → with_rights whole (with_two w f a) rights ≡ spaced (w ∷ decimal f ∷ decimal a ∷ rights_words whole rights)
two_spaced true w f a rights = simp append_assoc
two_spaced false w f a rights = simp append_assoc

cap_spaced : (whole : Bool) (k : Kind) (f a rights : ℕ)
    → with_rights whole (cap_text_by k f a) rights ≡ spaced (cap_words_by k f a (rights_words whole rights))
cap_spaced whole Kind.Range f a rights = two_spaced whole (codes "range") f a rights
cap_spaced whole Kind.Gate f a rights = two_spaced whole (codes "gate") f a rights
cap_spaced whole Kind.Page f a rights = two_spaced whole (codes "page") f a rights
cap_spaced whole k f a rights = one_spaced whole (kind_word k) f rights

-- A capability has words.
ok_onto : (k : Kind) (f a : ℕ) (rights : List (List ℕ))
    → codes "ok " ++ spaced (cap_words_by k f a rights) ≡ spaced (codes "ok" ∷ cap_words_by k f a rights)
ok_onto Kind.Range f a rights = refl
ok_onto Kind.Gate f a rights = refl
ok_onto Kind.Page f a rights = refl
ok_onto k f a rights = refl

value_spaced : (v : Value) → ok_text v ≡ spaced (codes "ok" ∷ value_words v)
value_spaced Value.Nothing = refl
value_spaced (Value.Cap c) =
    ap (λ (bs : List ℕ). codes "ok " ++ bs) (cap_spaced (c.rights == 3) c.kind c.frame c.arg c.rights)
    ∙ ok_onto c.kind c.frame c.arg (rights_words (c.rights == 3) c.rights)
value_spaced (Value.Page frame flags) = simp append_assoc
value_spaced (Value.Amount n) = refl
value_spaced Value.Preempts = refl
value_spaced Value.Stays = refl

-- The text of a reply is its words, with a space between each two.
pub reply_spaced : (r : Reply) → reply_text r ≡ spaced (reply_words r)
reply_spaced (Reply.Ok v) = value_spaced v
reply_spaced _ = refl

-- A line of the text of a reply is a line of its words.
pub reply_onto : (r : Reply) (rest : List ℕ) → reply_text r ++ 10 ∷ rest ≡ line_onto (reply_words r) rest
reply_onto r rest = ap (λ (bs : List ℕ). bs ++ 10 ∷ rest) (reply_spaced r) ∙ spaced_onto (reply_words r) (10 ∷ rest)

-- ---- its words are words

few_text : (n : ℕ) → n ≤ 4294967295 → is_text (decimal n) ≡ true
few_text n few = number_text n (omega arith)

rights_texts : (whole : Bool) (rights : ℕ) → rights ≤ 3 → are_texts (rights_words whole rights) ≡ true
rights_texts true rights few = refl
rights_texts false rights few = rw (few_text rights (omega arith)) refl

kind_text : (k : Kind) → is_text (kind_word k) ≡ true
kind_text Kind.Range = refl
kind_text _ = refl

least_end : (k : Kind) → end_of_arg k ≤ 2 ^ 24
least_end Kind.Range = omega arith
least_end Kind.Gate = omega arith
least_end Kind.Page = omega arith
least_end _ = omega arith

cap_texts : (k : Kind) (f a : ℕ) (rights : List (List ℕ)) → f ≤ 511 → a ≤ 4294967295
    → are_texts rights ≡ true → are_texts (cap_words_by k f a rights) ≡ true
cap_texts Kind.Range f a rights hf ha hr = rw (few_text f (omega arith), few_text a ha, hr) refl
cap_texts Kind.Gate f a rights hf ha hr = rw (few_text f (omega arith), few_text a ha, hr) refl
cap_texts Kind.Page f a rights hf ha hr = rw (few_text f (omega arith), few_text a ha, hr) refl
cap_texts k f a rights hf ha hr = rw (kind_text k, few_text f (omega arith), hr) refl

value_texts : (v : Value) → ValueFits v → are_texts (value_words v) ≡ true
value_texts Value.Nothing h = refl
value_texts (Value.Cap c) h =
    let frame = h.frame in
    let below = h.below in
    let end = least_end c.kind in
    cap_texts c.kind c.frame c.arg (rights_words (c.rights == 3) c.rights) frame (omega arith)
    (rights_texts (c.rights == 3) c.rights h.most)
value_texts (Value.Page frame flags) h =
    let f = h.0 in
    let w = h.1 in
    rw (few_text frame (omega arith), few_text flags.0 (omega arith)) refl
value_texts (Value.Amount n) h = rw (few_text n h) refl
value_texts Value.Preempts h = refl
value_texts Value.Stays h = refl

core_texts : (cores e : ℕ) → cores ≤ 8 → e < cores → are_texts (decimal e ∷ []) ≡ true
core_texts cores e most below = rw (few_text e (omega arith)) refl

count_texts : (n : ℕ) → n ≤ 4294967295 → are_texts (decimal n ∷ []) ≡ true
count_texts n few = rw (few_text n few) refl

after_texts : (cores : ℕ) → cores ≤ 8 → (r : Reply) → IsReplyWithin cores r → are_texts (words_after r) ≡ true
after_texts cores most (Reply.Ok v) h = value_texts v h
after_texts cores most (Reply.Quiescing e) h = core_texts cores e most h
after_texts cores most (Reply.Unflushed e) h = core_texts cores e most h
after_texts cores most (Reply.Running e) h = core_texts cores e most h
after_texts cores most (Reply.Busy d) h = core_texts cores d most h
after_texts cores most (Reply.Referenced k) h = count_texts k h
after_texts cores most (Reply.Short b) h = count_texts b h
after_texts cores most _ h = refl

name_text : (r : Reply) → is_text (reply_word r) ≡ true
name_text (Reply.Ok v) = refl
name_text _ = refl

-- The words of a reply in range are one or more, and have bytes of words alone.
pub reply_is_line : (cores : ℕ) → cores ≤ 8 → (r : Reply) → IsReplyWithin cores r → is_line (reply_words r) ≡ true
reply_is_line cores most r h = and_from _ _ (name_text r) (after_texts cores most r h)
