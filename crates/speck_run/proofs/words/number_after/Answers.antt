use Rattle.std.proofs.Common.{◌≡◌, ◌∙◌, true, sym, ap, subst, length, get_or, arith, eqb, string_bytes}
use Rattle.speck_run.specs.Top.{IsNumberIn}
use Rattle.speck_run.proofs.{Due.number_told, OneWord.first_word, OneWord.two_words}
use lib.Pointwise.{pointwise}
use Rattle.speck_run.proofs.words.number_after.Goals as goal

pub returns-in-len2 : goal.returns-in-len2
returns-in-len2 c =
    let words = c.args.words.now in
    let s = c.as_slice.ensures.value in
    let two : length words.items ≡ 2 = let l = ap length s in
    let a = c.in-len2.len_at_least in let b = c.in-len2.len_below in omega arith in
    let first = c.word-item.is ∙ ap (λ l. get_or l 0 c.word-item.result) s in
    let second = c.number-item.is ∙ ap (λ l. get_or l 1 c.number-item.result) s in
    let test : true ≡ pointwise eqb (string_bytes c.word-item.result) c.args.name.now =
    sym c.if-eq.true ∙ c.eq.ensures ∙ ap (λ l. pointwise eqb l c.args.name.now) c.as_str.ensures.value in
    number_told c.args.name.now words (string_bytes c.number-item.result) c.number_in.result
    (two_words (λ w. string_bytes w) words.items c.word-item.result c.number-item.result c.args.name.now two first second test)
    (subst (λ digits. IsNumberIn digits c.number_in.result) c.as_str-in-len2.ensures.value c.number_in.ensures)

pub returns-in_default-2 : goal.returns-in_default-2
returns-in_default-2 c = λ h.
    let words = c.args.words.now in
    let first = c.word-item.is ∙ ap (λ l. get_or l 0 c.word-item.result) c.as_slice.ensures.value in
    let same : c.eq.result ≡ true =
    c.eq.ensures ∙ ap (λ l. pointwise eqb l c.args.name.now) c.as_str.ensures.value
    ∙ first_word (λ w. string_bytes w) words.items c.word-item.result c.args.name.now h.asks.digits first h.asks.asks in
    let other = c.if-eq.false in
    cc
