use Rattle.std.proofs.Common.{◌≡◌, ◌∙◌, ap, length, get_or, arith, eqb, string_bytes}
use Rattle.speck_run.proofs.OneWord.{one_word}
use lib.Pointwise.{pointwise}
use Rattle.speck_run.proofs.words.is_alone.Goals as goal

pub returns-in-len1 : goal.returns-in-len1
returns-in-len1 c =
    let s = c.as_slice.ensures.value in
    let one : length c.args.words.now.items ≡ 1 = let l = ap length s in
    let a = c.in-len1.len_at_least in let b = c.in-len1.len_below in omega arith in
    one_word (λ w. string_bytes w) c.args.words.now.items c.word-item.result c.args.name.now c.eq.result one
    (c.word-item.is ∙ ap (λ l. get_or l 0 c.word-item.result) s)
    (c.eq.ensures ∙ ap (λ l. pointwise eqb l c.args.name.now) c.as_str.ensures.value)
