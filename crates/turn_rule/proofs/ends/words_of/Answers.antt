use Rattle.std.proofs.Common.{rules, arith, ◌≡◌, ◌≢◌, ◌<◌, ℕ, zero, suc, List, [], ◌∷◌, length, get_or, set, sym, ◌∙◌, subst, length-set}
use Rattle.std.proofs.Common.{get_or-set_other, get_or-set_same, below_more}
use Rattle.std.specs.Slots.{slots_items, slots_len}
use Rattle.{turn_rule.specs.Positions.position, turn_rule.proofs.Positions.position_within}
use mathlib.Core.Option.{some, some-injective, some-ne-none}
use lib.ListN.{get_elem?}
use Rattle.turn_rule.proofs.ends.words_of.Goals as goal

read : (l : List ℕ) (i n : ℕ) → get_elem? l i ≡ some n → get_or l i 0 ≡ n
read [] i n e = absurd (some-ne-none n (sym e))
read (x ∷ xs) zero n e = some-injective x n e
read (x ∷ xs) (suc i) n e = read xs i n e

pub word-requires : goal.word-requires
word-requires c =
    let i = c.loop-at.invariant in
    let at : ℕ = c.loop-at.at in
    let below : at < length c.loop-at.words.items = search rules in
    let lt : at < length c.args.words.items = omega arith in
    let is = c.position.ensures in
    let within = position_within c.args.spread c.requires.row at (length c.args.words.items) (slots_len c.args.closed.words) lt
    c.requires.room in (omega arith, c.requires.full)

pub loop-at-preserved : goal.loop-at-preserved
loop-at-preserved c = let i = c.loop-at.invariant in let ws = c.loop-at.words.items in let at = c.loop-at.at in
    let lt : at < length ws = search rules in
    let found = subst (λ (k : ℕ). get_elem? (slots_items c.args.closed.words) k ≡ some c.word.result) c.position.ensures c.word.ensures in (
      length-set ws at c.word.result ∙ i.0,
      below_more (λ k. get_or (set ws at c.word.result) k 0 ≡ get_or (slots_items c.args.closed.words) (position c.args.spread k) 0) at
          (λ k h. let ne : k ≢ at = omega arith in rw get_or-set_other (i.1 k h))
          (rw get_or-set_same (sym (read (slots_items c.args.closed.words) (position c.args.spread at) c.word.result found))),
    )
