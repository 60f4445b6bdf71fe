use Rattle.std.proofs.Common.{rules, arith, ◌≡◌, ◌≢◌, ◌<◌, ℕ, length, get_or, set, ◌∙◌, subst, length-set, get_or-set_other}
use Rattle.{std.proofs.Common.get_or-set_same, std.proofs.Common.below_more, turn_rule.specs.Positions.position}
use Rattle.{turn_rule.proofs.Positions.position_apart, turn_rule.proofs.Positions.position_within}
use Rattle.turn_rule.proofs.ends.laid.Goals as goal

pub index_mut-requires : goal.index_mut-requires
index_mut-requires c =
    let i = c.loop-at.invariant in
    let at : ℕ = c.loop-at.at in
    let lt : at < length c.args.words.now = search rules in
    let is = c.position-in-loop-at.ensures in
    let ok = c.loop-at.memory.ok in
    let within = position_within c.args.spread c.requires.row at (length c.args.words.now) (length c.loop-at.memory.items) lt i.0
    in omega arith

pub loop-at-preserved : goal.loop-at-preserved
loop-at-preserved c =
    let i = c.loop-at.invariant in
    let s = c.args.spread in
    let words = c.args.words.now in
    let memory = c.loop-at.memory.items in
    let at : ℕ = c.loop-at.at in
    let p : ℕ = c.position-in-loop-at.result in
    let x : ℕ = get_or words at 0 in
    let lt : at < length words = search rules in
    let is : p ≡ position s at = c.position-in-loop-at.ensures in
    let within = position_within s c.requires.row at (length words) (length memory) lt i.0 in
    let inside : p < length memory = omega arith in (
      length-set memory p x ∙ i.0,
      below_more (λ k. get_or (set memory p x) (position s k) 0 ≡ get_or words k 0) at
          (λ k h. let ne : k ≢ at = omega arith in
          get_or-set_other memory p (position s k) x 0 (λ e. position_apart s c.requires.row k at ne (e ∙ is)) ∙ i.1 k h)
          (subst (λ (j : ℕ). get_or (set memory p x) j 0 ≡ x) is (get_or-set_same memory p x 0 inside)),
    )
