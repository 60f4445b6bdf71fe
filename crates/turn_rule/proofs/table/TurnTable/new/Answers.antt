use Rattle.std.proofs.Common.{rules, arith, ◌≡◌, ◌<◌, ℕ, List, length, sym, ap, ◌∙◌, subst}
use Rattle.{turn_rule.specs.position, turn_rule.specs.start_of, turn_rule.specs.Positions.IsLaid}
use Rattle.{turn_rule.proofs.Positions.position_within, turn_rule.proofs.Views.begins}
use Rattle.turn_rule.proofs.table.TurnTable.new.Goals as goal

pub of_words-requires : goal.of_words-requires
of_words-requires g c =
    let start = start_of c.of.result.value.items c.of-2.result.value.items in
    let words = c.as_slice.ensures.value ∙ sym (ap (λ v. v.items) c.of.ensures) in
    let memory = sym c.as_slice-2.ensures.value in
    begins g.P.CoreProgram.steps c.args.spread start c.as_slice-2.result.now
    (subst (λ (z : List ℕ × List ℕ). IsLaid c.args.spread z.0 z.1) (λ i. (words i, memory i)) c.in_ok-memory.ensures)

pub invariant_of-table : goal.invariant_of-table
invariant_of-table g c =
    let e = c.in_ok-table.ensures in
    let l = c.in_ok-memory.ensures in
    let n : ℕ = length c.args.words.items in
    let count : c.len.result ≡ n = search rules in
    let some : 0 < n = search rules in
    let same : c.as_slice.result.now ≡ c.args.words.items = c.as_slice.ensures.value in
    let room : c.in_ok-table.table.shared.table_id.words ≡ position c.args.spread n =
    e.0 ∙ ap length c.as_slice-2.ensures.value ∙ l.count ∙ ap (λ (ws : List ℕ). position c.args.spread (length ws)) same in
    let within = position_within c.args.spread c.requires.row 0 n c.in_ok-table.table.shared.table_id.words some room in (
      omega arith,
      e.1,
      room ∙ ap (position c.args.spread) (sym count),
      count ∙ ap length (sym (ap (λ v. v.items) c.of.ensures)) ∙ sym (ap (λ k. length k.words.value.items) e.5),
      sym (ap (λ k. k.spread) e.5),
      c.requires.row,
    )

pub invariant_of-table-2 : goal.invariant_of-table-2
invariant_of-table-2 g c =
    let e = c.in_ok-table.ensures in
    let l = c.in_ok-memory.ensures in
    let n : ℕ = length c.args.words.items in
    let count : c.len.result ≡ n = search rules in
    let some : 0 < n = search rules in
    let same : c.as_slice.result.now ≡ c.args.words.items = c.as_slice.ensures.value in
    let room : c.in_ok-table.table.shared.table_id.words ≡ position c.args.spread n =
    e.0 ∙ ap length c.as_slice-2.ensures.value ∙ l.count ∙ ap (λ (ws : List ℕ). position c.args.spread (length ws)) same in
    let within = position_within c.args.spread c.requires.row 0 n c.in_ok-table.table.shared.table_id.words some room in (
      omega arith,
      e.1,
      room ∙ ap (position c.args.spread) (sym count),
      count ∙ ap length (sym (ap (λ v. v.items) c.of.ensures)) ∙ sym (ap (λ k. length k.words.value.items) e.5),
      sym (ap (λ k. k.spread) e.5),
      c.requires.row,
    )
