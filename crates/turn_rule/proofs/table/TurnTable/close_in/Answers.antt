use Rattle.std.proofs.Common.{rules, arith, ◌≡◌, ◌<◌, ℕ, List, [], length, get_or, refl, sym, ap, ◌∙◌, subst}
use Rattle.turn_rule.specs.{SpreadValue, position, start_of, part, Kept, declared.view.Start.Start, Rule.view}
use Rattle.turn_rule.proofs.{Views.comes, AllSeats.ends}
use Rattle.turn_rule.proofs.table.TurnTable.close_in.Goals as goal

pub load_new_seat-requires : goal.load_new_seat-requires
load_new_seat-requires g c = let key = c.self.inside.table.shared.key in
    let start = start_of key.words.value.items key.programs.value.items in
    (c.self.invariant.0, comes g.P.CoreProgram.steps key.spread start _ (view (part start 0 (length start.programs) [])) refl refl refl)

pub returns : goal.returns
returns g c =
    let T = g.P.CoreProgram.steps in
    let i = c.self.invariant in
    let spread = c.self.inside.spread in
    let last = c.close_with-closed.ensures.values.2 in
    let all = c.gather-programs.new.all in
    let first = c.load_new_seat.ensures.2 in
    let joined = c.gather-programs.ensures in
    let kept = subst (λ (z : SpreadValue × Start g.row.P.Denot). Kept T z.0 z.1 last.0)
    (λ j. (sym i.4 j, ap (λ t. t.start) c.self.view_is j)) last.1.0 in
    let room : length c.args.words.items ≡ c.self.inside.words = search rules in
    let count = c.words_of.ensures.count in
    let as_many = count ∙ room ∙ i.3 ∙ ap (λ t. length t.start.words) c.self.view_is in
    let are : (k : ℕ) → k < length c.words_of.result.items
    → get_or c.words_of.result.items k 0 ≡ get_or last.0.words (position spread k) 0 =
    λ k lt. c.words_of.ensures.words k (omega arith) ∙ ap (λ (l : List ℕ). get_or l (position spread k) 0) (sym last.2) in
    ends T c.args.self spread last.0 kept all.id all.me.0 last.1.1 c.args.seats.items joined.all.end (joined.all.from ∙ first.from)
    (joined.all.start ∙ first.start ∙ ap (λ t. t.start) c.self.view_is) c.requires.seats.count c.requires.seats.core joined.seen
    c.words_of.result.items as_many are c.gather-programs.result.items joined.count joined.programs
