use Rattle.std.proofs.Common.{length, sym, ap, ◌∙◌}
use Rattle.spk_nums.specs.declared.steps.WordOp.TheVariants.{Load, Compare, Store, Add}
use Rattle.{turn_rule.specs.Rule.start_of, turn_rule.proofs.Keeps.made_on}
use Rattle.turn_rule.proofs.table.TurnTable.make.Goals as goal

pub load-requires : goal.load-requires
load-requires g c =
    let key = c.self.inside.table.shared.key in
    let start = start_of key.words.value.items key.programs.value.items in
    let i = c.self.invariant in
    let made = made_on g.P.CoreProgram.steps c.self.inside.spread key.spread i.4 i.5 start c.self.inside.words
    (length c.args.self.now.start.words) c.self.inside.table.shared.table_id.words i.3 (ap (λ t. length t.start.words) c.self.view_is) i.2
    c.self.inside.table.shared.table_id.slots c.args.seat.now.id c.args.seat.now.me g.W.Said.call g.W.Said.op c.args.op
    (Load c.in-Load.at) c.requires.said c.in-Load.is c.requires.due c.position.result c.position.ensures
    in (c.requires.table ∙ sym (ap (λ t. t.id) c.self.view_is), made.0, made.1)

pub compare_exchange-requires : goal.compare_exchange-requires
compare_exchange-requires g c =
    let key = c.self.inside.table.shared.key in
    let start = start_of key.words.value.items key.programs.value.items in
    let i = c.self.invariant in
    let made = made_on g.P.CoreProgram.steps c.self.inside.spread key.spread i.4 i.5 start c.self.inside.words
    (length c.args.self.now.start.words) c.self.inside.table.shared.table_id.words i.3 (ap (λ t. length t.start.words) c.self.view_is) i.2
    c.self.inside.table.shared.table_id.slots c.args.seat.now.id c.args.seat.now.me g.W.Said.call g.W.Said.op c.args.op
    (Compare c.in-Compare.at c.in-Compare.expected c.in-Compare.word) c.requires.said c.in-Compare.is c.requires.due c.position-at.result c.position-at.ensures
    in (c.requires.table ∙ sym (ap (λ t. t.id) c.self.view_is), made.0, made.1)

pub store-requires : goal.store-requires
store-requires g c =
    let key = c.self.inside.table.shared.key in
    let start = start_of key.words.value.items key.programs.value.items in
    let i = c.self.invariant in
    let made = made_on g.P.CoreProgram.steps c.self.inside.spread key.spread i.4 i.5 start c.self.inside.words
    (length c.args.self.now.start.words) c.self.inside.table.shared.table_id.words i.3 (ap (λ t. length t.start.words) c.self.view_is) i.2
    c.self.inside.table.shared.table_id.slots c.args.seat.now.id c.args.seat.now.me g.W.Said.call g.W.Said.op c.args.op
    (Store c.in-Store.at c.in-Store.word) c.requires.said c.in-Store.is c.requires.due c.position-in-Store.result c.position-in-Store.ensures
    in (c.requires.table ∙ sym (ap (λ t. t.id) c.self.view_is), made.0, made.1)

pub fetch_add-requires : goal.fetch_add-requires
fetch_add-requires g c =
    let key = c.self.inside.table.shared.key in
    let start = start_of key.words.value.items key.programs.value.items in
    let i = c.self.invariant in
    let made = made_on g.P.CoreProgram.steps c.self.inside.spread key.spread i.4 i.5 start c.self.inside.words
    (length c.args.self.now.start.words) c.self.inside.table.shared.table_id.words i.3 (ap (λ t. length t.start.words) c.self.view_is) i.2
    c.self.inside.table.shared.table_id.slots c.args.seat.now.id c.args.seat.now.me g.W.Said.call g.W.Said.op c.args.op
    (Add c.in-Add.at c.in-Add.by) c.requires.said c.in-Add.is c.requires.due c.position-in-Add.result c.position-in-Add.ensures
    in (c.requires.table ∙ sym (ap (λ t. t.id) c.self.view_is), made.0, made.1)
