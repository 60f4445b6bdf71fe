use Rattle.stage_tcap.proofs.PairLemmas.{head_a_fits, head_b_fits, pair_after_fits}
use Rattle.{stage_tcap.specs.◌≡◌, stage_tcap.specs.pair_after, std.proofs.Common.rules, stage_tcap.specs.declared.pair.Pair.Pair}
use Rattle.stage_tcap.proofs.pair.Pair.take.Goals as goal

pub end-end-requires-clause-a : goal.end-end-requires-clause-a
end-end-requires-clause-a c = rw c.note.ensures (head_a_fits c.args.self.now.at c.args.self.now.head_a c.args.found c.requires.head_a)

pub end-end-requires-clause-b : goal.end-end-requires-clause-b
end-end-requires-clause-b c = rw c.note.ensures (head_b_fits c.args.self.now.at c.args.self.now.head_b c.args.found c.requires.head_b)

pub after-self-requires-clause-a : goal.after-self-requires-clause-a
after-self-requires-clause-a c = rw c.note.ensures (head_a_fits c.args.self.now.at c.args.self.now.head_a c.args.found c.requires.head_a)

pub after-self-requires-clause-b : goal.after-self-requires-clause-b
after-self-requires-clause-b c = rw c.note.ensures (head_b_fits c.args.self.now.at c.args.self.now.head_b c.args.found c.requires.head_b)

pub returns-clause-fits : goal.returns-clause-fits
returns-clause-fits c =
    let p = c.args.self.now in
    let new : Pair = record {
      a = c.note.new.self.a;
      b = c.note.new.self.b;
      what = c.note.new.self.what;
      core = c.note.new.self.core;
      head_a = c.note.new.self.head_a;
      head_b = c.note.new.self.head_b;
      list_a =
          c.note.new.self.list_a;
      list_b = c.note.new.self.list_b;
      grows = c.note.new.self.grows;
      at = c.after-self.result;
    } in
    let after : new ≡ pair_after p c.args.found = search rules in
    rw after (pair_after_fits c.args._layout.now p c.args.found c.requires)
