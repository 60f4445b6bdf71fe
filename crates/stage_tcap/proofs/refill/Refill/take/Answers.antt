use Rattle.{stage_tcap.specs.◌≡◌, stage_tcap.specs.refill_after, std.proofs.Common.rules, stage_tcap.specs.declared.refill.Refill.Refill}
use Rattle.{stage_tcap.proofs.RefillLemmas.refill_head_fits, stage_tcap.proofs.RefillLemmas.refill_after_fits}
use Rattle.stage_tcap.proofs.refill.Refill.take.Goals as goal

pub end-end-requires : goal.end-end-requires
end-end-requires c = rw c.note.ensures (refill_head_fits c.args.self.now.at c.args.self.now.head c.args.found c.requires.head)

pub returns-clause-fits : goal.returns-clause-fits
returns-clause-fits c =
    let r = c.args.self.now in
    let new : Refill = record {
      tcap = c.note.new.self.tcap;
      ticks = c.note.new.self.ticks;
      left = c.note.new.self.left;
      grant = c.note.new.self.grant;
      head = c.note.new.self.head;
      list = c.note.new.self.list;
      at = c.after-self.result;
    } in
    let after : new ≡ refill_after r c.args.found = search rules in
    rw after (refill_after_fits c.args._layout.now r c.args.found c.requires)
