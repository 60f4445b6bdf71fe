use Rattle.{std.proofs.Common.◌≡◌, stage_thread.specs.Claiming.claim_after, stage_thread.proofs.ThreadLemmas.claim_after_fits}
use Rattle.stage_thread.proofs.claim.Claim.take.Goals as goal

pub returns-clause-fits : goal.returns-clause-fits
returns-clause-fits c =
    let after : c.took-took.result.0 ≡ claim_after c.args.self.now c.args.found = c.took-took.ensures.after in
    rw after (claim_after_fits c.args.layout.now c.args.self.now c.args.found c.requires)
