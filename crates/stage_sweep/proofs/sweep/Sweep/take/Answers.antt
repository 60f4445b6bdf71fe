use Rattle.std.proofs.Common.{rules, ◌≡◌, sym, ◌∙◌}
use Rattle.{stage_sweep.specs.sweep_after, stage_sweep.specs.sweep_end, stage_sweep.specs.declared.sweep.Sweep.Sweep}
use Rattle.{stage_sweep.proofs.SweepLemmas.keep_fits, stage_sweep.proofs.SweepLemmas.sweep_after_fits}
use Rattle.stage_sweep.proofs.sweep.Sweep.take.Goals as goal

pub keep-requires : goal.keep-requires
keep-requires c = keep_fits c.args.layout.now c.cores.ensures.limits.most_cores c.args.self.now.kept c.args.self.now.at c.requires.at

pub returns-clause-fits : goal.returns-clause-fits
returns-clause-fits c = λ goes.
    let s = c.args.layout.now in
    let w = c.args.self.now in
    let found = c.args.found in
    let ends : c.end.result ≡ sweep_end s w found = search rules in
    let new : Sweep = record {
      frame = c.keep.new.self.frame;
      word = c.keep.new.self.word;
      core =
          c.keep.new.self.core;
      kept = c.keep.new.self.kept;
      owned = c.owned_at-self.result;
      at = c.at_after-self.result;
    } in
    let after : new ≡ sweep_after s w found = search rules in
    rw after (sweep_after_fits s w found (sym ends ∙ goes) c.requires)
