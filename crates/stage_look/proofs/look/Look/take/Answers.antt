use Rattle.{stage_look.specs.shown_in, stage_look.specs.look_end, stage_look.specs.look_after, std.proofs.Common.◌≡◌}
use Rattle.{stage_look.proofs.LookLemmas.shown_names, stage_look.proofs.LookLemmas.after_fits, stage_look.proofs.LookLemmas.end_fits}
use Rattle.stage_look.proofs.look.Look.take.Goals as goal

pub returns-clause-fits : goal.returns-clause-fits
returns-clause-fits c =
    let s = c.args.layout.now in
    let shown = shown_in s.frames c.args.found in
    let after : c.after.result ≡ look_after c.args.self.now shown = cc in
    rw after (after_fits s c.args.self.now shown (shown_names s.frames c.args.found) c.requires)

pub returns-clause-found : goal.returns-clause-found
returns-clause-found c =
    let s = c.args.layout.now in
    let shown = shown_in s.frames c.args.found in
    let ends : c.end-end.result ≡ look_end c.args.self.now c.args.found shown = cc in
    rw ends (end_fits s c.args.self.now c.args.found shown (shown_names s.frames c.args.found) c.requires)
