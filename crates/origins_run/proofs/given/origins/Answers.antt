use Rattle.std.proofs.Common.{ℕ, List, [], map, subst, string_bytes}
use Rattle.{origin_lines.specs.confinement.specs.Known.Known, origin_lines.specs.Lines.TellsOrigins, origins_run.proofs.Stepping.given}
use Rattle.origins_run.proofs.given.origins.Goals as goal

pub returns : goal.returns
returns c =
    let text : List ℕ = string_bytes c.push_origins.new.text in
    given c.args.setup.now (map (λ v. v.items) c.args.lists.items) c.args.items.now c.in_ok-tracking.tracking c.watch.new.watcher text
    c.requires.few c.in_ok-tracking.ensures
    (subst (λ (o : Known). TellsOrigins o [] text) c.origins.ensures
    (subst (λ (old : List ℕ). TellsOrigins c.origins.result.now old text) c.new-text.ensures.bytes c.in_ok-push_origins.ensures))
    (c.in_ok-watch.ensures (λ begun few. begun))
