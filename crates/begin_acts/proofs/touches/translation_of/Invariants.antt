use Rattle.act_counts.specs.kernel_rules.specs.{◌≡◌, ◌&&◌, ◌==◌, drop, find, translation_of}
use Rattle.begin_acts.proofs.touches.translation_of.Given as goal

abbrev pub invariant-each : goal.invariant-each
invariant-each l = translation_of l.cached l.pages l.page ≡ find (λ t. t.pages == l.pages && t.page == l.page) (drop l.at l.cached)
