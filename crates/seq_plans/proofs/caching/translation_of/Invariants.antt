use Rattle.seq_state.specs.{◌≡◌, ◌&&◌, ◌==◌, drop, find, translation_of}
use Rattle.seq_plans.proofs.caching.translation_of.Given as goal

abbrev pub invariant-each : goal.invariant-each
invariant-each l = translation_of l.cached l.pages l.page ≡ find (λ t. t.pages == l.pages && t.page == l.page) (drop l.at l.cached)
