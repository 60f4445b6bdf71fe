use Rattle.std.proofs.Common.{◌≡◌, ◌<◌, ◌⊎◌, inl, inr, refl, sym, ◌∙◌, ap, subst, arith, List, ℕ}
use Rattle.{world_parts.specs.world_in, world_parts.specs.Joins, world_parts.proofs.JoinLaws.joined_after}
use Rattle.world_parts.proofs.parts.Parts.join.Goals as goal

pub returns-then-first-second : goal.returns-then-first-second
returns-then-first-second c =
    let xs : List ℕ = c.self.inside.least in
    let ys : List ℕ = c.move_all.new.least in
    let low : c.args.other < 512 = omega arith in
    subst (λ (x : List ℕ). Joins (λ f g. (f ≡ c.args.one) × (g ≡ c.args.other)) (world_in x) (world_in ys)) c.self.view_is
    (joined_after xs ys c.self.invariant c.args.one c.args.other c.number-first.result c.number-second.result low
    (c.number-first.ensures.value ∙ c.world.ensures ∙ ap (λ (x : List ℕ). world_in x c.args.one) (sym c.self.view_is))
    (c.number-second.ensures.value ∙ c.world-2.ensures ∙ ap (λ (x : List ℕ). world_in x c.args.other) (sym c.self.view_is))
    (omega arith) c.move_all.ensures.size c.move_all.ensures.moves
    (λ f g. (f ≡ c.args.one) × (g ≡ c.args.other)) (λ f g h. inl h) (inl (refl, refl)))

pub returns-then-second-first : goal.returns-then-second-first
returns-then-second-first c =
    let xs : List ℕ = c.self.inside.least in
    let ys : List ℕ = c.move_all-then-second-first.new.least in
    let low : c.args.one < 512 = omega arith in
    subst (λ (x : List ℕ). Joins (λ f g. (f ≡ c.args.one) × (g ≡ c.args.other)) (world_in x) (world_in ys)) c.self.view_is
    (joined_after xs ys c.self.invariant c.args.other c.args.one c.number-second.result c.number-first.result low
    (c.number-second.ensures.value ∙ c.world-2.ensures ∙ ap (λ (x : List ℕ). world_in x c.args.other) (sym c.self.view_is))
    (c.number-first.ensures.value ∙ c.world.ensures ∙ ap (λ (x : List ℕ). world_in x c.args.one) (sym c.self.view_is))
    (omega arith) c.move_all-then-second-first.ensures.size c.move_all-then-second-first.ensures.moves
    (λ f g. (f ≡ c.args.one) × (g ≡ c.args.other)) (λ f g h. inr h) (inr (refl, refl)))
