use Rattle.seq_lookups.specs.seq_state.proofs.{◌≡◌, refl, subst, arith, no_grace, state_of, Represents}
use Rattle.seq_caps.proofs.Clearing.{cleared_to, begins, goes_on, ends}
use Rattle.seq_caps.proofs.frames.clear.Goals as goal

pub each-init : goal.each-init
each-init c = begins (state_of c.args.k.now) c.args.frame

pub each-preserved : goal.each-preserved
each-preserved c =
    goes_on (state_of c.args.k.now) (state_of c.each.k) (state_of c.set_place.new.self)
    (state_of c.clear.new.self) c.args.frame c.each.number
    c.new-index.result no_grace c.new-index.ensures refl
    c.each.invariant c.set_place.ensures.machine c.clear.ensures

pub returns : goal.returns
returns c =
    let all : c.each.number ≡ 64 = omega arith in
    ends (state_of c.args.k.now) (state_of c.each.k) c.args.frame
    (subst (λ n. Represents c.each.k (cleared_to (state_of c.args.k.now) c.args.frame n)) all c.each.invariant)
