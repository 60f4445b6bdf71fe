use Rattle.seq_lookups.specs.seq_state.proofs.{◌≡◌, ◌<◌, ℕ, true, false, not, is_some, sym, ◌∙◌, ap, held_in, state_of}
use Rattle.seq_lookups.specs.seq_state.specs.kernel_rules.specs.MemoryCalls.{holds_nothing}
use Rattle.seq_memory.proofs.Searching.{any_here, any_later, any_nowhere}
use Rattle.seq_memory.proofs.frames.holds_nothing.Goals as goal

pub returns-then-is_held : goal.returns-then-is_held
unfolding holds_nothing
returns-then-is_held c =
    let p = λ (i : ℕ). is_some (held_in ((state_of c.args.k.now).place c.args.node i)) in
    let below : c.each.number < 64 = c.each-test.true in
    let here : p c.each.number ≡ true =
    ap p (sym c.new.ensures) ∙ ap (λ x. is_some (held_in x)) (sym c.place-place.ensures) ∙ sym c.is_held.ensures ∙ c.if-is_held.true in
    sym (ap not (c.each.invariant ∙ any_here p c.each.number 64 below here))

pub each-preserved : goal.each-preserved
each-preserved c =
    let p = λ (i : ℕ). is_some (held_in ((state_of c.args.k.now).place c.args.node i)) in
    let below : c.each.number < 64 = c.each-test.true in
    let here : p c.each.number ≡ false =
    ap p (sym c.new.ensures) ∙ ap (λ x. is_some (held_in x)) (sym c.place-place.ensures) ∙ sym c.is_held.ensures ∙ c.if-is_held.false in
    c.each.invariant ∙ any_later p c.each.number 64 below here

pub returns : goal.returns
unfolding holds_nothing
returns c =
    let p = λ (i : ℕ). is_some (held_in ((state_of c.args.k.now).place c.args.node i)) in
    sym (ap not (c.each.invariant ∙ any_nowhere p c.each.number 64 c.each-test.false))
