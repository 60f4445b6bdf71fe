use Rattle.seq_lookups.specs.seq_state.proofs.{◌≡◌, ◌∙◌, ℕ, sym, subst, Make as make_call, Nothing, rule_of, state_of}
use Rattle.{seq_plans.specs.left_of, seq_plans.specs.change_in}
use Rattle.{seq_lookups.specs.spk_nums.specs.declared.replies.Reply.TheVariants.Ok as ok}
use Rattle.{seq_lookups.specs.Carried.IsCarriedOut, seq_plans.specs.Carrying.MayCarry}
use Rattle.seq_caps.proofs.carrying.make.Goals as goal

pub returns-then-number-frames : goal.returns-then-number-frames
returns-then-number-frames c = λ core r t b may.
    let s = state_of c.args.k.now in
    let e : c.new.result ≡ c.args.frame = c.new.ensures ∙ c.number-then-number-frames.ensures in
    subst (λ (f : ℕ). IsCarriedOut s (change_in s core (left_of (rule_of s core (make_call c.args.what.now r f t b)) c.args.looked.now))
    (ok Nothing) c.make_in.new.k) e
    (c.make_in.ensures core r t b (subst (λ (f : ℕ). MayCarry s core (make_call c.args.what.now r f t b) c.args.looked.now) (sym e) may) c.in-Some.is)
