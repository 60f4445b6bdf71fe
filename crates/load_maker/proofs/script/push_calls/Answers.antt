use Rattle.std.proofs.Common.{◌≡◌, ◌++◌, ap, ◌∙◌, arith}
use Rattle.load_maker.proofs.Repeats.{drawn_none, drawn_more}
use Rattle.{load_maker.specs.repeated, load_maker.specs.a_call, load_maker.specs.Loads.drawn_calls}
use Rattle.load_maker.proofs.script.push_calls.Goals as goal

pub calls-init : goal.calls-init
calls-init c = drawn_none a_call c.args.calls.now.items c.args.draws.now.at

pub calls-preserved : goal.calls-preserved
calls-preserved c =
    drawn_more a_call _ _ _ _ _ _ _ _ c.calls.invariant c.in_ok-push.ensures.items c.draw_call.ensures.value c.draw_call.ensures.goes_on

pub returns-clause-value : goal.returns-clause-value
unfolding drawn_calls
returns-clause-value c =
    let all : c.calls.counter ≡ 500 = omega arith in
    c.calls.invariant.all ∙ ap (λ n. c.args.calls.now.items ++ (repeated n a_call c.args.draws.now.at).0) all

pub returns-clause-goes_on : goal.returns-clause-goes_on
unfolding drawn_calls
returns-clause-goes_on c =
    let all : c.calls.counter ≡ 500 = omega arith in
    c.calls.invariant.goes_on ∙ ap (λ n. (repeated n a_call c.args.draws.now.at).1) all
