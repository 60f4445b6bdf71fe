use Rattle.std.proofs.Common.{◌<◌, sym, subst, string_bytes}
use Rattle.plain_run.proofs.PlainRuns.{cores_of, call_ran}
use Rattle.plain_run.proofs.run.run_call.Goals as goal

pub plain_step-requires-clause-core : goal.plain_step-requires-clause-core
plain_step-requires-clause-core c =
    subst (λ n. c.args.core < n) (sym (cores_of c.args.setup.now c.args.kernel.now c.requires.reached.state c.requires.reached.reached))
    c.requires.core

pub returns-in_ok-push_reply-in-Ok : goal.returns-in_ok-push_reply-in-Ok
returns-in_ok-push_reply-in-Ok c =
    call_ran c.args.setup.now c.cores-limits.ensures.limits c.args.kernel.now c.plain_step.new.k c.args.core c.args.index c.args.call.now
    c.in-Ok.reply
    (string_bytes c.args.text.now) (string_bytes c.push_reply.new.text) c.in-Ok.ensures.exact c.in_ok-push_reply-in-Ok.ensures
