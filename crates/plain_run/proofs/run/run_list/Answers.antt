use Rattle.std.proofs.Common.{◌≡◌, ◌+◌, ap, subst, arith, string_bytes}
use Rattle.plain_run.specs.Plain.{RunsCall}
use Rattle.plain_run.proofs.PlainRuns.{at_first, one_more, at_last, reached_midway}
use Rattle.plain_run.proofs.run.run_list.Goals as goal

pub run_call-requires-clause-reached : goal.run_call-requires-clause-reached
run_call-requires-clause-reached c =
    reached_midway c.args.setup.now c.args.core c.args.calls.now (string_bytes c.args.text.now) c.calls.call-index c.args.kernel.now
    c.calls.kernel
    (string_bytes c.calls.text) c.calls.invariant.mid c.requires.reached

pub calls-preserved : goal.calls-preserved
calls-preserved c =
    let next : c.calls.index + 1 ≡ c.calls.call-index + 1 = ap (λ n. n + 1) c.calls.invariant.index in
    let ran = subst (λ n. RunsCall c.args.setup.now c.calls.kernel c.run_call.new.kernel c.args.core n c.call-item.result
    (string_bytes c.calls.text) (string_bytes c.run_call.new.text)) next c.in_ok-run_call.ensures in
    record {
      index = next;
      mid = λ s r. one_more c.args.setup.now s c.args.core c.args.calls.now (string_bytes c.args.text.now) c.calls.call-index
          c.calls.kernel c.run_call.new.kernel
          (string_bytes c.calls.text) (string_bytes c.run_call.new.text) c.call-item.result c.calls-test.true c.call-item.is
          (c.calls.invariant.mid s r) ran;
    }

pub returns : goal.returns
returns c = λ s r.
    at_last c.args.setup.now s c.args.core c.args.calls.now (string_bytes c.args.text.now) c.calls.call-index c.calls.kernel
    (string_bytes c.calls.text)
    c.calls-test.false (c.calls.invariant.mid s r)
