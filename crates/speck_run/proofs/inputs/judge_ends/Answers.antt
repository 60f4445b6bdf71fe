use Rattle.std.proofs.Common.{length, map, subst, arith, string_bytes, IfSome}
use Rattle.speck_run.specs.{declared.words.Command.TheVariants.Ends, Ends.EndsText}
use Rattle.speck_run.proofs.{Due.due_done, Accepted.accepted, Endings.few_calls, Endings.few_asks}
use Rattle.{explain_run.specs.ends_reader.specs.Inputs.input_view, load_maker.specs.script_reader.specs.Readings.lists_of}
use Rattle.speck_run.proofs.inputs.judge_ends.Goals as goal

pub make_ends-requires-clause-can_run : goal.make_ends-requires-clause-can_run
make_ends-requires-clause-can_run g c κs bounds =
    let small = c.requires in
    accepted (length c.args.bytes.now) (lists_of c.in-Ok.input.script.lists.items)
    c.in-Ok.ensures.input.script.limits c.in-Ok.ensures.calls (omega arith)

pub make_ends-requires-clause-few : goal.make_ends-requires-clause-few
make_ends-requires-clause-few g c κs bounds =
    let small = c.requires in
    few_calls (length c.args.bytes.now) c.in-Ok.input.script.lists.items c.in-Ok.ensures.calls (omega arith)

pub make_ends-requires-clause-few_asks : goal.make_ends-requires-clause-few_asks
make_ends-requires-clause-few_asks g c κs bounds =
    let small = c.requires in
    few_asks (length c.args.bytes.now) c.in-Ok.input.asks.items c.in-Ok.ensures.asks (omega arith)

pub returns-in-Some-clause-due : goal.returns-in-Some-clause-due
returns-in-Some-clause-due g c =
    let input = c.in-Ok.input in
    due_done Ends c.args.bytes.now c.made.result.status (string_bytes c.in-Some.text) (string_bytes c.made.result.text)
    c.made.ensures.status c.made.ensures.text record {
      input = input_view input;
      is_input = c.in-Ok.ensures.value;
      is_text = subst (λ o. IfSome o (λ text. EndsText input.script.setup (map (λ v. v.items) input.script.lists.items)
          (map (λ v. v.items) input.asks.items) (string_bytes text))) c.in-Some.is c.in_ok-text.ensures.text;
    }
