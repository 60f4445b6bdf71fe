use Rattle.std.proofs.Common.{◌∙◌, ◌+◌, ℕ, List, length, ap, arith, slice_index}
use Rattle.ends_runners.proofs.Sends.{zeros, sent_more, sent_room}
use Rattle.{std.proofs.lemmas.List.length-replicate, ends_runners.specs.Tallies.sends_among}
use Rattle.ends_runners.proofs.tallies.sent_by.Goals as goal

pub loop-runner-init : goal.loop-runner-init
loop-runner-init c =
    let made = c.in_ok-sent.ensures.items_if_clones_equal (λ y h. cc) in
    record {
      size = ap length made ∙ length-replicate c.from.result 0 ∙ c.from.ensures;
      sent = λ f. ap (λ (l : List ℕ). slice_index l f) made ∙ zeros c.from.result f;
    }

pub add_sends-requires-clause-room : goal.add_sends-requires-clause-room
add_sends-requires-clause-room c f =
    let room = sent_room c.args.runners.now c.loop-runner.runner-index c.runner-item.result c.loop-runner.sent.items c.requires.some
    c.loop-runner-test.true c.runner-item.is c.requires.few c.loop-runner.invariant.sent f in
    let size = ap length (c.as_slice.ensures.value ∙ ap (λ r. r.done) c.runner.view_is) in
    omega arith

pub loop-runner-preserved : goal.loop-runner-preserved
loop-runner-preserved c = record {
  size = c.add_sends.ensures.size;
  sent = sent_more c.args.runners.now c.loop-runner.runner-index c.runner-item.result c.loop-runner.sent.items c.add_sends.new.sent.items
      c.loop-runner-test.true c.runner-item.is c.loop-runner.invariant.sent
      (λ f. c.add_sends.ensures.adds f ∙ ap (λ l. slice_index c.loop-runner.sent.items f + sends_among l f)
      (c.as_slice.ensures.value ∙ ap (λ r. r.done) c.runner.view_is));
}
