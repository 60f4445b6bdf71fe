use Rattle.trace_run.specs.lone_kernel.specs.flight.proofs as low
use low.{◌≡◌, ◌∙◌, ◌++◌, [], List, ℕ, map, sym, ap, string_bytes, get_or as slice_index_or, get_or-map}
use Rattle.{ends_text.specs.Lines.done_lines, speck_run.proofs.Endings.core_none, speck_run.proofs.Endings.core_more}
use Rattle.speck_run.proofs.ends.write_done.Goals as goal

pub loop-core-init : goal.loop-core-init
loop-core-init c = core_none (map (λ v. v.items) c.args.done.now) (string_bytes c.args.text.now)

pub loop-core-preserved : goal.loop-core-preserved
loop-core-preserved c =
    let all = c.args.done.now in
    let core = c.loop-core.core in
    let before : List ℕ = string_bytes c.loop-core.text in
    let own : c.as_slice.result.now ≡ slice_index_or (map (λ v. v.items) all) core [] =
    c.as_slice.ensures.value ∙ ap (λ v. v.items) c.index-done-core.is
    ∙ sym (get_or-map (λ v. v.items) all core c.index-done-core.result [] c.loop-core-test.true) in
    core_more (map (λ v. v.items) all) core (string_bytes c.args.text.now) before (string_bytes c.push_done_lines.new.text)
    c.loop-core.invariant (c.in_ok-push_done_lines.ensures ∙ (λ i. before ++ done_lines (c.new.ensures i) 1 (own i)))
