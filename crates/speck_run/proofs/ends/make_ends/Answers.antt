use Rattle.std.proofs.Common.{◌≡◌, ◌++◌, ◌∙◌, ◌^◌, ◌<◌, map, length, sym, subst, All, string_bytes}
use Rattle.speck_run.specs.{lines_of, core_lines}
use Rattle.speck_run.proofs.{ByCores.lists_fit, Endings.ended_of, Endings.ended_text, Endings.few_each}
use Rattle.{ends_run.specs.core_runs.specs.Whole.IsList, ends_text.specs.Lines.count_lines}
use Rattle.speck_run.proofs.ends.make_ends.Goals as goal

pub run_ends-requires-clause-lists : goal.run_ends-requires-clause-lists
run_ends-requires-clause-lists g c κs bounds =
    subst (All (λ v. IsList v.items)) (sym c.deref.ensures.value) (lists_fit c.args.input.now.script.lists.items c.requires.can_run)

pub write_done-requires-clause-few : goal.write_done-requires-clause-few
write_done-requires-clause-few g c =
    let input = c.args.input.now in
    let ended = ended_of input.script.setup c.deref.result.now input.script.lists.items c.deref-2.result.now input.asks.items
    c.in_ok-ran.field-0 c.in-Some.ran c.deref.ensures.value c.deref-2.ensures.value c.in-Some.is c.in_ok-ran.ensures.made in
    subst (All (λ v. length v.items < 2 ^ 32)) (sym c.deref-5.ensures.value)
    (few_each input.script.setup (map (λ v. v.items) input.script.lists.items) (map (λ v. v.items) input.asks.items) c.in-Some.ran ended)

pub returns-clause-text : goal.returns-clause-text
returns-clause-text g c =
    let input = c.args.input.now in
    let lists = map (λ v. v.items) input.script.lists.items in
    let ran = c.in-Some.ran in
    let ended = ended_of input.script.setup c.deref.result.now input.script.lists.items c.deref-2.result.now input.asks.items
    c.in_ok-ran.field-0 ran c.deref.ensures.value c.deref-2.ensures.value c.in-Some.is c.in_ok-ran.ensures.made in
    let replies : string_bytes c.write_decisions.new.text ≡ lines_of lists ran.decisions.items =
    c.in_ok-write_decisions.ensures
    ∙ (λ i. c.new-text.ensures.bytes i ++ lines_of (map (λ v. v.items) (c.deref-3.ensures.value i)) (c.deref-4.ensures.value i)) in
    let done : string_bytes c.write_done.new.text
    ≡ lines_of lists ran.decisions.items ++ core_lines (map (λ v. v.items) ran.done.items) (length ran.done.items) =
    c.in_ok-write_done.ensures
    ∙ (λ i. replies i ++ core_lines (map (λ v. v.items) (c.deref-5.ensures.value i)) (length (c.deref-5.ensures.value i))) in
    ended_text input.script.setup lists (map (λ v. v.items) input.asks.items) ran (string_bytes c.push_end_lines.new.text) ended
    (c.in_ok-push_end_lines.ensures ∙ (λ i. done i
    ++ count_lines (c.deref-6.ensures.value i) (c.deref-7.ensures.value i) (length (c.deref-6.ensures.value i))))
