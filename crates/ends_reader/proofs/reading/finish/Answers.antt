use Rattle.std.proofs.Common.{◌≡◌, ◌∙◌, sym, ap, take}
use Rattle.ends_reader.specs.Inputs.{draft_seen, ask_lists}
use Rattle.{std.proofs.lemmas.List.take-map, script_reader.specs.Readings.script_view, ends_reader.proofs.InputSteps.ended}
use Rattle.ends_reader.proofs.reading.finish.Goals as goal

pub returns-clause-value : goal.returns-clause-value
returns-clause-value c =
    let d = draft_seen c.args.draft in
    let part = sym c.is_script.ensures ∙ c.if-is_script.false in
    let asks : ask_lists c.truncate.new.self.items ≡ take d.script.head.cores d.asks = ap ask_lists c.truncate.ensures.items
    ∙ sym (take-map (λ v. v.items) c.from.result c.args.draft.asks.items)
    ∙ ap (λ n. take n d.asks) (c.from.ensures ∙ c.cores.ensures.value) in
    ended d c.args.ending c.in_ok-lines.lines (script_view c.in_ok-script.script) (ask_lists c.truncate.new.self.items)
    c.in_ok-lines.ensures.value part (c.requires.input.whole part) c.in_ok-script.ensures.value asks
