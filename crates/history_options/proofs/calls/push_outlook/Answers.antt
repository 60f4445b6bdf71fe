use Rattle.std.proofs.Common.{◌∙◌, ◌++◌, List, ℕ, ap, codes, string_bytes}
use Rattle.{history_options.specs.Advice.in_text, history_options.specs.Advice.first_text, history_options.proofs.Adding.four_more}
use Rattle.history_options.proofs.calls.push_outlook.Goals as goal

pub returns : goal.returns
returns c =
    four_more (string_bytes c.args.text.now) (in_text c.args.core c.args.call.now) (string_bytes c.args.found.now.names)
    (first_text c.args.found.now.alone) (codes "here may stand:\n") _ _ _ _ c.in_ok-push_call.ensures
    (c.in_ok-push_str.ensures.bytes ∙ ap (λ (x : List ℕ). string_bytes c.push_call.new.text ++ x) c.as_str.ensures.value)
    c.in_ok-push_first.ensures c.in_ok-push_str-2.ensures.bytes
