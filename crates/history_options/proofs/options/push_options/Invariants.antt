use Rattle.{std.specs.Prelude.string_bytes, history_options.proofs.Adding.Adding}
use Rattle.history_options.proofs.options.push_options.Given as goal

abbrev pub invariant-replies : goal.invariant-replies
invariant-replies l =
    Adding l.setup l.before l.number l.core l.call l.form l.replies (string_bytes l.initial.text) l.reply-index (string_bytes l.text)
