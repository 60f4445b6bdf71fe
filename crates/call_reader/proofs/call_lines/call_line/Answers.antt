use Rattle.std.proofs.Common.{◌≡◌, ℕ, List, refl, sym, ap, ◌∙◌, subst}
use Rattle.line_reader.specs.Arguments.{texts}
use Rattle.call_reader.specs.CallLines.{call_line}
use Rattle.call_reader.proofs.Forms.{make_any}
use Rattle.call_reader.proofs.call_lines.call_line.Goals as goal

-- What a `make` says is the same in each version.
pub returns-in-Make-clause-value : goal.returns-in-Make-clause-value
returns-in-Make-clause-value c = c.make_line.ensures.value ∙ make_any 3 c.args.version (texts c.args.words.now)
    ∙ ap (call_line c.args.version (texts c.args.words.now)) (sym c.in-Make.is)
