use Rattle.std.proofs.Common.{◌∙◌, ◌++◌, ap, subst, string_bytes}
use Rattle.{marked_history.specs.declared.marks.Said.Said, history_options.specs.Options.GoesOn, history_options.specs.Options.option_of}
use Rattle.{history_options.proofs.Adding.adding_more, history_options.proofs.Adding.adding_end}
use Rattle.history_options.proofs.options.push_options.Goals as goal

pub replies-preserved : goal.replies-preserved
replies-preserved c =
    adding_more c.args.setup.now c.args.before.now c.args.number c.args.core c.args.call.now c.args.form.now c.args.replies.now _
    c.replies.reply-index c.reply-item.result c.in_ok-goes.goes (string_bytes c.replies.text) (string_bytes c.push_option.new.text)
    c.replies-test.true c.reply-item.is
    (subst (λ (said : Said). GoesOn c.args.setup.now c.args.before.now c.args.number said c.in_ok-goes.goes) c.with_form-said.ensures
    c.in_ok-goes.ensures)
    (c.in_ok-push_option.ensures
    ∙ ap (λ (said : Said). string_bytes c.replies.text ++ option_of c.in_ok-goes.goes said) c.with_form-said.ensures)
    c.replies.invariant

pub returns : goal.returns
returns c =
    adding_end c.args.setup.now c.args.before.now c.args.number c.args.core c.args.call.now c.args.form.now c.args.replies.now _
    c.replies.reply-index (string_bytes c.replies.text) c.replies-test.false c.replies.invariant
