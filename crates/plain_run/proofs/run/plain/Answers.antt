use Rattle.plain_tables.specs.kernel_history.proofs.{map, ◌∙◌, ap, ◌++◌, string_bytes, start, list_of}
use Rattle.plain_run.proofs.PlainRuns.{started, whole_text}
use Rattle.plain_run.proofs.run.plain.Goals as goal

pub run_lists-requires-clause-reached : goal.run_lists-requires-clause-reached
run_lists-requires-clause-reached c = record {
  state = start c.args.setup.now;
  reached = started c.args.setup.now c.in_ok-kernel.kernel c.in_ok-kernel.ensures;
}

pub returns : goal.returns
returns c =
    whole_text c.args.setup.now c.in_ok-kernel.kernel c.run_lists.new.kernel (list_of (map (λ v. v.items) c.args.lists.now))
    (string_bytes c.new-text.result) (string_bytes c.run_lists.new.text) (string_bytes c.in_ok-tables.tables)
    (string_bytes c.push_str.new.self)
    c.cores-limits.ensures.limits (started c.args.setup.now c.in_ok-kernel.kernel c.in_ok-kernel.ensures) c.new-text.ensures.bytes
    c.in_ok-run_lists.ensures
    c.in_ok-tables.ensures.represented
    (c.in_ok-push_str.ensures.bytes ∙ ap (λ x. string_bytes c.run_lists.new.text ++ x) c.deref.ensures)
