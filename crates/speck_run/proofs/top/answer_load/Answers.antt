use Rattle.trace_run.specs.lone_kernel.specs.flight.proofs.{◌≡◌, sym, subst, ◌∙◌, All, length, arith, string_bytes, length-map, InLimits}
use Rattle.load_maker.specs.script_reader.specs.{Meaning, AtMost, BelowCores, lists_of}
use Rattle.{load_maker.proofs.Within.accepted as made_accepted, speck_run.specs.Summary.GivenSummary, speck_run.proofs.Accepted.accepted}
use Rattle.speck_run.proofs.top.answer_load.Goals as goal

pub summarize-requires-clause-can_run : goal.summarize-requires-clause-can_run
summarize-requires-clause-can_run c =
    let is = c.in_ok-script.ensures.value in
    let made = made_accepted c.args.number in
    accepted 503 (lists_of c.in_ok-script.script.lists.items) (subst (λ (m : Meaning). All (All InLimits) m.lists) (sym is) made.limits)
    (subst (λ (m : Meaning). All (AtMost 503) m.lists) (sym is) made.few) (omega arith)

pub summarize-requires-clause-one_each : goal.summarize-requires-clause-one_each
summarize-requires-clause-one_each c =
    let is = c.in_ok-script.ensures.value in
    sym (length-map c.in_ok-script.script.lists.items (λ v. v.items))
    ∙ subst (λ (m : Meaning). length m.lists ≡ m.setup.cores) (sym is) (made_accepted c.args.number).within.lists

pub summarize-requires-clause-named : goal.summarize-requires-clause-named
summarize-requires-clause-named c =
    subst (BelowCores c.in_ok-script.script.setup.cores) (sym c.deref.ensures.value)
    (subst (λ (m : Meaning). BelowCores m.setup.cores m.order) (sym c.in_ok-script.ensures.value) (made_accepted c.args.number).within.below)

pub returns-clause-text : goal.returns-clause-text
returns-clause-text c =
    let script = c.in_ok-script.script in
    let lists = lists_of script.lists.items in
    subst (λ (m : Meaning). GivenSummary m.setup m.lists m.order (string_bytes c.made.result.text)) c.in_ok-script.ensures.value
    (subst (GivenSummary script.setup lists script.order.items) (sym c.made.ensures.text)
    (subst (λ items. GivenSummary script.setup lists items (string_bytes c.in_ok-text.text)) c.deref.ensures.value c.in_ok-text.ensures))
