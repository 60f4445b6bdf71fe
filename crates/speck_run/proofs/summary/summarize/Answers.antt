use Rattle.trace_run.specs.lone_kernel.specs as low
use low.flight.proofs.{◌≡◌, ◌∙◌, sym, ap, subst, map, string_bytes, length-map, Shape, state_after, Represent, word_in, end_in, IsSetting}
use Rattle.speck_run.proofs.Finish.{all_out, run, summed_up}
use low.{flight.proofs.limits_of, kernel_rules.specs.Laws.ticks, flight_laws.proofs.Histories.made_histories}
use Rattle.{load_summary.specs.Summaries.summary_text, load_summary.proofs.Parts.summary_is}
use Rattle.speck_run.proofs.summary.summarize.Goals as goal

pub close-requires : goal.close-requires
close-requires c =
    let lists = map (λ v. v.items) c.args.lists.items in
    let booted = c.in_ok-kernel.ensures in
    let followed = c.follow.ensures in
    let ran = c.run_rest.ensures in
    let r = run c.args.setup.now lists c.args.items.now c.in_ok-kernel.kernel c.follow.new.kernel
    c.run_rest.new.kernel booted.setup followed.setup ran.setup booted.lists followed.lists ran.lists
    c.cores-cores.ensures.limits (length-map c.args.lists.items (λ v. v.items) ∙ c.requires.one_each)
    booted.stands followed.goes ran.goes in
    all_out c.run_rest.new.kernel r.trace (subst IsSetting (sym (ran.setup ∙ followed.setup ∙ booted.setup)) c.cores-cores.ensures.limits)
    r.stands r.idle

pub returns : goal.returns
returns c =
    let lists = map (λ v. v.items) c.args.lists.items in
    let ended = c.run_rest.new.kernel in
    let booted = c.in_ok-kernel.ensures in
    let followed = c.follow.ensures in
    let ran = c.run_rest.ensures in
    let one_each = length-map c.args.lists.items (λ v. v.items) ∙ c.requires.one_each in
    let r = run c.args.setup.now lists c.args.items.now c.in_ok-kernel.kernel c.follow.new.kernel
    ended booted.setup followed.setup ran.setup booted.lists followed.lists ran.lists
    c.cores-cores.ensures.limits one_each booted.stands followed.goes ran.goes in
    let closed = c.in_ok-closed.closed in
    let done = c.in_ok-closed.ensures in
    let limits = limits_of ended.setup r.trace in
    let shown : c.total_ticks.result ≡ ticks (state_after ended.setup r.trace) =
    c.total_ticks.ensures (state_after ended.setup r.trace)
    (ap (λ l. l.cores) limits ∙ sym (ap (λ (s : Shape). s.cores) done.layout))
    (ap (λ l. l.frames) limits ∙ sym (ap (λ (s : Shape). s.frames) done.layout))
    (subst (λ (s : Shape). Represent (word_in s closed.words.items) (end_in closed.ends.items) (state_after ended.setup r.trace))
    (sym done.layout) (done.represent r.trace r.stands)) in
    let is : string_bytes c.push_total.new.text ≡ summary_text ended.decisions c.total_ticks.result =
    summary_is c.decisions.result.now c.total_ticks.result (string_bytes c.new-text.result)
    (string_bytes c.push_counts.new.text) (string_bytes c.push_total.new.text)
    c.new-text.ensures.bytes c.in_ok-push_counts.ensures c.in_ok-push_total.ensures
    ∙ ap (λ ds. summary_text ds c.total_ticks.result) c.decisions.ensures in
    summed_up c.args.setup.now lists c.args.items.now c.in_ok-kernel.kernel c.follow.new.kernel
    ended booted.setup followed.setup ran.setup booted.lists followed.lists ran.lists
    c.cores-cores.ensures.limits one_each booted.stands followed.goes ran.goes r
    made_histories c.total_ticks.result (string_bytes c.push_total.new.text) shown is
