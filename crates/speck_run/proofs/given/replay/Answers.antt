use Rattle.trace_run.specs.lone_kernel.specs.flight.proofs.{◌≡◌, ◌++◌, ◌∙◌, sym, ap, subst, map, string_bytes, length-map, Shape}
use Rattle.trace_run.specs.lone_kernel.specs.flight.proofs.{state_after, RepresentCounts, Represent, word_in, end_in, IsSetting, limits_of}
use Rattle.speck_run.proofs.Finish.{all_out, run, given}
use Rattle.{trace_run.specs.lone_kernel.specs.kernel_history.specs.Tables.tables_of}
use Rattle.{trace_run.specs.lone_kernel.specs.flight_laws.proofs.Histories.made_histories, speck_run.specs.Written.lines_of}
use Rattle.speck_run.proofs.given.replay.Goals as goal

pub close-requires : goal.close-requires
close-requires c =
    let lists = map (λ v. v.items) c.args.lists.items in
    let booted = c.in_ok-kernel.ensures in
    let followed = c.follow.ensures in
    let ran = c.run_rest.ensures in
    let r = run c.args.setup.now lists c.args.items.now c.in_ok-kernel.kernel c.follow.new.kernel
    c.run_rest.new.kernel booted.setup followed.setup ran.setup booted.lists followed.lists ran.lists
    c.cores-cores.ensures.limits (length-map c.args.lists.items (λ v. v.items) ∙ c.requires.one_each)
    booted.stands followed.goes ran.goes in
    all_out c.run_rest.new.kernel r.trace (subst IsSetting (sym (ran.setup ∙ followed.setup ∙ booted.setup)) c.cores-cores.ensures.limits)
    r.stands r.idle

pub returns : goal.returns
returns c =
    let lists = map (λ v. v.items) c.args.lists.items in
    let ended = c.run_rest.new.kernel in
    let booted = c.in_ok-kernel.ensures in
    let followed = c.follow.ensures in
    let ran = c.run_rest.ensures in
    let one_each = length-map c.args.lists.items (λ v. v.items) ∙ c.requires.one_each in
    let r = run c.args.setup.now lists c.args.items.now c.in_ok-kernel.kernel c.follow.new.kernel
    ended booted.setup followed.setup ran.setup booted.lists followed.lists ran.lists
    c.cores-cores.ensures.limits one_each booted.stands followed.goes ran.goes in
    let closed = c.in_ok-closed.closed in
    let done = c.in_ok-closed.ensures in
    let limits = limits_of ended.setup r.trace in
    let shown : string_bytes c.in_ok-tables.tables ≡ tables_of (state_after ended.setup r.trace) =
    c.in_ok-tables.ensures (state_after ended.setup r.trace)
    (ap (λ l. l.cores) limits ∙ sym (ap (λ (s : Shape). s.cores) done.layout))
    (ap (λ l. l.frames) limits ∙ sym (ap (λ (s : Shape). s.frames) done.layout))
    (subst (λ (s : Shape). Represent (word_in s closed.words.items) (end_in closed.ends.items) (state_after ended.setup r.trace))
    (sym done.layout) (done.represent r.trace r.stands))
    (subst (λ (s : Shape). RepresentCounts (word_in s closed.words.items) (state_after ended.setup r.trace))
    (sym done.layout) (done.counts r.trace r.stands)) in
    let same_lists = c.lists.ensures ∙ ran.lists ∙ followed.lists ∙ booted.lists in
    let is : string_bytes c.push_str.new.self ≡ lines_of lists ended.decisions ++ string_bytes c.in_ok-tables.tables =
    c.in_ok-push_str.ensures.bytes
    ∙ ap (λ x. x ++ c.deref.result.now)
    (c.in_ok-write_decisions.ensures
    ∙ ap (λ x. x ++ lines_of (map (λ v. v.items) c.lists.result.now) c.decisions.result.now) c.new-text.ensures.bytes
    ∙ ap (λ l. lines_of l c.decisions.result.now) same_lists
    ∙ ap (lines_of lists) c.decisions.ensures)
    ∙ ap (λ x. lines_of lists ended.decisions ++ x) c.deref.ensures in
    given c.args.setup.now lists c.args.items.now c.in_ok-kernel.kernel c.follow.new.kernel
    ended booted.setup followed.setup ran.setup booted.lists followed.lists ran.lists
    c.cores-cores.ensures.limits one_each booted.stands followed.goes ran.goes r made_histories
    (string_bytes c.in_ok-tables.tables) (string_bytes c.push_str.new.self) shown is
