use Rattle.trace_run.specs.lone_kernel.specs.flight.proofs.{◌≡◌, ◌++◌, ◌∙◌, Some, map, sym, ap, subst, All, string_bytes, IfSome, Shape}
use Rattle.trace_run.specs.lone_kernel.specs.flight.proofs.{RepresentCounts, Represent, word_in, end_in, state_after, limits_of}
use Rattle.ends_run.specs.core_runs.specs.{IsList, AreMade}
use Rattle.speck_run.proofs.ByCores.{taken, lists_fit}
use Rattle.{trace_run.specs.lone_kernel.specs.kernel_history.specs.Tables.tables_of, speck_run.specs.Written.lines_of}
use Rattle.speck_run.proofs.runs.run_lists.Goals as goal

pub run_whole-requires-clause-lists : goal.run_whole-requires-clause-lists
run_whole-requires-clause-lists g c κs bounds =
    subst (All (λ v. IsList v.items)) (sym c.deref.ensures.value) (lists_fit c.args.script.now.lists.items c.requires.can_run)

pub returns-clause-text : goal.returns-clause-text
returns-clause-text g c =
    let setup = c.args.script.now.setup in
    let given = map (λ v. v.items) c.args.script.now.lists.items in
    let ran = c.in-Some.ran in
    let same : map (λ v. v.items) c.deref.result.now ≡ given = ap (map (λ v. v.items)) c.deref.ensures.value in
    let made : AreMade setup given ran =
    subst (λ l. AreMade setup l ran) same
    (subst (λ o. IfSome o (AreMade setup (map (λ v. v.items) c.deref.result.now))) c.in-Some.is c.in_ok-ran.ensures.made) in
    let limits = limits_of setup made.trace in
    let shown : string_bytes c.in_ok-tables.tables ≡ tables_of (state_after setup made.trace) =
    c.in_ok-tables.ensures (state_after setup made.trace)
    (ap (λ l. l.cores) limits ∙ sym (ap (λ (s : Shape). s.cores) made.layout))
    (ap (λ l. l.frames) limits ∙ sym (ap (λ (s : Shape). s.frames) made.layout))
    (subst (λ (s : Shape). Represent (word_in s ran.closed.words.items) (end_in ran.closed.ends.items) (state_after setup made.trace))
    (sym made.layout) made.represent)
    (subst (λ (s : Shape). RepresentCounts (word_in s ran.closed.words.items) (state_after setup made.trace))
    (sym made.layout) made.counts) in
    let is : string_bytes c.push_str.new.self ≡ lines_of given ran.decisions.items ++ string_bytes c.in_ok-tables.tables =
    c.in_ok-push_str.ensures.bytes
    ∙ ap (λ x. x ++ c.deref-4.result.now)
    (c.in_ok-write_decisions.ensures
    ∙ ap (λ x. x ++ lines_of (map (λ v. v.items) c.deref-2.result.now) c.deref-3.result.now) c.new-text.ensures.bytes
    ∙ ap (λ l. lines_of (map (λ v. v.items) l) c.deref-3.result.now) c.deref-2.ensures.value
    ∙ ap (lines_of given) c.deref-3.ensures.value)
    ∙ ap (λ x. lines_of given ran.decisions.items ++ x) c.deref-4.ensures in
    taken setup given ran (string_bytes c.in_ok-tables.tables) (string_bytes c.push_str.new.self) made shown is
