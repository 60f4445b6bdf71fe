-- Going through the tasks for one of which a job has come.
use Rattle.plain_kernel.specs.kernel_rules.proofs.{◌≡◌, ℕ, ◌+◌, ◌<◌, ◌≤◌, sym, ◌∙◌, ap, if◌then◌else◌, List, length, drop, get_or, Some}
use Rattle.{plain_kernel.specs.kernel_rules.proofs.None, plain_kernel.specs.kernel_rules.proofs.drop_more, sched_rules.specs.is_renewed}
use Rattle.{sched_rules.specs.renewal, std.proofs.lemmas.List.drop_all, sched_rules.specs.declared.tasks.Job.Job}

-- One task more.
pub coming_more : (now i : ℕ) (jobs : List Job) (job : Job) → i < length jobs → job ≡ get_or jobs i job
    → renewal now i (drop i jobs)
    ≡ (if is_renewed now job then Some (record { index = i; job = job }) else renewal now (i + 1) (drop (i + 1) jobs))
coming_more now i jobs job below is =
    ap (renewal now i) (drop_more jobs i job below)
    ∙ ap (λ (j : Job). if is_renewed now j then Some (record { index = i; job = j }) else renewal now (i + 1) (drop (i + 1) jobs))
    (sym is)

-- All were gone through.
pub none_more : (now i : ℕ) (jobs : List Job) → length jobs ≤ i → renewal now i (drop i jobs) ≡ None
none_more now i jobs past = ap (renewal now i) (drop_all i jobs past)
