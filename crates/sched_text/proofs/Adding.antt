-- Adding up what tasks ran, and appending their lines.
use Rattle.sched_rules.specs.kernel_rules.proofs.{◌≡◌, ℕ, zero, suc, ◌+◌, ◌-◌, ◌<◌, ◌≤◌, ◌^◌, refl, sym, ◌∙◌, ap, subst, arith, List, []}
use Rattle.sched_rules.specs.kernel_rules.proofs.{◌∷◌, ◌++◌, length, drop, get_or, drop_more}
use Rattle.sched_rules.specs.{ran_in, ran_by, work_by}
use Rattle.sched_rules.specs.{declared.tasks.Task.Task, declared.turns.Turn.Turn, Texts.turn_text, Texts.turn_lines, Texts.task_line}
use Rattle.{std.proofs.lemmas.Option.slice_get_read, sched_rules.specs.Texts.task_lines, sched_text.specs.Fitting.RunsFit}

pub one_ran : (i : ℕ) (turns : List Turn) (n : ℕ) (turn : Turn) → n < length turns → turn ≡ get_or turns n turn
    → ran_by i (drop n turns) ≡ ran_in i turn + ran_by i (drop (n + 1) turns)
one_ran i turns n turn below is =
    ap (ran_by i) (drop_more turns n turn below) ∙ ap (λ t. ran_in i t + ran_by i (drop (n + 1) turns)) (sym is)

pub ran_less : (i : ℕ) (turns : List Turn) (n : ℕ) → ran_by i (drop n turns) ≤ ran_by i turns
ran_less i [] zero = omega arith
ran_less i [] (suc n) = omega arith
ran_less i (turn ∷ turns) zero = omega arith
ran_less i (turn ∷ turns) (suc n) = let a = ran_less i turns n in omega (arith, a)

pub one_line : (turns : List Turn) (n : ℕ) (turn : Turn) → n < length turns → turn ≡ get_or turns n turn
    → turn_lines (drop n turns) ≡ turn_text turn ++ (10 ∷ []) ++ turn_lines (drop (n + 1) turns)
one_line turns n turn below is =
    ap turn_lines (drop_more turns n turn below) ∙ ap (λ t. turn_text t ++ (10 ∷ []) ++ turn_lines (drop (n + 1) turns)) (sym is)

pub one_task : (turns : List Turn) (tasks : List Task) (n i : ℕ) (task : Task) → n < length tasks → task ≡ get_or tasks n task
    → task_lines turns i (drop n tasks)
    ≡ task_line i (ran_by i turns) (work_by i turns task) ++ task_lines turns (i + 1) (drop (n + 1) tasks)
one_task turns tasks n i task below is =
    ap (task_lines turns i) (drop_more tasks n task below)
    ∙ ap (λ (t : Task). task_line i (ran_by i turns) (work_by i turns t) ++ task_lines turns (i + 1) (drop (n + 1) tasks)) (sym is)

-- The ticks of a task and the work of its jobs can be added up.
pub task_fits : (turns : List Turn) (tasks : List Task) → RunsFit turns tasks → (i n : ℕ) (task : Task) → n < length tasks
    → task ≡ get_or tasks n task → i ≡ n → (ran_by (i + 1) turns < 2 ^ 64) × (work_by (i + 1) turns task < 2 ^ 64)
task_fits turns tasks fit i n task below is same =
    subst (λ k. (ran_by (k + 1) turns < 2 ^ 64) × (work_by (k + 1) turns task < 2 ^ 64)) (sym same)
    (fit n task (slice_get_read tasks (length tasks) n task refl below is))

-- What has been added up, with the turn before, is no more than the whole.
pub sum_most : (i : ℕ) (turns : List Turn) (k : ℕ) (turn : Turn) (ran u : ℕ) → 0 < k → k ≤ length turns → turn ≡ get_or turns (k - 1) turn
    → ran ≡ ran_by i (drop k turns) → u ≡ ran_in i turn → ran + u ≤ ran_by i turns
sum_most i turns k turn ran u some most is so_far own =
    let back : k - 1 + 1 ≡ k = omega (arith, some) in
    let more = one_ran i turns (k - 1) turn (omega (arith, some, most)) is in
    let same : ran_by i (drop (k - 1 + 1) turns) ≡ ran_by i (drop k turns) = ap (λ n. ran_by i (drop n turns)) back in
    let less = ran_less i turns (k - 1) in
    omega (arith, more, same, less, so_far, own)
