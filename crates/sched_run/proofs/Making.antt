-- From a booted machine to the text.
use Rattle.fixed_prio.specs.plain_kernel.specs.kernel_laws.proofs as low
use low.{◌≡◌, ℕ, ◌+◌, ◌<◌, ◌≤◌, ◌^◌, refl, sym, ◌∙◌, ap, subst, arith, append_assoc, List, [], ◌∷◌, ◌++◌, length, take, get_or, All}
use low.{get_or as slice_index_or, take_more, get_or-map, length-map, Setting, IsSetting, InLimits, Call, State, start}
use Rattle.fixed_prio.specs.sched_rules.specs.{Step, at_first, turns_of, IsSchedule, TaskFits, ran_by, work_by}
use Rattle.fixed_prio.specs.sched_rules.specs.{declared.tasks.Task.Task, declared.tasks.Rule.Rule, declared.turns.Turn.Turn}
use Rattle.{fixed_prio.specs.after_calls, fixed_prio.specs.Beside, std.specs.Global.Vec, std.proofs.lemmas.Option.slice_get_within}
use Rattle.{std.proofs.lemmas.Option.get_or_from_slice_get, fixed_prio.specs.seq_state.specs.Maps.Maps}
use Rattle.{fixed_prio.specs.seq_state.specs.Representation.Represents, sched_reader.specs.script_reader.specs.Readings.lists_of}
use Rattle.{fixed_prio.specs.sched_laws.proofs.Working.work_is_kept, sched_text.specs.Fitting.RunsFit, sched_run.proofs.Coming.work_most}

-- The plain kernel that starts beside a machine that has made no call.
pub begun_beside : (setup : Setting) (k : Maps) → IsSetting setup → setup.cores ≡ 1 → Represents k (start setup) → Beside setup [] k
unfolding after_calls
begun_beside setup k lim one e = record {
  setting = lim;
  one_core = one;
  reached = record { events = []; runs = tt; quiet = λ c. refl; state = refl; represents = e };
}

-- One call more.
pub one_more : (before made made' calls : List Call) (i : ℕ) (call : Call) → i < length calls → call ≡ get_or calls i call
    → made ≡ before ++ take i calls → made' ≡ made ++ call ∷ [] → made' ≡ before ++ take (i + 1) calls
one_more before made made' calls i call below is so_far more =
    more ∙ ap (λ l. l ++ call ∷ []) so_far ∙ append_assoc before (take i calls) (call ∷ [])
    ∙ ap (λ l. before ++ l) (ap (λ c. take i calls ++ c ∷ []) is ∙ sym (take_more calls i call below))

-- No task runs for longer than the work of its jobs that arrived, which can be added up.
pub runs_fit : (rule : Rule) (s : State) (tasks : List Task) (steps : List Step) (turns : List Turn)
    → IsSchedule rule (at_first s tasks) steps → turns ≡ turns_of steps → All TaskFits tasks → RunsFit turns tasks
runs_fit rule s tasks steps turns is same fits i task at =
    let kept = work_is_kept rule s tasks steps is i task at in
    let sum = kept.sum in
    let most = work_most rule s tasks steps is i task at
    (subst TaskFits (get_or_from_slice_get tasks i task task at) (fits i task (slice_get_within tasks i task at))) in
    let ran : ran_by (i + 1) turns ≡ ran_by (i + 1) (turns_of steps) = ap (ran_by (i + 1)) same in
    let work : work_by (i + 1) turns task ≡ work_by (i + 1) (turns_of steps) task = ap (λ l. work_by (i + 1) l task) same in
    (omega (arith, sum, most, ran, work), omega (arith, most, work))

-- The list of core 0.
pub list_0 : (lists : List (Vec Call)) (v : Vec Call) → 0 < length lists → v ≡ get_or lists 0 v
    → v.items ≡ slice_index_or (lists_of lists) 0 []
list_0 lists v some is = ap (λ (w : Vec Call). w.items) is ∙ sym (get_or-map (λ (w : Vec Call). w.items) lists 0 v [] some)

pub limits_0 : (lists : List (Vec Call)) (v : Vec Call) → 0 < length lists → v ≡ get_or lists 0 v
    → All (All InLimits) (lists_of lists) → All InLimits v.items
limits_0 lists v some is all = subst (All InLimits) (sym (list_0 lists v some is))
    (all 0 [] (let n = length-map lists (λ (w : Vec Call). w.items) in omega (arith, n, some)))
