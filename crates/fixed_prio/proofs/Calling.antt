-- A call made at the machine and at the plain kernel.
use Rattle.plain_kernel.specs.kernel_rules.proofs.{◌≡◌, ℕ, ◌+◌, ◌<◌, ◌≤◌, refl, sym, ◌∙◌, ap, subst, arith, List, [], ◌∷◌, ◌++◌, Setting}
use Rattle.plain_kernel.specs.kernel_rules.proofs.{IsSetting, Call, Reply, start, plain_step, plain_steps}
use Rattle.fixed_prio.specs.{after_calls, Beside, MakesBoth}
use Rattle.{plain_kernel.specs.IsReached, plain_kernel.specs.StepsExactly, plain_kernel.specs.seq_state.specs.State}
use Rattle.{plain_kernel.specs.seq_state.specs.state_of, sched_rules.specs.reply_to, sched_rules.specs.state_past}
use Rattle.{plain_kernel.specs.seq_state.specs.Maps.Maps, fixed_prio.proofs.Alike.cores_of}

steps_more : (s : State) (calls : List Call) (call : Call)
    → plain_steps s 0 (calls ++ call ∷ []) ≡ plain_step (plain_steps s 0 calls) 0 call
steps_more s [] call = refl
steps_more s (c ∷ calls) call = steps_more (plain_step s 0 c) calls call

-- One call more.
pub after_more : (setting : Setting) (made made' : List Call) (call : Call) → made' ≡ made ++ call ∷ []
    → state_past (after_calls setting made) call ≡ after_calls setting made'
unfolding after_calls state_past
after_more setting made made' call e = sym (ap (plain_steps (start setting) 0) e ∙ steps_more (start setting) made call)

past_plain : (s : State) (call : Call) → plain_step s 0 call ≡ state_past s call
unfolding state_past
past_plain s call = refl

pub core_0 : (setting : Setting) (made : List Call) (k : Maps) → Beside setting made k → 0 < (state_of k).limits.cores
core_0 setting made k b =
    let cores = cores_of setting k (after_calls setting made) b.reached in
    let one = b.one_core in
    omega (arith, cores, one)

pub makes_both : (setting : Setting) (made : List Call) (k : Maps) (call : Call) (reply q : Reply) (made' : List Call) (k' : Maps)
    → Beside setting made k → made' ≡ made ++ call ∷ [] → reply ≡ reply_to (after_calls setting made) call
    → StepsExactly k 0 call q k' → MakesBoth setting made call reply made' k'
makes_both setting made k call reply q made' k' b more is step = record {
  made = more;
  reply = is;
  beside = record {
    setting = b.setting;
    one_core = b.one_core;
    reached = subst (IsReached setting k') (past_plain (after_calls setting made) call ∙ after_more setting made made' call more)
        (step setting b.setting (after_calls setting made) b.reached).reached;
  };
}
