-- The exit of a call that is decided and has nothing to store.
use Rattle.std.proofs.Common.{◌≡◌, ℕ, ◌+◌, false, List, Option, Some, None, refl}
use Rattle.spk_nums.specs.Capability.{Capability}
use Rattle.spk_nums.specs.declared.calls.Call.{Call}
use Rattle.spk_nums.specs.declared.replies.Reply.{Reply}
use Rattle.spk_nums.specs.declared.replies.Reply.TheVariants.{Ok}
use Rattle.spk_nums.specs.declared.replies.Value.{Value}
use Rattle.core_words.specs.Due.{due_of}
use Rattle.step_starts.specs.word_map.specs.Moves.{op_of, LoadOf, StoreOf}
use Rattle.step_starts.specs.word_map.specs.Word.{ClockAt, CoreAt}
use Rattle.step_starts.specs.act_states.specs.declared.own.Own.{Own}
use Rattle.step_starts.specs.act_states.specs.declared.work.Tail.TheVariants.{Nothing}
use Rattle.step_starts.specs.call_stages.specs.View.{Core}
use Rattle.step_starts.specs.call_stages.specs.Cores.{absorbed, told_of_step, own_decided}
use Rattle.step_starts.specs.call_stages.specs.Steps.{core_word}
use Rattle.step_starts.specs.call_stages.specs.Tails.{stamp_of}
use Rattle.step_starts.specs.call_stages.specs.declared.stages.Absorbed.TheVariants.{Returned}
use Rattle.step_starts.specs.call_stages.specs.declared.stages.Stage.TheVariants.{Decided}
use Rattle.straight_looks.specs.Standing.{stands, IsAnswered, IsStamped}

-- where it stands
pub answers : (own : Own) (r : Reply) (call : Call) (steps : ℕ) (ks : List Capability) (drawn : Option ℕ) (c : Core)
    → c ≡ stands (own_decided own r) call steps (Decided r drawn Nothing) ks → IsAnswered own r c
answers own r call steps ks drawn c is = record { call = call; steps = steps; found = ks; drawn = drawn; is = is }

-- the load of the clock
pub decided_due : (own : Own) (r : Reply) (c : Core) → IsAnswered own r c → due_of c ≡ Some (op_of own.layout (LoadOf ClockAt))
decided_due own r c at = rw at.is refl

pub clocked : (own : Own) (r : Reply) (c : Core) (f : ℕ) → IsAnswered own r c → IsStamped own r (stamp_of f) (absorbed c f)
clocked own r c f at = record { call = at.call; steps = at.steps + 1; found = at.found; is = rw at.is refl }

-- the store of the core word
pub stamped_due : (own : Own) (r : Reply) (stamp : ℕ) (c : Core) → IsStamped own r stamp c
    → due_of c ≡ Some (op_of own.layout (StoreOf (CoreAt own.core) (core_word false stamp)))
stamped_due own r stamp c at = rw at.is refl

pub left : (own : Own) (v : Value) (stamp w : ℕ) (c : Core) → IsStamped own (Ok v) stamp c
    → absorbed c w ≡ record { own = record own { made = own.made + 1; exit = stamp }; active = None }
left own v stamp w c at = rw at.is refl

pub told : (own : Own) (r : Reply) (stamp w : ℕ) (c : Core) → IsStamped own r stamp c → told_of_step c w ≡ Returned r
told own r stamp w c at = rw at.is refl
