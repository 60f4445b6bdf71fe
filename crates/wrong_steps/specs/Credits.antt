-- A wrong transfer credits head B before it marks head A, and keeps the credit where that compare is lost.
use Rattle.std.specs.Prelude.{◌≡◌, ◌∷◌}
use Rattle.kernel_history.specs.{ℕ, false, [], Some, Tick, Transfer, Amount, CoreEnd, Move, Represent, IsLegal, Out, phase}
use Rattle.kernel_history.specs.{state_after, last_left, two_cores, enters, goes, decides, loads, returns}
use Rattle.act_states.specs.{Ok, charge_move, head, Pair, MarkA, CompareB, took_share}
use Rattle.act_states.specs.stage_tcap.specs.{Pairs.move_at, declared.charge.Charge.TheVariants.AtCompare}
use Rattle.{kernel_history.specs.spk_nums.specs.declared.replies.Reply.TheVariants.Raced, kernel_history.specs.Trace.Trace}
use Rattle.{act_states.specs.stage_tcap.specs.declared.pair.PairWork.TheVariants.Transfer as transfer_work, wrong_steps.specs.Acts.acts}

-- A transfer of 10 ticks from frame 7 to frame 6, whose heads were found with 100 each, before it marks head A.
abbrev pub pair : Pair
pair = record {
  a = 7;
  b = 6;
  what = transfer_work 10;
  core = 0;
  head_a = head 100 0;
  head_b = head 100 0;
  list_a = Some ((0, 1) ∷ []);
  list_b = Some ((0, 1) ∷ []);
  grows = false;
  at = MarkA;
}

-- Wrong: head B is given the ticks before head A is marked.
abbrev pub move_before : Pair → Move
move_before p = move_at p CompareB

-- Core 0 has loaded both heads, and gives head B the ticks.
unfoldable pub credited : Trace
credited =
    goes 0 (move_before pair)
    (loads 0 6 0 (loads 0 7 0 (loads 0 1 12 (loads 0 1 13 (loads 0 0 0 (enters 0 (Transfer 13 12 10) []))))))

-- Core 1 charges a tick to frame 7.
unfoldable pub ticked : Trace
ticked =
    returns 1 (Ok (Amount 1)) (decides 1 (charge_move (AtCompare 7 1 100 0)) (Ok (Amount 1)) (loads 1 7 0 (enters 1 (Tick 1) credited)))

-- So core 0 loses the compare that marks head A, and is raced.
unfoldable pub kept_credit : Trace
kept_credit = returns 0 Raced (acts 0 (move_at pair MarkA) (took_share pair) ticked)

pub record TransfersKeep : Type 0 where
  pub legal : IsLegal two_cores kept_credit
  pub out : (phase kept_credit 0 ≡ Out) × (phase kept_credit 1 ≡ Out)
  pub refused : (end : ℕ → CoreEnd) → Represent (last_left two_cores kept_credit) end (state_after two_cores kept_credit) → ⊥
