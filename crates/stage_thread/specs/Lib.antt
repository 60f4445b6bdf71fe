pub mod Living
pub mod Claiming
pub mod Stacking
-- The names that are used most outside of this library.
pub use Rattle.stage_thread.specs.Claiming.{claim_after, ClaimFits, claim_compared, claim_end, claimed_within, compared_after, stack_end, thread_after, thread_end}
pub use Rattle.stage_thread.specs.Living.{alive_after, alive_end, AliveFits, alive_move, comp_after, comp_end, live_end, lives_end, number_end}
pub use Rattle.stage_thread.specs.Stacking.{pop_move, push_move, PopFits, PushFits}
