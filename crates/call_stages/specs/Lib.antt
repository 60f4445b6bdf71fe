-- What the crates above name through this one.
pub use Rattle.act_states.specs.quality_lists
pub use Rattle.act_states.specs.spk_nums
pub use Rattle.act_states.specs.entry_words
pub use Rattle.act_states.specs.frame_words
pub use Rattle.act_states.specs.tcap_words
pub use Rattle.act_states.specs.word_map
pub use Rattle.act_states.specs.kernel_rules
pub use Rattle.act_states.specs.call_plans.specs.kernel_invariant
pub use Rattle.act_states.specs.call_plans
pub use Rattle.act_states.specs.stage_look
pub use Rattle.act_states.specs.stage_pins
pub use Rattle.act_states.specs.stage_quiet
pub use Rattle.act_states.specs.stage_thread
pub use Rattle.act_states.specs.stage_sweep
pub use Rattle.act_states.specs.stage_tcap
pub use Rattle.act_states
-- Its own.
pub mod View
pub mod Tails
pub mod Steps
pub mod Cores
pub mod Fits
pub mod Laws
-- The names that are used most outside of this library.
pub use Rattle.call_stages.specs.Cores.{move_of, told_by, core_after, absorbed, told_of_step, started, told_in, absorbed_in, end_of, fresh, own_decided, move_in}
pub use Rattle.call_stages.specs.Cores.{ready_of, begun}
pub use Rattle.call_stages.specs.Fits.{StageFits, HasRoom, IsCore, CountsAt, steps_left, TailFits, steps_later, work_left, CallFits, IsOwn, left_at, FoundFits, IsActive}
pub use Rattle.call_stages.specs.Fits.{left_of, IsFirst, left_for, names_left}
pub use Rattle.call_stages.specs.Laws.{reply_at}
pub use Rattle.call_stages.specs.Steps.{landed, GoesOn, went_with, Took, Changes, Decides, Returns, found_more, took_at, next_by, stage_move, took, took_found, went}
pub use Rattle.call_stages.specs.Steps.{took_count, took_scan, call_after, named_one, told, took_alive, took_end, took_enter, took_look, is_spent, took_first, took_read}
pub use Rattle.call_stages.specs.Steps.{core_word, took_work, gives_up, read_more, work_move}
pub use Rattle.call_stages.specs.Tails.{took_tail, tail_counts, is_ok, tail_left, tail_move}
pub use Rattle.call_stages.specs.View.{Core}
