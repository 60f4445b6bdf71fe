-- What the crates above name through this one.
pub use Rattle.kernel_rules.specs.spk_nums
pub use Rattle.kernel_rules
-- Its own.
pub mod Schedule
pub mod Texts
-- The names that are used most outside of this library.
pub use Rattle.sched_rules.specs.Schedule.{Step, Progress, IsSchedule, at_first, turn_of, length_of, turns_of, renewal, TaskFits, next_arrival, new_job, put_out, ready}
pub use Rattle.sched_rules.specs.Schedule.{begun, chosen, gives_back, refused, replenish_for, ran, job_after, is_due, is_done, calls_of, next_of, switch_for, ticks}
pub use Rattle.sched_rules.specs.Schedule.{RuleFits, cut_at, goes_on, has_come, idles, is_renewed, later, sooner, switches, time_of, turn_by, turn_for, PeriodFits}
pub use Rattle.sched_rules.specs.Schedule.{renews, runs, time_in}
pub use Rattle.sched_rules.specs.Texts.{come_in, ran_in, ran_by, come_by, work_by}
unfoldable pub use Rattle.sched_rules.specs.Schedule.{reply_to, reach, state_past}
