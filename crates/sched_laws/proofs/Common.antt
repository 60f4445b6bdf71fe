-- The names of the crates below that the files of this crate use, in one place: a file takes them from here.
pub use Rattle.sched_rules.specs.kernel_rules.proofs.{◌≡◌, ℕ, refl, Some, true, ap, subst, ◌∙◌, [], ◌+◌, false, sym, arith, if◌then◌else◌}
pub use Rattle.sched_rules.specs.kernel_rules.proofs.{List, ◌∷◌, Bool, ◌≤◌, None, ◌<◌, Option, slice_get, inl, inr, ◌-◌, eq-eqb, ◌≢◌, suc}
pub use Rattle.sched_rules.specs.kernel_rules.proofs.{◌==◌, set as slice_set, ne_eqb, ◌*◌, false≢true, Reply, tcap_at, zero, min}
pub use Rattle.sched_rules.specs.kernel_rules.proofs.{option_map, ◌&&◌, ltb as nat_lt, Kind, leb as nat_le, map, eqb-true, IsSome}
pub use Rattle.sched_rules.specs.kernel_rules.proofs.{Capability, TcapFields, not, leb-true, true≢false, Call, Tick, Frame, Kernel, Tcap}
pub use Rattle.sched_rules.specs.kernel_rules.proofs.{tcap_in, only, Found, ◌++◌, fits, number_of, ltb-true, and_from, le-leb, lt-ltb, put}
pub use Rattle.sched_rules.specs.kernel_rules.proofs.{to_use, found, entered, Change, Judged, named, and_then, with_tcap, change_of}
pub use Rattle.sched_rules.specs.kernel_rules.proofs.{changed, state_by, plain_reply, IsTrue, lt-leb, option_and_then, has_rights, Switch}
pub use Rattle.sched_rules.specs.kernel_rules.proofs.{ThreadFields, Thread, thread_in, Slot, Want, usable, reached, own, returned, acts}
pub use Rattle.sched_rules.specs.kernel_rules.proofs.{of_kind, with_rights, or_refuse, switch_to, with_thread, running, switched, charge}
pub use Rattle.sched_rules.specs.kernel_rules.proofs.{are_calls_spent, counted, reply_in, first_reply, IfFound, AllChanges, outcome_all}
pub use Rattle.sched_rules.specs.kernel_rules.proofs.{le-ltb, Replenish, outcome, leb-false, Nothing, does, unless, first_of, first_cause}
pub use Rattle.sched_rules.specs.kernel_rules.proofs.{is_finer, is_less, Give, or_left, or_right}
pub use Rattle.sched_rules.specs.{Progress, Step, turn_of, length_of, next_arrival, at_first, refused, put_out, gives_back, replenish_for}
pub use Rattle.sched_rules.specs.{new_job, renewal, IsSchedule, ran, begun, ready, ran_in, come_in, chosen, job_after, is_due, is_done}
pub use Rattle.sched_rules.specs.{turns_of, time_of, later, sooner, ticks, switches, switch_for, goes_on, idles, turn_by, turn_for, cut_at}
pub use Rattle.sched_rules.specs.{has_come, ran_by, runs, renews, is_renewed, come_by, time_in}
pub use Rattle.std.proofs.lemmas.Bool.{cases_lt, cases_eq, and_parts, and_right}
pub use Rattle.sched_rules.specs.kernel_rules.specs.{switch_rule}
pub use Rattle.sched_rules.specs.{declared.tasks.Rule.Rule, declared.tasks.Job.Job, declared.tasks.Task.Task, declared.tasks.Choice.Choice}
pub use Rattle.sched_rules.specs.{declared.tasks.Renewal.Renewal, declared.turns.Turn.TheVariants.Back, declared.turns.Turn.TheVariants.Ran}
pub use Rattle.sched_rules.specs.{declared.turns.Turn.TheVariants.Refused, declared.turns.Turn.TheVariants.Idle, declared.tasks.Ready.Ready}
pub use Rattle.sched_rules.specs.{Schedule.with_number, Schedule.is_place, Schedule.lesser, Schedule.last_of}
pub use Rattle.sched_rules.specs.kernel_rules.specs.{State.State}
pub use Rattle.std.proofs.{lemmas.Option.slice_get-map, Math.Nat.add-mul}
pub use Rattle.sched_rules.specs.spk_nums.specs.Merging.{is_smaller, is_better, preempts_by}
unfoldable pub use Rattle.sched_rules.specs.{reach, reply_to, state_past}
