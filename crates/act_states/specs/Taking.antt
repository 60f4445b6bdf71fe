-- What the act of a call takes from its step: what it goes on with, or what it is decided with.
use Rattle.std.specs.Prelude.{◌==◌, if◌then◌else◌}
use Rattle.stage_tcap.specs.{ℕ, Bool, true, false, Option, Some, None, [], Nothing as nothing, StageEnd, Shape, FrameKind, Untyped, User}
use Rattle.stage_tcap.specs.{Kernel, Obj, Blank}
use Rattle.stage_sweep.specs.frame_words.specs.{comp_of_word, live_of_word, word_of_frame, frame_of_word}
use Rattle.stage_sweep.specs.{swept_of, sweep_end, sweep_after}
use Rattle.stage_sweep.specs.stage_quiet.specs.{quiet_after, quiet_end, drawn_stamp}
use Rattle.stage_thread.specs.{claim_after, claim_end}
use Rattle.stage_sweep.specs.{declared.sweep.Sweep.Sweep, declared.sweep.Swept.Swept, declared.sweep.SweepAt.SweepAt}
use Rattle.stage_sweep.specs.frame_words.specs.{declared.comp_word.CompWord.CompWord, declared.live_word.LiveWord.LiveWord}
use Rattle.act_states.specs.{declared.refusals.Refusal.TheVariants.Raced, declared.refusals.Refusal.TheVariants.Busy}
use Rattle.act_states.specs.{declared.refusals.Refusal.TheVariants.FrameKind as wrong_kind}
use Rattle.act_states.specs.{declared.refusals.Refusal.TheVariants.Dead as is_dead, declared.work.Act.TheVariants.Fill as fill_act}
use Rattle.act_states.specs.{declared.work.Act.TheVariants.Make as make_act, declared.work.Act.TheVariants.Kill as kill_act}
use Rattle.act_states.specs.{declared.work.Act.TheVariants.Untype as untype_act, declared.work.Act.TheVariants.MakeComp as comp_act}
use Rattle.act_states.specs.{declared.work.Act.TheVariants.Invoke as invoke_act, declared.work.Act.TheVariants.Return as return_act}
use Rattle.act_states.specs.{declared.work.Act.TheVariants.Switch as switch_act, declared.work.Work.TheVariants.Act as act_work}
use Rattle.act_states.specs.{declared.work.Tail.TheVariants.Unmark, declared.work.Tail.TheVariants.StoreDead}
use Rattle.act_states.specs.{declared.work.Tail.TheVariants.Release as release_tail, declared.work.WorkStep.WorkStep}
use Rattle.act_states.specs.{declared.work.WorkStep.TheVariants.Goes, declared.work.WorkStep.TheVariants.Refuses}
use Rattle.act_states.specs.{declared.work.WorkStep.TheVariants.Answers, Refusals.refusal_of, WorkSteps.refuse, declared.fills.Fill.Fill}
use Rattle.act_states.specs.{Typings.typed, declared.makings.MakingAt.MakingAt, declared.makings.MakingAt.TheVariants.Load as make_load}
use Rattle.act_states.specs.{declared.makings.MakingAt.TheVariants.Mark, declared.makings.MakingAt.TheVariants.Store}
use Rattle.act_states.specs.{declared.makings.MakingAt.TheVariants.Fill as fill_at, declared.makings.Making.Making}
use Rattle.act_states.specs.{declared.comps.CompMaking.CompMaking, declared.comps.CompAt.CompAt, Comps.comp_meets, Comps.number_met}
use Rattle.act_states.specs.{Comps.number_scanned, Comps.closes_number, Comps.comp_goes, Comps.comp_stored, Comps.comp_published}
use Rattle.act_states.specs.{Makings.made, Makings.stored, declared.kills.Killing.Killing, declared.kills.KillingAt.KillingAt}
use Rattle.act_states.specs.{declared.kills.KillingAt.TheVariants.LoadComp, declared.kills.KillingAt.TheVariants.LoadLive}
use Rattle.act_states.specs.{declared.kills.KillingAt.TheVariants.Close as kill_close}
use Rattle.act_states.specs.{declared.kills.KillingAt.TheVariants.Draw as kill_draw, declared.invocations.Invoking.Invoking}
use Rattle.act_states.specs.{declared.invocations.InvokingAt.InvokingAt, declared.invocations.Returning.Returning}
use Rattle.act_states.specs.{declared.invocations.ReturningAt.ReturningAt, Invocations.frame_in, Invocations.enters_live}
use Rattle.act_states.specs.{Invocations.below_in, Invocations.left_to, declared.switches.Switching.Switching}
use Rattle.act_states.specs.{declared.switches.SwitchAt.SwitchAt, Switches.gives_back, Switches.switch_goes, Switches.took_claim}
use Rattle.act_states.specs.{Switches.switch_table, Switches.switched, declared.untypings.Untyping.Untyping}
use Rattle.act_states.specs.{declared.untypings.UntypingAt.UntypingAt, declared.untypings.UntypingAt.TheVariants.Load as untype_load}
use Rattle.act_states.specs.{declared.untypings.UntypingAt.TheVariants.Mark as untype_mark}
use Rattle.act_states.specs.{declared.untypings.UntypingAt.TheVariants.Sweep as untype_sweep}
use Rattle.act_states.specs.{declared.untypings.UntypingAt.TheVariants.Draw as untype_draw, Untypings.release_of, Phases.next_work}
use Rattle.{stage_thread.specs.declared.claim.Claimed.Claimed, stage_sweep.specs.frame_words.specs.declared.frame_word.FrameWord.FrameWord}

-- what a making takes from its step
abbrev pub meets_object : Making → ℕ → Obj → WorkStep
meets_object m word Blank = Goes (act_work (make_act (record m { at = Mark word })))
meets_object m word _ = refuse wrong_kind

abbrev pub meets_kernel : Making → ℕ → FrameKind → Obj → WorkStep
meets_kernel m word Kernel o = meets_object m word o
meets_kernel m word _ o = refuse wrong_kind

abbrev pub meets_blank : Making → ℕ → FrameKind → Obj → Option ℕ → WorkStep
meets_blank m word k o None = meets_kernel m word k o
meets_blank m word k o (Some d) = refuse (Busy d)

abbrev pub meets_making : Making → ℕ → Option FrameWord → WorkStep
meets_making m word None = refuse Raced
meets_making m word (Some v) = meets_blank m word v.kind v.object v.mark

abbrev pub marks_if : Making → ℕ → Bool → WorkStep
marks_if m word equal = if equal then Goes (next_work m.core 0 (make_act (record m { at = Store word 0 }))) else refuse Raced

abbrev pub published : Making → ℕ → Bool → WorkStep
published m word equal =
    if equal then Answers nothing None (Unmark m.frame (word_of_frame (made m.object))) else Refuses Raced (Unmark m.frame word)

abbrev pub took_making_at : Making → MakingAt → ℕ → WorkStep
took_making_at m make_load found = meets_making m found (frame_of_word found)
took_making_at m (Mark word) found = marks_if m word (found == word)
took_making_at m (Store word entry) found = Goes (act_work (make_act (record m { at = stored m.object word entry })))
took_making_at m (fill_at word) found = published m word (found == m.fill.word)

abbrev pub took_making : Making → ℕ → WorkStep
took_making m found = took_making_at m m.at found

-- what a killing takes from its step
abbrev pub meets_comp : Killing → Option CompWord → WorkStep
meets_comp m None = refuse Raced
meets_comp m (Some life) = Goes (act_work (kill_act (record m { at = LoadLive life })))

abbrev pub meets_life : Killing → CompWord → ℕ → Bool → WorkStep
meets_life m life word lives = if lives then Goes (next_work m.core 0 (kill_act (record m { at = kill_close life word }))) else refuse
    is_dead

abbrev pub meets_number : Killing → CompWord → ℕ → LiveWord → WorkStep
meets_number m life word LiveWord.Free = refuse is_dead
meets_number m life word (LiveWord.Live epoch f) = meets_life m life word (epoch == life.epoch)
meets_number m life word (LiveWord.Closing epoch by) = refuse (Busy by)
meets_number m life word (LiveWord.Dead epoch stamp) = refuse is_dead

abbrev pub meets_live : Killing → CompWord → ℕ → Option LiveWord → WorkStep
meets_live m life word None = refuse Raced
meets_live m life word (Some shown) = meets_number m life word shown

abbrev pub closes_if : Killing → CompWord → ℕ → Bool → WorkStep
closes_if m life word equal = if equal then Goes (act_work (kill_act (record m { at = kill_draw life word }))) else refuse Raced

abbrev pub drawn_dead : CompWord → ℕ → WorkStep
drawn_dead life stamp = Answers nothing (Some stamp) (StoreDead life stamp)

abbrev pub took_killing_at : Killing → KillingAt → ℕ → WorkStep
took_killing_at m LoadComp found = meets_comp m (comp_of_word found)
took_killing_at m (LoadLive life) found = meets_live m life found (live_of_word found)
took_killing_at m (kill_close life word) found = closes_if m life word (found == word)
took_killing_at m (kill_draw life word) found = drawn_dead life (drawn_stamp found)

abbrev pub took_killing : Killing → ℕ → WorkStep
took_killing m found = took_killing_at m m.at found

-- what an untyping takes from its step
abbrev pub meets_untyped : Untyping → ℕ → FrameWord → FrameKind → Option ℕ → WorkStep
meets_untyped m word v Untyped None = refuse wrong_kind
meets_untyped m word v User None = Goes (act_work (untype_act (record m { at = untype_mark word v })))
meets_untyped m word v Kernel None = Goes (act_work (untype_act (record m { at = untype_mark word v })))
meets_untyped m word v k (Some d) = refuse (Busy d)

abbrev pub meets_untyping : Untyping → ℕ → Option FrameWord → WorkStep
meets_untyping m word None = refuse Raced
meets_untyping m word (Some v) = meets_untyped m word v v.kind v.mark

-- the sweep of a frame that is this begins with its first counter
abbrev pub sweep_from : ℕ → FrameWord → ℕ → Sweep
sweep_from f v core =
    record { frame = f; word = v; core = core; kept = []; owned = record { first = None; second = None }; at = SweepAt.Load }

abbrev pub sweeps_if : Untyping → ℕ → FrameWord → Bool → WorkStep
sweeps_if m word v equal =
    if equal then Goes (act_work (untype_act (record m { at = untype_sweep word (sweep_from m.frame v m.core) }))) else refuse Raced

-- a sweep that is refused leaves the counters that it has frozen, and the frame's word, to be stored as they were found
abbrev pub took_sweep : Untyping → ℕ → Sweep → StageEnd Swept → WorkStep
took_sweep m word w StageEnd.Going = Goes (act_work (untype_act (record m { at = untype_sweep word w })))
took_sweep m word w (StageEnd.Decided r) = Refuses (refusal_of r) (release_tail (release_of m.frame word (swept_of w) false))
took_sweep m word w (StageEnd.Done swept) = Goes (next_work m.core 0 (untype_act (record m { at = untype_draw word swept })))
took_sweep m word w (StageEnd.Refuse r) = Refuses (refusal_of r) (release_tail (release_of m.frame word (swept_of w) false))

-- it is carried out: its counters are to be cleared, and the frame to be untyped
abbrev pub drawn_untyped : ℕ → Swept → ℕ → WorkStep
drawn_untyped f swept stamp = Answers nothing (Some stamp) (release_tail (release_of f (word_of_frame (typed Untyped)) swept true))

abbrev pub took_untyping_at : Shape → Untyping → UntypingAt → ℕ → WorkStep
took_untyping_at s m untype_load found = meets_untyping m found (frame_of_word found)
took_untyping_at s m (untype_mark word v) found = sweeps_if m word v (found == word)
took_untyping_at s m (untype_sweep word w) found = took_sweep m word (sweep_after s w found) (sweep_end s w found)
took_untyping_at s m (untype_draw word w) found = drawn_untyped m.frame w (drawn_stamp found)

abbrev pub took_untyping : Shape → Untyping → ℕ → WorkStep
took_untyping s m found = took_untyping_at s m m.at found

-- what the load of a frame's word leads to that is to be mapped: a frame that a core has marked is busy, and one that is no user frame is
-- of another kind
abbrev pub maps_kind : Fill → FrameKind → WorkStep
maps_kind fill User = Goes (act_work (fill_act fill))
maps_kind fill _ = refuse wrong_kind

abbrev pub maps_frame : Fill → FrameKind → Option ℕ → WorkStep
maps_frame fill k None = maps_kind fill k
maps_frame fill k (Some d) = refuse (Busy d)

abbrev pub maps_word : Fill → Option FrameWord → WorkStep
maps_word fill None = refuse Raced
maps_word fill (Some v) = maps_frame fill v.kind v.mark

-- what the making of a component takes from its step
abbrev pub comp_marks : CompMaking → ℕ → Bool → WorkStep
comp_marks m word equal =
    if equal then Goes (next_work m.core 0 (comp_act (record m { at = CompAt.LoadLive word }))) else refuse Raced

abbrev pub took_comp_at : CompMaking → CompAt → ℕ → WorkStep
took_comp_at m CompAt.Load found = comp_meets m found (frame_of_word found)
took_comp_at m (CompAt.Mark word) found = comp_marks m word (found == word)
took_comp_at m (CompAt.LoadLive word) found = number_met m word found (live_of_word found)
took_comp_at m (CompAt.Scan word last q) found = number_scanned m word last (quiet_after m.cores q found) (quiet_end m.cores q found)
took_comp_at m (CompAt.Close word last) found = closes_number m word last (found == last.word)
took_comp_at m (CompAt.Store word last entry) found = comp_goes m (comp_stored word last entry)
took_comp_at m (CompAt.Fill word last) found = comp_published m word last (found == m.fill.word)

abbrev pub took_comp : CompMaking → ℕ → WorkStep
took_comp m found = took_comp_at m m.at found

-- what an entering takes from its step
abbrev pub meets_table : Invoking → Option ℕ → WorkStep
meets_table m None = refuse Raced
meets_table m (Some table) = Goes (act_work (invoke_act (record m { at = InvokingAt.LoadPages table })))

abbrev pub meets_pages : Invoking → ℕ → Option ℕ → WorkStep
meets_pages m table None = refuse Raced
meets_pages m table (Some pages) = Goes (act_work (invoke_act (record m { at = InvokingAt.LoadComp table pages })))

abbrev pub meets_gate : Invoking → ℕ → ℕ → Option CompWord → WorkStep
meets_gate m table pages None = refuse Raced
meets_gate m table pages (Some life) = Goes (next_work m.core 0 (invoke_act (record m { at = InvokingAt.LoadLive table pages life })))

abbrev pub took_invoking_at : Invoking → InvokingAt → ℕ → WorkStep
took_invoking_at m InvokingAt.LoadTable found = meets_table m (frame_in m.frames found)
took_invoking_at m (InvokingAt.LoadPages table) found = meets_pages m table (frame_in m.frames found)
took_invoking_at m (InvokingAt.LoadComp table pages) found = meets_gate m table pages (comp_of_word found)
took_invoking_at m (InvokingAt.LoadLive table pages life) found = enters_live m table pages (live_of_word found)

abbrev pub took_invoking : Invoking → ℕ → WorkStep
took_invoking m found = took_invoking_at m m.at found

-- what a leaving takes from its step
abbrev pub meets_below : Returning → Option ℕ → WorkStep
meets_below m None = refuse Raced
meets_below m (Some comp) = Goes (act_work (return_act (record m { at = ReturningAt.LoadTable comp })))

abbrev pub meets_below_table : Returning → ℕ → Option ℕ → WorkStep
meets_below_table m comp None = refuse Raced
meets_below_table m comp (Some table) = Goes (act_work (return_act (record m { at = ReturningAt.LoadPages comp table })))

abbrev pub meets_below_pages : Returning → ℕ → ℕ → Option ℕ → WorkStep
meets_below_pages m comp table None = refuse Raced
meets_below_pages m comp table (Some pages) =
    Goes (next_work m.core 0 (return_act (record m { at = ReturningAt.Draw comp table pages })))

abbrev pub took_returning_at : Returning → ReturningAt → ℕ → WorkStep
took_returning_at m ReturningAt.LoadBelow found = meets_below m (below_in m.frames found)
took_returning_at m (ReturningAt.LoadTable comp) found = meets_below_table m comp (frame_in m.frames found)
took_returning_at m (ReturningAt.LoadPages comp table) found = meets_below_pages m comp table (frame_in m.frames found)
took_returning_at m (ReturningAt.Draw comp table pages) found = left_to m comp table pages (drawn_stamp found)

abbrev pub took_returning : Returning → ℕ → WorkStep
took_returning m found = took_returning_at m m.at found

-- what a switch takes from its step
abbrev pub switch_pages : Switching → Claimed → ℕ → Option ℕ → WorkStep
switch_pages m to table None = Refuses Raced (gives_back to)
switch_pages m to table (Some pages) =
    Goes (next_work m.core 0 (switch_act (record m { at = SwitchAt.Leave to table pages })))

abbrev pub took_switching_at : Switching → SwitchAt → ℕ → WorkStep
took_switching_at m (SwitchAt.Claim claim) found = took_claim m (claim_after claim found) (claim_end m.frames claim found)
took_switching_at m (SwitchAt.LoadTable to) found = switch_table m to (frame_in m.frames found)
took_switching_at m (SwitchAt.LoadPages to table) found = switch_pages m to table (frame_in m.frames found)
took_switching_at m (SwitchAt.Leave to table pages) found = switch_goes m (SwitchAt.Draw to table pages)
took_switching_at m (SwitchAt.Draw to table pages) found = switched m to table pages (drawn_stamp found)

abbrev pub took_switching : Switching → ℕ → WorkStep
took_switching m found = took_switching_at m m.at found
