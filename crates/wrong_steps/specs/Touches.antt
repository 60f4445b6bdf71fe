-- A wrong touch answers what its look-up answers, also where that has no slot.
use Rattle.act_states.specs.{[], None, Touch, StageEnd, look_move, look_end, look_after, shown_in, Look, AtRoot, refusal_of, meets_page}
use Rattle.kernel_history.specs.{IsLegal, two_cores, enters}
use Rattle.act_states.specs.{declared.touches.Touching.Touching, declared.work.Act.TheVariants.Touch as touch_act}
use Rattle.act_states.specs.{declared.work.Work.TheVariants.Act, declared.work.WorkStep.WorkStep, declared.work.WorkStep.TheVariants.Goes}
use Rattle.{act_states.specs.refuse, kernel_history.specs.Trace.Trace, act_states.specs.stage_look.specs.declared.look.Found.Found}
use Rattle.{wrong_steps.specs.Acts.acts}

-- Page 0 of the pages of frame 2, none of which is cached.
abbrev pub touching : Touching
touching = record { look = AtRoot 2 0; pages = 2; page = 0; frames = 32; cached = None }

-- Wrong: a refusal of the look-up is answered as it is.
abbrev pub took_wrongly : Touching → Look → StageEnd Found → WorkStep
took_wrongly m look StageEnd.Going = Goes (Act (touch_act (record m { look = look })))
took_wrongly m look (StageEnd.Decided r) = refuse (refusal_of r)
took_wrongly m look (StageEnd.Done f) = meets_page m f.value
took_wrongly m look (StageEnd.Refuse r) = refuse (refusal_of r)

-- Core 0 touches page 0, whose root entry has no link.
unfoldable pub entered_touch : Trace
entered_touch = enters 0 (Touch 0) []

unfoldable pub touched : Trace
touched = acts 0 (look_move touching.look)
    (λ found. took_wrongly touching (look_after touching.look (shown_in 32 found)) (look_end touching.look found (shown_in 32 found)))
    entered_touch

pub record TouchesFindNoSlot : Type 0 where
  pub legal : IsLegal two_cores entered_touch
  pub refused : IsLegal two_cores touched → ⊥
