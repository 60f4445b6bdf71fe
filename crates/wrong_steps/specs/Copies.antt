-- Wrong copies: one stores in place of its compare, and one tries a lost compare again.
use Rattle.std.specs.Prelude.{◌==◌, if◌then◌else◌}
use Rattle.act_states.specs.{ℕ, true, [], None, Nothing as nothing, word_of_entry, Held, EntryAt, Move, StoreOf}
use Rattle.act_states.specs.{declared.fills.Fill.Fill, declared.work.Act.TheVariants.Fill as fill_act, declared.work.Work.TheVariants.Act}
use Rattle.act_states.specs.{declared.work.Tail.TheVariants.Nothing, declared.work.WorkStep.WorkStep}
use Rattle.{act_states.specs.fill_move, act_states.specs.filled_if, act_states.specs.took_fill, kernel_history.specs.KeepsBounds}
use Rattle.{kernel_history.specs.IsLegal, kernel_history.specs.two_cores, kernel_history.specs.Trace.Trace}
use Rattle.{act_states.specs.declared.work.WorkStep.TheVariants.Goes, act_states.specs.declared.work.WorkStep.TheVariants.Answers}
use Rattle.{wrong_steps.specs.Acts.acts, wrong_steps.specs.Acts.fill, wrong_steps.specs.Acts.copying}

-- Wrong: the place's word is stored, whatever stands there, and the copy is carried out.
abbrev pub storing_move : Fill → Move
storing_move place = StoreOf (EntryAt place.node place.entry) (word_of_entry (Held place.cap))

abbrev pub took_storing : Fill → ℕ → WorkStep
took_storing place found = filled_if true

-- Both cores have looked up; core 0 copies, and then core 1.
unfoldable pub copied_once : Trace
copied_once = acts 0 (storing_move fill) (took_storing fill) (copying 1 (copying 0 []))

unfoldable pub copied_twice : Trace
copied_twice = acts 1 (storing_move fill) (took_storing fill) copied_once

pub record CopiesOverwrite : Type 0 where
  pub legal : IsLegal two_cores copied_once
  pub refused : IsLegal two_cores copied_twice → ⊥

-- Wrong: where the compare is lost, it is made again.
abbrev pub took_again : Fill → ℕ → WorkStep
took_again place found = if found == place.word then Answers nothing None Nothing else Goes (Act (fill_act place))

abbrev pub tries : Trace → Trace
tries t = acts 0 (fill_move fill) (took_again fill) t

-- Core 1 copies by the right step, and core 0 goes on trying.
unfoldable pub lost : Trace
lost = acts 1 (fill_move fill) (took_fill fill) (copying 1 (copying 0 []))

unfoldable pub tried : Trace
tried = tries (tries (tries (tries (tries (tries (tries (tries (tries (tries (tries (tries lost)))))))))))

pub record RetriesGoOn : Type 0 where
  pub legal : IsLegal two_cores tried
  pub refused : KeepsBounds 2 tried → ⊥
