-- The image of a machine's final state.
use Rattle.std.specs.Prelude.{◌≡◌}
use Rattle.kernel_history.specs.{ℕ, List, Setting, IsSetting, Event, after, phase_of, IsRun, Represent, word_in, end_in}
use Rattle.{machine_image.specs.Views.ImageOf, kernel_history.specs.kernel_rules.specs.Runs.Out}

-- The words and the ends represent the state after a run, and no core is then in a call.
pub record IsLast (setting : Setting) (events : List Event) (m : ImageOf) : Type 0 where
  pub limits : IsSetting setting
  pub run : IsRun setting events
  pub out : (c : ℕ) → phase_of events c ≡ Out
  pub frames : m.shape.frames ≡ setting.frames
  pub cores : m.shape.cores ≡ setting.cores
  pub represents : Represent (word_in m.shape m.words) (end_in m.ends) (after setting events)
