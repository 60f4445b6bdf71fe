-- On whose side a step is, where two worlds divide a machine.
use Rattle.std.specs.Prelude.{◌≡◌, ◌<◌, ◌↔◌, ◌%◌}
use Rattle.step_views.specs.kernel_rules.specs.{ℕ, WordOp}
use Rattle.spk_nums.specs.declared.steps.WordOp.TheVariants.{Load, Compare, Store, Add}
use Rattle.step_views.specs.declared.names.WordName.TheVariants.{Entry, Frame, Count, Core, Flush, Live, Clock}
use Rattle.{step_views.specs.declared.names.WordName.WordName, step_views.specs.declared.views.StepView.StepView}

-- A frame is this core's: it is below the given one exactly where the core is core 0.
abbrev pub IsOfFrame : ℕ → ℕ → ℕ → Type 0
IsOfFrame first core frame = (frame < first) ↔ (core ≡ 0)

-- A liveness number is this core's: it is even exactly where the core is core 0.
abbrev pub IsOfNumber : ℕ → ℕ → Type 0
IsOfNumber core number = (number % 2 ≡ 0) ↔ (core ≡ 0)

-- A core does this to a word that some core has for its own: it loads it, or it is that core.
abbrev pub IsOfCore : ℕ → ℕ → WordOp → Type 0
IsOfCore core owner (Load at) = Unit {0}
IsOfCore core owner (Compare at expected new) = core ≡ owner
IsOfCore core owner (Store at new) = core ≡ owner
IsOfCore core owner (Add at by) = core ≡ owner

-- A core does this to a word on its own side.
abbrev pub IsOwnAt : ℕ → ℕ → WordOp → WordName → Type 0
IsOwnAt first core op (Entry frame entry) = IsOfFrame first core frame
IsOwnAt first core op (Frame frame) = IsOfFrame first core frame
IsOwnAt first core op (Count frame counts) = IsOfFrame first core frame
IsOwnAt first core op (Core owner) = IsOfCore core owner op
IsOwnAt first core op (Flush owner) = IsOfCore core owner op
IsOwnAt first core op (Live number) = IsOfNumber core number
IsOwnAt first core op Clock = Unit {0}

-- A step is on its core's own side.
abbrev pub IsOwn : ℕ → StepView → Type 0
IsOwn first step = IsOwnAt first step.core step.op step.word
