-- Whether a core may act: the component in which it works lives, or was killed while the core was in its call.
use Rattle.std.specs.Prelude.{ℕ, Bool, true, false, not, ◌&&◌, ◌||◌, ◌==◌}
use Rattle.spk_nums.specs.declared.calls.Call.{Call}
use Rattle.kernel_rules.specs.State.{Liveness, Unused, Live, Dead, NumberOf, State, comp_of}

-- Whether a liveness number is live in an epoch.
abbrev pub is_live_in : Liveness → ℕ → Bool
is_live_in Unused epoch = false
is_live_in (Live e f) epoch = e == epoch
is_live_in (Dead e) epoch = false

-- Whether a liveness number is dead after this epoch.
abbrev pub is_dead_in : Liveness → ℕ → Bool
is_dead_in Unused epoch = false
is_dead_in (Live e f) epoch = false
is_dead_in (Dead e) epoch = e == epoch

-- Whether the component in which core c works lives: its liveness number is live in its epoch.
abbrev pub lives : State → ℕ → Bool
lives s c = is_live_in (s.number (comp_of s c).number) (comp_of s c).epoch

-- Whether it was killed, and core c is still in the call in which the kill met it.
abbrev pub outlives : State → ℕ → Bool
outlives s c = is_dead_in (s.number (comp_of s c).number) (comp_of s c).epoch && (s.grace (NumberOf (comp_of s c).number)).waits c

-- Whether core c may act.
abbrev pub may_act : State → ℕ → Bool
may_act s c = lives s c || outlives s c

-- Whether a call asks first that its core may act: every call but `ret`, `flush` and `tick`, which are about the thread or the core,
-- and use no table of the component.
abbrev pub asks_life : Call → Bool
asks_life Call.Flush = false
asks_life Call.Ret = false
asks_life (Call.Tick n) = false
asks_life _ = true

-- Whether core c may make a call: it may act, or the call does not ask for it.
abbrev pub acts : State → ℕ → Call → Bool
acts s c call = not (asks_life call) || may_act s c
