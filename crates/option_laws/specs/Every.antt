-- That no reply which may stand is left out.
use Rattle.std.specs.Prelude.{◌≡◌}
use Rattle.history_options.specs.open_calls.specs.seq_state.specs.{ℕ, List, Setting, IsSetting, Call, Reply, alone, Open}
use Rattle.history_options.specs.marked_history.specs.{phase, state, MayFollow, IsHistory}
use Rattle.history_options.specs.marked_history.specs.{declared.marks.Mark.Mark, declared.marks.Mark.TheVariants.Decide}
use Rattle.{std.specs.List.Contains, history_options.specs.open_calls.specs.Told.told, history_options.specs.Replies.replies_of}

-- after a history, each reply that may decide a call which is open there is one of those that are tried of it
abbrev pub EveryReplyIsTried : Type 0
EveryReplyIsTried = (setting : Setting) → IsSetting setting → (marks : List Mark) → IsHistory setting marks
    → (c : ℕ) (call : Call) → phase marks c ≡ Open call → (r : Reply) → MayFollow setting marks (Decide c r)
    → Contains (replies_of setting.cores (alone (state setting marks) c call) (told (state setting marks) c call)) r
