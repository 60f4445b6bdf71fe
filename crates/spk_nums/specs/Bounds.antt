use Rattle.std.specs.Prelude.{ℕ, ◌+◌, ◌*◌}
use Rattle.spk_nums.specs.declared.kinds.FrameKind.{FrameKind}
use Rattle.spk_nums.specs.declared.kinds.FrameKind.TheVariants.{Untyped}
use Rattle.spk_nums.specs.declared.calls.Make.{Make}
use Rattle.spk_nums.specs.declared.calls.Make.TheVariants.{Thread as make_thread, Tcap as make_tcap, Comp as make_comp}
use Rattle.spk_nums.specs.declared.calls.Call.{Call}
use Rattle.spk_nums.specs.declared.calls.Call.TheVariants.{Look, Copy, Remove, Grow, Shrink, Retype, Make as make_call}
use Rattle.spk_nums.specs.declared.calls.Call.TheVariants.{Map, Unmap, Touch, Flush, Gate, Kill, Call as call_gate}
use Rattle.spk_nums.specs.declared.calls.Call.TheVariants.{Ret, Switch, Tick, Transfer, Delegate, Test, Part, Replenish}

-- the most own steps of a retype on n cores: back to untyped it looks at every core's words
abbrev pub bound_of_retype : FrameKind → ℕ → ℕ
bound_of_retype Untyped n = 74 + 5 * n
bound_of_retype _ n = 9

-- the most own steps of a make on n cores; a node is cleared entry by entry
abbrev pub bound_of_make : Make → ℕ → ℕ
bound_of_make (make_thread comp) n = 39 + n
bound_of_make (make_tcap sched quality) n = 26 + n
bound_of_make (make_comp table pages live) n = 32 + 2 * n
bound_of_make _ n = 81 + n

-- the most own steps of a call on a machine of n cores, entry and exit counted, and the two loads by which a call asks whether the
-- component of its core lives: every call but `ret`, `flush` and `tick`
abbrev pub bound_of : Call → ℕ → ℕ
bound_of (Look a) n = 7
bound_of (Copy a t b rights) n = 14 + n
bound_of (Remove t b) n = 15
bound_of (Grow t i l) n = 13 + 2 * n
bound_of (Shrink t i) n = 14
bound_of (Retype r f k) n = bound_of_retype k n
bound_of (make_call what range frame table slot) n = bound_of_make what n
bound_of (Map p v r f w) n = 15 + 2 * n
bound_of (Unmap p v) n = 15
bound_of (Touch v) n = 7
bound_of Flush n = 5
bound_of (Gate c t b) n = 15 + n
bound_of (Kill c) n = 15
bound_of (call_gate g) n = 16
bound_of Ret n = 12
bound_of (Switch h q) n = 30
bound_of (Tick t) n = 5
bound_of (Transfer a b m) n = 30
bound_of (Delegate a b m) n = 39
bound_of (Test a b) n = 30
bound_of (Part r f k t b) n = 11 + n
bound_of (Replenish a m) n = 17
