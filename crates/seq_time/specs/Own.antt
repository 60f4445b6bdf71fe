-- The calls of this family.
use Rattle.seq_lookups.specs.seq_state.specs.{Call, Gate, Kill, Ret, Switch, Tick, Transfer, Delegate, Test, Replenish}
use Rattle.seq_lookups.specs.spk_nums.specs.declared.calls.Call.TheVariants.{Call as call_gate}

-- A call that makes a gate, kills, calls, returns or switches, that charges, moves or gives back ticks, or that tests preemption.
abbrev pub IsTimeCall : Call → Type 0
IsTimeCall (Gate c t b) = Unit {0}
IsTimeCall (Kill c) = Unit {0}
IsTimeCall (call_gate g) = Unit {0}
IsTimeCall Ret = Unit {0}
IsTimeCall (Switch h q) = Unit {0}
IsTimeCall (Tick n) = Unit {0}
IsTimeCall (Transfer a b m) = Unit {0}
IsTimeCall (Delegate a b m) = Unit {0}
IsTimeCall (Test a b) = Unit {0}
IsTimeCall (Replenish a m) = Unit {0}
IsTimeCall call = ⊥
