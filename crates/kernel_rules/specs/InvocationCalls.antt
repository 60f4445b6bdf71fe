-- The calls of invocation: gates, killing, calling and returning, and switching threads.
use Rattle.std.specs.Prelude.{ℕ, not, ◌&&◌, nat_le, List, [], ◌∷◌, length, Option, Some, None}
use Rattle.spk_nums.specs.{Capability.cap_of, declared.replies.Value.TheVariants.Nothing, declared.kinds.Kind.Kind}
use Rattle.spk_nums.specs.{declared.replies.Reply.Reply}
use Rattle.kernel_rules.specs.{State.CompFields, State.State, State.comp_in, State.thread_in, State.thread_of, Life.is_live_in}
use Rattle.kernel_rules.specs.{Access.Named, Access.Under, Access.only, Access.to_use, Edits.Fill, Edits.Deaden, Edits.Push, Edits.Pop}
use Rattle.kernel_rules.specs.{Edits.Switch, Rules.Cause, Rules.When, Rules.Rule, Rules.Name, Rules.Vacant, Rules.Does}

-- `gate C T B` names a component C and a table T; the free place B of T then holds a gate to C in C's epoch.
abbrev pub gate_rule : State → ℕ → ℕ → ℕ → Rule
gate_rule s c t b =
    Name c (to_use (only Kind.Comp)) λ comp.
    Name t (to_use (only Kind.Table)) λ table.
    Vacant (Under table b) λ at.
    Does [] Nothing (Fill at (cap_of Kind.Gate comp.frame (comp_in (s.frame comp.frame)).epoch) ∷ [])

-- `dead`: a named component, or that of a named gate, has this liveness number, which is not live in this epoch.
abbrev pub not_live : State → Named → ℕ → ℕ → Cause
not_live s name l epoch = When (name.found && not (is_live_in (s.number l) epoch)) Reply.Dead

-- `kill C` names a component C, whose liveness number must be live in C's epoch, and then is dead.
abbrev pub kill_comp : State → Named → CompFields → Rule
kill_comp s name comp = Does (not_live s name comp.number comp.epoch ∷ []) Nothing (Deaden comp.number comp.epoch ∷ [])

abbrev pub kill_rule : State → ℕ → Rule
kill_rule s c =
    Name c (to_use (only Kind.Comp)) λ comp.
    kill_comp s comp (comp_in (s.frame comp.frame))

-- `call G` names a gate G; the depth must be below 16, and the component live in the gate's epoch, which is then entered.
abbrev pub call_rule : State → ℕ → ℕ → Rule
call_rule s c g =
    Name g (to_use (only Kind.Gate)) λ gate.
    Does (
    When (nat_le 16 (length (thread_of s c).stack)) Reply.Deep
    ∷ not_live s gate (comp_in (s.frame gate.frame)).number gate.arg
    ∷ []) Nothing (Push gate.frame ∷ [])

-- `ret` leaves the component on top of the stack; the depth must be above 1.
abbrev pub ret_rule : State → ℕ → Rule
ret_rule s c = Does (When (nat_le (length (thread_of s c).stack) 1) Reply.Bottom ∷ []) Nothing (Pop ∷ [])

-- `running`: the named thread runs on a core.
abbrev pub runs_elsewhere : Named → Option ℕ → List Cause
runs_elsewhere h None = []
runs_elsewhere h (Some e) = When h.found (Reply.Running e) ∷ []

-- A switch to a named thread, which must be idle.
abbrev pub switch_to : Named → ℕ → Option ℕ → Rule
switch_to h q runs_on = Does (runs_elsewhere h runs_on) Nothing (Switch h.frame q ∷ [])

-- `switch H Q` names a thread H and a temporal capability Q, with which the core goes on; H must be idle.
abbrev pub switch_rule : State → ℕ → ℕ → Rule
switch_rule s h q =
    Name h (to_use (only Kind.Thread)) λ thread.
    Name q (to_use (only Kind.Tcap)) λ tcap.
    switch_to thread tcap.frame (thread_in (s.frame thread.frame)).runs_on
