-- The acts of the calls that change budgets: they charge ticks, move them between two temporal capabilities, or give them back.
use Rattle.kept_facts.proofs as low
use low.{◌≡◌, ℕ, Option, Some, true, false, List, sym, ◌∙◌, ap, false≢true, Setting, Call, Capability, Trace, Plan, put_by}
use low.{AtStore, changes_budgets, KnowsAct, Tick as tick_act, Share as share_act, Refill as refill_act, Remove as remove_act}
use low.{Untyping, Making, CompMaking, Invoking, UntypesBy}
use Rattle.kept_facts.specs.act_states.specs.{removes_by, declared.work.Act.Act as ActOf, declared.typings.Typing.Typing}
use Rattle.kept_facts.specs.core_invariant.specs.{TypesBy, MakesBy, Acting.MakesCompBy, Reaching.is_mapping, OutsideBy, KillsBy}
use Rattle.kept_facts.specs.core_invariant.specs.{InvokesBy, SwitchesBy}

abbrev pub IsBudgetAct : ActOf → Type 0
IsBudgetAct (tick_act charge) = Unit {0}
IsBudgetAct (share_act p) = Unit {0}
IsBudgetAct (refill_act r) = Unit {0}
IsBudgetAct act = ⊥

puts_none : (call : Call) (ks : List Capability) (read : Option ℕ) (k : Capability) → changes_budgets call ≡ true
    → put_by call ks read ≡ Some k → ⊥
puts_none (Call.Tick n) ks read k budgets h = absurd (cc)
puts_none (Call.Replenish x m) ks read k budgets h = absurd (cc)
puts_none (Call.Transfer x y m) ks read k budgets h = absurd (cc)
puts_none (Call.Delegate x y m) ks read k budgets h = absurd (cc)
puts_none (Call.Test x y) ks read k budgets h = absurd (cc)
puts_none call ks read k budgets h = false≢true budgets

removes_none : (call : Call) → changes_budgets call ≡ true → removes_by call ≡ true → ⊥
removes_none (Call.Remove t b) budgets h = false≢true budgets
removes_none (Call.Shrink t i) budgets h = false≢true budgets
removes_none (Call.Unmap p v) budgets h = false≢true budgets
removes_none call budgets h = false≢true h

types_none : (call : Call) (ks : List Capability) (y : Typing) → changes_budgets call ≡ true → TypesBy call ks y → ⊥
types_none (Call.Retype r f k) ks y budgets h = false≢true budgets
types_none call ks y budgets h = h

untypes_none : (call : Call) (ks : List Capability) (m : Untyping) → changes_budgets call ≡ true → UntypesBy call ks m → ⊥
untypes_none (Call.Retype r f k) ks m budgets h = false≢true budgets
untypes_none call ks m budgets h = h

makes_none : (call : Call) (ks : List Capability) (m : Making) → changes_budgets call ≡ true → MakesBy call ks m → ⊥
makes_none (Call.Make what r f u b) ks m budgets h = false≢true budgets
makes_none call ks m budgets h = h

comps_none : (call : Call) (ks : List Capability) (m : CompMaking) → changes_budgets call ≡ true → MakesCompBy call ks m → ⊥
comps_none (Call.Make what r f u b) ks m budgets h = false≢true budgets
comps_none call ks m budgets h = h

maps_none : (call : Call) → changes_budgets call ≡ true → is_mapping call ≡ true → ⊥
maps_none (Call.Map p v r f w) budgets h = false≢true budgets
maps_none call budgets h = false≢true h

outside_none : (call : Call) (ks : List Capability) → changes_budgets call ≡ true → OutsideBy call ks → ⊥
outside_none (Call.Tick n) ks budgets h = h
outside_none (Call.Replenish x m) ks budgets h = h
outside_none (Call.Transfer x y m) ks budgets h = h
outside_none (Call.Delegate x y m) ks budgets h = h
outside_none (Call.Test x y) ks budgets h = h
outside_none call ks budgets h = false≢true budgets

kills_none : (call : Call) (ks : List Capability) (f : ℕ) → changes_budgets call ≡ true → KillsBy call ks f → ⊥
kills_none (Call.Kill name) ks f budgets h = false≢true budgets
kills_none call ks f budgets h = h

invokes_none : (call : Call) (ks : List Capability) (m : Invoking) → changes_budgets call ≡ true → InvokesBy call ks m → ⊥
invokes_none (Call.Call g) ks m budgets h = false≢true budgets
invokes_none call ks m budgets h = h

switches_none : (call : Call) (ks : List Capability) (f q : ℕ) → changes_budgets call ≡ true → SwitchesBy call ks f q → ⊥
switches_none (Call.Switch h q) ks f g budgets is = false≢true budgets
switches_none call ks f g budgets is = is

-- A call that is another, which changes none.
is_none : (call x : Call) → changes_budgets call ≡ true → call ≡ x → changes_budgets x ≡ false → ⊥
is_none call x budgets same none = false≢true (sym none ∙ sym (ap changes_budgets same) ∙ budgets)

module _ (setup : Setting) (t : Trace) (c : ℕ) (call : Call) (plan : Plan) (ks : List Capability) (upto : ℕ)
    (budgets : changes_budgets call ≡ true) where
  pub budget_acts : (act : ActOf) → KnowsAct setup t c call plan ks upto act → IsBudgetAct act
  budget_acts (remove_act (AtStore n i x) cap) has = has
  budget_acts _ has =
      search (
        puts_none call ks,
        removes_none call,
        types_none call ks,
        untypes_none call ks,
        makes_none call ks,
        comps_none call ks,
        maps_none call,
        outside_none call ks,
        kills_none call ks,
        invokes_none call ks,
        switches_none call ks,
        is_none call,
      )
