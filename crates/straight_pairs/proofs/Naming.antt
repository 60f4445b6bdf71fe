-- What comes next of a call that names two temporal capabilities.
use Rattle.std.proofs.Common.{◌≡◌, ◌≤◌, ◌==◌, ◌+◌, ℕ, true, false, List, [], ◌∷◌, Option, Some, None, refl}
use Rattle.std.proofs.lemmas.Bool.{le-leb}
use Rattle.spk_nums.specs.Capability.{Capability}
use Rattle.spk_nums.specs.declared.calls.Call.{Call}
use Rattle.spk_nums.specs.declared.calls.Call.TheVariants.{Transfer, Delegate, Test}
use Rattle.spk_nums.specs.declared.kinds.Kind.{Kind}
use Rattle.spk_nums.specs.declared.replies.Reply.TheVariants.{Same}
use Rattle.straight_looks.specs.step_starts.specs as low
use low.kernel_rules.specs.Access.{Want}
use low.call_plans.specs.After.{NextName, next_of, with_found}
use low.call_plans.specs.GoesBy.{want_of}
use low.call_plans.specs.Plans.{pushed}
use low.call_plans.specs.PlanOf.{of_kind, plan_for}
use low.act_states.specs.Shares.{shares_if, sharing}
use low.act_states.specs.declared.own.Own.{Own}
use low.act_states.specs.declared.work.Tail.TheVariants as tail
use low.stage_look.specs.declared.look.Look.TheVariants.{AtRoot}
use low.stage_tcap.specs.declared.pair.Pair.{Pair}
use low.stage_tcap.specs.declared.pair.PairWork.{PairWork}
use low.stage_tcap.specs.declared.pair.PairWork.TheVariants as work
use low.call_stages.specs.View.{Core}
use low.call_stages.specs.Cores.{own_decided}
use low.call_stages.specs.Fits.{IsCore}
use low.call_stages.specs.Steps.{next_by}
use low.call_stages.specs.declared.stages.ActiveCall.{ActiveCall}
use low.call_stages.specs.declared.stages.Stage.TheVariants.{Decided, Enter}
use Rattle.straight_looks.specs.Outcomes.{IsStanding}
use Rattle.straight_looks.specs.Standing.{going, looks, onward}
use Rattle.straight_pairs.specs.Sharing.{IsSharing, NamesTwo}
use Rattle.straight_pairs.specs.declared.names.Two.{Two}

-- the calls that name two
transfers : (a b m : ℕ) → NamesTwo (Transfer a b m) (record { a = a; b = b; what = work.Transfer m })
transfers a b m = record { living = refl; first = refl; second = λ j. refl; begins = λ own j k. refl }

delegates : (a b m : ℕ) → NamesTwo (Delegate a b m) (record { a = a; b = b; what = work.Delegate m })
delegates a b m = record { living = refl; first = refl; second = λ j. refl; begins = λ own j k. refl }

tests : (a b : ℕ) → NamesTwo (Test a b) (record { a = a; b = b; what = work.Test })
tests a b = record { living = refl; first = refl; second = λ j. refl; begins = λ own j k. refl }

pub transfer_two : (call : Call) (a b m : ℕ) → call ≡ Transfer a b m → NamesTwo call (record { a = a; b = b; what = work.Transfer m })
transfer_two call a b m is = rw is (transfers a b m)

pub delegate_two : (call : Call) (a b m : ℕ) → call ≡ Delegate a b m → NamesTwo call (record { a = a; b = b; what = work.Delegate m })
delegate_two call a b m is = rw is (delegates a b m)

pub test_two : (call : Call) (a b : ℕ) → call ≡ Test a b → NamesTwo call (record { a = a; b = b; what = work.Test })
test_two call a b is = rw is (tests a b)

-- a name is looked up
named_at : (own : Own) (call : Call) (steps number : ℕ) (want : Want) (ks : List Capability)
    → next_of (plan_for call) ks ≡ NextName number want → number ≤ 4095
    → onward own call steps ks ≡ looks own call (steps + 1) (AtRoot own.table number) ks
unfolding onward
named_at own call steps number want ks next small = rw (next, le-leb number 4095 small) refl

-- the first
pub first_next : (call : Call) (t : Two) (ks : List Capability) → NamesTwo call t → ks ≡ []
    → next_of (plan_for call) ks ≡ NextName t.a (want_of (with_found [] ks) (of_kind Kind.Tcap t.a))
first_next call t ks two none = rw none two.first

pub first_at : (own : Own) (call : Call) (t : Two) (ks : List Capability) (c : Core) → NamesTwo call t → t.a ≤ 4095 → ks ≡ []
    → c ≡ onward own call 2 [] → c ≡ looks own call 3 (AtRoot own.table t.a) ks
first_at own call t ks c two small none on = rw (on, none) (named_at own call 2 t.a (want_of [] (of_kind Kind.Tcap t.a)) [] two.first small)

-- the second
pub second_next : (call : Call) (t : Two) (ks js : List Capability) (j : Capability) → NamesTwo call t → ks ≡ [] → js ≡ pushed ks j
    → next_of (plan_for call) js ≡ NextName t.b (want_of (with_found [] js) (of_kind Kind.Tcap t.b))
second_next call t ks js j two none first = rw (first, none) (two.second j)

pub second_at : (own : Own) (call : Call) (t : Two) (ks js : List Capability) (j : Capability) (c : Core) → NamesTwo call t → t.b ≤ 4095
    → ks ≡ [] → js ≡ pushed ks j → c ≡ onward own call 4 (pushed ks j) → c ≡ looks own call 5 (AtRoot own.table t.b) js
second_at own call t ks js j c two small none first on =
    rw (on, first, none) (named_at own call 4 t.b (want_of (with_found [] (j ∷ [])) (of_kind Kind.Tcap t.b)) (j ∷ []) (two.second j) small)

-- what they have led to
pub begins_with : (own : Own) (call : Call) (t : Two) (ks js is : List Capability) (j k : Capability) → NamesTwo call t
    → ks ≡ [] → js ≡ pushed ks j → is ≡ pushed js k
    → next_by own (going call 6 Enter is []) ≡ shares_if (j.frame == k.frame) own.core t.what j.frame k.frame
begins_with own call t ks js is j k two none first second = rw (second, first, none) (two.begins own j k)

pub found_on : (own : Own) (call : Call) (js is : List Capability) (k : Capability) (c : Core) → is ≡ pushed js k
    → c ≡ onward own call 6 (pushed js k) → c ≡ onward own call 6 is
found_on own call js is k c second on = rw (on, second) refl

-- they are one object
pub same_stands : (own own' : Own) (call : Call) (ks : List Capability) (f g : ℕ) (what : PairWork) (active : Option ActiveCall) (c : Core)
    → c ≡ onward own call 6 ks → IsCore c → next_by own (going call 6 Enter ks []) ≡ shares_if (f == g) own.core what f g
    → (f == g) ≡ true → own' ≡ own_decided own Same → active ≡ Some (going call 7 (Decided Same None tail.Nothing) ks [])
    → IsStanding own' active c
unfolding onward
same_stands own own' call ks f g what active c on fits begins same has stands = record {
  core = rw (on, begins, same, has, stands) refl;
  fits = fits;
  in_call = rw stands refl;
}

-- or two
pub shares : (own : Own) (call : Call) (ks : List Capability) (f g : ℕ) (what : PairWork) (p : Pair) (c : Core)
    → c ≡ onward own call 6 ks → IsCore c → next_by own (going call 6 Enter ks []) ≡ shares_if (f == g) own.core what f g
    → (f == g) ≡ false → p ≡ sharing own.core what f g → IsSharing own call 7 ks p c
unfolding onward
shares own call ks f g what p c on fits begins differ is = record { core = rw (on, begins, differ, is) refl; fits = fits }
