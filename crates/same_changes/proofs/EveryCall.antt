-- Every call comes to the same on a region in two states that are one there, one of them reached, and so for the machine.
use Rattle.kernel_laws.proofs.{◌≡◌, ℕ, ◌-◌, ◌^◌, ◌≤◌, sym, ap, subst, List, lt-ltb, Setting, IsSetting, InLimits, Call}
use Rattle.kernel_laws.proofs.{Retype, Make as make_call, Map, Touch, Gate, Kill, Ret, Switch, Tick, Transfer}
use Rattle.kernel_laws.proofs.{Delegate, Test, Replenish, Limits, State, Judged, Refused, Found, Change, acts, rule_of, change_of}
use Rattle.kernel_laws.proofs.{Event, after, Open, is_open, phase_of, IsRun, IfFound, opened, limits_stay, open_limits, runs_sound}
use Rattle.same_changes.specs.{whole, NamesIn, AgreeOutcome}
use Rattle.kernel_laws.specs.kernel_rules.proofs.{Make, Waits, found_waits}
use Rattle.kernel_laws.specs.spk_nums.specs.{CallLimits.MakeInLimits, declared.calls.Call.TheVariants.Call as call_gate}
use Rattle.kernel_laws.proofs.{NodesLaw.nodes_hold_what_fits, RangesLaw.ranges_hold}
use Rattle.same_changes.specs.{Same.SameChanges, Same.SameActs, Same.StaysInRange, Region.Region, Region.ChangesAgree}
use Rattle.same_changes.proofs.Reaching.{Twins, TwinsOn, on_machine, table_at, pages_at, root_within}
use Rattle.same_changes.proofs.Alike.{SameRule, outcome_same, same_outcome}
use Rattle.same_changes.proofs.CapabilityRules.{make_same}
use Rattle.same_changes.proofs.MemoryRules.{retype_same, map_same, touch_same}
use Rattle.same_changes.proofs.TimeRules.{acts_agree, gate_same, kill_same, call_same, ret_same, switch_same, tick_same, transfer_same}
use Rattle.same_changes.proofs.TimeRules.{delegate_same, test_same, replenish_same}
use Rattle.{kernel_laws.specs.kernel_invariant.proofs.Edited.rule_edits, seq_lookups.specs.seq_state.specs.Representation.SameState}
use Rattle.{same_changes.proofs.InRange.in_range}

-- ---- on a region

module _ {r : Region} {t s : State} {o : ℕ → _} {c : ℕ} (w : TwinsOn r t s o c) where
  pub rule_same : (call : Call) → NamesIn r call → SameRule r s c (rule_of t c call) (rule_of s c call)
  rule_same (Retype p f k) names = retype_same w p f k
  rule_same (make_call what p f x b) names = make_same w what p f x b names
  rule_same (Map m v p f flags) names = map_same w m v p f flags
  rule_same (Touch v) names = touch_same w v
  rule_same (Gate k x b) names = gate_same w k x b
  rule_same (Kill k) names = kill_same w k
  rule_same (call_gate g) names = call_same w g
  rule_same Ret names = ret_same w
  rule_same (Switch h q) names = switch_same w h q
  rule_same (Tick n) names = tick_same w n
  rule_same (Transfer a b m) names = transfer_same w a b m
  rule_same (Delegate a b m) names = delegate_same w a b m
  rule_same (Test a b) names = test_same w a b
  rule_same (Replenish a m) names = replenish_same w a m
  rule_same _ names = search (table_at w, pages_at w, root_within w)

  -- Whether the core may make the call is the same, and so is its outcome on the region.
  pub call_agrees : (call : Call) → NamesIn r call
      → (acts t c call ≡ acts s c call) × AgreeOutcome r (change_of t c call) (change_of s c call)
  call_agrees call names =
      (acts_agree w call, outcome_same w call (rule_of t c call) (rule_of s c call) (rule_same call names) (rule_edits s c call))

pub changes_agree : ChangesAgree
changes_agree setting is events run c call opens w within names t agree referred = call_agrees (record {
  sound = runs_sound setting is events run;
  is_open = ap is_open opens;
  within = within;
  agree = agree;
  referred = referred;
}) call names

-- ---- the whole machine

-- A call within its limits names a liveness number of the machine.
make_names : (limits : Limits) (what : Make) (p f x b : ℕ) → MakeInLimits what → NamesIn (whole limits) (make_call what p f x b)
make_names limits (Make.Comp table pages live) p f x b fits = lt-ltb live 64 fits
make_names limits Make.Table p f x b fits = tt
make_names limits Make.Leaf p f x b fits = tt
make_names limits Make.Pages p f x b fits = tt
make_names limits Make.Pleaf p f x b fits = tt
make_names limits (Make.Thread comp) p f x b fits = tt
make_names limits (Make.Tcap sched quality) p f x b fits = tt

names_whole : (limits : Limits) (call : Call) → InLimits call → NamesIn (whole limits) call
names_whole limits (make_call what p f x b) fits = make_names limits what p f x b fits
names_whole limits _ fits = tt

-- A call leaves the limits as they are.
limits_after : (s : State) (c : ℕ) (call : Call) → IfFound (change_of s c call) (λ change. change.next.limits ≡ s.limits)
limits_after s c call = of (change_of s c call) (found_waits s c call)
  where
    of : (j : Judged Change) → IfFound j (λ change. Waits s change.next) → IfFound j (λ change. change.next.limits ≡ s.limits)
    of (Refused q) h = tt
    of (Found change) h = h.limits

-- A reached state with an open call, and a state that is one with it.
pub twins : (setting : Setting) → IsSetting setting → (events : List Event) → IsRun setting events → (c : ℕ) (call : Call)
    → phase_of events c ≡ Open call
    → (t : State) → SameState t (after setting events) → Twins t (after setting events) (opened events) c
twins setting is events run c call opens t same = record {
  sound = runs_sound setting is events run;
  ranges = ranges_hold setting is events run;
  is_open = ap is_open opens;
  same = same;
}

pub changes_same : SameChanges
changes_same setting is events run c call opens t same =
    let s = after setting events in
    same_outcome s.limits (change_of t c call) (change_of s c call) (limits_after s c call)
    (call_agrees (on_machine (twins setting is events run c call opens t same)) call
    (names_whole s.limits call (open_limits setting events c call run opens))).1

pub same_acts : SameActs
same_acts setting is events run c call opens t same =
    acts_agree (on_machine (twins setting is events run c call opens t same)) call

pub stays_in_range : StaysInRange
stays_in_range setting is events run c call opens t same =
    in_range (twins setting is events run c call opens t same)
    (subst (λ (l : Limits). l.calls ≤ 2 ^ 40 - 1) (sym (limits_stay setting events)) is.most_calls)
    (λ v k. (nodes_hold_what_fits setting is events run).pages c v k (ap is_open opens))
    call (open_limits setting events c call run opens)
