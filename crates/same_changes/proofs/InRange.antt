-- What an open call finds is in range, in every state that is one for the machine with a reached one.
use Rattle.kernel_laws.proofs.{◌≡◌, ℕ, ◌+◌, ◌-◌, ◌≤◌, ◌^◌, refl, sym, ◌∙◌, ap, subst, arith, IsTrue, false≢true, Capability, InLimits, Call}
use Rattle.kernel_laws.proofs.{Retype, Make as make_call, Map, Touch, Gate}
use Rattle.kernel_laws.proofs.{Tick, Transfer, Delegate, Part, Replenish, CompFields, Comp, Frame, Kernel, Liveness, Unused}
use Rattle.kernel_laws.proofs.{Live, outstanding, Dead, Core, Limits, State, comp_in, tcap_in, comp_of, to_use, only, Judged, Refused}
use Rattle.kernel_laws.proofs.{Found, named, mapped, epoch_of, fits, EndsWithin, FrameInRange, only_is, named_good, named_fit, Kind}
use Rattle.kernel_laws.specs.kernel_rules.specs.{Make, to_part, NumberInRange}
use Rattle.kernel_laws.specs.spk_nums.specs.{CallLimits.MakeInLimits}
use Rattle.seq_lookups.specs.Ranges.{WhereFound, RangeEnds, EpochFits, PageFound, HasEpoch, BudgetsFit, TicksFit, WholeEnds, BackFits}
use Rattle.same_changes.proofs.Reaching.{Twins, core_same, core_below, tcap_frame_same, comp_same, named_same, mapped_same, pages_good}
use Rattle.{seq_lookups.specs.Ranges.IsInRange, same_changes.proofs.TimeRules.named_frame}

-- What holds of what is found, wherever it is found.
wherever : {A : Type 0} (j : Judged A) (P : A → Type 0) → ((x : A) → j ≡ Found x → P x) → WhereFound j P
wherever (Refused r) P h = tt
wherever (Found x) P h = h x refl

range_ends : {t s : State} {o : ℕ → _} {c : ℕ} → Twins t s o c → (r : ℕ) → RangeEnds t c r
range_ends {t} {s} {o} {c} w r = wherever (named t c r (to_use (only Kind.Range))) _ (λ k is.
    let good = named_good s o c r (to_use (only Kind.Range)) k w.sound w.is_open (sym (named_same w r (to_use (only Kind.Range))) ∙ is) in
    let ends = subst (λ j. EndsWithin j k.frame k.arg s.limits.frames) (only_is Kind.Range k.kind good.1) good.0.within in
    subst (λ (l : Limits). k.frame + k.arg ≤ l.frames) (sym w.same.limits) ends)

whole_ends : {t s : State} {o : ℕ → _} {c : ℕ} → Twins t s o c → (r : ℕ) → WholeEnds t c r
whole_ends {t} {s} {o} {c} w r = wherever (named t c r (to_part (only Kind.Range))) _ (λ k is.
    let good = named_good s o c r (to_part (only Kind.Range)) k w.sound w.is_open (sym (named_same w r (to_part (only Kind.Range))) ∙ is) in
    let ends = subst (λ j. EndsWithin j k.frame k.arg s.limits.frames) (only_is Kind.Range k.kind good.1) good.0.within in
    subst (λ (l : Limits). k.frame + k.arg ≤ l.frames) (sym w.same.limits) ends)

epoch_most : (epochs : ℕ) (n : Liveness) → NumberInRange epochs n → epoch_of n ≤ epochs
epoch_most epochs Unused h = omega arith
epoch_most epochs (Live e f) h = h.most
epoch_most epochs (Dead e) h = h.most

epoch_fits : {t s : State} {o : ℕ → _} {c : ℕ} → Twins t s o c → (what : Make) → MakeInLimits what → EpochFits t what
epoch_fits {t} {s} w (Make.Comp table pages live) small =
    let number = w.same.number live small in
    let most = epoch_most s.limits.epochs (s.number live) (w.ranges.numbers live) in
    subst (λ (l : Limits). epoch_of (t.number live) ≤ l.epochs) (sym w.same.limits)
    (subst (λ n. epoch_of n ≤ s.limits.epochs) (sym number) most)
epoch_fits w Make.Table small = tt
epoch_fits w Make.Leaf small = tt
epoch_fits w Make.Pages small = tt
epoch_fits w Make.Pleaf small = tt
epoch_fits w (Make.Thread comp) small = tt
epoch_fits w (Make.Tcap sched quality) small = tt

comp_epoch : (epochs : ℕ) (x : Frame) → IsTrue (fits Kind.Comp x) → FrameInRange epochs x → 1 ≤ (comp_in x).epoch
comp_epoch epochs (Kernel (Comp k)) fit range = range.epoch.least
comp_epoch epochs _ fit range = absurd (false≢true fit)

has_epoch : {t s : State} {o : ℕ → _} {c : ℕ} → Twins t s o c → (n : ℕ) → HasEpoch t c n
has_epoch {t} {s} {o} {c} w n = wherever (named t c n (to_use (only Kind.Comp))) _ (λ k is.
    let there = sym (named_same w n (to_use (only Kind.Comp))) ∙ is in
    subst (λ x. 1 ≤ (comp_in x).epoch) (sym (named_frame w n Kind.Comp k refl there))
    (comp_epoch s.limits.epochs (s.frame k.frame) (named_fit s o c n Kind.Comp k w.sound w.is_open there) (w.ranges.frames k.frame)))

budgets_fit : {t s : State} {o : ℕ → _} {c : ℕ} → Twins t s o c → (a b : ℕ) → BudgetsFit t c a b
budgets_fit {t} {s} {o} {c} w a b = wherever (named t c a (to_use (only Kind.Tcap))) _
    (λ x is. wherever (named t c b (to_use (only Kind.Tcap))) _ (λ y is_other apart.
    let one = ap (λ f. (tcap_in f).budget) (named_frame w a Kind.Tcap x refl (sym (named_same w a (to_use (only Kind.Tcap))) ∙ is)) in
    let other = ap (λ f. (tcap_in f).budget) (named_frame w b Kind.Tcap y refl
    (sym (named_same w b (to_use (only Kind.Tcap))) ∙ is_other)) in
    omega (arith, one, other, w.ranges.budgets x.frame y.frame apart)))

ticks_fit : {t s : State} {o : ℕ → _} {c : ℕ} → Twins t s o c → s.limits.calls ≤ 2 ^ 40 - 1 → (n : ℕ) → n ≤ 1000000 → TicksFit t c n
ticks_fit {t} {s} {o} {c} w calls n small =
    let range = w.ranges.cores c (core_below w) in
    let core = core_same w in
    let owed = ap (λ (k : Core). k.owed) core in
    let spent = ap (λ (k : Core). k.spent) core in
    let budget = ap (λ f. (tcap_in f).budget) (tcap_frame_same w) in
    record {
      owed = omega (arith, owed, range.charged, range.counted, calls, small);
      spent = omega (arith, spent, budget, range.charged, range.counted, calls, w.ranges.spending (s.core c).tcap c (core_below w));
    }

back_fits : {t s : State} {o : ℕ → _} {c : ℕ} → Twins t s o c → s.limits.calls ≤ 2 ^ 40 - 1 → (a : ℕ) → BackFits t c a
back_fits {t} {s} {o} {c} w calls a =
    let range = w.ranges.cores c (core_below w) in
    let core = core_same w in
    let spent = ap (λ (k : Core). k.spent) core in
    let back = ap (λ (k : Core). k.back) core in
    record {
      back = omega (arith, spent, back, range.back);
      spent = omega (arith, spent, range.charged, range.counted, calls);
      budget = wherever (named t c a (to_use (only Kind.Tcap))) _ (λ x is.
          let one = ap (λ f. (tcap_in f).budget) (named_frame w a Kind.Tcap x refl (sym (named_same w a (to_use (only Kind.Tcap))) ∙ is)) in
          let left = ap (λ (k : Core). outstanding k) core in
          omega (arith, one, left, w.ranges.spending x.frame c (core_below w)));
    }

-- What is mapped is a page, where it is so in the reached state.
page_found : {t s : State} {o : ℕ → _} {c : ℕ} → Twins t s o c
    → ((v : ℕ) (k : Capability) → mapped s c (comp_of s c).pages v ≡ Found k → k.kind ≡ Kind.Page)
    → (v : ℕ) → PageFound t c v
page_found {t} {s} {o} {c} w pages v = wherever (mapped t c (comp_of t c).pages v) _ (λ k is.
    let there = sym (ap (λ (m : CompFields). mapped t c m.pages v) (comp_same w) ∙ mapped_same w (comp_of s c).pages v (pages_good w))
    ∙ is in
    pages v k there)

pub in_range : {t s : State} {o : ℕ → _} {c : ℕ} → Twins t s o c → s.limits.calls ≤ 2 ^ 40 - 1
    → ((v : ℕ) (k : Capability) → mapped s c (comp_of s c).pages v ≡ Found k → k.kind ≡ Kind.Page)
    → (call : Call) → InLimits call → IsInRange t c call
in_range w calls pages (make_call what range frame x b) fits = (range_ends w range, epoch_fits w what fits)
in_range w calls pages _ fits =
    search (range_ends w, whole_ends w, has_epoch w, ticks_fit w calls, budgets_fit w, back_fits w calls, page_found w pages)
