-- In every state that a run reaches, budgets and the ticks that are spent and were not given back sum to the grants.
use Rattle.found_stays.specs.kernel_rules.proofs as low
use low.{◌≡◌, ℕ, zero, suc, ◌+◌, ◌-◌, ◌*◌, ◌<◌, ◌≤◌, Bool, refl, sym, ◌∙◌, ap, arith, ◌==◌, ltb as nat_lt, List, [], ◌∷◌, length, slice_get}
use low.{fold, sum_by, false≢true, lt-ltb, Setting, IsSetting, Grant, Call, Tick, Reply, Frame, Limits, outstanding, tcap_in, start}
use low.{start_frame, granted, sum_below, change_of, changed, owed_by, state_by, MayReply, Enters, Decides, Returns, after, is_open, ticks}
use Rattle.found_stays.specs.kernel_invariant.proofs.{sum_same, after_ok, IsOpen, choose, past_three, opened, open_is, limits_stay}
use Rattle.found_stays.specs.kernel_rules.specs.State.{State}
use Rattle.found_stays.specs.kernel_invariant.proofs.SoundStart.{if_not, not_below}
use Rattle.kernel_laws.specs.Laws.{grants_sum, TicksKept, NoneGivenBack}
use Rattle.kernel_laws.proofs.{Back.back_sums, Back.within_spent, Ticks.same_spent, Ticks.edits_ticks}

-- A sum over two stretches.
sum_split : (f : ℕ → ℕ) (a b : ℕ) → sum_below f (a + b) ≡ sum_below f a + sum_below (λ i. f (a + i)) b
unfolding sum_below
sum_split f a zero = let e : a + 0 ≡ a = omega arith in ap (sum_below f) e ∙ omega arith
sum_split f a (suc b) =
    let e : a + suc b ≡ suc (a + b) = omega arith in
    let p : sum_below f (a + suc b) ≡ sum_below f (a + b) + f (a + b) = ap (sum_below f) e in
    let q = sum_split f a b in
    omega (arith, p, q)

sum_none : (f : ℕ → ℕ) (n : ℕ) → ((i : ℕ) → i < n → f i ≡ 0) → sum_below f n ≡ 0
unfolding sum_below
sum_none f zero none = refl
sum_none f (suc n) none = let p = sum_none f n (λ i h. none i (omega arith)) in let q = none n (omega arith) in omega (arith, p, q)

sum_zero : (f : ℕ → ℕ) → sum_below f 0 ≡ 0
unfolding sum_below
sum_zero f = refl

sum_one_term : (f : ℕ → ℕ) → sum_below f 1 ≡ f 0
unfolding sum_below
sum_one_term f = omega arith

grants_from : (gs : List Grant) (a : ℕ) → fold (λ a g. a + g.budget) a gs ≡ a + sum_by (λ g. g.budget) gs
grants_from [] a = omega arith
grants_from (g ∷ gs) a =
    let p = grants_from gs (a + g.budget) in
    let q = grants_from gs (0 + g.budget) in
    omega (arith, p, q)

-- The budgets that the grants of a list give, one after another.
grant_sum : (gs : List Grant) → sum_below (λ i. (granted (slice_get gs i)).budget) (length gs) ≡ sum_by (λ g. g.budget) gs
grant_sum [] = sum_zero (λ i. (granted (slice_get [] i)).budget)
grant_sum (g ∷ gs) =
    let one : 1 + length gs ≡ suc (length gs) = omega arith in
    let p = sum_split (λ i. (granted (slice_get (g ∷ gs) i)).budget) 1 (length gs) in
    let q = sum_one_term (λ i. (granted (slice_get (g ∷ gs) i)).budget) in
    let r = sum_same (λ i. (granted (slice_get gs i)).budget) (λ i. (granted (slice_get (g ∷ gs) (1 + i))).budget) (length gs)
    (λ i h. ap (λ n. (granted (slice_get (g ∷ gs) n)).budget) (next i)) in
    let t = grant_sum gs in
    let u = grants_from gs (0 + g.budget) in
    let w = ap (sum_below (λ i. (granted (slice_get (g ∷ gs) i)).budget)) one in
    omega (arith, p, q, r, t, u, w)
  where
    next : (i : ℕ) → 1 + i ≡ suc i
    next i = omega arith

-- The budgets of the start: those of the temporal capabilities alone.
abbrev budget_of : Setting → ℕ → ℕ
budget_of setting f = (tcap_in (start_frame setting f)).budget

low_none : (setting : Setting) (f : ℕ) → f < 4 + setting.cores → budget_of setting f ≡ 0
low_none setting f below =
    choose P (f == 0) _ _ (λ e. refl) λ e.
    choose P (f == 1) _ _ (λ e. refl) λ e.
    choose P (f == 2) _ _ (λ e. refl) λ e.
    choose P (f == 3) _ _ (λ e. refl) λ e.
    choose P (nat_lt f (4 + setting.cores)) _ _ (λ e. refl) λ e. absurd (false≢true (sym e ∙ lt-ltb f (4 + setting.cores) below))
  where
    P : Frame → Type 0
    P x = (tcap_in x).budget ≡ 0

tcap_budget : (setting : Setting) (i : ℕ) → i < setting.cores
    → budget_of setting (4 + setting.cores + i) ≡ (granted (slice_get setting.grants i)).budget
tcap_budget setting i below =
    let f : ℕ = 4 + setting.cores + i in
    let same : f - 4 - setting.cores ≡ i = omega arith in
    ap (λ x. (tcap_in x).budget) (past_three setting f (omega arith)
    ∙ if_not (nat_lt f (4 + setting.cores)) _ _ (not_below f (4 + setting.cores) (omega arith)))
    ∙ choose (λ x. (tcap_in x).budget ≡ (granted (slice_get setting.grants i)).budget) (nat_lt f (4 + 2 * setting.cores)) _ _
    (λ e. ap (λ n. (granted (slice_get setting.grants n)).budget) same)
    (λ e. absurd (false≢true (sym e ∙ lt-ltb f (4 + 2 * setting.cores) (omega (arith, below)))))

high_none : (setting : Setting) (f : ℕ) → 4 + 2 * setting.cores ≤ f → budget_of setting f ≡ 0
high_none setting f past =
    ap (λ x. (tcap_in x).budget) (past_three setting f (omega (arith, past))
    ∙ if_not (nat_lt f (4 + setting.cores)) _ _ (not_below f (4 + setting.cores) (omega (arith, past)))
    ∙ if_not (nat_lt f (4 + 2 * setting.cores)) _ _ (not_below f (4 + 2 * setting.cores) past))

start_ticks : (setting : Setting) → IsSetting setting → ticks (start setting) ≡ grants_sum setting
start_ticks setting lim =
    let n : ℕ = setting.cores in
    let rest : ℕ = setting.frames - (4 + 2 * n) in
    let least = lim.least_frames in
    let whole : setting.frames ≡ ((4 + n) + n) + rest = omega (arith, least) in
    let a = ap (sum_below (budget_of setting)) whole in
    let b = sum_split (budget_of setting) ((4 + n) + n) rest in
    let c = sum_split (budget_of setting) (4 + n) n in
    let d = sum_none (budget_of setting) (4 + n) (λ f h. low_none setting f h) in
    let e = sum_same (λ i. (granted (slice_get setting.grants i)).budget)
    (λ i. budget_of setting ((4 + n) + i)) n (λ i h. tcap_budget setting i h) in
    let f = sum_none (λ i. budget_of setting (((4 + n) + n) + i)) rest (λ i h. high_none setting (((4 + n) + n) + i) (omega arith)) in
    let g = grant_sum setting.grants in
    let k = ap (sum_below (λ i. (granted (slice_get setting.grants i)).budget)) lim.granted in
    let m = sum_none (λ c. outstanding ((start setting).core c)) n (λ c h. refl) in
    omega (arith, a, b, c, d, e, f, g, k, m)

owed_ticks : (s : State) (c : ℕ) (call : Call) → ticks (owed_by s c call) ≡ ticks s
owed_ticks s c (Tick n) = same_spent s c _ refl
owed_ticks s c _ = refl

decided_ticks : (s : State) (o : ℕ → Bool) (c : ℕ) (call : Call) (r : Reply)
    → IsOpen s o c → (s.core c).back ≤ (s.core c).spent → MayReply s c call r → ticks (state_by s c call r) ≡ ticks s
decided_ticks s o c call (Reply.Ok v) h within may = same_spent (changed s (change_of s c call)) c _ refl
    ∙ after_ok s c call v (λ t. ticks t ≡ ticks s) may (λ es e. edits_ticks c s es (e.known o h) within)
decided_ticks s o c call Reply.CallsSpent h within may = refl
decided_ticks s o c call Reply.Raced h within may = same_spent (owed_by s c call) c _ refl ∙ owed_ticks s c call
decided_ticks s o c call (Reply.Busy e) h within may = same_spent (owed_by s c call) c _ refl ∙ owed_ticks s c call
decided_ticks s o c call _ h within may = same_spent s c _ refl

pub ticks_kept : TicksKept
ticks_kept setting lim [] run = start_ticks setting lim
ticks_kept setting lim (Enters c call ∷ events) run = same_spent (after setting events) c _ refl ∙ ticks_kept setting lim events run.0
ticks_kept setting lim (Returns c ∷ events) run = same_spent (after setting events) c _ refl ∙ ticks_kept setting lim events run.0
ticks_kept setting lim (Decides c call r ∷ events) run =
    decided_ticks (after setting events) (opened events) c call r
    (open_is setting lim events c run.0 (ap is_open run.1.is_open)) (within_spent setting lim events run.0 c) run.1.permitted
    ∙ ticks_kept setting lim events run.0

-- Where none are given back, all that is spent is outstanding.
pub none_given_back : NoneGivenBack
none_given_back setting lim events run none =
    let s : State = after setting events in
    let cores : s.limits.cores ≡ setting.cores = ap (λ (l : Limits). l.cores) (limits_stay setting events) in
    let a = sum_same (λ c. (s.core c).spent) (λ c. outstanding (s.core c)) s.limits.cores (λ c below.
    let back = (back_sums setting lim events run c).is in
    let zero = none c (omega (arith, below, cores)) in
    omega (arith, back, zero)) in
    let b = ticks_kept setting lim events run in
    omega (arith, a, b)
