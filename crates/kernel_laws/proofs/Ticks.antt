-- Every edit keeps the sum of budgets and of the ticks that are spent and were not given back.
use Rattle.found_stays.specs.kernel_rules.proofs as low
use low.{◌≡◌, ◌≢◌, ℕ, ◌+◌, ◌-◌, ◌<◌, ◌≤◌, min, true, refl, sym, ◌∙◌, ap, subst, arith, IsTrue, List, [], ◌∷◌, Some, None, false≢true}
use low.{eqb-true, TcapFields, ThreadFields, Blank, Comp, Thread, Tcap, Frame, Untyped, Kernel, outstanding, Core, put, with_frame}
use low.{with_core, tcap_in, fits, ticks, is_empty, with_thread, running, tcap_at, with_tcap, with_budget, charge, moved, Edit, Node}
use low.{Become, Untype, Component, Push, Pop, Cache, Charge, Move, Merge, Give, edited, after_edits, put_same, put_other, Kind}
use Rattle.found_stays.specs.kernel_invariant.proofs.{sum_same, sum_one, put_all, is_bare, Known, Each}
use Rattle.found_stays.specs.kernel_rules.specs.{State.State, Edits.Switch, Edits.Flush}
use Rattle.found_stays.specs.kernel_invariant.proofs.Edited.{HasTcap, Moves}
use Rattle.kernel_laws.proofs.Back.{edit_back}

abbrev budget : Frame → ℕ
budget x = (tcap_in x).budget

-- What a change of a frame makes of the sum.
pub frame_ticks : (s : State) (f : ℕ) (y : Frame) → f < s.limits.frames → ticks (with_frame s f y) + budget (s.frame f) ≡ ticks s + budget y
frame_ticks s f y below =
    let a = sum_one (λ g. budget (s.frame g)) (λ g. budget (put s.frame f y g))
    s.limits.frames f below (λ g other. ap budget (put_other s.frame f y g other)) in
    let b : budget (put s.frame f y f) ≡ budget y = ap budget (put_same s.frame f y f refl) in
    omega (arith, a, b)

-- A frame with the same budget.
same_budget : (s : State) (f : ℕ) (y : Frame) → f < s.limits.frames → budget y ≡ budget (s.frame f) → ticks (with_frame s f y) ≡ ticks s
same_budget s f y below e = let a = frame_ticks s f y below in omega (arith, a, e)

-- What a change of a core makes of the sum.
pub core_ticks : (s : State) (c : ℕ) (k : Core) → c < s.limits.cores
    → ticks (with_core s c k) + outstanding (s.core c) ≡ ticks s + outstanding k
core_ticks s c k below =
    let a = sum_one (λ d. outstanding (s.core d)) (λ d. outstanding (put s.core c k d)) s.limits.cores
    c below (λ d other. ap outstanding (put_other s.core c k d other)) in
    let b : outstanding (put s.core c k c) ≡ outstanding k = ap outstanding (put_same s.core c k c refl) in
    omega (arith, a, b)

-- A core that has as much left to have back.
pub same_spent : (s : State) (c : ℕ) (k : Core) → outstanding k ≡ outstanding (s.core c) → ticks (with_core s c k) ≡ ticks s
same_spent s c k e =
    let a = sum_same (λ d. outstanding (s.core d)) (λ d. outstanding (put s.core c k d)) s.limits.cores (λ d below.
    put_all (λ d x. outstanding x ≡ outstanding (s.core d)) s.core c k d
    (λ same. e ∙ ap (λ n. outstanding (s.core n)) (sym same)) (λ other. refl)) in
    omega (arith, a)

bare_budget : (x : Frame) → IsTrue (is_bare x) → budget x ≡ 0
bare_budget (Kernel Blank) h = refl
bare_budget Untyped h = refl
bare_budget _ h = absurd (false≢true h)

empty_budget : (s : State) (f : ℕ) (x : Frame) → is_empty s f x ≡ true → budget x ≡ 0
empty_budget s f (Kernel (Tcap q)) e = eqb-true q.budget 0 e
empty_budget s f _ e = refl

thread_budget : (x : Frame) (t : ThreadFields) → budget (with_thread x t) ≡ budget x
thread_budget (Kernel (Thread u)) t = refl
thread_budget _ t = refl

-- The budget of a frame with a temporal capability is the one that is put there.
put_budget : (x : Frame) (q : TcapFields) → IsTrue (fits Kind.Tcap x) → budget (with_tcap x q) ≡ q.budget
put_budget (Kernel (Tcap p)) q h = refl
put_budget _ q h = absurd (false≢true h)

budget_ticks : (s : State) (f n : ℕ) → HasTcap s f → ticks (with_budget s f n) + budget (s.frame f) ≡ ticks s + n
budget_ticks s f n h =
    let a = frame_ticks s f (with_tcap (s.frame f) (record (tcap_at s f) { budget = n })) h.below in
    let b = put_budget (s.frame f) (record (tcap_at s f) { budget = n }) h.fit in
    omega (arith, a, b)

moved_ticks : (s : State) (a b m : ℕ) → Moves s a b m → ticks (moved s a b m) ≡ ticks s
moved_ticks s a b m h =
    let first : State = with_budget s a ((tcap_at s a).budget - m) in
    let same : first.frame b ≡ s.frame b =
    put_other s.frame a (with_tcap (s.frame a) (record (tcap_at s a) { budget = (tcap_at s a).budget - m })) b (λ e. h.apart (sym e)) in
    let p = budget_ticks s a ((tcap_at s a).budget - m) h.from in
    let q = frame_ticks first b (with_tcap (first.frame b) (record (tcap_at first b) { budget = (tcap_at s b).budget + m })) h.to.below in
    let r = put_budget (first.frame b) (record (tcap_at first b) { budget = (tcap_at s b).budget + m })
    (subst (λ x. IsTrue (fits Kind.Tcap x)) (sym same) h.to.fit) in
    let t : budget (first.frame b) ≡ budget (s.frame b) = ap budget same in
    let enough = h.enough in
    omega (arith, p, q, r, t, enough)

-- A core has had back no more than it has spent.
abbrev Within : State → ℕ → Type 0
Within s c = (s.core c).back ≤ (s.core c).spent

edit_ticks : (c : ℕ) (s : State) (e : Edit) → Known c s e → Within s c → ticks (edited c s e) ≡ ticks s
edit_ticks c s (Node f object) k within = same_budget s f (Kernel object) k.2.below (k.2.poor ∙ sym (bare_budget (s.frame f) k.2.bare))
edit_ticks c s (Become f x) k within = same_budget s f x k.1.below (k.1.poor ∙ sym (bare_budget (s.frame f) k.1.bare))
edit_ticks c s (Component f comp) k within = same_budget s f (Kernel (Comp comp)) k.below (sym (bare_budget (s.frame f) k.bare))
edit_ticks c s (Untype f) k within = same_budget s f Untyped k.below (sym (empty_budget s f (s.frame f) k.empty))
edit_ticks c s (Push f) k within = same_budget s (s.core c).thread _ k.below (thread_budget (s.frame (s.core c).thread) _)
edit_ticks c s Pop k within = same_budget s (s.core c).thread _ k.below (thread_budget (s.frame (s.core c).thread) _)
edit_ticks c s (Switch h q) k within =
    let idle : State = running s (s.core c).thread None in
    same_spent (running idle h (Some c)) c (record (s.core c) { thread = h; tcap = q }) refl
    ∙ same_budget idle h _ k.new.below (thread_budget (idle.frame h) _)
    ∙ same_budget s (s.core c).thread _ k.old.below (thread_budget (s.frame (s.core c).thread) _)
edit_ticks c s (Cache t) k within = same_spent s c _ refl
edit_ticks c s Flush k within = same_spent s c _ refl
edit_ticks c s (Charge n) k within =
    let q : ℕ = (s.core c).tcap in
    let due : ℕ = n + (s.core c).owed in
    let budget : ℕ = (tcap_at s q).budget in
    let m : ℕ = charge s c due in
    let a = budget_ticks s q (budget - m) k.1 in
    let b = core_ticks (with_budget s q (budget - m)) c (record (s.core c) { spent = (s.core c).spent + m; owed = due - m }) k.0 in
    let small : m ≤ budget = least due budget in
    let spent : (s.core c).back ≤ (s.core c).spent = within in
    omega (arith, a, b, small, spent)
  where
    least : (a b : ℕ) → min a b ≤ b
    least a b = omega arith
edit_ticks c s (Move a b m) k within = moved_ticks s a b m k
edit_ticks c s (Merge f qs) k within =
    same_budget s f _ k.to.below (put_budget (s.frame f) (record (tcap_at s f) { qualities = qs }) k.to.fit)
edit_ticks c s (Give f m) k within =
    let a = budget_ticks s f ((tcap_at s f).budget + m) k.to in
    let b = core_ticks (with_budget s f ((tcap_at s f).budget + m)) c (record (s.core c) { back = (s.core c).back + m }) k.core in
    let enough : m ≤ outstanding (s.core c) = k.enough in
    omega (arith, a, b, enough)
edit_ticks c s _ k within = refl

pub edits_ticks : (c : ℕ) (s : State) (es : List Edit) → Each Known c s es → Within s c → ticks (after_edits c s es) ≡ ticks s
edits_ticks c s [] k within = refl
edits_ticks c s (e ∷ es) k within =
    edits_ticks c (edited c s e) es k.1 ((edit_back c s e k.0).within within) ∙ edit_ticks c s e k.0 within
