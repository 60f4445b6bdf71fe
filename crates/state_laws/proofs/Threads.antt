-- A thread runs on a core exactly where it is that core's current one.
use Rattle.kernel_laws.proofs.{◌≡◌, ◌≢◌, inl, inr, ℕ, ◌+◌, ◌-◌, ◌*◌, ◌<◌, ◌≤◌, arith, Bool, refl, sym, ◌∙◌, ap, subst, ◌==◌, ltb as nat_lt}
use Rattle.kernel_laws.proofs.{List, [], ◌∷◌, drop, Option, Some, None, eqb-false, ltb-true, Setting, IsSetting, Call, Tick, Reply}
use Rattle.kernel_laws.proofs.{ThreadFields, TcapFields, Comp, Thread, Tcap, Frame, Untyped, Kernel, Core, State, put, thread_in, thread_of}
use Rattle.kernel_laws.proofs.{start, with_thread, running, with_tcap, with_budget, tcap_at, charge, Edit, Node, Become, Untype, Component}
use Rattle.kernel_laws.proofs.{Push, Pop, Cache, Charge, Move, Merge, Give, edited, after_edits, change_of, changed, counted, owed_by}
use Rattle.kernel_laws.proofs.{state_by, MayReply, Event, Enters, Decides, Returns, after, is_open, IsRun, put_same, put_other, put_all}
use Rattle.kernel_laws.proofs.{IsOpen, opened, open_is, some_inj, none_some, Each, after_ok}
use Rattle.kernel_laws.specs.kernel_invariant.proofs.{choose, Known}
use Rattle.kernel_laws.specs.kernel_rules.specs.Edits.{Switch, Flush}
use Rattle.{std.proofs.lemmas.Bool.cases_eq, kernel_laws.specs.found_stays.proofs.SparesRuns.runs_of, state_laws.specs.Lives.ThreadsRun}

-- The core on which the thread of a frame runs, if it has one that runs.
abbrev pub runs_at : Frame → Option ℕ
runs_at x = (thread_in x).runs_on

-- Threads run on cores of a machine whose current ones they are.
abbrev pub RunBack : ℕ → (ℕ → Frame) → (ℕ → Core) → Type 0
RunBack cores frame core = (f d : ℕ) → runs_at (frame f) ≡ Some d → (d < cores) × ((core d).thread ≡ f)

abbrev pub Back : State → Type 0
Back s = RunBack s.limits.cores s.frame s.core

-- A frame is put whose thread runs nowhere, or where the old one does.
put_back : (s : State) (n g : ℕ) (y : Frame) → ((d : ℕ) → runs_at y ≡ Some d → runs_at (s.frame g) ≡ Some d) → RunBack n s.frame s.core
    → RunBack n (put s.frame g y) s.core
put_back s n g y back h f d = put_all (λ f x. runs_at x ≡ Some d → (d < n) × ((s.core d).thread ≡ f)) s.frame g y f
    (λ same e. h f d (ap (λ m. runs_at (s.frame m)) same ∙ back d e)) (λ other. h f d)

-- A frame is put that has no running thread.
idle_back : (s : State) (n g : ℕ) (y : Frame) → runs_at y ≡ None → RunBack n s.frame s.core → RunBack n (put s.frame g y) s.core
idle_back s n g y none h = put_back s n g y (λ d e. absurd (none_some d (sym none ∙ e))) h

thread_at : (x : Frame) (t : ThreadFields) → (d : ℕ) → runs_at (with_thread x t) ≡ Some d → t.runs_on ≡ Some d
thread_at (Kernel (Thread u)) t d e = e
thread_at _ t d e = absurd (none_some d e)

tcap_runs : (x : Frame) (q : TcapFields) → runs_at (with_tcap x q) ≡ runs_at x
tcap_runs (Kernel (Tcap p)) q = refl
tcap_runs _ q = refl

tcap_back : (s : State) (n g : ℕ) (q : TcapFields) → RunBack n s.frame s.core → RunBack n (put s.frame g (with_tcap (s.frame g) q)) s.core
tcap_back s n g q h = put_back s n g _ (λ d e. sym (tcap_runs (s.frame g) q) ∙ e) h

-- A core keeps its thread.
core_back : (s : State) (n c : ℕ) (k : Core) (frame : ℕ → Frame) → k.thread ≡ (s.core c).thread → RunBack n frame s.core
    → RunBack n frame (put s.core c k)
core_back s n c k frame thread h f d e =
    let p = h f d e in (
      p.0,
      put_all (λ d x. (s.core d).thread ≡ f
          → x.thread ≡ f) s.core c k d (λ same q. thread ∙ ap (λ m. (s.core m).thread) (sym same) ∙ q) (λ other q. q) p.1,
    )

-- Core c goes on as a thread that runs nowhere.
switched : (s : State) (c g q : ℕ) → c < s.limits.cores → Back s → Back (edited c s (Switch g q))
switched s c g q here w f d e = elim (cases_eq f g) [
  | inl same ↦
      let is : Some c ≡ Some d = (thread_at (idle.frame g) _ d (ap runs_at (sym (put_same idle.frame g _ f same)) ∙ e)) in
      let core : c ≡ d = some_inj c d is in
      (subst (λ m. m < s.limits.cores) core here, ap (λ (x : Core). x.thread) (put_same s.core c next d (sym core)) ∙ sym same)
  | inr other ↦ by_old other (ap runs_at (sym (put_other idle.frame g _ f other)) ∙ e)
]
  where
    idle : State
    idle = running s (s.core c).thread None

    next : Core
    next = record (s.core c) { thread = g; tcap = q }

    by_old : f ≢ g → runs_at (idle.frame f) ≡ Some d → (d < s.limits.cores) × ((put s.core c next d).thread ≡ f)
    by_old other e = elim (cases_eq f (s.core c).thread) [
      | inl old ↦ absurd (none_some d (thread_at (s.frame (s.core c).thread) (record (thread_of s c) { runs_on = None })
          d (ap runs_at (sym (put_same s.frame (s.core c).thread _ f old)) ∙ e)))
      | inr apart ↦
          let p = w f d (ap runs_at (sym (put_other s.frame (s.core c).thread _ f apart)) ∙ e) in
          let away : d ≢ c = λ same. apart (sym p.1 ∙ ap (λ m. (s.core m).thread) same) in
          (p.0, ap (λ (x : Core). x.thread) (put_other s.core c next d away) ∙ p.1)
    ]

stack_back : (s : State) (c : ℕ) (stack : List ℕ) → Back s
    → RunBack s.limits.cores (put s.frame (s.core c).thread (with_thread (s.frame (s.core c).thread)
    (record (thread_of s c) { stack = stack }))) s.core
stack_back s c stack w = put_back s s.limits.cores (s.core c).thread _
    (λ d e. thread_at (s.frame (s.core c).thread) (record (thread_of s c) { stack = stack }) d e) w

edit_back : (c : ℕ) (s : State) (e : Edit) → Known c s e → Back s → Back (edited c s e)
edit_back c s (Node g object) k w = idle_back s s.limits.cores g (Kernel object) k.2.idle w
edit_back c s (Become g x) k w = idle_back s s.limits.cores g x k.1.idle w
edit_back c s (Untype g) k w = idle_back s s.limits.cores g Untyped refl w
edit_back c s (Component g fields) k w = idle_back s s.limits.cores g (Kernel (Comp fields)) refl w
edit_back c s (Push g) k w = stack_back s c (g ∷ (thread_of s c).stack) w
edit_back c s Pop k w = stack_back s c (drop 1 (thread_of s c).stack) w
edit_back c s (Switch g q) k w = switched s c g q k.core w
edit_back c s (Cache t) k w = core_back s s.limits.cores c _ s.frame refl w
edit_back c s Flush k w = core_back s s.limits.cores c (record (s.core c) { cached = [] }) s.frame refl w
edit_back c s (Charge n) k w =
    core_back s s.limits.cores c
    (record (s.core c) {
      spent = (s.core c).spent + charge s c (n + (s.core c).owed);
      owed = (n + (s.core c).owed) - charge s c (n + (s.core c).owed);
    })
    (with_budget s (s.core c).tcap ((tcap_at s (s.core c).tcap).budget - charge s c (n + (s.core c).owed))).frame refl
    (tcap_back s s.limits.cores (s.core c).tcap
    (record (tcap_at s (s.core c).tcap) { budget = (tcap_at s (s.core c).tcap).budget - charge s c (n + (s.core c).owed) }) w)
edit_back c s (Move a b m) k w =
    tcap_back (with_budget s a ((tcap_at s a).budget - m)) s.limits.cores b (record (tcap_at (with_budget s a ((tcap_at s a).budget - m)) b)
    { budget = (tcap_at s b).budget + m })
    (tcap_back s s.limits.cores a (record (tcap_at s a) { budget = (tcap_at s a).budget - m }) w)
edit_back c s (Merge g qs) k w = tcap_back s s.limits.cores g (record (tcap_at s g) { qualities = qs }) w
edit_back c s (Give g m) k w =
    core_back s s.limits.cores c (record (s.core c) { back = (s.core c).back + m }) (with_budget s g ((tcap_at s g).budget + m)).frame refl
    (tcap_back s s.limits.cores g (record (tcap_at s g) { budget = (tcap_at s g).budget + m }) w)
edit_back c s _ k w = w

edits_back : (c : ℕ) (s : State) (es : List Edit) → Each Known c s es → Back s → Back (after_edits c s es)
edits_back c s [] k w = w
edits_back c s (e ∷ es) k w = edits_back c (edited c s e) es k.1 (edit_back c s e k.0 w)

-- A decision.
counted_back : (t : State) (c : ℕ) → Back t → Back (counted t c)
counted_back t c h = core_back t t.limits.cores c _ t.frame refl h

owed_back : (s : State) (c : ℕ) (call : Call) → Back s → Back (owed_by s c call)
owed_back s c (Tick m) h = core_back s s.limits.cores c _ s.frame refl h
owed_back s c _ h = h

decided_back : (s : State) (o : ℕ → Bool) (c : ℕ) (call : Call) (r : Reply) → IsOpen s o c → MayReply s c call r → Back s
    → Back (state_by s c call r)
decided_back s o c call (Reply.Ok v) h may w =
    counted_back (changed s (change_of s c call)) c
    (after_ok s c call v Back may (λ es e. edits_back c s es (e.known o h) w))
decided_back s o c call Reply.CallsSpent h may w = w
decided_back s o c call Reply.Raced h may w = counted_back (owed_by s c call) c (owed_back s c call w)
decided_back s o c call (Reply.Busy e) h may w = counted_back (owed_by s c call) c (owed_back s c call w)
decided_back s o c call _ h may w = counted_back s c w

-- Each core's thread of the start runs on it.
start_back : (setting : Setting) → RunBack setting.cores (start setting).frame (start setting).core
start_back setting f d =
    choose P (f == 0) _ _ (λ e q. absurd (none_some d q)) λ a.
    choose P (f == 1) _ _ (λ e q. absurd (none_some d q)) λ b.
    choose P (f == 2) _ _ (λ e q. absurd (none_some d q)) λ c.
    choose P (f == 3) _ _ (λ e q. absurd (none_some d q)) λ three.
    choose P (nat_lt f (4 + setting.cores)) _ _
    (λ e q.
    let same : f - 4 ≡ d = some_inj (f - 4) d q in
    let high : f < 4 + setting.cores = ltb-true f (4 + setting.cores) e in
    past (four (eqb-false f 0 a) (eqb-false f 1 b) (eqb-false f 2 c) (eqb-false f 3 three)) same high) λ e.
    choose P (nat_lt f (4 + 2 * setting.cores)) _ _ (λ e q. absurd (none_some d q)) (λ e q. absurd (none_some d q))
  where
    P : Frame → Type 0
    P x = runs_at x ≡ Some d → (d < setting.cores) × (4 + d ≡ f)

    four : f ≢ 0 → f ≢ 1 → f ≢ 2 → f ≢ 3 → 4 ≤ f
    four a b c e = omega (arith, a, b, c, e)

    past : 4 ≤ f → f - 4 ≡ d → f < 4 + setting.cores → (d < setting.cores) × (4 + d ≡ f)
    past low same high = (omega (arith, low, same, high), omega (arith, low, same))

runs_back : (setting : Setting) → IsSetting setting → (events : List Event) → IsRun setting events → Back (after setting events)
runs_back setting lim [] run = start_back setting
runs_back setting lim (Enters c call ∷ events) run =
    core_back (after setting events) (after setting events).limits.cores c
    _ (after setting events).frame refl (runs_back setting lim events run.0)
runs_back setting lim (Returns c ∷ events) run =
    core_back (after setting events) (after setting events).limits.cores c
    _ (after setting events).frame refl (runs_back setting lim events run.0)
runs_back setting lim (Decides c call r ∷ events) run =
    decided_back (after setting events) (opened events) c call r
    (open_is setting lim events c run.0 (ap is_open run.1.is_open)) run.1.permitted (runs_back setting lim events run.0)

pub threads_run : ThreadsRun
threads_run setting lim events run f c = record {
  current = λ e. runs_back setting lim events run f c e;
  runs = λ below same. ap (λ g. runs_at ((after setting events).frame g)) (sym same) ∙ runs_of setting lim events run c below;
}
