-- No turn changes where temporal capabilities are, nor their lists.
use Rattle.sched_laws.proofs.Common.{◌≡◌, ℕ, ◌+◌, ◌-◌, Bool, true, false, ◌==◌, refl, sym, ◌∙◌, subst, if◌then◌else◌, List, [], ◌∷◌, ◌++◌}
use Rattle.sched_laws.proofs.Common.{Option, Some, None, eqb-true, Capability, Call, Switch, Tick, Replenish, Reply, ThreadFields}
use Rattle.sched_laws.proofs.Common.{TcapFields, Frame, Kernel, Thread, Tcap, State, tcap_in, thread_in, put, found, entered, Change}
use Rattle.sched_laws.proofs.Common.{Judged, Found, fits, switch_to, switch_rule, with_thread, running, switched, tcap_at, with_tcap}
use Rattle.sched_laws.proofs.Common.{charge, change_of, changed, state_by, plain_reply, IfFound, AllChanges, outcome_all, Rule, Choice}
use Rattle.sched_laws.proofs.Common.{Renewal, Progress, Step, chosen, next_arrival, length_of, reply_to, state_past, is_done, refused, ran}
use Rattle.sched_laws.proofs.Common.{ticks, switches as switches_turn, switch_for, goes_on, runs, idles, turn_by, turn_of, renewal, put_out}
use Rattle.sched_laws.proofs.Common.{gives_back, renews, replenish_for, turn_for, Kind}
use Rattle.sched_laws.specs.sched_rules.specs.kernel_rules.specs.{TimeCalls.tick_rule, replenish_rule, with_budget, owed_by}
use Rattle.sched_laws.specs.sched_rules.specs.kernel_rules.specs.Rules.{Refused}

-- ---- frames

-- A frame has a temporal capability where the other has one, with the same list.
pub record Like (x y : Frame) : Type 0 where
  pub list : (tcap_in x).qualities ≡ (tcap_in y).qualities
  pub kind : fits Kind.Tcap x ≡ fits Kind.Tcap y

same_like : (x : Frame) → Like x x
same_like x = record { list = refl; kind = refl }

thread_like : (x : Frame) (t : ThreadFields) → Like (with_thread x t) x
thread_like (Kernel (Thread old)) t = record { list = refl; kind = refl }
thread_like _ t = record { list = refl; kind = refl }

tcap_like : (x : Frame) (p : TcapFields) → p.qualities ≡ (tcap_in x).qualities → Like (with_tcap x p) x
tcap_like (Kernel (Tcap q)) p e = record { list = e; kind = refl }
tcap_like _ p e = record { list = refl; kind = refl }

put_like : (f : ℕ → Frame) (i g : ℕ) (y : Frame) → Like y (f i) → Like (put f i y g) (f g)
put_like f i g y like = by_test (g == i) refl
  where
    by_test : (b : Bool) → (g == i) ≡ b → Like (if b then y else f g) (f g)
    by_test true on = subst (λ k. Like y (f k)) (sym (eqb-true g i on)) like
    by_test false off = same_like (f g)

-- ---- calls

-- Each frame of a state is like that of another.
pub record Keeps (s new : State) : Type 0 where
  pub like : (g : ℕ) → Like (new.frame g) (s.frame g)

keeps_all : (s : State) → Keeps s s
keeps_all s = record { like = λ g. same_like (s.frame g) }

keeps_then : (s t new : State) → Keeps s t → Keeps t new → Keeps s new
keeps_then s t new a b = record {
  like = λ g. record { list = (b.like g).list ∙ (a.like g).list; kind = (b.like g).kind ∙ (a.like g).kind };
}

-- What keeps them in the change that a call makes, and in what it owes where it is refused, keeps them in the call.
by_reply : (s : State) (call : Call) → IfFound (change_of s 0 call) (λ change. Keeps s change.next) → Keeps s (owed_by s 0 call)
    → (r : Reply) → Keeps s (state_by s 0 call r)
by_reply s call change owed (Reply.Ok v) = let k = by_judged (change_of s 0 call) change in record { like = k.like }
  where
    by_judged : (j : Judged Change) → IfFound j (λ change. Keeps s change.next) → Keeps s (changed s j)
    by_judged (Refused r) h = record { like = λ g. same_like (s.frame g) }
    by_judged (Found c) h = record { like = h.like }
by_reply s call change owed Reply.CallsSpent = keeps_all s
by_reply s call change owed Reply.Raced = record { like = owed.like }
by_reply s call change owed (Reply.Busy d) = record { like = owed.like }
by_reply s call change owed _ = record { like = λ g. same_like (s.frame g) }

both_like : (t : State) (h q g : ℕ) → Like ((switched t 0 h q).frame g) (t.frame g)
both_like t h q g =
    let old : ℕ = (t.core 0).thread in
    let idle : ThreadFields = record (thread_in (t.frame old)) { runs_on = None } in
    let mid : ℕ → Frame = (running t old None).frame in
    let runs : ThreadFields = record (thread_in (mid h)) { runs_on = Some 0 } in
    let first = put_like t.frame old g (with_thread (t.frame old) idle) (thread_like (t.frame old) idle) in
    let second = put_like mid h g (with_thread (mid h) runs) (thread_like (mid h) runs) in
    record { list = second.list ∙ first.list; kind = second.kind ∙ first.kind }

switch_changes : (t : State) (h q : ℕ) → IfFound (change_of t 0 (Switch h q)) (λ change. Keeps t change.next)
switch_changes t h q = outcome_all (λ change. Keeps t change.next) t 0 (switch_rule t h q)
    (λ k l. by_runner k l (thread_in (t.frame k.frame)).runs_on)
  where
    by_runner : (k l : Capability) (o : Option ℕ) → AllChanges t 0 (λ change. Keeps t change.next) (switch_to (found k) l.frame o)
    by_runner k l None = record { like = both_like t k.frame l.frame }
    by_runner k l (Some e) = record { like = both_like t k.frame l.frame }

switch_keeps : (s : State) (h q : ℕ) → Keeps s (state_past s (Switch h q))
unfolding state_past
switch_keeps s h q =
    let k = by_reply (entered s 0) (Switch h q) (switch_changes (entered s 0) h q) (keeps_all (entered s 0))
    (plain_reply s 0 (Switch h q)) in
    record { like = k.like }

-- Another budget.
budget_like : (s : State) (f budget g : ℕ) → Like ((with_budget s f budget).frame g) (s.frame g)
budget_like s f budget g = put_like s.frame f g (with_tcap (s.frame f) (record (tcap_at s f) { budget = budget }))
    (tcap_like (s.frame f) (record (tcap_at s f) { budget = budget }) refl)

tick_changes : (t : State) (u : ℕ) → IfFound (change_of t 0 (Tick u)) (λ change. Keeps t change.next)
tick_changes t u = outcome_all (λ change. Keeps t change.next) t 0 (tick_rule t 0 u)
    (record { like = budget_like t (t.core 0).tcap ((tcap_at t (t.core 0).tcap).budget - charge t 0 (u + (t.core 0).owed)) })

tick_keeps : (s : State) (u : ℕ) → Keeps s (state_past s (Tick u))
unfolding state_past
tick_keeps s u =
    let owed : Keeps (entered s 0) (owed_by (entered s 0) 0 (Tick u)) = record { like = λ g. same_like (s.frame g) } in
    let k = by_reply (entered s 0) (Tick u) (tick_changes (entered s 0) u) owed (plain_reply s 0 (Tick u)) in
    record { like = k.like }

replenish_changes : (t : State) (a m : ℕ) → IfFound (change_of t 0 (Replenish a m)) (λ change. Keeps t change.next)
replenish_changes t a m = outcome_all (λ change. Keeps t change.next) t 0 (replenish_rule t 0 a m)
    (λ k. record { like = budget_like t k.frame ((tcap_at t k.frame).budget + m) })

replenish_keeps : (s : State) (a m : ℕ) → Keeps s (state_past s (Replenish a m))
unfolding state_past
replenish_keeps s a m =
    let k = by_reply (entered s 0) (Replenish a m) (replenish_changes (entered s 0) a m) (keeps_all (entered s 0))
    (plain_reply s 0 (Replenish a m)) in
    record { like = k.like }

-- ---- turns

module _ (rule : Rule) (x : Progress) where
  ticks_keep : (c : Choice) (s : State) (calls : List Call) (u : ℕ) → Keeps x.state s → Keeps x.state (ticks x c s calls u).next.state
  ticks_keep c s calls u k = by_done (is_done (reply_to s (Tick u)))
    where
      by_done : (d : Bool) → Keeps x.state (if d then ran x c (state_past s (Tick u)) (calls ++ Tick u ∷ []) u
          else refused x c (state_past s (Tick u)) (calls ++ Tick u ∷ []) (reply_to s (Tick u))).next.state
      by_done true = keeps_then x.state s (state_past s (Tick u)) k (tick_keeps s u)
      by_done false = keeps_then x.state s (state_past s (Tick u)) k (tick_keeps s u)

  runs_keep : (c : Choice) (u : ℕ) → Keeps x.state (runs x c u).next.state
  runs_keep c u = by_going (goes_on x c)
    where
      call : Call
      call = switch_for c.job.task

      by_switch : (d : Bool) → Keeps x.state (if d then ticks x c (state_past x.state call) (call ∷ []) u
          else refused x c (state_past x.state call) (call ∷ []) (reply_to x.state call)).next.state
      by_switch true = ticks_keep c (state_past x.state call) (call ∷ []) u (switch_keeps x.state c.job.task.thread c.job.task.tcap)
      by_switch false = switch_keeps x.state c.job.task.thread c.job.task.tcap

      by_going : (d : Bool) → Keeps x.state (if d then ticks x c x.state [] u else switches_turn x c call u).next.state
      by_going true = ticks_keep c x.state [] u (keeps_all x.state)
      by_going false = by_switch (is_done (reply_to x.state call))

  renews_keep : (r : Renewal) → Keeps x.state (renews x r (replenish_for r.job)).next.state
  renews_keep r = by_done (is_done (reply_to x.state call))
    where
      call : Call
      call = replenish_for r.job

      by_done : (d : Bool) → Keeps x.state (if d then gives_back x r call
          else put_out x r.index r.job (state_past x.state call) (call ∷ []) (reply_to x.state call)).next.state
      by_done true = replenish_keeps x.state r.job.task.tcap r.job.used
      by_done false = replenish_keeps x.state r.job.task.tcap r.job.used

  some_step : (a b : Step) → Some a ≡ Some b → a ≡ b
  some_step a b e = cc

  pub turn_keeps : (step : Step) → turn_of rule x ≡ Some step → Keeps x.state step.next.state
  turn_keeps step e = by_come (renewal x.time 0 x.jobs) e
    where
      by_arrival : (a : Option ℕ) → idles x a ≡ Some step → Keeps x.state step.next.state
      by_arrival None e = absurd (cc)
      by_arrival (Some at) e = subst (λ s. Keeps x.state s.next.state) (some_step _ step e) (keeps_all x.state)

      by_choice : (o : Option Choice) → turn_by rule x o ≡ Some step → Keeps x.state step.next.state
      by_choice None e = by_arrival (next_arrival x.time x.jobs) e
      by_choice (Some c) e =
          subst (λ s. Keeps x.state s.next.state) (some_step (runs x c (length_of rule x c)) step e) (runs_keep c (length_of rule x c))

      by_come : (o : Option Renewal) → turn_for rule x o ≡ Some step → Keeps x.state step.next.state
      by_come None e = by_choice (chosen x.state rule x.time 0 x.jobs) e
      by_come (Some r) e = subst (λ s. Keeps x.state s.next.state) (some_step (renews x r (replenish_for r.job)) step e) (renews_keep r)
