-- What makes a task ready.
use Rattle.sched_laws.proofs.Common.{◌≡◌, ℕ, ◌<◌, Bool, true, false, refl, ◌∙◌, ap, subst, nat_lt, if◌then◌else◌, Option, Some, None}
use Rattle.sched_laws.proofs.Common.{ltb-true, Capability, number_of, TcapFields, State, only, tcap_at, Rule, Job, Ready, reach}
use Rattle.sched_laws.proofs.Common.{with_number, time_in, time_of, is_due, ready, Kind}

-- A ready task is due, and its name reaches a temporal capability that has this budget, above 0, and gives the scheduler this number.
pub record IsReady (s : State) (rule : Rule) (now : ℕ) (job : Job) (r : Ready) : Type 0 where
  pub due : is_due now job ≡ true
  pub cap : Capability
  pub reaches : reach s 0 job.task.tcap ≡ Some cap
  pub kind : only Kind.Tcap cap.kind ≡ true
  pub frame : cap.frame ≡ r.tcap
  pub budget : (tcap_at s r.tcap).budget ≡ r.budget
  pub some : 0 < r.budget
  pub number : number_of (tcap_at s r.tcap).qualities rule.sched ≡ Some r.number

record IsTime (f : ℕ) (q : TcapFields) (sched : ℕ) (r : Ready) : Type 0 where
  frame : f ≡ r.tcap
  budget : q.budget ≡ r.budget
  some : 0 < r.budget
  number : number_of q.qualities sched ≡ Some r.number

time_tells : (f : ℕ) (q : TcapFields) (sched : ℕ) (r : Ready) → time_in f q sched ≡ Some r → IsTime f q sched r
time_tells f q sched r e = by_budget (nat_lt 0 q.budget) refl e
  where
    by_number : (o : Option ℕ) → number_of q.qualities sched ≡ o → with_number f q.budget o ≡ Some r → 0 < q.budget → IsTime f q sched r
    by_number None is h some = absurd (cc)
    by_number (Some n) is h some =
        let same : record { tcap = f; budget = q.budget; number = n } ≡ r = cc in
        record {
          frame = ap (λ (x : Ready). x.tcap) same;
          budget = ap (λ (x : Ready). x.budget) same;
          some = subst (λ b. 0 < b) (ap (λ (x : Ready). x.budget) same) some;
          number = is ∙ ap (λ (x : Ready). Some x.number) same;
        }

    by_budget : (b : Bool) → nat_lt 0 q.budget ≡ b → (if b then with_number f q.budget (number_of q.qualities sched) else None) ≡ Some r
        → IsTime f q sched r
    by_budget true on h = by_number (number_of q.qualities sched) refl h (ltb-true 0 q.budget on)
    by_budget false off h = absurd (cc)

pub ready_tells : (s : State) (rule : Rule) (now : ℕ) (job : Job) (r : Ready) → ready s rule now job ≡ Some r → IsReady s rule now job r
ready_tells s rule now job r e = by_due (is_due now job) refl e
  where
    by_kind : (k : Capability) → reach s 0 job.task.tcap ≡ Some k → is_due now job ≡ true → (b : Bool) → only Kind.Tcap k.kind ≡ b
        → (if b then time_in k.frame (tcap_at s k.frame) rule.sched else None) ≡ Some r → IsReady s rule now job r
    by_kind k is due true on h =
        let t = time_tells k.frame (tcap_at s k.frame) rule.sched r h in
        record {
          due = due;
          cap = k;
          reaches = is;
          kind = on;
          frame = t.frame;
          budget = subst (λ f. (tcap_at s f).budget ≡ r.budget) t.frame t.budget;
          some = t.some;
          number = subst (λ f. number_of (tcap_at s f).qualities rule.sched ≡ Some r.number) t.frame t.number;
        }
    by_kind k is due false off h = absurd (cc)

    by_cap : (o : Option Capability) → reach s 0 job.task.tcap ≡ o → is_due now job ≡ true → time_of s rule.sched o ≡ Some r
        → IsReady s rule now job r
    by_cap None is due h = absurd (cc)
    by_cap (Some k) is due h = by_kind k is due (only Kind.Tcap k.kind) refl h

    by_due : (b : Bool) → is_due now job ≡ b → (if b then time_of s rule.sched (reach s 0 job.task.tcap) else None) ≡ Some r
        → IsReady s rule now job r
    by_due true due h = by_cap (reach s 0 job.task.tcap) refl due h
    by_due false off h = absurd (cc)
