-- A budget of a task's own comes back.
use Rattle.sched_laws.proofs.Common.{◌≡◌, ◌≢◌, inl, inr, ℕ, ◌+◌, ◌-◌, Bool, true, false, refl, sym, ◌∙◌, ap, subst, arith, if◌then◌else◌}
use Rattle.sched_laws.proofs.Common.{List, [], ◌∷◌, Option, Some, None, slice_set, slice_get, option_map, IsTrue, option_and_then, cases_eq}
use Rattle.sched_laws.proofs.Common.{slice_get-map, Capability, has_rights, State, Slot, Want, only, to_use, usable, reached, own, Found}
use Rattle.sched_laws.proofs.Common.{named, of_kind, with_rights, and_then, or_refuse, fits, tcap_at, Task, Rule, Job, Choice, Renewal}
use Rattle.sched_laws.proofs.Common.{Back, Progress, Step, reach, chosen, length_of, turn_of, begun, refused, gives_back, put_out}
use Rattle.sched_laws.proofs.Common.{replenish_for, new_job, at_first, IsSchedule, Kind, Reply}
use Rattle.sched_laws.specs.sched_rules.specs.kernel_rules.specs.Rules.{Refused}
use Rattle.sched_laws.specs.{Throughout, Charges, TurnsCharge, Charging.ChargesNothing, Charging.Restores, Charging.TurnCharges}
use Rattle.sched_laws.proofs.{Picks.best, Picks.place_of, Readiness.ready_tells, Turns.Way, Turns.Runs, Turns.Refuses, Turns.Idles}
use Rattle.sched_laws.proofs.{Turns.Begins, Turns.Lacks, Turns.RunsOne, Turns.BeginsOne, Turns.way, Turns.come_at, Weights.set_here}
use Rattle.sched_laws.proofs.{Weights.set_apart, Exactly.exact_ticks}
use Rattle.period_laws.specs.Budgets.{IsOwn, LacksUsed, LeadsTo, IsWholeAfter, OwnBudgetReturns}
use Rattle.period_laws.proofs.{Jobs.the_job, OnTime.is_of, OnTime.comes_by, Pausing.Kept, Pausing.kept_on, Pausing.kept_first}
use Rattle.period_laws.proofs.{Lists.turn_keeps}

-- ---- where names lead

the_choice : (a b : Choice) → Some a ≡ Some b → a ≡ b
the_choice a b e = cc

the_renewal : (a b : Renewal) → Some a ≡ Some b → a ≡ b
the_renewal a b e = cc

the_cap : (a b : Capability) → Some a ≡ Some b → a ≡ b
the_cap a b e = cc

-- A name that leads to a temporal capability for use reaches it.
named_leads : (s : State) (n : ℕ) (k : Capability) → named s 0 n (to_use (only Kind.Tcap)) ≡ Found k → LeadsTo s n k.frame
unfolding reach
named_leads s n k e = by_slot (reached s 0 (own s 0 n)) refl e
  where
    want : Want
    want = to_use (only Kind.Tcap)

    by_right : (j : Capability) → (b : Bool) → (if b then Found j else Refused Reply.NoRight) ≡ Found k → j ≡ k
    by_right j true e = cc
    by_right j false e = absurd (cc)

    by_kind : (at : Slot) → reached s 0 (own s 0 n) ≡ Some at → (j : Capability) → usable s 0 at ≡ Some j
        → (b : Bool) → only Kind.Tcap j.kind ≡ b
        → (if b then with_rights want.needs j else Refused Reply.WrongCap) ≡ Found k → LeadsTo s n k.frame
    by_kind at slot j is true on e =
        let same : j ≡ k = by_right j (has_rights j.rights want.needs) e in
        record {
          cap = j;
          reaches = ap (option_and_then (usable s 0)) slot ∙ is;
          kind = on;
          frame = ap (λ (x : Capability). x.frame) same;
        }
    by_kind at slot j is false off e = absurd (cc)

    by_cap : (at : Slot) → reached s 0 (own s 0 n) ≡ Some at → (o : Option Capability) → usable s 0 at ≡ o
        → and_then (or_refuse o Reply.Empty) (of_kind want) ≡ Found k → LeadsTo s n k.frame
    by_cap at slot None is e = absurd (cc)
    by_cap at slot (Some j) is e = by_kind at slot j is (only Kind.Tcap j.kind) refl e

    by_slot : (o : Option Slot) → reached s 0 (own s 0 n) ≡ o
        → and_then (or_refuse o Reply.NoSlot) (λ at. and_then (or_refuse (usable s 0 at) Reply.Empty) (of_kind want)) ≡ Found k
        → LeadsTo s n k.frame
    by_slot None slot e = absurd (cc)
    by_slot (Some at) slot e = by_cap at slot (usable s 0 at) refl e

-- A name leads to one temporal capability.
leads_once : (s : State) (n f g : ℕ) → LeadsTo s n f → LeadsTo s n g → f ≡ g
leads_once s n f g a b =
    sym a.frame ∙ ap (λ (k : Capability). k.frame) (the_cap a.cap b.cap (sym a.reaches ∙ b.reaches)) ∙ b.frame

chosen_leads : (s : State) (rule : Rule) (now : ℕ) (jobs : List Job) (c : Choice) → chosen s rule now 0 jobs ≡ Some c
    → LeadsTo s c.job.task.tcap c.ready.tcap
chosen_leads s rule now jobs c is =
    let t = ready_tells s rule now c.job c.ready (best s rule now 0 jobs c is).is_ready in
    record { cap = t.cap; reaches = t.reaches; kind = t.kind; frame = t.frame }

-- What holds throughout holds at first.
pub first_of_all : (Holds : Progress → Type 0) (x : Progress) (steps : List Step) → Throughout Holds x steps → Holds x
first_of_all Holds x [] t = t
first_of_all Holds x (step ∷ steps) t = t.0

-- ---- one turn

module _ (rule : Rule) (tasks : List Task) (i f budget : ℕ) where
  -- What a turn charges leaves this so.
  abbrev LacksOn : Progress → Step → Type 0
  LacksOn x s = TurnCharges rule x s.next.state s.turn → LacksUsed i f budget s.next

  by_run : (x : Progress) (step : Step) → RunsOne rule x step → Kept tasks x → IsOwn tasks i f x → LacksUsed i f budget x
      → LacksOn x step
  by_run x step w kept mine lacks = subst (LacksOn x) w.is_step (λ charge job at.
      let c : Choice = w.choice in
      let u : ℕ = length_of rule x c in
      let new : Job = record (c.job) { left = c.job.left - u; used = c.job.used + u } in
      let here : slice_get x.jobs c.index ≡ Some c.job = place_of x.state rule x.time x.jobs c w.is_chosen in
      let same_choice : charge.choice ≡ c = the_choice charge.choice c (sym charge.is_chosen ∙ w.is_chosen) in
      let paid : Charges x.state w.state c.ready.tcap u =
      subst (λ (d : Choice). Charges x.state w.state d.ready.tcap u) same_choice charge.charges in
      let leads = chosen_leads x.state rule x.time x.jobs c w.is_chosen in
      elim (cases_eq c.index i) [
        | inl same ↦
            let is_new : new ≡ job = the_job new job
            (sym (set_here x.jobs c.index c.job new here) ∙ ap (slice_get (slice_set x.jobs c.index new)) same ∙ at) in
            let task : slice_get tasks i ≡ Some c.job.task = ap (slice_get tasks) (sym same) ∙ is_of tasks x kept c.index c.job here in
            let frame : c.ready.tcap ≡ f = leads_once x.state c.job.task.tcap c.ready.tcap f leads (mine.own c.job.task task) in
            let spent : (tcap_at w.state f).budget + u ≡ (tcap_at x.state f).budget =
            subst (λ g. (tcap_at w.state g).budget + u ≡ (tcap_at x.state g).budget) frame paid.budget in
            let used : c.job.used + u ≡ job.used = ap (λ (j : Job). j.used) is_new in
            let before = lacks c.job (ap (slice_get x.jobs) (sym same) ∙ here) in
            omega (arith, spent, used, before)
        | inr other ↦
            let apart : f ≢ c.ready.tcap = λ is. mine.alone c.index c.job.task other (is_of tasks x kept c.index c.job here)
            (subst (LeadsTo x.state c.job.task.tcap) (sym is) leads) in
            let kept = paid.others f apart in
            let before = lacks job (sym (set_apart x.jobs c.index i new (λ q. other (sym q))) ∙ at) in
            omega (arith, kept, before)
      ])

  by_begin : (x : Progress) (step : Step) → BeginsOne rule x step → IsTrue (fits Kind.Tcap (x.state.frame f)) → Kept tasks x
      → IsOwn tasks i f x → LacksUsed i f budget x → LacksOn x step
  by_begin x step w there kept mine lacks = subst (LacksOn x) w.is_step (λ charge job at.
      let r : Renewal = w.come in
      let new : Job = begun r.job in
      let state : State = (gives_back x r (replenish_for r.job)).next.state in
      let here : slice_get x.jobs r.index ≡ Some r.job = come_at x.time x.jobs r w.has_come in
      let same_come : charge.come ≡ r = the_renewal charge.come r (sym charge.has_come ∙ w.has_come) in
      let leads : LeadsTo x.state r.job.task.tcap charge.tcap.frame =
      subst (λ (d : Renewal). LeadsTo x.state d.job.task.tcap charge.tcap.frame) same_come
      (named_leads x.state charge.come.job.task.tcap charge.tcap charge.led) in
      elim (cases_eq r.index i) [
        | inl same ↦
            let is_new : new ≡ job = the_job new job
            (sym (set_here x.jobs r.index r.job new here) ∙ ap (slice_get (slice_set x.jobs r.index new)) same ∙ at) in
            let task : slice_get tasks i ≡ Some r.job.task = ap (slice_get tasks) (sym same) ∙ is_of tasks x kept r.index r.job here in
            let frame : charge.tcap.frame ≡ f =
            leads_once x.state r.job.task.tcap charge.tcap.frame f leads (mine.own r.job.task task) in
            let given : (tcap_at state f).budget ≡ (tcap_at x.state f).budget + r.job.used =
            (subst (λ g. Restores x.state state g r.job.used) frame charge.restores).budget there in
            let used : 0 ≡ job.used = ap (λ (j : Job). j.used) is_new in
            let before = lacks r.job (ap (slice_get x.jobs) (sym same) ∙ here) in
            omega (arith, given, used, before)
        | inr other ↦
            let apart : f ≢ charge.tcap.frame = λ is. mine.alone r.index r.job.task other (is_of tasks x kept r.index r.job here)
            (subst (LeadsTo x.state r.job.task.tcap) (sym is) leads) in
            let kept = charge.restores.others f apart in
            let before = lacks job (sym (set_apart x.jobs r.index i new (λ q. other (sym q))) ∙ at) in
            omega (arith, kept, before)
      ])

  -- It is put out.
  by_refusal : (x : Progress) (s : Step) (p : ℕ) (old : Job) → slice_get x.jobs p ≡ Some old
      → s.next.jobs ≡ slice_set x.jobs p (record old { out = true }) → ChargesNothing x.state s.next.state → LacksUsed i f budget x
      → LacksUsed i f budget s.next
  by_refusal x s p old here jobs nothing lacks job at =
      let kept = nothing.budgets f in
      let new : Job = record old { out = true } in
      let listed : slice_get (slice_set x.jobs p new) i ≡ Some job = ap (λ js. slice_get js i) (sym jobs) ∙ at in
      elim (cases_eq p i) [
        | inl same ↦
            let is_new : new ≡ job = the_job new job
            (sym (set_here x.jobs p old new here) ∙ ap (slice_get (slice_set x.jobs p new)) same ∙ listed) in
            let used : old.used ≡ job.used = ap (λ (j : Job). j.used) is_new in
            let before = lacks old (ap (slice_get x.jobs) (sym same) ∙ here) in
            omega (arith, kept, used, before)
        | inr other ↦
            let before = lacks job (sym (set_apart x.jobs p i new (λ q. other (sym q))) ∙ listed) in
            omega (arith, kept, before)
      ]

  lacks_on : (x : Progress) (step : Step) → turn_of rule x ≡ Some step → IsTrue (fits Kind.Tcap (x.state.frame f)) → Kept tasks x
      → IsOwn tasks i f x → LacksUsed i f budget x → LacksOn x step
  lacks_on x step e there kept mine lacks = by_way (way rule x step e)
    where
      by_way : Way rule x step → LacksOn x step
      by_way (Runs w) = by_run x step w kept mine lacks
      by_way (Refuses w) = subst (LacksOn x) w.is_step (λ nothing.
          by_refusal x (refused x w.choice w.state w.calls w.reply) w.choice.index w.choice.job
          (place_of x.state rule x.time x.jobs w.choice w.is_chosen) refl nothing lacks)
      by_way (Idles w) = subst (LacksOn x) w.is_step (λ nothing job at. lacks job at)
      by_way (Begins w) = by_begin x step w there kept mine lacks
      by_way (Lacks w) = subst (LacksOn x) w.is_step (λ nothing.
          by_refusal x (put_out x w.come.index w.come.job w.state w.calls w.reply) w.come.index w.come.job
          (come_at x.time x.jobs w.come w.has_come) refl nothing lacks)

  -- Right after its job has arrived.
  whole_on : (x : Progress) (step : Step) → turn_of rule x ≡ Some step → LacksUsed i f budget step.next
      → (at ticks : ℕ) → step.turn ≡ Back at (i + 1) ticks → (tcap_at step.next.state f).budget ≡ budget
  whole_on x step e after at ticks is =
      let c = comes_by rule x step e at (i + 1) ticks is in
      let r : Renewal = c.begins.come in
      let place = c.place in
      let same : r.index ≡ i = omega (arith, place) in
      let listed : slice_get step.next.jobs i ≡ Some (begun r.job) = ap (λ s. slice_get s.next.jobs i) (sym c.begins.is_step)
      ∙ ap (slice_get (slice_set x.jobs r.index (begun r.job))) (sym same)
      ∙ set_here x.jobs r.index r.job (begun r.job) (come_at x.time x.jobs r c.begins.has_come) in
      let now = after (begun r.job) listed in
      omega (arith, now)

  -- ---- all turns

  all_lack : (x : Progress) (steps : List Step) → IsSchedule rule x steps → TurnsCharge rule x steps
      → IsTrue (fits Kind.Tcap (x.state.frame f)) → Kept tasks x → Throughout (IsOwn tasks i f) x steps → LacksUsed i f budget x
      → Throughout (LacksUsed i f budget) x steps
  all_lack x [] is charge there kept mine lacks = lacks
  all_lack x (step ∷ steps) is charge there kept mine lacks = (
    lacks,
    all_lack step.next steps is.1 charge.1 (((turn_keeps rule x step is.0).like f).kind ∙ there)
        (kept_on tasks rule x step is.0 kept) mine.1 (lacks_on x step is.0 there kept mine.0 lacks charge.0),
  )

  all_whole : (x : Progress) (steps : List Step) → IsSchedule rule x steps → Throughout (LacksUsed i f budget) x steps
      → IsWholeAfter (i + 1) f budget steps
  all_whole x [] is t = tt
  all_whole x (step ∷ steps) is t =
      (whole_on x step is.0 (first_of_all (LacksUsed i f budget) step.next steps t.1), all_whole step.next steps is.1 t.1)

first_used : (s : State) (tasks : List Task) (i f : ℕ) → LacksUsed i f (tcap_at s f).budget (at_first s tasks)
first_used s tasks i f job at = by_task (slice_get tasks i) (sym (slice_get-map new_job tasks i) ∙ at)
  where
    by_task : (o : Option Task) → option_map new_job o ≡ Some job → (tcap_at s f).budget + job.used ≡ (tcap_at s f).budget
    by_task None e = absurd (cc)
    by_task (Some task) e =
        let used : 0 ≡ job.used = ap (λ (j : Job). j.used) (the_job (new_job task) job e) in
        omega (arith, used)

pub own_budget_returns : OwnBudgetReturns
own_budget_returns rule s tasks steps is owes i f there mine =
    let lacks = all_lack rule tasks i f (tcap_at s f).budget (at_first s tasks) steps is
    (exact_ticks rule (at_first s tasks) steps is owes) there (kept_first s tasks) mine (first_used s tasks i f) in
    record { whole = all_whole rule tasks i f (tcap_at s f).budget (at_first s tasks) steps is lacks; lacks = lacks }
