-- The ticks of each turn are exactly those charged, or given back, in it.
use Rattle.sched_laws.proofs.Common.{◌≡◌, ℕ, ◌≤◌, min, Bool, true, false, ◌==◌, refl, ◌∙◌, ap, subst, arith, if◌then◌else◌, List, [], ◌∷◌}
use Rattle.sched_laws.proofs.Common.{◌++◌, Option, Some, None, eqb-true, and_parts, Call, Tick, Reply, State, tcap_at, Rule, Choice}
use Rattle.sched_laws.proofs.Common.{Renewal, Progress, Step, chosen, next_arrival, length_of, reply_to, state_past, is_done, is_place}
use Rattle.sched_laws.proofs.Common.{refused, ran, ticks, switches, switch_for, goes_on, runs, idles, turn_by, turn_of, renewal, put_out}
use Rattle.sched_laws.proofs.Common.{gives_back, renews, replenish_for, turn_for}
use Rattle.sched_laws.specs.Charging.{Charges, ChargesNothing, TurnCharges, ExactTicks}
use Rattle.sched_laws.proofs.{Picks.best, Arriving.cut_most, Readiness.IsReady, Readiness.ready_tells, Charging.Keeps, Charging.same_keeps}
use Rattle.sched_laws.proofs.{Charging.switch_keeps, Charging.switch_sets, Charging.tick_charges, Charging.tick_keeps}
use Rattle.sched_laws.proofs.{Restoring.replenish_keeps, Restoring.replenish_restores}

-- A turn charges exactly, and leaves nothing owed.
record Turn_exact (rule : Rule) (x : Progress) (step : Step) : Type 0 where
  charges : TurnCharges rule x step.next.state step.turn
  owes : (step.next.state.core 0).owed ≡ 0

some_step : (a b : Step) → Some a ≡ Some b → a ≡ b
some_step a b e = cc

charges_then : (s t new : State) (f u : ℕ) → Keeps s t → Charges t new f u → Charges s new f u
charges_then s t new f u k c =
    let b = c.budget in
    let kb = k.budgets f in
    let sp = c.spent in
    let ks = k.spent in
    record {
      budget = omega (arith, b, kb);
      others = λ g other. c.others g other ∙ k.budgets g;
      spent = omega (arith, sp, ks);
      back = c.back ∙ k.back;
      owed = c.owed;
    }

keeps_then : (s t new : State) → Keeps s t → Keeps t new → Keeps s new
keeps_then s t new a b = record {
  budgets = λ g. b.budgets g ∙ a.budgets g;
  spent = b.spent ∙ a.spent;
  back = b.back ∙ a.back;
  owed = b.owed ∙ a.owed;
}

nothing : (s new : State) → (s.core 0).owed ≡ 0 → Keeps s new → ChargesNothing s new
nothing s new owes k = record { budgets = k.budgets; spent = k.spent; back = k.back; owed = k.owed ∙ owes }

module _ (rule : Rule) (x : Progress) (owes : (x.state.core 0).owed ≡ 0) where
  module _ (c : Choice) (is : chosen x.state rule x.time 0 x.jobs ≡ Some c) where
    tells : IsReady x.state rule x.time c.job c.ready
    tells = ready_tells x.state rule x.time c.job c.ready (best x.state rule x.time 0 x.jobs c is).is_ready

    small : length_of rule x c ≤ c.ready.budget
    small = let a = cut_most (next_arrival x.time x.jobs) x.time (min rule.quantum (min c.job.left c.ready.budget)) in omega (arith, a)

    refused_exact : (s : State) (calls : List Call) → Keeps x.state s → (r : Reply) → Turn_exact rule x (refused x c s calls r)
    refused_exact s calls k r = record { charges = nothing x.state s owes k; owes = k.owed ∙ owes }

    -- The ticks, in a state of the turn in which the core is on the temporal capability that the task's name reached.
    ticks_exact : (s : State) (calls : List Call) → Keeps x.state s → (s.core 0).tcap ≡ c.ready.tcap
        → Turn_exact rule x (ticks x c s calls (length_of rule x c))
    ticks_exact s calls k on = by_done (is_done (reply_to s (Tick (length_of rule x c)))) refl
      where
        budget : (tcap_at s (s.core 0).tcap).budget ≡ c.ready.budget
        budget = ap (λ f. (tcap_at s f).budget) on ∙ k.budgets c.ready.tcap ∙ tells.budget

        by_done : (d : Bool) → is_done (reply_to s (Tick (length_of rule x c))) ≡ d
            → Turn_exact rule x
            (if d then ran x c (state_past s (Tick (length_of rule x c))) (calls ++ Tick (length_of rule x c) ∷ []) (length_of rule x c)
            else refused x c (state_past s (Tick (length_of rule x c))) (calls ++ Tick (length_of rule x c) ∷ [])
            (reply_to s (Tick (length_of rule x c))))
        by_done true done =
            let some = tells.some in
            let paid = tick_charges s (length_of rule x c) (k.owed ∙ owes)
            (omega (arith, budget, some)) (omega (arith, budget, small)) done in
            record {
              charges = record {
                choice = c;
                is_chosen = is;
                task = refl;
                charges = subst (λ f. Charges x.state (state_past s (Tick (length_of rule x c))) f (length_of rule x c)) on
                    (charges_then x.state s (state_past s (Tick (length_of rule x c))) (s.core 0).tcap (length_of rule x c) k paid);
              };
              owes = paid.owed;
            }
        by_done false off = refused_exact (state_past s (Tick (length_of rule x c))) (calls ++ Tick (length_of rule x c) ∷ [])
            (keeps_then x.state s (state_past s (Tick (length_of rule x c))) k (tick_keeps s (length_of rule x c) off))
            (reply_to s (Tick (length_of rule x c)))

    runs_exact : Turn_exact rule x (runs x c (length_of rule x c))
    runs_exact = by_going (goes_on x c) refl
      where
        by_going : (d : Bool) → goes_on x c ≡ d
            → Turn_exact rule x
            (if d then ticks x c x.state [] (length_of rule x c) else switches x c (switch_for c.job.task) (length_of rule x c))
        by_going true on = ticks_exact x.state [] (same_keeps x.state)
            (eqb-true (x.state.core 0).tcap c.ready.tcap (and_parts (is_place x.last c.index) ((x.state.core 0).tcap == c.ready.tcap) on).1)
        by_going false off = by_switch (is_done (reply_to x.state (switch_for c.job.task))) refl
          where
            by_switch : (d : Bool) → is_done (reply_to x.state (switch_for c.job.task)) ≡ d
                → Turn_exact rule x
                (if d then ticks x c (state_past x.state (switch_for c.job.task)) (switch_for c.job.task ∷ []) (length_of rule x c)
                else refused x c (state_past x.state (switch_for c.job.task)) (switch_for c.job.task ∷ [])
                (reply_to x.state (switch_for c.job.task)))
            by_switch true done = ticks_exact (state_past x.state (switch_for c.job.task)) (switch_for c.job.task ∷ [])
                (switch_keeps x.state c.job.task.thread c.job.task.tcap)
                (switch_sets x.state c.job.task.thread c.job.task.tcap tells.cap tells.reaches done ∙ tells.frame)
            by_switch false off = refused_exact (state_past x.state (switch_for c.job.task)) (switch_for c.job.task ∷ [])
                (switch_keeps x.state c.job.task.thread c.job.task.tcap) (reply_to x.state (switch_for c.job.task))

  -- The turn in which a job arrives.
  renews_exact : (r : Renewal) → renewal x.time 0 x.jobs ≡ Some r → Turn_exact rule x (renews x r (replenish_for r.job))
  renews_exact r is = by_done (is_done (reply_to x.state (replenish_for r.job))) refl
    where
      by_done : (d : Bool) → is_done (reply_to x.state (replenish_for r.job)) ≡ d
          → Turn_exact rule x
          (if d then gives_back x r (replenish_for r.job)
          else put_out x r.index r.job (state_past x.state (replenish_for r.job)) (replenish_for r.job ∷ [])
          (reply_to x.state (replenish_for r.job)))
      by_done true done =
          let given = replenish_restores x.state r.job.task.tcap r.job.used owes done in
          record {
            charges = record {
              come = r;
              has_come = is;
              task = refl;
              used = refl;
              tcap = given.tcap;
              led = given.led;
              restores = given.restores;
            };
            owes = given.restores.owed;
          }
      by_done false off =
          let k = replenish_keeps x.state r.job.task.tcap r.job.used off in
          record { charges = nothing x.state (state_past x.state (replenish_for r.job)) owes k; owes = k.owed ∙ owes }

  turn_exact : (step : Step) → turn_of rule x ≡ Some step → Turn_exact rule x step
  turn_exact step e = by_come (renewal x.time 0 x.jobs) refl e
    where
      by_arrival : (a : Option ℕ) → idles x a ≡ Some step → Turn_exact rule x step
      by_arrival None e = absurd (cc)
      by_arrival (Some at) e = subst (Turn_exact rule x) (some_step _ step e)
          (record { charges = nothing x.state x.state owes (same_keeps x.state); owes = owes })

      by_choice : (o : Option Choice) → chosen x.state rule x.time 0 x.jobs ≡ o → turn_by rule x o ≡ Some step → Turn_exact rule x step
      by_choice None is e = by_arrival (next_arrival x.time x.jobs) e
      by_choice (Some c) is e = subst (Turn_exact rule x) (some_step (runs x c (length_of rule x c)) step e) (runs_exact c is)

      by_come : (o : Option Renewal) → renewal x.time 0 x.jobs ≡ o → turn_for rule x o ≡ Some step → Turn_exact rule x step
      by_come None is e = by_choice (chosen x.state rule x.time 0 x.jobs) refl e
      by_come (Some r) is e =
          subst (Turn_exact rule x) (some_step (renews x r (replenish_for r.job)) step e) (renews_exact r is)

pub exact_ticks : ExactTicks
exact_ticks rule x [] is owes = tt
exact_ticks rule x (step ∷ steps) is owes =
    let one = turn_exact rule x owes step is.0 in
    (one.charges, exact_ticks rule step.next steps is.1 one.owes)
