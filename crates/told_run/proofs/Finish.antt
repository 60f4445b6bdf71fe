-- At the end of a run the watcher has seen the trace for which the machine stands.
use Rattle.lone_kernel.specs.flight.proofs.{◌≡◌, inl, inr, ℕ, List, [], length, sym, ◌∙◌, ap, subst, arith, get_or_past, Setting, IsSetting}
use Rattle.lone_kernel.specs.flight.proofs.{Call, Item, Trace, HasCalls, ready_after, IsMade, made_of_its_cores}
use Rattle.told_run.specs.{GivenWatched.GivenWatched, Watching.Watching, Watching.Watches}
use Rattle.{told_run.specs.GoesByItems, told_run.specs.RunsCoresOut, lone_kernel.specs.core_invariant.specs.FollowsItems}
use Rattle.{lone_kernel.specs.core_invariant.specs.FollowsCores, std.proofs.lemmas.Bool.cases_lt}
use Rattle.{lone_kernel.specs.trace_laws.proofs.Idle.all_idle, lone_kernel.specs.flight_laws.specs.Histories.MadeHistories}

module _ {W : Type 0} (Seen : Setting → W → Trace → W → Type 0) (setup : Setting) (lists : List (List Call)) (items : List Item)
    (s0 s1 s2 : Watching W)
    (setup0 : s0.machine.setup ≡ setup) (setup1 : s1.machine.setup ≡ s0.machine.setup) (setup2 : s2.machine.setup ≡ s1.machine.setup)
    (lists0 : s0.machine.lists ≡ lists) (lists1 : s1.machine.lists ≡ s0.machine.lists) (lists2 : s2.machine.lists ≡ s1.machine.lists)
    (setting : IsSetting setup) (one_each : length lists ≡ setup.cores) (boots : Watches W Seen s0.watcher s0 [])
    (first : GoesByItems Seen s0 s1 items) (then_out : RunsCoresOut Seen s1 s2 s1.machine.setup.cores) (histories : MadeHistories) where
  pub given : GivenWatched W Seen setup lists items s0.watcher s2.watcher
  given =
      let a = first s0.watcher [] boots in
      let b = then_out s0.watcher a.after a.watches in
      let t = b.after in
      let same1 : s1.machine.setup ≡ setup = setup1 ∙ setup0 in
      let same2 : s2.machine.setup ≡ setup = setup2 ∙ same1 in
      let cores : s1.machine.setup.cores ≡ length lists = ap (λ s. s.cores) same1 ∙ sym one_each in
      let by_cores : FollowsCores lists (length lists) a.after t =
      subst (λ (k : ℕ). FollowsCores lists k a.after t) cores
      (subst (λ l. FollowsCores l s1.machine.setup.cores a.after t) (lists1 ∙ lists0) b.is) in
      let by_items : FollowsItems (ready_after setup) lists items [] a.after =
      subst (λ s. FollowsItems (ready_after s) lists items [] a.after) setup0
      (subst (λ l. FollowsItems (ready_after s0.machine.setup) l items [] a.after) lists0 a.is) in
      let made : IsMade setup t = subst (λ s. IsMade s t) same2 b.watches.stands.made in
      let calls : HasCalls lists t = λ c. elim (cases_lt c setup.cores) [
        | inl h ↦ all_idle lists (length lists) a.after t by_cores c (omega arith)
        | inr past ↦
            let away = made_of_its_cores setup t made c past in
            record { out = away.out; finished = away.none ∙ sym (get_or_past lists c [] (omega arith)) }
      ] in
      record {
        trace = t;
        setting = setting;
        history = histories setup setting t made;
        calls = calls;
        order = record { ordered = a.after; by_items = by_items; by_cores = by_cores };
        seen = subst (λ s. Seen s s0.watcher t s2.watcher) same2 b.watches.seen;
        out = λ c. (calls c).out;
      }
