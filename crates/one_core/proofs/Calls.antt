-- A call of a seat whose kernel has one core is answered as the sequential kernel does after the calls before it.
use Rattle.core_kernel.specs.flight_laws.specs.flight.proofs.{◌≡◌, ℕ, List, [], ◌∷◌, ◌++◌, Some, refl, sym, ◌∙◌, ap, subst, Setting, Call}
use Rattle.core_kernel.specs.flight_laws.specs.flight.proofs.{Reply, Step, Trace, calls_of, IsLegal}
use Rattle.core_kernel.specs.{KernelValue, CoreSeatValue, HasSeen, MakesCall}
use Rattle.{core_kernel.specs.kernel_history.specs.Alone.KeepsFirst, core_kernel.proofs.Lists.calls_of-append}
use Rattle.{one_core_laws.proofs.Plain.returns_plainly, sched_start.specs.sched_rules.specs.Schedule.reply_to}
use Rattle.{sched_run.specs.fixed_prio.specs.Machines.after_calls}

-- One call more is made.
pub made_more : (s made : CoreSeatValue) (call : Call) (r : Reply) → s.core ≡ 0 → MakesCall s call r made
    → calls_of made.seen 0 ≡ calls_of s.seen 0 ++ call ∷ []
made_more s made call r own m =
    (λ i. calls_of (m.begins i) 0) ∙ calls_of-append 0 m.since s.seen
    ∙ ap (λ l. calls_of s.seen 0 ++ l) (subst (λ c. calls_of m.since c ≡ call ∷ []) own m.calls)

-- Its reply.
pub replied : (s made : CoreSeatValue) (call : Call) (r : Reply) → s.core ≡ 0 → s.kernel.setup.cores ≡ 1 → MakesCall s call r made
    → HasSeen made → r ≡ reply_to (after_calls s.kernel.setup (calls_of s.seen 0)) call
unfolding reply_to after_calls
replied s made call r own one m seen =
    let setup : Setting = s.kernel.setup in
    let end = m.returns in
    let legal : IsLegal setup (end.step ∷ end.older) =
    subst (IsLegal setup) end.whole (subst (λ (k : KernelValue). IsLegal k.setup made.seen) m.kernel seen.history.legal) in
    let first : KeepsFirst setup (end.step ∷ end.older) =
    subst (KeepsFirst setup) end.whole (subst (λ (k : KernelValue). KeepsFirst k.setup made.seen) m.kernel seen.history.alone) in
    returns_plainly setup one end.step end.older legal first r end.returns (calls_of s.seen 0) call
    (ap (λ (t : Trace). calls_of t 0) (sym end.whole) ∙ made_more s made call r own m)
