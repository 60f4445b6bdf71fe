-- Calls that core 0 makes alone are a run, whose decided ticks are those of its `tick` calls.
use Rattle.kernel_laws.specs.kernel_rules.proofs.{◌≡◌, ℕ, ◌+◌, ◌<◌, List, [], ◌∷◌, All, refl, sym, ◌∙◌, ap, subst, arith, Setting, InLimits}
use Rattle.kernel_laws.specs.kernel_rules.proofs.{Call, Tick, Reply, start, plain_reply, plain_step, plain_steps, Event, Enters, Decides}
use Rattle.kernel_laws.specs.kernel_rules.proofs.{Returns, after, Out, phase_of, IsRun}
use Rattle.kernel_laws.specs.Laws.{ticks_of, ticks_counted, decided_ticks}
use Rattle.{std.proofs.lemmas.List.Elements.All-head, std.proofs.lemmas.List.Elements.All-tail}
use Rattle.{kernel_laws.specs.kernel_rules.specs.State.State, kernel_laws.specs.kernel_rules.proofs.AloneLaw.first_permitted}
use Rattle.{kernel_laws.proofs.Spending.spending_sums, sched_start.specs.Owing.IsNoTick, sched_start.specs.Owing.OwesNothing}

no_ticks : (call : Call) → IsNoTick call → ticks_of call ≡ 0
no_ticks (Tick n) none = absurd none
no_ticks _ none = refl

none_counted : (call : Call) (r : Reply) → IsNoTick call → ticks_counted call r ≡ 0
none_counted call Reply.CallsSpent none = refl
none_counted call _ none = no_ticks call none

-- A state that a run reaches after which core 0 is between calls, and which has decided none of its ticks.
record Reaches (setting : Setting) (s : State) : Type 0 where
  events : List Event
  run : IsRun setting events
  out : phase_of events 0 ≡ Out
  state : after setting events ≡ s
  none : decided_ticks events 0 ≡ 0

one_more : (setting : Setting) (s : State) (call : Call) → 0 < setting.cores → InLimits call → IsNoTick call → Reaches setting s
    → Reaches setting (plain_step s 0 call)
one_more setting s call some fits none r =
    let answer : Reply = plain_reply (after setting r.events) 0 call in
    let counted : ticks_counted call answer ≡ 0 = none_counted call answer none in
    record {
      events = Returns 0 ∷ Decides 0 call answer ∷ Enters 0 call ∷ r.events;
      run = (
        (
          (r.run, record { is_core = some; is_out = r.out; in_limits = fits }),
          record { is_open = refl; permitted = (first_permitted setting (Enters 0 call ∷ r.events) 0 call).permitted },
        ),
        refl,
      );
      out = refl;
      state = ap (λ x. plain_step x 0 call) r.state;
      none = (let old = r.none in omega (arith, counted, old));
    }

reaches : (setting : Setting) (s : State) (calls : List Call) → 0 < setting.cores → All InLimits calls → All IsNoTick calls
    → Reaches setting s → Reaches setting (plain_steps s 0 calls)
reaches setting s [] some fits none r = r
reaches setting s (call ∷ calls) some fits none r =
    reaches setting (plain_step s 0 call) calls some (All-tail InLimits call calls fits) (All-tail IsNoTick call calls none)
    (one_more setting s call some (All-head InLimits call calls fits) (All-head IsNoTick call calls none) r)

pub owes_nothing : OwesNothing
owes_nothing setting some calls fits none =
    let r = reaches setting (start setting) calls some fits none record { events = []; run = tt; out = refl; state = refl; none = refl } in
    let sum = spending_sums setting r.events r.run 0 in
    let none_decided = r.none in
    ap (λ (x : State). (x.core 0).owed) (sym r.state) ∙ omega (arith, sum, none_decided)
