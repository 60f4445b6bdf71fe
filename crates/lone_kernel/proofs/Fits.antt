-- A machine that fits still does after a step, and has less to do.
use Rattle.flight_laws.specs.flight.specs.step_ways.proofs.{◌≡◌, ◌≢◌, inl, inr, ℕ, ◌+◌, ◌<◌, ◌≤◌, List, [], length, get_or, Option, Some}
use Rattle.flight_laws.specs.flight.specs.step_ways.proofs.{None, arith, refl, sym, ◌∙◌, ap, subst, false, set as slice_set, sum_by, All}
use Rattle.flight_laws.specs.flight.specs.step_ways.proofs.{option_map, IsSome, InLimits, Call, Setting, decision_at, Core, IsCore}
use Rattle.flight_laws.specs.flight.specs.step_ways.proofs.{steps_left, Own, Works, core_after, told_by, absorbed, told_of_step}
use Rattle.flight_laws.specs.flight.specs.step_ways.proofs.{absorbed_in, told_in, decided_in, Absorbed, ActiveCall, Took, GoesOn as TookOn}
use Rattle.flight_laws.specs.flight.specs.step_ways.proofs.{Decides, Returns, Changes, took}
use Rattle.lone_kernel.specs.{seat_at, core_at, list_at, fresh_seat, turn_if, turn_of, turn_at, due_at, due_in, IsFitSeat, IsFit, CanTake}
use Rattle.lone_kernel.specs.{core_in, begun_by, decisions_in, said_by, seat_after, found_by, stepped, calls_begun, GoesFurther}
use Rattle.std.proofs.Common.{get_or-set_same, get_or-set_other, length-set}
use Rattle.flight_laws.specs.flight.specs.{is_decided_at, is_decided_in}
use Rattle.std.proofs.{lemmas.Bool.cases_eq, lemmas.List.Sums.sum_by-set, lemmas.Option.slice_get_cases}
use Rattle.call_steps.specs.act_states.specs.declared.own.OwnChange.TheVariants.{Ticks, GivesBack, Empties, Caches, Switches}
use Rattle.call_steps.specs.call_stages.specs.declared.stages.Absorbed.TheVariants.{Going, Decided, Returned}
use Rattle.lone_kernel.specs.{declared.seats.Seat.Seat, declared.seats.Turn.Turn, declared.seats.Turn.TheVariants.Begins}
use Rattle.lone_kernel.specs.{declared.seats.Turn.TheVariants.GoesOn, Machine.Machine}
use Rattle.{flight_laws.specs.flight.specs.Decided.Turns, flight_laws.specs.flight.proofs.Phases.took_turns}
use Rattle.{lone_kernel.proofs.Small.steps_small}

some_inj : {A : Type 0} (x y : A) → Some x ≡ Some y → x ≡ y
some_inj x y h = cc

-- what a turn of a fit seat is: the core may take it, and the calls begun after it are of the list
pub record IsOf (list : List Call) (seat : Seat) (f : Turn) : Type 0 where
  pub can : CanTake f seat.state
  pub within : begun_by f seat.begun ≤ length list
  pub counts : begun_by f seat.begun ≡ calls_begun seat.state.active seat.begun
  pub due : begun_by f seat.begun + seat.due ≡ length list + due_in (core_in seat.state f).active
  pub in_call : IsSome (core_in seat.state f).active
  pub goes_on : seat.state.active ≢ None → core_in seat.state f ≡ seat.state

of_call : (list : List Call) (begun due : ℕ) (state : Core) (o : Option ActiveCall) (f : Turn) → state.active ≡ o → All InLimits list →
    begun + due ≡ length list + due_in o → begun ≤ length list → turn_if list begun o ≡ Some f →
    IsOf list (record { begun = begun; due = due; state = state }) f
of_call list begun due state None f is calls sum low begins = elim (slice_get_cases list begun).1 [
  | inl found ↦
      let call = found.0 in
      let same : Begins call ≡ f = some_inj (Begins call) f (ap (option_map Begins) (sym found.2) ∙ begins) in
      let within : begun < length list = found.1 in
      subst (λ g. IsOf list (record { begun = begun; due = due; state = state }) g) same record {
        can = record { between = is; limits = subst InLimits found.3 (calls begun call within) };
        within = omega arith;
        counts = ap (λ o. calls_begun o begun) (sym is);
        due = omega arith;
        in_call = refl;
        goes_on = λ some. absurd (some is);
      }
  | inr past ↦ absurd (none_is (ap (option_map Begins) (sym past.1) ∙ begins))
] where
  none_is : None ≡ Some f → ⊥
  none_is h = cc
of_call list begun due state (Some g) f is calls sum low begins =
    subst (λ h. IsOf list (record { begun = begun; due = due; state = state }) h) (some_inj GoesOn f begins) record {
      can = subst IsSome (sym is) refl;
      within = low;
      counts = ap (λ o. calls_begun o begun) (sym is);
      due = sum ∙ ap (λ o. length list + due_in o) (sym is);
      in_call = subst IsSome (sym is) refl;
      goes_on = λ some. refl;
    }

pub turn_is : (setup : Setting) (list : List Call) (c : ℕ) (seat : Seat) (f : Turn) → IsFitSeat setup list c seat → All InLimits list
    → turn_of list seat ≡ Some f → IsOf list seat f
turn_is setup list c seat f fit calls begins =
    of_call list seat.begun seat.due seat.state seat.state.active f refl calls fit.sum fit.begun begins

-- what one decides is due before it and not after it
pub record Counts (before after : Option ActiveCall) (said : Absorbed) : Type 0 where
  pub due : due_in before ≡ due_in after + decisions_in said

counts_took : (own : Own) (f : ActiveCall) (k : Took) → Turns (is_decided_at f.stage) k
    → Counts (Some f) (core_after own k).active (told_by k)
counts_took own f (TookOn g) turns = record { due = ap due_at (sym turns) ∙ omega arith }
counts_took own f (Decides r g) turns = record { due = ap due_at turns.0 ∙ ap (λ b. due_at b + 1) (sym turns.1) }
counts_took own f (Returns r x) turns = record { due = ap due_at turns }
counts_took own f (Changes r change g) turns = record { due = ap due_at turns.0 ∙ ap (λ b. due_at b + 1) (sym turns.1) }

counts_in : (own : Own) (o : Option ActiveCall) (found : ℕ) → IsSome o → Counts o (absorbed_in own o found).active (told_in own o found)
counts_in own None found some = absurd (cc)
counts_in own (Some f) found some = counts_took own f (took own f found) (took_turns own f found)

pub counts_absorbed : (core : Core) (found : ℕ) → IsSome core.active
    → Counts core.active (absorbed core found).active (told_of_step core found)
counts_absorbed core found some = counts_in core.own core.active found some

-- a step leaves the core the one it is, and its machine
pub record IsTheSame (own own' : Own) : Type 0 where
  pub core : own'.core ≡ own.core
  pub layout : own'.layout ≡ own.layout

same_took : (own : Own) (k : Took) → IsTheSame own (core_after own k).own
same_took own (TookOn g) = record { core = refl; layout = refl }
same_took own (Decides r g) = record { core = refl; layout = refl }
same_took own (Returns r x) = record { core = refl; layout = refl }
same_took own (Changes r (Ticks charged owed) g) = record { core = refl; layout = refl }
same_took own (Changes r (GivesBack ticks) g) = record { core = refl; layout = refl }
same_took own (Changes r Empties g) = record { core = refl; layout = refl }
same_took own (Changes r (Works comp table pages depth) g) = record { core = refl; layout = refl }
same_took own (Changes r (Caches item) g) = record { core = refl; layout = refl }
same_took own (Changes r (Switches thread depth comp table pages tcap) g) = record { core = refl; layout = refl }

pub same_in : (own : Own) (o : Option ActiveCall) (found : ℕ) → IsTheSame own (absorbed_in own o found).own
same_in own None found = record { core = refl; layout = refl }
same_in own (Some f) found = same_took own (took own f found)

turned_core : (core : Core) (f : Turn) → (core_in core f).own.core ≡ core.own.core
turned_core core (Begins call) = refl
turned_core core GoesOn = refl

pub turned_shape : (core : Core) (f : Turn) → (core_in core f).own.layout ≡ core.own.layout
turned_shape core (Begins call) = refl
turned_shape core GoesOn = refl

stays_took : (own : Own) (k : Took) → Turns false k → (core_after own k).active ≢ None
stays_took own (TookOn g) turns none = cc
stays_took own (Decides r g) turns none = cc
stays_took own (Returns r x) turns none = cc
stays_took own (Changes r change g) turns none = cc

stays_absorbed : (own : Own) (o : Option ActiveCall) (found : ℕ) → IsSome o → is_decided_in o ≡ false
    → (absorbed_in own o found).active ≢ None
stays_absorbed own None found some h = absurd (cc)
stays_absorbed own (Some f) found some h = stays_took own (took own f found) (subst (λ b. Turns b (took own f found)) h
    (took_turns own f found))

pub undecided_turn : (core : Core) (f : Turn) → is_decided_in core.active ≡ false → is_decided_in (core_in core f).active ≡ false
undecided_turn core (Begins call) h = refl
undecided_turn core GoesOn h = h

module _ (m : Machine) (c : ℕ) (f : Turn) (fit : IsFit m) (here : c < m.setup.cores) (begins : turn_at m c ≡ Some f) where
  abbrev core1 : Core
  core1 = core_in (core_at m c) f

  abbrev said : Absorbed
  said = said_by core1 (found_by m c f)

  abbrev seat' : Seat
  seat' = seat_after (seat_at m c) f (found_by m c f)

  pub is_of : IsOf (list_at m c) (seat_at m c) f
  is_of = turn_is m.setup (list_at m c) c (seat_at m c) f (fit.each c here) (fit.calls c here) begins

  counts : Counts core1.active seat'.state.active said
  counts = counts_absorbed core1 _ is_of.in_call

  -- one that decides was due
  pub was_due : decisions_in said ≤ (seat_at m c).due
  was_due =
      let all = is_of.due in
      let low = is_of.within in
      let once = counts.due in
      omega arith

  fits_seat : IsCore seat'.state → IsFitSeat m.setup (list_at m c) c seat'
  fits_seat fits = record {
    sum = (let all = is_of.due in let low = is_of.within in let once = counts.due in let was = was_due in omega arith);
    begun = is_of.within;
    small = (fit.each c here).small;
    core = (same_in core1.own core1.active _).core ∙ turned_core (core_at m c) f ∙ (fit.each c here).core;
    shape = (same_in core1.own core1.active _).layout ∙ turned_shape (core_at m c) f ∙ (fit.each c here).shape;
    fits = fits;
  }

  -- a call that was not decided is still active
  stays_behind : is_decided_in (core_at m c).active ≡ false → seat'.state.active ≢ None
  stays_behind undecided = stays_absorbed core1.own core1.active _ is_of.in_call (undecided_turn (core_at m c) f undecided)

  in_seats : c < length m.seats
  in_seats = let n = fit.seats in omega arith

  pub seat_same : (d : ℕ) → d ≡ c → seat_at (stepped m c f) d ≡ seat'
  seat_same d is = ap (λ (i : ℕ). get_or (slice_set m.seats c seat') i (fresh_seat m.setup i [])) is
      ∙ get_or-set_same m.seats c seat' (fresh_seat m.setup c []) in_seats

  pub seat_there : (d : ℕ) → d ≢ c → seat_at (stepped m c f) d ≡ seat_at m d
  seat_there d is = get_or-set_other m.seats c d seat' (fresh_seat m.setup d []) is

  pub fits_on : IsCore seat'.state → IsFit (stepped m c f)
  fits_on fits = record {
    size = length-set m.words _ _ ∙ fit.size;
    lists = fit.lists;
    seats = length-set m.seats c seat' ∙ fit.seats;
    calls = fit.calls;
    each = λ d h. elim (cases_eq d c) [
      | inl same ↦
          subst (λ k. IsFitSeat m.setup (list_at m d) d k) (sym (seat_same d same))
          (subst (λ (i : ℕ). IsFitSeat m.setup (list_at m i) i seat') (sym same) (fits_seat fits))
      | inr apart ↦
          subst (λ k. IsFitSeat m.setup (list_at m d) d k) (sym (seat_there d apart)) (fit.each d h)
    ];
  }

  -- the decisions made and those due add up to what they were
  pub due_on : sum_by (λ seat. seat.due) (stepped m c f).seats + decisions_in said ≡ sum_by (λ seat. seat.due) m.seats
  due_on =
      let s = sum_by-set (λ seat. seat.due) m.seats c seat' (fresh_seat m.setup c []) in_seats in
      let was = was_due in
      omega arith

  pub further : IsCore seat'.state → steps_left seat'.state < steps_left core1 → GoesFurther m (stepped m c f) c
  further fits fewer = record {
    few = subst (λ k. steps_left k.state < 1000) (sym (seat_same c refl)) (steps_small seat'.state fits);
    steps = λ some.
        subst (λ k. steps_left k.state < steps_left (core_at m c)) (sym (seat_same c refl))
        (subst (λ k. steps_left seat'.state < steps_left k) (is_of.goes_on some) fewer);
    begun = ap (λ k. k.begun) (seat_same c refl) ∙ is_of.counts;
    within = subst (λ k. k.begun ≤ length (list_at m c)) (sym (seat_same c refl)) is_of.within;
    in_call = λ undecided. subst (λ k. k.state.active ≢ None) (sym (seat_same c refl)) (stays_behind undecided);
  }

-- a decision that is told is one
pub one_decision : (said : Absorbed) → decided_in said ≢ None → decisions_in said ≡ 1
one_decision Going some = absurd (some refl)
one_decision (Decided r) some = refl
one_decision (Returned r) some = absurd (some refl)

pub count_decided : (said : Absorbed) (c i : ℕ) → length (decision_at (decided_in said) c i) ≡ decisions_in said
count_decided Going c i = refl
count_decided (Decided r) c i = refl
count_decided (Returned r) c i = refl

undecided_in : (o : Option ActiveCall) → IsSome o → is_decided_in o ≡ false → due_in o ≡ 1
undecided_in None some h = absurd (cc)
undecided_in (Some f) some h = ap due_at h

-- an undecided call's decision is due
pub undecided_due : (list : List Call) (seat : Seat) (f : Turn) → IsOf list seat f → is_decided_in (core_in seat.state f).active ≡ false
    → 0 < seat.due
undecided_due list seat f of h =
    let all = of.due in
    let low = of.within in
    let one = undecided_in (core_in seat.state f).active of.in_call h in
    omega arith
