-- A machine that stands for a trace stands, after a step, for the trace with that step.
use Rattle.flight_laws.specs.flight.proofs.{◌≡◌, inl, inr, ℕ, ◌+◌, ◌<◌, ◌≤◌, ◌++◌, List, [], ◌∷◌, length, take, get_or, Option, Some, None}
use Rattle.flight_laws.specs.flight.proofs.{arith, refl, sym, ◌∙◌, ap, subst, option_to_list, option_map, append-nil, length-take-le}
use Rattle.flight_laws.specs.flight.proofs.{take_more, take_all, Call, IsSetting, Word, Shape, IsIn, place_of, word_of, put_same, put_other}
use Rattle.flight_laws.specs.flight.proofs.{Step, Trace, phase, last_left, calls_of, decision_at, IsIdle, cases_word, calls_of-own}
use Rattle.flight_laws.specs.flight.proofs.{last_left-here, last_left-there, shape_of, Core, IsCore, move_of, turned, MayStep, cores_after}
use Rattle.flight_laws.specs.flight.proofs.{stepping_core, made_phases, moves_are_words}
use Rattle.lone_kernel.specs.{seat_at, core_at, list_at, turn_if, turn_at, IsFinished, IsFit, CanTake, core_in, begun_by, place_next}
use Rattle.lone_kernel.specs.{found_by, stepped, StandsFor, calls_begun, GoesFurther, StepsOnce}
use Rattle.boot_words.specs.kernel_history.proofs.{get_or-set_same, get_or-set_other, IsShape, has_places, decisions_of, calls_of-other}
use Rattle.flight_laws.specs.flight.specs.{core_after, IsMadeStep, step_of}
use Rattle.lone_kernel.specs.{declared.seats.Turn.Turn, declared.seats.Turn.TheVariants.Begins, declared.seats.Turn.TheVariants.GoesOn}
use Rattle.lone_kernel.specs.{Machine.Machine, Machine.enters_as, Machine.step_in, Moves.MovesTo, Moves.StaysIdle}
use Rattle.lone_kernel.proofs.Fits.{IsOf, is_of, seat_same, seat_there}
use Rattle.{std.proofs.lemmas.Bool.cases_eq, std.proofs.lemmas.Option.slice_get_cases, boot_words.specs.kernel_history.specs.Order.MakesOne}
use Rattle.{flight_laws.specs.flight.specs.Phases.IsInPhase, call_steps.specs.call_stages.specs.declared.stages.ActiveCall.ActiveCall}

may_step : (core : Core) (f : Turn) → CanTake f core → MayStep (enters_as f) core
may_step core (Begins call) can = record { between = can.between; limits = can.limits }
may_step core GoesOn can = can

-- the next step of a core that takes its turn is on a word of its machine
pub word_next : (core : Core) (f : Turn) → IsCore core → CanTake f core → IsIn core.own.layout (word_of (move_of (core_in core f)))
word_next core (Begins call) fits can = fits.own.core
word_next core GoesOn fits can = moves_are_words core fits can

-- where the core stands is where the trace is
pub phase_is : (m : Machine) (t : Trace) (c : ℕ) → IsSetting m.setup → c < m.setup.cores → StandsFor m t
    → IsInPhase (core_at m c) (phase t c)
phase_is m t c setting here stands = subst (λ k. IsInPhase k (phase t c)) (sym (stands.cores c here))
    (made_phases m.setup setting t stands.made c here)

finished_if : (list : List Call) (n : ℕ) (o : Option ActiveCall) → turn_if list n o ≡ None → (o ≡ None) × (length list ≤ n)
finished_if list n None none = elim (slice_get_cases list n).1 [
  | inl found ↦ absurd (some_is found.0 (ap (option_map Begins) (sym found.2) ∙ none))
  | inr past ↦ (refl, past.0)
] where
  some_is : (call : Call) → Some (Begins call) ≡ None → ⊥
  some_is call h = cc
finished_if list n (Some f) none = absurd (cc)

-- a core that has no turn is idle
pub stays_idle : (m : Machine) (c : ℕ) → IsSetting m.setup → c < m.setup.cores → IsFinished m c → StaysIdle m m c
stays_idle m c setting here none = record {
  same = refl;
  idle = λ t stands.
      let done = finished_if (list_at m c) (seat_at m c).begun (core_at m c).active none in
      record {
        out = (phase_is m t c setting here stands).out done.0;
        finished = stands.calls c here ∙ take_all (seat_at m c).begun (list_at m c) done.1;
      };
}

entered_more : (list : List Call) (begun due : ℕ) (state : Core) (o : Option ActiveCall) (f : Turn) → state.active ≡ o
    → turn_if list begun o ≡ Some f →
    take begun list ++ option_to_list (enters_as f) ≡ take (begun_by f begun) list
entered_more list begun due state None f is begins = elim (slice_get_cases list begun).1 [
  | inl found ↦
      let call = found.0 in
      let same : Begins call ≡ f = inj (Begins call) f (ap (option_map Begins) (sym found.2) ∙ begins) in
      subst (λ g. take begun list ++ option_to_list (enters_as g) ≡ take (begun_by g begun) list) same
      (sym (take_more list begun call found.1 ∙ ap (λ x. take begun list ++ x ∷ []) found.3))
  | inr past ↦ absurd (none_is (ap (option_map Begins) (sym past.1) ∙ begins))
] where
  inj : (x y : Turn) → Some x ≡ Some y → x ≡ y
  inj x y h = cc

  none_is : None ≡ Some f → ⊥
  none_is h = cc
entered_more list begun due state (Some g) GoesOn is begins = append-nil (take begun list)
entered_more list begun due state (Some g) (Begins call) is begins = absurd (cc)

module _ (m : Machine) (t : Trace) (c : ℕ) (f : Turn) (fit : IsFit m) (setting : IsSetting m.setup) (here : c < m.setup.cores)
    (begins : turn_at m c ≡ Some f) (stands : StandsFor m t) where
  abbrev shape : Shape
  shape = shape_of m.setup

  abbrev core1 : Core
  core1 = core_in (core_at m c) f

  abbrev e : Step
  e = step_in m c f

  of : IsOf (list_at m c) (seat_at m c) f
  of = is_of m c f fit here begins

  is_shape : IsShape shape
  is_shape = record {
    some_core = setting.some_core;
    most_cores = setting.most_cores;
    least_frames = setting.least_frames;
    most_frames = setting.most_frames;
  }

  word : IsIn shape (word_of (move_of core1))
  word = subst (λ s. IsIn s (word_of (move_of core1))) (fit.each c here).shape (word_next (core_at m c) f (fit.each c here).fits of.can)

  found_here : found_by m c f ≡ last_left m.setup t (word_of (move_of core1))
  found_here = stands.words (word_of (move_of core1)) word

  -- the core of the trace is that of the machine
  core_here : stepping_core m.setup t e ≡ core1
  core_here = ap (turned (enters_as f)) (sym (stands.cores c here))

  pub step_made : IsMadeStep m.setup t e
  step_made = record {
    is_core = here;
    may = subst (λ k. MayStep (enters_as f) k) (stands.cores c here) (may_step (core_at m c) f of.can);
    found = found_here;
    made = ap (λ k. step_of c (enters_as f) k (found_by m c f)) (sym core_here);
  }

  cores_on : (d : ℕ) → d < m.setup.cores → core_at (stepped m c f) d ≡ cores_after m.setup (e ∷ t) d
  cores_on d h = elim (cases_eq d c) [
    | inl same ↦
        ap (λ s. s.state) (seat_same m c f fit here begins d same)
        ∙ ap (λ k. core_after k (found_by m c f)) (sym core_here)
        ∙ sym (put_same (cores_after m.setup t) c (core_after (stepping_core m.setup t e) (found_by m c f)) d same)
    | inr apart ↦
        ap (λ s. s.state) (seat_there m c f fit here begins d apart)
        ∙ stands.cores d h
        ∙ sym (put_other (cores_after m.setup t) c (core_after (stepping_core m.setup t e) (found_by m c f)) d apart)
  ]

  in_words : place_next shape core1 < length m.words
  in_words = let n = fit.size in let low = (has_places shape is_shape).below (word_of (move_of core1)) word in omega arith

  words_on : (w : Word) → IsIn shape w → get_or (stepped m c f).words (place_of shape w) 0 ≡ last_left m.setup (e ∷ t) w
  words_on w is_in = elim (cases_word w (word_of (move_of core1))) [
    | inl same ↦
        ap (λ (n : ℕ). get_or (stepped m c f).words n 0) (ap (place_of shape) same)
        ∙ get_or-set_same m.words (place_next shape core1) _ 0 in_words
        ∙ sym (last_left-here m.setup w e t same)
    | inr apart ↦
        get_or-set_other m.words (place_next shape core1) (place_of shape w) _ 0
        (λ h. apart ((has_places shape is_shape).distinct w _ is_in word h))
        ∙ stands.words w is_in
        ∙ sym (last_left-there m.setup w e t apart)
  ]

  own_calls : calls_of (e ∷ t) c ≡ take (begun_by f (seat_at m c).begun) (list_at m c)
  own_calls = calls_of-own c e t refl ∙ ap (λ x. x ++ option_to_list (enters_as f)) (stands.calls c here)
      ∙ entered_more (list_at m c) (seat_at m c).begun (seat_at m c).due (core_at m c) (core_at m c).active f refl begins

  calls_on : (d : ℕ) → d < m.setup.cores → calls_of (e ∷ t) d ≡ take (seat_at (stepped m c f) d).begun (list_at m d)
  calls_on d h = elim (cases_eq d c) [
    | inl same ↦
        ap (calls_of (e ∷ t)) same ∙ own_calls ∙ ap (λ (i : ℕ). take (begun_by f (seat_at m c).begun) (list_at m i)) (sym same)
        ∙ ap (λ k. take k.begun (list_at m d)) (sym (seat_same m c f fit here begins d same))
    | inr apart ↦
        calls_of-other d e t apart ∙ stands.calls d h ∙ ap (λ k. take k.begun (list_at m d))
        (sym (seat_there m c f fit here begins d apart))
  ]

  count_now : length (calls_of (e ∷ t) c) ≡ begun_by f (seat_at m c).begun
  count_now = ap length own_calls ∙ length-take-le (begun_by f (seat_at m c).begun) (list_at m c) of.within

  pub stands_on : StandsFor (stepped m c f) (e ∷ t)
  stands_on = record {
    made = (stands.made, step_made);
    cores = cores_on;
    words = words_on;
    calls = calls_on;
    decisions =
        ap (λ x. x ++ decision_at e.decides c (begun_by f (seat_at m c).begun)) stands.decisions
        ∙ ap (λ (n : ℕ). decisions_of t ++ decision_at e.decides c n) (sym count_now);
  }

  -- the core was not idle
  pub not_idle : IsIdle m.lists t c → ⊥
  not_idle idle = of_call (core_at m c).active refl where
    of_call : (o : Option ActiveCall) → (core_at m c).active ≡ o → ⊥
    of_call None is =
        let n : length (calls_of t c) ≡ (seat_at m c).begun = ap length (stands.calls c here)
        ∙ length-take-le (seat_at m c).begun (list_at m c) (fit.each c here).begun in
        let k : length (calls_of t c) ≡ length (list_at m c) = ap length idle.finished in
        let one_more : begun_by f (seat_at m c).begun ≡ (seat_at m c).begun + 1 = of.counts
        ∙ ap (λ o. calls_begun o (seat_at m c).begun) is in
        let within = of.within in
        omega arith
    of_call (Some g) is = (phase_is m t c setting here stands).in_call (λ none. let both = sym is ∙ none in absurd (cc)) idle.out

  pub one_step : MovesTo m (stepped m c f) c t (λ u. MakesOne c t u)
  one_step = record {
    busy = not_idle;
    after = e ∷ t;
    stands = stands_on;
    is = record { step = e; adds = refl; own = refl };
  }

pub steps_like : {m m0 m' m1 : Machine} {n c : ℕ} → m0 ≡ m → m' ≡ m1 → n ≡ c → StepsOnce m0 m1 n → StepsOnce m m' c
steps_like {m} {m0} {m'} {m1} {n} {c} old new core goes =
    subst (λ (k : ℕ). StepsOnce m m' k) core (subst (λ x. StepsOnce x m' n) old (subst (λ x. StepsOnce m0 x n) (sym new) goes))

pub further_like : {m m0 m' m1 : Machine} {n c : ℕ} → m0 ≡ m → m' ≡ m1 → n ≡ c → GoesFurther m0 m1 n → GoesFurther m m' c
further_like {m} {m0} {m'} {m1} {n} {c} old new core less =
    subst (λ (k : ℕ). GoesFurther m m' k) core (subst (λ x. GoesFurther x m' n) old (subst (λ x. GoesFurther m0 x n) (sym new) less))
