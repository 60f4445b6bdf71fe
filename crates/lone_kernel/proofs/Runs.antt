-- Moves: steps of one core, one after another, until it is there.
use Rattle.flight_laws.specs.flight.proofs as low
use low.{◌≡◌, ◌≢◌, ◌⊎◌, inl, inr, ℕ, ◌-◌, ◌<◌, ◌≤◌, ◌++◌, [], ◌∷◌, length, get_or, arith, refl, sym, ◌∙◌, ap, subst, true, false, Bool}
use low.{Option, Some, None, IsSome, option_map, length-take-le, Call, Setting, IsSetting, put_same, Step, Trace, calls_of, IsIdle, Core}
use Rattle.lone_kernel.specs.{seat_at, core_at, list_at, IsFinished, IsInCall, IsThere, IsDone, turn_if, StandsFor, StepsOnce, GoesBy}
use Rattle.boot_words.specs.kernel_rules.specs.{IsFalse, How, One, Ready, Decide, Return}
use Rattle.lone_kernel.specs.{Machine.Machine, Machine.HasDecided, Moves.work_in, Moves.work_at, Moves.calls_in}
use low.{turned, cores_after, stepping_core, ready_after, Phases.made_events, Phases.decided_is_ready}
use Rattle.{lone_kernel.specs.GoesFurther, lone_kernel.specs.calls_left, lone_kernel.specs.calls_begun}
use Rattle.{flight_laws.specs.flight.specs.is_decided_in, flight_laws.specs.flight.specs.core_after}
use Rattle.{flight_laws.specs.core_invariant.specs.ready_of, flight_laws.specs.core_invariant.specs.ActiveCall}
use Rattle.{boot_words.specs.kernel_history.specs.AreOf, boot_words.specs.kernel_history.specs.Stretch}
use Rattle.{std.proofs.lemmas.List.Elements.All-cons, std.proofs.lemmas.List.Elements.All-nil, std.proofs.lemmas.Option.slice_get_cases}
use Rattle.{boot_words.specs.kernel_history.specs.Order.HaveNone, boot_words.specs.kernel_history.specs.Order.StaysUnready}
use Rattle.{call_steps.specs.call_stages.specs.Fits.left_for, flight_laws.specs.flight.specs.Phases.AreEvents}
use Rattle.{lone_kernel.specs.declared.seats.Turn.TheVariants.Begins, lone_kernel.proofs.Advance.phase_is}

pub begins_in_call : (m : Machine) (c : ℕ) → IsInCall m c → IsFinished m c → ⊥
begins_in_call m c inside none = of_call (core_at m c).active inside none where
  of_call : (o : Option ActiveCall) → o ≢ None → turn_if (list_at m c) (seat_at m c).begun o ≡ None → ⊥
  of_call None inside none = inside refl
  of_call (Some f) inside none = cc

-- a core that is not finished is not idle
busy_call : (m : Machine) (t : Trace) (c : ℕ) (o : Option ActiveCall) → IsSetting m.setup → (core_at m c).active ≡ o → c < m.setup.cores
    → (turn_if (list_at m c) (seat_at m c).begun o ≡ None → ⊥) → StandsFor m t → IsIdle m.lists t c → ⊥
busy_call m t c None setting is here begins stands idle = elim (slice_get_cases (list_at m c) (seat_at m c).begun).1 [
  | inl found ↦
      let within : (seat_at m c).begun < length (list_at m c) = found.1 in
      let n : length (calls_of t c) ≡ (seat_at m c).begun = ap length (stands.calls c here)
      ∙ length-take-le (seat_at m c).begun (list_at m c) (omega arith) in
      let k : length (calls_of t c) ≡ length (list_at m c) = ap length idle.finished in
      omega arith
  | inr past ↦ begins (ap (option_map Begins) (past.1))
]
busy_call m t c (Some f) setting is here begins stands idle =
    (phase_is m t c setting here stands).in_call (λ none. let both = sym is ∙ none in absurd (cc)) idle.out

pub busy_if : (m : Machine) (c : ℕ) → IsSetting m.setup → c < m.setup.cores → (IsFinished m c → ⊥) → (t : Trace) → StandsFor m t
    → IsIdle m.lists t c → ⊥
busy_if m c setting here begins t stands idle = busy_call m t c (core_at m c).active setting refl here begins stands idle

-- the steps so far have not come to where the item ends
abbrev pub NotYet : (Trace → ℕ → Bool) → How → ℕ → Trace → Trace → Type 0
NotYet ready One c t steps = steps ≡ []
NotYet ready Ready c t steps = StaysUnready ready c t steps
NotYet ready Decide c t steps = HaveNone (λ e. e.decides) steps
NotYet ready Return c t steps = HaveNone (λ e. e.returns) steps

pub record StaysShort (how : How) (m m' : Machine) (c : ℕ) (t : Trace) : Type 0 where
  pub steps : Trace
  pub own : AreOf c steps
  pub before : NotYet (ready_after m.setup) how c t steps
  pub stands : StandsFor m' (steps ++ t)

abbrev pub GoesShort : How → Machine → Machine → ℕ → Type 0
GoesShort how m m' c = (t : Trace) → StandsFor m t → StaysShort how m m' c t

pub none_yet : (how : How) (ready : Trace → ℕ → Bool) (c : ℕ) (t : Trace) → NotYet ready how c t []
none_yet One ready c t = refl
none_yet Ready ready c t = tt
none_yet Decide ready c t = All-nil (λ e. e.decides ≡ None)
none_yet Return ready c t = All-nil (λ e. e.returns ≡ None)

pub short_none : (how : How) (m : Machine) (c : ℕ) → GoesShort how m m c
short_none how m c t stands = record {
  steps = [];
  own = All-nil (λ e. e.core ≡ c);
  before = none_yet how (ready_after m.setup) c t;
  stands = stands;
}

-- a test that does not hold is false
pub undecided_false : (b : Bool) → (b ≡ true → ⊥) → b ≡ false
undecided_false true un = absurd (un refl)
undecided_false false un = refl

-- a call that the item leaves undecided
abbrev pub StaysOpen : How → Machine → ℕ → Type 0
StaysOpen One m c = Unit {0}
StaysOpen Ready m c = HasDecided m c → ⊥
StaysOpen Decide m c = HasDecided m c → ⊥
StaysOpen Return m c = Unit {0}

pub open_first : (how : How) (m : Machine) (c : ℕ) → (IsDone how m c → ⊥) → StaysOpen how m c
open_first One m c undone = tt
open_first Ready m c undone = λ h. undone (decided_is_ready (core_at m c) h)
open_first Decide m c undone = undone
open_first Return m c undone = tt

-- after a step that does not end the item, its call is in flight
pub inside_after : (how : How) (m m' : Machine) (c : ℕ) → StaysOpen how m c → GoesFurther m m' c → (IsThere how m' c → ⊥) → IsInCall m' c
inside_after One m m' c un further short = absurd (short tt)
inside_after Ready m m' c un further short = further.in_call (undecided_false (is_decided_in (core_at m c).active) un)
inside_after Decide m m' c un further short = further.in_call (undecided_false (is_decided_in (core_at m c).active) un)
inside_after Return m m' c un further short = short

pub open_after : (how : How) (m' : Machine) (c : ℕ) → (IsThere how m' c → ⊥) → StaysOpen how m' c
open_after One m' c short = tt
open_after Ready m' c short = λ h. short (decided_is_ready (core_at m' c) h)
open_after Decide m' c short = short
open_after Return m' c short = tt

-- the events of a step of core c, by where the machine stands before it and after it
turned_undecided : (enters : Option Call) (core : Core) → is_decided_in core.active ≡ false
    → is_decided_in (turned enters core).active ≡ false
turned_undecided None core h = h
turned_undecided (Some call) core h = refl

pub record AreEventsOf (m' m'' : Machine) (c : ℕ) (e : Step) : Type 0 where
  pub decides_now : (HasDecided m' c → ⊥) → HasDecided m'' c → IsSome e.decides
  pub decides_none : IsInCall m'' c → (HasDecided m'' c → ⊥) → e.decides ≡ None
  pub returns_now : (core_at m'' c).active ≡ None → IsSome e.returns
  pub returns_none : IsInCall m'' c → e.returns ≡ None

pub events_are : (m' m'' : Machine) (c : ℕ) (t : Trace) (e : Step) → m''.setup ≡ m'.setup → c < m'.setup.cores → e.core ≡ c
    → StandsFor m' t → StandsFor m'' (e ∷ t) → AreEventsOf m' m'' c e
events_are m' m'' c t e same here own stands stands' =
    let setup = m''.setup in
    let here' : c < setup.cores = subst (λ s. c < s.cores) (sym same) here in
    let are : AreEvents (stepping_core setup t e) (core_after (stepping_core setup t e) e.found) e.decides e.returns =
    made_events setup t e stands'.made.1 in
    let now : core_at m'' c ≡ core_after (stepping_core setup t e) e.found =
    stands'.cores c here' ∙ put_same (cores_after setup t) e.core (core_after (stepping_core setup t e) e.found) c (sym own) in
    let was : core_at m' c ≡ cores_after setup t e.core =
    stands.cores c here ∙ ap (λ s. cores_after s t c) (sym same) ∙ ap (cores_after setup t) (sym own) in
    record {
      decides_now = λ un h. are.decides_now
          (turned_undecided e.enters (cores_after setup t e.core) (ap (λ k. is_decided_in k.active) (sym was)
          ∙ undecided_false (is_decided_in (core_at m' c).active) un))
          (ap (λ k. is_decided_in k.active) (sym now) ∙ h);
      decides_none = λ inside un. are.decides_none (λ none. inside (ap (λ k. k.active) now ∙ none))
          (ap (λ k. is_decided_in k.active) (sym now) ∙ undecided_false (is_decided_in (core_at m'' c).active) un);
      returns_now = λ none. are.returns_now (ap (λ k. k.active) (sym now) ∙ none);
      returns_none = λ inside. are.returns_none (λ none. inside (ap (λ k. k.active) now ∙ none));
    }

ready_is : (m : Machine) (c : ℕ) (t : Trace) (setup : Setting) → setup ≡ m.setup → c < m.setup.cores → StandsFor m t
    → ready_after setup t c ≡ ready_of (core_at m c)
ready_is m c t setup same here stands = ap (λ s. ready_after s t c) same ∙ ap ready_of (sym (stands.cores c here))

is_false : (b : Bool) → (b ≡ true → ⊥) → IsFalse b
is_false true un = absurd (un refl)
is_false false un = refl

-- one step of core c after others
module _ (m m' m'' : Machine) (c : ℕ) (middle : m'.setup ≡ m.setup) (last : m''.setup ≡ m'.setup)
    (here : c < m'.setup.cores) where
  here'' : c < m''.setup.cores
  here'' = subst (λ s. c < s.cores) (sym last) here

  pub longer : (how : How) (t steps : Trace) (e : Step) → NotYet (ready_after m.setup) how c t steps → (IsThere how m'' c → ⊥)
      → IsInCall m'' c → AreEventsOf m' m'' c e → StandsFor m'' (e ∷ (steps ++ t)) → NotYet (ready_after m.setup) how c t (e ∷ steps)
  longer One t steps e before short inside events stands = absurd (short tt)
  longer Ready t steps e before short inside events stands = (
    before,
    is_false _ (λ ready. short (sym (ready_is m'' c (e ∷ (steps ++ t)) m.setup (sym (last ∙ middle)) here'' stands) ∙ ready)),
  )
  longer Decide t steps e before short inside events stands =
      All-cons (λ x. x.decides ≡ None) e steps (events.decides_none inside short) before
  longer Return t steps e before short inside events stands = All-cons (λ x. x.returns ≡ None) e steps (events.returns_none inside) before

  -- the step that ends the item
  module _ (first : c < m.setup.cores) (setting : IsSetting m.setup) where
    pub ends_item : (how : How) (t steps : Trace) (e : Step) → StandsFor m t → (IsDone how m c → ⊥) → StaysOpen how m' c → IsThere how m'' c
        → AreOf c (e ∷ steps)
        → NotYet (ready_after m.setup) how c t steps → AreEventsOf m' m'' c e → StandsFor m'' (e ∷ (steps ++ t))
        → Stretch (ready_after m.setup) how c t (e ∷ (steps ++ t))
    ends_item One t steps e before undone open_now there own none events stands =
        record { step = e; adds = ap (λ s. e ∷ (s ++ t)) none; own = own 0 e (omega arith) }
    ends_item Ready t steps e before undone open_now there own none events stands = inr (
      is_false _ (λ ready. undone (sym (ready_is m c t m.setup refl first before) ∙ ready)),
      record {
        steps = steps;
        last = e;
        adds = refl;
        own = own;
        before = none;
        ends = ready_is m'' c (e ∷ (steps ++ t)) m.setup (sym (last ∙ middle)) here'' stands ∙ there;
      },
    )
    ends_item Decide t steps e before undone open_now there own none events stands = inr (
      λ decided. undone ((phase_is m t c setting first before).was_decided decided),
      record { steps = steps; last = e; adds = refl; own = own; before = none; ends = events.decides_now open_now there },
    )
    ends_item Return t steps e before undone open_now there own none events stands =
        record { steps = steps; last = e; adds = refl; own = own; before = none; ends = events.returns_now there }

  module _ (step : StepsOnce m' m'' c) where
    -- one that does not end the item
    pub short_more : (how : How) → (IsThere how m'' c → ⊥) → IsInCall m'' c → GoesShort how m m' c → GoesShort how m m'' c
    short_more how short inside goes t stands =
        let g = goes t stands in
        let s = step (g.steps ++ t) g.stands in
        let e = s.is.step in
        let on : StandsFor m'' (e ∷ (g.steps ++ t)) = subst (λ u. StandsFor m'' u) s.is.adds s.stands in
        let events = events_are m' m'' c (g.steps ++ t) e last here s.is.own g.stands on in
        record {
          steps = e ∷ g.steps;
          own = All-cons (λ x. x.core ≡ c) e g.steps s.is.own g.own;
          before = longer how t g.steps e g.before short inside events on;
          stands = on;
        }

    pub there_at_last : (how : How) → c < m.setup.cores → IsSetting m.setup → (IsFinished m c → ⊥) → (IsDone how m c → ⊥)
        → StaysOpen how m' c → IsThere how m'' c
        → GoesShort how m m' c → GoesBy how m m'' c
    there_at_last how first setting begins undone open_now there goes t stands =
        let g = goes t stands in
        let s = step (g.steps ++ t) g.stands in
        let e = s.is.step in
        let on : StandsFor m'' (e ∷ (g.steps ++ t)) = subst (λ u. StandsFor m'' u) s.is.adds s.stands in
        let events = events_are m' m'' c (g.steps ++ t) e last here s.is.own g.stands on in
        record {
          busy = busy_if m c setting first begins t stands;
          after = e ∷ (g.steps ++ t);
          stands = on;
          is = ends_item first setting how t g.steps e stands undone open_now there
              (All-cons (λ x. x.core ≡ c) e g.steps s.is.own g.own) g.before events on;
        }

-- an item that is done makes no step
pub done_stretch : (how : How) (m : Machine) (c : ℕ) (t : Trace) → IsSetting m.setup → c < m.setup.cores → IsDone how m c → StandsFor m t
    → Stretch (ready_after m.setup) how c t t
done_stretch One m c t setting here done stands = absurd done
done_stretch Ready m c t setting here done stands = inl (ready_is m c t m.setup refl here stands ∙ done, refl)
done_stretch Decide m c t setting here done stands = inl ((phase_is m t c setting here stands).decided done, refl)
done_stretch Return m c t setting here done stands = absurd done

pub nothing_done : (how : How) (m : Machine) (c : ℕ) → IsSetting m.setup → c < m.setup.cores → (IsFinished m c → ⊥) → IsDone how m c
    → GoesBy how m m c
nothing_done how m c setting here begins done t stands = record {
  busy = busy_if m c setting here begins t stands;
  after = t;
  stands = stands;
  is = done_stretch how m c t setting here done stands;
}

-- what a step leaves to do within its call is less, and a call that returns is one less
work_less : (o o' : Option ActiveCall) (n n' : ℕ) → o' ≢ None → (o ≢ None → left_for n' o' < left_for n o) → left_for n' o' < 1000
    → work_in n' o' < work_in n o
work_less None None n n' some fewer small = absurd (some refl)
work_less None (Some g) n n' some fewer small = small
work_less (Some f) None n n' some fewer small = absurd (some refl)
work_less (Some f) (Some g) n n' some fewer small = fewer (λ h. cc)

pub works_on : (m m' : Machine) (c : ℕ) → IsInCall m' c → GoesFurther m m' c → work_at m' c < work_at m c
works_on m m' c inside further = work_less (core_at m c).active (core_at m' c).active (core_at m c).own.layout.cores
    (core_at m' c).own.layout.cores inside further.steps further.few

calls_less : (o : Option ActiveCall) (length begun begun' : ℕ) → begun' ≡ calls_begun o begun → begun' ≤ length
    → calls_in None (length - begun') < calls_in o (length - begun)
calls_less None length begun begun' more within = omega arith
calls_less (Some f) length begun begun' same within = let k = same in omega arith

-- a call that has returned, or begun and returned, is one call less to come
pub calls_fewer : (m m' : Machine) (c : ℕ) → m'.lists ≡ m.lists → (core_at m' c).active ≡ None
    → (seat_at m' c).begun ≡ calls_begun (core_at m c).active (seat_at m c).begun →
    (seat_at m' c).begun ≤ length (list_at m' c) → calls_left m' c < calls_left m c
calls_fewer m m' c same none begun within =
    subst (λ o. calls_in o (length (list_at m' c) - (seat_at m' c).begun) < calls_left m c) (sym none)
    (subst (λ l. calls_in None (length (get_or l c []) - (seat_at m' c).begun) < calls_left m c) (sym same)
    (calls_less (core_at m c).active (length (list_at m c)) (seat_at m c).begun (seat_at m' c).begun begun
    (subst (λ l. (seat_at m' c).begun ≤ length (get_or l c [])) same within)))

pub none_of : (o : Option ActiveCall) → (o ≢ None → ⊥) → o ≡ None
none_of None un = refl
none_of (Some f) un = absurd (un (λ h. cc))

-- no step was made, or the active call is the one that was, or the next of the list
pub record IsCounted (m m' : Machine) (c : ℕ) : Type 0 where
  pub inside : IsInCall m' c
  pub begun : (seat_at m' c).begun ≡ calls_begun (core_at m c).active (seat_at m c).begun

abbrev pub Counted : Machine → Machine → ℕ → Type 0
Counted m m' c = (m' ≡ m) ⊎ IsCounted m m' c

begun_inside : (o : Option ActiveCall) (n : ℕ) → o ≢ None → calls_begun o n ≡ n
begun_inside None n some = absurd (some refl)
begun_inside (Some f) n some = refl

counted_step : (m m' m'' : Machine) (c : ℕ) → GoesFurther m' m'' c → Counted m m' c
    → (seat_at m'' c).begun ≡ calls_begun (core_at m c).active (seat_at m c).begun
counted_step m m' m'' c further (inl same) = further.begun ∙ ap (λ x. calls_begun (core_at x c).active (seat_at x c).begun) same
counted_step m m' m'' c further (inr counted) = further.begun ∙ begun_inside (core_at m' c).active (seat_at m' c).begun counted.inside
    ∙ counted.begun

pub counted_more : (m m' m'' : Machine) (c : ℕ) → IsInCall m'' c → GoesFurther m' m'' c → Counted m m' c → Counted m m'' c
counted_more m m' m'' c inside further counted = inr (record { inside = inside; begun = counted_step m m' m'' c further counted })

pub counted_last : (m m' m'' : Machine) (c : ℕ) → m''.lists ≡ m.lists → (core_at m'' c).active ≡ None → GoesFurther m' m'' c
    → Counted m m' c → calls_left m'' c < calls_left m c
counted_last m m' m'' c same between further counted =
    calls_fewer m m'' c same between (counted_step m m' m'' c further counted) further.within
