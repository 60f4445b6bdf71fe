-- The steps by which a core takes an item, one after another: what is so far is said of each machine in which they are made.
use Rattle.flight_laws.specs.flight.specs.step_ways.proofs as low
use low.{◌≡◌, ◌≢◌, inl, ℕ, ◌+◌, ◌<◌, ◌≤◌, ◌++◌, List, length, Option, Some, None, true, false, arith, refl, sym, ◌∙◌, ap, subst, get_or}
use low.{Bool, set as slice_set, sum_by, IsSome, false≢true, length-append, IsSetting, Decision, Call, Shape, told_of, decision_at}
use low.{shape_of, Own, Core, IsCore, steps_left, core_after, told_by, absorbed_in, told_in, move_of, told_of_step, Took, GoesOn as TookOn}
use low.{Decides, Returns, Changes, took, ActiveCall, Absorbed, decided_in}
use Rattle.lone_kernel.specs.{IsFit, seat_at, core_at, list_at, turn_at, turn_if, due_at, due_in, said_by, core_in, begun_by, seat_after}
use Rattle.lone_kernel.specs.{found_by, stepped, IsFinished, IsInCall, IsThere, IsDone, place_next, GoesFurther, StepsOnce, IsAt}
use Rattle.boot_words.specs.kernel_rules.specs.{How, One, Ready, Decide, Return}
use Rattle.call_steps.specs.call_stages.specs.declared.stages.Absorbed.TheVariants.{Going, Decided, Returned}
use Rattle.lone_kernel.specs.{declared.seats.Seat.Seat, declared.seats.Turn.Turn, declared.seats.Turn.TheVariants.Begins}
use Rattle.lone_kernel.specs.{declared.seats.Turn.TheVariants.GoesOn, Machine.Machine, Machine.MakesTurn, Machine.TakesTurn, Items.is_over}
use Rattle.lone_kernel.proofs.{Advance.one_step, Fits.Counts, Fits.counts_absorbed, Fits.same_in, Fits.turned_shape, Fits.undecided_turn}
use Rattle.lone_kernel.proofs.{Fits.seat_same, Fits.fits_on, Fits.due_on, Fits.further, Fits.count_decided, OneStep.takes_turn}
use Rattle.lone_kernel.proofs.{Runs.GoesShort, Runs.StaysOpen, Runs.Counted, Runs.short_none, Runs.short_more, Runs.open_first}
use Rattle.lone_kernel.proofs.{Runs.open_after, Runs.there_at_last, Runs.counted_more, Runs.counted_last, Runs.undecided_false}
use Rattle.{flight_laws.specs.flight.specs.is_decided_at, flight_laws.specs.flight.specs.is_decided_in, std.proofs.Common.set-set}
use Rattle.{call_steps.specs.call_stages.specs.Cores.ready_of, flight_laws.specs.flight.proofs.Phases.decided_is_ready}
use Rattle.{lone_kernel.specs.Items.placed, lone_kernel.specs.Items.TakesItem}

-- ---- a step of a core, and what it tells

-- where a step that told this leaves the call
abbrev pub Leaves : Absorbed → Option ActiveCall → Type 0
Leaves Going o = IsSome o
Leaves (Decided r) o = IsSome o
Leaves (Returned r) o = o ≡ None

leaves_took : (own : Own) (k : Took) → Leaves (told_by k) (core_after own k).active
leaves_took own (TookOn g) = refl
leaves_took own (Decides r g) = refl
leaves_took own (Returns r x) = refl
leaves_took own (Changes r change g) = refl

leaves_in : (own : Own) (o : Option ActiveCall) (found : ℕ) → IsSome o → Leaves (told_in own o found) (absorbed_in own o found).active
leaves_in own None found some = absurd (cc)
leaves_in own (Some f) found some = leaves_took own (took own f found)

-- the call before a step and after it
pub record IsStep (o o' : Option ActiveCall) (said : Absorbed) : Type 0 where
  pub in_call : IsSome o
  pub leaves : Leaves said o'
  pub counts : Counts o o' said

pub step_of_core : (shape : Shape) (seat seat' : Seat) (words words' : List ℕ) (said : Absorbed) → IsSome seat.state.active
    → MakesTurn shape seat seat' words words' said → IsStep seat.state.active seat'.state.active said
step_of_core shape seat seat' words words' said some makes =
    let told : ℕ = told_of (move_of seat.state) (get_or words (place_next shape seat.state) 0) in
    subst (λ s. IsStep seat.state.active seat'.state.active s) (sym makes.told)
    (subst (λ (k : Core). IsStep seat.state.active k.active (told_of_step seat.state told)) (sym makes.state)
    record {
      in_call = some;
      leaves = leaves_in seat.state.own seat.state.active told some;
      counts = counts_absorbed seat.state told some;
    })

pub same_shape : (shape : Shape) (seat seat' : Seat) (words words' : List ℕ) (said : Absorbed)
    → MakesTurn shape seat seat' words words' said → shape ≡ seat.state.own.layout → shape ≡ seat'.state.own.layout
same_shape shape seat seat' words words' said makes is =
    is ∙ sym (same_in seat.state.own seat.state.active _).layout ∙ ap (λ (k : Core). k.own.layout) (sym makes.state)

-- ---- what is due of a call

pub one_due : (o : Option ActiveCall) → IsSome o → is_decided_in o ≡ false → due_in o ≡ 1
one_due None some h = absurd (cc)
one_due (Some f) some h = ap due_at h

none_due : (o : Option ActiveCall) → is_decided_in o ≡ true → due_in o ≡ 0
none_due None h = refl
none_due (Some f) h = ap due_at h

decided_at_none : (b : Bool) → due_at b ≡ 0 → b ≡ true
decided_at_none true h = refl
decided_at_none false h = absurd (omega arith)

decided_none : (o : Option ActiveCall) → IsSome o → due_in o ≡ 0 → is_decided_in o ≡ true
decided_none None some h = absurd (cc)
decided_none (Some f) some h = decided_at_none (is_decided_at f.stage) h

due_most : (o : Option ActiveCall) → due_in o ≤ 1
due_most None = omega arith
due_most (Some f) = most (is_decided_at f.stage) where
  most : (b : Bool) → due_at b ≤ 1
  most true = omega arith
  most false = omega arith

some_not : (o : Option ActiveCall) → IsSome o → o ≢ None
some_not None some = absurd (cc)
some_not (Some f) some = λ h. cc

not_both : {b : Bool} → b ≡ true → b ≡ false → ⊥
not_both is un = false≢true (sym un ∙ is)

pub begun_most : (f : Turn) (n : ℕ) → n ≤ begun_by f n
begun_most (Begins call) n = omega arith
begun_most GoesOn n = omega arith

-- ---- when the item is done

-- an item that ends at a decision has left its call undecided so far
abbrev pub IsOpen : How → Option ActiveCall → Type 0
IsOpen One o = Unit {0}
IsOpen Ready o = is_decided_in o ≡ false
IsOpen Decide o = is_decided_in o ≡ false
IsOpen Return o = Unit {0}

module _ (core core' : Core) where
  decides : (r : _) → IsStep core.active core'.active (Decided r) → is_decided_in core'.active ≡ true
  decides r step =
      let most = due_most core.active in
      let counts = step.counts.due in
      decided_none core'.active step.leaves (omega arith)

  -- a call that was not decided has not returned
  returns_not : (r : _) → is_decided_in core.active ≡ false → IsStep core.active core'.active (Returned r) → ⊥
  returns_not r undecided step =
      let one = one_due core.active step.in_call undecided in
      let counts : due_in core.active ≡ due_in core'.active + 0 = step.counts.due in
      let gone : due_in core'.active ≡ 0 = ap due_in step.leaves in
      omega arith

  pub there : (how : How) (said : Absorbed) → IsStep core.active core'.active said → IsOpen how core.active
      → is_over how said core' ≡ true → (m : Machine) (c : ℕ) → core_at m c ≡ core' → IsThere how m c
  there One said step un over m c is = tt
  there Ready Going step un over m c is = ap (λ (k : Core). ready_of k) is ∙ over
  there Ready (Decided r) step un over m c is =
      decided_is_ready (core_at m c) (ap (λ (k : Core). is_decided_in k.active) is ∙ decides r step)
  there Ready (Returned r) step un over m c is = absurd (returns_not r un step)
  there Decide Going step un over m c is = absurd (false≢true over)
  there Decide (Decided r) step un over m c is = ap (λ (k : Core). is_decided_in k.active) is ∙ decides r step
  there Decide (Returned r) step un over m c is = absurd (returns_not r un step)
  there Return Going step un over m c is = absurd (false≢true over)
  there Return (Decided r) step un over m c is = absurd (false≢true over)
  there Return (Returned r) step un over m c is = ap (λ (k : Core). k.active) is ∙ step.leaves

  pub not_there : (how : How) (said : Absorbed) → IsStep core.active core'.active said → IsOpen how core.active
      → is_over how said core' ≡ false → (m : Machine) (c : ℕ) → core_at m c ≡ core' → IsThere how m c → ⊥
  not_there One said step un over m c is h = false≢true (sym over)
  not_there Ready Going step un over m c is h =
      not_both (ap (λ (k : Core). ready_of k) (sym is) ∙ h) over
  not_there Ready (Decided r) step un over m c is h = false≢true (sym over)
  not_there Ready (Returned r) step un over m c is h = false≢true (sym over)
  not_there Decide Going step un over m c is h =
      let one = one_due core.active step.in_call un in
      let none = none_due core'.active (ap (λ (k : Core). is_decided_in k.active) (sym is) ∙ h) in
      let counts : due_in core.active ≡ due_in core'.active + 0 = step.counts.due in
      omega arith
  not_there Decide (Decided r) step un over m c is h = false≢true (sym over)
  not_there Decide (Returned r) step un over m c is h = false≢true (sym over)
  not_there Return Going step un over m c is h = some_not core'.active step.leaves (ap (λ (k : Core). k.active) (sym is) ∙ h)
  not_there Return (Decided r) step un over m c is h = some_not core'.active step.leaves (ap (λ (k : Core). k.active) (sym is) ∙ h)
  not_there Return (Returned r) step un over m c is h = false≢true (sym over)

  -- a step that does not end the item leaves its call in flight
  pub inside : (how : How) (said : Absorbed) → IsStep core.active core'.active said → is_over how said core' ≡ false → IsSome core'.active
  inside how Going step over = step.leaves
  inside how (Decided r) step over = step.leaves
  inside One (Returned r) step over = absurd (false≢true (sym over))
  inside Ready (Returned r) step over = absurd (false≢true (sym over))
  inside Decide (Returned r) step over = absurd (false≢true (sym over))
  inside Return (Returned r) step over = absurd (false≢true (sym over))

open_of : (how : How) (m : Machine) (c : ℕ) (core : Core) (f : Turn) → core ≡ core_in (core_at m c) f → StaysOpen how m c
    → IsOpen how core.active
open_of One m c core f is un = tt
open_of Ready m c core f is un = ap (λ (k : Core). is_decided_in k.active) is
    ∙ undecided_turn (core_at m c) f (undecided_false (is_decided_in (core_at m c).active) un)
open_of Decide m c core f is un = ap (λ (k : Core). is_decided_in k.active) is
    ∙ undecided_turn (core_at m c) f (undecided_false (is_decided_in (core_at m c).active) un)
open_of Return m c core f is un = tt

goes_on_if : (list : List Call) (n : ℕ) (o : Option ActiveCall) → IsSome o → turn_if list n o ≡ Some GoesOn
goes_on_if list n None some = absurd (cc)
goes_on_if list n (Some f) some = refl

-- ---- the steps of an item so far

-- The machine has come to another, whose core c is at this turn with its call begun; the item is not done there.
pub record IsShort (how : How) (m : Machine) (c : ℕ) (seat : Seat) (words : List ℕ) (decisions : List Decision) : Type 0 where
  pub before : Machine
  pub turn : Turn
  pub fit : IsFit before
  pub setup : before.setup ≡ m.setup
  pub lists : before.lists ≡ m.lists
  pub seats : (x : Seat) → slice_set before.seats c x ≡ slice_set m.seats c x
  pub begins : turn_at before c ≡ Some turn
  pub state : seat.state ≡ core_in (core_at before c) turn
  pub begun : seat.begun ≡ begun_by turn (seat_at before c).begun
  pub due : seat.due ≡ (seat_at before c).due
  pub words_are : words ≡ before.words
  pub decisions_are : decisions ≡ before.decisions
  pub stays_open : StaysOpen how before c
  pub counted : Counted m before c
  pub goes : GoesShort how m before c
  pub sum : sum_by (λ seat. seat.due) before.seats + length before.decisions ≡ sum_by (λ seat. seat.due) m.seats + length m.decisions

-- before the first step
pub short_first : (how : How) (m : Machine) (c : ℕ) (f : Turn) (seat0 seat : Seat) (words : List ℕ) (decisions : List Decision)
    → IsAt m c f seat0 words decisions → (IsDone how m c → ⊥) → seat.state ≡ core_in seat0.state f → seat.begun ≡ begun_by f seat0.begun
    → seat.due ≡ seat0.due → IsShort how m c seat words decisions
short_first how m c f seat0 seat words decisions at undone state begun due = record {
  before = m;
  turn = f;
  fit = at.fit;
  setup = refl;
  lists = refl;
  seats = λ x. refl;
  begins = at.begins;
  state = state ∙ ap (λ (s : Seat). core_in s.state f) at.seat_is;
  begun = begun ∙ ap (λ (s : Seat). begun_by f s.begun) at.seat_is;
  due = due ∙ ap (λ (s : Seat). s.due) at.seat_is;
  words_are = at.words_are;
  decisions_are = at.decisions_are;
  stays_open = open_first how m c undone;
  counted = inl refl;
  goes = short_none how m c;
  sum = refl;
}

-- one step more
module _ (how : How) (m : Machine) (c : ℕ) (f0 : Turn) (seat0 : Seat) (words0 : List ℕ) (decisions0 : List Decision)
    (at : IsAt m c f0 seat0 words0 decisions0) (undone : IsDone how m c → ⊥)
    (shape : Shape) (seat seat' : Seat) (words words' : List ℕ) (decisions decisions' : List Decision) (said : Absorbed) (index : ℕ)
    (s : IsShort how m c seat words decisions) (shape_is : shape ≡ seat.state.own.layout) (in_call : IsSome seat.state.active)
    (makes : MakesTurn shape seat seat' words words' said) (fits : IsCore seat'.state)
    (fewer : steps_left seat'.state < steps_left seat.state)
    (noted : decisions' ≡ decisions ++ decision_at (decided_in said) c index) (index_is : index ≡ seat'.begun) where
  abbrev b : Machine
  b = s.before

  abbrev f : Turn
  f = s.turn

  abbrev last : Machine
  last = stepped b c f

  here : c < b.setup.cores
  here = subst (λ k. c < k.cores) (sym s.setup) at.here

  shape_b : shape ≡ shape_of b.setup
  shape_b = shape_is ∙ ap (λ (k : Core). k.own.layout) s.state ∙ turned_shape (core_at b c) f ∙ (s.fit.each c here).shape

  takes : TakesTurn (shape_of b.setup) (seat_at b c) f seat' b.words words' said
  takes = subst (λ k. TakesTurn k (seat_at b c) f seat' b.words words' said) shape_b
      (subst (λ w. TakesTurn shape (seat_at b c) f seat' w words' said) s.words_are
      (takes_turn shape (seat_at b c) seat seat' f words words' said s.state s.begun s.due makes))

  decisions_at : decisions' ≡ last.decisions
  decisions_at =
      noted ∙ ap (λ l. l ++ decision_at (decided_in said) c index) s.decisions_are
      ∙ ap (λ k. b.decisions ++ decision_at (decided_in k) c index) takes.told
      ∙ ap (λ (i : ℕ). b.decisions ++ decision_at (decided_in (said_by (core_in (core_at b c) f) (found_by b c f))) c i)
      (index_is ∙ ap (λ (k : Seat). k.begun) takes.behind)

  placed_is : placed m c seat' words' decisions' ≡ last
  placed_is =
      let seats : slice_set m.seats c seat' ≡ last.seats = sym (s.seats seat') ∙ ap (λ k. slice_set b.seats c k) takes.behind in
      λ i. record { setup = sym s.setup i; words = takes.words i; lists = sym s.lists i; seats = seats i; decisions = decisions_at i }

  fits_b : IsCore (seat_after (seat_at b c) f (found_by b c f)).state
  fits_b = subst (λ (k : Seat). IsCore k.state) takes.behind fits

  goes_further : GoesFurther b last c
  goes_further = further b c f s.fit here s.begins fits_b
      (subst (λ (k : Core). steps_left (seat_after (seat_at b c) f (found_by b c f)).state < steps_left k) s.state
      (subst (λ (k : Seat). steps_left k.state < steps_left seat.state) takes.behind fewer))

  seat_on : seat_at last c ≡ seat'
  seat_on = seat_same b c f s.fit here s.begins c refl ∙ sym takes.behind

  core_on : core_at last c ≡ seat'.state
  core_on = ap (λ (k : Seat). k.state) seat_on

  step : IsStep seat.state.active seat'.state.active said
  step = step_of_core shape seat seat' words words' said in_call makes

  goes_once : StepsOnce b last c
  goes_once = λ t stands. one_step b t c f s.fit (subst IsSetting (sym s.setup) at.setting) here s.begins stands

  is_open : IsOpen how seat.state.active
  is_open = open_of how b c seat.state f s.state s.stays_open

  sum_on : sum_by (λ seat. seat.due) last.seats + length last.decisions ≡ sum_by (λ seat. seat.due) m.seats + length m.decisions
  sum_on =
      let told = said_by (core_in (core_at b c) f) (found_by b c f) in
      let left = due_on b c f s.fit here s.begins in
      let count = count_decided told c (begun_by f (seat_at b c).begun) in
      let grown = length-append b.decisions (decision_at (decided_in told) c (begun_by f (seat_at b c).begun)) in
      let was = s.sum in
      omega arith

  -- that does not end the item
  pub short_on : is_over how said seat'.state ≡ false → IsShort how m c seat' words' decisions'
  short_on over =
      let short : IsThere how last c → ⊥ = not_there seat.state seat'.state how said step is_open over last c core_on in
      let some : IsSome seat'.state.active = inside seat.state seat'.state how said step over in
      let in_flight : IsInCall last c = λ none. some_not seat'.state.active some (ap (λ (k : Core). k.active) (sym core_on) ∙ none) in
      record {
        before = last;
        turn = GoesOn;
        fit = fits_on b c f s.fit here s.begins fits_b;
        setup = s.setup;
        lists = s.lists;
        seats = λ x. set-set b.seats c (seat_after (seat_at b c) f (found_by b c f)) x ∙ s.seats x;
        begins = goes_on_if (list_at last c) (seat_at last c).begun (core_at last c).active
            (subst (λ (k : Core). IsSome k.active) (sym core_on) some);
        state = sym core_on;
        begun = ap (λ (k : Seat). k.begun) (sym seat_on);
        due = ap (λ (k : Seat). k.due) (sym seat_on);
        words_are = takes.words;
        decisions_are = decisions_at;
        stays_open = open_after how last c short;
        counted = counted_more m b last c in_flight goes_further s.counted;
        goes = short_more m b last c s.setup refl here goes_once how short in_flight s.goes;
        sum = sum_on;
      }

  -- that ends it
  pub ends_on : is_over how said seat'.state ≡ true → TakesItem how m (placed m c seat' words' decisions') c
  ends_on over =
      let at_last : IsThere how last c = there seat.state seat'.state how said step is_open over last c core_on in
      let begins : IsFinished m c → ⊥ = λ none. let both = sym at.begins ∙ none in absurd (cc) in
      subst (λ x. TakesItem how m x c) (sym placed_is) (record {
        fit = fits_on b c f s.fit here s.begins fits_b;
        goes = there_at_last m b last c s.setup refl here goes_once how at.here at.setting begins undone s.stays_open at_last s.goes;
        fewer = λ returns. counted_last m b last c s.lists (subst (λ h. IsThere h last c) returns at_last) goes_further s.counted;
        due = sum_on;
      })
