-- A core makes its call by steps over words that nobody else changes: each is one step of the machine, and all of them are an item that
-- takes the core to its return.
use Rattle.flight_laws.specs.flight.proofs as flight
use Rattle.flight_laws.specs.flight.specs.step_ways.proofs as low
use flight.{zero, suc, append-nil, place_is, moves_are_words, CoreFits.after_fits, CoreFits.absorbed_fewer, CoreFits.begun_fits, Reply}
use flight.{InLimits}
use low.{◌≡◌, ℕ, ◌+◌, ◌-◌, ◌<◌, ◌++◌, List, length, Option, Some, None, false, arith, refl, sym, ◌∙◌, ap, subst, get_or}
use low.{set as slice_set, IsSome, is_some, false≢true, Decision, Call, decision_at, Own, Core, IsCore, steps_left, core_after}
use low.{told_by, told_of, absorbed_in, absorbed, told_in, told_of_step, move_of, op_of, place_in, word_of, Took, GoesOn as TookOn}
use low.{Decides, Returns, Changes, took, ActiveCall, Absorbed, decided_in, IsIn}
use Rattle.boot_words.specs.kernel_history.proofs.{has_places}
use Rattle.boot_words.specs.kernel_rules.specs.{Return}
use Rattle.call_steps.specs.call_stages.proofs.Decisions.{decides_once}
use Rattle.call_steps.specs.call_stages.specs.Cores.{begun}
use Rattle.call_steps.specs.call_stages.specs.Laws.{Turns, reply_at}
use Rattle.call_steps.specs.call_stages.specs.declared.stages.Absorbed.TheVariants.{Going, Decided, Returned}
use Rattle.call_steps.specs.core_words.specs.Due.{due_of}
use Rattle.spk_nums.specs.{declared.steps.WordOp.WordOp, WordSteps.left_by, WordSteps.told_by as told_by_op}
use Rattle.std.proofs.{Common.add-one, Common.length-set}
use Rattle.step_views.specs.word_map.specs.Places.{size_of}
use Rattle.lone_kernel.specs.{IsAt, decisions_in, declared.seats.Seat.Seat, declared.seats.Turn.TheVariants.Begins, Machine.Machine}
use Rattle.lone_kernel.specs.{Machine.MakesTurn, Items.is_over, Items.placed, Items.TakesItem, Making.Run, Making.run, Making.AreMade}
use Rattle.lone_kernel.specs.{Making.MakesCall, Making.found_next}
use Rattle.lone_kernel.proofs.{Fits.same_in, Items.Leaves, Items.step_of_core, Items.IsShort, Items.short_first, Items.short_on}
use Rattle.lone_kernel.proofs.{Items.ends_on, OneStep.makes_turn, Small.steps_small}

-- ---- one step

-- the core after a step fits its machine
fits_in : (own : Own) (o : Option ActiveCall) (found : ℕ) → IsCore (record { own = own; active = o }) → IsCore (absorbed_in own o found)
fits_in own None found h = record { own = h.own; active = tt }
fits_in own (Some a) found h = after_fits own a found h

run_fits : (words : List ℕ) (core : Core) (n : ℕ) → IsCore core → IsCore (run words core n).core
run_fits words core zero h = h
run_fits words core (suc n) h =
    let k = (run words core n).core in
    fits_in k.own k.active _ (run_fits words core n h)

-- one that is in a call, or returns, was in a call
was_in : (own : Own) (o : Option ActiveCall) (found : ℕ) → IsSome (absorbed_in own o found).active → IsSome o
was_in own None found some = absurd (cc)
was_in own (Some a) found some = refl

was_returning : (own : Own) (o : Option ActiveCall) (found : ℕ) (r : Reply) → told_in own o found ≡ Returned r → IsSome o
was_returning own None found r told = absurd (cc)
was_returning own (Some a) found r told = refl

-- the step that is due of a core is its next one
record IsNext (core : Core) (op : WordOp) : Type 0 where
  in_call : IsSome core.active
  step : op ≡ op_of core.own.layout (move_of core)

next_in : (own : Own) (o : Option ActiveCall) (op : WordOp) → due_of (record { own = own; active = o }) ≡ Some op
    → IsNext (record { own = own; active = o }) op
next_in own None op due = absurd (cc)
next_in own (Some a) op due = record { in_call = refl; step = (cc) }

next_of_due : (core : Core) (op : WordOp) → due_of core ≡ Some op → IsNext core op
next_of_due core op due = next_in core.own core.active op due

-- and it is on one of the machine's words
due_below : (core : Core) (op : WordOp) → IsCore core → due_of core ≡ Some op → place_in op < size_of core.own.layout
due_below core op fits due =
    let next = next_of_due core op due in
    let m = move_of core in
    let within : IsIn core.own.layout (word_of m) = moves_are_words core fits next.in_call in
    subst (λ (n : ℕ). n < size_of core.own.layout) (sym (ap place_in next.step ∙ place_is core.own.layout m))
    ((has_places core.own.layout fits.own.shape).below (word_of m) within)

-- ---- the handle on the words

-- before the first step
pub made_first : (words now : List ℕ) (core old : Core) (call : Call) → words ≡ now → core ≡ begun old call → IsCore old → InLimits call
    → length now ≡ size_of old.own.layout → AreMade words core 0 now
made_first words now core old call words_is core_is fits limits size =
    let begun_is : IsCore core = subst IsCore (sym core_is) (begun_fits old call fits limits) in
    let small = steps_small core begun_is in
    record {
      words_are = sym words_is;
      size = size ∙ ap (λ (k : Core). size_of k.own.layout) (sym core_is);
      fits = begun_is;
      few = omega arith;
    }

-- after so many steps, which a handle has as another number too
module _ (words : List ℕ) (core : Core) (made same : ℕ) (now : List ℕ) (op : WordOp) (are : AreMade words core made now)
    (is : made ≡ same) (due : due_of (run words core same).core ≡ Some op) where
  due_here : due_of (run words core made).core ≡ Some op
  due_here = subst (λ (n : ℕ). due_of (run words core n).core ≡ Some op) (sym is) due

  pub below_made : place_in op < length now
  below_made =
      subst (λ (n : ℕ). place_in op < n) (sym are.size) (due_below (run words core made).core op are.fits due_here)

  -- one step more
  module _ (found told : ℕ) (after : List ℕ) (found_is : found ≡ get_or now (place_in op) 0)
      (after_is : after ≡ slice_set now (place_in op) (left_by op found)) (told_is : told ≡ told_by_op op found) where
    abbrev r : Run
    r = run words core made

    next : IsNext r.core op
    next = next_of_due r.core op due_here

    makes : MakesTurn r.core.own.layout (record { begun = 0; due = 0; state = r.core })
        (record { begun = 0; due = 0 - decisions_in (told_of_step r.core told); state = absorbed r.core told }) r.words after
        (told_of_step r.core told)
    makes = makes_turn r.core.own.layout _ _ r.words after (told_of_step r.core told) op found told
        (decisions_in (told_of_step r.core told)) next.step (found_is ∙ ap (λ w. get_or w (place_in op) 0) are.words_are)
        (after_is ∙ ap (λ w. slice_set w (place_in op) (left_by op found)) are.words_are) told_is refl refl refl refl refl

    are_next : AreMade words core (suc made) after
    are_next =
        let fewer : steps_left (run words core (suc made)).core < steps_left r.core =
        absorbed_fewer r.core (told_of (move_of r.core) (found_next r)) are.fits next.in_call in
        let few = are.few in
        let grown : length after ≡ length now = ap length after_is ∙ length-set now _ _ in
        let layout = (same_in r.core.own r.core.active (told_of (move_of r.core) (found_next r))).layout in
        record {
          words_are = makes.words;
          size = grown ∙ are.size ∙ ap size_of (sym layout);
          fits = fits_in r.core.own r.core.active (told_of (move_of r.core) (found_next r)) are.fits;
          few = omega arith;
        }

    pub stepped_are : AreMade words core (made + 1) after
    stepped_are = subst (λ (n : ℕ). AreMade words core n after) (sym (add-one made)) are_next

    pub stepped_core : (run words core (made + 1)).core ≡ absorbed (run words core same).core told
    stepped_core = ap (λ (n : ℕ). (run words core n).core) (add-one made) ∙ sym makes.state
        ∙ ap (λ (n : ℕ). absorbed (run words core n).core told) is

    pub stepped_told : (run words core (made + 1)).last ≡ told_of_step (run words core same).core told
    stepped_told = ap (λ (n : ℕ). (run words core n).last) (add-one made) ∙ sym makes.told
        ∙ ap (λ (n : ℕ). told_of_step (run words core n).core told) is

-- ---- the decision of a call

-- the reply with which the call of a core is decided
abbrev replied : Option ActiveCall → Option Reply
replied None = None
replied (Some a) = reply_at a.stage

-- what a step tells, by that reply before it and after it
abbrev Tells : Option Reply → Option Reply → Absorbed → Type 0
Tells before after Going = after ≡ before
Tells before after (Decided r) = (before ≡ None) × (after ≡ Some r)
Tells before after (Returned r) = before ≡ Some r

tells_took : (own : Own) (o : Option Reply) (k : Took) → Turns o k → Tells o (replied (core_after own k).active) (told_by k)
tells_took own o (TookOn a) turns = turns
tells_took own o (Decides r a) turns = turns
tells_took own o (Returns r x) turns = turns
tells_took own o (Changes r change a) turns = turns

tells_in : (own : Own) (o : Option ActiveCall) (found : ℕ) → IsSome o
    → Tells (replied o) (replied (absorbed_in own o found).active) (told_in own o found)
tells_in own None found some = absurd (cc)
tells_in own (Some a) found some = tells_took own (reply_at a.stage) (took own a found) (decides_once own a found)

-- a step that leaves the core in a call does not end an item that takes it to its return
goes_over : (said : Absorbed) (o : Option ActiveCall) (core : Core) → Leaves said o → IsSome o → is_over Return said core ≡ false
goes_over Going o core leaves some = refl
goes_over (Decided r) o core leaves some = refl
goes_over (Returned r) o core leaves some = absurd (false≢true (ap is_some (sym leaves) ∙ some))

abbrev one_of : Option Reply → ℕ
one_of None = 0
one_of (Some r) = 1

-- the decisions noted, and those due, a step on
noted_on : (d : List Decision) (before after : Option Reply) (said : Absorbed) (core : Core) (c i : ℕ) → Tells before after said
    → is_over Return said core ≡ false
    → d ++ decision_at after c i ≡ (d ++ decision_at before c i) ++ decision_at (decided_in said) c i
noted_on d before after Going core c i tells over = ap (λ o. d ++ decision_at o c i) tells ∙ sym (append-nil (d ++ decision_at before c i))
noted_on d before after (Decided r) core c i tells over =
    ap (λ o. d ++ decision_at o c i) tells.1 ∙ ap (λ (l : List Decision). l ++ decision_at (Some r) c i) (sym (append-nil d))
    ∙ ap (λ o. (d ++ decision_at o c i) ++ decision_at (Some r) c i) (sym tells.0)
noted_on d before after (Returned r) core c i tells over = absurd (false≢true (sym over))

due_on : (d : ℕ) (before after : Option Reply) (said : Absorbed) (core : Core) → Tells before after said → is_over Return said core ≡ false
    → d - one_of after ≡ d - one_of before - decisions_in said
due_on d before after Going core tells over = let same : one_of after ≡ one_of before = ap one_of tells in omega arith
due_on d before after (Decided r) core tells over =
    let none : one_of before ≡ 0 = ap one_of tells.0 in
    let one : one_of after ≡ 1 = ap one_of tells.1 in
    omega arith
due_on d before after (Returned r) core tells over = absurd (false≢true (sym over))

-- ---- the call as an item

module _ (m : Machine) (c : ℕ) (call : Call) (seat0 : Seat) (words0 : List ℕ) (decisions0 : List Decision)
    (at : IsAt m c (Begins call) seat0 words0 decisions0) (limits : InLimits call) where
  abbrev on : ℕ → Run
  on n = run words0 (begun seat0.state call) n

  abbrev index : ℕ
  index = seat0.begun + 1

  -- the seat after n steps, and the decisions
  abbrev seat_on : ℕ → Seat
  seat_on n = record { begun = index; due = seat0.due - one_of (replied (on n).core.active); state = (on n).core }

  abbrev decisions_on : ℕ → List Decision
  decisions_on n = decisions0 ++ decision_at (replied (on n).core.active) c index

  fits_on : (n : ℕ) → IsCore (on n).core
  fits_on n =
      let fits : IsCore seat0.state = subst (λ (s : Seat). IsCore s.state) (sym at.seat_is) (at.fit.each c at.here).fits in
      run_fits words0 (begun seat0.state call) n (begun_fits seat0.state call fits limits)

  fewer_on : (n : ℕ) → IsSome (on n).core.active → steps_left (on (suc n)).core < steps_left (on n).core
  fewer_on n some = absorbed_fewer (on n).core _ (fits_on n) some

  tells_on : (n : ℕ) → IsSome (on n).core.active
      → Tells (replied (on n).core.active) (replied (on (suc n)).core.active) (on (suc n)).last
  tells_on n some = tells_in (on n).core.own (on n).core.active _ some

  -- a step that leaves the core in its call
  module _ (n : ℕ) (before : IsSome (on n).core.active) (after : IsSome (on (suc n)).core.active) where
    makes_bare : MakesTurn (on n).core.own.layout (seat_on n)
        (record { begun = index; due = (seat_on n).due - decisions_in (on (suc n)).last; state = (on (suc n)).core })
        (on n).words (on (suc n)).words (on (suc n)).last
    makes_bare = record { told = refl; begun = refl; due = refl; state = refl; words = refl }

    over_on : is_over Return (on (suc n)).last (on (suc n)).core ≡ false
    over_on = goes_over (on (suc n)).last (on (suc n)).core.active (on (suc n)).core
        (step_of_core _ _ _ _ _ _ before makes_bare).leaves after

    makes_on : MakesTurn (on n).core.own.layout (seat_on n) (seat_on (suc n)) (on n).words (on (suc n)).words (on (suc n)).last
    makes_on = record {
      told = refl;
      begun = refl;
      due = due_on seat0.due (replied (on n).core.active) (replied (on (suc n)).core.active) (on (suc n)).last (on (suc n)).core
          (tells_on n before) over_on;
      state = refl;
      words = refl;
    }

    short_next : IsShort Return m c (seat_on n) (on n).words (decisions_on n)
        → IsShort Return m c (seat_on (suc n)) (on (suc n)).words (decisions_on (suc n))
    short_next short = short_on Return m c (Begins call) seat0 words0 decisions0 at (λ done. done) (on n).core.own.layout (seat_on n)
        (seat_on (suc n)) (on n).words (on (suc n)).words (decisions_on n) (decisions_on (suc n)) (on (suc n)).last index short refl before
        makes_on (fits_on (suc n)) (fewer_on n before)
        (noted_on decisions0 (replied (on n).core.active) (replied (on (suc n)).core.active) (on (suc n)).last (on (suc n)).core c index
        (tells_on n before) over_on) refl over_on

  -- while the core is in its call, the item is not done
  short_at : (n : ℕ) → IsSome (on n).core.active → IsShort Return m c (seat_on n) (on n).words (decisions_on n)
  short_at zero some =
      subst (λ (d : List Decision). IsShort Return m c (seat_on zero) words0 d) (sym (append-nil decisions0))
      (short_first Return m c (Begins call) seat0 (seat_on zero) words0 decisions0 at (λ done. done) refl refl (omega arith))
  short_at (suc n) some =
      let before = was_in (on n).core.own (on n).core.active _ some in
      short_next n before some (short_at n before)

  -- and the step by which it returns ends it
  module _ (seat' : Seat) (words' : List ℕ) (decisions' : List Decision) where
    ends_at : (n : ℕ) (reply : Reply) → (on n).last ≡ Returned reply → seat'.state ≡ (on n).core → seat'.begun ≡ index
        → seat'.due ≡ seat0.due - 1 → words' ≡ (on n).words → decisions' ≡ decisions0 ++ decision_at (Some reply) c index
        → TakesItem Return m (placed m c seat' words' decisions') c
    ends_at zero reply told state begun due words decisions = absurd (cc)
    ends_at (suc n) reply told state begun due words decisions =
        let before = was_returning (on n).core.own (on n).core.active _ reply told in
        let tells : replied (on n).core.active ≡ Some reply =
        subst (λ said. Tells (replied (on n).core.active) (replied (on (suc n)).core.active) said) told (tells_on n before) in
        let one : one_of (replied (on n).core.active) ≡ 1 = ap one_of tells in
        let none : decisions_in (on (suc n)).last ≡ 0 = ap decisions_in told in
        ends_on Return m c (Begins call) seat0 words0 decisions0 at (λ done. done) (on n).core.own.layout (seat_on n) seat' (on n).words
        words' (decisions_on n) decisions' (on (suc n)).last index (short_at n before) refl before
        (record { told = refl; begun = begun; due = omega arith; state = state; words = words })
        (subst IsCore (sym state) (fits_on (suc n)))
        (subst (λ (k : Core). steps_left k < steps_left (on n).core) (sym state) (fewer_on n before))
        (decisions ∙ ap (λ o. decisions0 ++ decision_at o c index) (sym tells) ∙ sym (append-nil (decisions_on n))
        ∙ ap (λ said. decisions_on n ++ decision_at (decided_in said) c index) (sym told))
        (sym begun) (ap (λ said. is_over Return said seat'.state) told)

    pub whole_item : MakesCall words0 (begun seat0.state call) words' seat'.state decisions0 decisions' c index → seat'.begun ≡ index
        → seat'.due ≡ seat0.due - 1 → TakesItem Return m (placed m c seat' words' decisions') c
    whole_item makes begun due =
        ends_at makes.made makes.notes.reply makes.notes.told makes.core_is begun due makes.words_are makes.notes.decisions_are
