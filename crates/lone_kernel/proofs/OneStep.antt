-- One step of a core over a list of words.
use Rattle.flight_laws.specs.flight.specs.step_ways.proofs.{◌≡◌, ℕ, ◌-◌, ◌<◌, ◌++◌, List, [], length, map, Some, sym, ◌∙◌, ap, subst, arith}
use Rattle.flight_laws.specs.flight.specs.step_ways.proofs.{get_or, set as slice_set, All, length-map, get_or-map, Setting, InLimits, Call}
use Rattle.flight_laws.specs.flight.specs.step_ways.proofs.{Decision, Shape, op_of, left_of, told_of, place_in, decision_at, Core, IsCore}
use Rattle.flight_laws.specs.flight.specs.step_ways.proofs.{steps_left, move_of, absorbed, told_of_step, shape_of, decided_in, Absorbed}
use Rattle.lone_kernel.specs.{fresh_seat, seat_at, core_at, list_at, turn_of, turn_at, IsFit, IsFitSeat, core_in, begun_by, decisions_in}
use Rattle.lone_kernel.specs.{place_next, said_by, seat_after, found_by, stepped}
use Rattle.flight_laws.specs.flight.proofs.{place_is, left_is}
use Rattle.spk_nums.specs.{declared.steps.WordOp.WordOp, WordSteps.left_by, WordSteps.told_by}
use Rattle.lone_kernel.specs.{declared.seats.Seat.Seat, declared.seats.Turn.Turn, Machine.Machine, Machine.words_after, Machine.MakesTurn}
use Rattle.{std.proofs.lemmas.List.get_or_read, flight_laws.specs.flight.proofs.ByPlace.told_is, lone_kernel.specs.Machine.TakesTurn}

pub makes_turn : (shape : Shape) (seat seat' : Seat) (before after : List ℕ) (said : Absorbed) (op : WordOp) (found told due : ℕ) →
    op ≡ op_of shape (move_of seat.state) → found ≡ get_or before (place_in op) 0
    → after ≡ slice_set before (place_in op) (left_by op found) →
    told ≡ told_by op found → said ≡ told_of_step seat.state told → seat'.state ≡ absorbed seat.state told → seat'.begun ≡ seat.begun →
    due ≡ decisions_in said → seat'.due ≡ seat.due - due → MakesTurn shape seat seat' before after said
makes_turn shape seat seat' before after said op found told due op_is found_is after_is told_is_by said_is state_is begun_is due_is left =
    let m = move_of seat.state in
    let at : place_in op ≡ place_next shape seat.state = ap place_in op_is ∙ place_is shape m in
    let here : found ≡ get_or before (place_next shape seat.state) 0 = found_is ∙ ap (λ (n : ℕ). get_or before n 0) at in
    let told_here : told ≡ told_of m (get_or before (place_next shape seat.state) 0) =
    told_is_by ∙ ap (λ o. told_by o found) op_is ∙ told_is shape m found ∙ ap (λ (n : ℕ). told_of m n) here in
    record {
      told = said_is ∙ ap (λ (n : ℕ). told_of_step seat.state n) told_here;
      begun = begun_is;
      due = left ∙ ap (λ (n : ℕ). seat.due - n) due_is;
      state = state_is ∙ ap (λ (n : ℕ). absorbed seat.state n) told_here;
      words = after_is ∙ ap (λ (n : ℕ). slice_set before n (left_by op found)) at
          ∙ ap (λ o. slice_set before (place_next shape seat.state) (left_by o found)) op_is
          ∙ ap (λ (n : ℕ). slice_set before (place_next shape seat.state) n) (left_is shape m found)
          ∙ ap (λ (n : ℕ). slice_set before (place_next shape seat.state) (left_of m n)) here;
    }

-- a turn is the call's beginning, where it has one, and then the step
pub takes_turn : (shape : Shape) (seat between seat' : Seat) (f : Turn) (before after : List ℕ) (said : Absorbed) →
    between.state ≡ core_in seat.state f → between.begun ≡ begun_by f seat.begun → between.due ≡ seat.due →
    MakesTurn shape between seat' before after said → TakesTurn shape seat f seat' before after said
takes_turn shape seat between seat' f before after said state_is begun_is due_is makes =
    let found : Core → ℕ = λ core. get_or before (place_next shape core) 0 in
    let told : said ≡ said_by (core_in seat.state f) (found (core_in seat.state f)) = makes.told
    ∙ ap (λ core. said_by core (found core)) state_is in
    let state : seat'.state ≡ absorbed (core_in seat.state f) (told_of (move_of (core_in seat.state f)) (found (core_in seat.state f))) =
    makes.state ∙ ap (λ core. absorbed core (told_of (move_of core) (found core))) state_is in
    let begun : seat'.begun ≡ begun_by f seat.begun = makes.begun ∙ begun_is in
    let due : seat'.due ≡ seat.due - decisions_in (said_by (core_in seat.state f) (found (core_in seat.state f))) =
    makes.due ∙ ap (λ (n : ℕ). n - decisions_in said) due_is ∙ ap (λ s. seat.due - decisions_in s) told in
    record {
      told = told;
      behind = λ i. record { begun = begun i; due = due i; state = state i };
      words = makes.words ∙ ap (λ core. words_after shape before core (found core)) state_is;
    }

module _ {V : Type 0} (items : V → List Call) (setup : Setting) (words : List ℕ) (lists : List V) (seats : List Seat)
    (decisions : List Decision)
    (n : ℕ) (v : V) (k : Seat)
    (fit : IsFit (record { setup = setup; words = words; lists = map items lists; seats = seats; decisions = decisions }))
    (here : n < setup.cores) (v_is : v ≡ get_or lists n v) (k_is : k ≡ get_or seats n k) where
  abbrev m : Machine
  m = record { setup = setup; words = words; lists = map items lists; seats = seats; decisions = decisions }

  within : n < length lists
  within = let p = fit.lists in omega (arith, length-map lists items)

  in_seats : n < length seats
  in_seats = let p = fit.seats in omega arith

  pub list_is : list_at m n ≡ items v
  list_is = get_or-map items lists n v [] within ∙ ap items (sym v_is)

  pub seat_is : seat_at m n ≡ k
  seat_is = sym (get_or_read seats n k in_seats k_is (fresh_seat setup n []))

  pub fit_here : IsFitSeat setup (items v) n k
  fit_here = subst (λ l. IsFitSeat setup l n k) list_is (subst (λ s. IsFitSeat setup (list_at m n) n s) seat_is (fit.each n here))

  pub calls_here : All InLimits (items v)
  calls_here = subst (λ l. All InLimits l) list_is (fit.calls n here)

  pub turn_here : (f : Turn) → turn_of (items v) k ≡ Some f → turn_at m n ≡ Some f
  turn_here f begins = ap (λ l. turn_of l (seat_at m n)) list_is ∙ ap (turn_of (items v)) seat_is ∙ begins

  module _ (layout : Shape) (f : Turn) (seat' : Seat) (words' : List ℕ) (said : Absorbed)
      (takes : TakesTurn layout k f seat' words words' said)
      (layout_is : layout ≡ shape_of setup) where
    pub takes_here : TakesTurn (shape_of setup) (seat_at m n) f seat' words words' said
    takes_here = subst (λ s. TakesTurn s (seat_at m n) f seat' words words' said) layout_is
        (subst (λ s. TakesTurn layout s f seat' words words' said) (sym seat_is) takes)

    pub stepped_is : (decisions' : List Decision) (index : ℕ) → index ≡ seat'.begun
        → decisions' ≡ decisions ++ decision_at (decided_in said) n index →
        record {
          setup = setup;
          words = words';
          lists = map items lists;
          seats = slice_set seats n seat';
          decisions = decisions';
        } ≡ stepped m n f
    stepped_is decisions' index index_is noted =
        let takes = takes_here in
        let seats_at : slice_set seats n seat' ≡ (stepped m n f).seats = ap (λ s. slice_set seats n s) takes.behind in
        let decisions_at : decisions' ≡ (stepped m n f).decisions =
        noted ∙ ap (λ s. decisions ++ decision_at (decided_in s) n index) takes.told
        ∙ ap (λ (i : ℕ). decisions ++ decision_at (decided_in (said_by (core_in (core_at m n) f) (found_by m n f))) n i) (index_is
        ∙ ap (λ s. s.begun) takes.behind) in
        λ i. record { setup = setup; words = takes.words i; lists = map items lists; seats = seats_at i; decisions = decisions_at i }

    pub fits_behind : IsCore seat'.state → IsCore (seat_after (seat_at m n) f (found_by m n f)).state
    fits_behind fits = subst (λ s. IsCore s.state) takes_here.behind fits

    pub fewer_behind : steps_left seat'.state < steps_left (core_in k.state f)
        → steps_left (seat_after (seat_at m n) f (found_by m n f)).state < steps_left (core_in (core_at m n) f)
    fewer_behind fewer =
        subst (λ s. steps_left (seat_after (seat_at m n) f (found_by m n f)).state < steps_left (core_in s.state f)) (sym seat_is)
        (subst (λ s. steps_left s.state < steps_left (core_in k.state f)) takes_here.behind fewer)
