-- A machine that has just booted is fit, and stands for the empty trace.
use Rattle.flight_laws.specs.flight.specs.step_ways.proofs.{◌≡◌, inl, inr, ℕ, ◌+◌, ◌*◌, ◌<◌, ◌≤◌, ◌^◌, ◌++◌, List, [], ◌∷◌, length, get_or}
use Rattle.flight_laws.specs.flight.specs.step_ways.proofs.{map, suc, take, arith, refl, sym, ◌∙◌, ap, subst, sum_by, Bool, true, false}
use Rattle.flight_laws.specs.flight.specs.step_ways.proofs.{Some, None, Option, length-map, length-append, get_or-map, get_or_past, Call}
use Rattle.flight_laws.specs.flight.specs.step_ways.proofs.{Decision, Setting, Word, IsIn, shape_of, word_in, Core, IsCore, started}
use Rattle.lone_kernel.specs.{seat_at, core_at, list_at, fresh_seat, due_at, due_in, IsFit, IsFitSeat, AreLists, StandsFor}
use Rattle.lone_kernel.specs.{declared.seats.Seat.Seat, Machine.Machine, Machine.AreFresh}
use Rattle.{flight_laws.specs.flight.specs.step_ways.proofs.ActiveCall, std.proofs.lemmas.Bool.cases_eq, std.proofs.lemmas.Bool.cases_lt}
use Rattle.{std.proofs.lemmas.List.get_or_push, std.proofs.lemmas.List.get_or_append_left, flight_laws.specs.core_invariant.specs.size_of}
use Rattle.{flight_laws.specs.core_invariant.specs.boot_word, std.proofs.Common.fold, flight_laws.specs.flight.specs.Decided.is_decided_at}

-- the seats so far, of the first n lists
pub record AreFreshBelow (setup : Setting) (lists : List (List Call)) (n : ℕ) (seats : List Seat) : Type 0 where
  pub count : length seats ≡ n
  pub each : (c : ℕ) → c < n → get_or seats c (fresh_seat setup c []) ≡ fresh_seat setup c (get_or lists c [])

pub fresh_none : (setup : Setting) (lists : List (List Call)) (seats : List Seat) → seats ≡ [] → AreFreshBelow setup lists 0 seats
fresh_none setup lists seats none = record { count = ap length none; each = λ c h. absurd (omega arith) }

pub fresh_more : (setup : Setting) (lists : List (List Call)) (seats seats' : List Seat) (n : ℕ) (s : Seat)
    → AreFreshBelow setup lists n seats → seats' ≡ seats ++ s ∷ [] →
    s ≡ fresh_seat setup n (get_or lists n []) → AreFreshBelow setup lists (n + 1) seats'
fresh_more setup lists seats seats' n s fresh more is = record {
  count = (let k = ap length more ∙ length-append seats (s ∷ []) in let size = fresh.count in omega arith);
  each = λ c h. elim (cases_eq c n) [
    | inl last ↦
        ap (λ l. get_or l c (fresh_seat setup c [])) more ∙ get_or_push seats s (fresh_seat setup c []) c (fresh.count ∙ sym last) ∙ is
        ∙ ap (λ (i : ℕ). fresh_seat setup i (get_or lists i [])) (sym last)
    | inr earlier ↦
        ap (λ l. get_or l c (fresh_seat setup c [])) more ∙ get_or_append_left seats (s ∷ []) (fresh_seat setup c []) c
        (let size = fresh.count in omega arith) ∙ fresh.each c (omega arith)
  ];
}

pub fresh_is : {V : Type 0} (items : V → List Call) (setup : Setting) (lists : List V) (n due : ℕ) (v : V) (state : Core)
    → n < length lists → v ≡ get_or lists n v →
    due ≡ length (items v) → state ≡ started n setup → record { begun = 0; due = due; state = state } ≡ fresh_seat setup n
    (get_or (map items lists) n [])
fresh_is items setup lists n due v state here v_is due_is state_is =
    let list : get_or (map items lists) n [] ≡ items v = get_or-map items lists n v [] here ∙ ap items (sym v_is) in
    let all : due ≡ length (get_or (map items lists) n []) = due_is ∙ ap length (sym list) in
    λ i. record { begun = 0; due = all i; state = state_is i }

pub fresh_all : (setup : Setting) (lists : List (List Call)) (n : ℕ) (seats : List Seat) → n ≡ length lists
    → AreFreshBelow setup lists n seats → AreFresh setup lists seats
fresh_all setup lists n seats all fresh = record { count = fresh.count ∙ all; each = λ c h. fresh.each c (omega arith) }

module _ {V : Type 0} (items : V → List Call) (setup : Setting) (words : List ℕ) (lists : List V) (seats : List Seat)
    (decisions : List Decision)
    (size : length words ≡ size_of (shape_of setup))
    (fresh : AreFresh setup (map items lists) seats) (can_run : AreLists (map items lists))
    (one_each : length lists ≡ setup.cores) (cores_fit : (c : ℕ) → c < setup.cores → IsCore (started c setup)) where
  abbrev m : Machine
  m = record { setup = setup; words = words; lists = map items lists; seats = seats; decisions = decisions }

  in_range : (c : ℕ) → c < setup.cores → c < length (map items lists)
  in_range c h = omega (arith, length-map lists items)

  fresh_at : (c : ℕ) → c < setup.cores → seat_at m c ≡ fresh_seat setup c (list_at m c)
  fresh_at c h = fresh.each c (in_range c h)

  pub core_is : (c : ℕ) → core_at m c ≡ started c setup
  core_is c = elim (cases_lt c (length seats)) [
    | inl h ↦ ap (λ s. s.state) (fresh.each c (let n = fresh.count in omega arith))
    | inr past ↦ ap (λ s. s.state) (get_or_past seats c (fresh_seat setup c []) past)
  ]

  pub fits : IsFit m
  fits = record {
    size = size;
    lists = length-map lists items ∙ one_each;
    seats = fresh.count ∙ length-map lists items ∙ one_each;
    calls = λ c h. (can_run c [] (in_range c h)).0;
    each = λ c h. subst (λ s. IsFitSeat setup (list_at m c) c s) (sym (fresh_at c h)) record {
      sum = omega arith;
      begun = omega arith;
      small = (can_run c [] (in_range c h)).1;
      core = refl;
      shape = refl;
      fits = cores_fit c h;
    };
  }

  module _ (none : decisions ≡ [])
      (words_are : (w : Word) → IsIn (shape_of setup) w → word_in (shape_of setup) words w ≡ boot_word setup w) where
    pub stands : StandsFor m []
    stands = record {
      made = tt;
      cores = λ c h. core_is c;
      words = λ w is_in. words_are w is_in;
      calls = λ c h. ap (λ s. take s.begun (list_at m c)) (sym (fresh_at c h));
      decisions = none;
    }

due_low : (o : Option ActiveCall) → due_in o ≤ 1
due_low None = omega arith
due_low (Some f) = of_decided (is_decided_at f.stage) where
  of_decided : (b : Bool) → due_at b ≤ 1
  of_decided true = omega arith
  of_decided false = omega arith

-- no more than n items of fewer than k each
sum_small : (k a : ℕ) (xs : List Seat) (at : ℕ → Seat) → ((i : ℕ) → i < length xs → (get_or xs i (at i)).due < k)
    → fold (λ b seat. b + seat.due) a xs ≤ a + length xs * k
sum_small k a [] at small = omega arith
sum_small k a (x ∷ xs) at small =
    let first = small 0 (omega arith) in
    let rest = sum_small k (a + x.due) xs (λ i. at (suc i)) (λ i h. small (suc i) (omega arith)) in
    omega arith

pub few_due : (m : Machine) → IsFit m → m.setup.cores ≤ 8 → sum_by (λ seat. seat.due) m.seats < 2 ^ 60
few_due m fit few =
    let n = fit.seats in
    let s = sum_small (2 ^ 32 + 1) 0 m.seats (λ i. fresh_seat m.setup i []) (λ i h.
    let k = fit.each i (omega arith) in
    let sum = k.sum in
    let small = k.small in
    let low = due_low (seat_at m i).state.active in
    omega arith) in
    omega arith
