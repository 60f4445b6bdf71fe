-- Two cores that take tickets, from the start to the end.
use Rattle.std.proofs.Common.{◌≡◌, ℕ, ◌+◌, ◌*◌, ◌%◌, ◌^◌, ◌<◌, List, [], ◌∷◌, ◌++◌, length, take, get_or, slice_get, slice_index, slice_set}
use Rattle.std.proofs.Common.{sum_by, Some, Result, Ok, Err, IfOk, refl, sym, ap, ◌∙◌, subst, arith, length-append}
use Rattle.turn_rule.specs.{program_after, TableValue, SeatValue, AreAllSeats, FollowsTrace}
use Rattle.turn_tests.specs.{declared.taker.Side.TheVariants.Left, declared.taker.Side.TheVariants.Right}
use Rattle.turn_tests.specs.{declared.taker.Phase.TheVariants.Idle, declared.taker.Taker.Taker, Taker.taker, Taker.taker_steps}
use Rattle.{turn_rule.specs.Seats.AreFresh, turn_rule.specs.Seats.EndsAt, turn_rule.proofs.Traces.program_stays}
use Rattle.{turn_tests.specs.Taking.HasTaken, turn_tests.specs.Taking.AreShown, turn_tests.proofs.Kept.all_go_on}

abbrev Seat : Type 0
Seat = SeatValue Taker ℕ

module _ {A : Type 0} where
  -- two elements in a slice each
  pair_was : (l front back : List A) (x y : A) → l ≡ front ++ back → length front ≡ 1 → length back ≡ 1
      → l ≡ get_or front 0 x ∷ get_or back 0 y ∷ []
  pair_was l [] back x y is one other = absurd (omega arith)
  pair_was l (a ∷ b ∷ front) back x y is one other = absurd (omega arith)
  pair_was l (a ∷ []) [] x y is one other = absurd (omega arith)
  pair_was l (a ∷ []) (b ∷ c ∷ back) x y is one other = absurd (omega arith)
  pair_was l (a ∷ []) (b ∷ []) x y is one other = is

  -- and once each is another one
  pair_now : (front back rest : List A) (x y : A) (n : ℕ) → length front ≡ 1 → length back ≡ 1 → n ≡ 2
      → take n ((slice_set front 0 x ++ slice_set back 0 y) ++ rest) ≡ x ∷ y ∷ []
  pair_now [] back rest x y n one other two = absurd (omega arith)
  pair_now (a ∷ b ∷ front) back rest x y n one other two = absurd (omega arith)
  pair_now (a ∷ []) [] rest x y n one other two = absurd (omega arith)
  pair_now (a ∷ []) (b ∷ c ∷ back) rest x y n one other two = absurd (omega arith)
  pair_now (a ∷ []) (b ∷ []) rest x y n one other two = ap (λ (m : ℕ). take m (x ∷ y ∷ rest)) two

  two_are : (l : List A) (x y : A) → length l ≡ 2 → slice_get l 0 ≡ Some x → slice_get l 1 ≡ Some y → l ≡ x ∷ y ∷ []
  two_are [] x y count at_x at_y = absurd (omega arith)
  two_are (a ∷ []) x y count at_x at_y = absurd (omega arith)
  two_are (a ∷ b ∷ c ∷ l) x y count at_x at_y = absurd (omega arith)
  two_are (a ∷ b ∷ []) x y count at_x at_y = cc

pub if_both : {T E : Type 0} (r : Result T E) (F G H : T → Type 0) → ((x : T) → F x → G x → H x) → IfOk r F → IfOk r G → IfOk r H
if_both (Ok x) F G H h f g = h x f g
if_both (Err e) F G H h f g = f

abbrev fresh_pair : List Taker
fresh_pair = taker Left Idle 0 0 ∷ taker Right Idle 0 0 ∷ []

module _ (table : TableValue Taker) where
  -- at the end a core's program is the one of its seat
  program_at_end : (seats : List Seat) (words : List ℕ) (programs : List Taker) → AreAllSeats table seats
      → EndsAt taker_steps table seats words programs → (k : ℕ) (s : Seat) → slice_get seats k ≡ Some s → FollowsTrace taker_steps s
      → slice_get programs k ≡ Some s.program
  program_at_end seats words programs all end k s at follows =
      let begins = end.begins k s at in
      end.program k ∙ ap (program_after taker_steps table.start end.trace) (sym (all.core k s at))
      ∙ ap (λ t. program_after taker_steps table.start t s.core) begins.whole
      ∙ program_stays taker_steps table.start s.core begins.since s.seen begins.apart
      ∙ ap (λ t. program_after taker_steps t.start s.seen s.core) (sym (all.table k s at)) ∙ follows.runs

  -- a seat that has seen nothing yet follows the empty trace
  fresh_follows : (seats : List Seat) → AreAllSeats table seats → AreFresh table seats → (k : ℕ) (s : Seat) → slice_get seats k ≡ Some s
      → FollowsTrace taker_steps s
  fresh_follows seats all fresh k s at =
      let core = ap (slice_get s.table.start.programs) (all.core k s at) in
      let programs = ap (λ t. slice_get t.start.programs k) (all.table k s at) in
      subst (λ (t : _). FollowsTrace taker_steps (record s { seen = t })) (sym (fresh.seen k s at))
      record { sound = tt; runs = core ∙ programs ∙ fresh.program k s at }

  module _ (x y x' y' : Seat) (calls : ℕ) (all : AreAllSeats table (x ∷ y ∷ []))
      (left : HasTaken x (calls * 3) x') (right : HasTaken y (calls * 5) y') where
    pair_stays : AreAllSeats table (x' ∷ y' ∷ [])
    pair_stays = all_go_on table (x ∷ y ∷ []) (x' ∷ y' ∷ []) [] 2 all (left.goes_on, (right.goes_on, tt)) refl

    pair_takes : AreFresh table (x ∷ y ∷ []) → table.start.programs ≡ fresh_pair → calls < 2 ^ 32 → (words : List ℕ) (programs : List Taker)
        → EndsAt taker_steps table (x' ∷ y' ∷ []) words programs → AreShown words programs
        → slice_index words 0 ≡ calls * 8
    pair_takes fresh are small words programs end shown =
        let count : length programs ≡ 2 = end.program_count ∙ ap length are in
        let p : Taker = x'.program in
        let q : Taker = y'.program in
        let p_follows = left.follows (fresh_follows (x ∷ y ∷ []) all fresh 0 x refl) in
        let q_follows = right.follows (fresh_follows (x ∷ y ∷ []) all fresh 1 y refl) in
        let p_at = program_at_end (x' ∷ y' ∷ []) words programs pair_stays end 0 x' refl p_follows in
        let q_at = program_at_end (x' ∷ y' ∷ []) words programs pair_stays end 1 y' refl q_follows in
        let x_is : x.program ≡ taker Left Idle 0 0 = (let at = fresh.program 0 x refl in let was = ap (λ l. slice_get l 0) are in cc) in
        let y_is : y.program ≡ taker Right Idle 0 0 = (let at = fresh.program 1 y refl in let was = ap (λ l. slice_get l 1) are in cc) in
        let sum : slice_index words 0 ≡ (0 + p.taken + q.taken) % 2 ^ 64 =
        shown.taken ∙ ap (λ l. sum_by (λ (r : Taker). r.taken) l % 2 ^ 64) (two_are programs p q count p_at q_at) in
        let x_taken : x.program.taken ≡ 0 = ap (λ r. r.taken) x_is in
        let y_taken : y.program.taken ≡ 0 = ap (λ r. r.taken) y_is in
        let p_taken = left.taken in
        let q_taken = right.taken in
        omega arith

  -- the same of two seats of a list that was split, and each made its calls
  module _ (seats front back rest : List Seat) (x y x' y' : Seat) (n calls : ℕ) (all : AreAllSeats table seats)
      (are : table.start.programs ≡ fresh_pair) (split : seats ≡ front ++ back) (one : length front ≡ 1) (count : n ≡ length seats)
      (left : HasTaken (get_or front 0 x) (calls * 3) x') (right : HasTaken (get_or back 0 y) (calls * 5) y') where
    abbrev after : List Seat
    after = take n ((slice_set front 0 x' ++ slice_set back 0 y') ++ rest)

    two : length seats ≡ 2
    two = all.count ∙ ap length are

    other : length back ≡ 1
    other = let sum = ap length split ∙ length-append front back in let all_two = two in omega arith

    was : seats ≡ get_or front 0 x ∷ get_or back 0 y ∷ []
    was = pair_was seats front back x y split one other

    now : after ≡ x' ∷ y' ∷ []
    now = pair_now front back rest x' y' n one other (count ∙ two)

    were_all : AreAllSeats table (get_or front 0 x ∷ get_or back 0 y ∷ [])
    were_all = subst (λ (l : List Seat). AreAllSeats table l) was all

    pub both_stay : AreAllSeats table after
    both_stay = subst (λ (l : List Seat). AreAllSeats table l) (sym now)
        (pair_stays (get_or front 0 x) (get_or back 0 y) x' y' calls were_all left right)

    pub both_take : AreFresh table seats → calls < 2 ^ 32 → (words : List ℕ) (programs : List Taker)
        → EndsAt taker_steps table after words programs → AreShown words programs → slice_index words 0 ≡ calls * 8
    both_take fresh small words programs end shown =
        pair_takes (get_or front 0 x) (get_or back 0 y) x' y' calls were_all left right
        (subst (λ (l : List Seat). AreFresh table l) was fresh) are small words programs
        (subst (λ (l : List Seat). EndsAt taker_steps table l words programs) now end) shown
