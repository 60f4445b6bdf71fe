-- How the steps of a whole call are put together.
use Rattle.std.proofs.Common.{◌≡◌, ◌↔◌, ℕ, zero, suc, Bool, false, IsTrue, Option, Some, None, IsSome, IsNone, IsSomeAnd, MatchOption, refl}
use Rattle.turn_rule.specs.{SeatValue, FollowsTrace, MakesStep, Turns, TurnsOn}
use Rattle.{std.proofs.Common.subst, spk_nums.specs.declared.steps.WordOp.WordOp, turn_rule.specs.Steps.Steps}

module _ {P C : Type 0} (T : Steps P C) where
  -- the first step of a call is one turn
  pub first_turns : (seat made : SeatValue P C) (call : C)
      → IsSomeAnd (T.next (T.begun seat.program call)) (λ op. MakesStep T seat (Some call) op made) → FollowsTrace T made
      → Turns T seat (Some call) made
  first_turns seat made call step follows = by_op (T.next (T.begun seat.program call)) refl step
    where
      by_op : (o : Option WordOp) → T.next (T.begun seat.program call) ≡ o → IsSomeAnd o (λ op. MakesStep T seat (Some call) op made)
          → Turns T seat (Some call) made
      by_op None is m = absurd m
      by_op (Some op) is m = record { op = op; next = is; makes = m; follows = follows }

  -- a step that follows is one turn
  pub later_turns : (seat made : SeatValue P C) → IsSome (T.next seat.program)
      → MatchOption (T.next seat.program) (made ≡ seat) (λ op. MakesStep T seat None op made) → FollowsTrace T made
      → Turns T seat None made
  later_turns seat made some step follows = by_op (T.next seat.program) refl some step
    where
      by_op : (o : Option WordOp) → T.next seat.program ≡ o → IsSome o → MatchOption o (made ≡ seat) (λ op. MakesStep T seat None op made)
          → Turns T seat None made
      by_op None is s m = absurd (cc)
      by_op (Some op) is s m = record { op = op; next = is; makes = m; follows = follows }

  -- where no step follows, the seat is as it was
  pub no_turn : (seat made : SeatValue P C) (some : Bool) → some ≡ false → (IsTrue some ↔ IsSome (T.next seat.program))
      → MatchOption (T.next seat.program) (made ≡ seat) (λ op. MakesStep T seat None op made)
      → (made ≡ seat) × IsNone (T.next seat.program)
  no_turn seat made some is tells step = by_op (T.next seat.program) tells step
    where
      by_op : (o : Option WordOp) → (IsTrue some ↔ IsSome o) → MatchOption o (made ≡ seat) (λ op. MakesStep T seat None op made)
          → (made ≡ seat) × IsNone o
      by_op None t m = (m, refl)
      by_op (Some op) t m = let yes = t.1 refl in absurd (cc)

  -- one more turn
  pub one_more : (n : ℕ) (a b c : SeatValue P C) → TurnsOn T n a b → Turns T b None c → TurnsOn T (suc n) a c
  one_more zero a b c is turn = (c, subst (λ s. Turns T s None c) is turn, refl)
  one_more (suc n) a b c h turn = (h.0, h.1, one_more n h.0 b c h.2 turn)
