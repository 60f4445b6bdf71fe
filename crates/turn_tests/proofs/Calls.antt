-- What a step adds to a seat's calls and steps.
use Rattle.std.proofs.Common.{◌≡◌, ℕ, zero, suc, ◌+◌, ◌<◌, ◌≤◌, ◌%◌, ◌^◌, ◌==◌, Bool, true, false, List, [], ◌∷◌, ◌++◌, if◌then◌else◌}
use Rattle.std.proofs.Common.{Option, Some, None, MatchOption, IsSome, option_to_list, refl, sym, ap, ◌∙◌, subst, arith, append_assoc}
use Rattle.std.proofs.Common.{eq-eqb, ne_eqb}
use Rattle.turn_rule.specs.{entry, AreOfOthers, SeatValue, MakesStep}
use Rattle.turn_rule.specs.{declared.view.Entry.Entry, Steps.Steps}
use Rattle.turn_tests.specs.declared.counter.Stage.TheVariants.{Idle, Looks, Tries}
use Rattle.turn_tests.specs.Counter.{next_at, lost, after_at, counter, steps_left}
use Rattle.turn_tests.specs.Counting.{calls_of, steps_of, Makes}
use Rattle.{spk_nums.specs.declared.steps.WordOp.WordOp, turn_rule.proofs.Traces.extends_on, turn_tests.specs.declared.counter.Stage.Stage}

module _ {C : Type 0} where
  -- steps of others are no calls and steps of the core
  calls_of-others : (c : ℕ) (since t : List (Entry C)) → AreOfOthers c since → calls_of c (since ++ t) ≡ calls_of c t
  calls_of-others c [] t h = refl
  calls_of-others c (e ∷ since) t h = ap (λ b. (if b then option_to_list e.call else []) ++ calls_of c (since ++ t)) (ne_eqb e.core c h.0)
      ∙ calls_of-others c since t h.1

  steps_of-others : (c : ℕ) (since t : List (Entry C)) → AreOfOthers c since → steps_of c (since ++ t) ≡ steps_of c t
  steps_of-others c [] t h = refl
  steps_of-others c (e ∷ since) t h = ap (λ b. (if b then 1 else 0) + steps_of c (since ++ t)) (ne_eqb e.core c h.0)
      ∙ (let rest = steps_of-others c since t h.1 in omega arith)

module _ {P C : Type 0} (T : Steps P C) where
  pub step_makes : (seat : SeatValue P C) (call : Option C) (op : WordOp) (made : SeatValue P C) → MakesStep T seat call op made
      → Makes seat (option_to_list call) 1 made
  step_makes seat call op made m =
      let c : ℕ = seat.core in
      let e : Entry C = entry c op m.found call in
      let rest : List (Entry C) = m.others ++ seat.seen in
      let mine : (c == c) ≡ true = eq-eqb c c refl in
      let calls : calls_of c (e ∷ rest) ≡ option_to_list call ++ calls_of c seat.seen =
      ap (λ b. (if b then option_to_list call else []) ++ calls_of c rest) mine
      ∙ ap (λ (l : List C). option_to_list call ++ l) (calls_of-others c m.others seat.seen m.apart) in
      let one : steps_of c (e ∷ rest) ≡ 1 + steps_of c rest = ap (λ b. (if b then 1 else 0) + steps_of c rest) mine in
      let others = steps_of-others c m.others seat.seen m.apart in
      let steps : steps_of c (e ∷ rest) ≤ steps_of c seat.seen + 1 = omega arith in record {
        begins = record { since = e ∷ m.others; whole = m.seen };
        calls_are = ap (λ (z : ℕ × List (Entry C)). calls_of z.0 z.1) (λ i. (m.core i, m.seen i)) ∙ calls;
        steps = subst (λ (z : ℕ × List (Entry C)). steps_of z.0 z.1 ≤ steps_of c seat.seen + 1) (λ i. (sym m.core i, sym m.seen i)) steps;
        core = m.core;
        table = m.table;
      }

pub makes_more : {P C : Type 0} (u v w : SeatValue P C) (cs ds : List C) (m n : ℕ) → Makes u cs m v → Makes v ds n w
    → Makes u (ds ++ cs) (m + n) w
makes_more {C = C} u v w cs ds m n a b = let x = a.steps in let y = b.steps in record {
  begins = extends_on u.seen v.seen w.seen a.begins b.begins;
  calls_are = b.calls_are ∙ ap (λ (l : List C). ds ++ l) a.calls_are ∙ sym (append_assoc ds cs (calls_of u.core u.seen));
  steps = omega arith;
  core = b.core ∙ a.core;
  table = b.table ∙ a.table;
}

-- a step leaves the call fewer
pub fewer_left : (s : Stage) (wins n : ℕ) → IsSome (next_at s) → steps_left (after_at s wins n).stage < steps_left s
fewer_left Idle wins n h = absurd (cc)
fewer_left (Looks left) wins n h = omega arith
fewer_left (Tries seen left) wins n h = by_test (n == seen) left
  where
    lost_left : (left : ℕ) → steps_left (lost n left) ≤ left
    lost_left zero = omega arith
    lost_left (suc k) = omega arith

    by_test : (b : Bool) (left : ℕ) → steps_left
        (if b then counter Idle ((wins + 1) % 2 ^ 64) else counter (lost n left) wins).stage < left + 1
    by_test true left = omega arith
    by_test false left = let t = lost_left left in omega arith

pub the_some : {A : Type 0} (o : Option A) (N : Type 0) (F : A → Type 0) → IsSome o → MatchOption o N F → (a : A) × F a
the_some None N F s f = absurd (cc)
the_some (Some a) N F s f = (a, f)
