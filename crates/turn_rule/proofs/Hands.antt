-- Steps of a seat's hand.
use Rattle.std.proofs.Common.{◌≡◌, ℕ, ◌<◌, ◌∷◌, ◌++◌, length, Option, Some, None, IfSome, IsSomeAnd, MatchOption, refl, sym, ap}
use Rattle.std.proofs.Common.{◌∙◌, subst, arith}
use Rattle.spk_nums.specs.{declared.steps.WordOp.WordOp, WordSteps.place_in}
use Rattle.turn_rule.specs.{called, MayCall, TableValue, FollowsTrace, MakesStep, AreOfOthers, entry}
use Rattle.turn_rule.specs.{Steps.Steps, Hands.Hand, Hands.seat_of, Hands.IsHeld, Hands.IsHandDue, Hands.HandGoes}
use Rattle.turn_rule.proofs.Keeps.{seated_on}

-- what holds of what an option has
pub holds_of : {A : Type 0} (o : Option A) (a : A) (F : A → Type 0) → o ≡ Some a → IfSome o F → F a
holds_of o a F is h = subst (λ p. IfSome p F) is h

pub some_and : {A : Type 0} (o : Option A) (a : A) (F : A → Type 0) → o ≡ Some a → F a → IsSomeAnd o F
some_and o a F is h = subst (λ p. IsSomeAnd p F) (sym is) h

pub some_match : {A : Type 0} (o : Option A) (a : A) (N : Type 0) (F : A → Type 0) → o ≡ Some a → F a → MatchOption o N F
some_match o a N F is h = subst (λ p. MatchOption p N F) (sym is) h

module _ {P C : Type 0} (T : Steps P C) where
  -- the step of its program is due of a seat's hand
  pub hand_due : (table : TableValue P) (o : Option (Hand P C)) (core : ℕ) (p : P) (call : Option C) (op : WordOp) → IsHeld T o core p
      → (seat_of o core p).table ≡ table → MayCall T p call → T.next (called T p call) ≡ Some op → place_in op < T.size p
      → IsHandDue T table o call op
  hand_due table None core p call op held of may next inside = absurd held
  hand_due table (Some h) core p call op held of may next inside =
      let size : T.size p ≡ length table.start.words = held.size ∙ ap (λ t. length t.start.words) of in (
        ap (λ t. t.id) of,
        record { core = core; program = p; seated = held; may = may; next = next; inside = omega arith },
      )

  -- after the step the seat has its hand still
  pub held_on : (o n : Option (Hand P C)) (core : ℕ) (p q : P) (call : Option C) (op : WordOp) (told : ℕ) → IsHeld T o core p
      → MayCall T p call → T.next (called T p call) ≡ Some op → HandGoes T o call op told n → q ≡ T.after (called T p call) told
      → T.size q ≡ T.size p → IsHeld T n core q
  held_on None n core p q call op told held may next goes is size = absurd held
  held_on (Some h) None core p q call op told held may next goes is size = absurd goes
  held_on (Some h) (Some n) core p q call op told held may next goes is size =
      seated_on T core h.me n.me p q call op told held may next goes.1 goes.2 is size

  -- and has made it
  pub hand_makes : (o n : Option (Hand P C)) (core : ℕ) (p q : P) (call : Option C) (op : WordOp) (told : ℕ) → IsHeld T o core p
      → HandGoes T o call op told n → q ≡ T.after (called T p call) told
      → MakesStep T (seat_of o core p) call op (seat_of n core q)
  hand_makes None n core p q call op told held goes is = absurd held
  hand_makes (Some h) None core p q call op told held goes is = absurd goes
  hand_makes (Some h) (Some n) core p q call op told held goes is = let g = goes.1 in let from = held.from in record {
    found = g.found;
    others = g.others;
    apart = subst (λ (c : ℕ). AreOfOthers c g.others) from g.apart;
    seen = subst (λ (c : ℕ). n.me.0.own.seen ≡ entry c op g.found call ∷ (g.others ++ h.me.0.own.seen)) from g.seen;
    program = is ∙ ap (λ (k : ℕ). T.after (called T p call) k) g.told_is;
    core = refl;
    table = λ i. record { id = goes.0 i; start = g.stays.start i };
  }

  pub held_follows : (o : Option (Hand P C)) (core : ℕ) (p : P) → IsHeld T o core p → FollowsTrace T (seat_of o core p)
  held_follows None core p held = absurd held
  held_follows (Some h) core p held = held.follows
