-- How all seats are dealt and gathered, one after another.
use Rattle.std.proofs.Common.{◌≡◌, ◌⊎◌, ℕ, zero, suc, ◌+◌, ◌<◌, ◌≤◌, List, [], ◌∷◌, ◌++◌, length, get_or, slice_get, Some, None, refl, sym}
use Rattle.std.proofs.Common.{ap, ◌∙◌, subst, ⊎_elim, inl, inr, arith, append_assoc, lt_of_not-le}
use Rattle.turn_rule.specs.{SpreadValue, position, AreOfOthers, word_after, program_after, IsSound, TableValue, SeatValue, part, Begins}
use Rattle.std.proofs.{lemmas.Option.slice_get_within, lemmas.Option.slice_get_past, lemmas.Option.slice_get_cases, lemmas.List.get_or_past}
use Rattle.turn_rule.specs.{declared.view.Entry.Entry, declared.view.Start.Start, declared.view.Part.Part, declared.view.View.View}
use Rattle.turn_rule.proofs.{Traces.AreOfOthers-append, Traces.no_program, Traces.word_past, Keeps.program_seen}
use Rattle.{turn_rule.specs.Kept, turn_rule.specs.IsSeated, turn_rule.specs.Stays, atomic_table.specs.Table.State}
use Rattle.{atomic_table.specs.Table.Me, turn_rule.specs.Steps.Steps, turn_rule.specs.Seats.EndsAt, turn_rule.specs.Rule.Gathers}
use native.Mathlib.Decide.{dec_le}
use mathlib.Core.Option.{some}
use lib.ListN.{get_elem?}

module _ {A : Type 0} where
  pushed : (xs : List A) (x y : A) (k : ℕ) → slice_get (xs ++ x ∷ []) k ≡ Some y → (slice_get xs k ≡ Some y) ⊎ ((k ≡ length xs) × (x ≡ y))
  pushed [] x y zero e = inr (refl, cc)
  pushed [] x y (suc k) e = absurd (cc)
  pushed (z ∷ xs) x y zero e = inl e
  pushed (z ∷ xs) x y (suc k) e = ⊎_elim (λ (t : slice_get xs k ≡ Some y). inl t)
      (λ (t : (k ≡ length xs) × (x ≡ y)). let same = t.0 in inr (omega arith, t.1)) (pushed xs x y k e)

  -- a fact of each element and its place, after a push
  pub each_pushed : (F : ℕ → A → Type 0) (xs : List A) (x : A) (n : ℕ) (l : List A) → l ≡ xs ++ x ∷ [] → length xs ≡ n
      → ((k : ℕ) (y : A) → slice_get xs k ≡ Some y → F k y) → F n x → (k : ℕ) (y : A) → slice_get l k ≡ Some y → F k y
  each_pushed F xs x n l is count before here k y e = ⊎_elim (λ (t : slice_get xs k ≡ Some y). before k y t)
      (λ (t : (k ≡ length xs) × (x ≡ y)). subst (λ (z : ℕ × A). F z.0 z.1) (λ i. (sym (t.0 ∙ count) i, t.1 i)) here)
      (pushed xs x y k (subst (λ (m : List A). slice_get m k ≡ Some y) is e))

module _ {P C : Type 0} where
  -- the same beginning, for fewer cores
  pub begins_as : (t : List (Entry C)) (p q : Part P C) → Begins t p → p.seen ≡ q.seen → p.from ≤ q.from → q.to ≤ p.to → Begins t q
  begins_as t p q b same low_end high_end = record {
    since = b.since;
    whole = b.whole ∙ ap (λ (l : List (Entry C)). b.since ++ l) same;
    apart = λ c low high. b.apart c (omega arith) (omega arith);
  }

  -- what begins a beginning begins the whole, for cores that both know of
  pub begins_on : (t : List (Entry C)) (v p : Part P C) → Begins t v → Begins v.seen p → v.from ≤ p.from → p.to ≤ v.to → Begins t p
  begins_on t v p h k low_end high_end = record {
    since = h.since ++ k.since;
    whole = h.whole ∙ ap (λ (l : List (Entry C)). h.since ++ l) k.whole ∙ sym (append_assoc h.since k.since p.seen);
    apart = λ c low high. AreOfOthers-append c h.since k.since (h.apart c (omega arith) (omega arith)) (k.apart c low high);
  }

module _ {P C : Type 0} (T : Steps P C) where
  -- a seat that is dealt
  pub dealt : (core n : ℕ) (start : Start P) (me : Me (Unit {0}) (View P C)) (p : P) → me.0.own ≡ part start n (n + 1) [] → me.1 ≡ []
      → core ≡ n → slice_get start.programs n ≡ Some p → T.size p ≡ length start.words → IsSeated T core me p
  dealt core n start me p is no_slot at here size = record {
    live = ap (λ z. z.live) is;
    from = ap (λ z. z.from) is ∙ sym at;
    end = ap (λ z. z.to) is ∙ ap (λ (k : ℕ). k + 1) (sym at);
    follows = record {
      sound = subst (λ (z : Part P C). IsSound T z.start z.seen) (sym is) tt;
      runs = ap (λ (z : Part P C). program_after T z.start z.seen core) is ∙ ap (slice_get start.programs) at ∙ here;
    };
    no_slot = no_slot;
    size = size ∙ sym (ap (λ (z : Part P C). length z.start.words) is);
  }

  -- what the seat of all cores below n knows, once the seat of core n is joined in
  pub record Gathered (first : Part P C) (n : ℕ) (v w x : Part P C) (p : P) : Type 0 where
    pub stays : Stays T first (n + 1) x
    pub before : (k : ℕ) (q : P) → k < n → program_after T v.start v.seen k ≡ Some q → program_after T x.start x.seen k ≡ Some q
    pub here : program_after T x.start x.seen n ≡ Some p
    pub mine : Begins x.seen v
    pub its : Begins x.seen w

  pub gathered_on : (core n : ℕ) (first v : Part P C) (one : Me (Unit {0}) (View P C)) (x : Part P C) (p : P) → first.from ≡ 0
      → Stays T first n v → IsSeated T core one p → core ≡ n → Gathers T v one.0.own one.0.own.to x
      → Gathered first n v one.0.own x p
  gathered_on core n first v one x p low stays seated at g =
      let s = g.stays in
      let w = one.0.own in
      let from = stays.from in
      let to = stays.end in
      let its_from = seated.from in
      let its_end = seated.end in
      let end = s.end in record {
        stays = record { live = s.live; start = s.start ∙ stays.start; from = s.from ∙ stays.from; end = omega arith; sound = s.sound };
        before = λ k q lt was. ap (λ (z : Start P). program_after T z x.seen k) s.start
            ∙ program_seen T v.start x.seen v k g.own (omega arith) (omega arith) ∙ was;
        here = ap (λ (z : Start P). program_after T z x.seen n) (sym (g.same seated.live))
            ∙ program_seen T w.start x.seen w n g.other (omega arith) (omega arith)
            ∙ ap (program_after T w.start w.seen) (sym at) ∙ seated.follows.runs;
        mine = g.own;
        its = g.other;
      }

  -- where one view has all cores
  pub ends : (table : TableValue P) (spread : SpreadValue) (s : State (Unit {0}) (View P C)) (h : Kept T spread table.start s) (id : ℕ) (v : View P C)
      → get_elem? s.views id ≡ some v → (seats : List (SeatValue P C)) → v.own.to ≡ length seats → v.own.from ≡ 0
      → v.own.start ≡ table.start → length seats ≡ length table.start.programs
      → ((k : ℕ) (one : SeatValue P C) → slice_get seats k ≡ Some one → one.core ≡ k)
      → ((k : ℕ) (one : SeatValue P C) → slice_get seats k ≡ Some one → Begins v.own.seen (part table.start k (k + 1) one.seen))
      → (words : List ℕ) → length words ≡ length table.start.words
      → ((i : ℕ) → i < length words → get_or words i 0 ≡ get_or s.words (position spread i) 0) → (programs : List P) → length programs ≡ length seats
      → ((k : ℕ) (p : P) → slice_get programs k ≡ Some p → program_after T v.own.start v.own.seen k ≡ Some p)
      → EndsAt T table seats words programs
  ends table spread s h id v at seats end low same all cores seen words as_many are programs count run = let mine = (h.own id v at).begins in record {
    trace = h.trace;
    sound = h.sound;
    begins = λ k one e.
        let lt = slice_get_within seats k one e in
        let b : Begins h.trace (part table.start k (k + 1) one.seen) =
        begins_on h.trace v.own (part table.start k (k + 1) one.seen) mine (seen k one e) (omega arith) (omega arith) in
        let core = cores k one e in record {
          since = b.since;
          whole = b.whole;
          apart = subst (λ (c : ℕ). AreOfOthers c b.since) (sym core) (b.apart k (omega arith) (omega arith));
        };
    word_count = as_many;
    word = λ i. by_place i (dec_le (length table.start.words) i);
    program_count = count ∙ all;
    program = λ c. ⊎_elim
        (λ (t : (p : P) × (c < length programs) × (slice_get programs c ≡ Some p) × (get_or programs c p ≡ p)).
        let lt = t.1 in t.2 ∙ sym (program_seen T table.start h.trace v.own c mine (omega arith) (omega arith)
        ∙ ap (λ (z : Start P). program_after T z v.own.seen c) (sym same) ∙ run c t.0 t.2))
        (λ (t : (length programs ≤ c) × (slice_get programs c ≡ None)). let past = t.0 in
        t.1 ∙ sym (no_program T table.start h.trace c (slice_get_past table.start.programs c (omega arith))))
        (slice_get_cases programs c).1;
  }
    where
      by_place : (i : ℕ) → Dec (length table.start.words ≤ i) → get_or words i 0 ≡ word_after table.start h.trace i
      by_place i (yes past) = get_or_past words i 0 (omega arith) ∙ sym (word_past T table.start h.trace h.sound i past)
      by_place i (no inside) = let lt : i < length table.start.words = lt_of_not-le inside in are i (omega arith) ∙ h.words i lt
