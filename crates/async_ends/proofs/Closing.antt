-- How a table begins with its seats, and how it ends with them.
use Rattle.std.proofs.Common.{◌≡◌, ℕ, zero, suc, ◌+◌, ◌<◌, ◌≤◌, List, [], ◌∷◌, ◌++◌, length, slice_get, get_or, map, replicate, All, inl}
use Rattle.std.proofs.Common.{inr, Option, Some, None, refl, sym, ap, ◌∙◌, subst, arith, option_map}
use Rattle.async_ends.specs.{ExtendsByOthers, receiving, taken_at, EndCore, end_steps, history_of, EndSeatValue, seat_value, IsStart}
use Rattle.async_ends.specs.{IsSeat, AreAllSeats, AreWrapped}
use Rattle.turn_rule.specs.{program_after, IsSound, TableValue, SeatValue}
use Rattle.std.proofs.{lemmas.Bool.cases_lt, lemmas.Option.slice_get-map, lemmas.Option.slice_get-get_or}
use Rattle.async_ends.specs.{declared.endpoint.EndCall.EndCall, Running.unused, Tables.table_value, Tables.AreFresh, Tables.EndsAt}
use Rattle.async_ends.proofs.{Along.along, Histories.extends_by_others, Histories.receiving_past, Histories.receiving_none}
use Rattle.async_ends.proofs.{Histories.all_crossed, Histories.balance, Made.between}
use Rattle.{std.proofs.lemmas.List.length-map, std.proofs.lemmas.List.length-replicate, std.specs.List.AllZip}
use Rattle.{turn_rule.specs.declared.view.Entry.Entry, turn_rule.specs.declared.view.Start.Start, async_ends.specs.Tables.IsWrapped}
use Rattle.turn_rule.specs.Seats as turns

abbrev Seat : Type 0
Seat = SeatValue EndCore EndCall

module _ {A B : Type 0} (R : A → B → Type 0) where
  length-all_zip : (xs : List A) (ys : List B) → AllZip R xs ys → length ys ≡ length xs
  length-all_zip [] [] h = refl
  length-all_zip [] (y ∷ ys) h = absurd h
  length-all_zip (x ∷ xs) [] h = absurd h
  length-all_zip (x ∷ xs) (y ∷ ys) h = ap suc (length-all_zip xs ys h.1)

  at_right : (xs : List A) (ys : List B) (k : ℕ) (y : B) → AllZip R xs ys → slice_get ys k ≡ Some y
      → (x : A) × (slice_get xs k ≡ Some x) × R x y
  at_right [] [] k y h e = absurd (cc)
  at_right [] (z ∷ ys) k y h e = absurd h
  at_right (x ∷ xs) [] k y h e = absurd h
  at_right (x ∷ xs) (z ∷ ys) zero y h e = let is : z ≡ y = cc in (x, refl, subst (R x) is h.0)
  at_right (x ∷ xs) (z ∷ ys) (suc k) y h e = at_right xs ys k y h.1 e

  at_left : (xs : List A) (ys : List B) (k : ℕ) (x : A) → AllZip R xs ys → slice_get xs k ≡ Some x
      → (y : B) × (slice_get ys k ≡ Some y) × R x y
  at_left [] [] k x h e = absurd (cc)
  at_left [] (y ∷ ys) k x h e = absurd h
  at_left (z ∷ xs) [] k x h e = absurd h
  at_left (z ∷ xs) (y ∷ ys) zero x h e = let is : z ≡ x = cc in (y, refl, subst (λ a. R a y) is h.0)
  at_left (z ∷ xs) (y ∷ ys) (suc k) x h e = at_left xs ys k x h.1 e

  -- one more pair
  pub all_zip_push : (xs : List A) (ys : List B) (x : A) (y : B) → AllZip R xs ys → R x y → AllZip R (xs ++ x ∷ []) (ys ++ y ∷ [])
  all_zip_push [] [] x y h r = (r, tt)
  all_zip_push [] (z ∷ ys) x y h r = absurd h
  all_zip_push (z ∷ xs) [] x y h r = absurd h
  all_zip_push (z ∷ xs) (w ∷ ys) x y h r = (h.0, all_zip_push xs ys x y h.1 r)

at_of : {A : Type 0} (xs : List A) (k : ℕ) → k < length xs → (x : A) × (slice_get xs k ≡ Some x)
at_of [] k h = absurd (omega arith)
at_of (x ∷ xs) zero h = (x, refl)
at_of (x ∷ xs) (suc k) h = at_of xs k (omega arith)

-- each of so many is the same one
at_same : (n i x : ℕ) → get_or (replicate n x) i x ≡ x
at_same zero i x = refl
at_same (suc n) zero x = refl
at_same (suc n) (suc i) x = at_same n i x

all_same : (n k : ℕ) (x y : EndCore) → slice_get (replicate n x) k ≡ Some y → y ≡ x
all_same zero k x y e = absurd (cc)
all_same (suc n) zero x y e = cc
all_same (suc n) (suc k) x y e = all_same n k x y e

pub is_start : (frames cores : ℕ) (start : Start EndCore) (words : List ℕ) (n : ℕ) → 0 < frames → frames ≤ 512 → cores ≤ 8
    → start.words ≡ words → words ≡ replicate n 0 → n ≡ frames → start.programs ≡ replicate cores (unused frames)
    → IsStart frames cores start
is_start frames cores start words n some most few same none size programs = record {
  some = some;
  most = most;
  few = few;
  size = ap length (same ∙ none) ∙ length-replicate n 0 ∙ size;
  words = λ i. ap (λ l. get_or l i 0) (same ∙ none) ∙ at_same n i 0;
  count = ap length programs ∙ length-replicate cores (unused frames);
  each = λ c p e. all_same cores c (unused frames) p (ap (λ l. slice_get l c) (sym programs) ∙ e);
}

mapped : {A B : Type 0} (f : A → B) (xs : List A) (k : ℕ) (y : B) → slice_get (map f xs) k ≡ Some y → (x : A)
    × (slice_get xs k ≡ Some x) × (f x ≡ y)
mapped f xs k y is = of_option (slice_get xs k) refl (sym (slice_get-map f xs k) ∙ is)
  where
    of_option : (o : Option _) → slice_get xs k ≡ o → option_map f o ≡ Some y → (x : _) × (slice_get xs k ≡ Some x) × (f x ≡ y)
    of_option None at h = absurd (cc)
    of_option (Some x) at h = (x, at, cc)

module _ (frames cores : ℕ) (table : TableValue EndCore) (is : IsStart frames cores table.start) (xs : List Seat) where
  -- each seat at the start keeps what seats keep
  pub fresh_seats : turns.AreAllSeats table xs → turns.AreFresh table xs → All (IsSeat frames cores 0) xs
  fresh_seats all fresh k d h =
      let s = get_or xs k d in
      let at : slice_get xs k ≡ Some s = slice_get-get_or xs k d h in
      let same : s.table ≡ table = all.table k s at in
      let program : slice_get s.table.start.programs s.core ≡ Some s.program =
      ap (λ (z : TableValue EndCore × ℕ). slice_get z.0.start.programs z.1) (λ i. (same i, all.core k s at i))
      ∙ fresh.program k s at in
      let new : s.program ≡ unused frames = is.each k s.program (fresh.program k s at) in record {
        start = subst (λ t. IsStart frames cores t.start) (sym same) is;
        follows = record {
          sound = subst (λ (l : List (Entry EndCall)). IsSound end_steps s.table.start l) (sym (fresh.seen k s at)) tt;
          runs = ap (λ (l : List (Entry EndCall)). program_after end_steps s.table.start l s.core) (fresh.seen k s at) ∙ program;
        };
        idle = ap (λ p. p.stage) new;
        frames_are = ap (λ p. p.frames) new;
        begun = let none = ap (λ p. p.begun) new in omega arith;
        most = omega arith;
      }

  pub all_wrapped : (seats : List EndSeatValue) → seats ≡ map (seat_value frames cores 0) xs → turns.AreAllSeats table xs
      → AreAllSeats (table_value frames cores table) seats
  all_wrapped seats are all = record {
    count = ap length are ∙ length-map xs (seat_value frames cores 0) ∙ all.count ∙ is.count;
    table = λ k s e. let x = mapped (seat_value frames cores 0) xs k s (ap (λ l. slice_get l k) (sym are) ∙ e) in
        sym (ap (λ z. z.table) x.2) ∙ ap (table_value frames cores) (all.table k x.0 x.1);
    core = λ k s e. let x = mapped (seat_value frames cores 0) xs k s (ap (λ l. slice_get l k) (sym are) ∙ e) in
        sym (ap (λ z. z.core) x.2) ∙ all.core k x.0 x.1;
  }

  pub fresh_wrapped : (seats : List EndSeatValue) → seats ≡ map (seat_value frames cores 0) xs → turns.AreFresh table xs → AreFresh seats
  fresh_wrapped seats are fresh k s e =
      let x = mapped (seat_value frames cores 0) xs k s (ap (λ l. slice_get l k) (sym are) ∙ e) in
      (sym (ap (λ z. z.seen) x.2) ∙ fresh.seen k x.0 x.1, sym (ap (λ z. z.made) x.2))

  module _ (seats : List EndSeatValue) (are : AreWrapped xs seats) (all : AreAllSeats (table_value frames cores table) seats) where
    pub all_unwrapped : turns.AreAllSeats table xs
    all_unwrapped = record {
      count = sym (length-all_zip IsWrapped xs seats are) ∙ all.count ∙ sym is.count;
      table = λ k s e. let y = at_left IsWrapped xs seats k s are e in
          ap (λ z. z.table.table) y.2.same ∙ ap (λ t. t.table) (all.table k y.0 y.1);
      core = λ k s e. let y = at_left IsWrapped xs seats k s are e in ap (λ z. z.core) y.2.same ∙ all.core k y.0 y.1;
    }

    pub ends_at : (words : List ℕ) (programs : List EndCore) → turns.EndsAt end_steps table xs words programs
        → EndsAt (table_value frames cores table) seats words
    ends_at words programs end =
        let k = along frames cores table.start is end.trace end.sound in
        let h = history_of end.trace in
        let out : (c : ℕ) → c < cores → receiving h c ≡ None = λ c lt.
        let size = all_unwrapped.count in
        let n = is.count in
        let x = at_of xs c (omega arith) in
        let y = at_left IsWrapped xs seats c x.0 are x.1 in
        let w = extends_by_others x.0.core x.0.seen end.trace (end.begins c x.0 x.1) in
        subst (λ (i : ℕ). receiving h i ≡ None) (all_unwrapped.core c x.0 x.1)
        (ap (λ l. receiving l x.0.core) w.begins ∙ receiving_past x.0.core w.since (history_of x.0.seen) w.apart
        ∙ between y.0.table.frames y.0.table.cores y.0.made x.0 y.2.is) in
        let left : (f : ℕ) → get_or words f 0 ≡ _ = λ f. end.word f ∙ k.counts f in record {
          history = h;
          legal = k.legal;
          crossed = all_crossed h k.legal;
          returned = λ c. elim (cases_lt c cores) [ inl lt ↦ out c lt | inr past ↦ receiving_none c h (k.inside c past) ];
          begins = λ i s e. let x = at_right IsWrapped xs seats i s are e in
              subst (λ (z : EndSeatValue). ExtendsByOthers z.core (history_of z.seen) h) x.2.same
              (extends_by_others x.0.core x.0.seen end.trace (end.begins i x.0 x.1));
          no_other = k.inside;
          count = end.word_count ∙ is.size;
          left = left;
          balance = λ f. ap (λ n. n + taken_at h f) (left f) ∙ balance h f k.legal;
        }
