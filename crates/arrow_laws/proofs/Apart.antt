-- Nothing overlaps.
use Rattle.std.proofs.Common.{◌≡◌, ◌≢◌, ◌⊎◌, inl, inr, ℕ, ◌+◌, ◌<◌, ◌≤◌, ◌==◌, ◌&&◌, cond, Bool, true, false, max, List, [], ◌∷◌, ◌++◌}
use Rattle.std.proofs.Common.{length, get_or, length-set, refl, sym, ◌∙◌, ap, subst, arith, nat_lt, slice_set, eq-eqb, true≢false}
use Rattle.page_drawing.specs.picture_rows.specs.{declared.rows.Placed.Placed, declared.rows.Rows.Rows, Rows.has_event, Rows.has_text}
use Rattle.page_drawing.specs.picture_rows.specs.{Rows.quiet_after, Rows.own_y, Rows.text_y, Rows.event_y, Rows.room_after, Rows.rows_after}
use Rattle.arrow_laws.specs.Rows.{rows_of, height, AreQuiet, RowsAreApart}
use Rattle.{std.proofs.Common.get_or-set_same, std.proofs.Common.get_or-set_other, std.proofs.lemmas.Bool.cases_eq}

own_least : (b : Bool) (y : ℕ) → y ≤ cond b y (y + 2)
own_least true y = omega arith
own_least false y = omega arith

-- What a step's height is at least.
own_part : (a b c y : ℕ) → y ≤ a → y ≤ max a (max b c)
own_part a b c y h = omega (arith, h)

text_part : (a b c y : ℕ) → y ≤ b → y ≤ max a (max b c)
text_part a b c y h = omega (arith, h)

event_part : (a b c y : ℕ) → y ≤ c → y ≤ max a (max b c)
event_part a b c y h = omega (arith, h)

falls_one : (p : Rows) (s : Placed) → p.y ≤ (rows_after p s).y
falls_one p s = own_part (own_y p s) (text_y p s) (event_y p s) p.y (own_least (nat_lt 8 (quiet_after p s)) p.y)

texts_one : (p : Rows) (s : Placed) → has_text s ≡ true → p.text + 17 ≤ (rows_after p s).y
texts_one p s is = text_part (own_y p s) (text_y p s) (event_y p s) (p.text + 17)
    (subst (λ (b : Bool). p.text + 17 ≤ cond b (p.text + 17) 0) (sym is) (omega arith))

events_one : (p : Rows) (s : Placed) → has_event s ≡ true → get_or p.due s.core 0 ≤ (rows_after p s).y
events_one p s is = event_part (own_y p s) (text_y p s) (event_y p s) (get_or p.due s.core 0)
    (subst (λ (b : Bool). get_or p.due s.core 0 ≤ cond b (get_or p.due s.core 0) 0) (sym is) (omega arith))

module _ (due : List ℕ) (r : Placed) (t : List Placed) where
  falls_all : (u : List Placed) → height due (r ∷ t) ≤ height due (u ++ r ∷ t)
  falls_all [] = omega arith
  falls_all (s ∷ u) = let h = falls_all u in let g = falls_one (rows_of due (u ++ r ∷ t)) s in omega arith

  -- The last text is not above that of r.
  texts_all : has_text r ≡ true → (u : List Placed) → height due (r ∷ t) ≤ (rows_of due (u ++ r ∷ t)).text
  texts_all is [] = subst (λ (b : Bool). height due (r ∷ t) ≤ cond b (height due (r ∷ t)) (rows_of due t).text) (sym is) (omega arith)
  texts_all is (s ∷ u) = by (has_text s) (texts_all is u) where
    by : (b : Bool) → height due (r ∷ t) ≤ (rows_of due (u ++ r ∷ t)).text
        → height due (r ∷ t) ≤ cond b (height due (s ∷ (u ++ r ∷ t))) (rows_of due (u ++ r ∷ t)).text
    by true h = falls_all (s ∷ u)
    by false h = h

  -- As many cores have something due.
  due_length : (xs : List Placed) → length (rows_of due xs).due ≡ length due
  due_length [] = refl
  due_length (s ∷ xs) = by (has_event s) (due_length xs) where
    by : (b : Bool) → length (rows_of due xs).due ≡ length due
        → length (cond b (slice_set (rows_of due xs).due s.core (height due (s ∷ xs) + room_after s)) (rows_of due xs).due)
        ≡ length due
    by true h = length-set (rows_of due xs).due s.core (height due (s ∷ xs) + room_after s) ∙ h
    by false h = h

  -- What r asks of its core is due till the core's next event.
  due_all : r.core < length due → has_event r ≡ true → (u : List Placed) → AreQuiet r.core u
      → get_or (rows_of due (u ++ r ∷ t)).due r.core 0 ≡ height due (r ∷ t) + room_after r
  due_all lt is [] quiet =
      ap (λ (b : Bool). get_or (cond b (slice_set (rows_of due t).due r.core (height due (r ∷ t) + room_after r)) (rows_of due t).due)
      r.core 0) is
      ∙ get_or-set_same (rows_of due t).due r.core (height due (r ∷ t) + room_after r) 0 (omega (arith, lt, due_length t))
  due_all lt is (s ∷ u) quiet = by (cases_eq s.core r.core) (has_event s) quiet.0 ∙ due_all lt is u quiet.1 where
    by : (s.core ≡ r.core) ⊎ (s.core ≢ r.core) → (b : Bool) → (s.core == r.core && b) ≡ false
        → get_or (cond b (slice_set (rows_of due (u ++ r ∷ t)).due s.core (height due (s ∷ (u ++ r ∷ t)) + room_after s))
        (rows_of due (u ++ r ∷ t)).due) r.core 0
        ≡ get_or (rows_of due (u ++ r ∷ t)).due r.core 0
    by where_is false none = refl
    by (inl own) true none = absurd (true≢false (sym (ap (λ (b : Bool). b && true) (eq-eqb s.core r.core own)) ∙ none))
    by (inr other) true none =
        get_or-set_other (rows_of due (u ++ r ∷ t)).due s.core r.core _ 0 (λ same. other (sym same))

pub rows_are_apart : RowsAreApart
rows_are_apart due s u r t = record {
  falls = falls_all due r t (s ∷ u);
  texts = λ above below. let h = texts_all due r t above u in let g = texts_one (rows_of due (u ++ r ∷ t)) s below in omega arith;
  events = λ own lt above below quiet.
      let d = due_all due r t lt above u quiet in
      let g = events_one (rows_of due (u ++ r ∷ t)) s below in
      let at : get_or (rows_of due (u ++ r ∷ t)).due s.core 0 ≡ get_or (rows_of due (u ++ r ∷ t)).due r.core 0 =
      ap (λ (c : ℕ). get_or (rows_of due (u ++ r ∷ t)).due c 0) (sym own) in
      omega (arith, d, g, at);
}
