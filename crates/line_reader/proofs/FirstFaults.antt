-- A first fault is that of the first line that is not taken.
use Rattle.std.proofs.Common.{◌≡◌, List, [], ◌∷◌, ◌++◌, Result, Ok, Err, refl, ap, ◌∙◌}
use Rattle.line_reader.specs.{Row, First_fault, and_then, Step, lines_from}
use Rattle.line_reader.specs.Lines.{IsFoundAt, FindsFirst}

module _ (A : Type 0) (step : Step A) where
  abbrev said : A → Result A First_fault
  said d = Ok d

  no_fault : (d : A) (f : First_fault) → said d ≡ Err f → ⊥
  no_fault d f e = cc

  -- lines after others go on from what those say
  onward : (d : A) (first rest : List Row)
      → lines_from step d (first ++ rest) ≡ and_then (lines_from step d first) (λ more. lines_from step more rest)
  onward d [] rest = refl
  onward d (row ∷ first) rest = by_line (step d row.number row.words) (λ more. onward more first rest)
    where
      by_line : (r : Result A First_fault)
          → ((d : A) → lines_from step d (first ++ rest) ≡ and_then (lines_from step d first) (λ more. lines_from step more rest))
          → and_then r (λ more. lines_from step more (first ++ rest))
          ≡ and_then (and_then r (λ more. lines_from step more first)) (λ more. lines_from step more rest)
      by_line (Ok more) go = go more
      by_line (Err f) go = refl

  found : (d : A) (rows : List Row) (f : First_fault) → lines_from step d rows ≡ Err f → IsFoundAt step d rows f
  found d [] f e = absurd (no_fault d f e)
  found d (row ∷ rows) f e = by_line (step d row.number row.words) refl e (λ more. found more rows f)
    where
      by_line : (r : Result A First_fault) → step d row.number row.words ≡ r
          → and_then r (λ more. lines_from step more rows) ≡ Err f
          → ((d : A) → lines_from step d rows ≡ Err f → IsFoundAt step d rows f) → IsFoundAt step d (row ∷ rows) f
      by_line (Ok more) taken rest go =
          let later = go more rest in
          record {
            before = row ∷ later.before;
            row = later.row;
            after = later.after;
            lines = ap (λ rs. row ∷ rs) later.lines;
            so_far = later.so_far;
            taken = rw taken later.taken;
            fault = later.fault;
          }
      by_line (Err g) refused rest go =
          record { before = []; row = row; after = rows; lines = refl; so_far = d; taken = refl; fault = refused ∙ rest }

  faulty : (d : A) (rows : List Row) (f : First_fault) → IsFoundAt step d rows f → lines_from step d rows ≡ Err f
  faulty d rows f h =
      ap (lines_from step d) h.lines ∙ onward d h.before (h.row ∷ h.after) ∙ rw (h.taken, h.fault) refl

  pub finds_first : FindsFirst step
  finds_first d rows f = (found d rows f, faulty d rows f)
