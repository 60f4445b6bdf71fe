-- Seats at the endpoints that are dealt from the first on.
use Rattle.std.proofs.Common.{◌≡◌, ℕ, suc, ◌+◌, ◌<◌, List, [], ◌∷◌, length, slice_get, get_or, Some, sym, ap, ◌∙◌, subst, arith, remove}
use Rattle.async_ends.specs.{EndTableValue, EndSeatValue, AreAllSeats}
use Rattle.{async_ends.specs.Tables.AreFresh, end_ports.specs.Ports.HasEnds, end_ports.specs.Ports.IsFreshEnd}

-- all seats of a new table
pub all_ends : (of table : EndTableValue) (cores dealt : ℕ) (seats here : List EndSeatValue) → of ≡ table → dealt ≡ 0 → table.frames ≡ 512
    → table.cores ≡ cores → AreAllSeats table seats → AreFresh seats → here ≡ seats → HasEnds of cores dealt here
all_ends of table cores dealt seats here same none frames count all fresh is = record {
  frames = ap (λ (t : EndTableValue). t.frames) same ∙ frames;
  count = let size : length here ≡ cores = ap length is ∙ all.count ∙ count in omega arith;
  each = λ k s e. let at = subst (λ (l : List EndSeatValue). slice_get l k ≡ Some s) is e in
      let f = fresh k s at in
      let core = all.core k s at in
      record { table = all.table k s at ∙ sym same; core_is = omega arith; seen = f.0; made = f.1 };
}

-- the same seats of a machine with as many cores, of which as many are dealt
pub as_many : (of : EndTableValue) (cores now_cores dealt now_dealt : ℕ) (here : List EndSeatValue) → now_cores ≡ cores → now_dealt ≡ dealt
    → HasEnds of cores dealt here → HasEnds of now_cores now_dealt here
as_many of cores now_cores dealt now_dealt here same_cores same_dealt h = record {
  frames = h.frames;
  count = let count = h.count in omega arith;
  each = λ k s e. let at : dealt + k ≡ now_dealt + k = omega arith in subst (λ (n : ℕ). IsFreshEnd of n s) at (h.each k s e);
}

-- those that are left when the first is dealt
pub others_left : (of : EndTableValue) (cores dealt : ℕ) (here left : List EndSeatValue) → left ≡ remove here 0 → 0 < length here
    → HasEnds of cores dealt here → HasEnds of cores (dealt + 1) left
others_left of cores dealt [] left is some h = absurd (omega arith)
others_left of cores dealt (x ∷ xs) left is some h =
    let same : left ≡ xs = is in let size = ap length same in let count = h.count in record {
      frames = h.frames;
      count = omega arith;
      each = λ k s e. let at = subst (λ (l : List EndSeatValue). slice_get l k ≡ Some s) same e in
          let next : dealt + suc k ≡ (dealt + 1) + k = omega arith in
          subst (λ (n : ℕ). IsFreshEnd of n s) next (h.each (suc k) s at);
    }

-- the first, which is dealt
pub first_dealt : (of : EndTableValue) (cores dealt : ℕ) (here : List EndSeatValue) (s : EndSeatValue) → s ≡ get_or here 0 s → 0 < length here
    → HasEnds of cores dealt here → IsFreshEnd of dealt s
first_dealt of cores dealt [] s is some h = absurd (omega arith)
first_dealt of cores dealt (x ∷ xs) s is some h =
    let zero_more : dealt + 0 ≡ dealt = omega arith in
    subst (λ (n : ℕ). IsFreshEnd of n s) zero_more (h.each 0 s (ap Some (sym is)))
