-- Charges and calls on two temporal capabilities stay on the words of the machine, whatever words are found.
use Rattle.stage_tcap.specs as low
use low.{◌≡◌, ℕ, ◌+◌, ◌==◌, ◌<◌, ◌^◌, Bool, true, false, ltb as nat_lt, List, Option, Some, None, refl, word_of_head, head_of_word}
use low.{quality_of_word, HeadWord, QualityWord, Shape, IsIn, word_of, ChargeFits, charge_move, after_mark, after_head, charge_after}
use low.{PairFits, move_at, pair_move, noted, noted_by, giving_back, by_alike, by_room, judged, at_by_mark, at_by_head, at_marked, at_read}
use low.declared.pair.PairAt.TheVariants.{LoadA, MarkA, ListA, LoadB, ListB, CompareB, AgainB, StoreList, StoreB, StoreA}
use low.{a_next, b_next, store_next, at_decided, compared_after, pair_after, Heads.VersionFits, Pairs.EntryFits, Pairs.AtFits}
use low.{Pairs.head_a_after, Pairs.head_b_after, Pairs.at_by_budget, Pairs.at_after, declared.charge.Charge.Charge, declared.pair.Pair.Pair}
use low.{declared.pair.PairAt.PairAt, declared.pair.PairWork.PairWork, declared.pair.PairWork.TheVariants.Transfer}
use low.{declared.pair.PairWork.TheVariants.Delegate, declared.pair.PairWork.TheVariants.Test}
use Rattle.{std.proofs.Common.sym, std.proofs.Common.arith, std.proofs.Common.ltb-true}
use Rattle.tcap_words.proofs.HeadLemmas as heads

-- the next step of a charge is on a word of the machine
pub charge_is_in : (s : Shape) (c : Charge) → ChargeFits s c → IsIn s (word_of (charge_move c))
charge_is_in s (Charge.AtLoad t ticks) h = (h, omega arith)
charge_is_in s (Charge.AtCompare t ticks budget version) h = (h.0, omega arith)

after_mark_fits : (s : Shape) (t ticks budget version : ℕ) (mark : Option ℕ)
    → t < s.frames → version < 2 ^ 28 → ChargeFits s (after_mark t ticks budget version mark)
after_mark_fits s t ticks budget version None h v = (h, v)
after_mark_fits s t ticks budget version (Some by) h v = h

after_head_fits : (s : Shape) (t ticks found : ℕ) (o : Option HeadWord)
    → head_of_word found ≡ o → t < s.frames → ChargeFits s (after_head t ticks o)
after_head_fits s t ticks found None is h = h
after_head_fits s t ticks found (Some v) is h = after_mark_fits s t ticks v.budget v.version v.mark h (heads.spelling.spells found v is).0.2

-- and it stays so
pub charge_after_fits : (s : Shape) (c : Charge) (found : ℕ) → ChargeFits s c → ChargeFits s (charge_after c found)
charge_after_fits s (Charge.AtLoad t ticks) found h = after_head_fits s t ticks found (head_of_word found) refl h
charge_after_fits s (Charge.AtCompare t ticks budget version) found h = h

-- the next step of a call on two of them is on a word of the machine
pub pair_is_in : (s : Shape) (p : Pair) → PairFits s p → IsIn s (word_of (pair_move p))
pair_is_in s p h = by_at p.at h.at where
  by_at : (at : PairAt) → AtFits at → IsIn s (word_of (move_at p at))
  by_at LoadA a = (h.a, omega arith)
  by_at MarkA a = (h.a, omega arith)
  by_at (ListA entry) a = (h.a, omega (arith, a.1))
  by_at LoadB a = (h.b, omega arith)
  by_at (ListB entry) a = (h.b, omega (arith, a.1))
  by_at CompareB a = (h.b, omega arith)
  by_at (AgainB r) a = (h.b, omega arith)
  by_at (StoreList entry) a = (h.b, omega (arith, a.1))
  by_at StoreB a = (h.b, omega arith)
  by_at (StoreA moved v) a = (h.a, omega arith)

pub noted_fits : (old : HeadWord) (found : ℕ) (o : Option HeadWord) → head_of_word found ≡ o → VersionFits old → VersionFits (noted old o)
noted_fits old found None is h = h
noted_fits old found (Some v) is h = (heads.spelling.spells found v is).0.2

pub head_a_fits : (at : PairAt) (old : HeadWord) (found : ℕ) → VersionFits old → VersionFits (head_a_after at old found)
head_a_fits LoadA old found h = noted_fits old found (head_of_word found) refl h
head_a_fits MarkA old found h = h
head_a_fits (ListA entry) old found h = h
head_a_fits LoadB old found h = h
head_a_fits (ListB entry) old found h = h
head_a_fits CompareB old found h = h
head_a_fits (AgainB r) old found h = h
head_a_fits (StoreList entry) old found h = h
head_a_fits StoreB old found h = h
head_a_fits (StoreA moved v) old found h = h

pub head_b_fits : (at : PairAt) (old : HeadWord) (found : ℕ) → VersionFits old → VersionFits (head_b_after at old found)
head_b_fits LoadB old found h = noted_fits old found (head_of_word found) refl h
head_b_fits LoadA old found h = h
head_b_fits MarkA old found h = h
head_b_fits (ListA entry) old found h = h
head_b_fits (ListB entry) old found h = h
head_b_fits CompareB old found h = h
head_b_fits (AgainB r) old found h = h
head_b_fits (StoreList entry) old found h = h
head_b_fits StoreB old found h = h
head_b_fits (StoreA moved v) old found h = h

by_mark_fits : (going refused : PairAt) (mark : Option ℕ) → AtFits going → AtFits refused → AtFits (at_by_mark going refused mark)
by_mark_fits going refused None g r = g
by_mark_fits going refused (Some by) g r = r

by_head_fits : (going refused : PairAt) (o : Option HeadWord) → AtFits going → AtFits refused → AtFits (at_by_head going refused o)
by_head_fits going refused None g r = r
by_head_fits going refused (Some v) g r = by_mark_fits going refused v.mark g r

pub first_fits : EntryFits 1
first_fits = (omega arith, omega arith)

budget_fits : (short : Bool) → AtFits (at_by_budget short)
budget_fits true = tt
budget_fits false = first_fits

marked_fits : (same short : Bool) → AtFits (at_marked same short)
marked_fits true short = budget_fits short
marked_fits false short = tt

read_fits : (o : Option QualityWord) (next : PairAt) → AtFits next → AtFits (at_read o next)
read_fits None next h = tt
read_fits (Some v) next h = h

pub more_fits : (entry : ℕ) → true ≡ nat_lt entry 8 → EntryFits (entry + 1)
more_fits entry is = let below : entry < 8 = ltb-true entry 8 (sym is) in (omega arith, omega (arith, below))

a_next_fits : (more : Bool) (entry : ℕ) → more ≡ nat_lt entry 8 → AtFits (a_next more entry)
a_next_fits true entry is = more_fits entry is
a_next_fits false entry is = tt

store_next_fits : (more : Bool) (entry : ℕ) → more ≡ nat_lt entry 8 → AtFits (store_next more entry)
store_next_fits true entry is = more_fits entry is
store_next_fits false entry is = tt

alike_fits : (same : Bool) → AtFits (by_alike same)
alike_fits true = tt
alike_fits false = tt

room_fits : (o : Option (List (ℕ × ℕ))) → AtFits (by_room o)
room_fits None = tt
room_fits (Some xs) = tt

judged_fits : (what : PairWork) (p : Pair) → AtFits (judged what p)
judged_fits (Transfer ticks) p = alike_fits _
judged_fits (Delegate ticks) p = room_fits p.list_b
judged_fits Test p = tt

b_next_fits : (more : Bool) (entry : ℕ) (p : Pair) → more ≡ nat_lt entry 8 → AtFits (b_next more entry p)
b_next_fits true entry p is = more_fits entry is
b_next_fits false entry p is = judged_fits p.what p

decided_fits : (what : PairWork) → AtFits (at_decided what)
decided_fits (Transfer ticks) = tt
decided_fits (Delegate ticks) = first_fits
decided_fits Test = tt

compared_fits : (same : Bool) (what : PairWork) → AtFits (compared_after same what)
compared_fits true what = decided_fits what
compared_fits false what = tt

pub at_after_fits : (p : Pair) (at : PairAt) (found : ℕ) → AtFits at → AtFits (at_after p at found)
at_after_fits p LoadA found h = by_head_fits MarkA LoadA (head_of_word found) tt tt
at_after_fits p MarkA found h = marked_fits (found == word_of_head p.head_a) _
at_after_fits p (ListA entry) found h = read_fits (quality_of_word found) _ (a_next_fits _ entry refl)
at_after_fits p LoadB found h = by_head_fits (ListB 1) giving_back (head_of_word found) first_fits tt
at_after_fits p (ListB entry) found h = read_fits (quality_of_word found) _ (b_next_fits _ entry p refl)
at_after_fits p CompareB found h = compared_fits (found == word_of_head p.head_b) p.what
at_after_fits p (AgainB r) found h = tt
at_after_fits p (StoreList entry) found h = store_next_fits _ entry refl
at_after_fits p StoreB found h = tt
at_after_fits p (StoreA moved v) found h = tt

-- and it stays so
pub pair_after_fits : (s : Shape) (p : Pair) (found : ℕ) → PairFits s p → PairFits s (pair_after p found)
pair_after_fits s p found h = record {
  a = h.a;
  b = h.b;
  head_a = head_a_fits p.at p.head_a found h.head_a;
  head_b = head_b_fits p.at p.head_b found h.head_b;
  at = at_after_fits (noted_by p found) p.at found h.at;
}
