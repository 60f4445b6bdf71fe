-- The counters of a machine of n cores are the numbers below n.
use Rattle.kernel_history.specs.{◌≡◌, ℕ, ◌+◌, ◌<◌, ◌≤◌, zero, suc, pos, Option, refl, All, get_or, length, CountWord, counters, count_in}
use Rattle.std.proofs.Common.{sym, subst, arith}
use Rattle.std.proofs.{lemmas.Int.ints, lemmas.List.Elements.All-from_get_or, lemmas.List.Elements.All-get_or}
use Rattle.std.proofs.{lemmas.List.FromFn.length-range_with_len, lemmas.List.FromFn.get_or-range_with_len}
use Rattle.{kernel_history.specs.count_sum, std.specs.List.range_with_len}

number_at : (n i : ℕ) → i < n → get_or (counters n) i 0 ≡ i
number_at n i below = let at = get_or-range_with_len 0 n i 0 below in omega (arith, at)

-- What holds of each core's counter holds of all.
pub all_counters : (P : ℕ → Type 0) (n : ℕ) → ((c : ℕ) → c < n → P c) → All P (counters n)
all_counters P n each = All-from_get_or P (counters n) 0 (λ i below.
    let small : i < n = (let long = length-range_with_len 0 n in omega (arith, below, long)) in
    subst P (sym (number_at n i small)) (each i small))

-- And what holds of all holds of each.
pub counter_all : (P : ℕ → Type 0) (n c : ℕ) → c < n → All P (counters n) → P c
counter_all P n c below all =
    let small : c < length (counters n) = (let long = length-range_with_len 0 n in omega (arith, below, long)) in
    subst P (number_at n c below) (All-get_or P (counters n) c 0 small all)

-- Counts of 0 sum to 0.
sum_of_none : (shown : ℕ → Option CountWord) (a n : ℕ) → ((c : ℕ) → a ≤ c → c < a + n → count_in (shown c) ≡ pos 0)
    → count_sum shown (range_with_len a n) ≡ pos 0
sum_of_none shown a zero none = refl
sum_of_none shown a (suc n) none =
    let first = none a (omega arith) (omega arith) in
    let rest = sum_of_none shown (a + 1) n (λ c least most. none c (omega arith) (omega arith)) in
    omega (arith, ints, first, rest)

-- Where core 0 alone counts, the sum is its count.
pub sum_of_first : (shown : ℕ → Option CountWord) (n : ℕ) → 1 ≤ n → ((c : ℕ) → 1 ≤ c → count_in (shown c) ≡ pos 0)
    → count_sum shown (counters n) ≡ count_in (shown 0)
sum_of_first shown zero some none = absurd (omega (arith, some))
sum_of_first shown (suc n) some none =
    let rest = sum_of_none shown 1 n (λ c least most. none c least) in
    omega (arith, ints, rest)
