-- A core that is read is below the number of cores.
use Rattle.std.proofs.Common.{◌≡◌, ℕ, ◌<◌, Bool, true, false, List, Result, Ok, Err, refl, sym, subst, nat_lt, if◌then◌else◌, ok_or}
use Rattle.line_reader.specs.{◌>>=◌, number_of, core_at, declared.cause.Cause.Cause, declared.cause.Cause.TheVariants.S1}
use Rattle.{std.proofs.Common.ltb-true, line_reader.specs.declared.cause.Cause.TheVariants.S6, line_reader.specs.Arguments.word_at}

abbrev judged : ℕ → Result ℕ Cause
judged n = Ok n

same : (n m : ℕ) → judged n ≡ judged m → n ≡ m
same n m e = cc

by_test : (b : Bool) (cores m n : ℕ) → nat_lt m cores ≡ b → judged n ≡ (if b then Ok m else Err S6) → n < cores
by_test true cores m n lt e = subst (λ k. k < cores) (sym (same n m e)) (ltb-true m cores lt)
by_test false cores m n lt e = let wrong = e in cc

by_number : (r : Result ℕ Cause) (cores n : ℕ) → judged n ≡ (r >>= λ m. if nat_lt m cores then Ok m else Err S6) → n < cores
by_number (Ok m) cores n e = by_test (nat_lt m cores) cores m n refl e
by_number (Err c) cores n e = let wrong = e in cc

by_word : (r : Result (List ℕ) Cause) (cores n : ℕ)
    → judged n ≡ (r >>= λ word. ok_or (number_of word) S1 >>= λ m. if nat_lt m cores then Ok m else Err S6) → n < cores
by_word (Ok word) cores n e = by_number (ok_or (number_of word) S1) cores n e
by_word (Err c) cores n e = let wrong = e in cc

pub core_fits : (words : List (List ℕ)) (place cores n : ℕ) → Ok n ≡ core_at words place cores → n < cores
unfolding core_at
core_fits words place cores n e = by_word (word_at words place) cores n e
