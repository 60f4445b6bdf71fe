-- The causes: S1 bad number, S2 unknown word, S3 missing word, S4 extra word, S5 number out of range, S6 no such core,
-- S7 section out of place, S8 not ASCII, S9 too many.
use Rattle.std.specs.Prelude.{ℕ, List, codes, Result, Ok, Err}
use Rattle.line_reader.specs.declared.cause.Cause.{Cause}
use Rattle.line_reader.specs.declared.cause.Cause.TheVariants.{S1, S2, S3, S4, S5, S6, S7, S8, S9}

-- the printed number and text of a cause
abbrev pub cause_text : Cause → List ℕ
cause_text S1 = codes "S1 bad number"
cause_text S2 = codes "S2 unknown word"
cause_text S3 = codes "S3 missing word"
cause_text S4 = codes "S4 extra word"
cause_text S5 = codes "S5 number out of range"
cause_text S6 = codes "S6 no such core"
cause_text S7 = codes "S7 section out of place"
cause_text S8 = codes "S8 not ASCII"
cause_text S9 = codes "S9 too many"

-- one judgement after another: the first that fails gives the cause
infixl 10 ◌>>=◌
abbrev pub ◌>>=◌ : {A B : Type 0} → Result A Cause → (A → Result B Cause) → Result B Cause
(Ok x) >>= f = f x
(Err e) >>= f = Err e
