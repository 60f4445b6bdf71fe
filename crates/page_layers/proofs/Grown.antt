-- How long what was appended is.
use Rattle.std.proofs.Common.{◌≡◌, ◌∙◌, ℕ, ◌+◌, ◌-◌, ◌≤◌, ◌++◌, List, length, ap, arith, length-append}

pub grown : (old new text : List ℕ) → new ≡ old ++ text → length new - length old ≡ length text
grown old new text is =
    let more : length new ≡ length old + length text = ap length is ∙ length-append old text in
    omega (arith, more)

pub no_shorter : (old new text : List ℕ) → new ≡ old ++ text → length old ≤ length new
no_shorter old new text is =
    let more : length new ≡ length old + length text = ap length is ∙ length-append old text in
    omega (arith, more)
