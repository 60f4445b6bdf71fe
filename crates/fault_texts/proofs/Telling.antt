-- The text of a fault is that of what its lines tell.
use Rattle.std.proofs.Common.{◌≡◌, ℕ, List, ◌++◌, IfOk, Result, Ok, Err, refl, sym, ◌∙◌, ap, String, string_bytes, Global}
use Rattle.fault_texts.specs.Told.{head_text, found_body, body_text, rest_text, fault_text}
use Rattle.{line_reader.specs.First_fault, line_reader.specs.rows_of, line_reader.specs.lines_from, script_tokens.specs.Words.words_of}
use Rattle.{line_reader.specs.declared.cause.Cause.Cause, line_forms.specs.declared.context.Reading.Reading, fault_texts.specs.Found.Found}
use Rattle.{fault_texts.specs.Found.no_found, fault_texts.specs.Found.find_step}

pub told_is : {E : Type 0} (reading : Reading) (source : List ℕ) (line : ℕ) (cause : Cause) (start d : Found)
    (res : Result (String Global) E) → start ≡ no_found reading line cause
    → lines_from find_step start (rows_of (words_of source)) ≡ Ok d
    → IfOk res (λ t. string_bytes t ≡ head_text line cause ++ found_body source d)
    → IfOk res (λ t. string_bytes t ≡ fault_text reading source line cause)
unfolding fault_text
told_is reading source line cause start d (Ok t) is found told =
    told ∙ ap (λ (r : Result Found First_fault). head_text line cause ++ body_text source r)
    (sym found ∙ ap (λ (s : Found). lines_from find_step s (rows_of (words_of source))) is)
told_is reading source line cause start d (Err e) is found told = tt

-- It begins with the line of the fault.
pub begins : (reading : Reading) (source : List ℕ) (line : ℕ) (cause : Cause)
    → fault_text reading source line cause ≡ head_text line cause ++ rest_text reading source line cause
unfolding fault_text
begins reading source line cause = refl
