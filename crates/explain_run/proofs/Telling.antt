-- What is told of bytes that are read, and of bytes that are refused.
use Rattle.std.proofs.Common.{◌≡◌, ℕ, List, IfOk, Result, Ok, Err, inl, inr, String, string_bytes, Global}
use Rattle.line_reader.specs.{declared.cause.Cause.Cause, Lines.First_fault}
use Rattle.explain_run.specs.Explained.{accepted_text, IsAccepted, IsTold}
use Rattle.{line_forms.specs.declared.context.Reading.Reading, fault_texts.specs.Told.fault_text}

pub read_told : {I E : Type 0} (read : Result I First_fault) (input : I) (r : Reading) (source : List ℕ) (res : Result (String Global) E)
    → read ≡ Ok input → IfOk res (λ t. string_bytes t ≡ accepted_text r)
    → IfOk res (λ t. IsTold read (IsAccepted r) r source (string_bytes t))
read_told read input r source (Ok t) is told = inl record { input = input; is_input = is; tells = told }
read_told read input r source (Err e) is told = tt

pub refusal_told : {I E : Type 0} (read : Result I First_fault) (Tells : I → List ℕ → Type 0) (r : Reading) (source : List ℕ)
    (line : ℕ) (cause : Cause) (res : Result (String Global) E) → read ≡ Err (record { line = line; cause = cause })
    → IfOk res (λ t. string_bytes t ≡ fault_text r source line cause) → IfOk res (λ t. IsTold read Tells r source (string_bytes t))
refusal_told read Tells r source line cause (Ok t) is told = inr record { line = line; cause = cause; is_fault = is; told = told }
refusal_told read Tells r source line cause (Err e) is told = tt

pub input_told : {I E : Type 0} (read : Result I First_fault) (Tells : I → List ℕ → Type 0) (input : I) (r : Reading) (source : List ℕ)
    (res : Result (String Global) E) → read ≡ Ok input
    → IfOk res (λ t. Tells input (string_bytes t)) → IfOk res (λ t. IsTold read Tells r source (string_bytes t))
input_told read Tells input r source (Ok t) is told = inl record { input = input; is_input = is; tells = told }
input_told read Tells input r source (Err e) is told = tt
