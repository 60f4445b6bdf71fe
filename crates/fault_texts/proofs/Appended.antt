-- Texts of words appended one after another.
use Rattle.std.proofs.Common.{◌≡◌, ℕ, suc, ◌+◌, ◌<◌, ◌≤◌, List, ◌++◌, length, drop, get_or, append_assoc, append-nil, sym, ◌∙◌, ap, subst}
use Rattle.std.proofs.Common.{arith, OnOk, Result, Ok, Err, codes}
use Rattle.fault_texts.specs.{declared.notes.Note.Note, Places.place_of, Places.slot_of, Notes.note_of, Pieces.spaced_text}
use Rattle.fault_texts.specs.{Pieces.blank_text, Pieces.at_text, Pieces.due_line, Pieces.forms_text, Pieces.fault_at_text}
use Rattle.{fault_texts.specs.words_text, fault_texts.specs.blanks_text, fault_texts.specs.blanks, std.proofs.lemmas.List.drop_more}
use Rattle.{std.proofs.lemmas.List.drop_all, script_tokens.specs.declared.token.Token.Token, line_reader.specs.Arguments.texts}
use Rattle.{line_reader.specs.declared.cause.Cause.Cause, line_forms.specs.declared.context.Context.Context}
use Rattle.{line_forms.specs.declared.slots.Slot.Slot, fault_texts.specs.Pieces.fault_line_text}

pub words_more : (ts : List Token) (n : ℕ) (d : Token) (all old new : List ℕ) → n < length ts
    → all ++ words_text (texts (drop n ts)) ≡ old → new ≡ all ++ spaced_text (get_or ts n d).text.now
    → new ++ words_text (texts (drop (n + 1) ts)) ≡ old
words_more ts n d all old new low before push =
    ap (λ (x : List ℕ). x ++ words_text (texts (drop (n + 1) ts))) push
    ∙ append_assoc all (spaced_text (get_or ts n d).text.now) (words_text (texts (drop (n + 1) ts)))
    ∙ ap (λ (x : List Token). all ++ words_text (texts x)) (sym (drop_more ts n d low)) ∙ before

pub words_end : (ts : List Token) (n : ℕ) (all old : List ℕ) → length ts ≤ n → all ++ words_text (texts (drop n ts)) ≡ old → all ≡ old
words_end ts n all old past before =
    sym (append-nil all) ∙ ap (λ (x : List Token). all ++ words_text (texts x)) (sym (drop_all n ts past)) ∙ before

pub blanks_more : (ts : List Token) (n : ℕ) (d : Token) (all old new : List ℕ) → n < length ts
    → all ++ blanks_text (texts (drop n ts)) ≡ old → new ≡ all ++ blank_text (get_or ts n d).text.now
    → new ++ blanks_text (texts (drop (n + 1) ts)) ≡ old
blanks_more ts n d all old new low before push =
    ap (λ (x : List ℕ). x ++ blanks_text (texts (drop (n + 1) ts))) push
    ∙ append_assoc all (blank_text (get_or ts n d).text.now) (blanks_text (texts (drop (n + 1) ts)))
    ∙ ap (λ (x : List Token). all ++ blanks_text (texts x)) (sym (drop_more ts n d low)) ∙ before

pub blanks_end : (ts : List Token) (n : ℕ) (all old : List ℕ) → length ts ≤ n → all ++ blanks_text (texts (drop n ts)) ≡ old → all ≡ old
blanks_end ts n all old past before =
    sym (append-nil all) ∙ ap (λ (x : List Token). all ++ blanks_text (texts x)) (sym (drop_all n ts past)) ∙ before

-- one space more
pub space_more : (n : ℕ) (old all new : List ℕ) → all ≡ old ++ blanks n → new ≡ all ++ codes " " → new ≡ old ++ blanks (n + 1)
space_more n old all new before push =
    let next : suc n ≡ n + 1 = omega arith in
    push ∙ ap (λ (x : List ℕ). x ++ codes " ") before ∙ append_assoc old (blanks n) (codes " ")
    ∙ ap (λ (k : ℕ). old ++ blanks k) next

-- three texts, one after another
pub thrice : {A E : Type 0} (r : Result A E) (t0 t1 t2 t3 a b b' c c' : List ℕ) → t1 ≡ t0 ++ a → t2 ≡ t1 ++ b → b ≡ b' → c ≡ c'
    → OnOk r (t3 ≡ t2 ++ c) → OnOk r (t3 ≡ t0 ++ ((a ++ b') ++ c'))
thrice (Ok x) t0 t1 t2 t3 a b b' c c' p q eb ec f =
    f ∙ ap (λ (x : List ℕ). x ++ c) (q ∙ ap (λ (x : List ℕ). x ++ b) p) ∙ ap (λ (x : List ℕ). ((t0 ++ a) ++ x) ++ c) eb
    ∙ ap (λ (x : List ℕ). ((t0 ++ a) ++ b') ++ x) ec ∙ ap (λ (x : List ℕ). x ++ c') (append_assoc t0 a b') ∙ append_assoc t0 (a ++ b') c'
thrice (Err e) t0 t1 t2 t3 a b b' c c' p q eb ec f = tt

-- what is told of a fault of a line, one piece after another
pub fault_told : {A E : Type 0} (r : Result A E) (context : Context) (words : List (List ℕ)) (cause : Cause) (place : ℕ) (slot : Slot)
    (note : Note) (t0 t1 t2 t3 : List ℕ) → place ≡ place_of context words cause → slot ≡ slot_of context words place cause
    → note ≡ note_of context words place cause → t1 ≡ t0 ++ at_text words place
    → t2 ≡ t1 ++ due_line context.version context.reading context.stage slot → OnOk r (t3 ≡ t2 ++ forms_text context words note)
    → OnOk r (t3 ≡ t0 ++ fault_line_text context words cause)
fault_told r context words cause place slot note t0 t1 t2 t3 ep es en p q f =
    subst (λ (x : ℕ). OnOk r (t3 ≡ t0 ++ fault_at_text context words cause x)) ep
    (thrice r t0 t1 t2 t3 (at_text words place) (due_line context.version context.reading context.stage slot)
    (due_line context.version context.reading context.stage (slot_of context words place cause)) (forms_text context words note)
    (forms_text context words (note_of context words place cause)) p q
    (ap (λ (s : Slot). due_line context.version context.reading context.stage s) es) (ap (λ (n : Note). forms_text context words n) en) f)
