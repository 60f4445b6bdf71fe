-- The text of a trace is the lines of its marks, and in the comment after the first of a step stand the steps since the line before.
use Rattle.marked_laws.specs.kernel_history.proofs.{◌≡◌, ℕ, Bool, true, List, [], ◌∷◌, ◌++◌, map, Option, None, Some, refl, sym, ap, ◌∙◌}
use Rattle.marked_laws.specs.kernel_history.proofs.{append_assoc, reverse, ◌&&◌, codes, and_from, append-nil, map-append, reverse-append}
use Rattle.marked_laws.specs.kernel_history.proofs.{Call, Reply, Step}
use Rattle.trace_lines.specs.{step_text, event_lines, Told, line_end, step_told, told}
use Rattle.marked_laws.specs.{with_enter, with_decide, with_return, marks_of}
use Rattle.marked_laws.specs.kernel_history.specs.kernel_rules.specs.{with_one, call_text, reply_text}
use Rattle.trace_lines.specs.script_printer.proofs.{both_left, both_right, Spans.are_printed}
use Rattle.marked_laws.specs.marked_history.specs.declared.marks.Mark.TheVariants.{Enter, Decide, Return}
use Rattle.trace_lines.specs.{Steps.enter_line, Steps.decide_line, Steps.return_line, Traces.lines_told}
use Rattle.trace_reads.proofs.Printed.{printed_append, step_printed}
use Rattle.{marked_laws.specs.kernel_history.specs.Trace.Trace, marked_laws.specs.marked_history.specs.declared.marks.Mark.Mark}

-- what is written of a mark
abbrev pub mark_text : Mark → List ℕ
mark_text (Enter c call) = with_one (codes "enter") c ++ codes " " ++ call_text call
mark_text (Decide c r) = with_one (codes "decide") c ++ codes " " ++ reply_text r
mark_text (Return c) = with_one (codes "return") c

-- the line of a mark, and what its comment tells
pub record Marked : Type 0 where
  pub mark : Mark
  pub note : List ℕ

-- the text of lines
abbrev pub marked_text : List Marked → List ℕ
marked_text [] = []
marked_text (l ∷ lines) = (mark_text l.mark ++ line_end l.note) ++ marked_text lines

-- the lines of marks, of which the first has this note
abbrev pub marked : List ℕ → List Mark → List Marked
marked note [] = []
marked note (m ∷ marks) = record { mark = m; note = note } ∷ marked [] marks

-- the lines so far, and the steps that none of them tells
pub record Notes : Type 0 where
  pub lines : List Marked
  pub steps : List ℕ

abbrev pub noted_step : Notes → List ℕ → List Mark → Notes
noted_step n step [] = record { lines = n.lines; steps = n.steps ++ (step ++ codes "; ") }
noted_step n step (m ∷ marks) = record { lines = n.lines ++ marked (n.steps ++ step) (m ∷ marks); steps = [] }

-- the marks of a step, in order
abbrev pub entry : Option Call → ℕ → List Mark
entry None c = []
entry (Some call) c = Enter c call ∷ []

abbrev pub decision : Option Reply → ℕ → List Mark
decision None c = []
decision (Some r) c = Decide c r ∷ []

abbrev pub response : Option Reply → ℕ → List Mark
response None c = []
response (Some r) c = Return c ∷ []

abbrev pub step_marks : Step → List Mark
step_marks e = entry e.enters e.core ++ (decision e.decides e.core ++ response e.returns e.core)

-- the lines of a trace
abbrev pub notes_of : Trace → Notes
notes_of [] = record { lines = []; steps = [] }
notes_of (e ∷ t) = noted_step (notes_of t) (step_text e) (step_marks e)

-- ---- the text is their text

marked_append : (ls ms : List Marked) → marked_text (ls ++ ms) ≡ marked_text ls ++ marked_text ms
marked_append [] ms = refl
marked_append (l ∷ ls) ms =
    let one = mark_text l.mark ++ line_end l.note in
    ap (λ t. one ++ t) (marked_append ls ms) ∙ sym (append_assoc one (marked_text ls) (marked_text ms))

entry_lines : (o : Option Call) (c : ℕ) → enter_line c o ≡ map mark_text (entry o c)
entry_lines None c = refl
entry_lines (Some call) c = refl

decision_lines : (o : Option Reply) (c : ℕ) → decide_line c o ≡ map mark_text (decision o c)
decision_lines None c = refl
decision_lines (Some r) c = refl

response_lines : (o : Option Reply) (c : ℕ) → return_line c o ≡ map mark_text (response o c)
response_lines None c = refl
response_lines (Some r) c = refl

step_lines : (e : Step) → event_lines e ≡ map mark_text (step_marks e)
step_lines e =
    let one = entry_lines e.enters e.core in
    let two = decision_lines e.decides e.core in
    let three = response_lines e.returns e.core in
    let joins : event_lines e ≡ map mark_text (entry e.enters e.core)
    ++ (map mark_text (decision e.decides e.core) ++ map mark_text (response e.returns e.core)) = λ i. one i ++ (two i ++ three i) in
    joins
    ∙ ap (λ (ls : List (List ℕ)). map mark_text (entry e.enters e.core) ++ ls)
    (sym (map-append mark_text (decision e.decides e.core) (response e.returns e.core)))
    ∙ sym (map-append mark_text (entry e.enters e.core) (decision e.decides e.core ++ response e.returns e.core))

-- a text with no step left untold
abbrev all_told : List ℕ → Told
all_told text = record { lines = text; steps = [] }

told_marks : (text note : List ℕ) (m : Mark) (marks : List Mark)
    → lines_told (record { lines = text; steps = note }) (map mark_text (m ∷ marks))
    ≡ record { lines = text ++ marked_text (marked note (m ∷ marks)); steps = [] }
told_marks text note m [] =
    let one = mark_text m ++ line_end note in
    let same : (text ++ mark_text m) ++ line_end note ≡ text ++ (one ++ []) =
    append_assoc text (mark_text m) (line_end note) ∙ ap (λ t. text ++ t) (sym (append-nil one)) in
    ap all_told same
told_marks text note m (k ∷ marks) =
    let one = mark_text m ++ line_end note in
    let rest = marked_text (marked [] (k ∷ marks)) in
    let same : ((text ++ mark_text m) ++ line_end note) ++ rest ≡ text ++ (one ++ rest) =
    ap (λ t. t ++ rest) (append_assoc text (mark_text m) (line_end note)) ∙ append_assoc text one rest in
    told_marks ((text ++ mark_text m) ++ line_end note) [] k marks ∙ ap all_told same

-- what is written where these lines are
abbrev pub written : List ℕ → Notes → Told
written head n = record { lines = head ++ marked_text n.lines; steps = n.steps }

told_step : (head : List ℕ) (n : Notes) (step : List ℕ) (marks : List Mark)
    → step_told (written head n) step (map mark_text marks) ≡ written head (noted_step n step marks)
told_step head n step [] = refl
told_step head n step (m ∷ marks) =
    let note = n.steps ++ step in
    let more = marked note (m ∷ marks) in
    let same : (head ++ marked_text n.lines) ++ marked_text more ≡ head ++ marked_text (n.lines ++ more) =
    append_assoc head (marked_text n.lines) (marked_text more) ∙ ap (λ t. head ++ t) (sym (marked_append n.lines more)) in
    told_marks (head ++ marked_text n.lines) note m marks ∙ ap all_told same

pub told_is : (head : List ℕ) (t : Trace) → told head t ≡ written head (notes_of t)
told_is head [] = ap all_told (sym (append-nil head))
told_is head (e ∷ t) =
    ap (λ (w : Told). step_told w (step_text e) (event_lines e)) (told_is head t)
    ∙ ap (step_told (written head (notes_of t)) (step_text e)) (step_lines e)
    ∙ told_step head (notes_of t) (step_text e) (step_marks e)

-- ---- their marks are those of the trace, in order

abbrev pub marks_in : List Marked → List Mark
marks_in lines = map (λ (l : Marked). l.mark) lines

marked_marks : (note : List ℕ) (marks : List Mark) → marks_in (marked note marks) ≡ marks
marked_marks note [] = refl
marked_marks note (m ∷ marks) = ap (λ (ms : List Mark). m ∷ ms) (marked_marks [] marks)

step_noted : (n : Notes) (step : List ℕ) (marks : List Mark) → marks_in (noted_step n step marks).lines ≡ marks_in n.lines ++ marks
step_noted n step [] = sym (append-nil (marks_in n.lines))
step_noted n step (m ∷ marks) =
    map-append (λ (l : Marked). l.mark) n.lines (marked (n.steps ++ step) (m ∷ marks))
    ∙ ap (λ (ms : List Mark). marks_in n.lines ++ ms) (marked_marks (n.steps ++ step) (m ∷ marks))

entry_last : (o : Option Call) (c : ℕ) (marks : List Mark) → reverse (with_enter o c marks) ≡ reverse marks ++ entry o c
entry_last None c marks = sym (append-nil (reverse marks))
entry_last (Some call) c marks = reverse-append (Enter c call ∷ []) marks

decision_last : (o : Option Reply) (c : ℕ) (marks : List Mark) → reverse (with_decide o c marks) ≡ reverse marks ++ decision o c
decision_last None c marks = sym (append-nil (reverse marks))
decision_last (Some r) c marks = reverse-append (Decide c r ∷ []) marks

response_last : (o : Option Reply) (c : ℕ) (marks : List Mark) → reverse (with_return o c marks) ≡ reverse marks ++ response o c
response_last None c marks = sym (append-nil (reverse marks))
response_last (Some r) c marks = reverse-append (Return c ∷ []) marks

step_last : (e : Step) (t : Trace) → reverse (marks_of (e ∷ t)) ≡ reverse (marks_of t) ++ step_marks e
step_last e t =
    let one = entry e.enters e.core in
    let two = decision e.decides e.core in
    let three = response e.returns e.core in
    response_last e.returns e.core (with_decide e.decides e.core (with_enter e.enters e.core (marks_of t)))
    ∙ ap (λ (ms : List Mark). ms ++ three) (decision_last e.decides e.core (with_enter e.enters e.core (marks_of t))
    ∙ ap (λ (ms : List Mark). ms ++ two) (entry_last e.enters e.core (marks_of t)))
    ∙ append_assoc (reverse (marks_of t) ++ one) two three ∙ append_assoc (reverse (marks_of t)) one (two ++ three)

pub notes_marks : (t : Trace) → marks_in (notes_of t).lines ≡ reverse (marks_of t)
notes_marks [] = refl
notes_marks (e ∷ t) =
    step_noted (notes_of t) (step_text e) (step_marks e)
    ∙ ap (λ (ms : List Mark). ms ++ step_marks e) (notes_marks t) ∙ sym (step_last e t)

-- ---- their comments are printed characters

abbrev pub notes_printed : List Marked → Bool
notes_printed [] = true
notes_printed (l ∷ lines) = are_printed l.note && notes_printed lines

marked_printed : (note : List ℕ) (marks : List Mark) → are_printed note ≡ true → notes_printed (marked note marks) ≡ true
marked_printed note [] h = refl
marked_printed note (m ∷ marks) h = and_from _ _ h (marked_printed [] marks refl)

both_printed : (ls ms : List Marked) → notes_printed ls ≡ true → notes_printed ms ≡ true → notes_printed (ls ++ ms) ≡ true
both_printed [] ms h k = k
both_printed (l ∷ ls) ms h k = and_from _ _ (both_left _ _ h) (both_printed ls ms (both_right _ _ h) k)

pub record ArePrinted (n : Notes) : Type 0 where
  pub lines : notes_printed n.lines ≡ true
  pub steps : are_printed n.steps ≡ true

after_printed : (n : Notes) (step : List ℕ) (marks : List Mark) → are_printed step ≡ true
    → ArePrinted n → ArePrinted (noted_step n step marks)
after_printed n step [] h k = record {
  lines = k.lines;
  steps = printed_append n.steps (step ++ codes "; ") k.steps (printed_append step (codes "; ") h refl);
}
after_printed n step (m ∷ marks) h k = record {
  lines = both_printed n.lines (marked (n.steps ++ step) (m ∷ marks)) k.lines
      (marked_printed (n.steps ++ step) (m ∷ marks) (printed_append n.steps step k.steps h));
  steps = refl;
}

pub notes_are_printed : (t : Trace) → ArePrinted (notes_of t)
notes_are_printed [] = record { lines = refl; steps = refl }
notes_are_printed (e ∷ t) = after_printed (notes_of t) (step_text e) (step_marks e) (step_printed e) (notes_are_printed t)
