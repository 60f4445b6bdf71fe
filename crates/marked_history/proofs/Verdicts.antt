-- Lines have one verdict at most.
use Rattle.kernel_rules.proofs.{◌≡◌, inl, inr, ℕ, List, [], ◌∷◌, ◌++◌, reverse, refl, sym, ◌∙◌, ap, subst, append_assoc, reverse-append}
use Rattle.marked_history.specs.{MayFollow, said_marks, marks_of, AllFollow, LineFollows, AreHistory, MarkBreaks, FirstBreaks, LineBreaks}
use Rattle.marked_history.specs.{Misnumbered, Numbered, AreLegal, IsVerdict, declared.marks.Mark.Mark, declared.marks.Said.Said}
use Rattle.marked_history.specs.{declared.marks.Line.Line, declared.marks.Why.Why, declared.marks.Verdict.Verdict}
use Rattle.marked_history.specs.{declared.marks.Verdict.TheVariants.Legal, declared.marks.Verdict.TheVariants.Illegal, Verdicts.BreakAt}
use Rattle.{kernel_rules.proofs.Setting, marked_history.specs.Laws.OneVerdict}
use Rattle.marked_history.specs.declared.marks.Why.TheVariants as why

-- ---- one mark, one line

-- A mark that may follow does not break.
mark_follows : (setting : Setting) (before : List Mark) (m : Mark) (w : Why) → MayFollow setting before m → MarkBreaks setting before m w → ⊥
mark_follows setting before m why.Marks f b = b f.order
mark_follows setting before m why.Race f b = b.1 f.held_up
mark_follows setting before m why.Reply f b = b.2 f.permitted

-- It breaks for one reason.
mark_breaks : (setting : Setting) (before : List Mark) (m : Mark) (w v : Why) → MarkBreaks setting before m w → MarkBreaks setting before m v
    → w ≡ v
mark_breaks setting before m why.Marks why.Marks b d = refl
mark_breaks setting before m why.Marks why.Race b d = absurd (b d.0)
mark_breaks setting before m why.Marks why.Reply b d = absurd (b d.0)
mark_breaks setting before m why.Race why.Marks b d = absurd (d b.0)
mark_breaks setting before m why.Race why.Race b d = refl
mark_breaks setting before m why.Race why.Reply b d = absurd (b.1 d.1)
mark_breaks setting before m why.Reply why.Marks b d = absurd (d b.0)
mark_breaks setting before m why.Reply why.Race b d = absurd (d.1 b.1)
mark_breaks setting before m why.Reply why.Reply b d = refl

all_follow : (setting : Setting) (before marks : List Mark) (w : Why) → AllFollow setting before marks → FirstBreaks setting before marks w → ⊥
all_follow setting before [] w f b = absurd b
all_follow setting before (m ∷ marks) w f (inl b) = mark_follows setting before m w f.0 b
all_follow setting before (m ∷ marks) w f (inr b) = all_follow setting (m ∷ before) marks w f.1 b.1

first_breaks : (setting : Setting) (before marks : List Mark) (w v : Why) → FirstBreaks setting before marks w
    → FirstBreaks setting before marks v → w ≡ v
first_breaks setting before [] w v b d = absurd b
first_breaks setting before (m ∷ marks) w v (inl b) (inl d) = mark_breaks setting before m w v b d
first_breaks setting before (m ∷ marks) w v (inl b) (inr d) = absurd (mark_follows setting before m w d.0 b)
first_breaks setting before (m ∷ marks) w v (inr b) (inl d) = absurd (mark_follows setting before m v b.0 d)
first_breaks setting before (m ∷ marks) w v (inr b) (inr d) = first_breaks setting (m ∷ before) marks w v b.1 d.1

-- A line that may follow does not break.
line_follows : (setting : Setting) (before : List Mark) (said : Said) (w : Why) → LineFollows setting before said
    → LineBreaks setting before said w → ⊥
line_follows setting before said why.Marks f (Misnumbered other) = other f.numbered
line_follows setting before said w f (Numbered is b) = all_follow setting before (said_marks said) w f.marks b

-- It breaks for one reason.
line_breaks : (setting : Setting) (before : List Mark) (said : Said) (w v : Why) → LineBreaks setting before said w
    → LineBreaks setting before said v → w ≡ v
line_breaks setting before said why.Marks why.Marks (Misnumbered other) (Misnumbered other') = refl
line_breaks setting before said why.Marks v (Misnumbered other) (Numbered is d) = absurd (other is)
line_breaks setting before said w why.Marks (Numbered is b) (Misnumbered other) = absurd (other is)
line_breaks setting before said w v (Numbered is b) (Numbered is' d) = first_breaks setting before (said_marks said) w v b d

-- ---- lines

-- What follows a history is left away.
earlier : (setting : Setting) (later lines : List Line) → AreHistory setting (later ++ lines) → AreHistory setting lines
earlier setting [] lines h = h
earlier setting (l ∷ later) lines h = earlier setting later lines h.0

-- Each line of a history follows those before it.
each_follows : (setting : Setting) (before : List Line) (l : Line) (rest : List Line) → AreHistory setting (reverse (before ++ l ∷ rest))
    → LineFollows setting (marks_of (reverse before)) l.said
each_follows setting before l rest h =
    let turned : reverse (before ++ l ∷ rest) ≡ reverse rest ++ (l ∷ reverse before) =
    reverse-append before (l ∷ rest) ∙ ap (λ ls. ls ++ reverse before) (reverse-append (l ∷ []) rest)
    ∙ append_assoc (reverse rest) (l ∷ []) (reverse before) in
    (earlier setting (reverse rest) (l ∷ reverse before) (subst (AreHistory setting) turned h)).1

-- One list of lines is another, one of its lines, and more.
record GoesOn (before : List Line) (l : Line) (longer : List Line) : Type 0 where
  pub more : List Line
  pub is : longer ≡ before ++ l ∷ more

record AreOne (before : List Line) (l : Line) (before' : List Line) (l' : Line) : Type 0 where
  pub lines : before ≡ before'
  pub line : l ≡ l'

-- The first of lines, and those after it.
abbrev first_of : Line → List Line → Line
first_of l [] = l
first_of l (x ∷ lines) = x

abbrev after_first : List Line → List Line
after_first [] = []
after_first (x ∷ lines) = lines

-- How two places in one list of lines stand to each other: they are one, or one is before the other.
data Places (before : List Line) (l : Line) (before' : List Line) (l' : Line) : Type 0 where
  Same : AreOne before l before' l' → Places before l before' l'
  Before : GoesOn before l before' → Places before l before' l'
  After : GoesOn before' l' before → Places before l before' l'

one_more : (x x' : Line) (before : List Line) (l : Line) (before' : List Line) (l' : Line) → x ≡ x' → Places before l before' l'
    → Places (x ∷ before) l (x' ∷ before') l'
one_more x x' before l before' l' first (Same one) =
    Same (record { lines = ap (λ y. y ∷ before) first ∙ ap (λ ls. x' ∷ ls) one.lines; line = one.line })
one_more x x' before l before' l' first (Before on) =
    Before (record { more = on.more; is = ap (λ y. y ∷ before') (sym first) ∙ ap (λ ls. x ∷ ls) on.is })
one_more x x' before l before' l' first (After on) =
    After (record { more = on.more; is = ap (λ y. y ∷ before) first ∙ ap (λ ls. x' ∷ ls) on.is })

places : (before : List Line) (l : Line) (rest before' : List Line) (l' : Line) (rest' : List Line)
    → before ++ l ∷ rest ≡ before' ++ l' ∷ rest' → Places before l before' l'
places [] l rest [] l' rest' same = Same (record { lines = refl; line = ap (first_of l) same })
places [] l rest (x ∷ before') l' rest' same = Before (record { more = before'; is = ap (λ y. y ∷ before') (sym (ap (first_of l) same)) })
places (x ∷ before) l rest [] l' rest' same = After (record { more = before; is = ap (λ y. y ∷ before) (ap (first_of l) same) })
places (x ∷ before) l rest (x' ∷ before') l' rest' same =
    one_more x x' before l before' l' (ap (first_of l) same) (places before l rest before' l' rest' (ap after_first same))

-- A line that breaks is not followed by a history.
no_more : (setting : Setting) (lines : List Line) (n : ℕ) (w : Why) (b : BreakAt setting lines n w) (longer : List Line)
    → GoesOn b.before b.line longer → AreHistory setting (reverse longer) → ⊥
no_more setting lines n w b longer on h =
    line_follows setting (marks_of (reverse b.before)) b.line.said w
    (each_follows setting b.before b.line on.more (subst (λ ls. AreHistory setting (reverse ls)) on.is h)) b.breaks

legal_only : (setting : Setting) (lines : List Line) (n k : ℕ) (w : Why) → AreLegal setting lines k → BreakAt setting lines n w → ⊥
legal_only setting lines n k w legal b = no_more setting lines n w b lines (record { more = b.rest; is = b.are }) legal.history

one_break : (setting : Setting) (lines : List Line) (n k : ℕ) (w v : Why) (b : BreakAt setting lines n w) (d : BreakAt setting lines k v)
    → Places b.before b.line d.before d.line → Illegal n w ≡ Illegal k v
one_break setting lines n k w v b d (Same one) =
    let breaks : LineBreaks setting (marks_of (reverse d.before)) d.line.said w =
    subst (λ ls. LineBreaks setting (marks_of (reverse ls)) d.line.said w) one.lines
    (subst (λ (l : Line). LineBreaks setting (marks_of (reverse b.before)) l.said w) one.line b.breaks) in
    ap (λ m. Illegal m w) (b.is_number ∙ ap (λ (l : Line). l.number) one.line ∙ sym d.is_number)
    ∙ ap (λ u. Illegal k u) (line_breaks setting (marks_of (reverse d.before)) d.line.said w v breaks d.breaks)
one_break setting lines n k w v b d (Before on) = absurd (no_more setting lines n w b d.before on d.history)
one_break setting lines n k w v b d (After on) = absurd (no_more setting lines k v d b.before on b.history)

pub one_verdict : OneVerdict
one_verdict setting lines (Legal n) (Legal k) p q = ap Legal (p.count ∙ sym q.count)
one_verdict setting lines (Legal n) (Illegal k w) p q = absurd (legal_only setting lines k n w p q)
one_verdict setting lines (Illegal n w) (Legal k) p q = absurd (legal_only setting lines n k w q p)
one_verdict setting lines (Illegal n w) (Illegal k v) p q =
    one_break setting lines n k w v p q (places p.before p.line p.rest q.before q.line q.rest (sym p.are ∙ q.are))
