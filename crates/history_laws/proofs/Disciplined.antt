-- Steps that keep the discipline, by what the checker computes of them.
use Rattle.kernel_history.proofs as low
use low.{◌≡◌, ◌≢◌, ◌⊎◌, inl, inr, ℕ, zero, suc, ◌==◌, ◌&&◌, ◌||◌, Bool, true, false, List, [], ◌∷◌, Option, Some, None, refl, sym, ◌∙◌, ap}
use low.{subst, cond, drop, is_some, not, eqb-true, eq-eqb, ne_eqb, false≢true, Setting, Call, Reply, Frame, State, put, Word, EntryAt}
use low.{FrameAt, CountAt, CoreAt, FlushAt, LiveAt, ClockAt, Move, LoadOf, CompareOf, StoreOf, AddOf, word_of, left_of, call_in}
use low.{KeepsMarked, KeepsDiscipline, marked_by, mark_in_frame, mark_of, Step, phase, after_enter, state_after, state_entered}
use low.{state_decided, state_returned, last_left, cases_word, last_left-there, Computed.moves_well}
use Rattle.{kernel_history.specs.MayMove, kernel_history.specs.MarksOwn, kernel_history.specs.IsDisciplined}
use Rattle.{std.proofs.lemmas.Bool.and_parts, std.proofs.lemmas.Bool.cases_eq, kernel_history.specs.Trace.Trace}

same_some : (d e : ℕ) → Some d ≡ Some e → d ≡ e
same_some d e h = cc

pub none_some : (d : ℕ) → None ≡ Some d → ⊥
none_some d h = cc

-- A call may make an operation, where that is computed.
raises_so : (s : State) (c : ℕ) (call : Call) (w : Word) (by : ℕ) → moves_well s c call (AddOf w by) ≡ true → MayMove s c call (AddOf w by)
raises_so s c call (EntryAt f i) by is = absurd (false≢true is)
raises_so s c call (FrameAt f) by is = absurd (false≢true is)
raises_so s c call (CountAt f d) by is = absurd (false≢true is)
raises_so s c call (CoreAt d) by is = absurd (false≢true is)
raises_so s c call (FlushAt d) by is = absurd (false≢true is)
raises_so s c call (LiveAt l) by is = absurd (false≢true is)
raises_so s c call ClockAt by is = let p = and_parts _ _ is in (p.0, eqb-true by 1 p.1)

moves_so : (s : State) (c : ℕ) (call : Call) (m : Move) → moves_well s c call m ≡ true → MayMove s c call m
moves_so s c call (LoadOf w) is = is
moves_so s c call (CompareOf w expected new) is = is
moves_so s c call (StoreOf w new) is = is
moves_so s c call (AddOf w by) is = raises_so s c call w by is

-- Whether a word has no mark but one that it had, or that of core c.
abbrev is_mark : Option ℕ → ℕ → Bool
is_mark None d = false
is_mark (Some b) d = b == d

abbrev pub marks_well : Option ℕ → Option ℕ → ℕ → Bool
marks_well None before c = true
marks_well (Some d) before c = c == d || is_mark before d

or_cases : (a b : Bool) → (a || b) ≡ true → (a ≡ true) ⊎ (b ≡ true)
or_cases true b is = inl refl
or_cases false b is = inr is

is_mark-true : (before : Option ℕ) (d : ℕ) → is_mark before d ≡ true → before ≡ Some d
is_mark-true None d is = absurd (false≢true is)
is_mark-true (Some b) d is = ap (λ (n : ℕ). Some n) (eqb-true b d is)

marked_so : (after before : Option ℕ) (c d : ℕ) → marks_well after before c ≡ true → after ≡ Some d → (before ≡ Some d) ⊎ (c ≡ d)
marked_so None before c d is now = absurd (none_some d now)
marked_so (Some m) before c d is now = elim (or_cases (c == m) (is_mark before m) is) [
  | inl own ↦ inr (eqb-true c m own ∙ same_some m d now)
  | inr was ↦ inl (is_mark-true before m was ∙ now)
]

-- Whether a word that carries another core's mark is left as found.
abbrev pub keeps_well : Option ℕ → ℕ → Bool → Bool
keeps_well None c same = true
keeps_well (Some d) c same = d == c || same

kept_so : (before : Option ℕ) (c : ℕ) (m n : ℕ) → keeps_well before c (m == n) ≡ true → (d : ℕ) → before ≡ Some d → d ≢ c → m ≡ n
kept_so None c m n is d marked other = absurd (none_some d marked)
kept_so (Some b) c m n is d marked other = elim (or_cases (b == c) (m == n) is) [
  | inl own ↦ absurd (other (sym (same_some b d marked) ∙ eqb-true b c own))
  | inr same ↦ eqb-true m n same
]

-- Of the words of frames, those that carry a mark where the frames are these carry it where they are those.
abbrev pub MarksAlike : (Word → ℕ) → (ℕ → Frame) → (ℕ → Frame) → Type 0
MarksAlike word frames before = (f i d : ℕ) → mark_in_frame (frames f) i (word (EntryAt f i)) ≡ Some d
    → mark_in_frame (before f) i (word (EntryAt f i)) ≡ Some d

alike_put : (word : Word → ℕ) (frames before : ℕ → Frame) (g : ℕ) (x : Frame) → MarksAlike word frames before
    → ((i d : ℕ) → mark_in_frame x i (word (EntryAt g i)) ≡ Some d → mark_in_frame (before g) i (word (EntryAt g i)) ≡ Some d)
    → MarksAlike word (put frames g x) before
alike_put word frames before g x alike here f i d is = by (cases_eq f g)
  where
    by : (f ≡ g) ⊎ (f ≢ g) → mark_in_frame (before f) i (word (EntryAt f i)) ≡ Some d
    by (inl same) = subst (λ (h : ℕ). mark_in_frame (before h) i (word (EntryAt h i)) ≡ Some d) (sym same)
        (here i d (ap (λ (h : ℕ). mark_in_frame x i (word (EntryAt h i))) (sym same)
        ∙ ap (λ b. mark_in_frame (cond b x (frames f)) i (word (EntryAt f i))) (sym (eq-eqb f g same)) ∙ is))
    by (inr other) = alike f i d (ap (λ b. mark_in_frame (cond b x (frames f)) i (word (EntryAt f i))) (sym (ne_eqb f g other)) ∙ is)

alike_marks : (word : Word → ℕ) (s before : State) → MarksAlike word s.frame before.frame → (w : Word) (d : ℕ)
    → mark_of s w (word w) ≡ Some d → mark_of before w (word w) ≡ Some d
alike_marks word s before alike (EntryAt f i) d is = alike f i d is
alike_marks word s before alike (FrameAt f) d is = is
alike_marks word s before alike (CountAt f c) d is = is
alike_marks word s before alike (CoreAt c) d is = is
alike_marks word s before alike (FlushAt c) d is = is
alike_marks word s before alike (LiveAt l) d is = is
alike_marks word s before alike ClockAt d is = is

-- Whether a step is one of its call, puts no mark but its core's, and changes no word that another core has marked.
abbrev moves_by : Setting → Trace → Step → Option Call → Bool
moves_by setup t e None = false
moves_by setup t e (Some call) = moves_well (state_after setup t) e.core call e.move

abbrev pub steps_well : Setting → Trace → Step → Bool
steps_well setup t e =
    moves_by setup t e (call_in (after_enter e.enters (phase t e.core)))
    && (marks_well (marked_by setup (e ∷ t) (word_of e.move)) (marked_by setup t (word_of e.move)) e.core
    && keeps_well (marked_by setup t (word_of e.move)) e.core (left_of e.move e.found == e.found))

module _ (setup : Setting) (t : Trace) (e : Step) (well : steps_well setup t e ≡ true)
    (alike : MarksAlike (last_left setup t) (state_after setup (e ∷ t)).frame (state_after setup t).frame) where
  abbrev own_call : Option Call
  own_call = call_in (after_enter e.enters (phase t e.core))

  marks : MarksOwn setup t e
  marks w d is = by (cases_word w (word_of e.move))
    where
      own_word : w ≡ word_of e.move → (marked_by setup t w ≡ Some d) ⊎ (e.core ≡ d)
      own_word here = subst (λ v. (marked_by setup t v ≡ Some d) ⊎ (e.core ≡ d)) (sym here)
          (marked_so (marked_by setup (e ∷ t) (word_of e.move)) (marked_by setup t (word_of e.move)) e.core d
          (and_parts _ _ (and_parts (moves_by setup t e own_call) _ well).1).0 (subst (λ v. marked_by setup (e ∷ t) v ≡ Some d) here is))

      by : (w ≡ word_of e.move) ⊎ (w ≢ word_of e.move) → (marked_by setup t w ≡ Some d) ⊎ ((e.core ≡ d) × (word_of e.move ≡ w))
      by (inl here) = elim (own_word here) [
        | inl was ↦ inl was
        | inr own ↦ inr (own, sym here)
      ]
      by (inr there) = inl (alike_marks (last_left setup t) (state_after setup (e ∷ t)) (state_after setup t) alike w d
          (ap (mark_of (state_after setup (e ∷ t)) w) (sym (last_left-there setup w e t there)) ∙ is))

  keeps : KeepsMarked setup t e
  keeps = kept_so (marked_by setup t (word_of e.move)) e.core (left_of e.move e.found) e.found
      (and_parts (marks_well (marked_by setup (e ∷ t) (word_of e.move)) (marked_by setup t (word_of e.move)) e.core) _
      (and_parts (moves_by setup t e own_call) _ well).1).1

  disciplined : IsDisciplined setup t e
  disciplined = by own_call refl (and_parts (moves_by setup t e own_call) _ well).0
    where
      by : (o : Option Call) → own_call ≡ o → moves_by setup t e o ≡ true → IsDisciplined setup t e
      by None is moves = absurd (false≢true moves)
      by (Some call) is moves = record {
        call = call;
        is_of = is;
        moves = moves_so (state_after setup t) e.core call e.move moves;
        marks = marks;
        keeps = keeps;
      }

-- A step that decides nothing leaves the frames.
entered_frames : (o : Option Call) (s : State) (c : ℕ) → (state_entered o s c).frame ≡ s.frame
entered_frames None s c = refl
entered_frames (Some call) s c = refl

returned_frames : (o : Option Reply) (s : State) (c : ℕ) → (state_returned o s c).frame ≡ s.frame
returned_frames None s c = refl
returned_frames (Some r) s c = refl

-- The state after a step that may decide so, before it may return.
abbrev decided_now : Setting → Trace → Step → Option Reply → State
decided_now setup t e o =
    state_decided o (after_enter e.enters (phase t e.core)) (state_entered e.enters (state_after setup t) e.core) e.core

plain_frames : (setup : Setting) (t : Trace) (e : Step) → e.decides ≡ None → (state_after setup (e ∷ t)).frame ≡ (state_after setup t).frame
plain_frames setup t e none =
    returned_frames e.returns (decided_now setup t e e.decides) e.core
    ∙ ap (λ o. (decided_now setup t e o).frame) none
    ∙ entered_frames e.enters (state_after setup t) e.core

-- The frames with others in place of some, and that these others carry no marks but those which the words carried.
abbrev pub with_frames : (ℕ → Frame) → List (ℕ × Frame) → ℕ → Frame
with_frames frames [] = frames
with_frames frames (p ∷ ps) = put (with_frames frames ps) p.0 p.1

abbrev pub KeepMarks : (Word → ℕ) → (ℕ → Frame) → List (ℕ × Frame) → Type 0
KeepMarks word before [] = Unit {0}
KeepMarks word before (p ∷ ps) = KeepMarks word before ps
    × ((i d : ℕ) → mark_in_frame p.1 i (word (EntryAt p.0 i)) ≡ Some d → mark_in_frame (before p.0) i (word (EntryAt p.0 i)) ≡ Some d)

alike_frames : (word : Word → ℕ) (before : ℕ → Frame) (ps : List (ℕ × Frame)) → KeepMarks word before ps
    → MarksAlike word (with_frames before ps) before
alike_frames word before [] keep = λ f i d is. is
alike_frames word before (p ∷ ps) keep =
    alike_put word (with_frames before ps) before p.0 p.1 (alike_frames word before ps keep.0) keep.1

-- A step that changes these frames.
pub disciplined_by : {setup : Setting} {t : Trace} {e : Step} (ps : List (ℕ × Frame)) → steps_well setup t e ≡ true
    → (state_after setup (e ∷ t)).frame ≡ with_frames (state_after setup t).frame ps
    → KeepMarks (last_left setup t) (state_after setup t).frame ps → IsDisciplined setup t e
disciplined_by {setup} {t} {e} ps well is keep =
    disciplined setup t e well (subst (λ frames. MarksAlike (last_left setup t) frames (state_after setup t).frame) (sym is)
    (alike_frames (last_left setup t) (state_after setup t).frame ps keep))

-- Whether the newest n steps decide nothing, and step well.
abbrev pub go_well : Setting → ℕ → Trace → Bool
go_well setup zero t = true
go_well setup (suc n) [] = true
go_well setup (suc n) (e ∷ t) = go_well setup n t && (not (is_some e.decides) && steps_well setup t e)

no_decision : (o : Option Reply) → not (is_some o) ≡ true → o ≡ None
no_decision None is = refl
no_decision (Some r) is = absurd (false≢true is)

pub go_disciplined : (setup : Setting) (n : ℕ) (t : Trace) → KeepsDiscipline setup (drop n t) → go_well setup n t ≡ true
    → KeepsDiscipline setup t
go_disciplined setup zero t rest well = rest
go_disciplined setup (suc n) [] rest well = tt
go_disciplined setup (suc n) (e ∷ t) rest well =
    let p = and_parts (go_well setup n t) _ well in
    let q = and_parts (not (is_some e.decides)) _ p.1 in (
      go_disciplined setup n t rest p.0,
      disciplined_by [] q.1 (plain_frames setup t e (no_decision e.decides q.0)) tt,
    )
