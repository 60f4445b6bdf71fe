-- No core waits for a liveness number that was never used: where its grace period begins, it dies, and it is never unused again.
use Rattle.scan_invariant.specs.step_ways.proofs.{◌≡◌, ◌<◌, ◌≤◌, inl, inr, arith, ℕ, true, false, ◌==◌, ◌||◌, if◌then◌else◌, List, [], ◌∷◌}
use Rattle.scan_invariant.specs.step_ways.proofs.{Option, Some, None, refl, sym, ◌∙◌, ap, subst, false≢true, ne_eqb, Setting, IsSetting}
use Rattle.scan_invariant.specs.step_ways.proofs.{Call, Value, Reply, Liveness, Unused, Live, Dead, State, NumberOf, put, thread_of, Holds}
use Rattle.scan_invariant.specs.step_ways.proofs.{same_thing, frame_names, place_names, Change, Judged, Refused, Found, IsFoundAnd}
use Rattle.scan_invariant.specs.step_ways.proofs.{frames_of, change_of, changed, state_by, begins, MayReply, put_same, state_is, run_of}
use Rattle.scan_invariant.specs.step_ways.proofs.{open_inj, events_of, IsLegal, MayFollow, MayDecide, begins_at, Trace, Step, Phase, Out}
use Rattle.scan_invariant.specs.step_ways.proofs.{Open, phase, after_enter, state_after, state_before, state_returned, state_decided, take}
use Rattle.scan_invariant.specs.step_ways.proofs.{Edit, does, begins_in as begins_then}
use Rattle.state_laws.specs.kernel_laws.proofs.{InRanges, begins_in, number_names, Untype, Deaden, Pop, edited, IfFound, Edits, found_by}
use Rattle.scan_invariant.specs.trace_laws.proofs.{GraceSteps.cases_bool, Waiting.waits_falls}
use Rattle.state_laws.specs.kernel_rules.specs.{Ranges.NumberInRange, Edits.Remove, Edits.Switch, Edits.begins_in as begins_edit}
use Rattle.{std.proofs.lemmas.Bool.cases_eq, std.specs.List.list_any, state_laws.specs.kernel_invariant.proofs.Edited.later_number}
use Rattle.{state_laws.specs.kernel_laws.proofs.RangesLaw.ranges_hold, scan_invariant.specs.kernel_history.specs.Trace.Decided}
use Rattle.{state_laws.proofs.Lives.IsPast, comp_invariant.proofs.LaterEvents.past_on}

-- A frame is no number.
frames_none : (l : ℕ) (fs : List ℕ) → list_any (same_thing (NumberOf l)) (frames_of fs) ≡ false
frames_none l [] = refl
frames_none l (f ∷ fs) = frames_none l fs

-- A number whose grace period a change begins is used.
abbrev Begun : State → Change → Type 0
Begun s change = (l : ℕ) → list_any (same_thing (NumberOf l)) change.begins ≡ true → IsPast 0 (change.next.number l)

no_thing : (A : Type 0) → false ≡ true → A
no_thing A is = absurd (false≢true is)

no_frame_thing : (A : Type 0) (l : ℕ) (fs : List ℕ) → list_any (same_thing (NumberOf l)) (frames_of fs) ≡ true → A
no_frame_thing A l fs is = absurd (false≢true (sym (frames_none l fs) ∙ is))

dies : (number : ℕ → Liveness) (n d l : ℕ) (fs : List ℕ) → (l == n || list_any (same_thing (NumberOf l)) (frames_of fs)) ≡ true
    → IsPast 0 (put number n (Dead d) l)
dies number n d l fs is = elim (cases_eq l n) [
  | inl same ↦ subst (IsPast 0) (sym (put_same number n (Dead d) l same)) (omega arith)
  | inr other ↦ no_frame_thing _ l fs (ap (λ b. b || list_any (same_thing (NumberOf l)) (frames_of fs)) (sym (ne_eqb l n other)) ∙ is)
]

edit_begun : (c : ℕ) (s : State) (e : Edit) (l : ℕ) → list_any (same_thing (NumberOf l)) (begins_edit c s e) ≡ true
    → IsPast 0 ((edited c s e).number l)
edit_begun c s (Remove at k) l is = no_frame_thing _ l (place_names (Holds k)) is
edit_begun c s (Untype f) l is = no_frame_thing _ l (frame_names (s.frame f)) is
edit_begun c s (Deaden n d) l is = dies s.number n d l (number_names (s.number n)) is
edit_begun c s Pop l is = no_frame_thing _ l (take 1 (thread_of s c).stack) is
edit_begun c s (Switch h q) l is =
    no_frame_thing _ l ((s.core c).thread ∷ (if q == (s.core c).tcap then [] else (s.core c).tcap ∷ [])) is
edit_begun c s _ l is = no_thing _ is

edits_begun : (s : State) (c : ℕ) (call : Call) (v : Value) (es : List Edit) → Edits call c s es → Begun s (does c s v es)
edits_begun s c call v [] e l is = no_thing _ is
edits_begun s c call v (x ∷ es) e l is =
    subst (λ (number : ℕ → Liveness). IsPast 0 (number l)) (sym (later_number c (edited c s x) es e.calm.2))
    (edit_begun c s x l (sym (ap (list_any (same_thing (NumberOf l))) e.calm.0) ∙ is))

found_begun : (s : State) (v : Value) (x : Judged Change) → IfFound x (Begun s) → IsFoundAnd x (λ k. k.value ≡ v) → (l : ℕ)
    → begins_in x (NumberOf l) ≡ true → IsPast 0 ((changed s x).number l)
found_begun s v (Refused r) by ok l is = absurd ok
found_begun s v (Found change) by ok l is = by l is

decided_begun : (s : State) (c : ℕ) (call : Call) (r : Reply) → MayReply s c call r → (l : ℕ) → begins s c call r (NumberOf l) ≡ true
    → IsPast 0 ((state_by s c call r).number l)
decided_begun s c call (Reply.Ok v) may l is =
    found_begun s v (change_of s c call) (found_by s c call (Begun s) (edits_begun s c call)) may.1.1 l is
decided_begun s c call _ may l is = absurd (false≢true is)

-- So it is after a step at which its grace period begins.
returned_number : (o : Option Reply) (s : State) (c l : ℕ) → (state_returned o s c).number l ≡ s.number l
returned_number None s c l = refl
returned_number (Some r) s c l = refl

begun_step : (setup : Setting) (t : Trace) (e : Step) → MayFollow setup t e → (l : ℕ) → begins_at setup t e (NumberOf l) ≡ true
    → IsPast 0 ((state_after setup (e ∷ t)).number l)
begun_step setup t e follows l is =
    subst (IsPast 0) (sym (returned_number e.returns
    (state_decided e.decides (after_enter e.enters (phase t e.core)) (state_before setup t e) e.core) e.core l))
    (by_phase e.decides (after_enter e.enters (phase t e.core)) follows.decides is)
  where
    by_phase : (o : Option Reply) (p : Phase) → MayDecide setup t e o p
        → begins_then o p (state_before setup t e) e.core (NumberOf l) ≡ true
        → IsPast 0 ((state_decided o p (state_before setup t e) e.core).number l)
    by_phase None p may h = absurd (false≢true h)
    by_phase (Some r) Out may h = absurd (false≢true h)
    by_phase (Some r) (Open call) may h = decided_begun (state_before setup t e) e.core call r
        (subst (λ k. MayReply (state_before setup t e) e.core k r) (open_inj may.call call may.is_open) may.permitted) l h
    by_phase (Some r) (Decided call q) may h = absurd (false≢true h)

-- A number that is unused was so before.
was_unused : (setup : Setting) → IsSetting setup → (t : Trace) (e : Step) → IsLegal setup (e ∷ t) → (l : ℕ)
    → (state_after setup (e ∷ t)).number l ≡ Unused → (state_after setup t).number l ≡ Unused
was_unused setup setting t e legal l unused = by ((state_after setup t).number l) refl
  where
    ranges : NumberInRange (state_after setup t).limits.epochs ((state_after setup t).number l)
    ranges = (subst InRanges (sym (state_is setup t)) (ranges_hold setup setting (events_of t) (run_of setup t legal.0))).numbers l

    used : IsPast 0 ((state_after setup t).number l) → ⊥
    used past = subst (IsPast 0) unused (past_on setup t e legal l 0 past)

    by : (p : Liveness) → (state_after setup t).number l ≡ p → (state_after setup t).number l ≡ Unused
    by Unused is = is
    by (Live d f) is = absurd (used (subst (IsPast 0) (sym is)
        (let low = (subst (NumberInRange (state_after setup t).limits.epochs) is ranges).least in omega (arith, low))))
    by (Dead d) is = absurd (used (subst (IsPast 0) (sym is) (omega arith)))

never_waited : (setup : Setting) → IsSetting setup → (t : Trace) → IsLegal setup t → (l d : ℕ) → (state_after setup t).number l ≡ Unused
    → ((state_after setup t).grace (NumberOf l)).waits d ≡ false
never_waited setup setting [] legal l d unused = refl
never_waited setup setting (e ∷ t) legal l d unused =
    waits_falls setup t e legal.1 (NumberOf l) d not_begun
    (never_waited setup setting t legal.0 l d (was_unused setup setting t e legal l unused))
  where
    not_begun : begins_at setup t e (NumberOf l) ≡ false
    not_begun = elim (cases_bool (begins_at setup t e (NumberOf l))) [
      | inl is ↦ absurd (subst (IsPast 0) unused (begun_step setup t e legal.1 l is))
      | inr not ↦ not
    ]

pub unused_waits : (setup : Setting) → IsSetting setup → (t : Trace) → IsLegal setup t → (l d : ℕ) → (state_after setup t).number l ≡ Unused
    → ((state_after setup t).grace (NumberOf l)).waits d ≡ true → ⊥
unused_waits setup setting t legal l d unused waits = false≢true (sym (never_waited setup setting t legal l d unused) ∙ waits)
