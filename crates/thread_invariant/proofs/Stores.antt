-- A store of a word of its thread that a core keeps without a mark, after its call is decided: the word settles to what is stored, and the
-- core keeps it no longer.
use Rattle.live_invariant.specs.step_ways.proofs as low
use low.{◌≡◌, ◌≢◌, inl, inr, ℕ, ◌≤◌, ◌^◌, ◌<◌, ◌==◌, ◌||◌, true, false, if◌then◌else◌, List, [], ◌∷◌, ◌++◌, length, Option, Some, None}
use low.{IsTrue, arith, refl, sym, ◌∙◌, ap, subst, eq-eqb, Setting, IsSetting, Reply, Word, EntryAt, Move, StoreOf, ThreadFields, Frame}
use low.{Untyped, User, Kernel, Blank, Table, Leaf, Pages, Pleaf, Comp, Thread, Tcap, State, thread_in, thread_of, comp_of, put, put_same}
use low.{put_other, changes_threads, changes_in_frame, is_one_of, frames_own, footprint_frames, mark_in_frame, Step, Trace, state_after}
use low.{last_left, Acquired, Tail, Decided, ActiveCall, GoesOn, went_with, Core, Holding, holds_counts, settled_by, phase_at, KnowsTail}
use low.{done_by, holds_tail, holds_at, holds_in, holds, held_by, Invariant, AsBefore, none_kept, counts_on, Spared, core_in_call, inner}
use low.{call_is, GoodTook}
use Rattle.live_invariant.specs.core_invariant.specs.{IsExclusive, IsOfThread}
use Rattle.live_invariant.specs.kept_facts.proofs.Exclusive.{exclusive_unmarked, one_keeper, own_value}
use Rattle.{std.proofs.lemmas.Bool.cases_eq, live_invariant.specs.plan_ways.proofs.InFootprint.one_left}
use Rattle.live_invariant.specs.step_ways.proofs.Counting as counters

none_some : (d : ℕ) → None ≡ Some d → ⊥
none_some d h = cc

-- A frame whose thread has a stack has a thread.
thread_is : (x : Frame) → 1 ≤ length (thread_in x).stack → x ≡ Kernel (Thread (thread_in x))
thread_is Untyped some = absurd (omega (arith, some))
thread_is User some = absurd (omega (arith, some))
thread_is (Kernel Blank) some = absurd (omega (arith, some))
thread_is (Kernel Table) some = absurd (omega (arith, some))
thread_is (Kernel Leaf) some = absurd (omega (arith, some))
thread_is (Kernel Pages) some = absurd (omega (arith, some))
thread_is (Kernel Pleaf) some = absurd (omega (arith, some))
thread_is (Kernel (Comp k)) some = absurd (omega (arith, some))
thread_is (Kernel (Thread k)) some = refl
thread_is (Kernel (Tcap q)) some = absurd (omega (arith, some))

-- No entry is a count.
counts_apart : (fate : Option (Option ℕ)) (xs : List Acquired) (f i : ℕ)
    → (holds_counts fate xs).marks (EntryAt f i) ≡ false
counts_apart fate [] f i = refl
counts_apart fate (x ∷ xs) f i = counts_apart fate xs f i

module _ (setup : Setting) (setting : IsSetting setup) (cores : ℕ → Core) (t : Trace) (stands : Invariant setup cores t) (c : ℕ)
    (here : c < setup.cores)
    (a : ActiveCall) (active : (cores c).active ≡ Some a) (r : Reply) (drawn : Option ℕ) (tail left : Tail)
    (stage_is : a.stage ≡ Decided r drawn tail) (f i v : ℕ)
    (threads : changes_threads a.call ≡ true) (small : v < 2 ^ 64)
    (plain : (k : ThreadFields) → mark_in_frame (Kernel (Thread k)) i v ≡ None) where
  abbrev rest : Holding
  rest = holds_counts (done_by r drawn) a.counts

  abbrev s : State
  s = state_after setup t

  abbrev at : Word
  at = EntryAt f i

  abbrev was : ℕ
  was = last_left setup t at

  abbrev store : Move
  store = StoreOf at v

  abbrev e : Step
  e = inner setup setting cores t stands c here a active store None None

  abbrev next : ActiveCall
  next = went_with a a.counts (Decided r drawn left)

  abbrev after : Core
  after = core_in_call (cores c) (cores c).own.made next

  was_held : holds (cores c) ≡ holds_tail tail rest
  was_held = ap holds_in active ∙ ap (λ stage. holds_at stage a.counts) stage_is

  module _ (kept : (holds_tail tail rest).bare f i ≡ Some v)
      (before : (w : Word) → ((holds_tail tail rest).marks w ≡ rest.marks w) × ((holds_tail tail rest).stands w ≡ rest.stands w))
      (later : (w : Word) → ((holds_tail left rest).marks w ≡ rest.marks w) × ((holds_tail left rest).stands w ≡ rest.stands w))
      (bares : AsBefore (holds_tail tail rest) (holds_tail left rest) (EntryAt f i)) where
    is_kept : (held_by cores c).bare f i ≡ Some v
    is_kept = ap (λ h. h.bare f i) was_held ∙ kept

    exclusive : IsExclusive setup t c f i
    exclusive = stands.exclusive c f i v is_kept

    of_thread : IsOfThread setup t c f i
    of_thread = exclusive_unmarked setup cores t stands c f i exclusive
        (ap (λ h. h.marks (EntryAt f 0)) was_held ∙ (before (EntryAt f 0)).0 ∙ counts_apart (done_by r drawn) a.counts f 0)

    frame_is : s.frame f ≡ Kernel (Thread (thread_in (s.frame f)))
    frame_is = thread_is (s.frame f) (subst (λ (g : ℕ). 1 ≤ length (thread_in (s.frame g)).stack) of_thread.thread of_thread.stack)

    others : (d : ℕ) → d ≢ c → (held_by cores d).bare f i ≡ None
    others d other = by ((held_by cores d).bare f i) refl
      where
        by : (o : Option ℕ) → (held_by cores d).bare f i ≡ o → (held_by cores d).bare f i ≡ None
        by None none = none
        by (Some u) some = absurd (other (one_keeper setup setting cores t stands f i d c u v some is_kept))

    none_after : (d : ℕ) → (held_by (put cores c after) d).bare f i ≡ None
    none_after d = elim (cases_eq d c) [
      | inl own ↦ ap (λ k. (holds k).bare f i) (put_same cores c after d own) ∙ bares.here f i refl
      | inr other ↦ ap (λ k. (holds k).bare f i) (put_other cores c after d other) ∙ others d other
    ]

    no_mark : (holds after).marks at ≡ false
    no_mark = (later at).0 ∙ counts_apart (done_by r drawn) a.counts f i

    footprint : is_one_of f (footprint_frames s c a.call) ≡ true
    footprint = one_left f (frames_own s c) _ (ap (λ b. b || is_one_of f ((s.core c).tcap ∷ ((thread_of s c).stack ++
        ((comp_of s c).table ∷ (comp_of s c).pages ∷ [])))) (eq-eqb (s.core c).thread f of_thread.thread))

    same_frame : (g j : ℕ) → EntryAt f i ≡ EntryAt g j → f ≡ g
    same_frame g j h = cc

    same_index : (g j : ℕ) → EntryAt f i ≡ EntryAt g j → i ≡ j
    same_index g j h = cc

    pub stack_good : ((u : Trace) → KnowsTail setup u c a.call a.counts left)
        → GoodTook setup cores t c store (GoesOn (went_with a a.counts (Decided r drawn left)))
    stack_good knows lands =
        counters.holds_on setup setting cores t stands c here a active store next (λ b. refl) (λ h. cc) refl
        (record {
          moves = subst (λ x. IsTrue (changes_in_frame a.call x)) (sym frame_is) threads;
          footprint = inl footprint;
        }) lands small
        (λ w there. (
          (later w).0 ∙ sym (ap (λ h. h.marks w) was_held ∙ (before w).0),
          (later w).1 ∙ sym (ap (λ h. h.stands w) was_held ∙ (before w).1),
        ))
        (subst (λ h. AsBefore h (holds after) at) (sym was_held) bares)
        (ap (λ x. mark_in_frame x i v) frame_is ∙ plain (thread_in (s.frame f)) ∙ sym (ap (λ b. if b then Some c else None) no_mark))
        (λ b other is. none_some b (sym exclusive.unmarked ∙ is))
        (ap (λ b. settled_by (if b then Some c else None) (held_by (put cores c after)) at v) no_mark
        ∙ none_kept 8 (held_by (put cores c after)) f i v none_after
        ∙ sym (ap (λ o. settled_by o (held_by cores) at was) exclusive.unmarked
        ∙ own_value setup setting cores t stands c f i v was is_kept))
        (ap (phase_at a.call) stage_is)
        (λ carries. knows (e ∷ t))
        (counts_on setup t e c a.call (λ own. refl) a.counts (call_is setup setting cores t stands c here a active).counts)
        (call_is setup setting cores t stands c here a active).apart
        (λ g j here_is. subst (λ (n : ℕ). Spared setup t e n j (s.frame n)) (same_frame g j here_is)
        (subst (Spared setup t e f j) (sym frame_is) tt))
        (λ d g j u other is here_is. absurd (none_some u (sym (others d other)
        ∙ ap (λ (n : ℕ). (held_by cores d).bare n i) (same_frame g j here_is)
        ∙ ap (λ (n : ℕ). (held_by cores d).bare g n) (same_index g j here_is) ∙ is)))
