-- What the words of a core's own thread say, while the core has nothing to store there.
use Rattle.live_invariant.specs.kept_facts.proofs.{◌≡◌, ◌≢◌, ◌<◌, inl, inr, ℕ, false, Option, Some, None, refl, sym, ◌∙◌, ap, subst}
use Rattle.live_invariant.specs.kept_facts.proofs.{Setting, IsSetting, EntryAt, PlaceOf, State, thread_in, thread_of, stamp, Trace}
use Rattle.live_invariant.specs.kept_facts.proofs.{state_after, last_left, Core, settled_by, IsFrameWord, IsThreadWord, holds, held_by}
use Rattle.live_invariant.specs.kept_facts.proofs.{Invariant, none_kept, runs_on_own, exclusive_thread}
use Rattle.thread_invariant.proofs.{EntryMarks.thread_unmarked, OwnStack.own_thread}
use Rattle.{std.proofs.lemmas.Bool.cases_eq, live_invariant.specs.kept_facts.proofs.Exclusive.runs_no_tcap}

module _ (setup : Setting) (setting : IsSetting setup) (cores : ℕ → Core) (t : Trace) (stands : Invariant setup cores t) (c : ℕ)
    (here : c < setup.cores) (none : (f i : ℕ) → (holds (cores c)).bare f i ≡ None)
    (mine : (f i : ℕ) → (holds (cores c)).marks (EntryAt f i) ≡ false) where
  abbrev s : State
  s = state_after setup t

  abbrev thread : ℕ
  thread = ((state_after setup t).core c).thread

  -- no core keeps a word of it
  unkept : (i d : ℕ) → (held_by cores d).bare ((state_after setup t).core c).thread i ≡ None
  unkept i d = elim (cases_eq d c) [
    | inl own ↦ ap (λ (b : ℕ). (held_by cores b).bare ((state_after setup t).core c).thread i) own
        ∙ none ((state_after setup t).core c).thread i
    | inr other ↦ by other ((held_by cores d).bare ((state_after setup t).core c).thread i) refl
  ]
    where
      same_core : (x y : ℕ) → Some x ≡ Some y → x ≡ y
      same_core x y h = cc

      by : d ≢ c → (o : Option ℕ) → (held_by cores d).bare ((state_after setup t).core c).thread i ≡ o
          → (held_by cores d).bare ((state_after setup t).core c).thread i ≡ None
      by other None free = free
      by other (Some u) kept =
          let l = stands.exclusive d ((state_after setup t).core c).thread i u kept in
          let runs = runs_on_own setup setting cores t stands c here in
          let w = exclusive_thread setup t d thread i l (runs_no_tcap ((state_after setup t).frame thread) c runs) in
          absurd (other (same_core d c (sym (runs_on_own setup setting cores t stands d l.core)
          ∙ ap (λ (g : ℕ). (thread_in ((state_after setup t).frame g)).runs_on) w.thread ∙ runs)))

  pub thread_says : (i : ℕ) → IsThreadWord (thread_of s c) i (last_left setup t (EntryAt ((state_after setup t).core c).thread i))
  thread_says i =
      subst (λ x. IsFrameWord s.limits.frames x (s.place thread i) (stamp setup t (PlaceOf thread i)) i
      (last_left setup t (EntryAt thread i))) (own_thread setup setting t stands.legal c here)
      (subst (λ (n : ℕ). IsFrameWord s.limits.frames (s.frame thread) (s.place thread i)
      (stamp setup t (PlaceOf thread i)) i n)
      (none_kept 8 (held_by cores) thread i (last_left setup t (EntryAt thread i)) (unkept i))
      (subst (λ o. IsFrameWord s.limits.frames (s.frame thread) (s.place thread i) (stamp setup t (PlaceOf thread i)) i
      (settled_by o (held_by cores) (EntryAt thread i) (last_left setup t (EntryAt thread i))))
      (thread_unmarked setup setting cores t stands c here i (mine thread i))
      (stands.words (EntryAt thread i))))
