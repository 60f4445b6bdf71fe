-- What the first word of a thread shows where it carries no mark, who may keep it, and what the words of a claimed thread show.
use Rattle.thread_invariant.specs as low
use low.kept_facts.proofs.{◌≡◌, ◌≢◌, ◌<◌, ◌≤◌, inl, inr, ℕ, List, [], ◌∷◌, length, Option, Some, None, IsTrue, arith, refl, sym, ◌∙◌, ap}
use low.kept_facts.proofs.{subst, false≢true, Setting, IsSetting, thread_of_word, Idle, EntryAt, ThreadFields, Thread, Kernel, PlaceOf}
use low.kept_facts.proofs.{State, first_of_stack, thread_in, fits, frame_names, refs, times, IsObjectGood, IsSound, opened, events_of}
use low.kept_facts.proofs.{IsLegal, marked_by, thread_value, stamp, Trace, state_after, last_left, sound_of, Core, HasComp, settled_by}
use low.kept_facts.proofs.{held_by, Invariant, IsFrameWord, IsThreadWord, none_kept, runs_on_own, exclusive_thread, is_tcap, Kind}
use low.{core_invariant.specs.IsOfThread, core_invariant.specs.SaysRunning, kept_facts.specs.kernel_laws.proofs.IsStack}
use low.{kept_facts.specs.kernel_laws.proofs.times_first, found_stays.proofs.Stays.object_named}
use Rattle.{std.proofs.lemmas.Bool.cases_eq, switch_invariant.proofs.ThreadWords.same_some, switch_invariant.proofs.ThreadWords.thread_is}

-- What the first word of a thread shows, by the core on which it runs.
abbrev pub ShowsRun : Option ℕ → ℕ → ℕ → Type 0
ShowsRun None depth word = thread_of_word word ≡ Some (Idle depth)
ShowsRun (Some d) depth word = SaysRunning d word

module _ (setup : Setting) (setting : IsSetting setup) (cores : ℕ → Core) (t : Trace) (stands : Invariant setup cores t) (f : ℕ)
    (thread : IsTrue (fits Kind.Thread ((state_after setup t).frame f))) where
  abbrev s : State
  s = state_after setup t

  abbrev fields : ThreadFields
  fields = thread_in ((state_after setup t).frame f)

  pub frame_is : (state_after setup t).frame f ≡ Kernel (Thread (thread_in ((state_after setup t).frame f)))
  frame_is = thread_is (s.frame f) thread

  -- a word that carries no mark, and that no core keeps, says what the thread is
  pub plain_says : (i : ℕ) → marked_by setup t (EntryAt f i) ≡ None → ((d : ℕ) → (held_by cores d).bare f i ≡ None)
      → IsThreadWord (thread_in ((state_after setup t).frame f)) i (last_left setup t (EntryAt f i))
  plain_says i bare none =
      subst (λ x. IsFrameWord s.limits.frames x (s.place f i)
      (stamp setup t (PlaceOf f i)) i (last_left setup t (EntryAt f i)))
      frame_is
      (subst (λ (n : ℕ). IsFrameWord s.limits.frames (s.frame f) (s.place f i) (stamp setup t (PlaceOf f i)) i n)
      (none_kept 8 (held_by cores) f i (last_left setup t (EntryAt f i)) none)
      (subst (λ o. IsFrameWord s.limits.frames (s.frame f) (s.place f i) (stamp setup t (PlaceOf f i)) i
      (settled_by o (held_by cores) (EntryAt f i) (last_left setup t (EntryAt f i)))) bare (stands.words (EntryAt f i))))

  -- one that a core has marked says it of what it stands for
  pub marked_says : (i d : ℕ) → marked_by setup t (EntryAt f i) ≡ Some d
      → IsThreadWord (thread_in ((state_after setup t).frame f)) i ((held_by cores d).stands (EntryAt f i))
  marked_says i d mark =
      subst (λ x. IsFrameWord s.limits.frames x (s.place f i) (stamp setup t (PlaceOf f i)) i
      ((held_by cores d).stands (EntryAt f i))) frame_is
      (subst (λ o. IsFrameWord s.limits.frames (s.frame f) (s.place f i) (stamp setup t (PlaceOf f i)) i
      (settled_by o (held_by cores) (EntryAt f i) (last_left setup t (EntryAt f i)))) mark (stands.words (EntryAt f i)))

  kept_of_thread : (d i v : ℕ) → (held_by cores d).bare f i ≡ Some v → IsOfThread setup t d f i
  kept_of_thread d i v is = exclusive_thread setup t d f i (stands.exclusive d f i v is) (λ tcap. false≢true (ap is_tcap (sym frame_is)
      ∙ tcap))

  -- a core that keeps a word of it runs it
  keeper_runs : (d i v : ℕ) → (held_by cores d).bare f i ≡ Some v → (thread_in ((state_after setup t).frame f)).runs_on ≡ Some d
  keeper_runs d i v is =
      ap (λ (g : ℕ). (thread_in (s.frame g)).runs_on) (sym (kept_of_thread d i v is).thread)
      ∙ runs_on_own setup setting cores t stands d (stands.exclusive d f i v is).core

  -- so none keeps a word of one that runs on none, or on another core
  pub no_keeper : (d i : ℕ) → (thread_in ((state_after setup t).frame f)).runs_on ≢ Some d → (held_by cores d).bare f i ≡ None
  no_keeper d i not = by ((held_by cores d).bare f i) refl
    where
      by : (o : Option ℕ) → (held_by cores d).bare f i ≡ o → (held_by cores d).bare f i ≡ None
      by None is = is
      by (Some v) is = absurd (not (keeper_runs d i v is))

  pub idle_unkept : (thread_in ((state_after setup t).frame f)).runs_on ≡ None → (i d : ℕ) → (held_by cores d).bare f i ≡ None
  idle_unkept none i d = no_keeper d i (λ is. not_some d (sym none ∙ is))
    where
      not_some : (d : ℕ) → None ≡ Some d → ⊥
      not_some d h = cc

  -- the first word of a thread that no core has marked shows where it runs
  pub shows : (o : Option ℕ) → (thread_in ((state_after setup t).frame f)).runs_on ≡ o → marked_by setup t (EntryAt f 0) ≡ None
      → ShowsRun o (length (thread_in ((state_after setup t).frame f)).stack) (last_left setup t (EntryAt f 0))
  shows None so bare = plain_says 0 bare (idle_unkept so 0) ∙ ap (λ r. Some (thread_value r (length fields.stack))) so
  shows (Some d) so bare = by ((held_by cores d).bare f 0) refl
    where
      by : (o : Option ℕ) → (held_by cores d).bare f 0 ≡ o → SaysRunning d (last_left setup t (EntryAt f 0))
      by (Some v) is = (kept_of_thread d 0 v is).says refl
      by None is = record {
        depth = length fields.stack;
        says = plain_says 0 bare none ∙ ap (λ r. Some (thread_value r (length fields.stack))) so;
      }
        where
          none : (b : ℕ) → (held_by cores b).bare f 0 ≡ None
          none b = elim (cases_eq b d) [
            | inl same ↦ ap (λ (n : ℕ). (held_by cores n).bare f 0) same ∙ is
            | inr other ↦ no_keeper b 0 (λ runs. other (same_some b d (sym runs ∙ so)))
          ]

-- The component at the top of a thread's stack is there, and the thread names it.
pub top_comp : (setup : Setting) → IsSetting setup → (t : Trace) → IsLegal setup t → (c f : ℕ)
    → IsTrue (fits Kind.Thread ((state_after setup t).frame f)) → 1 ≤ length (thread_in ((state_after setup t).frame f)).stack
    → HasComp (state_after setup t) c (first_of_stack (thread_in ((state_after setup t).frame f)).stack)
top_comp setup setting t legal c f thread = by (thread_in (s.frame f)).stack comps named
  where
    s : State
    s = state_after setup t

    sound : IsSound s (opened (events_of t))
    sound = sound_of setup setting t legal

    is : s.frame f ≡ Kernel (Thread (thread_in (s.frame f)))
    is = thread_is (s.frame f) thread

    comps : IsStack s (thread_in (s.frame f)).stack
    comps = subst (IsObjectGood s) is (sound.objects f)

    named : (g : ℕ) → 1 ≤ times g (thread_in (s.frame f)).stack → 0 < refs s g
    named g some = object_named s (opened (events_of t)) f g sound (subst (λ fs. 1 ≤ times g fs) (sym (ap frame_names is)) some)

    by : (fs : List ℕ) → IsStack s fs → ((g : ℕ) → 1 ≤ times g fs → 0 < refs s g) → 1 ≤ length fs → HasComp s c (first_of_stack fs)
    by [] good names some = absurd (omega (arith, some))
    by (g ∷ gs) good names some = record { comp = good.0; guarded = inl (names g (let p = times_first g gs in omega (arith, p))) }
