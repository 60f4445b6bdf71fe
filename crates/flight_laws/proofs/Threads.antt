-- No thread is the current one of two cores, and what the words of threads show is so.
use Rattle.time_laws.specs as low
use low.step_ways.proofs.{◌≡◌, ◌<◌, ℕ, length, Bool, true, false, Option, Some, None, IsTrue, refl, sym, ◌∙◌, ap, subst, Setting, IsSetting}
use low.step_ways.proofs.{thread_of_word, Idle, Running, EntryAt, State, thread_in, fits, marked_by, thread_mark, Trace, state_after}
use low.step_ways.proofs.{last_left, Core, holds, Invariant, runs_on_own, marker_inside, limits_of, state_is, run_of, events_of, Kind}
use low.switch_invariant.proofs.ThreadWords.{first_mark, none_some, same_some, same_value}
use low.history_laws.specs.Threads.{IsShown, ThreadsRunApart, ThreadWordsSay}
use low.{flight.specs.cores_after, flight.specs.IsMade, kernel_history.specs.ThreadWord, kernel_history.specs.Claimed}
use low.{state_laws.proofs.Threads.threads_run, switch_invariant.proofs.Words.ShowsRun, switch_invariant.proofs.Words.shows}
use low.{thread_invariant.proofs.EntryMarks.thread_unmarked, flight.proofs.Made.made_stands}

pub threads_apart : (setup : Setting) → IsSetting setup → (t : Trace) → IsMade setup t → ThreadsRunApart setup t
threads_apart setup setting t made c d c_below d_below same =
    let stands : Invariant setup (cores_after setup t) t = made_stands setup setting t made in
    same_some c d (sym (runs_on_own setup setting (cores_after setup t) t stands c c_below)
    ∙ ap (λ (g : ℕ). (thread_in ((state_after setup t).frame g)).runs_on) same
    ∙ runs_on_own setup setting (cores_after setup t) t stands d d_below)

module _ (setup : Setting) (setting : IsSetting setup) (cores : ℕ → Core) (t : Trace) (stands : Invariant setup cores t) (f : ℕ)
    (thread : IsTrue (fits Kind.Thread ((state_after setup t).frame f))) where
  abbrev s : State
  s = state_after setup t

  mark_is : (v : ThreadWord) → thread_of_word (last_left setup t (EntryAt f 0)) ≡ Some v
      → marked_by setup t (EntryAt f 0) ≡ thread_mark (Some v)
  mark_is v says = first_mark (s.frame f) (last_left setup t (EntryAt f 0)) thread ∙ ap thread_mark says

  runs_of : (c : ℕ) → c < setup.cores → (s.core c).thread ≡ f → (thread_in (s.frame f)).runs_on ≡ Some c
  runs_of c below same = ap (λ (g : ℕ). (thread_in (s.frame g)).runs_on) (sym same) ∙ runs_on_own setup setting cores t stands c below

  -- a thread that runs on a core is that core's
  runs_back : (d : ℕ) → (thread_in (s.frame f)).runs_on ≡ Some d → (d < setup.cores) × ((s.core d).thread ≡ f)
  runs_back d runs =
      let back = (threads_run setup setting (events_of t) (run_of setup t stands.legal) f d).current
      (ap (λ (y : State). (thread_in (y.frame f)).runs_on) (sym (state_is setup t)) ∙ runs) in (
        subst (λ (n : ℕ). d < n)
            (ap (λ (y : State). y.limits.cores) (sym (state_is setup t)) ∙ ap (λ l. l.cores) (limits_of setup t)) back.0,
        ap (λ (y : State). (y.core d).thread) (state_is setup t) ∙ back.1,
      )

  shown : (v : ThreadWord) → thread_of_word (last_left setup t (EntryAt f 0)) ≡ Some v → IsShown setup t f v
  shown (Idle depth) says = λ c below same. by (thread_in (s.frame f)).runs_on refl
      (shows setup setting cores t stands f thread (thread_in (s.frame f)).runs_on refl (mark_is (Idle depth) says))
      c (runs_of c below same)
    where
      by : (o : Option ℕ) → (thread_in (s.frame f)).runs_on ≡ o
          → ShowsRun o (length (thread_in (s.frame f)).stack) (last_left setup t (EntryAt f 0)) → (c : ℕ)
          → (thread_in (s.frame f)).runs_on ≡ Some c → ⊥
      by None so shown c runs = none_some c (sym so ∙ runs)
      by (Some d) so shown c runs = unlike d shown.depth (same_value (Running d shown.depth) (Idle depth) (sym shown.says ∙ says))
        where
          unlike : (d n : ℕ) → Running d n ≡ Idle depth → ⊥
          unlike d n h = cc
  shown (Running d depth) says = runs_back d (by (thread_in (s.frame f)).runs_on refl
      (shows setup setting cores t stands f thread (thread_in (s.frame f)).runs_on refl (mark_is (Running d depth) says)))
    where
      by : (o : Option ℕ) → (thread_in (s.frame f)).runs_on ≡ o
          → ShowsRun o (length (thread_in (s.frame f)).stack) (last_left setup t (EntryAt f 0)) → (thread_in (s.frame f)).runs_on ≡ Some d
      by None so shown = absurd (unlike (length (thread_in (s.frame f)).stack) (same_value _ _ (sym shown ∙ says)))
        where
          unlike : (n : ℕ) → Idle n ≡ Running d depth → ⊥
          unlike n h = cc
      by (Some b) so shown = so ∙ ap (λ (n : ℕ). Some n) (same b shown.depth (same_value _ _ (sym shown.says ∙ says)))
        where
          same : (b n : ℕ) → Running b n ≡ Running d depth → b ≡ d
          same b n h = cc
  shown (Claimed d depth) says = (
    marker_inside setup cores t stands (EntryAt f 0) d (mark_is (Claimed d depth) says),
    λ c below same. by c below
        (subst (λ (g : ℕ). marked_by setup t (EntryAt g 0) ≡ Some d) (sym same) (mark_is (Claimed d depth) says))
        ((holds (cores c)).marks (EntryAt (s.core c).thread 0)) refl,
  )
    where
      by : (c : ℕ) → c < setup.cores → marked_by setup t (EntryAt (s.core c).thread 0) ≡ Some d → (b : Bool)
          → (holds (cores c)).marks (EntryAt (s.core c).thread 0) ≡ b → c ≡ d
      by c below mark true mine = same_some c d (sym ((stands.marks (EntryAt (s.core c).thread 0) c).kept mine) ∙ mark)
      by c below mark false mine = absurd (none_some d (sym (thread_unmarked setup setting cores t stands c below 0 mine) ∙ mark))

pub words_say : (setup : Setting) → IsSetting setup → (t : Trace) → IsMade setup t → ThreadWordsSay setup t
words_say setup setting t made f thread v says =
    shown setup setting (cores_after setup t) t (made_stands setup setting t made) f thread v says
