-- Steps that change no frame and no liveness number, and of the cores only what the own core counts and whether it is inside; and
-- steps at which no grace period begins or ends and nothing is flushed. A step that decides nothing is such, and so is a refusal and the
-- decision that fills a place; one that draws a stamp, or changes what a frame is, is not.
use Rattle.core_invariant.proofs.{◌≡◌, ◌≢◌, inl, inr, ℕ, zero, suc, ◌+◌, ◌<◌, ◌≤◌, ◌==◌, if◌then◌else◌, Bool, true, false, cond, ◌∷◌}
use Rattle.core_invariant.proofs.{None, arith, refl, sym, ◌∙◌, ap, eq-eqb, false≢true, Setting, Word, EntryAt, FrameAt}
use Rattle.core_invariant.proofs.{CoreAt, FlushAt, LiveAt, same_word, word_of, Thing, PlaceOf, NumberOf, State, put, thread_in}
use Rattle.core_invariant.proofs.{comp_in, first_of_stack, thread_of, comp_of, sum_below, counted, sum_one, put_same, put_other, Step}
use Rattle.core_invariant.proofs.{Trace, state_after, begins_at, ends_at, flushes_at, stamp, clock, exit_of, flush_of, flush_stored}
use Rattle.core_invariant.proofs.{stamp-kept, flush_of-own, flush_stored-own, flush_stored-other, KeepsTime, Own, WorksIn, times_of}
use Rattle.thread_laws.specs.kernel_history.proofs.{Core as CoreFields, exit_of-own, exit_of-other, flush_of-other}
use Rattle.thread_laws.specs.kernel_history.specs.{clock_seen, exit_after}
use Rattle.kernel_laws.specs.kernel_rules.specs.{entered, returned}
use Rattle.{core_invariant.proofs.counted_in, std.proofs.lemmas.Bool.cases_eq, kept_facts.proofs.WordFrames.SameFor}

-- A core that is or is not inside, and has counted so many calls; all else of it stays.
abbrev pub counts : CoreFields → Bool → ℕ → CoreFields
counts k inside counted = record k { inside = inside; counted = counted }

-- What a step of core c leaves of the state, the places and grace periods apart.
pub record IsCalm (s s' : State) (c : ℕ) : Type 0 where
  pub frame : (f : ℕ) → s'.frame f ≡ s.frame f
  pub number : (l : ℕ) → s'.number l ≡ s.number l
  pub limits : s'.limits ≡ s.limits
  pub others : (d : ℕ) → d ≢ c → s'.core d ≡ s.core d
  pub own : s'.core c ≡ counts (s.core c) (s'.core c).inside (s'.core c).counted
  pub more : (s.core c).counted ≤ (s'.core c).counted

pub calm_same : (s : State) (c : ℕ) → IsCalm s s c
calm_same s c = record { frame = λ f. refl; number = λ l. refl; limits = refl; others = λ d other. refl; own = refl; more = omega arith }

pub calm_core : (s s' : State) (c : ℕ) (k : CoreFields) → s'.core ≡ put s.core c k → ((f : ℕ) → s'.frame f ≡ s.frame f)
    → ((l : ℕ) → s'.number l ≡ s.number l)
    → s'.limits ≡ s.limits → k ≡ counts (s.core c) k.inside k.counted → (s.core c).counted ≤ k.counted → IsCalm s s' c
calm_core s s' c k core frame number limits own more =
    let at : s'.core c ≡ k = ap (λ f. f c) core ∙ put_same s.core c k c refl in
    let count : (s'.core c).counted ≡ k.counted = ap (λ j. j.counted) at in
    record {
      frame = frame;
      number = number;
      limits = limits;
      others = λ d other. ap (λ f. f d) core ∙ put_other s.core c k d other;
      own = at ∙ own ∙ ap (λ j. counts (s.core c) j.inside j.counted) (sym at);
      more = omega arith;
    }

pub calm_counted : (s : State) (c : ℕ) → IsCalm s (counted s c) c
calm_counted s c = calm_core s (counted s c) c _ refl (λ f. refl) (λ l. refl) refl refl (omega arith)

pub calm_entered : (s : State) (c : ℕ) → IsCalm s (entered s c) c
calm_entered s c = calm_core s (entered s c) c _ refl (λ f. refl) (λ l. refl) refl refl (omega arith)

pub calm_returned : (s : State) (c : ℕ) → IsCalm s (returned s c) c
calm_returned s c = calm_core s (returned s c) c _ refl (λ f. refl) (λ l. refl) refl refl (omega arith)

pub calm_then : (s s' s'' : State) (c : ℕ) → IsCalm s s' c → IsCalm s' s'' c → IsCalm s s'' c
calm_then s s' s'' c a b = record {
  frame = λ f. b.frame f ∙ a.frame f;
  number = λ l. b.number l ∙ a.number l;
  limits = b.limits ∙ a.limits;
  others = λ d other. b.others d other ∙ a.others d other;
  own = b.own ∙ ap (λ k. counts k (s''.core c).inside (s''.core c).counted) a.own;
  more = (let p = a.more in let q = b.more in omega arith);
}

-- where the own core works stays, but for what it has counted, where the step leaves its threads and components
-- A core works where it did, where its thread and its component are what they were.
pub same_works : (s s' : State) (c : ℕ) (core after : Own)
    → thread_in (s'.frame (s.core c).thread) ≡ thread_in (s.frame (s.core c).thread)
    → comp_in (s'.frame (first_of_stack (thread_of s c).stack)) ≡ comp_in (s.frame (first_of_stack (thread_of s c).stack))
    → s'.core c ≡ counts (s.core c) (s'.core c).inside (s'.core c).counted
    → after ≡ record core { made = (s'.core c).counted; exit = after.exit }
    → WorksIn core s c → WorksIn after s' c
same_works s s' c core after own_thread own_comp own same is =
    let thread : (s'.core c).thread ≡ (s.core c).thread = ap (λ k. k.thread) own in
    let whose : thread_of s' c ≡ thread_of s c = ap (λ (f : ℕ). thread_in (s'.frame f)) thread ∙ own_thread in
    let comp : comp_of s' c ≡ comp_of s c = ap (λ k. comp_in (s'.frame (first_of_stack k.stack))) whose ∙ own_comp in
    record {
      thread = ap (λ k. k.thread) same ∙ is.thread ∙ sym thread;
      depth = ap (λ k. k.depth) same ∙ is.depth ∙ ap (λ k. Rattle.std.proofs.Common.length k.stack) (sym whose);
      comp = ap (λ k. k.comp) same ∙ is.comp ∙ ap (λ k. first_of_stack k.stack) (sym whose);
      table = ap (λ k. k.table) same ∙ is.table ∙ ap (λ k. k.table) (sym comp);
      pages = ap (λ k. k.pages) same ∙ is.pages ∙ ap (λ k. k.pages) (sym comp);
      tcap = ap (λ k. k.tcap) same ∙ is.tcap ∙ ap (λ k. k.tcap) (sym own);
      cached = ap (λ k. k.cached) same ∙ is.cached ∙ ap (λ k. k.cached) (sym own);
      owed = ap (λ k. k.owed) same ∙ is.owed ∙ ap (λ k. k.owed) (sym own);
      spent = ap (λ k. k.spent) same ∙ is.spent ∙ ap (λ k. k.spent) (sym own);
      back = ap (λ k. k.back) same ∙ is.back ∙ ap (λ k. k.back) (sym own);
      grant = ap (λ k. k.grant) same ∙ is.grant ∙ ap (λ k. k.grant) (sym own);
      made = ap (λ k. k.made) same;
    }

pub own_works : (s s' : State) (c : ℕ) (core after : Own) → ((f : ℕ) → thread_in (s'.frame f) ≡ thread_in (s.frame f))
    → ((f : ℕ) → comp_in (s'.frame f) ≡ comp_in (s.frame f))
    → s'.core c ≡ counts (s.core c) (s'.core c).inside (s'.core c).counted
    → after ≡ record core { made = (s'.core c).counted; exit = after.exit }
    → WorksIn core s c → WorksIn after s' c
own_works s s' c core after threads comps =
    same_works s s' c core after (threads (s.core c).thread) (comps (first_of_stack (thread_of s c).stack))

pub calm_own : (s s' : State) (c : ℕ) (core after : Own) → IsCalm s s' c
    → after ≡ record core { made = (s'.core c).counted; exit = after.exit }
    → WorksIn core s c → WorksIn after s' c
calm_own s s' c core after calm same is =
    own_works s s' c core after (λ f. ap thread_in (calm.frame f)) (λ f. ap comp_in (calm.frame f)) calm.own same is

sum_rises : (f f' : ℕ → ℕ) (n : ℕ) → ((i : ℕ) → f i ≤ f' i) → sum_below f n ≤ sum_below f' n
unfolding sum_below
sum_rises f f' zero rises = omega arith
sum_rises f f' (suc n) rises = let a = sum_rises f f' n rises in let b = rises n in omega arith

calls_rise : (s s' : State) (c : ℕ) → IsCalm s s' c → (n : ℕ)
    → sum_below (λ d. (s.core d).counted) n ≤ sum_below (λ d. (s'.core d).counted) n
calls_rise s s' c calm n = sum_rises (λ d. (s.core d).counted) (λ d. (s'.core d).counted) n each
  where
    each : (d : ℕ) → (s.core d).counted ≤ (s'.core d).counted
    each d = elim (cases_eq d c) [
      | inl same ↦ (let a = calm.more in
          let b : (s.core d).counted ≡ (s.core c).counted = ap (λ (i : ℕ). (s.core i).counted) same in
          let g : (s'.core d).counted ≡ (s'.core c).counted = ap (λ (i : ℕ). (s'.core i).counted) same in
          omega arith)
      | inr other ↦ (let b : (s'.core d).counted ≡ (s.core d).counted = ap (λ k. k.counted) (calm.others d other) in omega arith)
    ]

-- the counted calls do not fall
pub counted_rises : (setup : Setting) (s s' : State) (c : ℕ) → IsCalm s s' c → counted_in setup s ≤ counted_in setup s'
counted_rises setup s s' c calm = calls_rise s s' c calm setup.cores

pub counted_grows : (setup : Setting) (s s' : State) (c : ℕ) → IsCalm s s' c → c < setup.cores
    → (s'.core c).counted ≡ (s.core c).counted + 1 → counted_in setup s + 1 ≤ counted_in setup s'
counted_grows setup s s' c calm below more =
    let a = sum_one (λ d. (s.core d).counted) (λ d. (s'.core d).counted) setup.cores c below
    (λ d other. ap (λ k. k.counted) (calm.others d other)) in omega arith

-- The flush that core d has stored after a step of core c, which is or is not on d's flush word.
abbrev pub stored_by : Trace → ℕ → ℕ → Bool → ℕ
stored_by t c d hit = if hit then (if d == c then flush_of t d else flush_stored t d) else flush_stored t d

-- A step on another word stores no flush.
pub none_stored : (t : Trace) (c d : ℕ) (hit : Bool) → hit ≡ false → stored_by t c d hit ≡ flush_stored t d
none_stored t c d hit not = ap (stored_by t c d) not

-- A step at which no grace period begins or ends, nothing is flushed, no flush is stored, and the clock stays.
pub record IsUntimed (setup : Setting) (t : Trace) (e : Step) : Type 0 where
  pub begins : (x : Thing) → begins_at setup t e x ≡ false
  pub ends : (x : Thing) → ends_at t e x ≡ false
  pub flushes : flushes_at t e ≡ false
  pub apart : (d : ℕ) → stored_by t e.core d (same_word (FlushAt d) (word_of e.move)) ≡ flush_stored t d
  pub same : clock setup (e ∷ t) ≡ clock setup t

-- A step at which no grace period begins, nothing is flushed, no flush is stored, and the clock stays; some may end.
pub record BeginsNone (setup : Setting) (t : Trace) (e : Step) : Type 0 where
  pub begins : (x : Thing) → begins_at setup t e x ≡ false
  pub flushes : flushes_at t e ≡ false
  pub apart : (d : ℕ) → stored_by t e.core d (same_word (FlushAt d) (word_of e.move)) ≡ flush_stored t d
  pub same : clock setup (e ∷ t) ≡ clock setup t

pub plain_begins : (setup : Setting) (t : Trace) (e : Step) → IsUntimed setup t e → BeginsNone setup t e
plain_begins setup t e plain = record { begins = plain.begins; flushes = plain.flushes; apart = plain.apart; same = plain.same }

pub none_time : (setup : Setting) (t : Trace) (e : Step) → BeginsNone setup t e → KeepsTime setup t e
none_time setup t e none = record {
  rises = (let a = none.same in omega arith);
  draws = λ x is. absurd (false≢true (sym (none.begins x) ∙ is));
  flushes = λ is. absurd (false≢true (sym none.flushes ∙ is));
}

pub plain_time : (setup : Setting) (t : Trace) (e : Step) → IsUntimed setup t e → KeepsTime setup t e
plain_time setup t e plain = none_time setup t e (plain_begins setup t e plain)

pub plain_stamp : (setup : Setting) (t : Trace) (e : Step) → IsUntimed setup t e → (x : Thing) → stamp setup (e ∷ t) x ≡ stamp setup t x
plain_stamp setup t e plain x = stamp-kept setup e t x (plain.begins x) (plain.ends x)

pub none_flush : (setup : Setting) (t : Trace) (e : Step) → BeginsNone setup t e → (d : ℕ) → flush_stored (e ∷ t) d ≡ flush_stored t d
none_flush setup t e none d = elim (cases_eq d e.core) [
  | inl own ↦ flush_stored-own d e t own ∙ by (same_word (FlushAt d) (word_of e.move)) own (none.apart d)
  | inr other ↦ flush_stored-other d e t other
]
  where
    by : (hit : Bool) → d ≡ e.core → stored_by t e.core d hit ≡ flush_stored t d
        → cond hit (flush_of t d) (flush_stored t d) ≡ flush_stored t d
    by true own is = sym (ap (λ b. if b then flush_of t d else flush_stored t d) (eq-eqb d e.core own)) ∙ is
    by false own is = refl

pub plain_flush : (setup : Setting) (t : Trace) (e : Step) → IsUntimed setup t e → (d : ℕ) → flush_stored (e ∷ t) d ≡ flush_stored t d
plain_flush setup t e plain d = none_flush setup t e (plain_begins setup t e plain) d

-- a core's last flush stays stored
pub none_flushed : (setup : Setting) (t : Trace) (e : Step) → BeginsNone setup t e → (d : ℕ) → flush_stored t d ≡ flush_of t d
    → flush_stored (e ∷ t) d ≡ flush_of (e ∷ t) d
none_flushed setup t e none d is = elim (cases_eq d e.core) [
  | inl own ↦ none_flush setup t e none d ∙ is ∙ sym (flush_of-own d e t own ∙ ap (λ b. cond b e.found (flush_of t d)) none.flushes)
  | inr other ↦ none_flush setup t e none d ∙ is ∙ sym (flush_of-other d e t other)
]

pub plain_flushed : (setup : Setting) (t : Trace) (e : Step) → IsUntimed setup t e → (d : ℕ) → flush_stored t d ≡ flush_of t d
    → flush_stored (e ∷ t) d ≡ flush_of (e ∷ t) d
plain_flushed setup t e plain d is = none_flushed setup t e (plain_begins setup t e plain) d is

pub plain_exit : (t : Trace) (e : Step) → e.returns ≡ None → (d : ℕ) → exit_of (e ∷ t) d ≡ exit_of t d
plain_exit t e none d = elim (cases_eq d e.core) [
  | inl own ↦ exit_of-own d e t own ∙ ap (λ o. exit_after o (clock_seen t d) (exit_of t d)) none
  | inr other ↦ exit_of-other d e t other
]

-- what is said of words stays: of all but the own core's word, if the places do
pub calm_words : (setup : Setting) (t : Trace) (e : Step) → IsCalm (state_after setup t) (state_after setup (e ∷ t)) e.core
    → IsUntimed setup t e
    → (w : Word) → ((f i : ℕ) → w ≡ EntryAt f i → (state_after setup (e ∷ t)).place f i ≡ (state_after setup t).place f i)
    → ((d : ℕ) → w ≡ CoreAt d
    → ((((state_after setup (e ∷ t)).core d).inside ≡ ((state_after setup t).core d).inside) × (exit_of (e ∷ t) d ≡ exit_of t d)))
    → SameFor (state_after setup t) (state_after setup (e ∷ t)) (times_of setup t) (times_of setup (e ∷ t)) w
calm_words setup t e calm plain (EntryAt f i) place inside = record {
  frames = ap (λ l. l.frames) calm.limits;
  frame = calm.frame f;
  place = place f i refl;
  stamp = plain_stamp setup t e plain (PlaceOf f i);
}
calm_words setup t e calm plain (FrameAt f) place inside = calm.frame f
calm_words setup t e calm plain (CoreAt c) place inside = record { inside = (inside c refl).0; exit = (inside c refl).1 }
calm_words setup t e calm plain (FlushAt c) place inside = plain_flush setup t e plain c
calm_words setup t e calm plain (LiveAt l) place inside =
    record { number = calm.number l; stamp = plain_stamp setup t e plain (NumberOf l) }
calm_words setup t e calm plain _ place inside = tt
