-- Grace periods go with stamps: after each step that keeps time and leaves by the rule.
use Rattle.boot_words.specs.kernel_history.proofs.{◌≡◌, ◌≢◌, ◌⊎◌, inl, inr, ℕ, ◌<◌, ◌≤◌, arith, Bool, true, false, cond, refl, sym, ◌∙◌, ap}
use Rattle.boot_words.specs.kernel_history.proofs.{subst, [], ◌∷◌, Option, Some, None, false≢true, Call, Reply, Setting, FlushAt, same_word}
use Rattle.boot_words.specs.kernel_history.proofs.{word_of, Grace, Thing, State, new_grace, MayReply, put_same, put_other, Step, Phase, Out}
use Rattle.boot_words.specs.kernel_history.proofs.{Decided, phase, after_enter, state_after, state_entered, state_decided, state_returned}
use Rattle.boot_words.specs.kernel_history.proofs.{state_before, begins_in, ends_in, flushes_in, begins_at, ends_at, flushes_at, stamp}
use Rattle.boot_words.specs.kernel_history.proofs.{awaits_flushes, clock, exit_of, flush_of, flush_stored, MayDecide, MayFollow}
use Rattle.boot_words.specs.kernel_history.proofs.{stamp-begins, stamp-ends, stamp-kept, exit_of-own, exit_of-other, flush_of-own}
use Rattle.boot_words.specs.kernel_history.proofs.{flush_of-other, flush_stored-own, flush_stored-other, decided-inside, entered-inside}
use Rattle.boot_words.specs.kernel_history.proofs.{GraceIs, KeepsTime}
use Rattle.boot_words.specs.kernel_history.specs.{no_grace, clock_seen, exit_after, IsLeave}
use Rattle.found_stays.specs.kernel_rules.specs.{needs_flush, passed}
use Rattle.found_stays.specs.kernel_invariant.proofs.{flushed_by, grace_is}
use Rattle.boot_words.specs.kernel_history.specs.{Trace.Trace, Trace.Open, Graces.TimesAre, Graces.Leaving, Graces.LeavesBy}
use Rattle.boot_words.specs.kernel_history.proofs.{Steps.awaits-begins, Steps.awaits-ends, Steps.awaits-kept, Inside.inside-other}
use Rattle.trace_laws.proofs.GraceSets.{Sets, sets_of, sets_new, sets_none, sets_flushed, sets_passed, FitsAll, fits_new, fits_none}
use Rattle.trace_laws.proofs.GraceSets.{fits_kept, fits_flushed, fits_passed, left_of, left_other, passed_own}
use Rattle.{std.proofs.lemmas.Bool.cases_eq, found_stays.specs.kernel_invariant.proofs.GraceChanges.flush_begins}

-- Grace periods go with stamps at the start.
pub grace_start : (setup : Setting) (x : Thing) → GraceIs setup [] x
grace_start setup x = record {
  past = omega arith;
  fits = λ c. record {
    is_in = λ h. absurd (false≢true h);
    early =
        λ h. absurd (false≢true h);
    is_left = λ some low. absurd (omega (arith, some));
  };
  flushes = λ c. record {
    awaited = λ h. absurd (false≢true h);
    early = λ h. absurd (false≢true h);
    is_unflushed = λ h low. absurd (false≢true h);
    is_unknown = λ h low. absurd (false≢true h);
  };
}

-- A grace period after a decision.
abbrev pub grace_by : Bool → Bool → Bool → State → ℕ → Thing → Grace
grace_by begins ends flushes s c x = cond begins (new_grace s x) (cond ends no_grace (cond flushes (flushed_by c (s.grace x)) (s.grace x)))

grace_decided : (setup : Setting) (t : Trace) (e : Step) (o : Option Reply) (p : Phase) → MayDecide setup t e o p → (x : Thing)
    → (state_decided o p (state_before setup t e) e.core).grace x
    ≡ grace_by (begins_in o p (state_before setup t e) e.core x) (ends_in o p x) (flushes_in o p) (state_before setup t e) e.core x
grace_decided setup t e None p may x = refl
grace_decided setup t e (Some r) Out may x = refl
grace_decided setup t e (Some r) (Open call) may x = grace_is (state_before setup t e) e.core call r
    (subst (λ k. MayReply (state_before setup t e) e.core k r) (open_inj may.call call may.is_open) may.permitted) x
  where
    open_inj : (k j : Call) → Open j ≡ Open k → k ≡ j
    open_inj k j same = cc
grace_decided setup t e (Some r) (Decided call q) may x = refl

entered_grace : (o : Option Call) (s : State) (c : ℕ) (x : Thing) → (state_entered o s c).grace x ≡ s.grace x
entered_grace None s c x = refl
entered_grace (Some call) s c x = refl

returned_grace : (q : Option Reply) (s : State) (c : ℕ) (x : Thing) → (state_returned q s c).grace x ≡ left_of q c (s.grace x)
returned_grace None s c x = refl
returned_grace (Some r) s c x = refl

-- A flush begins and ends no grace period.
flush_apart : (o : Option Reply) (p : Phase) (s : State) (c : ℕ) (x : Thing)
    → flushes_in o p ≡ true → (begins_in o p s c x ≡ false) × (ends_in o p x ≡ false)
flush_apart None p s c x h = absurd (false≢true h)
flush_apart (Some r) Out s c x h = absurd (false≢true h)
flush_apart (Some r) (Open call) s c x h = flush_begins s c call r x h
flush_apart (Some r) (Decided call q) s c x h = absurd (false≢true h)

pub cases_bool : (b : Bool) → (b ≡ true) ⊎ (b ≡ false)
cases_bool true = inl refl
cases_bool false = inr refl

module _ (setup : Setting) (t : Trace) (e : Step) (follows : MayFollow setup t e) (x : Thing) where
  -- the grace period of x after the decision, and after the step
  abbrev pub grace_then : Grace
  grace_then = grace_by (begins_at setup t e x) (ends_at t e x) (flushes_at t e) (state_before setup t e) e.core x

  pub grace_now : (state_after setup (e ∷ t)).grace x ≡ left_of e.returns e.core grace_then
  grace_now =
      returned_grace e.returns _ e.core x
      ∙ ap (left_of e.returns e.core) (grace_decided setup t e e.decides (after_enter e.enters (phase t e.core)) follows.decides x)

  pub then_begins : begins_at setup t e x ≡ true → grace_then ≡ new_grace (state_before setup t e) x
  then_begins is = ap (λ b. grace_by b (ends_at t e x) (flushes_at t e) (state_before setup t e) e.core x) is

  pub then_ends : begins_at setup t e x ≡ false → ends_at t e x ≡ true → grace_then ≡ no_grace
  then_ends not ends =
      ap (λ b. grace_by b (ends_at t e x) (flushes_at t e) (state_before setup t e) e.core x) not
      ∙ ap (λ b. grace_by false b (flushes_at t e) (state_before setup t e) e.core x) ends

  pub then_flushes : flushes_at t e ≡ true → grace_then ≡ flushed_by e.core ((state_after setup t).grace x)
  then_flushes is =
      let p = flush_apart e.decides (after_enter e.enters (phase t e.core)) (state_before setup t e) e.core x is in
      ap (λ b. grace_by b (ends_at t e x) (flushes_at t e) (state_before setup t e) e.core x) p.0
      ∙ ap (λ b. grace_by false b (flushes_at t e) (state_before setup t e) e.core x) p.1
      ∙ ap (λ b. grace_by false false b (state_before setup t e) e.core x) is
      ∙ ap (flushed_by e.core) (entered_grace e.enters (state_after setup t) e.core x)

  pub then_kept : begins_at setup t e x ≡ false → ends_at t e x ≡ false
      → flushes_at t e ≡ false → grace_then ≡ (state_after setup t).grace x
  then_kept not kept calm =
      ap (λ b. grace_by b (ends_at t e x) (flushes_at t e) (state_before setup t e) e.core x) not
      ∙ ap (λ b. grace_by false b (flushes_at t e) (state_before setup t e) e.core x) kept
      ∙ ap (λ b. grace_by false false b (state_before setup t e) e.core x) calm
      ∙ entered_grace e.enters (state_after setup t) e.core x

-- Who is inside before a step is inside where its call is entered, and after it where it does not return.
met_inside : (o : Option Call) (s : State) (d c : ℕ) → (s.core c).inside ≡ true → ((state_entered o s d).core c).inside ≡ true
met_inside None s d c h = h
met_inside (Some call) s d c h = elim (cases_eq c d) [
  | inl same ↦ ap (λ k. k.inside) (put_same s.core d _ c same)
  | inr other ↦ ap (λ k. k.inside) (put_other s.core d _ c other) ∙ h
]

-- What goes with a thing's stamp at one core.
abbrev FitsAt : Setting → Trace → Thing → ℕ → Sets → Type 0
FitsAt setup t x c k =
    FitsAll k ((state_after setup t).core c).inside (exit_of t c)
    (awaits_flushes setup t x) (flush_of t c) (flush_stored t c) (stamp setup t x)

abbrev FitsNow : Setting → Trace → Thing → ℕ → Type 0
FitsNow setup t x c = FitsAt setup t x c (sets_of ((state_after setup t).grace x) c)

stored_rises : (t : Trace) (e : Step) (c : ℕ) → flush_stored t c ≤ flush_of t c → flush_stored t c ≤ flush_stored (e ∷ t) c
stored_rises t e c low = elim (cases_eq c e.core) [
  | inl own ↦ by_word (same_word (FlushAt c) (word_of e.move)) (flush_stored-own c e t own)
  | inr other ↦ (let k = flush_stored-other c e t other in omega (arith, k))
]
  where
    by_word : (b : Bool) → flush_stored (e ∷ t) c ≡ cond b (flush_of t c) (flush_stored t c) → flush_stored t c ≤ flush_stored (e ∷ t) c
    by_word true is = omega (arith, is, low)
    by_word false is = omega (arith, is)

module _ (setup : Setting) (t : Trace) (e : Step) (follows : MayFollow setup t e) (time : KeepsTime setup t e) (times : (c : ℕ)
    → TimesAre setup t c)
    (graces : (x : Thing) → GraceIs setup t x) where
  old : (x : Thing) (c : ℕ) → FitsNow setup t x c
  old x c = record { fits = (graces x).fits c; flushes = (graces x).flushes c }

  abbrev now : ℕ → Bool
  now c = ((state_after setup (e ∷ t)).core c).inside

  abbrev met : ℕ → Bool
  met c = ((state_before setup t e).core c).inside

  -- a core c whose sets are those after the decision, and which has left no call
  module _ (x : Thing) (c : ℕ) (sets : sets_of ((state_after setup (e ∷ t)).grace x) c ≡ sets_of (grace_then setup t e follows x) c)
      (inside : met c ≡ true → now c ≡ true) (exit : exit_of (e ∷ t) c ≡ exit_of t c) where
    goes : (k : Sets) → sets_of (grace_then setup t e follows x) c ≡ k → FitsAt setup (e ∷ t) x c k → FitsNow setup (e ∷ t) x c
    goes k is = subst (FitsAt setup (e ∷ t) x c) (sym (sets ∙ is))

    begun : begins_at setup t e x ≡ true → flush_of (e ∷ t) c ≡ flush_of t c → FitsNow setup (e ∷ t) x c
    begun is flush =
        let s = stamp-begins setup e t x is in
        let d = time.draws x is in
        let low = (times c).exit in
        let early = (times c).flush in
        goes (sets_new (met c) (needs_flush (state_before setup t e) x)) (ap (λ g. sets_of g c) (then_begins setup t e follows x is))
        (subst (λ a. FitsAll (sets_new (met c) (needs_flush (state_before setup t e) x)) (now c)
        (exit_of (e ∷ t) c) a (flush_of (e ∷ t) c) (flush_stored (e ∷ t) c) (stamp setup (e ∷ t) x))
        (sym (awaits-begins setup e t x is))
        (fits_new (met c) (now c) (needs_flush (state_before setup t e) x) (exit_of (e ∷ t) c)
        (flush_of (e ∷ t) c) (flush_stored (e ∷ t) c) (stamp setup (e ∷ t) x)
        inside (omega (arith, s, d, low, exit)) (omega (arith, s, d, early, flush))))

    ended : begins_at setup t e x ≡ false → ends_at t e x ≡ true → FitsNow setup (e ∷ t) x c
    ended not ends =
        goes sets_none (ap (λ g. sets_of g c) (then_ends setup t e follows x not ends))
        (subst (λ a. FitsAll sets_none (now c) (exit_of (e ∷ t) c) a (flush_of (e ∷ t) c) (flush_stored (e ∷ t) c) (stamp setup (e ∷ t) x))
        (sym (awaits-ends setup e t x not ends))
        (fits_none (now c) (exit_of (e ∷ t) c) (flush_of (e ∷ t) c)
        (flush_stored (e ∷ t) c) (stamp setup (e ∷ t) x) (stamp-ends setup e t x not ends)))

    -- the thing's grace period neither begins nor ends
    module _ (not : begins_at setup t e x ≡ false) (kept : ends_at t e x ≡ false) where
      carried : (k : Sets) → FitsAll k (now c) (exit_of t c) (awaits_flushes setup t x)
          (flush_of (e ∷ t) c) (flush_stored (e ∷ t) c) (stamp setup t x) → FitsAt setup (e ∷ t) x c k
      carried k h = rw (exit, awaits-kept setup e t x not kept, stamp-kept setup e t x not kept) h

      stays : sets_of (grace_then setup t e follows x) c ≡ sets_of ((state_after setup t).grace x) c
          → flush_of (e ∷ t) c ≡ flush_of t c → FitsNow setup (e ∷ t) x c
      stays same flush =
          goes (sets_of ((state_after setup t).grace x) c) same
          (carried (sets_of ((state_after setup t).grace x) c)
          (rw flush (fits_kept (sets_of ((state_after setup t).grace x) c)
          ((state_after setup t).core c).inside (now c) (awaits_flushes setup t x) (exit_of t c) (flush_of t c)
          (flush_stored t c) (flush_stored (e ∷ t) c) (stamp setup t x) (λ h. inside (met_inside e.enters (state_after setup t) e.core c h))
          (stored_rises t e c (times c).stored) (old x c))))

  -- another core
  module _ (x : Thing) (c : ℕ) (other : c ≢ e.core) where
    other_sets : sets_of ((state_after setup (e ∷ t)).grace x) c ≡ sets_of (grace_then setup t e follows x) c
    other_sets = ap (λ g. sets_of g c) (grace_now setup t e follows x)
        ∙ left_other e.returns e.core c (grace_then setup t e follows x) other

    other_inside : met c ≡ true → now c ≡ true
    other_inside h = inside-other setup e t c other ∙ sym (entered-inside e.enters (state_after setup t) e.core c other) ∙ h

    same_sets : sets_of (flushed_by e.core ((state_after setup t).grace x)) c ≡ sets_of ((state_after setup t).grace x) c
    same_sets = ap (λ b. record {
      waits = ((state_after setup t).grace x).waits c;
      not_passed =
          ((state_after setup t).grace x).not_passed c;
      unflushed = b;
      unknown = ((state_after setup t).grace x).flush_unknown c;
    })
        (put_other ((state_after setup t).grace x).unflushed e.core false c other)

    fits_other : FitsNow setup (e ∷ t) x c
    fits_other = elim (cases_bool (begins_at setup t e x)) [
      | inl is ↦ begun x c other_sets other_inside (exit_of-other c e t other) is (flush_of-other c e t other)
      | inr not ↦ elim (cases_bool (ends_at t e x)) [
        | inl ends ↦ ended x c other_sets other_inside (exit_of-other c e t other) not ends
        | inr kept ↦ stays x c other_sets other_inside (exit_of-other c e t other) not kept
            (elim (cases_bool (flushes_at t e)) [
              | inl flushes ↦ ap (λ g. sets_of g c) (then_flushes setup t e follows x flushes) ∙ same_sets
              | inr calm ↦ ap (λ g. sets_of g c) (then_kept setup t e follows x not kept calm)
            ])
            (flush_of-other c e t other)
      ]
    ]

  -- the step's own core, where it does not return
  module _ (x : Thing) (none : e.returns ≡ None) where
    own_sets : sets_of ((state_after setup (e ∷ t)).grace x) e.core ≡ sets_of (grace_then setup t e follows x) e.core
    own_sets = ap (λ g. sets_of g e.core) (grace_now setup t e follows x ∙ ap (λ q. left_of q e.core (grace_then setup t e follows x)) none)

    own_inside : met e.core ≡ true → now e.core ≡ true
    own_inside h =
        ap (λ q. ((state_returned q (state_decided e.decides (after_enter e.enters (phase t e.core)) (state_before setup t e) e.core)
        e.core).core e.core).inside) none
        ∙ decided-inside e.decides (after_enter e.enters (phase t e.core)) (state_before setup t e) e.core e.core ∙ h

    own_exit : exit_of (e ∷ t) e.core ≡ exit_of t e.core
    own_exit = exit_of-own e.core e t refl ∙ ap (λ q. exit_after q (clock_seen t e.core) (exit_of t e.core)) none

    no_flush : flushes_at t e ≡ false → flush_of (e ∷ t) e.core ≡ flush_of t e.core
    no_flush calm = flush_of-own e.core e t refl ∙ ap (λ b. cond b e.found (flush_of t e.core)) calm

    fits_own : FitsNow setup (e ∷ t) x e.core
    fits_own = elim (cases_bool (flushes_at t e)) [
      | inl flushes ↦ fits_flush flushes
      | inr calm ↦ elim (cases_bool (begins_at setup t e x)) [
        | inl is ↦ begun x e.core own_sets own_inside own_exit is (no_flush calm)
        | inr not ↦ elim (cases_bool (ends_at t e x)) [
          | inl ends ↦ ended x e.core own_sets own_inside own_exit not ends
          | inr kept ↦ stays x e.core own_sets own_inside own_exit not kept
              (ap (λ g. sets_of g e.core) (then_kept setup t e follows x not kept calm)) (no_flush calm)
        ]
      ]
    ] where
      flushed_sets : sets_of (flushed_by e.core ((state_after setup t).grace x)) e.core
          ≡ sets_flushed (sets_of ((state_after setup t).grace x) e.core)
      flushed_sets = ap (λ b. record {
        waits = ((state_after setup t).grace x).waits e.core;
        not_passed =
            ((state_after setup t).grace x).not_passed e.core;
        unflushed =
            b;
        unknown = ((state_after setup t).grace x).flush_unknown e.core;
      })
          (put_same ((state_after setup t).grace x).unflushed e.core false e.core refl)

      fits_flush : flushes_at t e ≡ true → FitsNow setup (e ∷ t) x e.core
      fits_flush flushes =
          let apart = flush_apart e.decides (after_enter e.enters (phase t e.core)) (state_before setup t e) e.core x flushes in
          let k : Sets = sets_of ((state_after setup t).grace x) e.core in
          let p = (graces x).past in
          let f : flush_of (e ∷ t) e.core ≡ clock setup t =
          flush_of-own e.core e t refl ∙ ap (λ b. cond b e.found (flush_of t e.core)) flushes ∙ time.flushes flushes in
          goes x e.core own_sets own_inside own_exit (sets_flushed k)
          (ap (λ g. sets_of g e.core) (then_flushes setup t e follows x flushes) ∙ flushed_sets)
          (carried x e.core own_sets own_inside own_exit apart.0 apart.1 (sets_flushed k)
          (fits_flushed k ((state_after setup t).core e.core).inside (now e.core)
          (awaits_flushes setup t x) (exit_of t e.core) (flush_of t e.core) (flush_of (e ∷ t) e.core)
          (flush_stored t e.core) (flush_stored (e ∷ t) e.core) (stamp setup t x)
          (λ h. own_inside (met_inside e.enters (state_after setup t) e.core e.core h))
          (stored_rises t e e.core (times e.core).stored) (omega (arith, p, f)) (old x e.core)))

  -- the step's own core, where it returns
  module _ (x : Thing) (r : Reply) (is : e.returns ≡ Some r) (leaving : Leaving setup t e) where
    fits_left : FitsNow setup (e ∷ t) x e.core
    fits_left =
        let knows : IsLeave setup t e.core leaving.at = leaving.knows in
        let seen = knows.seen in
        let kept = leaving.stored in
        let rises = stored_rises t e e.core (times e.core).stored in
        let g : Grace = (state_after setup t).grace x in
        let k : Sets = sets_of g e.core in
        let same : grace_then setup t e follows x ≡ g = then_kept setup t e follows x no_begin no_end no_flush in
        let sets : sets_of ((state_after setup (e ∷ t)).grace x) e.core ≡ sets_passed k =
        ap (λ g. sets_of g e.core) (grace_now setup t e follows x
        ∙ ap (λ q. left_of q e.core (grace_then setup t e follows x)) is ∙ ap (passed e.core) same) ∙ passed_own e.core g in
        let exit : exit_of (e ∷ t) e.core ≡ clock_seen t e.core =
        exit_of-own e.core e t refl ∙ ap (λ q. exit_after q (clock_seen t e.core) (exit_of t e.core)) is in
        let flush : flush_of (e ∷ t) e.core ≡ flush_of t e.core =
        flush_of-own e.core e t refl ∙ ap (λ b. cond b e.found (flush_of t e.core)) no_flush in
        subst (FitsAt setup (e ∷ t) x e.core) (sym sets)
        (rw (awaits-kept setup e t x no_begin no_end, stamp-kept setup e t x no_begin no_end, flush)
        (fits_passed k ((state_after setup t).core e.core).inside (now e.core)
        (awaits_flushes setup t x) (exit_of t e.core) (exit_of (e ∷ t) e.core)
        (flush_of t e.core) (flush_stored t e.core) (flush_stored (e ∷ t) e.core) (stamp setup t x)
        (λ low. knows.stays x (omega (arith, low, exit, seen))) (omega (arith, kept, rises)) (times e.core).stored (old x e.core)))
      where
        no_begin : begins_at setup t e x ≡ false
        no_begin = ap (λ o. begins_in o (after_enter e.enters (phase t e.core)) (state_before setup t e) e.core x) leaving.no_decision

        no_end : ends_at t e x ≡ false
        no_end = ap (λ o. ends_in o (after_enter e.enters (phase t e.core)) x) leaving.no_decision

        no_flush : flushes_at t e ≡ false
        no_flush = ap (λ o. flushes_in o (after_enter e.enters (phase t e.core))) leaving.no_decision

  fits_step : (x : Thing) (c : ℕ) (o : Option Reply) → e.returns ≡ o → LeavesBy setup t e o → FitsNow setup (e ∷ t) x c
  fits_step x c o is leaves = elim (cases_eq c e.core) [
    | inr other ↦ fits_other x c other
    | inl own ↦ subst (λ (d : ℕ). FitsNow setup (e ∷ t) x d) (sym own) (by_return o is leaves)
  ] where
    by_return : (o : Option Reply) → e.returns ≡ o → LeavesBy setup t e o → FitsNow setup (e ∷ t) x e.core
    by_return None is leaves = fits_own x is
    by_return (Some r) is leaves = fits_left x r is leaves

  past_step : (x : Thing) → stamp setup (e ∷ t) x < clock setup (e ∷ t)
  past_step x =
      let rises = time.rises in
      let p = (graces x).past in
      elim (cases_bool (begins_at setup t e x)) [
        | inl is ↦ (let s = stamp-begins setup e t x is in let d = time.draws x is in omega (arith, s, d))
        | inr not ↦ elim (cases_bool (ends_at t e x)) [
          | inl ends ↦ (let s = stamp-ends setup e t x not ends in omega (arith, s, p, rises))
          | inr kept ↦ (let s = stamp-kept setup e t x not kept in omega (arith, s, p, rises))
        ]
      ]

-- Grace periods go with stamps after each step.
pub grace_on : (setup : Setting) (t : Trace) (e : Step) → MayFollow setup t e → KeepsTime setup t e → LeavesBy setup t e e.returns
    → ((c : ℕ) → TimesAre setup t c) → ((x : Thing) → GraceIs setup t x) → (x : Thing) → GraceIs setup (e ∷ t) x
grace_on setup t e follows time leaves times graces x = record {
  past = past_step setup t e follows time times graces x;
  fits = λ c. (fits_step setup t e follows time times graces x c e.returns refl leaves).fits;
  flushes = λ c. (fits_step setup t e follows time times graces x c e.returns refl leaves).flushes;
}

-- A core's times are no later than now, at the start and after each such step.
pub times_start : (setup : Setting) (c : ℕ) → TimesAre setup [] c
times_start setup c = record { exit = omega arith; flush = omega arith; stored = omega arith }

pub times_on : (setup : Setting) (t : Trace) (e : Step) → KeepsTime setup t e → LeavesBy setup t e e.returns
    → (c : ℕ) → TimesAre setup t c → TimesAre setup (e ∷ t) c
times_on setup t e time leaves c times = record {
  exit = elim (cases_eq c e.core) [
    | inl own ↦ by_return own e.returns refl leaves
    | inr other ↦ (let k = exit_of-other c e t other in let r = time.rises in let l = times.exit in omega (arith, k, r, l))
  ];
  flush = elim (cases_eq c e.core) [
    | inl own ↦ elim (cases_bool (flushes_at t e)) [
      | inl flushes ↦ (let f = flushed own flushes in let r = time.rises in omega (arith, f, r))
      | inr calm ↦ (let f = calm_flush own calm in let r = time.rises in let l = times.flush in omega (arith, f, r, l))
    ]
    | inr other ↦ (let k = flush_of-other c e t other in let r = time.rises in let l = times.flush in omega (arith, k, r, l))
  ];
  stored = elim (cases_eq c e.core) [
    | inl own ↦ by_word own (same_word (FlushAt c) (word_of e.move)) (flush_stored-own c e t own) (rises own)
    | inr other ↦ (let k = flush_of-other c e t other in
        let j = flush_stored-other c e t other in let l = times.stored in omega (arith, k, j, l))
  ];
} where
  flushed : c ≡ e.core → flushes_at t e ≡ true → flush_of (e ∷ t) c ≡ clock setup t
  flushed own flushes = flush_of-own c e t own ∙ ap (λ b. cond b e.found (flush_of t c)) flushes ∙ time.flushes flushes

  calm_flush : c ≡ e.core → flushes_at t e ≡ false → flush_of (e ∷ t) c ≡ flush_of t c
  calm_flush own calm = flush_of-own c e t own ∙ ap (λ b. cond b e.found (flush_of t c)) calm

  rises : c ≡ e.core → flush_of t c ≤ flush_of (e ∷ t) c
  rises own = elim (cases_bool (flushes_at t e)) [
    | inl flushes ↦ (let f = flushed own flushes in let l = times.flush in omega (arith, f, l))
    | inr calm ↦ (let f = calm_flush own calm in omega (arith, f))
  ]

  by_return : c ≡ e.core → (o : Option Reply) → e.returns ≡ o → LeavesBy setup t e o → exit_of (e ∷ t) c ≤ clock setup (e ∷ t)
  by_return own None is leaves =
      let k : exit_of (e ∷ t) c ≡ exit_of t c = exit_of-own c e t own ∙ ap (λ q. exit_after q (clock_seen t c) (exit_of t c)) is in
      let r = time.rises in
      let l = times.exit in
      omega (arith, k, r, l)
  by_return own (Some q) is leaving =
      let knows : IsLeave setup t e.core leaving.at = leaving.knows in
      let k : exit_of (e ∷ t) c ≡ clock_seen t c = exit_of-own c e t own ∙ ap (λ q. exit_after q (clock_seen t c) (exit_of t c)) is in
      let s : clock_seen t c ≡ leaving.at = ap (clock_seen t) own ∙ knows.seen in
      let r = time.rises in
      let l = knows.low in
      omega (arith, k, s, r, l)

  by_word : c ≡ e.core → (b : Bool) → flush_stored (e ∷ t) c ≡ cond b (flush_of t c) (flush_stored t c)
      → flush_of t c ≤ flush_of (e ∷ t) c → flush_stored (e ∷ t) c ≤ flush_of (e ∷ t) c
  by_word own true is rises = omega (arith, is, rises)
  by_word own false is rises = let l = times.stored in omega (arith, is, rises, l)
