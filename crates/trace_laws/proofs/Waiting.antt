-- What one step makes of those who wait and of stamps, and what a scan may conclude.
use Rattle.boot_words.specs.kernel_history.proofs.{◌≡◌, ◌≢◌, inl, inr, ℕ, ◌<◌, ◌≤◌, arith, Bool, true, false, cond, refl, sym, ◌∙◌, ap}
use Rattle.boot_words.specs.kernel_history.proofs.{subst, ◌∷◌, Option, Some, None, IsTrue, false≢true, Setting, IsSetting, Call, Reply}
use Rattle.boot_words.specs.kernel_history.proofs.{ClockAt, same_word, word_of, Grace, Thing, PlaceOf, NumberOf, State, put, MayReply}
use Rattle.boot_words.specs.kernel_history.proofs.{put_same, put_other, is_node, Step, Phase, Out, Decided, phase, after_enter, state_after}
use Rattle.boot_words.specs.kernel_history.proofs.{state_entered, state_before, ends_in, begins_at, ends_at, flushes_at, stamp}
use Rattle.boot_words.specs.kernel_history.proofs.{awaits_flushes, clock, exit_of, flush_of, flush_stored, MayDecide, MayFollow, IsLegal}
use Rattle.boot_words.specs.kernel_history.proofs.{entered_events, stamp-begins, stamp-ends, stamp-kept, entered-inside, GraceIs, KeepsTime}
use Rattle.boot_words.specs.kernel_history.specs.{no_grace, clock_seen, IsLeave}
use Rattle.found_stays.specs.kernel_invariant.proofs.{MayEnd, ends_by_rule, opened}
use Rattle.trace_laws.proofs.GraceSteps.{cases_bool, grace_then, grace_now, then_begins, then_ends, then_flushes, then_kept}
use Rattle.{std.proofs.lemmas.Bool.cases_eq, boot_words.specs.kernel_history.specs.Trace.Trace}
use Rattle.{boot_words.specs.kernel_history.specs.Trace.Open, boot_words.specs.kernel_history.proofs.Steps.clock_seen-own}
use Rattle.{boot_words.specs.kernel_history.proofs.Steps.clock_seen-other, trace_laws.proofs.Opens.opens, trace_laws.proofs.Opens.open_inj}
use Rattle.{trace_laws.proofs.GraceSets.left_of, trace_laws.proofs.GraceSets.left_other}

abbrev pub waits_for : Setting → Trace → Thing → ℕ → Bool
waits_for setup t x c = ((state_after setup t).grace x).waits c

abbrev pub is_unflushed : Setting → Trace → Thing → ℕ → Bool
is_unflushed setup t x c = ((state_after setup t).grace x).unflushed c

-- A scan that found stamp s has passed core d: while s is the thing's stamp, d does not wait.
abbrev pub Passed : Setting → Trace → Thing → ℕ → ℕ → Type 0
Passed setup t x s d = stamp setup t x ≡ s → waits_for setup t x d ≡ false

-- A flush scan that found stamp s has passed core d: while s is the thing's stamp, d is not unflushed.
abbrev pub Flushed : Setting → Trace → Thing → ℕ → ℕ → Type 0
Flushed setup t x s d = stamp setup t x ≡ s → is_unflushed setup t x d ≡ false

-- What a scan concludes from a core's word, of a thing whose stamp is not below that scanned for.
module _ (setup : Setting) (t : Trace) (x : Thing) (grace : GraceIs setup t x) (c : ℕ) where
  -- a core that is out does not wait, nor one that left its last call after the stamp
  pub out_passed : (s : ℕ) → ((state_after setup t).core c).inside ≡ false → Passed setup t x s c
  out_passed s out is = elim (cases_bool (waits_for setup t x c)) [
    | inl waits ↦ absurd (false≢true (sym out ∙ (grace.fits c).is_in waits))
    | inr not ↦ not
  ]

  pub later_passed : (s : ℕ) → s < exit_of t c → Passed setup t x s c
  later_passed s later is = elim (cases_bool (waits_for setup t x c)) [
    | inl waits ↦ (let e = (grace.fits c).early waits in absurd (omega (arith, later, is, e)))
    | inr not ↦ not
  ]

  -- one that left no later may not have passed
  pub may_wait : (s : ℕ) → 0 < s → s ≤ stamp setup t x → exit_of t c ≤ s → ((state_after setup t).grace x).not_passed c ≡ true
  may_wait s some old early = (grace.fits c).is_left (omega (arith, some, old)) (omega (arith, early, old))

  -- a core that stored a flush after the stamp is not unflushed
  pub later_flushed : (s : ℕ) → flush_stored t c ≤ flush_of t c → s < flush_stored t c → Flushed setup t x s c
  later_flushed s low later is = elim (cases_bool (is_unflushed setup t x c)) [
    | inl unflushed ↦ (let e = (grace.flushes c).early unflushed in absurd (omega (arith, later, is, e, low)))
    | inr not ↦ not
  ]

  -- one that stored none later may not have flushed, where the grace period waits for flushes
  pub may_be_unflushed : (s : ℕ) → awaits_flushes setup t x ≡ true → s ≤ stamp setup t x
      → flush_stored t c ≤ s → ((state_after setup t).grace x).flush_unknown c ≡ true
  may_be_unflushed s awaits old early = (grace.flushes c).is_unknown awaits (omega (arith, early, old))

-- What a step makes of them.
module _ (setup : Setting) (t : Trace) (e : Step) (follows : MayFollow setup t e) (x : Thing) where
  falls : (q : Option Reply) (c d : ℕ) (g : Grace) → g.waits d ≡ false → (left_of q c g).waits d ≡ false
  falls None c d g out = out
  falls (Some r) c d g out = elim (cases_eq d c) [
    | inl same ↦ put_same g.waits c false d same
    | inr other ↦ put_other g.waits c false d other ∙ out
  ]

  left_unflushed : (q : Option Reply) (c d : ℕ) (g : Grace) → (left_of q c g).unflushed d ≡ g.unflushed d
  left_unflushed None c d g = refl
  left_unflushed (Some r) c d g = refl

  -- another core waits in what begins if it is inside, and else as before
  pub waits_begun : (d : ℕ) → d ≢ e.core → begins_at setup t e x ≡ true
      → waits_for setup (e ∷ t) x d ≡ ((state_after setup t).core d).inside
  waits_begun d other is =
      ap (λ g. g.waits d) (grace_now setup t e follows x)
      ∙ ap (λ k. k.waits) (left_other e.returns e.core d (grace_then setup t e follows x) other)
      ∙ ap (λ g. g.waits d) (then_begins setup t e follows x is) ∙ entered-inside e.enters (state_after setup t) e.core d other

  then_waits : begins_at setup t e x ≡ false → ends_at t e x ≡ false
      → (grace_then setup t e follows x).waits ≡ ((state_after setup t).grace x).waits
  then_waits not kept = elim (cases_bool (flushes_at t e)) [
    | inl flushes ↦ ap (λ g. g.waits) (then_flushes setup t e follows x flushes)
    | inr calm ↦ ap (λ g. g.waits) (then_kept setup t e follows x not kept calm)
  ]

  pub waits_kept : (d : ℕ) → d ≢ e.core → begins_at setup t e x ≡ false
      → ends_at t e x ≡ false → waits_for setup (e ∷ t) x d ≡ waits_for setup t x d
  waits_kept d other not kept =
      ap (λ g. g.waits d) (grace_now setup t e follows x)
      ∙ ap (λ k. k.waits) (left_other e.returns e.core d (grace_then setup t e follows x) other)
      ∙ ap (λ w. w d) (then_waits not kept)

  -- who does not wait begins to only where the grace period begins, and so with who is not unflushed
  pub waits_falls : (d : ℕ) → begins_at setup t e x ≡ false → waits_for setup t x d ≡ false → waits_for setup (e ∷ t) x d ≡ false
  waits_falls d not out =
      ap (λ g. g.waits d) (grace_now setup t e follows x)
      ∙ falls e.returns e.core d (grace_then setup t e follows x) (elim (cases_bool (ends_at t e x)) [
        | inl ends ↦ ap (λ g. g.waits d) (then_ends setup t e follows x not ends)
        | inr kept ↦ ap (λ w. w d) (then_waits not kept) ∙ out
      ])

  pub unflushed_falls : (d : ℕ) → begins_at setup t e x ≡ false → is_unflushed setup t x d ≡ false → is_unflushed setup (e ∷ t) x d ≡ false
  unflushed_falls d not out =
      ap (λ g. g.unflushed d) (grace_now setup t e follows x) ∙ left_unflushed e.returns e.core d (grace_then setup t e follows x)
      ∙ elim (cases_bool (flushes_at t e)) [
        | inl flushes ↦ ap (λ g. g.unflushed d) (then_flushes setup t e follows x flushes) ∙ flushed
        | inr calm ↦ elim (cases_bool (ends_at t e x)) [
          | inl ends ↦ ap (λ g. g.unflushed d) (then_ends setup t e follows x not ends)
          | inr kept ↦ ap (λ g. g.unflushed d) (then_kept setup t e follows x not kept calm) ∙ out
        ]
      ]
    where
      flushed : put ((state_after setup t).grace x).unflushed e.core false d ≡ false
      flushed = elim (cases_eq d e.core) [
        | inl same ↦ put_same ((state_after setup t).grace x).unflushed e.core false d same
        | inr other ↦ put_other ((state_after setup t).grace x).unflushed e.core false d other ∙ out
      ]

-- What is known where a step ends a grace period.
pub ends_known : (setup : Setting) → IsSetting setup → (t : Trace) → IsLegal setup t
    → (e : Step) → MayFollow setup t e → (x : Thing) → ends_at t e x ≡ true
    → MayEnd (state_before setup t e) e.core x
ends_known setup lim t legal e follows x = by_phase e.decides (after_enter e.enters (phase t e.core)) refl follows.decides
  where
    by_phase : (o : Option Reply) (p : Phase) → after_enter e.enters (phase t e.core) ≡ p
        → MayDecide setup t e o p → ends_in o p x ≡ true → MayEnd (state_before setup t e) e.core x
    by_phase None p at may h = absurd (false≢true h)
    by_phase (Some r) Out at may h = absurd (false≢true h)
    by_phase (Some r) (Open call) at may h =
        ends_by_rule (state_before setup t e) (opened (entered_events t e)) e.core (opens setup lim t legal e follows call at) call r x
        (subst (λ k. MayReply (state_before setup t e) e.core k r) (open_inj may.call call may.is_open) may.permitted) h
    by_phase (Some r) (Decided call q) at may h = absurd (false≢true h)

entered_frame : (o : Option Call) (s : State) (c f : ℕ) → (state_entered o s c).frame f ≡ s.frame f
entered_frame None s c f = refl
entered_frame (Some call) s c f = refl

-- The grace period of a place of a node does not end, and that of a liveness number ends never.
pub node_goes_on : (setup : Setting) → IsSetting setup → (t : Trace) → IsLegal setup t → (e : Step)
    → MayFollow setup t e → (f i : ℕ) → IsTrue (is_node ((state_after setup t).frame f)) → ends_at t e (PlaceOf f i) ≡ false
node_goes_on setup lim t legal e follows f i node = elim (cases_bool (ends_at t e (PlaceOf f i))) [
  | inl ends ↦ absurd (false≢true (ap is_node (sym
      (sym (entered_frame e.enters (state_after setup t) e.core f) ∙ ends_known setup lim t legal e follows (PlaceOf f i) ends)) ∙ node))
  | inr kept ↦ kept
]

pub number_goes_on : (setup : Setting) → IsSetting setup → (t : Trace) → IsLegal setup t
    → (e : Step) → MayFollow setup t e → (l : ℕ) → ends_at t e (NumberOf l) ≡ false
number_goes_on setup lim t legal e follows l = elim (cases_bool (ends_at t e (NumberOf l))) [
  | inl ends ↦ absurd (ends_known setup lim t legal e follows (NumberOf l) ends)
  | inr kept ↦ kept
]

-- Stamps, and what is known by them.
module _ (setup : Setting) (t : Trace) (e : Step) (follows : MayFollow setup t e) (time : KeepsTime setup t e) (graces : (x : Thing)
    → GraceIs setup t x) where
  -- a stamp that is past stays past
  pub still_past : (s : ℕ) → s < clock setup t → s < clock setup (e ∷ t)
  still_past s past = let r = time.rises in omega (arith, past, r)

  -- a stamp only rises while its grace period does not end
  pub stamp_rises : (x : Thing) → ends_at t e x ≡ false → stamp setup t x ≤ stamp setup (e ∷ t) x
  stamp_rises x kept = elim (cases_bool (begins_at setup t e x)) [
    | inl is ↦ (let d = time.draws x is in let p = (graces x).past in let s = stamp-begins setup e t x is in omega (arith, d, p, s))
    | inr not ↦ (let s = stamp-kept setup e t x not kept in omega (arith, s))
  ]

  -- a stamp that is past, and is the thing's still or now, was so before, or the grace period ended
  same_stamp : (x : Thing) (s : ℕ) → s < clock setup t → begins_at setup t e x ≡ true → stamp setup (e ∷ t) x ≢ s
  same_stamp x s past is same = let d = time.draws x is in let k = stamp-begins setup e t x is in omega (arith, d, k, past, same)

  pub passed_on : (x : Thing) (s d : ℕ) → s < clock setup t → Passed setup t x s d → Passed setup (e ∷ t) x s d
  passed_on x s d past passed is = elim (cases_bool (begins_at setup t e x)) [
    | inl begins ↦ absurd (same_stamp x s past begins is)
    | inr not ↦ elim (cases_bool (ends_at t e x)) [
      | inl ends ↦ waits_ended not ends
      | inr kept ↦ waits_falls setup t e follows x d not (passed (sym (stamp-kept setup e t x not kept) ∙ is))
    ]
  ] where
    left_none : (q : Option Reply) (c : ℕ) → (left_of q c no_grace).waits d ≡ false
    left_none None c = refl
    left_none (Some r) c = elim (cases_eq d c) [
      | inl same ↦ put_same (λ c. false) c false d same
      | inr other ↦ put_other (λ c. false) c false d other
    ]

    waits_ended : begins_at setup t e x ≡ false → ends_at t e x ≡ true → waits_for setup (e ∷ t) x d ≡ false
    waits_ended not ends =
        ap (λ g. g.waits d) (grace_now setup t e follows x)
        ∙ ap (λ g. (left_of e.returns e.core g).waits d) (then_ends setup t e follows x not ends)
        ∙ left_none e.returns e.core

  pub flushed_on : (x : Thing) (s d : ℕ) → s < clock setup t → Flushed setup t x s d → Flushed setup (e ∷ t) x s d
  flushed_on x s d past flushed is = elim (cases_bool (begins_at setup t e x)) [
    | inl begins ↦ absurd (same_stamp x s past begins is)
    | inr not ↦ elim (cases_bool (ends_at t e x)) [
      | inl ends ↦ unflushed_ended not ends
      | inr kept ↦ unflushed_falls setup t e follows x d not (flushed (sym (stamp-kept setup e t x not kept) ∙ is))
    ]
  ] where
    left_none : (q : Option Reply) (c : ℕ) → (left_of q c no_grace).unflushed d ≡ false
    left_none None c = refl
    left_none (Some r) c = refl

    unflushed_ended : begins_at setup t e x ≡ false → ends_at t e x ≡ true → is_unflushed setup (e ∷ t) x d ≡ false
    unflushed_ended not ends =
        ap (λ g. g.unflushed d) (grace_now setup t e follows x)
        ∙ ap (λ g. (left_of e.returns e.core g).unflushed d) (then_ends setup t e follows x not ends)
        ∙ left_none e.returns e.core

  -- a core that is leaving still waits in each grace period that began since it loaded the clock, after another core's step
  pub leave_on : (c v : ℕ) → c ≢ e.core → ((state_after setup t).core c).inside ≡ true → IsLeave setup t c v → IsLeave setup (e ∷ t) c v
  leave_on c v other inside leave = record {
    seen = clock_seen-other c e t other ∙ leave.seen;
    some = leave.some;
    low = (let l = leave.low in let r = time.rises in omega (arith, l, r));
    stays = λ x late. elim (cases_bool (begins_at setup t e x)) [
      | inl is ↦ waits_begun setup t e follows x c other is ∙ inside
      | inr not ↦ elim (cases_bool (ends_at t e x)) [
        | inl ends ↦ (let s = stamp-ends setup e t x not ends in let p = leave.some in absurd (omega (arith, s, p, late)))
        | inr kept ↦ waits_kept setup t e follows x c other not kept
            ∙ leave.stays x (let s = stamp-kept setup e t x not kept in omega (arith, s, late))
      ]
    ];
  }

  -- a core that loads the clock may leave
  pub leave_starts : ClockAt ≡ word_of e.move → e.found ≡ clock setup t
      → ((x : Thing) → begins_at setup t e x ≡ false) → IsLeave setup (e ∷ t) e.core e.found
  leave_starts at found none = record {
    seen = clock_seen-own e.core e t refl ∙ ap (λ b. cond b e.found (clock_seen t e.core)) (ap (same_word ClockAt) (sym at));
    some = (let p = (graces (NumberOf 0)).past in omega (arith, p, found));
    low = (let r = time.rises in omega (arith, r, found));
    stays = λ x late. (let p = low x in absurd (omega (arith, p, late, found)));
  } where
    low : (x : Thing) → stamp setup (e ∷ t) x < clock setup t
    low x = elim (cases_bool (ends_at t e x)) [
      | inl ends ↦ (let s = stamp-ends setup e t x (none x) ends in let p = (graces x).past in omega (arith, s, p))
      | inr kept ↦ (let s = stamp-kept setup e t x (none x) kept in let p = (graces x).past in omega (arith, s, p))
    ]
