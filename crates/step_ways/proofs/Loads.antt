-- The ways in which a call in flight makes a step that leaves its word as found: it goes on undecided, or it is decided with a
-- reply that leaves all as it was but the count of calls.
use Rattle.kept_facts.proofs as low
use low.{Tail, ◌≡◌, ◌≢◌, ◌⊎◌, ℕ, ◌+◌, ◌^◌, ◌<◌, ◌≤◌, false, List, ◌∷◌, Option, Some, None, arith, refl, sym, ◌∙◌, ap, subst, Capability}
use low.{Setting, IsSetting, Call, Reply, Word, CountAt, FlushAt, ClockAt, same_word, Move, word_of, left_of, Thing, FrameOf, put, MayReply}
use low.{state_by, counted, begins, ends, flushes, alone, calls_counted, put_same, decided-inside, Step, Trace, Out, Open, phase}
use low.{after_decide, after_return, state_after, state_decided_in, last_left, WasAt, shape_of, IsInFootprint, IsAlone, IsFirst}
use low.{IsJustified, MayFollow, ends_in, flushes_in, flush_stored, last_small, phase-own, steps_in_call-own, Stage, Nothing, Enter}
use low.{Decided, ActiveCall, Core, phase_at, Knows, CallIs, WorksIn, CoreIs, KnowsTail, flushing_in, done_by, holds_at}
use low.{holds_in, holds, held_by, Invariant, marks_own, settled_on, sums_stay, counts_on, holds_counts, IsCalm, calm_counted, calm_words}
use low.{counted_rises, IsUntimed, plain_time, plain_exit, BeginsNone, plain_begins, exclusive_open, exclusive_kept, IsIn as IsInShape}
use low.{begins_in, IsCore, CallFits, load_keeps, load_marks, load_words, calm_same, none_flushed, exclusive_still}
use Rattle.kept_facts.specs.kernel_history.specs.{bound_of, steps_in_call, MayMove, MarksOwn, KeepsMarked, IsDisciplined, StepsInFootprint}
use Rattle.kept_facts.specs.kernel_history.specs.{call_in, IsWithin}
use Rattle.kept_facts.specs.call_stages.specs.{IsActive, left_at}
use Rattle.kept_facts.specs.trace_laws.proofs.Carries.{Carries, carries_own}
use Rattle.kept_facts.specs.core_invariant.specs.Knows.{is_flushing, IsIn}
use Rattle.kept_facts.specs.core_invariant.proofs.Markers.{phase_in, phase_call}
use low.{Calm.calm_own, Calm.stored_by, Exclusive.keeps_loads}
use Rattle.step_ways.proofs.{Flushing.still_flushed, Flushing.open_flushed, Good.IsGood, Good.spares_kept, Users.spares_none}

-- A step of core c.
abbrev pub step_to : ℕ → Option Call → Move → ℕ → Option Reply → Option Reply → Step
step_to c enters move found decides returns = record {
  core = c;
  move = move;
  found = found;
  enters = enters;
  decides = decides;
  returns = returns;
}

-- A call after one step more, whose names have led to these, which has read this, and which stands at this stage.
abbrev pub next_with : ActiveCall → List Capability → Option ℕ → Stage → ActiveCall
next_with a found read stage =
    record { steps = a.steps + 1; stage = stage; found = found; read = read; counts = a.counts; call = a.call }

-- A call after a step that has read nothing more.
abbrev pub next_at : ActiveCall → List Capability → Stage → ActiveCall
next_at a found stage = next_with a found a.read stage

-- The core with so many calls made, and this call.
abbrev pub core_in_call : Core → ℕ → ActiveCall → Core
core_in_call core made a = record { own = record core.own { made = made }; active = Some a }

-- The core after a step is in its ranges, and the word of the step is one of the machine, by the one name of its place.
pub record Lands (setup : Setting) (core : Core) (w : Word) : Type 0 where
  pub fits : IsCore core
  pub is_in : IsInShape (shape_of setup) w

-- The operation is one of the call, and its word is in the call's footprint.
pub record IsOfCall (setup : Setting) (t : Trace) (c : ℕ) (call : Call) (move : Move) : Type 0 where
  pub moves : MayMove (state_after setup t) c call move
  pub footprint : IsInFootprint c call (word_of move) (state_after setup t) ⊎ WasAt (IsInFootprint c call (word_of move)) setup t c

-- And it leaves its word as found, and what flushes are stored: its word is no flush word, or the core's last flush is stored there.
pub record OnlyLooks (setup : Setting) (t : Trace) (c : ℕ) (call : Call) (move : Move) : Type 0 where
  pub of_call : IsOfCall setup t c call move
  pub kept : left_of move (last_left setup t (word_of move)) ≡ last_left setup t (word_of move)
  pub apart : (d : ℕ) → stored_by t c d (same_word (FlushAt d) (word_of move)) ≡ flush_stored t d

-- A step is still to come of every call.
pub some_left : (cores : ℕ) (a : ActiveCall) (stage : Stage) → 1 ≤ left_at cores a stage
some_left cores a Enter = omega arith
some_left cores a _ = omega arith

-- The core c is in the call a.
module _ (setup : Setting) (setting : IsSetting setup) (cores : ℕ → Core) (t : Trace) (stands : Invariant setup cores t) (c : ℕ)
    (here : c < setup.cores)
    (a : ActiveCall) (active : (cores c).active ≡ Some a) where
  pub core_is : CoreIs setup (cores c) t c
  core_is = stands.each c here

  pub call_is : IsIn setup t c (cores c).own.table a
  call_is = subst (CallIs setup t c (cores c).own.table) active core_is.active

  pub is_active : IsActive (cores c).own a
  is_active = subst (CallFits (cores c).own) active core_is.fits.active

  -- it has a step to come within its bound
  pub has_room : a.steps + 1 ≤ bound_of a.call setup.cores
  has_room =
      let left = some_left (cores c).own.layout.cores a a.stage in
      let most = is_active.steps in
      let same : bound_of a.call (cores c).own.layout.cores ≡ bound_of a.call setup.cores = ap (λ s. bound_of a.call s.cores)
      core_is.shape in
      omega arith

  pub in_call : phase t c ≢ Out
  in_call out = phase_in setup t c (cores c).own.table a call_is.knows (sym call_is.phase ∙ out)

  -- a step within the call keeps the bound, and leaves its core at the next stage unless it returns
  module _ (move : Move) (decides returns : Option Reply) where
    abbrev pub inner : Step
    inner = step_to c None move (last_left setup t (word_of move)) decides returns

    is_of : call_in (phase t c) ≡ Some a.call
    is_of = ap call_in call_is.phase ∙ phase_call setup t c (cores c).own.table a call_is.knows

    pub inner_within : IsWithin setup.cores t inner
    inner_within = record {
      call = a.call;
      is_of = is_of;
      steps = (let room = has_room in
          let b : steps_in_call (inner ∷ t) c ≡ a.steps + 1 = steps_in_call-own c inner t refl ∙ ap (λ (n : ℕ). n + 1) call_is.steps in
          omega arith);
    }

    pub inner_disciplined : IsOfCall setup t c a.call move → MarksOwn setup t inner → KeepsMarked setup t inner
        → IsDisciplined setup t inner
    inner_disciplined of_call marks keeps = record { call = a.call; is_of = is_of; moves = of_call.moves; marks = marks; keeps = keeps }

    pub inner_footprint : IsOfCall setup t c a.call move → StepsInFootprint setup t inner
    inner_footprint of_call = record { call = a.call; is_of = is_of; footprint = of_call.footprint }

    -- where a step leaves the frames the core works where it did
    pub inner_works : (made : ℕ) → IsCalm (state_after setup t) (state_after setup (inner ∷ t)) c
        → made ≡ ((state_after setup (inner ∷ t)).core c).counted
        → WorksIn (record (cores c).own { made = made }) (state_after setup (inner ∷ t)) c
    inner_works made calm counts =
        calm_own (state_after setup t) (state_after setup (inner ∷ t)) c (cores c).own (record (cores c).own { made = made }) calm
        (ap (λ (m : ℕ). record (cores c).own { made = m }) counts) core_is.works

    pub inner_with : returns ≡ None → BeginsNone setup t inner → (made : ℕ) (found : List Capability) (read : Option ℕ) (stage : Stage)
        → (is_flushing stage ≡ false → is_flushing a.stage ≡ false)
        → IsCore (core_in_call (cores c) made (next_with a found read stage))
        → WorksIn (record (cores c).own { made = made }) (state_after setup (inner ∷ t)) c
        → after_decide decides (phase_at a.call a.stage) ≡ phase_at a.call stage
        → Knows setup (inner ∷ t) c (cores c).own.table (next_with a found read stage)
        → CoreIs setup (core_in_call (cores c) made (next_with a found read stage)) (inner ∷ t) c
    inner_with none plain made found read stage was fits works at knows = record {
      fits = fits;
      number = core_is.number;
      shape = core_is.shape;
      limit = core_is.limit;
      epochs = core_is.epochs;
      works = works;
      exit = core_is.exit ∙ sym (plain_exit t inner none c);
      flushed = λ done. none_flushed setup t inner plain c (core_is.flushed (ap flushing_in active ∙ was done));
      active = record {
        phase = phase-own c inner t refl ∙ ap (λ o. after_return o (after_decide decides (phase t c))) none ∙ ap (after_decide decides)
            call_is.phase ∙ at;
        steps = steps_in_call-own c inner t refl ∙ ap (λ (n : ℕ). n + 1) call_is.steps;
        knows = knows;
        counts = counts_on setup t inner c a.call (λ own. refl) a.counts call_is.counts;
        apart = call_is.apart;
      };
    }

    pub inner_own : returns ≡ None → BeginsNone setup t inner → (made : ℕ) (found : List Capability) (stage : Stage)
        → (is_flushing stage ≡ false → is_flushing a.stage ≡ false)
        → IsCore (core_in_call (cores c) made (next_at a found stage))
        → WorksIn (record (cores c).own { made = made }) (state_after setup (inner ∷ t)) c
        → after_decide decides (phase_at a.call a.stage) ≡ phase_at a.call stage
        → Knows setup (inner ∷ t) c (cores c).own.table (next_at a found stage)
        → CoreIs setup (core_in_call (cores c) made (next_at a found stage)) (inner ∷ t) c
    inner_own none plain made found stage was fits works at knows = inner_with none plain made found a.read stage was fits works at knows

    -- the core holds at the next stage what it held
    pub still_with : (made : ℕ) (found : List Capability) (read : Option ℕ) (stage : Stage) → holds_at stage a.counts ≡ holds_in (Some a)
        → holds (core_in_call (cores c) made (next_with a found read stage)) ≡ holds (cores c)
    still_with made found read stage same = same ∙ ap holds_in (sym active)

    pub still_holds : (made : ℕ) (found : List Capability) (stage : Stage) → holds_at stage a.counts ≡ holds_in (Some a)
        → holds (core_in_call (cores c) made (next_at a found stage)) ≡ holds (cores c)
    still_holds made found stage same = still_with made found a.read stage same

    -- a step that leaves its word as found leaves one of 64 bits
    pub kept_small : left_of move (last_left setup t (word_of move)) ≡ last_left setup t (word_of move)
        → left_of move (last_left setup t (word_of move)) < 2 ^ 64
    kept_small kept = subst (λ (n : ℕ). n < 2 ^ 64) (sym kept) (last_small setup setting t stands.legal (word_of move))

  -- An undecided load, after which the call has read this and is at this stage; what it knew it still knows.
  pub reads_on : (move : Move) (found : List Capability) (read : Option ℕ) (stage : Stage) → OnlyLooks setup t c a.call move
      → Lands setup (core_in_call (cores c) (cores c).own.made (next_with a found read stage)) (word_of move)
      → holds_at stage a.counts ≡ holds_in (Some a) → phase_at a.call a.stage ≡ phase_at a.call stage
      → (Carries setup t (inner move None None) c
      → Knows setup (inner move None None ∷ t) c (cores c).own.table (next_with a found read stage))
      → IsGood setup cores t (inner move None None) (core_in_call (cores c) (cores c).own.made (next_with a found read stage))
  reads_on move found read stage looks lands same at knows =
      let e : Step = inner move None None in
      let after : Core = core_in_call (cores c) (cores c).own.made (next_with a found read stage) in
      let still = still_with move None None (cores c).own.made found read stage same in
      let plain : IsUntimed setup t e = record {
        begins = λ x. refl;
        ends = λ x. refl;
        flushes = refl;
        apart = looks.apart;
        same = load_keeps setup cores t e after still (λ g. refl) looks.kept ClockAt;
      } in
      let follows : MayFollow setup t e = record {
        is_core = here;
        is_in = lands.is_in;
        found = refl;
        small = kept_small move None None looks.kept;
        enters = tt;
        in_call = in_call;
        decides = tt;
        returns = tt;
      } in
      let marks = load_marks setup cores t e after still (λ g. refl) looks.kept stands.marks in record {
        follows = follows;
        within = inner_within move None None;
        alone = λ is_alone. tt;
        disciplined = inner_disciplined move None None looks.of_call
            (marks_own setup cores t e after (λ w there. ap (λ h. h.marks w) still) stands.marks marks) (λ d m other. looks.kept);
        footprint = inner_footprint move None None looks.of_call;
        blanks = spares_kept setup t e looks.kept;
        counted = spares_none setup t e (λ f. plain.ends (FrameOf f));
        marks = marks;
        words = load_words setup cores t e after still (λ g. refl) looks.kept
            (λ v. calm_words setup t e (calm_same (state_after setup t) c) plain v (λ g i h. refl) (λ d h. (refl, plain_exit t e refl d)))
            stands.words;
        exclusive = exclusive_still setup cores t stands e after
            (keeps_loads setup cores t e after still (load_keeps setup cores t e after still (λ g. refl) looks.kept)) refl marks;
        spares = exclusive_kept cores e looks.kept;
        sums = sums_stay setup t e (held_by cores) (held_by (put cores c after))
            (λ f d. settled_on setup cores t e after still (λ g. refl) (CountAt f d)
            (load_keeps setup cores t e after still (λ g. refl) looks.kept (CountAt f d)))
            (calm_same (state_after setup t) c) plain (λ g i. refl) stands.sums;
        draws = (let d = stands.draws in let b = plain.same in omega arith);
        time = plain_time setup t e plain;
        leaves = tt;
        own = inner_with move None None refl (plain_begins setup t e plain) (cores c).own.made found read stage
            (still_flushed setup t c (cores c).own.table a stage a.counts call_is.knows (ap (λ h. h.stands (FlushAt c)) same))
            lands.fits core_is.works at
            (knows (carries_own setup setting t stands.legal e follows (plain_time setup t e plain) stands.graces refl refl refl));
      }

  -- An undecided load, after which the call is at this stage, and has read nothing more.
  pub loads_on : (move : Move) (found : List Capability) (stage : Stage) → OnlyLooks setup t c a.call move
      → Lands setup (core_in_call (cores c) (cores c).own.made (next_at a found stage)) (word_of move)
      → holds_at stage a.counts ≡ holds_in (Some a) → phase_at a.call a.stage ≡ phase_at a.call stage
      → (Carries setup t (inner move None None) c → Knows setup (inner move None None ∷ t) c (cores c).own.table (next_at a found stage))
      → IsGood setup cores t (inner move None None) (core_in_call (cores c) (cores c).own.made (next_at a found stage))
  loads_on move found stage looks lands same at knows = reads_on move found a.read stage looks lands same at knows

  -- A decision at a load or at a lost compare, which leaves all as it was but counts the call.
  pub decides_with : (move : Move) (r : Reply) (tail : Tail) (found : List Capability) → OnlyLooks setup t c a.call move
      → Lands setup (core_in_call (cores c) ((cores c).own.made + calls_counted r) (next_at a found (Decided r None tail))) (word_of move)
      → holds_at (Decided r None tail) a.counts ≡ holds_in (Some a)
      → phase_at a.call a.stage ≡ Open a.call → state_by (state_after setup t) c a.call r ≡ counted (state_after setup t) c
      → calls_counted r ≡ 1
      → ((x : Thing) → begins (state_after setup t) c a.call r x ≡ false) → ((x : Thing) → ends a.call r x ≡ false)
      → flushes a.call r ≡ false
      → MayReply (state_after setup t) c a.call r → IsJustified setup t (inner move (Some r) None) a.call r
      → (IsAlone t (inner move (Some r) None) → r ≡ alone (state_after setup t) c a.call)
      → KnowsTail setup (inner move (Some r) None ∷ t) c a.call a.counts tail
      → IsGood setup cores t (inner move (Some r) None) (core_in_call (cores c) ((cores c).own.made + calls_counted r)
      (next_at a found (Decided r None tail)))
  decides_with move r tail found looks lands same opens state one none_begins none_ends no_flush permitted justified first knows =
      let e : Step = inner move (Some r) None in
      let after : Core = core_in_call (cores c) ((cores c).own.made + calls_counted r) (next_at a found (Decided r None tail)) in
      let still = still_holds move (Some r) None ((cores c).own.made + calls_counted r) found (Decided r None tail) same in
      let is_open : phase t c ≡ Open a.call = call_is.phase ∙ opens in
      let now : state_after setup (e ∷ t) ≡ counted (state_after setup t) c = ap (λ p. state_decided_in p r (state_after setup t) c)
      is_open ∙ state in
      let calm : IsCalm (state_after setup t) (state_after setup (e ∷ t)) c = subst (λ s. IsCalm (state_after setup t) s c) (sym now)
      (calm_counted (state_after setup t) c) in
      let plain : IsUntimed setup t e = record {
        begins = λ x. ap (λ p. begins_in (Some r) p (state_after setup t) c x) is_open ∙ none_begins x;
        ends = λ x. ap (λ p. ends_in (Some r) p x) is_open ∙ none_ends x;
        flushes = ap (flushes_in (Some r)) is_open ∙ no_flush;
        apart = looks.apart;
        same = load_keeps setup cores t e after still calm.frame looks.kept ClockAt;
      } in
      let marks = load_marks setup cores t e after still calm.frame looks.kept stands.marks in record {
        follows = record {
          is_core = here;
          is_in = lands.is_in;
          found = refl;
          small = kept_small move (Some r) None looks.kept;
          enters = tt;
          in_call = in_call;
          decides = record { call = a.call; is_open = is_open; permitted = permitted; justified = justified };
          returns = tt;
        };
        within = inner_within move (Some r) None;
        alone = λ is_alone. subst (IsFirst setup t e (Some r)) (sym is_open) (first is_alone);
        disciplined = inner_disciplined move (Some r) None looks.of_call
            (marks_own setup cores t e after (λ w there. ap (λ h. h.marks w) still) stands.marks marks) (λ d m other. looks.kept);
        footprint = inner_footprint move (Some r) None looks.of_call;
        blanks = spares_kept setup t e looks.kept;
        counted = spares_none setup t e (λ f. plain.ends (FrameOf f));
        marks = marks;
        words = load_words setup cores t e after still calm.frame looks.kept
            (λ v. calm_words setup t e calm plain v (λ g i h. ap (λ s. s.place g i) now)
            (λ d h. (decided-inside (Some r) (phase t c) (state_after setup t) c d, plain_exit t e refl d))) stands.words;
        exclusive = exclusive_open setup cores t e after a a.call active opens (λ f i v kept. sym (ap (λ h. h.bare f i) still) ∙ kept);
        spares = exclusive_kept cores e looks.kept;
        sums = sums_stay setup t e (held_by cores) (held_by (put cores c after))
            (λ f d. settled_on setup cores t e after still calm.frame (CountAt f d)
            (load_keeps setup cores t e after still calm.frame looks.kept (CountAt f d)))
            calm plain (λ g i. ap (λ s. s.place g i) now) stands.sums;
        draws = (let d = stands.draws in let b = plain.same in let g = counted_rises setup (state_after setup t)
            (state_after setup (e ∷ t)) c calm in omega arith);
        time = plain_time setup t e plain;
        leaves = tt;
        own = inner_own move (Some r) None refl (plain_begins setup t e plain) ((cores c).own.made + calls_counted r) found
            (Decided r None tail) (λ done. open_flushed a.call a.stage opens) lands.fits
            (inner_works move (Some r) None ((cores c).own.made + calls_counted r) calm (counts now))
            (ap (after_decide (Some r)) opens) knows;
      }
    where
      counts : state_after setup (inner move (Some r) None ∷ t) ≡ counted (state_after setup t) c
          → (cores c).own.made + calls_counted r ≡ ((state_after setup (inner move (Some r) None ∷ t)).core c).counted
      counts now =
          let made = core_is.works.made in
          let g : ((state_after setup (inner move (Some r) None ∷ t)).core c).counted ≡ ((counted (state_after setup t) c).core c).counted
          = ap (λ s. (s.core c).counted) now in
          let k : ((counted (state_after setup t) c).core c).counted ≡ ((state_after setup t).core c).counted + 1 =
          ap (λ j. j.counted) (put_same (state_after setup t).core c
          (record ((state_after setup t).core c) { counted = ((state_after setup t).core c).counted + 1 }) c refl) in
          omega arith

  -- It has nothing to store.
  pub decides_on : (move : Move) (r : Reply) (found : List Capability) → OnlyLooks setup t c a.call move
      → Lands setup (core_in_call (cores c) ((cores c).own.made + calls_counted r) (next_at a found (Decided r None Nothing)))
      (word_of move)
      → holds_counts (done_by r None) a.counts ≡ holds_in (Some a)
      → phase_at a.call a.stage ≡ Open a.call → state_by (state_after setup t) c a.call r ≡ counted (state_after setup t) c
      → calls_counted r ≡ 1
      → ((x : Thing) → begins (state_after setup t) c a.call r x ≡ false) → ((x : Thing) → ends a.call r x ≡ false)
      → flushes a.call r ≡ false
      → MayReply (state_after setup t) c a.call r → IsJustified setup t (inner move (Some r) None) a.call r
      → (IsAlone t (inner move (Some r) None) → r ≡ alone (state_after setup t) c a.call)
      → IsGood setup cores t (inner move (Some r) None) (core_in_call (cores c) ((cores c).own.made + calls_counted r)
      (next_at a found (Decided r None Nothing)))
  decides_on move r found looks lands same opens state one none_begins none_ends no_flush permitted justified first =
      decides_with move r Nothing found looks lands same opens state one none_begins none_ends no_flush permitted justified first tt
