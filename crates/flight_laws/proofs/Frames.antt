-- What holds of frames that are made untyped, and that a node through which a call has looked stays till the call returns.
use Rattle.time_laws.specs as low
use low.kept_facts.proofs.{◌≡◌, ◌≢◌, ◌⊎◌, inl, inr, ℕ, ◌<◌, Bool, true, false, IsTrue, [], ◌∷◌, ◌++◌, Option, Some, None, refl, sym, ◌∙◌}
use low.kept_facts.proofs.{ap, subst, eq-eqb, eqb-true, false≢true, Setting, IsSetting, InLimits, Call, Retype, Reply, EntryAt, CountAt}
use low.kept_facts.proofs.{word_of, Frame, FrameOf, State, refs, fits, is_node, Relies, MayReply, ends, opened, MayDecide, MayFollow}
use low.kept_facts.proofs.{IsLegal, marked_by, is_in, ends_at, ends_in, Step, Trace, Phase, Open, phase, after_enter, after_decide}
use low.kept_facts.proofs.{after_return, state_after, state_before, state_entered, state_decided, state_returned, own_read, run_of}
use low.kept_facts.proofs.{cases_word, open_inj, sound_of, opened_is, phase-own, phase-other, own_read-here, own_read-there, Invariant}
use low.kept_facts.proofs.{Core, CallIs, Untyping, move_of, Make as make_call, MayEnter, entered_events, FrameKind, Kind}
use low.kernel_history.proofs.{Decided, plain_phase, entered_phase, entered_run, own_read-other, counter_all, Make}
use low.history_laws.specs.{UntypedFramesAreUnused, CountedFramesStay, LookedNodesStay, ReadNodesStay}
use low.history_laws.specs.Frames.{MakesUntyped, GoesOn, IsLooked, asks_untyped, ReadsNode}
use Rattle.flight_laws.proofs.Places.{IsNoEntry, IsBeside, beside_other, beside_own, beside_no_node, WasOpen, was_open, has_read}
use Rattle.flight_laws.proofs.Places.{entered_none, comp_no_node, tcap_no_node, swept_other, swept_own, no_entry_kept, enters_none}
use Rattle.flight_laws.proofs.Sweeping.{IsSwept, swept_no_node, untyping_now, looks_asked}
use low.{flight.specs.turned, flight.specs.cores_after, flight.specs.IsMade, kernel_history.specs.DecidesBy, kernel_history.specs.reads}
use low.{kernel_history.specs.only_reads, kernel_laws.proofs.ends_by_rule, kernel_laws.proofs.IsOpen, kernel_laws.proofs.open_limits}
use low.{trace_laws.proofs.opens, trace_laws.proofs.stays_in_other, spk_nums.specs.declared.replies.Reply.TheVariants.Ok}
use low.{found_stays.proofs.Apart.node_fixed, trace_laws.proofs.Stays.Stays, trace_laws.proofs.Stays.stays_other}
use low.{trace_laws.proofs.Stays.stays_plain, state_laws.proofs.Flushes.frame_flushed, state_laws.proofs.Relied.own_frame}
use low.{state_laws.proofs.Relied.own_relies, flight.proofs.Made.made_stands, flight.proofs.Made.made_counted}
use Rattle.{std.proofs.lemmas.Bool.cases_eq, flight_laws.proofs.Places.read_rests, flight_laws.proofs.Places.step_relies}

-- It is the end of the frame's grace period.
untyping_ends : (t : Trace) (e : Step) (f : ℕ) → MakesUntyped t e f → ends_at t e (FrameOf f) ≡ true
untyping_ends t e f is = ap (λ o. ends_in o (after_enter e.enters (phase t e.core)) (FrameOf f)) is.decides
    ∙ ap (λ p. ends_in (Some (Ok is.value)) p (FrameOf f)) is.call ∙ eq-eqb f f refl

ends_untyping : (t : Trace) (e : Step) (f : ℕ) → ends_at t e (FrameOf f) ≡ true → MakesUntyped t e f
ends_untyping t e f ended = by e.decides refl (after_enter e.enters (phase t e.core)) refl ended
  where
    by_call : (call : Call) (r : Reply) → e.decides ≡ Some r → after_enter e.enters (phase t e.core) ≡ Open call
        → ends call r (FrameOf f) ≡ true → MakesUntyped t e f
    by_call (Retype r g FrameKind.Untyped) (Ok v) decides is h = record {
      range = r;
      value = v;
      decides = decides;
      call = is ∙ ap (λ (n : ℕ). Open (Retype r n FrameKind.Untyped)) (sym (eqb-true f g h));
    }
    by_call (make_call Make.Table r g t b) (Ok v) decides is h = absurd (false≢true h)
    by_call call (Ok v) decides is h = absurd (false≢true h)
    by_call _ _ decides is h = absurd (false≢true h)

    by : (o : Option Reply) → e.decides ≡ o → (p : Phase) → after_enter e.enters (phase t e.core) ≡ p → ends_in o p (FrameOf f) ≡ true
        → MakesUntyped t e f
    by (Some r) decides (Open call) is h = by_call call r decides is h
    by _ decides _ is h = absurd (false≢true h)

pub counted_frames_stay : (setup : Setting) → IsSetting setup → (t : Trace) (e : Step) → IsMade setup (e ∷ t) → CountedFramesStay setup t e
counted_frames_stay setup setting t e made f is d below c mark = same_core c e.core (sym mark
    ∙ counter_all (λ k. marked_by setup t (CountAt f k) ≡ Some e.core) setup.cores d below
    (made_counted setup setting t e made f (untyping_ends t e f is)))
  where
    same_core : (x y : ℕ) → Some x ≡ Some y → x ≡ y
    same_core x y h = cc

pub untyped_unused : (setup : Setting) → IsSetting setup → (t : Trace) (e : Step) → IsMade setup (e ∷ t) → UntypedFramesAreUnused setup t e
untyped_unused setup setting t e made f is = record { none = ended.0; waits = ended.1; flushed = all_flushed }
  where
    legal : IsLegal setup (e ∷ t)
    legal = (made_stands setup setting (e ∷ t) made).legal

    call : Call
    call = Retype is.range f FrameKind.Untyped

    may : DecidesBy setup t e (Ok is.value) (Open call)
    may = subst (DecidesBy setup t e (Ok is.value)) is.call
        (subst (λ o. MayDecide setup t e o (after_enter e.enters (phase t e.core))) is.decides legal.1.decides)

    permitted : MayReply (state_before setup t e) e.core call (Ok is.value)
    permitted = subst (λ k. MayReply (state_before setup t e) e.core k (Ok is.value)) (open_inj may.call call may.is_open) may.permitted

    open_now : IsOpen (state_before setup t e) (opened (entered_events t e)) e.core
    open_now = opens setup setting t legal.0 e legal.1 call is.call

    ended : (refs (state_before setup t e) f ≡ 0)
        × ((d : ℕ) → d < (state_before setup t e).limits.cores → d ≢ e.core → ((state_before setup t e).grace (FrameOf f)).waits d ≡ false)
    ended = ends_by_rule (state_before setup t e) (opened (entered_events t e)) e.core open_now call (Ok is.value) (FrameOf f) permitted
        (eq-eqb f f refl)

    all_flushed : (d : ℕ) → d < (state_before setup t e).limits.cores → ((state_before setup t e).grace (FrameOf f)).unflushed d ≡ false
    all_flushed = frame_flushed (state_before setup t e) e.core call (Ok is.value) f permitted (eq-eqb f f refl)

-- A call that is open, and has looked through a node, relies on it.
abbrev Rests : Setting → Trace → ℕ → ℕ → Type 0
Rests setup t c f = Relies (state_after setup t) c f ⊎ IsNoEntry setup t c f

abbrev LookedRests : Setting → Trace → Type 0
LookedRests setup t = (c : ℕ) (call : Call) → phase t c ≡ Open call → (f i w : ℕ)
    → own_read t c (EntryAt f i) ≡ Some w → IsLooked call w → Rests setup t c f

none_some : (w : ℕ) → None ≡ Some w → ⊥
none_some w h = cc

module _ (setup : Setting) (setting : IsSetting setup) where
  rests_kept : (t : Trace) (e : Step) (c f : ℕ) → Stays setup t e c
      → (IsSwept (cores_after setup t c).active f → IsSwept (cores_after setup (e ∷ t) c).active f)
      → (IsBeside (state_after setup t) c f → IsBeside (state_after setup (e ∷ t)) c f) → Rests setup t c f
      → Rests setup (e ∷ t) c f
  rests_kept t e c f stays sweeps beside (inl relies) = inl (stays.relies f relies)
  rests_kept t e c f stays sweeps beside (inr none) = inr (no_entry_kept setup setting t e c f stays sweeps beside none)

  rests_on : (t : Trace) (e : Step) → IsMade setup (e ∷ t) → LookedRests setup t → LookedRests setup (e ∷ t)
  rests_on t e made rests c call is f i w read looked = elim (cases_eq c e.core) [
    | inr other ↦ (let before : phase t c ≡ Open call = sym (phase-other c e t other) ∙ is in
        let legal : IsLegal setup (e ∷ t) = (made_stands setup setting (e ∷ t) made).legal in
        rests_kept t e c f (stays_other setup setting t legal.0 e legal.1 c other call before) (swept_other setup setting t e c f other)
        (beside_other setup setting t e made c f call other before)
        (rests c call before f i w (sym (own_read-other c e t other (EntryAt f i)) ∙ read) looked))
    | inl same ↦ subst (λ (d : ℕ). Rests setup (e ∷ t) d f) (sym same)
        (by_own (subst (λ (d : ℕ). phase (e ∷ t) d ≡ Open call) same is)
        (subst (λ (d : ℕ). own_read (e ∷ t) d (EntryAt f i) ≡ Some w) same read))
  ] where
    opened_so : e.enters ≡ None → phase (e ∷ t) e.core ≡ Open call → WasOpen e.decides e.returns (phase t e.core) call
    opened_so no_entry now = was_open e.decides e.returns (phase t e.core) call
        (ap (λ o. after_return e.returns (after_decide e.decides (after_enter o (phase t e.core)))) (sym no_entry)
        ∙ sym (phase-own e.core e t refl) ∙ now)

    through : e.enters ≡ None → WasOpen e.decides e.returns (phase t e.core) call → Stays setup t e e.core
    through no_entry was = stays_plain setup t e e.core no_entry was.no_decision was.no_return

    by_own : phase (e ∷ t) e.core ≡ Open call → own_read (e ∷ t) e.core (EntryAt f i) ≡ Some w → Rests setup (e ∷ t) e.core f
    by_own now read_so = elim (cases_word (EntryAt f i) (word_of e.move)) [
      | inl on ↦ (let no_entry : e.enters ≡ None = enters_none setup setting t e made e.enters refl f i on in
          let was : WasOpen e.decides e.returns (phase t e.core) call = opened_so no_entry now in
          read_rests setup setting t e made call was.before no_entry was.no_decision was.no_return f i w on
          (has_read e w (only_reads e) refl (sym (own_read-here e.core e t refl (EntryAt f i) on) ∙ read_so)) looked)
      | inr there ↦ (let had : (e.enters ≡ None) × (own_read t e.core (EntryAt f i) ≡ Some w) =
          entered_none e.enters (own_read t e.core (EntryAt f i)) w
          (sym (own_read-there e.core e t refl (EntryAt f i) there) ∙ read_so) in
          let was : WasOpen e.decides e.returns (phase t e.core) call = opened_so had.0 now in
          rests_kept t e e.core f (through had.0 was)
          (swept_own setup setting t e made.1 had.0 was.no_decision was.no_return f)
          (beside_own setup setting t e had.0 was.no_decision was.no_return e.core f)
          (rests e.core call was.before f i w had.1 looked))
    ]

  rests_along : (t : Trace) → IsMade setup t → LookedRests setup t
  rests_along [] made = λ c call is f i w read looked. absurd (none_some w read)
  rests_along (e ∷ t) made = rests_on t e made (rests_along t made.0)

  rests_relies : (t : Trace) → IsMade setup t → (c : ℕ) (call : Call) → phase t c ≡ Open call → (f : ℕ) → Rests setup t c f
      → IsTrue (is_node ((state_after setup t).frame f)) → Relies (state_after setup t) c f
  rests_relies t made c call is f rests node = by rests
    where
      stands : Invariant setup (cores_after setup t) t
      stands = made_stands setup setting t made

      below : c < (state_after setup t).limits.cores
      below = ((sound_of setup setting t stands.legal).inside c (opened_is t c call is)).1

      by : Rests setup t c f → Relies (state_after setup t) c f
      by (inl relies) = relies
      by (inr (inl own)) = absurd (false≢true (sym (tcap_no_node ((state_after setup t).frame f)
          (subst (λ (g : ℕ). IsTrue (fits Kind.Tcap ((state_after setup t).frame g))) own
          ((sound_of setup setting t stands.legal).cores c below).1)) ∙ node))
      by (inr (inr (inl comp))) = absurd (comp_no_node ((state_after setup t).frame f) comp.comp node)
      by (inr (inr (inr (inl swept)))) =
          absurd (false≢true (sym (swept_no_node setup (cores_after setup t) t stands c f swept) ∙ node))
      by (inr (inr (inr (inr is)))) = absurd (false≢true
          (sym (beside_no_node (state_after setup t) c f ((sound_of setup setting t stands.legal).cores c below).0 is) ∙ node))

  looked_relies : (t : Trace) → IsMade setup t → (c : ℕ) (call : Call) → phase t c ≡ Open call → (f i w : ℕ)
      → own_read t c (EntryAt f i) ≡ Some w → IsLooked call w → IsTrue (is_node ((state_after setup t).frame f))
      → Relies (state_after setup t) c f
  looked_relies t made c call is f i w read looked node =
      rests_relies t made c call is f (rests_along t made c call is f i w read looked) node

  -- a step that reads an entry of a node that the call is not asked to make untyped, whether it decides the call or not
  module _ (t : Trace) (e : Step) (made : IsMade setup (e ∷ t)) (f : ℕ) (is : ReadsNode setup t e f) where
    abbrev core : Core
    core = cores_after setup t e.core

    enters_nothing : e.enters ≡ None
    enters_nothing = enters_none setup setting t e made e.enters refl f is.entry (sym is.on)

    reads_relies : Relies (state_after setup t) e.core f
    reads_relies = rests_relies t made.0 e.core is.call is.is_open f (by (untyping_now core.active) refl) is.node
      where
        stands : Invariant setup (cores_after setup t) t
        stands = made_stands setup setting t made.0

        move_is : e.move ≡ move_of (turned None core)
        move_is = ap (λ (x : Step). x.move) made.1.made ∙ ap (λ o. move_of (turned o core)) enters_nothing

        its : CallIs setup t e.core core.own.table core.active
        its = (stands.each e.core made.1.is_core).active

        moves : word_of (move_of core) ≡ EntryAt f is.entry
        moves = sym (ap word_of move_is) ∙ is.on

        by : (o : Option Untyping) → untyping_now core.active ≡ o → Rests setup t e.core f
        by None at = step_relies setup setting t (cores_after setup t) stands e.core is.call is.is_open f is.entry core.own.table core.own
            core.active its moves (sym (ap reads move_is) ∙ is.by_read) at
        by (Some m) at = absurd (false≢true (sym is.apart
            ∙ looks_asked setup t e.core core.own.table core.own is.call is.is_open f is.entry core.active its moves m at))

    ends_not : ends_at t e (FrameOf f) ≡ false
    ends_not = by (ends_at t e (FrameOf f)) refl
      where
        asked : MakesUntyped t e f → ⊥
        asked m = false≢true (sym is.apart ∙ ap (λ k. asks_untyped k f) (open_inj is.call (Retype m.range f FrameKind.Untyped)
            (sym m.call ∙ ap (λ o. after_enter o (phase t e.core)) enters_nothing ∙ is.is_open)) ∙ eq-eqb f f refl)

        by : (b : Bool) → ends_at t e (FrameOf f) ≡ b → ends_at t e (FrameOf f) ≡ false
        by true ended = absurd (asked (ends_untyping t e f ended))
        by false ended = ended

-- A core that is in a call relies on a node, which is this still.
record IsThere (setup : Setting) (t : Trace) (c f : ℕ) (x : Frame) : Type 0 where
  inside : is_in (phase t c) ≡ true
  relies : Relies (state_after setup t) c f
  same : (state_after setup t).frame f ≡ x

-- So it is after a step by which the core does not return, and does not make the frame untyped.
module _ (setup : Setting) (setting : IsSetting setup) (t : Trace) (legal : IsLegal setup t) (e : Step) (follows : MayFollow setup t e)
    (c f : ℕ) (x : Frame) (there : IsThere setup t c f x) where
  there_other : c ≢ e.core → IsThere setup (e ∷ t) c f x
  there_other other =
      let stays = stays_in_other setup setting t legal e follows c other there.inside in record {
        inside = ap is_in (phase-other c e t other) ∙ there.inside;
        relies = stays.relies f there.relies;
        same = stays.frame f (node_fixed ((state_after setup t).frame f) there.relies.node) there.relies.guarded ∙ there.same;
      }

  module _ (own : e.core ≡ c) (no_return : e.returns ≡ None) (not_ends : ends_at t e (FrameOf f) ≡ false) where
    abbrev before : State
    before = state_before setup t e

    abbrev entered : Phase
    entered = after_enter e.enters (phase t e.core)

    inside_own : is_in (phase t e.core) ≡ true
    inside_own = ap (λ (d : ℕ). is_in (phase t d)) own ∙ there.inside

    no_entry : e.enters ≡ None
    no_entry = by e.enters refl follows.enters
      where
        by : (o : Option Call) → e.enters ≡ o → MayEnter o (phase t e.core) → e.enters ≡ None
        by None is may = is
        by (Some call) is may = absurd (false≢true (sym (ap is_in may.0) ∙ inside_own))

    before_is : before ≡ state_after setup t
    before_is = ap (λ o. state_entered o (state_after setup t) e.core) no_entry

    relies_before : Relies before e.core f
    relies_before = subst (λ s. Relies s e.core f) (sym before_is)
        (subst (λ (d : ℕ). Relies (state_after setup t) d f) (sym own) there.relies)

    same_before : before.frame f ≡ x
    same_before = ap (λ s. s.frame f) before_is ∙ there.same

    -- what a decision leaves of it
    record Keeps (s : State) : Type 0 where
      keeps : Relies s e.core f
      still : s.frame f ≡ x

    by_decision : (o : Option Reply) (p : Phase) → entered ≡ p → MayDecide setup t e o p → ends_in o p (FrameOf f) ≡ false
        → Keeps (state_decided o p before e.core)
    by_decision (Some r) (Open call) is may none =
        let now : IsOpen before (opened (entered_events t e)) e.core = opens setup setting t legal e follows call is in
        let limits : InLimits call = open_limits setup (entered_events t e) e.core call
        (entered_run setup t e legal follows (run_of setup t legal)) (entered_phase t e ∙ ap plain_phase is) in
        let permitted : MayReply before e.core call r = subst (λ k. MayReply before e.core k r) (open_inj may.call call may.is_open)
        may.permitted in
        record {
          keeps = own_relies before (opened (entered_events t e)) e.core call r now limits permitted f none relies_before;
          still = own_frame before (opened (entered_events t e)) e.core call r now limits permitted f none relies_before.node ∙ same_before;
        }
    by_decision _ _ is may none = record { keeps = relies_before; still = same_before }

    keeps_now : Keeps (state_after setup (e ∷ t))
    keeps_now = subst (λ q. Keeps (state_returned q (state_decided e.decides entered before e.core) e.core)) (sym no_return)
        (by_decision e.decides entered refl follows.decides not_ends)

    stays_in : (o : Option Reply) (p : Phase) → is_in p ≡ true → is_in (after_decide o p) ≡ true
    stays_in (Some r) (Open call) is = refl
    stays_in (Some r) (Decided call q) is = refl
    stays_in _ _ is = is

    there_own : IsThere setup (e ∷ t) c f x
    there_own = record {
      inside = ap is_in (phase-own c e t (sym own))
          ∙ ap (λ q. is_in (after_return q (after_decide e.decides (after_enter e.enters (phase t c))))) no_return
          ∙ ap (λ o. is_in (after_decide e.decides (after_enter o (phase t c)))) no_entry
          ∙ stays_in e.decides (phase t c) there.inside;
      relies = subst (λ (d : ℕ). Relies (state_after setup (e ∷ t)) d f) own keeps_now.keeps;
      same = keeps_now.still;
    }

there_along : (setup : Setting) → IsSetting setup → (u t : Trace) → IsMade setup (u ++ t) → (c f : ℕ)
    → (x : Frame) → IsThere setup t c f x → GoesOn u t c f → IsThere setup (u ++ t) c f x
there_along setup setting [] t made c f x there goes = there
there_along setup setting (e ∷ u) t made c f x there goes =
    let legal : IsLegal setup (e ∷ u ++ t) = (made_stands setup setting (e ∷ u ++ t) made).legal in
    let before : IsThere setup (u ++ t) c f x = there_along setup setting u t made.0 c f x there goes.0 in
    elim (cases_eq e.core c) [
      | inr other ↦ there_other setup setting (u ++ t) legal.0 e legal.1 c f x before (λ same. other (sym same))
      | inl own ↦ there_own setup setting (u ++ t) legal.0 e legal.1 c f x before own (goes.1 own).0
          (not_true (ends_at (u ++ t) e (FrameOf f)) (λ ends. (goes.1 own).1 (ends_untyping (u ++ t) e f ends)))
    ]
  where
    not_true : (b : Bool) → (b ≡ true → ⊥) → b ≡ false
    not_true true never = absurd (never refl)
    not_true false never = refl

made_before : (setup : Setting) (u t : Trace) → IsMade setup (u ++ t) → IsMade setup t
made_before setup [] t made = made
made_before setup (g ∷ u) t made = made_before setup u t made.0

pub looked_nodes_stay : (setup : Setting) → IsSetting setup → (u t : Trace) → IsMade setup (u ++ t) → LookedNodesStay setup u t
looked_nodes_stay setup setting u t made c call is f i w read looked node goes =
    (there_along setup setting u t made c f ((state_after setup t).frame f) (record {
      inside = ap is_in is;
      relies = looked_relies setup setting t (made_before setup u t made) c call is f i w read looked node;
      same = refl;
    }) goes).same

pub read_nodes_stay : (setup : Setting) → IsSetting setup → (u t : Trace) → IsMade setup (u ++ t) → ReadNodesStay setup u t
read_nodes_stay setup setting u [] made = tt
read_nodes_stay setup setting u (e ∷ t) made = λ f is no_return goes.
    let made_now : IsMade setup (e ∷ t) = made_before setup u (e ∷ t) made in
    let legal : IsLegal setup (e ∷ t) = (made_stands setup setting (e ∷ t) made_now).legal in
    let x : Frame = (state_after setup t).frame f in
    let there : IsThere setup t e.core f x = record {
      inside = ap is_in is.is_open;
      relies = reads_relies setup setting t e made_now f is;
      same = refl;
    } in
    (there_along setup setting u (e ∷ t) made e.core f x
    (there_own setup setting t legal.0 e legal.1 e.core f x there refl no_return (ends_not setup setting t e made_now f is)) goes).same
