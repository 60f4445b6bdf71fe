-- What cores have cached stands, as in the sequential kernel, and stays cached till they flush; and what a touch answers is cached.
use Rattle.time_laws.specs.kernel_history.proofs as low
use low.{◌≡◌, ◌⊎◌, inl, inr, ℕ, ◌≤◌, true, false, List, [], ◌∷◌, ◌++◌, length, Option, Some, None, refl, sym, ◌∙◌, ap, subst, false≢true}
use low.{Setting, IsSetting, Call, Touch, Reply, Translation, User, State, comp_of, translation_of, state_by, IsRun, put_same, events_of}
use low.{IsLegal, flushes_in, Step, Phase, phase, after_enter, state_after, state_before, state_entered, state_decided, state_returned}
use low.{state_is, run_of, Core, with_decision, entered_events, before_is, decided_run}
use Rattle.time_laws.specs.state_laws.specs.{Stands, Begins, Answers}
use Rattle.time_laws.specs.kernel_rules.specs.{Page, returned, MayDecide}
use Rattle.time_laws.specs.flight.proofs.{Trace, Open, IsMade}
use Rattle.time_laws.specs.state_laws.proofs.{CachedLaw.translations_stand, Lists.begins_same, Lists.begins_then, Lists.decided_keeps}
use Rattle.time_laws.specs.history_laws.specs.Pages.{CachedFramesStay, FlushesNone, CachedTillFlush, TouchesCache}
use Rattle.{std.specs.List.AllByRecursion, time_laws.specs.spk_nums.specs.declared.replies.Reply.TheVariants.Ok}
use Rattle.{time_laws.specs.kernel_invariant.proofs.Sound.put_all, time_laws.specs.state_laws.proofs.Touched.touches_cache as run_caches}
use Rattle.{time_laws.specs.flight.proofs.Made.made_stands}

pub cached_frames_stay : (setup : Setting) → IsSetting setup → (t : Trace) → IsMade setup t → CachedFramesStay setup t
cached_frames_stay setup setting t made c here =
    subst (λ s. AllByRecursion (Stands s c) (s.core c).cached) (sym (state_is setup t))
    (translations_stand setup setting (events_of t) (run_of setup t (made_stands setup setting t made).legal) c here)

-- The list of core c goes on through a step, unless it decides a flush of c.
entered_begins : (o : Option Call) (s : State) (d c : ℕ) → Begins (s.core c).cached ((state_entered o s d).core c).cached
entered_begins None s d c = begins_same (s.core c).cached
entered_begins (Some call) s d c = put_all (λ c x. Begins (s.core c).cached x.cached) s.core d (record (s.core d) { inside = true }) c
    (λ same. subst (λ n. Begins (s.core n).cached (s.core d).cached) (sym same) (begins_same (s.core d).cached))
    (λ other. begins_same (s.core c).cached)

returned_begins : (o : Option Reply) (s : State) (d c : ℕ) → Begins (s.core c).cached ((state_returned o s d).core c).cached
returned_begins None s d c = begins_same (s.core c).cached
returned_begins (Some r) s d c = put_all (λ c x. Begins (s.core c).cached x.cached) s.core d (record (s.core d) { inside = false }) c
    (λ same. subst (λ n. Begins (s.core n).cached (s.core d).cached) (sym same) (begins_same (s.core d).cached))
    (λ other. begins_same (s.core c).cached)

decided_begins : (o : Option Reply) (p : Phase) (s : State) (d c : ℕ) → (c ≡ d → flushes_in o p ≡ false)
    → Begins (s.core c).cached ((state_decided o p s d).core c).cached
decided_begins (Some r) (Open call) s d c none =
    (decided_keeps s d call r).each c (λ flushing same. false≢true (sym (none same) ∙ flushing))
decided_begins _ _ s d c none = begins_same (s.core c).cached

trace_begins : (setup : Setting) (u t : Trace) (c : ℕ) → FlushesNone c u t
    → Begins ((state_after setup t).core c).cached ((state_after setup (u ++ t)).core c).cached
trace_begins setup [] t c none = begins_same ((state_after setup t).core c).cached
trace_begins setup (e ∷ u) t c none =
    begins_then ((state_after setup t).core c).cached (before.core c).cached ((state_after setup (e ∷ u ++ t)).core c).cached
    (begins_then ((state_after setup t).core c).cached ((state_after setup (u ++ t)).core c).cached (before.core c).cached
    (trace_begins setup u t c none.0) (entered_begins e.enters (state_after setup (u ++ t)) e.core c))
    (begins_then (before.core c).cached (now.core c).cached ((state_after setup (e ∷ u ++ t)).core c).cached
    (decided_begins e.decides p before e.core c none.1) (returned_begins e.returns now e.core c))
  where
    p : Phase
    p = after_enter e.enters (phase (u ++ t) e.core)

    before : State
    before = state_before setup (u ++ t) e

    now : State
    now = state_decided e.decides (after_enter e.enters (phase (u ++ t) e.core)) before e.core

-- What holds of all of a list holds of all with which it begins.
first_all : (P Q : Translation → Type 0) → ((x : Translation) → P x → Q x) → (xs more : List Translation) → AllByRecursion P (xs ++ more)
    → AllByRecursion Q xs
first_all P Q f [] more all = tt
first_all P Q f (x ∷ xs) more all = (f x all.0, first_all P Q f xs more all.1)

pub cached_till_flush : (setup : Setting) → IsSetting setup → (u t : Trace) → IsMade setup (u ++ t) → CachedTillFlush setup u t
cached_till_flush setup setting u t made c here none =
    let begins = trace_begins setup u t c none in
    let s' : State = state_after setup (u ++ t) in
    record {
      begins = begins;
      users = first_all (Stands s' c) (λ x. s'.frame x.frame ≡ User) (λ x stands. stands.user) ((state_after setup t).core c).cached
          begins.more (subst (AllByRecursion (Stands s' c)) begins.is (cached_frames_stay setup setting (u ++ t) made c here));
    }

-- What a decided touch has cached is cached still where its core returns with the same step.
returns_still : (o : Option Reply) (s t : State) (c : ℕ) (x : Translation) → Answers s t c x → Answers s (state_returned o t c) c x
returns_still None s t c x a = a
returns_still (Some r) s t c x a = record { user = a.user; cached = by a.cached }
  where
    list : ((returned t c).core c).cached ≡ (t.core c).cached
    list = ap (λ (k : Core). k.cached) (put_same t.core c (record (t.core c) { inside = false }) c refl)

    by : (translation_of (t.core c).cached x.pages x.page ≡ Some x)
        ⊎ ((64 ≤ length (s.core c).cached) × ((t.core c).cached ≡ (s.core c).cached))
        → (translation_of ((returned t c).core c).cached x.pages x.page ≡ Some x)
        ⊎ ((64 ≤ length (s.core c).cached) × (((returned t c).core c).cached ≡ (s.core c).cached))
    by (inl has) = inl (ap (λ l. translation_of l x.pages x.page) list ∙ has)
    by (inr full) = inr (full.0, list ∙ full.1)

pub touches_cache : (setup : Setting) → IsSetting setup → (e : Step) (t : Trace) → IsMade setup (e ∷ t) → TouchesCache setup t e
touches_cache setup setting e t made v f flags opens decides =
    subst (λ o. Answers before (state_returned e.returns (state_decided o p before e.core) e.core) e.core x) (sym decides)
    (subst (λ q. Answers before (state_returned e.returns (state_decided (Some r) q before e.core) e.core) e.core x) (sym opens)
    (returns_still e.returns before (state_by before e.core (Touch v) r) e.core x
    (subst (λ s. Answers s (state_by s e.core (Touch v) r) e.core (item s)) (sym (before_is setup t e))
    (run_caches setup setting (entered_events t e) decided.0 e.core v f flags made.1.is_core decided.1))))
  where
    r : Reply
    r = Ok (Page f flags)

    p : Phase
    p = after_enter e.enters (phase t e.core)

    before : State
    before = state_before setup t e

    item : State → Translation
    item s = record { pages = (comp_of s e.core).pages; page = v; frame = f; flags = flags }

    x : Translation
    x = item before

    legal : IsLegal setup (e ∷ t)
    legal = (made_stands setup setting (e ∷ t) made).legal

    run : IsRun setup (with_decision e.decides p e.core (entered_events t e))
    run = decided_run setup t e legal.0 legal.1 (run_of setup t legal.0)

    decided : IsRun setup (entered_events t e) × MayDecide setup (entered_events t e) e.core (Touch v) r
    decided = subst (λ q. IsRun setup (with_decision (Some r) q e.core (entered_events t e))) opens
        (subst (λ o. IsRun setup (with_decision o p e.core (entered_events t e))) decides run)
