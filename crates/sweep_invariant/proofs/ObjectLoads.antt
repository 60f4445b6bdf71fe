-- The step of a retype to untyped that looks at a word of the object in its frame: what it finds is what the object is, and it goes on, or
-- the object is not empty.
use Rattle.freeze_invariant.specs.step_ways.proofs.{◌≡◌, ◌≢◌, inl, inr, ℕ, ◌+◌, ◌<◌, ◌≤◌, ltb as nat_lt, Bool, true, false, List, ◌∷◌}
use Rattle.freeze_invariant.specs.step_ways.proofs.{Option, Some, None, arith, refl, sym, ◌∙◌, ap, subst, ltb-false, Setting, IsSetting}
use Rattle.freeze_invariant.specs.step_ways.proofs.{Reply, CountWord, FrameWord, EntryAt, Move, LoadOf, State, Thing, FrameOf, PlaceOf}
use Rattle.freeze_invariant.specs.step_ways.proofs.{is_untyped, is_empty, frame_value, stamp, Step, Trace, Open, phase, state_after}
use Rattle.freeze_invariant.specs.step_ways.proofs.{last_left, refused_first, latest_stamp, loads_of, at_after, end_by, swept_of, Owned}
use Rattle.freeze_invariant.specs.step_ways.proofs.{Sweep, SweepAt, Empty, took_sweep, next_work, release_of, UntypingFits, Untyping, Swept}
use Rattle.freeze_invariant.specs.step_ways.proofs.{Act, Undecided, ActiveCall, landed, Core, holds_counts, KnowsUndecided, holds_in}
use Rattle.freeze_invariant.specs.step_ways.proofs.{Invariant, holds, IsQuiet, KnowsSweep, IsLookedAt, names_of, names_on, limits_of, refs}
use Rattle.freeze_invariant.specs.step_ways.proofs.{frame_names, opened, events_of, sound_of, IsFrameWord, release_entry, IsInFootprint}
use Rattle.freeze_invariant.specs.step_ways.proofs.{if◌then◌else◌, not, Untype as untype_act, OnlyLooks, step_to, inner, loads_on}
use Rattle.freeze_invariant.specs.step_ways.proofs.{decides_with, GoodTook, plan_for}
use Rattle.freeze_invariant.specs.act_states.specs.{OwnedBy, owned_dues}
use Rattle.freeze_invariant.proofs.{sweeping, untyping_by}
use Rattle.freeze_invariant.specs.place_invariant.proofs.Vacancy.{none_waits, none_unflushed}
use Rattle.freeze_invariant.proofs.Counters.{sweep_knows, sweep_held, sweep_counts, sweep_frame, sweep_refs, sweep_since, undo_with}
use Rattle.freeze_invariant.proofs.UntypeCalls.{untypes_on, typed_is}
use Rattle.sweep_invariant.proofs.FreeEntries.{counts_entry, entry_settles}
use Rattle.sweep_invariant.proofs.OwnedFrames.{OwnedApart, owned_apart, names_differ}
use Rattle.{freeze_invariant.specs.act_states.specs.declared.untypings.UntypingAt.TheVariants.Draw}
use Rattle.{freeze_invariant.specs.kept_facts.proofs.Carries.quiet_frame_on, freeze_invariant.specs.core_invariant.specs.Sweeps.IsSwept}
use Rattle.{freeze_invariant.proofs.Counters.undo_known}
use Rattle.freeze_invariant.proofs.UntypeCalls as calls
use Rattle.freeze_invariant.proofs.Continuing as going

module _ (setup : Setting) (setting : IsSetting setup) (cores : ℕ → Core) (t : Trace) (stands : Invariant setup cores t) (c : ℕ)
    (here : c < setup.cores)
    (a : ActiveCall) (active : (cores c).active ≡ Some a) (f core word g : ℕ) (v : FrameWord) (b : ℕ) (kept : List CountWord) (o : Owned)
    (i : ℕ)
    (stage_is : a.stage ≡ Undecided (Act (untype_act (untyping_by f core word (sweeping g v b kept o (Empty i))))))
    (has : KnowsUndecided setup t c (cores c).own.table a (Act (untype_act (untyping_by f core word (sweeping g v b kept o (Empty i))))))
  where
    abbrev s : State
    s = state_after setup t

    abbrev thing : Thing
    thing = FrameOf f

    abbrev w : Sweep
    w = sweeping g v b kept o (Empty i)

    abbrev m : Untyping
    m = untyping_by f core word w

    abbrev load : Move
    load = LoadOf (EntryAt g i)

    abbrev was : ℕ
    was = last_left setup t (EntryAt g i)

    knows : KnowsSweep setup t c f word w
    knows = sweep_knows setup setting cores t stands c here a active f core word w stage_is has

    swept : IsSwept setup t c f kept i o
    swept = knows.at

    pub looked_so_far : IsLookedAt s f (s.frame f) i o
    looked_so_far = swept.looked

    fits : UntypingFits (cores c).own.layout m
    fits = calls.fits setup setting cores t stands c here a active m stage_is has

    pub entry_below : i < loads_of v.object
    entry_below = fits.at.at

    pub owned_fits : OwnedBy v.object o
    owned_fits = fits.at.object

    pub object_frame : v ≡ frame_value (s.frame f)
    object_frame = sweep_frame setup setting cores t stands c here a active f core word w stage_is has

    zero_refs : refs s f ≡ 0
    zero_refs = sweep_refs setup setting cores t stands c here a active f core word w stage_is has swept.frozen

    since : stamp setup t thing ≡ latest_stamp kept
    since = sweep_since setup setting cores t stands c here a active f core word w stage_is has swept.frozen

    quiet : (d : ℕ) → d < setup.cores → d ≢ c → (s.grace thing).waits d ≡ false
    quiet d below other = swept.quiet.passed d below other since

    own_free : (j : ℕ) → (holds (cores c)).marks (EntryAt f j) ≡ false
    own_free j = ap (λ h. h.marks (EntryAt f j)) (ap holds_in active
        ∙ sweep_held setup setting cores t stands c here a active f core word w stage_is has)
        ∙ (release_entry (release_of f word (swept_of w) false) (holds_counts None a.counts) f j).0 ∙ counts_entry None a.counts f j

    -- the word is what the object is
    pub object_says : IsFrameWord setup.frames (s.frame f) (s.place f i) (stamp setup t (PlaceOf f i)) i was
    object_says = subst (λ (n : ℕ). IsFrameWord setup.frames (s.frame f) (s.place f i) (stamp setup t (PlaceOf f i)) i
        (last_left setup t (EntryAt n i))) (sym knows.frame)
        (subst (λ (n : ℕ). IsFrameWord n (s.frame f) (s.place f i) (stamp setup t (PlaceOf f i)) i
        (last_left setup t (EntryAt f i))) (ap (λ l. l.frames) (limits_of setup t))
        (subst (IsFrameWord s.limits.frames (s.frame f) (s.place f i) (stamp setup t (PlaceOf f i)) i)
        (entry_settles setup setting cores t stands f zero_refs c quiet own_free i) (stands.words (EntryAt f i))))

    looks : OnlyLooks setup t c a.call load
    looks = record {
      of_call = record {
        moves = refl;
        footprint = inl (subst (λ (n : ℕ). IsInFootprint c a.call (EntryAt n i) s) (sym knows.frame)
            (calls.footprint setup setting cores t stands c here a active m stage_is has));
      };
      kept = refl;
      apart = λ d. refl;
    }

    is_open : phase t c ≡ Open a.call
    is_open = calls.is_open setup setting cores t stands c here a active m stage_is has

    abbrev pub Took : Owned → Option Reply → Option SweepAt → Type 0
    Took owned r next = GoodTook setup cores t c load (landed a (took_sweep m word
        (sweeping g v b kept owned (at_after (Empty i) r next)) (end_by r next (swept_of
        (sweeping g v b kept owned (at_after (Empty i) r next))))))

    abbrev pub Result : Owned → Option Reply → Type 0
    Result owned r = Took owned r (if nat_lt (i + 1) (loads_of v.object) then Some (Empty (i + 1)) else None)

    -- The object is not empty.
    pub holds_some : (owned : Owned) → is_empty s f (s.frame f) ≡ false → Result owned (Some Reply.NotEmpty)
    holds_some owned full lands =
        let e : Step = inner setup setting cores t stands c here a active load (Some Reply.NotEmpty) None in
        let unspent = calls.unspent setup setting cores t stands c here a active m stage_is has in
        let known : is_untyped (s.frame f) ≡ false = typed_is (s.frame f) v object_frame knows.met.kind in
        decides_with setup setting cores t stands c here a active load Reply.NotEmpty
        (undo_with setup setting cores t stands c here a active f core word w stage_is has kept) a.found looks lands
        (sym (sweep_held setup setting cores t stands c here a active f core word w stage_is has))
        (calls.opens setup setting cores t stands c here a active m stage_is has) refl refl
        (λ y. refl) (λ y. refl) refl (
          unspent,
          calls.may_refuse setup setting cores t stands c here a active m stage_is has Reply.NotEmpty
              (inr (inr (inr (inr (inr (inl (is_full, refl))))))),
        )
        tt
        (λ is_alone. refused_first s c a.call Reply.NotEmpty has.acts unspent
        (calls.by_causes setup setting cores t stands c here a active m stage_is has None None None None (Some Reply.NotEmpty)
        (calls.kind_none setup setting cores t stands c here a active m stage_is has known)
        (calls.refs_none setup setting cores t stands c here a active m stage_is has zero_refs)
        (none_waits s c thing (λ d low other. quiet d (below_cores d low) other))
        (none_unflushed s thing (λ d low. swept.quiet.flushed d (below_cores d low) since))
        (ap (λ x. if x then Some Reply.NotEmpty else None) is_full)))
        (undo_known setup setting cores t stands c here a active f core word w stage_is has (e ∷ t) kept)
      where
        is_full : not (is_empty s f (s.frame f)) ≡ true
        is_full = ap not full

        below_cores : (d : ℕ) → d < s.limits.cores → d < setup.cores
        below_cores d low = subst (λ (n : ℕ). d < n) (ap (λ l. l.cores) (limits_of setup t)) low

    -- It goes on, to the next word, or to the draw.
    pub goes_on : (owned : Owned) → IsLookedAt s f (s.frame f) (i + 1) owned
        → (loads_of v.object ≤ i + 1 → names_of owned.first owned.second ≡ frame_names (s.frame f)) → Result owned None
    goes_on owned looked names = by (nat_lt (i + 1) (loads_of v.object)) refl
      where
        quiet_then : (u : Trace) → ((y upto flushes : ℕ) → IsQuiet setup t c f y upto flushes → IsQuiet setup u c f y upto flushes)
            → IsQuiet setup u c f (latest_stamp kept) setup.cores setup.cores
        quiet_then u carry = carry (latest_stamp kept) setup.cores setup.cores swept.quiet

        more_words : Took owned None (Some (Empty (i + 1)))
        more_words lands =
            let e : Step = step_to c None load (last_left setup t (EntryAt g i)) None None in
            loads_on setup setting cores t stands c here a active load a.found
            (Undecided (Act (untype_act (untyping_by f core word (sweeping g v b kept owned (Empty (i + 1))))))) looks lands
            (sym (sweep_held setup setting cores t stands c here a active f core word w stage_is has))
            (calls.opens setup setting cores t stands c here a active m stage_is has)
            (λ carries. record {
              acts = has.acts;
              names = names_on setup setting t e stands.legal c a.call is_open carries (cores c).own.table (plan_for a.call) a.found
                  has.names;
              knows = record {
                knows = record {
                  untypes = untypes_on a.call a.found m (untyping_by f core word (sweeping g v b kept owned (Empty (i + 1)))) refl
                      has.knows.knows.untypes;
                  core = has.knows.knows.core;
                  at = record {
                    frame = knows.frame;
                    core = knows.core;
                    met = knows.met;
                    kept = knows.kept;
                    at = record {
                      frozen = swept.frozen;
                      quiet = quiet_then (e ∷ t)
                          (λ y upto flushes. quiet_frame_on setup setting t e stands.legal c a.call is_open carries f y upto
                          flushes);
                      looked = looked;
                    };
                  };
                };
                all = has.knows.all;
                goes = refl;
              };
            })

        whole : loads_of v.object ≤ i + 1 → Took owned None None
        whole last lands =
            let e : Step = step_to c None load (last_left setup t (EntryAt g i)) None None in
            let no_counts = sweep_counts setup setting cores t stands c here a active f core word w stage_is has in
            let done : Swept = swept_of (sweeping g v b kept owned (Empty i)) in
            let apart : OwnedApart f (owned_dues owned) =
            owned_apart f owned.first owned.second (subst (Rattle.sweep_invariant.proofs.OwnedFrames.Differ f) (sym (names last))
            (names_differ s (opened (events_of t)) (sound_of setup setting t stands.legal) f (i + 1) owned
            (subst (λ (x : FrameWord). loads_of x.object ≤ i + 1) object_frame last) looked)) in
            loads_on setup setting cores t stands c here a active load a.found
            (Undecided (next_work core 0 (untype_act (record { frame = f; core = core; at = Draw word done })))) looks lands
            (going.done_holds setup c (cores c).own.table a no_counts f core word has.knows.knows.core
            (λ n is. untypes_on a.call a.found m n is has.knows.knows.untypes) done (holds_counts None a.counts)
            ∙ sym (sweep_held setup setting cores t stands c here a active f core word w stage_is has))
            (calls.opens setup setting cores t stands c here a active m stage_is has)
            (λ carries. record {
              acts = has.acts;
              names = names_on setup setting t e stands.legal c a.call is_open carries (cores c).own.table (plan_for a.call) a.found
                  has.names;
              knows = going.done_knows setup c (cores c).own.table a no_counts f core word has.knows.knows.core
                  (λ n is. untypes_on a.call a.found m n is has.knows.knows.untypes) (e ∷ t) done
                  (record {
                    frame = knows.frame;
                    shown = v;
                    met = knows.met;
                    kept = knows.kept;
                    swept = record {
                      frozen = swept.frozen;
                      quiet = quiet_then (e ∷ t)
                          (λ y upto flushes. quiet_frame_on setup setting t e stands.legal c a.call is_open carries f y
                          upto flushes);
                      looked = subst (λ (n : ℕ). IsLookedAt s f (s.frame f) n owned)
                          (let l = last in let k = entry_below in omega (arith, l, k)) looked;
                    };
                    names = names last;
                  }) apart.apart;
            })

        by : (more : Bool) → nat_lt (i + 1) (loads_of v.object) ≡ more → Took owned None (if more then Some (Empty (i + 1)) else None)
        by true is = more_words
        by false is = whole (ltb-false (i + 1) (loads_of v.object) is)
