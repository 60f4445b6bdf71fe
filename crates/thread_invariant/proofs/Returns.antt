-- The loads by which a core that leaves a component reads the component below it are good.
use Rattle.live_invariant.specs.step_ways.proofs.{IsSome, ◌≡◌, inl, ℕ, suc, ◌<◌, ◌≤◌, ◌+◌, ◌-◌, ◌==◌, ◌++◌, map, length, true, false}
use Rattle.live_invariant.specs.step_ways.proofs.{if◌then◌else◌, List, [], ◌∷◌, Option, Some, None, arith, refl, sym, ◌∙◌, ap, subst}
use Rattle.live_invariant.specs.step_ways.proofs.{lt-ltb, Setting, IsSetting, stack_of_word, EntryAt, LoadOf, State, comp_in, thread_of}
use Rattle.live_invariant.specs.step_ways.proofs.{Slot, Found, unless, first_of, rule_of, change_of, is_one_of, footprint_frames}
use Rattle.live_invariant.specs.step_ways.proofs.{HasReached, at_height, Step, Trace, Open, phase, state_after, last_left, own_left, ways}
use Rattle.live_invariant.specs.step_ways.proofs.{Acquired, ReturningAt, Act, Goes, dues, next_work, Undecided, ActiveCall, StageFits}
use Rattle.live_invariant.specs.step_ways.proofs.{HasRoom, landed, Core, HasComp, holds_counts, due_of, KnowsUndecided, phase_at, holds_at}
use Rattle.live_invariant.specs.step_ways.proofs.{holds_in, holds, Invariant, counts_bare, names_on, Return as return_act, OnlyLooks}
use Rattle.live_invariant.specs.step_ways.proofs.{step_to, next_at, call_is, is_active, loads_on, GoodTook, does, plan_for, Reply}
use Rattle.live_invariant.specs.act_states.specs.{frame_in, returning_dues, below_in, meets_below, meets_below_table, meets_below_pages}
use Rattle.live_invariant.specs.core_invariant.specs.{below_of, HasLoadedBelow, KnowsReturning}
use Rattle.live_invariant.specs.count_invariant.proofs.{knows_next, next_holds, one_apart}
use Rattle.live_invariant.specs.kernel_rules.proofs.{lt-leb, Pop as pop_edit}
use Rattle.live_invariant.specs.act_states.specs.declared.invocations.ReturningAt.TheVariants.{LoadBelow, LoadTable, LoadPages, Draw}
use Rattle.live_invariant.specs.act_states.specs.Invocations.{ReturningFits, frame_of_stack}
use Rattle.live_invariant.specs.count_invariant.proofs.StackCounts.{stack_footprint, thread_footprint, below_one}
use Rattle.thread_invariant.proofs.{EntryMarks.counts_apart, CompWords.comp_says, CompWords.table_below, CompWords.pages_below}
use Rattle.thread_invariant.proofs.{CompWords.comp_below, Heights.at_below, Invokes.frame_shown, OwnStack.below_comp, OwnWords.thread_says}
use Rattle.{live_invariant.specs.act_states.specs.Nothing as no_value, std.proofs.lemmas.List.Elements.All-nil}
use Rattle.{live_invariant.specs.act_states.specs.declared.invocations.Returning.Returning}
use Rattle.{live_invariant.specs.act_states.specs.declared.work.Act.Act as ActOf}
use Rattle.{live_invariant.specs.core_invariant.specs.Components.IsBelow, live_invariant.specs.kept_facts.proofs.Carries.returning_on}

-- The component below the top of a stack, by its height.
height_below : (fs : List ℕ) (h : ℕ) → 2 ≤ length fs → h + 2 ≡ length fs → at_height fs h ≡ Some (below_of fs)
height_below [] h deep is = absurd (omega (arith, deep))
height_below (f ∷ []) h deep is = absurd (omega (arith, deep))
height_below (f ∷ g ∷ fs) h deep is = ap (at_height (f ∷ g ∷ fs)) same ∙ at_below f g fs
  where
    same : h ≡ length fs
    same = omega (arith, is)

module _ (setup : Setting) (setting : IsSetting setup) (cores : ℕ → Core) (t : Trace) (stands : Invariant setup cores t) (c : ℕ)
    (here : c < setup.cores)
    (a : ActiveCall) (active : (cores c).active ≡ Some a) (m : Returning) (stage_is : a.stage ≡ Undecided (Act (return_act m)))
    (has : KnowsUndecided setup t c (cores c).own.table a (Act (return_act m))) where
  abbrev s : State
  s = state_after setup t

  abbrev stack : List ℕ
  stack = (thread_of s c).stack

  abbrev below : ℕ
  below = below_of (thread_of s c).stack

  abbrev knows : KnowsReturning s c a.call m
  knows = has.knows.knows

  pub opens : phase_at a.call a.stage ≡ Open a.call
  opens = ap (phase_at a.call) stage_is

  pub is_open : phase t c ≡ Open a.call
  is_open = (call_is setup setting cores t stands c here a active).phase ∙ opens

  pub room : (cores c).own.made < (cores c).own.limit
  room = subst (HasRoom (cores c).own.made (cores c).own.limit) stage_is (is_active setup setting cores t stands c here a active).room

  pub return_fits : ReturningFits (cores c).own.layout m
  return_fits = subst (StageFits (cores c).own.layout) stage_is (is_active setup setting cores t stands c here a active).stage

  pub deep : 2 ≤ length (thread_of s c).stack
  deep = let some = return_fits.some_depth in let same = knows.on.depth in omega (arith, some, same)

  -- what is left of its rule
  pub change : change_of s c a.call ≡ Found (does c s no_value (pop_edit ∷ []))
  change = ap (change_of s c) knows.call_is
      ∙ ap (λ b. unless (first_of (if b then Some Reply.Bottom else None) None) (does c s no_value (pop_edit ∷ [])))
      (lt-leb (length (thread_of s c).stack) 1 (let more = deep in omega (arith, more)))

  pub nothing_gone : (e : Step) → HasReached (e ∷ t) c (ways s c (rule_of s c a.call))
  nothing_gone e = subst (λ x. HasReached (e ∷ t) c (ways s c (rule_of s c x))) (sym knows.call_is)
      (All-nil (λ (x : Slot). IsSome (own_left (e ∷ t) c (EntryAt x.node x.index))))

  pub return_held : holds_in (Some a) ≡ holds_counts None a.counts
  return_held = ap (λ s. holds_at s a.counts) stage_is

  none_kept : (f i : ℕ) → (holds (cores c)).bare f i ≡ None
  none_kept f i = ap (λ h. h.bare f i) (ap holds_in active ∙ return_held) ∙ counts_bare None a.counts f i

  none_marked : (f i : ℕ) → (holds (cores c)).marks (EntryAt f i) ≡ false
  none_marked f i = ap (λ h. h.marks (EntryAt f i)) (ap holds_in active ∙ return_held) ∙ counts_apart None a.counts f i

  frames_are : m.frames ≡ setup.frames
  frames_are = return_fits.frames ∙ ap (λ l. l.frames) (stands.each c here).shape

  dues_at : (at : ReturningAt) → m.at ≡ at → returning_dues m.top at ≡ map due_of a.counts
  dues_at at is = ap (returning_dues m.top) (sym is) ∙ has.knows.all

  pub loaded_at : (at : ReturningAt) → m.at ≡ at → HasLoadedBelow s c at
  loaded_at at is = subst (HasLoadedBelow s c) is knows.at

  looks_at : (f i : ℕ) → is_one_of f (footprint_frames s c a.call) ≡ true → OnlyLooks setup t c a.call (LoadOf (EntryAt f i))
  looks_at f i footprint = record { of_call = record { moves = refl; footprint = inl footprint }; kept = refl; apart = λ d. refl }

  below_footprint : (comp : ℕ) → IsBelow s c comp → is_one_of comp (footprint_frames s c a.call) ≡ true
  below_footprint comp at = stack_footprint s c a.call comp
      (subst (λ (n : ℕ). is_one_of n (thread_of s c).stack ≡ true) (sym at.is) (below_one (thread_of s c).stack deep))

  abbrev load : ℕ → ℕ → Step
  load f i = step_to c None (LoadOf (EntryAt f i)) (last_left setup t (EntryAt f i)) None None

  -- it goes on to the next load
  goes_on_to : (f i : ℕ) → is_one_of f (footprint_frames s c a.call) ≡ true → (at : ReturningAt) → HasLoadedBelow s c at
      → returning_dues m.top at ≡ map due_of a.counts
      → GoodTook setup cores t c (LoadOf (EntryAt f i)) (landed a (Goes (Act (return_act (record m { at = at })))))
  goes_on_to f i footprint at now due lands =
      loads_on setup setting cores t stands c here a active (LoadOf (EntryAt f i)) a.found
      (Undecided (Act (return_act (record m { at = at })))) (looks_at f i footprint) lands (sym return_held) opens
      (λ carries. record {
        acts = has.acts;
        names = names_on setup setting t (load f i) stands.legal c a.call is_open carries (cores c).own.table (plan_for a.call) a.found
            has.names;
        knows = record {
          knows = returning_on setup setting t (load f i) stands.legal c a.call is_open carries a.call (record m { at = at })
              (record { call_is = knows.call_is; core = knows.core; on = knows.on; top = knows.top; at = now });
          all = due;
          goes = refl;
        };
      })

  pub load_below_good : m.at ≡ LoadBelow
      → GoodTook setup cores t c (LoadOf (EntryAt m.thread (m.depth - 1)))
      (landed a (meets_below m (below_in m.frames (last_left setup t (EntryAt m.thread (m.depth - 1))))))
  load_below_good is = subst (λ o. GoodTook setup cores t c (LoadOf (EntryAt m.thread (m.depth - 1))) (landed a (meets_below m o)))
      (sym shown)
      (goes_on_to m.thread (m.depth - 1) (thread_footprint s c a.call m.thread (sym knows.on.thread)) (LoadTable below) at_below_it
      (dues_at LoadBelow is))
    where
      has_comp : HasComp s c below
      has_comp = below_comp setup setting t stands.legal c here deep

      at_below_it : IsBelow s c below
      at_below_it = record { is = refl; comp = has_comp }

      index : m.depth - 1 ≡ suc (m.depth - 2)
      index = let some = return_fits.some_depth in omega (arith, some)

      low : m.depth - 2 < 16
      low = let most = return_fits.most_depth in let some = return_fits.some_depth in omega (arith, most, some)

      height : m.depth - 2 + 2 ≡ length (thread_of s c).stack
      height = let some = return_fits.some_depth in let same = knows.on.depth in omega (arith, some, same)

      small : below < m.frames
      small = let within = comp_below setup setting cores t stands below has_comp.comp in
          let same = frames_are in omega (arith, within, same)

      says : stack_of_word (last_left setup t (EntryAt m.thread (m.depth - 1))) ≡ Some (record { 0 = Some below })
      says = ap (λ (n : ℕ). stack_of_word (last_left setup t (EntryAt m.thread n))) index
          ∙ ap (λ (f : ℕ). stack_of_word (last_left setup t (EntryAt f (suc (m.depth - 2))))) knows.on.thread
          ∙ thread_says setup setting cores t stands c here none_kept none_marked (suc (m.depth - 2)) low
          ∙ ap (λ (o : Option ℕ). Some (record { 0 = o })) (height_below (thread_of s c).stack (m.depth - 2) deep height)

      shown : below_in m.frames (last_left setup t (EntryAt m.thread (m.depth - 1))) ≡ Some below
      shown = ap (frame_of_stack m.frames) says ∙ ap (λ b. if b then Some below else None) (lt-ltb below m.frames small)

  pub load_table_good : (comp : ℕ) → m.at ≡ LoadTable comp
      → GoodTook setup cores t c (LoadOf (EntryAt comp 0)) (landed a (meets_below_table m comp (frame_in m.frames (last_left setup t
      (EntryAt comp 0)))))
  load_table_good comp is =
      let at = loaded_at (LoadTable comp) is in
      subst (λ o. GoodTook setup cores t c (LoadOf (EntryAt comp 0)) (landed a (meets_below_table m comp o)))
      (sym (frame_shown m.frames (last_left setup t (EntryAt comp 0)) (comp_in (s.frame comp)).table
      (comp_says setup setting cores t stands comp at.comp.comp 0)
      (let low = table_below setup setting cores t stands comp at.comp.comp in let same = frames_are in omega (arith, low, same))))
      (goes_on_to comp 0 (below_footprint comp at) (LoadPages comp (comp_in (s.frame comp)).table) (at, refl) (dues_at (LoadTable comp) is))

  none_of : (xs : List Acquired) → [] ≡ map due_of xs → xs ≡ []
  none_of [] h = refl
  none_of (x ∷ xs) h = absurd (cc)

  -- the count of the top comes next
  module _ (comp table : ℕ) (is : m.at ≡ LoadPages comp table) where
    abbrev pages : ℕ
    pages = (comp_in (s.frame comp)).pages

    abbrev act : ActOf
    act = return_act (record m { at = Draw comp table pages })

    at_pages : HasLoadedBelow s c (LoadPages comp table)
    at_pages = loaded_at (LoadPages comp table) is

    no_counts : a.counts ≡ []
    no_counts = none_of a.counts (dues_at (LoadPages comp table) is)

    counts_next : GoodTook setup cores t c (LoadOf (EntryAt comp 1)) (landed a (Goes (next_work m.core 0 act)))
    counts_next lands =
        let e : Step = load comp 1 in
        loads_on setup setting cores t stands c here a active (LoadOf (EntryAt comp 1)) a.found (Undecided (next_work m.core 0 act))
        (looks_at comp 1 (below_footprint comp at_pages.0)) lands
        (next_holds m.core 0 act (holds_counts None a.counts) ∙ sym return_held) opens
        (λ carries. record {
          acts = has.acts;
          names = names_on setup setting t e stands.legal c a.call is_open carries (cores c).own.table (plan_for a.call) a.found has.names;
          knows = knows_next setup (e ∷ t) c (cores c).own.table (next_at a a.found (Undecided (next_work m.core 0 act))) m.core act
              (dues act)
              knows.core
              (returning_on setup setting t e stands.legal c a.call is_open carries a.call (record m { at = Draw comp table pages })
              (record {
                call_is = knows.call_is;
                core = knows.core;
                on = knows.on;
                top = knows.top;
                at = (at_pages.0, at_pages.1, refl);
              }))
              (ap (λ (xs : List Acquired). map due_of xs ++ dues act) (sym no_counts)) (one_apart (dues act) (omega arith)) 0
              (ap (λ (xs : List Acquired). length xs) (sym no_counts)) refl refl;
        })

    pub load_pages_good : GoodTook setup cores t c (LoadOf (EntryAt comp 1)) (landed a (meets_below_pages m comp table
        (frame_in m.frames (last_left setup t (EntryAt comp 1)))))
    load_pages_good = subst (λ o. GoodTook setup cores t c (LoadOf (EntryAt comp 1)) (landed a (meets_below_pages m comp table o)))
        (sym (frame_shown m.frames (last_left setup t (EntryAt comp 1)) (comp_in (s.frame comp)).pages
        (comp_says setup setting cores t stands comp at_pages.0.comp.comp 1)
        (let low = pages_below setup setting cores t stands comp at_pages.0.comp.comp in
        let same = frames_are in omega (arith, low, same))))
        counts_next
