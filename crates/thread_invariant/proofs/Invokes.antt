-- The loads by which a core that enters a component reads its words are good; and so is the load of its number's word, where that refuses
-- it.
use Rattle.live_invariant.specs.step_ways.proofs.{◌≡◌, inl, ℕ, ◌<◌, ◌==◌, ◌++◌, map, length, false, if◌then◌else◌, List, [], ◌∷◌, Option}
use Rattle.live_invariant.specs.step_ways.proofs.{Some, None, IsTrue, arith, refl, sym, ◌∙◌, ap, subst, lt-ltb, Capability, Call, Setting}
use Rattle.live_invariant.specs.step_ways.proofs.{IsSetting, comp_of_word, live_of_word, CompWord, LiveWord, Word, EntryAt, LiveAt, LoadOf}
use Rattle.live_invariant.specs.step_ways.proofs.{CompFields, NumberOf, State, comp_in, is_live_in, live_mark, marked_by, stamp, Step}
use Rattle.live_invariant.specs.step_ways.proofs.{Trace, state_after, last_left, Acquired, Invoking, InvokingAt, Act, Goes, refuse, dues}
use Rattle.live_invariant.specs.step_ways.proofs.{next_work, Undecided, ActiveCall, landed, Core, holds_counts, settled_by, NumberIs}
use Rattle.live_invariant.specs.step_ways.proofs.{due_of, KnowsUndecided, holds_at, holds_in, held_by, Invariant, names_on}
use Rattle.live_invariant.specs.step_ways.proofs.{Invoke as invoke_act, OnlyLooks, step_to, next_at, loads_on, GoodTook, refuses_busy}
use Rattle.live_invariant.specs.step_ways.proofs.{ticks_at, plan_for, Refusal}
use Rattle.live_invariant.specs.act_states.specs.{frame_in, invoking_dues, meets_table, meets_pages, meets_gate}
use Rattle.live_invariant.specs.core_invariant.specs.{InvokesBy, HasLoadedComp, KnowsInvoking}
use Rattle.live_invariant.specs.count_invariant.proofs.{knows_next, next_holds, one_apart}
use Rattle.live_invariant.specs.act_states.specs.declared.invocations.InvokingAt.TheVariants.{LoadTable, LoadPages, LoadComp, LoadLive}
use Rattle.live_invariant.proofs.Numbers.{no_number, shows_live, lives_as_shown}
use Rattle.thread_invariant.proofs.CompWords.{comp_says, table_below, pages_below}
use Rattle.{live_invariant.specs.spk_nums.specs.declared.calls.Call.TheVariants.Call as call_gate}
use Rattle.{live_invariant.specs.kernel_history.specs.Discipline.looks_at_numbers}
use Rattle.{live_invariant.specs.act_states.specs.declared.work.Act.Act as ActOf}
use Rattle.{live_invariant.specs.kept_facts.proofs.Carries.invoking_on, live_invariant.specs.step_ways.proofs.Refusals.refuses_dead}
use Rattle.live_invariant.specs.frame_words.specs.declared.live_word.LiveWord.TheVariants as live_word
use Rattle.thread_invariant.proofs.InvokeCalls as calls

-- A word that names a frame of the machine.
pub frame_shown : (frames word f : ℕ) → word ≡ f → f < frames → frame_in frames word ≡ Some f
frame_shown frames word f is below =
    ap (λ (n : ℕ). frame_in frames n) is ∙ ap (λ b. if b then Some f else None) (lt-ltb f frames below)

-- It goes on with what its name has led to.
invokes_so : (call : Call) (ks : List Capability) (m : Invoking) (at : InvokingAt) → InvokesBy call ks m
    → InvokesBy call ks (record m { at = at })
invokes_so (call_gate n) (k ∷ []) m at is = record { kind = is.kind; frame = is.frame; epoch = is.epoch }
invokes_so call ks m at is = absurd is

module _ (setup : Setting) (setting : IsSetting setup) (cores : ℕ → Core) (t : Trace) (stands : Invariant setup cores t) (c : ℕ)
    (here : c < setup.cores)
    (a : ActiveCall) (active : (cores c).active ≡ Some a) (m : Invoking) (stage_is : a.stage ≡ Undecided (Act (invoke_act m)))
    (has : KnowsUndecided setup t c (cores c).own.table a (Act (invoke_act m))) where
  abbrev s : State
  s = state_after setup t

  abbrev k : CompFields
  k = comp_in (s.frame m.comp)

  abbrev knows : KnowsInvoking s c a.call a.found m
  knows = has.knows.knows

  held_is : holds_in (Some a) ≡ holds_counts None a.counts
  held_is = ap (λ s. holds_at s a.counts) stage_is

  frames_are : m.frames ≡ setup.frames
  frames_are = (calls.fits setup setting cores t stands c here a active m stage_is has).frames
      ∙ ap (λ l. l.frames) (stands.each c here).shape

  dues_at : (at : InvokingAt) → m.at ≡ at → invoking_dues m.comp at ≡ map due_of a.counts
  dues_at at is = ap (invoking_dues m.comp) (sym is) ∙ has.knows.all

  pub knows_at : (at : InvokingAt) → m.at ≡ at → HasLoadedComp (comp_in (s.frame m.comp)) at
  knows_at at is = subst (HasLoadedComp (comp_in (s.frame m.comp))) is knows.at

  none_of : (xs : List Acquired) → [] ≡ map due_of xs → xs ≡ []
  none_of [] h = refl
  none_of (x ∷ xs) h = absurd (cc)

  loading : (i : ℕ) → OnlyLooks setup t c a.call (LoadOf (EntryAt m.comp i))
  loading i = record {
    of_call = record { moves = refl; footprint = inl (calls.footprint setup setting cores t stands c here a active m stage_is has) };
    kept = refl;
    apart = λ d. refl;
  }

  abbrev load : ℕ → Step
  load i = step_to c None (LoadOf (EntryAt m.comp i)) (last_left setup t (EntryAt m.comp i)) None None

  -- it goes on to the next load
  goes_on_to : (i : ℕ) (at : InvokingAt) → HasLoadedComp (comp_in (s.frame m.comp)) at → invoking_dues m.comp at ≡ map due_of a.counts
      → GoodTook setup cores t c (LoadOf (EntryAt m.comp i)) (landed a (Goes (Act (invoke_act (record m { at = at })))))
  goes_on_to i at now due lands =
      let is_open = calls.is_open setup setting cores t stands c here a active m stage_is has in
      loads_on setup setting cores t stands c here a active (LoadOf (EntryAt m.comp i)) a.found
      (Undecided (Act (invoke_act (record m { at = at })))) (loading i) lands
      (sym held_is) (calls.opens setup setting cores t stands c here a active m stage_is has)
      (λ carries. record {
        acts = has.acts;
        names = names_on setup setting t (load i) stands.legal c a.call is_open carries (cores c).own.table (plan_for a.call) a.found
            has.names;
        knows = record {
          knows = invoking_on setup setting t (load i) stands.legal c a.call is_open carries a.call a.found (record m { at = at })
              (record {
                invokes = invokes_so a.call a.found m at knows.invokes;
                core = knows.core;
                on = knows.on;
                comp = knows.comp;
                at = now;
              });
          all = due;
          goes = refl;
        };
      })

  pub load_table_good : m.at ≡ LoadTable
      → GoodTook setup cores t c (LoadOf (EntryAt m.comp 0)) (landed a (meets_table m (frame_in m.frames (last_left setup t
      (EntryAt m.comp 0)))))
  load_table_good is = subst (λ o. GoodTook setup cores t c (LoadOf (EntryAt m.comp 0)) (landed a (meets_table m o)))
      (sym (frame_shown m.frames (last_left setup t (EntryAt m.comp 0)) k.table
      (comp_says setup setting cores t stands m.comp knows.comp.comp 0)
      (let low = table_below setup setting cores t stands m.comp knows.comp.comp in let same = frames_are in omega (arith, low, same))))
      (goes_on_to 0 (LoadPages k.table) refl (dues_at LoadTable is))

  pub load_pages_good : (table : ℕ) → m.at ≡ LoadPages table
      → GoodTook setup cores t c (LoadOf (EntryAt m.comp 1)) (landed a (meets_pages m table (frame_in m.frames (last_left setup t
      (EntryAt m.comp 1)))))
  load_pages_good table is = subst (λ o. GoodTook setup cores t c (LoadOf (EntryAt m.comp 1)) (landed a (meets_pages m table o)))
      (sym (frame_shown m.frames (last_left setup t (EntryAt m.comp 1)) k.pages
      (comp_says setup setting cores t stands m.comp knows.comp.comp 1)
      (let low = pages_below setup setting cores t stands m.comp knows.comp.comp in let same = frames_are in omega (arith, low, same))))
      (goes_on_to 1 (LoadComp table k.pages) (knows_at (LoadPages table) is, refl) (dues_at (LoadPages table) is))

  -- the count of the component comes next
  abbrev life : CompWord
  life = record { number = k.number; epoch = k.epoch }

  module _ (table pages : ℕ) (is : m.at ≡ LoadComp table pages) where
    abbrev act : ActOf
    act = invoke_act (record m { at = LoadLive table pages life })

    no_counts : a.counts ≡ []
    no_counts = none_of a.counts (dues_at (LoadComp table pages) is)

    counts_next : GoodTook setup cores t c (LoadOf (EntryAt m.comp 2)) (landed a (Goes (next_work m.core 0 act)))
    counts_next lands =
        let e : Step = load 2 in
        let is_open = calls.is_open setup setting cores t stands c here a active m stage_is has in
        let known = knows_at (LoadComp table pages) is in
        loads_on setup setting cores t stands c here a active (LoadOf (EntryAt m.comp 2)) a.found (Undecided (next_work m.core 0 act))
        (loading 2) lands
        (next_holds m.core 0 act (holds_counts None a.counts) ∙ sym held_is)
        (calls.opens setup setting cores t stands c here a active m stage_is has)
        (λ carries. record {
          acts = has.acts;
          names = names_on setup setting t e stands.legal c a.call is_open carries (cores c).own.table (plan_for a.call) a.found has.names;
          knows = knows_next setup (e ∷ t) c (cores c).own.table (next_at a a.found (Undecided (next_work m.core 0 act))) m.core act
              (dues act)
              knows.core
              (invoking_on setup setting t e stands.legal c a.call is_open carries a.call a.found
              (record m { at = LoadLive table pages life })
              (record {
                invokes = invokes_so a.call a.found m (LoadLive table pages life) knows.invokes;
                core = knows.core;
                on = knows.on;
                comp = knows.comp;
                at = (known.0, known.1, refl, refl);
              }))
              (ap (λ (xs : List Acquired). map due_of xs ++ dues act) (sym no_counts)) (one_apart (dues act) (omega arith)) 0
              (ap (λ (xs : List Acquired). length xs) (sym no_counts)) refl refl;
        })

    pub load_comp_good : GoodTook setup cores t c (LoadOf (EntryAt m.comp 2)) (landed a (meets_gate m table pages
        (comp_of_word (last_left setup t (EntryAt m.comp 2)))))
    load_comp_good = subst (λ o. GoodTook setup cores t c (LoadOf (EntryAt m.comp 2)) (landed a (meets_gate m table pages o)))
        (sym (comp_says setup setting cores t stands m.comp knows.comp.comp 2)) counts_next

  -- The load of the number's word.
  module _ (table pages : ℕ) (at_life : CompWord) (is : m.at ≡ LoadLive table pages at_life) where
    abbrev at : Word
    at = LiveAt at_life.number

    abbrev found : ℕ
    found = last_left setup t at

    pub loaded : HasLoadedComp (comp_in (s.frame m.comp)) (LoadLive table pages at_life)
    loaded = knows_at (LoadLive table pages at_life) is

    pub looking : OnlyLooks setup t c a.call (LoadOf at)
    looking = record {
      of_call = record {
        moves = subst (λ x. IsTrue (looks_at_numbers x))
            (sym (calls.is setup setting cores t stands c here a active m stage_is has).call_is) refl;
        footprint = inl (calls.number_footprint setup setting cores t stands c here a active m stage_is has at_life.number loaded.2);
      };
      kept = refl;
      apart = λ d. refl;
    }

    -- what it shows, where no core has marked it
    pub says : marked_by setup t at ≡ None
        → NumberIs (s.number at_life.number) (stamp setup t (NumberOf at_life.number)) (live_of_word found)
    says bare = subst (λ o. NumberIs (s.number at_life.number) (stamp setup t (NumberOf at_life.number))
        (live_of_word (settled_by o (held_by cores) at found))) bare (stands.words at)

    pub lives_so : (o : Option LiveWord) → live_of_word found ≡ o → live_mark o ≡ None
        → is_live_in (s.number (comp_in (s.frame m.comp)).number) m.epoch ≡ shows_live o m.epoch
    lives_so o shown bare =
        ap (λ (n : ℕ). is_live_in (s.number n) m.epoch) loaded.2
        ∙ lives_as_shown (s.number at_life.number) (stamp setup t (NumberOf at_life.number)) m.epoch o
        (subst (NumberIs (s.number at_life.number) (stamp setup t (NumberOf at_life.number))) shown (says (ap live_mark shown ∙ bare)))

    pub dead_good : (o : Option LiveWord) → live_of_word found ≡ o → live_mark o ≡ None → shows_live o m.epoch ≡ false
        → GoodTook setup cores t c (LoadOf at) (landed a (refuse Refusal.Dead))
    dead_good o shown bare none =
        refuses_dead setup setting cores t stands c here a active
        (calls.opens setup setting cores t stands c here a active m stage_is has) held_is
        (calls.room setup setting cores t stands c here a active m stage_is has) (LoadOf at) looking has.acts
        (calls.may_be_dead setup setting cores t stands c here a active m stage_is has (lives_so o shown bare ∙ none))
        (λ nobody. calls.by_life setup setting cores t stands c here a active m stage_is has false (lives_so o shown bare ∙ none))

    pub closing_good : (d : ℕ) → marked_by setup t at ≡ Some d → GoodTook setup cores t c (LoadOf at) (landed a (refuse (Refusal.Busy d)))
    closing_good d mark =
        refuses_busy setup setting cores t stands c here a active
        (calls.opens setup setting cores t stands c here a active m stage_is has) held_is
        (calls.room setup setting cores t stands c here a active m stage_is has) (LoadOf at) looking
        (ap ticks_at stage_is) d
        (no_number None a.counts at_life.number) mark tt
