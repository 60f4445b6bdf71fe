-- The steps of a killing before its draw are good: the loads of the component's word and of its number's word, and the compare that marks
-- the number, which is lost to another core or holds it for the call.
use Rattle.count_invariant.specs.step_ways.proofs as low
use low.{as_none, counts_bare, may_keep, not_exclusive_value, exclusive_elsewhere, ◌≡◌, ◌≢◌, inl, ℕ, ◌+◌, ◌++◌, ◌^◌, ◌<◌, ◌==◌, map, length}
use low.{Bool, true, false, if◌then◌else◌, List, [], ◌∷◌, Option, Some, None, IsTrue, arith, refl, sym, ◌∙◌, ap, subst, eqb-true, eqb-false}
use low.{eq-eqb, Setting, IsSetting, left_if, comp_of_word, word_of_live, live_of_word, CompWord, LiveWord, Word, EntryAt, LiveAt, Move}
use low.{LoadOf, CompareOf, left_of, same_same, State, NumberOf, PlaceOf, put, comp_in, is_live_in, put_same, mark_in_frame, live_mark}
use low.{marked_by, stamp, Step, Trace, state_after, last_left, same_word-other, own_read-here, Acquired, LoadComp, LoadLive, Act, Goes}
use low.{refuse, dues, next_work, Undecided, ActiveCall, GoesOn, landed, went, Core, holds_counts, settled_by, IsFrameWord, NumberIs}
use low.{due_of, KnowsUndecided, holds_at, holds_in, holds, held_by, Invariant, names_on, counts_on, Close, Draw, Kill as kill_act}
use low.{spares_other, IsOfCall, OnlyLooks, step_to, next_at, core_in_call, inner, call_is, loads_on, GoodTook, refuses_raced, refuses_busy}
use Rattle.count_invariant.specs.act_states.specs.{meets_comp, meets_live, meets_number, meets_life, closes_if}
use Rattle.live_invariant.proofs.Numbers.{no_number, shows_live, lives_as_shown, shows_some}
use low.{ticks_at, plan_for, Refusal, Refusals.refuses_dead}
use Rattle.{count_invariant.proofs.knows_next, count_invariant.proofs.next_holds, count_invariant.proofs.one_apart}
use Rattle.{count_invariant.specs.kernel_history.specs.changes_numbers, count_invariant.specs.kernel_history.specs.looks_at_numbers}
use Rattle.{count_invariant.specs.frame_words.specs.Live.LiveFits, count_invariant.specs.act_states.specs.declared.kills.Killing.Killing}
use Rattle.{count_invariant.specs.act_states.specs.declared.work.Act.Act as ActOf}
use Rattle.{count_invariant.specs.kept_facts.proofs.Carries.has_comp_on, count_invariant.specs.kept_facts.proofs.Carries.life_on}
use Rattle.count_invariant.specs.frame_words.proofs.LiveLemmas as lives
use Rattle.count_invariant.specs.step_ways.proofs.Counting as counters
use Rattle.live_invariant.proofs.KillCalls as calls

none_some : (d : ℕ) → None ≡ Some d → ⊥
none_some d h = cc

-- The component's word.
module _ (setup : Setting) (setting : IsSetting setup) (cores : ℕ → Core) (t : Trace) (stands : Invariant setup cores t) (c : ℕ)
    (here : c < setup.cores)
    (a : ActiveCall) (active : (cores c).active ≡ Some a) (f by : ℕ)
    (stage_is : a.stage ≡ Undecided (Act (kill_act (record { comp = f; core = by; at = LoadComp }))))
    (has : KnowsUndecided setup t c (cores c).own.table a (Act (kill_act (record { comp = f; core = by; at = LoadComp })))) where
  abbrev s : State
  s = state_after setup t

  abbrev m : Killing
  m = record { comp = f; core = by; at = LoadComp }

  abbrev was : ℕ
  was = last_left setup t (EntryAt f 2)

  abbrev life : CompWord
  life = record { number = (comp_in (s.frame f)).number; epoch = (comp_in (s.frame f)).epoch }

  unmarked : marked_by setup t (EntryAt f 2) ≡ None
  unmarked = ap (λ x. mark_in_frame x 2 was) (calls.holds_comp setup setting cores t stands c here a active f by LoadComp stage_is has)

  says_life : comp_of_word was ≡ Some life
  says_life = subst (λ x. IsFrameWord s.limits.frames x (s.place f 2) (stamp setup t (PlaceOf f 2)) 2 was)
      (calls.holds_comp setup setting cores t stands c here a active f by LoadComp stage_is has)
      (subst (λ (n : ℕ). IsFrameWord s.limits.frames (s.frame f) (s.place f 2) (stamp setup t (PlaceOf f 2)) 2 n)
      (not_exclusive_value setup cores t stands f
      (ap may_keep (calls.holds_comp setup setting cores t stands c here a active f by LoadComp stage_is has)) 2 was)
      (subst (λ o. IsFrameWord s.limits.frames (s.frame f) (s.place f 2) (stamp setup t (PlaceOf f 2)) 2
      (settled_by o (held_by cores) (EntryAt f 2) was)) unmarked (stands.words (EntryAt f 2))))

  loading : OnlyLooks setup t c a.call (LoadOf (EntryAt f 2))
  loading = record {
    of_call = record {
      moves = refl;
      footprint = inl (calls.footprint setup setting cores t stands c here a active f by LoadComp stage_is
          has);
    };
    kept = refl;
    apart = λ d. refl;
  }

  life_good : GoodTook setup cores t c (LoadOf (EntryAt f 2)) (landed a (meets_comp m (Some life)))
  life_good lands =
      let e : Step = step_to c None (LoadOf (EntryAt f 2)) was None None in
      let is_open = calls.is_open setup setting cores t stands c here a active f by LoadComp stage_is has in
      loads_on setup setting cores t stands c here a active (LoadOf (EntryAt f 2)) a.found
      (Undecided (Act (kill_act (record { comp = f; core = by; at = LoadLive life })))) loading lands
      (sym (ap (λ s. holds_at s a.counts) stage_is))
      (calls.opens setup setting cores t stands c here a active f by LoadComp stage_is has)
      (λ carries. record {
        acts = has.acts;
        names = names_on setup setting t e stands.legal c a.call is_open carries (cores c).own.table (plan_for a.call) a.found has.names;
        knows = record {
          knows = record {
            kills = has.knows.knows.kills;
            core = has.knows.knows.core;
            comp = has_comp_on setup setting t e stands.legal c a.call is_open carries f has.knows.knows.comp;
            at = life_on setup setting t e stands.legal c a.call is_open carries f life has.knows.knows.comp
                (record { number = refl; epoch = refl });
          };
          all = has.knows.all;
          goes = refl;
        };
      })

  pub load_comp_good : GoodTook setup cores t c (LoadOf (EntryAt f 2)) (landed a (meets_comp m (comp_of_word was)))
  load_comp_good = subst (λ o. GoodTook setup cores t c (LoadOf (EntryAt f 2)) (landed a (meets_comp m o))) (sym says_life) life_good

-- Its number's word.
module _ (setup : Setting) (setting : IsSetting setup) (cores : ℕ → Core) (t : Trace) (stands : Invariant setup cores t) (c : ℕ)
    (here : c < setup.cores)
    (a : ActiveCall) (active : (cores c).active ≡ Some a) (f by : ℕ) (life : CompWord)
    (stage_is : a.stage ≡ Undecided (Act (kill_act (record { comp = f; core = by; at = LoadLive life }))))
    (has : KnowsUndecided setup t c (cores c).own.table a (Act (kill_act (record { comp = f; core = by; at = LoadLive life })))) where
  abbrev now : State
  now = state_after setup t

  abbrev killing : Killing
  killing = record { comp = f; core = by; at = LoadLive life }

  abbrev at : Word
  at = LiveAt life.number

  abbrev found : ℕ
  found = last_left setup t at

  held_is : holds_in (Some a) ≡ holds_counts None a.counts
  held_is = ap (λ s. holds_at s a.counts) stage_is

  no_counts : a.counts ≡ []
  no_counts = none_of a.counts has.knows.all
    where
      none_of : (xs : List Acquired) → [] ≡ map due_of xs → xs ≡ []
      none_of [] h = refl
      none_of (x ∷ xs) h = absurd (cc)

  looking : OnlyLooks setup t c a.call (LoadOf at)
  looking = record {
    of_call = record {
      moves = subst (λ x. IsTrue (looks_at_numbers x))
          (sym (calls.is setup setting cores t stands c here a active f by (LoadLive life) stage_is has).call_is) refl;
      footprint = inl (calls.number_footprint setup setting cores t stands c here a active f by (LoadLive life) stage_is has life.number
          has.knows.knows.at.number);
    };
    kept = refl;
    apart = λ d. refl;
  }

  -- what it shows, where no core has marked it
  says : marked_by setup t at ≡ None → NumberIs (now.number life.number) (stamp setup t (NumberOf life.number)) (live_of_word found)
  says bare = subst (λ o. NumberIs (now.number life.number) (stamp setup t (NumberOf life.number))
      (live_of_word (settled_by o (held_by cores) at found))) bare (stands.words at)

  lives_so : (o : Option LiveWord) → live_of_word found ≡ o → live_mark o ≡ None
      → is_live_in (now.number (comp_in (now.frame f)).number) (comp_in (now.frame f)).epoch ≡ shows_live o life.epoch
  lives_so o shown bare =
      ap (λ (n : ℕ). is_live_in (now.number n) (comp_in (now.frame f)).epoch) has.knows.knows.at.number
      ∙ ap (is_live_in (now.number life.number)) has.knows.knows.at.epoch
      ∙ lives_as_shown (now.number life.number) (stamp setup t (NumberOf life.number)) life.epoch o
      (subst (NumberIs (now.number life.number) (stamp setup t (NumberOf life.number))) shown (says (ap live_mark shown ∙ bare)))

  dead_good : (o : Option LiveWord) → live_of_word found ≡ o → live_mark o ≡ None → shows_live o life.epoch ≡ false
      → GoodTook setup cores t c (LoadOf at) (landed a (refuse Refusal.Dead))
  dead_good o shown bare none =
      refuses_dead setup setting cores t stands c here a active
      (calls.opens setup setting cores t stands c here a active f by (LoadLive life) stage_is has) held_is
      (calls.room setup setting cores t stands c here a active f by (LoadLive life) stage_is has) (LoadOf at) looking has.acts
      (calls.may_be_dead setup setting cores t stands c here a active f by (LoadLive life) stage_is has (lives_so o shown bare ∙ none))
      (λ nobody. calls.by_life setup setting cores t stands c here a active f by (LoadLive life) stage_is has false
      (lives_so o shown bare ∙ none))

  closing_good : (d : ℕ) → marked_by setup t at ≡ Some d → GoodTook setup cores t c (LoadOf at) (landed a (refuse (Refusal.Busy d)))
  closing_good d mark =
      refuses_busy setup setting cores t stands c here a active
      (calls.opens setup setting cores t stands c here a active f by (LoadLive life) stage_is has) held_is
      (calls.room setup setting cores t stands c here a active f by (LoadLive life) stage_is has) (LoadOf at) looking
      (ap ticks_at stage_is) d
      (no_number None a.counts life.number) mark tt

  -- it lives
  abbrev act : ActOf
  act = kill_act (record { comp = f; core = by; at = Close life found })

  live_good : (g : ℕ) → live_of_word found ≡ Some (LiveWord.Live life.epoch g)
      → GoodTook setup cores t c (LoadOf at) (landed a (Goes (next_work by 0 act)))
  live_good g shown lands =
      let e : Step = step_to c None (LoadOf at) found None None in
      let is_open = calls.is_open setup setting cores t stands c here a active f by (LoadLive life) stage_is has in
      loads_on setup setting cores t stands c here a active (LoadOf at) a.found (Undecided (next_work by 0 act)) looking lands
      (next_holds by 0 act (holds_counts None a.counts) ∙ sym held_is)
      (calls.opens setup setting cores t stands c here a active f by (LoadLive life) stage_is has)
      (λ carries. record {
        acts = has.acts;
        names = names_on setup setting t e stands.legal c a.call is_open carries (cores c).own.table (plan_for a.call) a.found has.names;
        knows = knows_next setup (e ∷ t) c (cores c).own.table (next_at a a.found (Undecided (next_work by 0 act))) by act (dues act)
            has.knows.knows.core
            (record {
              kills = has.knows.knows.kills;
              core = has.knows.knows.core;
              comp = has_comp_on setup setting t e stands.legal c a.call is_open carries f has.knows.knows.comp;
              at = record {
                has_life = life_on setup setting t e stands.legal c a.call is_open carries f life has.knows.knows.comp has.knows.knows.at;
                own = own_read-here c e t refl at refl ∙ ap (λ b. if b then Some found else None) (eq-eqb found found refl);
                live = record { frame = g; says = shown };
              };
            })
            (ap (λ (xs : List Acquired). map due_of xs ++ dues act) (sym no_counts)) (one_apart (dues act) (omega arith)) 0
            (ap (λ (xs : List Acquired). length xs) (sym no_counts)) refl refl;
      })

  by_epoch : (epoch g : ℕ) → live_of_word found ≡ Some (LiveWord.Live epoch g) → (same : Bool) → (epoch == life.epoch) ≡ same
      → GoodTook setup cores t c (LoadOf at) (landed a (meets_life killing life found same))
  by_epoch epoch g shown true same =
      live_good g (shown ∙ ap (λ (n : ℕ). Some (LiveWord.Live n g)) (eqb-true epoch life.epoch same))
  by_epoch epoch g shown false other = dead_good (Some (LiveWord.Live epoch g)) shown refl other

  by_number : (v : LiveWord) → live_of_word found ≡ Some v
      → GoodTook setup cores t c (LoadOf at) (landed a (meets_number killing life found v))
  by_number LiveWord.Free shown = dead_good (Some LiveWord.Free) shown refl refl
  by_number (LiveWord.Live epoch g) shown = by_epoch epoch g shown (epoch == life.epoch) refl
  by_number (LiveWord.Closing epoch d) shown = closing_good d (ap live_mark shown)
  by_number (LiveWord.Dead epoch x) shown = dead_good (Some (LiveWord.Dead epoch x)) shown refl refl

  by_word : (o : Option LiveWord) → live_of_word found ≡ o
      → GoodTook setup cores t c (LoadOf at) (landed a (meets_live killing life found o))
  by_word None shown = absurd (shows_some (now.number life.number) (stamp setup t (NumberOf life.number)) (live_of_word found)
      (says (ap live_mark shown)) shown)
  by_word (Some v) shown = by_number v shown

  pub load_live_good : GoodTook setup cores t c (LoadOf at) (landed a (meets_live killing life found (live_of_word found)))
  load_live_good = by_word (live_of_word found) refl

-- The compare.
module _ (setup : Setting) (setting : IsSetting setup) (cores : ℕ → Core) (t : Trace) (stands : Invariant setup cores t) (c : ℕ)
    (here : c < setup.cores)
    (a : ActiveCall) (active : (cores c).active ≡ Some a) (f by : ℕ) (life : CompWord) (word : ℕ)
    (stage_is : a.stage ≡ Undecided (Act (kill_act (record { comp = f; core = by; at = Close life word }))))
    (has : KnowsUndecided setup t c (cores c).own.table a (Act (kill_act (record { comp = f; core = by; at = Close life word })))) where
  abbrev before : State
  before = state_after setup t

  abbrev closes : Killing
  closes = record { comp = f; core = by; at = Close life word }

  abbrev live_at : Word
  live_at = LiveAt life.number

  abbrev left_there : ℕ
  left_there = last_left setup t live_at

  abbrev closing : ℕ
  closing = word_of_live (LiveWord.Closing life.epoch by)

  abbrev compare : Move
  compare = CompareOf live_at word closing

  counts_held : holds_in (Some a) ≡ holds_counts None a.counts
  counts_held = ap (λ s. holds_at s a.counts) stage_is

  of_call : IsOfCall setup t c a.call compare
  of_call = record {
    moves = subst (λ x. IsTrue (changes_numbers x))
        (sym (calls.is setup setting cores t stands c here a active f by (Close life word) stage_is has).call_is) refl;
    footprint = inl (calls.number_footprint setup setting cores t stands c here a active f by (Close life word) stage_is has life.number
        has.knows.knows.at.has_life.number);
  }

  lost : (left_there == word) ≡ false → GoodTook setup cores t c compare (landed a (closes_if closes life word false))
  lost other =
      refuses_raced setup setting cores t stands c here a active
      (calls.opens setup setting cores t stands c here a active f by (Close life word) stage_is has) counts_held
      (calls.room setup setting cores t stands c here a active f by (Close life word) stage_is has) compare
      (record { of_call = of_call; kept = kept; apart = λ d. refl }) (ap ticks_at stage_is)
      (record {
        at = tt;
        reads = eq-eqb (left_of compare left_there) left_there kept;
        own = word;
        has_read = has.knows.knows.at.own;
        changed = eqb-false left_there word other;
      })
    where
      kept : left_of compare left_there ≡ left_there
      kept = ap (λ b. left_if b left_there closing) other

  module _ (equal : (left_there == word) ≡ true) where
    same : left_there ≡ word
    same = eqb-true left_there word equal

    leaves : left_of compare left_there ≡ closing
    leaves = ap (λ b. left_if b left_there closing) equal

    bare : marked_by setup t live_at ≡ None
    bare = ap (λ (n : ℕ). live_mark (live_of_word n)) same ∙ ap live_mark has.knows.knows.at.live.says

    by_fits : LiveFits (LiveWord.Closing life.epoch by)
    by_fits = (
      (calls.fits setup setting cores t stands c here a active f by (Close life word) stage_is has).at.2,
      (let below : c < setup.cores = here in let most = setting.most_cores in let own = has.knows.knows.core in omega arith),
    )

    abbrev next : ActiveCall
    next = went a (Undecided (Act (kill_act (record { comp = f; core = by; at = Draw life word }))))

    abbrev after : Core
    after = core_in_call (cores c) (cores c).own.made next

    held_before : holds (cores c) ≡ holds_counts None a.counts
    held_before = ap holds_in active ∙ counts_held

    marks_it : (holds after).marks live_at ≡ true
    marks_it = ap (λ b. if b then true else (holds_counts None a.counts).marks live_at) (same_same live_at)

    won : GoodTook setup cores t c compare (GoesOn next)
    won lands =
        let e : Step = inner setup setting cores t stands c here a active compare None None in
        let is_open = calls.is_open setup setting cores t stands c here a active f by (Close life word) stage_is has in
        counters.holds_on setup setting cores t stands c here a active compare next (λ b. refl) (λ h. cc) refl of_call lands
        (subst (λ (n : ℕ). n < 2 ^ 64) (sym leaves) (lives.spelling.small (LiveWord.Closing life.epoch by) by_fits))
        (λ w there. (
          ap (λ b. if b then true else (holds_counts None a.counts).marks w) (same_word-other w live_at there) ∙ sym
              (ap (λ h. h.marks w) held_before),
          ap (λ b. if b then word else (holds_counts None a.counts).stands w) (same_word-other w live_at there) ∙ sym
              (ap (λ h. h.stands w) held_before),
        ))
        (as_none (holds (cores c)) (holds after) live_at (λ g i. ap (λ h. h.bare g i) held_before ∙ counts_bare None a.counts g i)
        (counts_bare None a.counts))
        (ap (λ (n : ℕ). live_mark (live_of_word n)) leaves ∙ ap live_mark (lives.spelling.reads (LiveWord.Closing life.epoch by) by_fits)
        ∙ ap (λ (n : ℕ). Some n) has.knows.knows.core ∙ sym (ap (λ b. if b then Some c else None) marks_it))
        (λ b other is. none_some b (sym bare ∙ is))
        (ap (λ b. settled_by (if b then Some c else None) (held_by (put cores c after)) live_at (left_of compare left_there)) marks_it
        ∙ ap (λ k. (holds k).stands live_at) (put_same cores c after c refl)
        ∙ ap (λ b. if b then word else (holds_counts None a.counts).stands live_at) (same_same live_at)
        ∙ sym same ∙ sym (ap (λ o. settled_by o (held_by cores) live_at left_there) bare))
        (calls.opens setup setting cores t stands c here a active f by (Close life word) stage_is has)
        (λ carries. record {
          acts = has.acts;
          names = names_on setup setting t e stands.legal c a.call is_open carries (cores c).own.table (plan_for a.call) a.found has.names;
          knows = record {
            knows = record {
              kills = has.knows.knows.kills;
              core = has.knows.knows.core;
              comp = has_comp_on setup setting t e stands.legal c a.call is_open carries f has.knows.knows.comp;
              at = record {
                has_life = life_on setup setting t e stands.legal c a.call is_open carries f life has.knows.knows.comp
                    has.knows.knows.at.has_life;
                live = has.knows.knows.at.live;
              };
            };
            all = has.knows.all;
            goes = refl;
          };
        })
        (counts_on setup t e c a.call (λ own. refl) a.counts (call_is setup setting cores t stands c here a active).counts)
        (call_is setup setting cores t stands c here a active).apart
        (spares_other setup t e (λ g i h. cc)) (exclusive_elsewhere cores e (λ g i h. cc))

  pub close_good : GoodTook setup cores t c compare (landed a (closes_if closes life word (left_there == word)))
  close_good = by_test (left_there == word) refl
    where
      by_test : (equal : Bool) → (left_there == word) ≡ equal
          → GoodTook setup cores t c compare (landed a (closes_if closes life word equal))
      by_test true is = won is
      by_test false is = lost is
