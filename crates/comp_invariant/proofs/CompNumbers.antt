-- The steps by which the making of a component takes its liveness number: the load of the number's word, the scan for a number that has
-- died, and what refuses them.
use Rattle.scan_invariant.specs.step_ways.proofs.{◌≡◌, ◌≤◌, Bool, true, false, Option, Some, None, refl, ℕ, ◌<◌, ◌^◌, ◌==◌, arith, ◌≢◌, ◌+◌}
use Rattle.scan_invariant.specs.step_ways.proofs.{sym, ltb as nat_lt, ◌&&◌, [], ◌∷◌, ◌++◌, ap, ◌∙◌, subst, IsTrue, inl, inr, map, ◌⊎◌}
use Rattle.scan_invariant.specs.step_ways.proofs.{leb as nat_le, if◌then◌else◌, List, ◌||◌, false≢true, ltb-false, eq-eqb, leb-true}
use Rattle.scan_invariant.specs.step_ways.proofs.{leb-false, ltb-true, Setting, IsSetting, Reply, same_same, word_of, LoadOf, Move, EntryAt}
use Rattle.scan_invariant.specs.step_ways.proofs.{FrameAt, CoreAt, LiveAt, Slot, alone, rule_of, are_calls_spent, first_of, vacant, Found}
use Rattle.scan_invariant.specs.step_ways.proofs.{Blank, Kernel, State, Thing, NumberOf, Unused, Live, Dead, Liveness, refused_first}
use Rattle.scan_invariant.specs.step_ways.proofs.{Carries, was_now, own_read-here, own_read-there, IsAlone, IsRemoved, marked_by, live_mark}
use Rattle.scan_invariant.specs.step_ways.proofs.{stamp, exit_of, begins_at, ends_at, Trace, Open, phase, state_after, Step, last_left}
use Rattle.scan_invariant.specs.step_ways.proofs.{own_read, own_pages, Acquired, comp_dues, comp_due_list, CompMaking, CompAt, Unmark, Act}
use Rattle.scan_invariant.specs.step_ways.proofs.{landed, Core, ActiveCall, Undecided, names_on, spot_on, holds_counts, settled_by, keeps}
use Rattle.scan_invariant.specs.step_ways.proofs.{phase_at, due_of, KnowsUndecided, KnowsComp, KnowsCompAt, KnowsUnmark, HasFlushed}
use Rattle.scan_invariant.specs.step_ways.proofs.{holds_in, Invariant, holds, held_by, holds_comp, NumberIs, core_of_word, same_thing}
use Rattle.scan_invariant.specs.step_ways.proofs.{not_inside, Quiet, AtCore, core_scan, scan_end, scan_after, quiet_next, quiet_end}
use Rattle.scan_invariant.specs.step_ways.proofs.{quiet_after, quiet_scan, limits_of, live_of_word, LiveWord, Close, MakeComp as comp_act}
use Rattle.scan_invariant.specs.step_ways.proofs.{step_to, OnlyLooks, loads_on, IsOfCall, inner, call_is, core_is, decides_with, GoodTook}
use Rattle.scan_invariant.specs.step_ways.proofs.{ticks_at, not_spent, plan_for, Refusal}
use Rattle.scan_invariant.specs.act_states.specs.{CoreWord, next_other, flush_scan, comp_goes, comp_refuses, takes_number, scans_number}
use Rattle.scan_invariant.specs.act_states.specs.{number_met, number_shown, number_scanned, CompAtFits}
use Rattle.scan_invariant.specs.kernel_history.specs.{epoch_of, awaits_flushes, waited_in, asked_of, looks_at_numbers, GraceIs}
use Rattle.scan_invariant.specs.count_invariant.proofs.{IsCompCall, makes_comp_on, comp_changes, comp_argument, number_footprint}
use Rattle.scan_invariant.proofs.{ScanBegins, AtCores, AtFlushes, scan_begins, scan_none}
use Rattle.scan_invariant.specs.trace_laws.proofs.{nobody_waits, out_passed, later_passed, may_wait, was_before}
use Rattle.scan_invariant.specs.core_invariant.specs.{IsScanned, HasPassed, SaysBlank, MayTake}
use Rattle.scan_invariant.specs.place_invariant.proofs.{vacant_slot, vacant_here, stands_alone, none_waits}
use Rattle.state_laws.specs.kernel_rules.specs.{waits_of, MayWait, is_live}
use Rattle.scan_invariant.specs.act_states.specs.{declared.comps.CompAt.TheVariants.Scan, declared.comps.LastEpoch.LastEpoch}
use Rattle.scan_invariant.specs.kernel_history.specs.{Justified.IsDeadNumber, Ways.thing_at}
use Rattle.comp_invariant.proofs.LaterEvents.{IsSpent, spent_at, spent_now}
use Rattle.{scan_invariant.specs.count_invariant.proofs.blank_left, std.specs.List.list_any}
use Rattle.{scan_invariant.specs.stage_quiet.specs.Scan.core_refuses, scan_invariant.specs.trace_laws.proofs.Carries.IsDeadIn}
use Rattle.{scan_invariant.specs.plan_ways.proofs.Ways.asked_left, scan_invariant.specs.kept_facts.proofs.Carries.number_on}
use Rattle.{scan_invariant.specs.step_ways.proofs.Refusals.busy_leaving, scan_invariant.specs.core_invariant.specs.Acting.ScansNumber}
use Rattle.{scan_invariant.proofs.Scans.before_next}
use Rattle.state_laws.specs.spk_nums.specs.declared.kinds.Obj.TheVariants as obj
use Rattle.scan_invariant.specs.entry_words.specs.declared.entry.Entry.TheVariants as entry
use Rattle.scan_invariant.specs.frame_words.proofs.FrameLemmas as frames
use Rattle.scan_invariant.specs.step_ways.proofs.Counting as counting
use Rattle.comp_invariant.proofs.CompCalls as calls
use Rattle.state_laws.specs.kernel_rules.specs.Rules as rules
use Rattle.scan_invariant.specs.frame_words.proofs.LiveLemmas as lives
use Rattle.scan_invariant.specs.act_states.specs.declared.comps.CompAt.TheVariants.{Close}

-- A liveness number waits for no flush.
number_awaits : (setup : Setting) (t : Trace) (l : ℕ) → awaits_flushes setup t (NumberOf l) ≡ false
number_awaits setup [] l = refl
number_awaits setup (e ∷ t) l = by (begins_at setup t e (NumberOf l)) (ends_at t e (NumberOf l)) (number_awaits setup t l)
  where
    by : (begins ends : Bool) → awaits_flushes setup t (NumberOf l) ≡ false
        → (if begins then false else (if ends then false else awaits_flushes setup t (NumberOf l))) ≡ false
    by true ends before = refl
    by false true before = refl
    by false false before = before

number_flushed : (setup : Setting) (t : Trace) (l x d : ℕ) → GraceIs setup t (NumberOf l) → HasFlushed setup t (NumberOf l) x d
number_flushed setup t l x d grace same = by (((state_after setup t).grace (NumberOf l)).unflushed d) refl
  where
    by : (b : Bool) → ((state_after setup t).grace (NumberOf l)).unflushed d ≡ b → b ≡ false
    by false is = refl
    by true is = absurd (false≢true (sym (number_awaits setup t l) ∙ (grace.flushes d).awaited is))

none_some : (d : ℕ) → None ≡ Some d → ⊥
none_some d h = cc

-- No count is the word of a liveness number.
pub no_number : (fate : Option (Option ℕ)) (xs : List Acquired) (l : ℕ) → (holds_counts fate xs).marks (LiveAt l) ≡ false
no_number fate [] l = refl
no_number fate (x ∷ xs) l = no_number fate xs l

-- A word without a mark says what the number is.
pub free_number : (p : Liveness) (r : ℕ) (o : Option LiveWord) → NumberIs p r o → o ≡ Some LiveWord.Free → p ≡ Unused
free_number Unused r o is shows = refl
free_number (Live e f) r o is shows = absurd (not_free (sym is ∙ shows))
  where
    not_free : Some (LiveWord.Live e f) ≡ Some LiveWord.Free → ⊥
    not_free h = cc
free_number (Dead e) r o is shows = absurd (not_free (sym is.says ∙ shows))
  where
    not_free : Some (LiveWord.Dead e r) ≡ Some LiveWord.Free → ⊥
    not_free h = cc

live_number : (p : Liveness) (r e f : ℕ) (o : Option LiveWord) → NumberIs p r o → o ≡ Some (LiveWord.Live e f) → is_live p ≡ true
live_number Unused r e f o is shows = absurd (not_live (sym is ∙ shows))
  where
    not_live : Some LiveWord.Free ≡ Some (LiveWord.Live e f) → ⊥
    not_live h = cc
live_number (Live d g) r e f o is shows = refl
live_number (Dead d) r e f o is shows = absurd (not_live (sym is.says ∙ shows))
  where
    not_live : Some (LiveWord.Dead d r) ≡ Some (LiveWord.Live e f) → ⊥
    not_live h = cc

-- It is dead since this stamp.
pub record IsDeadSince (p : Liveness) (r e x : ℕ) : Type 0 where
  pub dead : p ≡ Dead e
  pub same : r ≡ x
  pub drawn : 1 ≤ x

pub dead_number : (p : Liveness) (r e x : ℕ) (o : Option LiveWord) → NumberIs p r o → o ≡ Some (LiveWord.Dead e x) → IsDeadSince p r e x
dead_number Unused r e x o is shows = absurd (not_dead (sym is ∙ shows))
  where
    not_dead : Some LiveWord.Free ≡ Some (LiveWord.Dead e x) → ⊥
    not_dead h = cc
dead_number (Live d g) r e x o is shows = absurd (not_dead (sym is ∙ shows))
  where
    not_dead : Some (LiveWord.Live d g) ≡ Some (LiveWord.Dead e x) → ⊥
    not_dead h = cc
dead_number (Dead d) r e x o is shows =
    let both = same_dead (sym is.says ∙ shows) in let some = is.drawn in
    record { dead = ap (λ (n : ℕ). Dead n) both.0; same = both.1; drawn = (let q = both.1 in omega (arith, q, some)) }
  where
    same_dead : Some (LiveWord.Dead d r) ≡ Some (LiveWord.Dead e x) → (d ≡ e) × (r ≡ x)
    same_dead h = (cc, cc)

shows_none : (p : Liveness) (r : ℕ) (o : Option LiveWord) → NumberIs p r o → o ≡ None → ⊥
shows_none Unused r o is none = absurd (cc)
shows_none (Live d f) r o is none = absurd (cc)
shows_none (Dead d) r o is none = not_none (LiveWord.Dead d r) (sym none ∙ is.says)
  where
    not_none : (v : LiveWord) → None ≡ Some v → ⊥
    not_none v h = cc

module _ (setup : Setting) (setting : IsSetting setup) (cores : ℕ → Core) (t : Trace) (stands : Invariant setup cores t) (c : ℕ)
    (here : c < setup.cores)
    (a : ActiveCall) (active : (cores c).active ≡ Some a) (m : CompMaking) (stage_is : a.stage ≡ Undecided (Act (comp_act m)))
    (has : KnowsUndecided setup t c (cores c).own.table a (Act (comp_act m))) (word : ℕ)
    (held_is : holds_in (Some a) ≡ keeps (FrameAt m.frame) word (holds_counts None a.counts)) (says : SaysBlank word)
    (dues_are : comp_due_list m ≡ map due_of a.counts) where
  abbrev s : State
  s = state_after setup t

  abbrev l : ℕ
  l = m.number

  abbrev thing : Thing
  thing = NumberOf l

  abbrev node : ℕ
  node = m.fill.node

  abbrev index : ℕ
  index = m.fill.entry

  abbrev slot : Slot
  slot = record { node = node; index = index }

  abbrev knows : KnowsComp setup t c a.call (plan_for a.call) a.found setup.cores m
  knows = has.knows.knows

  is : IsCompCall a.call a.found m
  is = calls.is setup setting cores t stands c here a active m stage_is has

  opens : phase_at a.call a.stage ≡ Open a.call
  opens = ap (phase_at a.call) stage_is

  is_open : phase t c ≡ Open a.call
  is_open = (call_is setup setting cores t stands c here a active).phase ∙ opens

  room : (cores c).own.made < (cores c).own.limit
  room = calls.room setup setting cores t stands c here a active m stage_is has

  holds_is : holds (cores c) ≡ keeps (FrameAt m.frame) word (holds_counts None a.counts)
  holds_is = ap holds_in active ∙ held_is

  pub marks_it : (holds (cores c)).marks (FrameAt m.frame) ≡ true
  marks_it = ap (λ h. h.marks (FrameAt m.frame)) holds_is
      ∙ ap (λ b. if b then true else (holds_counts None a.counts).marks (FrameAt m.frame)) (same_same (FrameAt m.frame))

  pub stands_for : (holds (cores c)).stands (FrameAt m.frame) ≡ word
  stands_for = ap (λ h. h.stands (FrameAt m.frame)) holds_is
      ∙ ap (λ b. if b then word else (holds_counts None a.counts).stands (FrameAt m.frame)) (same_same (FrameAt m.frame))

  blank : s.frame m.frame ≡ Kernel Blank
  blank = calls.blank setup setting cores t stands c here a active m stage_is has word marks_it stands_for says

  left : KnowsUnmark a.call m.frame word
  left = blank_left m.frame word a.call (comp_changes a.call a.found m is) (comp_argument a.call a.found m is) says

  unspent : are_calls_spent s c ≡ false
  unspent = not_spent setup (cores c) t c (core_is setup setting cores t stands c here a active) room

  -- what its target is, where the call is alone
  vacant_alone : (move : Move) (r : Reply) → IsAlone t (step_to c None move (last_left setup t (word_of move)) (Some r) None)
      → vacant s c (calls.target setup setting cores t stands c here a active m stage_is has) ≡ Found slot
  vacant_alone move r alone =
      vacant_slot s c (calls.target setup setting cores t stands c here a active m stage_is has) slot
      (calls.reached_is setup setting cores t stands c here a active m stage_is has)
      (vacant_here setup setting cores t stands c here a active opens has.names node index m.fill.word knows.spot
      (calls.fits_in setup setting cores t stands c here a active m stage_is has).fill.entry
      (calls.leaf setup setting cores t stands c here a active m stage_is has)
      (stands_alone setup t c node index m.fill.word knows.spot.own move r alone)).vacant

  module _ (move : Move) (looks : OnlyLooks setup t c a.call move) where
    -- the number is live
    occupied_good : is_live (s.number l) ≡ true → GoodTook setup cores t c move (landed a (comp_refuses m word Refusal.Occupied))
    occupied_good live lands =
        decides_with setup setting cores t stands c here a active move Reply.Occupied (Unmark m.frame word) a.found looks lands
        (sym held_is) opens refl refl (λ x. refl) (λ x. refl) refl
        (unspent, calls.may_refuse setup setting cores t stands c here a active m stage_is has Reply.Occupied (inl (live, refl))) tt
        (λ is_alone. refused_first s c a.call Reply.Occupied has.acts unspent
        (calls.by_taken setup setting cores t stands c here a active m stage_is has (vacant_alone move Reply.Occupied is_alone) blank
        (Some Reply.Occupied)
        (ap (λ b. first_of (if b then Some Reply.Occupied else None) (first_of (waits_of s c thing)
        (first_of (if epoch_of (s.number l) == s.limits.epochs then Some Reply.EpochsSpent else None) None))) live)))
        left

    -- its epochs are spent
    spent_good : IsSpent (s.number l) s.limits.epochs
        → GoodTook setup cores t c move (landed a (comp_refuses m word Refusal.EpochsSpent))
    spent_good spent lands =
        decides_with setup setting cores t stands c here a active move Reply.EpochsSpent (Unmark m.frame word) a.found looks lands
        (sym held_is) opens refl refl (λ x. refl) (λ x. refl) refl (
          unspent,
          calls.may_refuse setup setting cores t stands c here a active m stage_is has Reply.EpochsSpent
              (inr (inr (inl (eq-eqb _ _ spent.last, refl)))),
        ) tt
        (λ is_alone. refused_first s c a.call Reply.EpochsSpent has.acts unspent
        (calls.by_taken setup setting cores t stands c here a active m stage_is has (vacant_alone move Reply.EpochsSpent is_alone) blank
        (Some Reply.EpochsSpent)
        (ap (λ b. first_of (if b then Some Reply.Occupied else None) (first_of (waits_of s c thing)
        (first_of (if epoch_of (s.number l) == s.limits.epochs then Some Reply.EpochsSpent else None) None))) spent.dead
        ∙ ap (λ o. first_of o (first_of (if epoch_of (s.number l) == s.limits.epochs then Some Reply.EpochsSpent else None) None))
        (none_waits s c thing (λ d below other. nobody_waits setup t
        (step_to c None move (last_left setup t (word_of move)) (Some Reply.EpochsSpent) None) stands.legal tt is_alone a.call is_open thing
        d))
        ∙ ap (λ b. first_of (if b then Some Reply.EpochsSpent else None) None) (eq-eqb _ _ spent.last))))
        left

    -- it goes on
    abbrev e : Step
    e = step_to c None move (last_left setup t (word_of move)) None None

    goes_good : (next : CompAt) → holds_comp m next (holds_counts None a.counts) ≡ keeps (FrameAt m.frame) word (holds_counts None a.counts)
        → comp_dues m next ≡ comp_due_list m → EntryAt node index ≢ word_of move
        → (Carries setup t e c → KnowsCompAt setup (e ∷ t) c m next)
        → GoodTook setup cores t c move (landed a (comp_goes m next))
    goes_good next holds_so dues_so there known lands =
        loads_on setup setting cores t stands c here a active move a.found (Undecided (Act (comp_act (record m { at = next })))) looks lands
        (holds_so ∙ sym held_is) opens
        (λ carries. record {
          acts = has.acts;
          names = names_on setup setting t e stands.legal c a.call is_open carries (cores c).own.table (plan_for a.call) a.found has.names;
          knows = record {
            knows = record {
              spot = spot_on setup setting t e stands.legal c a.call is_open carries (plan_for a.call) a.found setup.cores node index
                  m.fill.word
                  (own_read-there c e t refl (EntryAt node index) there) knows.spot;
              makes = makes_comp_on a.call a.found m next knows.makes;
              core = knows.core;
              epochs = knows.epochs;
              cap = knows.cap;
              at = known carries;
            };
            all = dues_so ∙ dues_are;
            goes = refl;
          };
        })

    -- the number is taken
    takes_good : (last : LastEpoch) → EntryAt node index ≢ word_of move
        → (setup.epochs ≤ last.epoch → IsSpent (s.number l) s.limits.epochs)
        → (Carries setup t e c → MayTake setup (e ∷ t) c l last.epoch setup.cores (live_of_word last.word)
        × (own_read (e ∷ t) c (LiveAt l) ≡ Some last.word))
        → GoodTook setup cores t c move (landed a (takes_number m word last))
    takes_good last there spent may = by (nat_lt last.epoch m.epochs) refl
      where
        by : (b : Bool) → nat_lt last.epoch m.epochs ≡ b
            → GoodTook setup cores t c move
            (landed a (if b then comp_goes m (Close word last) else comp_refuses m word Refusal.EpochsSpent))
        by true low = goes_good (Close word last) refl refl there
            (λ carries. (
              says,
              record {
                takes = record { may = (may carries).0; more = ltb-true last.epoch m.epochs low };
                own = (may carries).1;
              },
            ))
        by false high = spent_good
            (spent (let most = ltb-false last.epoch m.epochs high in let same = knows.epochs in omega (arith, most, same)))

  -- The load of the number's word.
  abbrev found_there : ℕ
  found_there = last_left setup t (LiveAt l)

  number_of_call : (move : Move) → word_of move ≡ LiveAt l → IsOfCall setup t c a.call (LoadOf (LiveAt l))
  number_of_call move same = record {
    moves = subst (λ x. IsTrue (looks_at_numbers x)) (sym is.call_is) refl;
    footprint = inl (number_footprint a.call a.found m is s c);
  }

  looking : OnlyLooks setup t c a.call (LoadOf (LiveAt l))
  looking = record { of_call = number_of_call (LoadOf (LiveAt l)) refl; kept = refl; apart = λ d. refl }

  says_number : marked_by setup t (LiveAt l) ≡ None → NumberIs (s.number l) (stamp setup t thing) (live_of_word found_there)
  says_number bare = subst
      (λ o. NumberIs (s.number l) (stamp setup t thing) (live_of_word (settled_by o (held_by cores) (LiveAt l) found_there)))
      bare (stands.words (LiveAt l))

  closing_good : (d : ℕ) → marked_by setup t (LiveAt l) ≡ Some d
      → GoodTook setup cores t c (LoadOf (LiveAt l)) (landed a (comp_refuses m word (Refusal.Busy d)))
  closing_good d mark =
      busy_leaving setup setting cores t stands c here a active opens (Unmark m.frame word) (sym held_is) (λ e. left) room
      (LoadOf (LiveAt l)) looking (ap ticks_at stage_is) d
      (ap (λ h. h.marks (LiveAt l)) held_is ∙ no_number None a.counts l) mark tt

  there_apart : EntryAt node index ≢ LiveAt l
  there_apart h = cc

  read_here : own_read (e (LoadOf (LiveAt l)) looking ∷ t) c (LiveAt l) ≡ Some found_there
  read_here = own_read-here c (e (LoadOf (LiveAt l)) looking) t refl (LiveAt l) refl
      ∙ ap (λ b. if b then Some found_there else None) (eq-eqb found_there found_there refl)

  free_good : live_of_word found_there ≡ Some LiveWord.Free
      → GoodTook setup cores t c (LoadOf (LiveAt l)) (landed a (takes_number m word (record { word = found_there; epoch = 0 })))
  free_good shown = takes_good (LoadOf (LiveAt l)) looking (record { word = found_there; epoch = 0 }) there_apart
      (λ most. let some = setting.some_epoch in absurd (omega (arith, most, some)))
      (λ carries. (subst (MayTake setup (e (LoadOf (LiveAt l)) looking ∷ t) c l 0 setup.cores) (sym shown) refl, read_here))

  module _ (d x : ℕ) (shown : live_of_word found_there ≡ Some (LiveWord.Dead d x)) where
    since : IsDeadSince (s.number l) (stamp setup t thing) d x
    since = dead_number (s.number l) (stamp setup t thing) d x (live_of_word found_there) (says_number (ap live_mark shown)) shown

    abbrev last : LastEpoch
    last = record { word = found_there; epoch = d }

    abbrev loads : Step
    loads = e (LoadOf (LiveAt l)) looking

    dead_now : IsRemoved thing s
    dead_now = subst IsDeadNumber (sym since.dead) tt

    scanned_then : (upto : ℕ) → ((k : ℕ) → k < upto → k ≢ c → ⊥) → IsScanned setup (loads ∷ t) c thing x upto
    scanned_then upto none = record {
      some = since.drawn;
      past = (let p = (stands.graces thing).past in let q = since.same in omega (arith, p, q));
      rises = (let q = since.same in omega (arith, q));
      was_removed = was_now (IsRemoved thing) setup t loads c dead_now;
      passed = λ k below other. absurd (none k below other);
      flushed = λ k below. number_flushed setup t l x k (stands.graces thing);
    }

    scan_good : (o : Option Quiet) → quiet_scan x m.core setup.cores false ≡ o
        → GoodTook setup cores t c (LoadOf (LiveAt l)) (landed a (scans_number m word last o))
    scan_good None is =
        takes_good (LoadOf (LiveAt l)) looking last there_apart (spent_now setup setting t stands.legal l d since.dead)
        (λ carries. (
          subst (MayTake setup (loads ∷ t) c l d setup.cores) (sym shown) (
            refl,
            scanned_then setup.cores (λ k below other. (scan_none x m.core setup.cores false since.drawn is).1 k below
                (λ same. other (same ∙ knows.core))),
          ),
          read_here,
        ))
    scan_good (Some q) is = begins (scan_begins x m.core setup.cores false since.drawn q is)
      where
        begins : ScanBegins x m.core setup.cores false q
            → GoodTook setup cores t c (LoadOf (LiveAt l)) (landed a (comp_goes m (Scan word last q)))
        begins (AtFlushes page first others) = absurd (false≢true page)
        begins (AtCores upto first before) =
            subst (λ q. GoodTook setup cores t c (LoadOf (LiveAt l)) (landed a (comp_goes m (Scan word last q)))) (sym first)
            (goes_good (LoadOf (LiveAt l)) looking (Scan word last (AtCore x m.core upto false)) refl refl there_apart
            (λ carries. (
              says,
              record {
                own = read_here;
                says = shown;
                core = knows.core;
                was_dead = was_now (IsDeadIn l d) setup t loads c since.dead;
                scanned = scanned_then upto (λ k below other. before k below (λ same. other (same ∙ knows.core)));
              },
            )))

    died_good : GoodTook setup cores t c (LoadOf (LiveAt l)) (landed a (scans_number m word last (quiet_scan x m.core m.cores false)))
    died_good = subst (λ (n : ℕ). GoodTook setup cores t c (LoadOf (LiveAt l)) (landed a (scans_number m word last
        (quiet_scan x m.core n false)))) (sym (calls.cores_are setup setting cores t stands c here a active m stage_is has))
        (scan_good (quiet_scan x m.core setup.cores false) refl)

  pub load_live_good : GoodTook setup cores t c (LoadOf (LiveAt l)) (landed a (number_met m word found_there (live_of_word found_there)))
  load_live_good = by_word (live_of_word found_there) refl
    where
      by_number : (v : LiveWord) → live_of_word found_there ≡ Some v
          → GoodTook setup cores t c (LoadOf (LiveAt l)) (landed a (number_shown m word found_there v))
      by_number LiveWord.Free shown = free_good shown
      by_number (LiveWord.Live d f) shown = occupied_good (LoadOf (LiveAt l)) looking
          (live_number (s.number l) (stamp setup t thing) d f (live_of_word found_there) (says_number (ap live_mark shown)) shown)
      by_number (LiveWord.Closing d b) shown = closing_good b (ap live_mark shown)
      by_number (LiveWord.Dead d x) shown = died_good d x shown

      by_word : (o : Option LiveWord) → live_of_word found_there ≡ o
          → GoodTook setup cores t c (LoadOf (LiveAt l)) (landed a (number_met m word found_there o))
      by_word None shown = absurd (shows_none (s.number l) (stamp setup t thing) (live_of_word found_there)
          (says_number (ap live_mark shown)) shown)
      by_word (Some v) shown = by_number v shown

  -- A step of the scan.
  module _ (last : LastEpoch) (x by at : ℕ) (page : Bool) (stage_at : m.at ≡ Scan word last (AtCore x by at page))
      (scan : ScansNumber setup t c l last x by at) where
    abbrev was : ℕ
    was = last_left setup t (CoreAt at)

    abbrev load : Move
    load = LoadOf (CoreAt at)

    fits : CompAtFits (cores c).own.layout (Scan word last (AtCore x by at page))
    fits = subst (CompAtFits (cores c).own.layout) stage_at
        (calls.fits_in setup setting cores t stands c here a active m stage_is has).at

    below : at < setup.cores
    below = subst (λ (n : ℕ). at < n) (ap (λ s. s.cores) (stands.each c here).shape) fits.0.0

    other : at ≢ c
    other same = fits.0.1 (same ∙ sym scan.core)

    core_looks : OnlyLooks setup t c a.call load
    core_looks = record { of_call = record { moves = refl; footprint = inl tt }; kept = refl; apart = λ d. refl }

    core_apart : EntryAt node index ≢ CoreAt at
    core_apart h = cc

    live_apart : LiveAt l ≢ CoreAt at
    live_apart h = cc

    abbrev loaded : Step
    loaded = e load core_looks

    -- the core may still use what the number was
    module _ (inside : (s.core at).inside ≡ true) (early : exit_of t at ≤ x) where
      waits : MayWait s c thing at
      waits = record {
        is_core = subst (λ (n : ℕ). at < n) (sym (ap (λ l. l.cores) (limits_of setup t))) below;
        other = other;
        is_inside = inside;
        not_passed = may_wait setup t thing (stands.graces thing) at x (let d = scan.scanned.some in omega arith) scan.scanned.rises early;
      }

      abbrev decides : Step
      decides = inner setup setting cores t stands c here a active load (Some (Reply.Quiescing at)) None

      asks : IsTrue (list_any (same_thing thing) (asked_of waited_in s c (rule_of s c a.call)))
      asks = subst (λ things. IsTrue (list_any (same_thing thing) things))
          (sym (asked_left s c (own_pages s c) (plan_for a.call) (rule_of s c a.call) a.found
          (calls.by_plan setup setting cores t stands c here a active m stage_is has)
          (calls.leads setup setting cores t stands c here a active m stage_is has) waited_in))
          (subst (λ r. IsTrue (list_any (same_thing thing) (asked_of waited_in s c r)))
          (sym (calls.left setup setting cores t stands c here a active m stage_is has))
          (subst (λ o. IsTrue (list_any (same_thing thing) (thing_at o ++ thing ∷ [])))
          (sym (calls.reached_is setup setting cores t stands c here a active m stage_is has))
          (ap (λ b. b || false) (eq-eqb l l refl))))

      still_inside : GoodTook setup cores t c load (landed a (comp_refuses m word (Refusal.Quiescing at)))
      still_inside lands =
          decides_with setup setting cores t stands c here a active load (Reply.Quiescing at) (Unmark m.frame word) a.found core_looks
          lands (sym held_is) opens refl refl (λ x. refl) (λ x. refl) refl
          (unspent, calls.may_refuse setup setting cores t stands c here a active m stage_is has (Reply.Quiescing at) (inr (inl waits)))
          (record {
            thing = thing;
            asked = asks;
            may_wait = waits;
            was_removed = was_before (IsRemoved thing) setup t decides refl scan.scanned.was_removed;
          })
          (λ is_alone. absurd (not_inside setup t decides refl is_alone at other inside))
          left

    -- the core has passed
    module _ (passed : HasPassed setup t thing x at) where
      more : (upto : ℕ) → ((d : ℕ) → d < upto → d ≢ c → (d < at) ⊎ (d ≡ at)) → IsScanned setup t c thing x upto
      more upto before = record {
        some = scan.scanned.some;
        past = scan.scanned.past;
        rises = scan.scanned.rises;
        was_removed = scan.scanned.was_removed;
        passed = λ d under apart. elim (before d under apart) [
          | inl earlier ↦ scan.scanned.passed d earlier apart
          | inr same ↦ subst (HasPassed setup t thing x) (sym same) passed
        ];
        flushed = λ d under. number_flushed setup t l x d (stands.graces thing);
      }

      carried : (upto : ℕ) → ((d : ℕ) → d < upto → d ≢ c → (d < at) ⊎ (d ≡ at)) → Carries setup t loaded c
          → ScansNumber setup (loaded ∷ t) c l last x by upto
      carried upto before carries = number_on setup setting t loaded stands.legal c a.call is_open carries l last (AtCore x by upto page)
          (own_read-there c loaded t refl (LiveAt l) live_apart)
          (record { own = scan.own; says = scan.says; core = scan.core; was_dead = scan.was_dead; scanned = more upto before })

      goes_on : GoodTook setup cores t c load (landed a (comp_goes m (Scan word last (AtCore x by (next_other by at) page))))
      goes_on = goes_good load core_looks (Scan word last (AtCore x by (next_other by at) page)) refl refl core_apart
          (λ carries. (
            says,
            carried (next_other by at)
                (λ d under apart. before_next c at d (subst (λ (n : ℕ). d < next_other n at) scan.core under) apart) carries,
          ))

      ends : setup.cores ≤ next_other by at → GoodTook setup cores t c load (landed a (takes_number m word last))
      ends past_last = takes_good load core_looks last core_apart
          (spent_at setup setting t stands.legal c l last.epoch scan.was_dead)
          (λ carries.
          let moved = carried setup.cores (λ d under apart. before_next c at d (below_next d under) apart) carries in
          (subst (MayTake setup (loaded ∷ t) c l last.epoch setup.cores) (sym moved.says) (refl, moved.scanned), moved.own))
        where
          below_next : (d : ℕ) → d < setup.cores → d < next_other c at
          below_next d under = subst (λ (n : ℕ). d < next_other n at) scan.core (omega (arith, past_last, under))

      abbrev After : Option Quiet → Type 0
      After next = GoodTook setup cores t c load (landed a
          (number_scanned m word last (scan_after (AtCore x by at page) None next) (scan_end None next)))

      has_passed : After (quiet_next setup.cores (AtCore x by at page))
      has_passed = by_next (nat_lt (next_other by at) setup.cores) refl
        where
          by_next : (there : Bool) → nat_lt (next_other by at) setup.cores ≡ there → After (core_scan there x by (next_other by at) page)
          by_next true is = goes_on
          by_next false is = subst (λ p. After (flush_scan p x)) (sym fits.2) (ends (ltb-false (next_other by at) setup.cores is))

    abbrev Judged : Option CoreWord → Type 0
    Judged o = GoodTook setup cores t c load (landed a (number_scanned m word last
        (scan_after (AtCore x by at page) (core_refuses x at o) (quiet_next setup.cores (AtCore x by at page)))
        (scan_end (core_refuses x at o) (quiet_next setup.cores (AtCore x by at page)))))

    word_is : core_of_word was ≡ Some (record { inside = (s.core at).inside; stamp = exit_of t at })
    word_is = stands.words (CoreAt at)

    judged : Judged (core_of_word was)
    judged = subst Judged (sym word_is) (by_inside (s.core at).inside refl (nat_le (exit_of t at) x) refl)
      where
        by_inside : (inside : Bool) → (s.core at).inside ≡ inside → (early : Bool) → nat_le (exit_of t at) x ≡ early
            → GoodTook setup cores t c load (landed a (number_scanned m word last
            (scan_after (AtCore x by at page) (if inside && early then Some (Reply.Quiescing at) else None)
            (quiet_next setup.cores (AtCore x by at page)))
            (scan_end (if inside && early then Some (Reply.Quiescing at) else None) (quiet_next setup.cores (AtCore x by at page)))))
        by_inside false is early le = has_passed (out_passed setup t thing (stands.graces thing) at x is)
        by_inside true is true le = still_inside is (leb-true (exit_of t at) x le)
        by_inside true is false le = has_passed (later_passed setup t thing (stands.graces thing) at x (leb-false (exit_of t at) x le))

    pub scan_step_good : GoodTook setup cores t c load (landed a (number_scanned m word last
        (quiet_after m.cores (AtCore x by at page) was) (quiet_end m.cores (AtCore x by at page) was)))
    scan_step_good = subst (λ (n : ℕ). GoodTook setup cores t c load (landed a (number_scanned m word last
        (quiet_after n (AtCore x by at page) was) (quiet_end n (AtCore x by at page) was))))
        (sym (calls.cores_are setup setting cores t stands c here a active m stage_is has)) judged
