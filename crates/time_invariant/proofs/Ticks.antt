-- The steps of a tick are good: the load of the head of its core's temporal capability, and the compare, which is lost to another core or
-- charges the ticks that are due.
use Rattle.step_ways.proofs.{counts_bare, not_exclusive_head_value, not_exclusive_head_word, exclusive_none, exclusive_free, min, IsSome}
use Rattle.step_ways.proofs.{◌≡◌, ◌≢◌, inl, inr, ℕ, zero, suc, map, ◌+◌, ◌-◌, ◌*◌, ◌^◌, ◌<◌, ◌≤◌, ◌==◌, true, false, List, [], ◌∷◌, length}
use Rattle.step_ways.proofs.{Option, Some, None, arith, refl, sym, ◌∙◌, ap, subst, if◌then◌else◌, eqb-true, eqb-false, eq-eqb, false≢true}
use Rattle.step_ways.proofs.{Setting, IsSetting, InLimits, left_if, Call, Reply, HeadFits, word_of_head, head_of_word, HeadWord, spelling}
use Rattle.step_ways.proofs.{Word, EntryAt, FrameAt, CountAt, CoreAt, FlushAt, LiveAt, ClockAt, Move, LoadOf, CompareOf, word_of, left_of}
use Rattle.step_ways.proofs.{Kernel, Tcap, TcapFields, tcap_in, Thing, PlaceOf, NumberOf, State, put, with_frame, thread_in, comp_in}
use Rattle.step_ways.proofs.{thread_of, comp_of, first_of_stack, refs, frame_names, times, Change, Found, IsFoundAnd, rule_of, change_of}
use Rattle.step_ways.proofs.{changed, counted, state_by, begins, ends, flushes, MayReply, calls_counted, frame_refs, sum_one}
use Rattle.step_ways.proofs.{core_same_refs, put_same, put_other, mark_of, mark_in_frame, head_mark, marked_by, IsAlone, holds_node}
use Rattle.step_ways.proofs.{frame_value, ways, Slot, names_on, changes_in_frame, is_one_of, footprint_frames, HasReached, IsJustified}
use Rattle.step_ways.proofs.{ends_in, flushes_in, stamp, Step, Trace, Open, phase, state_after, last_left, state_decided_in, own_left}
use Rattle.step_ways.proofs.{ok_first, decided-inside, not_inside, own_read-here, Acquired, head, debited, head_end, Charge, Own}
use Rattle.step_ways.proofs.{own_changed, Act, Goes, Undecided, Decided, ActiveCall, HasRoom, landed, own_decided, Core, holds_counts}
use Rattle.step_ways.proofs.{settled_by, settled, HeadIs, IsFrameWord, WordIs, due_of, ChargesBy, KnowsUndecided, WorksIn, phase_at}
use Rattle.step_ways.proofs.{untypes, holds_at, holds_in, holds, held_by, times_of, counted_in, Invariant, done_by, IsUntimed, plain_begins}
use Rattle.step_ways.proofs.{plain_stamp, plain_flush, plain_exit, counted_refs, list_changed, TurnsHead, SparesTcap, marker_inside}
use Rattle.step_ways.proofs.{limits_of, sums_keep, SameFor, ReadsAlike, StaysSaid, marks_own, word_stays, carry_marks, others_settled}
use Rattle.step_ways.proofs.{begins_in, rank, AtLoad, Tick as tick_act, Nothing as no_tail, Spared, SparesBlanks, spares_kept, IsOfCall}
use Rattle.step_ways.proofs.{OnlyLooks, next_at, inner, call_is, is_active, loads_on, decides_changing, GoodTook, not_spent, same_marks}
use Rattle.step_ways.specs.kept_facts.proofs.{exclusive_kept, not_changed, last_small, settled_on, carry_words, load_keeps, load_marks}
use Rattle.step_ways.specs.act_states.specs.{Tick, Amount, Core as CoreFields, end_by_mark, charged_end, ticks_of, took_charge}
use Rattle.plan_ways.specs.kernel_history.specs.{IsRaceLost, with_core, with_tcap, IsHeldUp}
use Rattle.step_ways.specs.stage_tcap.specs.{after_mark, after_head}
use Rattle.std.proofs.{lemmas.List.Elements.All-nil, lemmas.Bool.cases_eq}
use Rattle.plan_ways.specs.kernel_rules.specs.{CallRelation.owing, Edits.charge, Edits.charging as after_charge}
use Rattle.step_ways.specs.act_states.specs.{declared.own.OwnChange.TheVariants.Ticks, Ticks.owes}
use Rattle.step_ways.specs.core_invariant.specs.Acting.{charged_tcap, HasHead}
use Rattle.time_invariant.proofs.Budgets.{tcap_is, IsTcap, Numbers, numbers_of}
use Rattle.time_invariant.proofs.TickCalls.{IsTick, tick_of, own_footprint, raced_head}
use Rattle.{step_ways.proofs.plan_for, step_ways.specs.kept_facts.proofs.load_words}
use Rattle.{step_ways.specs.stage_tcap.specs.declared.charge.Charge.TheVariants.AtCompare, step_ways.proofs.OwnChanges.IsSameCore}

-- The change of a tick of which so many ticks are charged.
abbrev charges : State → ℕ → ℕ → ℕ → Change
charges s c due charged = record { value = Amount charged; next = after_charge s c due charged; takes = []; begins = [] }

-- A core that has counted one call more.
abbrev one_more : CoreFields → CoreFields
one_more k = record k { counted = k.counted + 1 }

module _ (setup : Setting) (setting : IsSetting setup) (cores : ℕ → Core) (t : Trace) (stands : Invariant setup cores t) (c : ℕ)
    (here : c < setup.cores)
    (a : ActiveCall) (active : (cores c).active ≡ Some a) (charge_at : Charge)
    (stage_is : a.stage ≡ Undecided (Act (tick_act charge_at)))
    (has : KnowsUndecided setup t c (cores c).own.table a (Act (tick_act charge_at))) where
  abbrev s : State
  s = state_after setup t

  abbrev f : ℕ
  f = (s.core c).tcap

  abbrev at : Word
  at = EntryAt f 0

  abbrev was : ℕ
  was = last_left setup t at

  is : IsTick s c a.call charge_at
  is = tick_of s c a.call charge_at has.knows.knows.charges

  abbrev n : ℕ
  n = is.ticks

  numbers : Numbers s c
  numbers = numbers_of setup setting t stands.legal c here

  tcap : IsTcap (s.frame f)
  tcap = tcap_is (s.frame f) numbers.tcap

  abbrev q : TcapFields
  q = tcap.fields

  opens : phase_at a.call a.stage ≡ Open a.call
  opens = ap (phase_at a.call) stage_is

  held_is : holds_in (Some a) ≡ holds_counts None a.counts
  held_is = ap (λ s. holds_at s a.counts) stage_is

  room : (cores c).own.made < (cores c).own.limit
  room = subst (HasRoom (cores c).own.made (cores c).own.limit) stage_is (is_active setup setting cores t stands c here a active).room

  is_open : phase t c ≡ Open a.call
  is_open = (call_is setup setting cores t stands c here a active).phase ∙ opens

  -- no count is acquired
  no_counts : a.counts ≡ []
  no_counts = none_of a.counts has.knows.all
    where
      none_of : (xs : List Acquired) → [] ≡ map due_of xs → xs ≡ []
      none_of [] h = refl
      none_of (x ∷ xs) h = absurd (cc)

  bare : (fate : Option (Option ℕ)) (w : Word) → (holds_counts fate a.counts).marks w ≡ false
  bare fate w = ap (λ (xs : List Acquired). (holds_counts fate xs).marks w) no_counts

  few : n ≤ 1000000
  few = subst InLimits is.call_is (is_active setup setting cores t stands c here a active).limits

  -- what is due, of which nothing is cut off
  due_is : ticks_of charge_at ≡ n + (s.core c).owed
  due_is = is.charged.ticks ∙ all
    where
      all : min ((s.core c).owed + n) (2 ^ 64 - 1) ≡ n + (s.core c).owed
      all = let low = few in let owed = numbers.owed in let most = numbers.counted in omega arith

  -- what the head's word shows, where no core has marked it
  head_says : marked_by setup t at ≡ None → HeadIs q (head_of_word was)
  head_says unmarked = subst (λ (n : ℕ). HeadIs q (head_of_word n))
      (not_exclusive_head_value setup cores t stands f q tcap.is was)
      (subst (λ o. HeadIs q (head_of_word (settled_by o (held_by cores) at was))) unmarked
      (subst (λ x. IsFrameWord s.limits.frames x (s.place f 0)
      (stamp setup t (PlaceOf f 0)) 0 (settled setup (held_by cores) t at))
      tcap.is (stands.words at)))

  mark_is : (x : ℕ) → mark_of s at x ≡ head_mark (head_of_word x)
  mark_is x = ap (λ y. mark_in_frame y 0 x) tcap.is

  footprint : is_one_of f (footprint_frames s c a.call) ≡ true
  footprint = own_footprint s c a.call

  -- the rule of a tick refuses nothing
  abbrev due : ℕ
  due = n + (s.core c).owed

  abbrev change : Change
  change = charges s c due (charge s c due)

  change_is : change_of s c a.call ≡ Found change
  change_is = ap (change_of s c) is.call_is

  unspent : MayReply s c a.call Reply.Raced
  unspent = (not_spent setup (cores c) t c (stands.each c here) room, tt)

  -- the decision changes what the core owes, and what it has spent
  abbrev left_own : Reply → ℕ → ℕ → Own
  left_own r charged owed = own_decided (own_changed (cores c).own (Ticks charged owed)) r

  same_core : (r : Reply) (charged owed : ℕ) → IsSameCore (cores c).own (left_own r charged owed)
  same_core r charged owed = record { core = refl; layout = refl; limit = refl; epochs = refl; exit = refl }

  -- A refusal leaves owed what is due.
  module _ (move : Move) (looks : OnlyLooks setup t c a.call move) (r : Reply)
      (one : calls_counted r ≡ 1)
      (owing_is : state_by s c (Tick n) r ≡ counted (owing s c n) c)
      (none_begins : (x : Thing) → begins s c (Tick n) r x ≡ false)
      (none_ends : (x : Thing) → ends (Tick n) r x ≡ false)
      (no_flush : flushes (Tick n) r ≡ false)
      (held_after : holds_at (Decided r None no_tail) a.counts ≡ holds_counts None a.counts) where
    abbrev e : Step
    e = inner setup setting cores t stands c here a active move (Some r) None

    abbrev s' : State
    s' = state_after setup (e ∷ t)

    abbrev after : Core
    after = record { own = left_own r 0 (ticks_of charge_at); active = Some (next_at a a.found (Decided r None no_tail)) }

    now : s' ≡ counted (owing s c n) c
    now = ap (λ p. state_decided_in p r s c) is_open ∙ ap (λ x. state_by s c x r) is.call_is ∙ owing_is

    abbrev owes_more : CoreFields
    owes_more = record (s.core c) { owed = (s.core c).owed + n }

    core_now : s'.core c ≡ record owes_more { counted = (s.core c).counted + 1 }
    core_now = ap (λ x. x.core c) now ∙ put_same (owing s c n).core c _ c refl
        ∙ ap one_more (put_same s.core c owes_more c refl)

    core_other : (d : ℕ) → d ≢ c → s'.core d ≡ s.core d
    core_other d other = ap (λ x. x.core d) now ∙ put_other (owing s c n).core c _ d other ∙ put_other s.core c owes_more d other

    frames : (g : ℕ) → s'.frame g ≡ s.frame g
    frames g = ap (λ x. x.frame g) now

    limits : s'.limits ≡ s.limits
    limits = ap (λ x. x.limits) now

    rises : counted_in setup s ≤ counted_in setup s'
    rises =
        let sum = sum_one (λ d. (s.core d).counted) (λ d. (s'.core d).counted) setup.cores c here
        (λ d other. ap (λ k. k.counted) (core_other d other)) in
        let more : (s'.core c).counted ≡ (s.core c).counted + 1 = ap (λ k. k.counted) core_now in
        omega arith

    still : holds after ≡ holds (cores c)
    still = held_after ∙ sym held_is ∙ ap holds_in (sym active)

    plain : IsUntimed setup t e
    plain = record {
      begins = λ x. ap (λ p. begins_in (Some r) p s c x) is_open ∙ ap (λ y. begins s c y r x) is.call_is ∙ none_begins x;
      ends = λ x. ap (λ p. ends_in (Some r) p x) is_open ∙ ap (λ y. ends y r x) is.call_is ∙ none_ends x;
      flushes = ap (flushes_in (Some r)) is_open ∙ ap (λ y. flushes y r) is.call_is ∙ no_flush;
      apart = looks.apart;
      same = load_keeps setup cores t e after still frames looks.kept ClockAt;
    }

    owed_is : after.own.owed ≡ (s'.core c).owed
    owed_is =
        let owes : (s'.core c).owed ≡ (s.core c).owed + n = ap (λ k. k.owed) core_now in
        let all = due_is in
        omega arith

    spent_is : after.own.spent ≡ (s'.core c).spent
    spent_is =
        let own : (cores c).own.spent ≡ (s.core c).spent = (stands.each c here).works.spent in
        let kept : (s'.core c).spent ≡ (s.core c).spent = ap (λ k. k.spent) core_now in
        let low = numbers.spent in
        let most = numbers.counted in
        omega arith

    made_is : after.own.made ≡ (s'.core c).counted
    made_is =
        let own = (stands.each c here).works.made in
        let more : (s'.core c).counted ≡ (s.core c).counted + 1 = ap (λ k. k.counted) core_now in
        let counts = one in
        omega arith

    whose : thread_of s' c ≡ thread_of s c
    whose = ap thread_in (frames (s'.core c).thread) ∙ ap (λ k. thread_in (s.frame k.thread)) core_now

    comp_same : comp_of s' c ≡ comp_of s c
    comp_same = ap comp_in (frames (first_of_stack (thread_of s' c).stack))
        ∙ ap (λ k. comp_in (s.frame (first_of_stack k.stack))) whose

    works : WorksIn after.own s' c
    works =
        let was_in = (stands.each c here).works in record {
          thread = was_in.thread ∙ ap (λ k. k.thread) (sym core_now);
          depth = was_in.depth ∙ ap (λ k. length k.stack) (sym whose);
          comp = was_in.comp ∙ ap (λ k. first_of_stack k.stack) (sym whose);
          table = was_in.table ∙ ap (λ k. k.table) (sym comp_same);
          pages = was_in.pages ∙ ap (λ k. k.pages) (sym comp_same);
          tcap = was_in.tcap ∙ ap (λ k. k.tcap) (sym core_now);
          cached = was_in.cached ∙ ap (λ k. k.cached) (sym core_now);
          owed = owed_is;
          spent = spent_is;
          back = (stands.each c here).works.back ∙ ap (λ k. k.back) (sym core_now);
          grant = (stands.each c here).works.grant ∙ ap (λ k. k.grant) (sym core_now);
          made = made_is;
        }

    same_words : (w : Word) → SameFor s s' (times_of setup t) (times_of setup (e ∷ t)) w
    same_words (EntryAt g i) = record {
      frames = ap (λ l. l.frames) limits;
      frame = frames g;
      place = ap (λ x. x.place g i) now;
      stamp = plain_stamp setup t e plain (PlaceOf g i);
    }
    same_words (FrameAt g) = frames g
    same_words (CountAt g d) = tt
    same_words (CoreAt d) = record { inside = decided-inside (Some r) (phase t c) s c d; exit = plain_exit t e refl d }
    same_words (FlushAt d) = plain_flush setup t e plain d
    same_words (LiveAt l) = record { number = ap (λ x. x.number l) now; stamp = plain_stamp setup t e plain (NumberOf l) }
    same_words ClockAt = tt

    kept_refs : (g : ℕ) → refs s' g ≡ refs s g
    kept_refs g = ap (λ x. refs x g) now ∙ counted_refs (owing s c n) c g ∙ core_same_refs s c owes_more refl refl g

    refused : MayReply s c a.call r → IsJustified setup t e a.call r → (IsAlone t e → ⊥)
        → GoodTook setup cores t c move (landed a (owes r (ticks_of charge_at)))
    refused permitted justified not_alone lands =
        let marks = load_marks setup cores t e after still frames looks.kept stands.marks in
        decides_changing setup setting cores t stands c here a active move r (left_own r 0 (ticks_of charge_at)) (Decided r None no_tail)
        (same_core r 0 (ticks_of charge_at))
        (subst (λ (m : ℕ). m < 2 ^ 64) (sym looks.kept) (last_small setup setting t stands.legal (word_of move)))
        looks.of_call lands opens refl
        (marks_own setup cores t e after (λ w there. ap (λ h. h.marks w) still) stands.marks marks)
        (λ d m other. looks.kept)
        (plain_begins setup t e plain) (spares_kept setup t e looks.kept) (inl (ap untypes is.call_is)) rises works marks
        (load_words setup cores t e after still frames looks.kept same_words stands.words)
        (exclusive_none setup (e ∷ t) c after (counts_bare (done_by r None) a.counts)) (exclusive_kept cores e looks.kept)
        (sums_keep setup t e (held_by cores) (held_by (put cores c after))
        (λ g d. settled_on setup cores t e after still frames (CountAt g d)
        (load_keeps setup cores t e after still frames looks.kept (CountAt g d)))
        plain limits kept_refs stands.sums)
        (record { call = a.call; is_open = is_open; permitted = permitted; justified = justified })
        (λ is_alone. absurd (not_alone is_alone))
        tt

  none_some : (d : ℕ) → None ≡ Some d → ⊥
  none_some d h = cc

  -- Another core's mark.
  module _ (of_load : IsOfCall setup t c a.call (LoadOf at)) (d : ℕ) (mark : marked_by setup t at ≡ Some d) where
    abbrev busy_step : Step
    busy_step = inner setup setting cores t stands c here a active (LoadOf at) (Some (Reply.Busy d)) None

    blocked : IsHeldUp setup t busy_step s (rule_of s c a.call) d
    blocked = record {
      marked = mark;
      other = λ own. false≢true (sym (ap (λ h. h.marks at) (ap (λ (e : ℕ). held_by cores e) own ∙ ap holds_in active ∙ held_is)
          ∙ bare None at) ∙ (stands.marks at d).owned mark);
      is_inside = marker_inside setup cores t stands at d mark;
      has_marked = stands.marked at d mark;
      on_way = λ node. absurd (false≢true (ap holds_node (sym tcap.is) ∙ node));
    }

    pub busy_good : GoodTook setup cores t c (LoadOf at) (landed a (owes (Reply.Busy d) (ticks_of charge_at)))
    busy_good = refused (LoadOf at) (record { of_call = of_load; kept = refl; apart = λ e. refl }) (Reply.Busy d) refl refl
        (λ x. refl) (λ x. refl) refl refl unspent blocked
        (λ is_alone. not_inside setup t busy_step refl is_alone d blocked.other blocked.is_inside)

  -- The compare finds another word than the load.
  module _ (budget version : ℕ) (met : HasHead t c f budget version) (new : ℕ) where
    abbrev old : ℕ
    old = word_of_head (head budget version)

    abbrev compare : Move
    compare = CompareOf at old new

    of_compare : IsOfCall setup t c a.call compare
    of_compare = record {
      moves = ap (changes_in_frame a.call) tcap.is ∙ ap (λ x. changes_in_frame x (Kernel (Tcap q))) is.call_is;
      footprint = inl footprint;
    }

    pub lost_good : (was == old) ≡ false → GoodTook setup cores t c compare (landed a (owes Reply.Raced (ticks_of charge_at)))
    lost_good other =
        refused compare (record { of_call = of_compare; kept = kept; apart = λ e. refl }) Reply.Raced refl refl
        (λ x. refl) (λ x. refl) refl refl unspent lost
        (λ is_alone. not_changed setup t (inner setup setting cores t stands c here a active compare (Some Reply.Raced) None) refl
        is_alone lost.own lost.has_read lost.changed)
      where
        kept : left_of compare was ≡ was
        kept = ap (λ b. left_if b was new) other

        lost : IsRaceLost t (inner setup setting cores t stands c here a active compare (Some Reply.Raced) None) s (rule_of s c a.call)
        lost = record {
          at = inr (raced_head (s.frame f) q tcap.is, refl);
          reads = eq-eqb (left_of compare was) was kept;
          own = old;
          has_read = met.own;
          changed = eqb-false was old other;
        }

  -- The load.
  module _ (tcap_at : ℕ) (ticks : ℕ) (charge_is : charge_at ≡ AtLoad tcap_at ticks) where
    pub here_is : tcap_at ≡ f
    here_is = ap charged_tcap (sym charge_is) ∙ is.charged.tcap

    loading : OnlyLooks setup t c a.call (LoadOf at)
    loading = record { of_call = record { moves = refl; footprint = inl footprint }; kept = refl; apart = λ d. refl }

    -- it is free, and the compare comes next
    free_good : (budget version : ℕ) → head_of_word was ≡ Some (head budget version)
        → GoodTook setup cores t c (LoadOf at) (landed a (Goes (Act (tick_act (AtCompare f ticks budget version)))))
    free_good budget version reads lands =
        let spells = spelling.spells was (head budget version) reads in
        loads_on setup setting cores t stands c here a active (LoadOf at) a.found
        (Undecided (Act (tick_act (AtCompare f ticks budget version)))) loading lands (sym held_is) opens
        (λ carries. record {
          acts = has.acts;
          names = names_on setup setting t
              (inner setup setting cores t stands c here a active (LoadOf at) None None) stands.legal c a.call is_open carries
              (cores c).own.table (plan_for a.call) a.found has.names;
          knows = record {
            knows = record {
              charges = charges_on a.call (subst (λ y. ChargesBy s c a.call y) charge_is has.knows.knows.charges);
              at = record {
                own = own_read-here c (inner setup setting cores t stands c here a active (LoadOf at) None None) t refl at refl
                    ∙ ap (λ b. if b then Some was else None) (eq-eqb was was refl) ∙ ap (λ (x : ℕ). Some x) (sym spells.1);
                fits = spells.0;
              };
            };
            all = ap (λ (xs : List Acquired). map due_of xs) (sym no_counts);
            goes = refl;
          };
        })
      where
        charges_on : (call : Call) → ChargesBy s c call (AtLoad tcap_at ticks) → ChargesBy s c call (AtCompare f ticks budget version)
        charges_on (Tick m) h = record { tcap = refl; ticks = h.ticks }
        charges_on call h = absurd h

    pub load_good : GoodTook setup cores t c (LoadOf at)
        (landed a (took_charge ticks (after_head f ticks (head_of_word was)) (head_end (head_of_word was))))
    load_good = by_word (head_of_word was) refl
      where
        same_due : ticks_of charge_at ≡ ticks
        same_due = ap ticks_of charge_is

        not_none : (v : HeadWord) → None ≡ Some v → ⊥
        not_none v h = cc

        by_mark : (budget version : ℕ) (mark : Option ℕ)
            → head_of_word was ≡ Some (record { budget = budget; mark = mark; version = version })
            → GoodTook setup cores t c (LoadOf at)
            (landed a (took_charge ticks (after_mark f ticks budget version mark) (end_by_mark mark)))
        by_mark budget version None shown = free_good budget version shown
        by_mark budget version (Some d) shown =
            subst (λ (m : ℕ). GoodTook setup cores t c (LoadOf at) (landed a (owes (Reply.Busy d) m))) same_due
            (busy_good (record { moves = refl; footprint = inl footprint }) d (mark_is was ∙ ap head_mark shown))

        by_word : (o : Option HeadWord) → head_of_word was ≡ o
            → GoodTook setup cores t c (LoadOf at) (landed a (took_charge ticks (after_head f ticks o) (head_end o)))
        by_word None shown =
            let says = (head_says (mark_is was ∙ ap head_mark shown)).says in absurd (not_none _ (sym shown ∙ says))
        by_word (Some v) shown = by_mark v.budget v.version v.mark shown

  -- The compare finds the word of the load, and charges what is due.
  module _ (tcap_at ticks budget version : ℕ) (charge_is : charge_at ≡ AtCompare tcap_at ticks budget version)
      (met : HasHead t c f budget version) (equal : (was == word_of_head (head budget version)) ≡ true) where
    abbrev charged : ℕ
    charged = min ticks budget

    abbrev less : HeadWord
    less = debited (head budget version) charged

    abbrev charging : Move
    charging = CompareOf at (word_of_head (head budget version)) (word_of_head less)

    abbrev e_won : Step
    e_won = inner setup setting cores t stands c here a active charging (Some (Reply.Ok (Amount charged))) None

    abbrev s_won : State
    s_won = state_after setup (e_won ∷ t)

    abbrev own_won : Own
    own_won = left_own (Reply.Ok (Amount charged)) charged (ticks - charged)

    abbrev after_won : Core
    after_won = record { own = own_won; active = Some (next_at a a.found (Decided (Reply.Ok (Amount charged)) None no_tail)) }

    leaves_it : left_of charging was ≡ word_of_head less
    leaves_it = ap (λ b. left_if b was (word_of_head less)) equal

    shown_is : head_of_word was ≡ Some (head budget version)
    shown_is = ap head_of_word (eqb-true was (word_of_head (head budget version)) equal) ∙ spelling.reads (head budget version) met.fits

    unmarked : marked_by setup t at ≡ None
    unmarked = mark_is was ∙ ap head_mark shown_is

    head_is : head budget version ≡ record { budget = q.budget; mark = None; version = (head_says unmarked).version }
    head_is = same_head _ _ (sym shown_is ∙ (head_says unmarked).says)
      where
        same_head : (v u : HeadWord) → Some v ≡ Some u → v ≡ u
        same_head v u h = cc

    budget_is : budget ≡ q.budget
    budget_is = ap (λ v. v.budget) head_is

    version_within : version ≤ rank q.qualities
    version_within = subst (λ (n : ℕ). n ≤ rank q.qualities) (sym (ap (λ v. v.version) head_is)) (head_says unmarked).within

    ticks_is : ticks ≡ due
    ticks_is = ap ticks_of (sym charge_is) ∙ due_is

    charged_is : charged ≡ charge s c due
    charged_is = ap (λ (m : ℕ). min m budget) ticks_is
        ∙ ap (λ (m : ℕ). min due m) (budget_is ∙ ap (λ x. (tcap_in x).budget) (sym tcap.is))

    less_fits : HeadFits less
    less_fits = (let low = met.fits.0 in omega arith, tt, met.fits.2)

    bare_now : mark_of s at (left_of charging was) ≡ None
    bare_now = ap (mark_of s at) leaves_it ∙ mark_is (word_of_head less) ∙ ap head_mark (spelling.reads less less_fits)

    -- the state after it
    abbrev q_less : TcapFields
    q_less = record q { budget = q.budget - charged }

    abbrev k_won : CoreFields
    k_won = record (s.core c) { spent = (s.core c).spent + charged; owed = due - charged }

    abbrev s_left : State
    s_left = with_core (with_frame s f (Kernel (Tcap q_less))) c k_won

    now_won : s_won ≡ counted s_left c
    now_won = ap (λ p. state_decided_in p (Reply.Ok (Amount charged)) s c) is_open
        ∙ ap (λ x. counted (changed s x) c) (change_is ∙ ap (λ (m : ℕ). Found (charges s c due m)) (sym charged_is))
        ∙ ap (λ x. counted (with_core (with_frame s f (with_tcap x
        (record (tcap_in x) { budget = (tcap_in x).budget - charged })))
        c k_won) c) tcap.is

    frame_here : (g : ℕ) → g ≡ f → s_won.frame g ≡ Kernel (Tcap q_less)
    frame_here g same = ap (λ x. x.frame g) now_won ∙ put_same s.frame f (Kernel (Tcap q_less)) g same

    frame_there : (g : ℕ) → g ≢ f → s_won.frame g ≡ s.frame g
    frame_there g other = ap (λ x. x.frame g) now_won ∙ put_other s.frame f (Kernel (Tcap q_less)) g other

    was_tcap : (g : ℕ) → g ≡ f → s.frame g ≡ Kernel (Tcap q)
    was_tcap g same = ap s.frame same ∙ tcap.is

    core_won : s_won.core c ≡ record k_won { counted = (s.core c).counted + 1 }
    core_won = ap (λ x. x.core c) now_won ∙ put_same s_left.core c _ c refl
        ∙ ap one_more (put_same s.core c k_won c refl)

    core_won_other : (d : ℕ) → d ≢ c → s_won.core d ≡ s.core d
    core_won_other d other = ap (λ x. x.core d) now_won ∙ put_other s_left.core c _ d other ∙ put_other s.core c k_won d other

    limits_won : s_won.limits ≡ s.limits
    limits_won = ap (λ x. x.limits) now_won

    threads_won : (g : ℕ) → thread_in (s_won.frame g) ≡ thread_in (s.frame g)
    threads_won g = elim (cases_eq g f) [
      | inl same ↦ ap thread_in (frame_here g same) ∙ ap thread_in (sym (was_tcap g same))
      | inr other ↦ ap thread_in (frame_there g other)
    ]

    comps_won : (g : ℕ) → comp_in (s_won.frame g) ≡ comp_in (s.frame g)
    comps_won g = elim (cases_eq g f) [
      | inl same ↦ ap comp_in (frame_here g same) ∙ ap comp_in (sym (was_tcap g same))
      | inr other ↦ ap comp_in (frame_there g other)
    ]

    rises_more : 1 + counted_in setup s ≤ counted_in setup s_won
    rises_more =
        let sum = sum_one (λ d. (s.core d).counted) (λ d. (s_won.core d).counted) setup.cores c here
        (λ d other. ap (λ k. k.counted) (core_won_other d other)) in
        let more : (s_won.core c).counted ≡ (s.core c).counted + 1 = ap (λ k. k.counted) core_won in
        omega arith

    rises_won : counted_in setup s ≤ counted_in setup s_won
    rises_won = let more = rises_more in omega arith

    whose_won : thread_of s_won c ≡ thread_of s c
    whose_won = threads_won (s_won.core c).thread ∙ ap (λ k. thread_in (s.frame k.thread)) core_won

    comp_won : comp_of s_won c ≡ comp_of s c
    comp_won = comps_won (first_of_stack (thread_of s_won c).stack) ∙ ap (λ k. comp_in (s.frame (first_of_stack k.stack))) whose_won

    works_won : WorksIn own_won s_won c
    works_won =
        let was_in = (stands.each c here).works in record {
          thread = was_in.thread ∙ ap (λ k. k.thread) (sym core_won);
          depth = was_in.depth ∙ ap (λ k. length k.stack) (sym whose_won);
          comp = was_in.comp ∙ ap (λ k. first_of_stack k.stack) (sym whose_won);
          table = was_in.table ∙ ap (λ k. k.table) (sym comp_won);
          pages = was_in.pages ∙ ap (λ k. k.pages) (sym comp_won);
          tcap = was_in.tcap ∙ ap (λ k. k.tcap) (sym core_won);
          cached = was_in.cached ∙ ap (λ k. k.cached) (sym core_won);
          owed = ap (λ (m : ℕ). m - charged) ticks_is ∙ ap (λ k. k.owed) (sym core_won);
          spent = spent_won;
          back = was_in.back ∙ ap (λ k. k.back) (sym core_won);
          grant = was_in.grant ∙ ap (λ k. k.grant) (sym core_won);
          made = made_won;
        }
      where
        spent_won : min ((cores c).own.spent + charged) (2 ^ 64 - 1) ≡ (s_won.core c).spent
        spent_won =
            let own : (cores c).own.spent ≡ (s.core c).spent = (stands.each c here).works.spent in
            let more : (s_won.core c).spent ≡ (s.core c).spent + charged = ap (λ k. k.spent) core_won in
            let low = numbers.spent in
            let most = numbers.counted in
            let small = met.fits.0 in
            omega arith

        made_won : (cores c).own.made + 1 ≡ (s_won.core c).counted
        made_won =
            let own = (stands.each c here).works.made in
            let more : (s_won.core c).counted ≡ (s.core c).counted + 1 = ap (λ k. k.counted) core_won in
            omega arith

    plain_won : IsUntimed setup t e_won
    plain_won = record {
      begins = λ x. ap (λ p. begins_in (Some (Reply.Ok (Amount charged))) p s c x) is_open
          ∙ ap (λ y. begins s c y (Reply.Ok (Amount charged)) x) is.call_is;
      ends = λ x. ap (λ p. ends_in (Some (Reply.Ok (Amount charged))) p x) is_open
          ∙ ap (λ y. ends y (Reply.Ok (Amount charged)) x) is.call_is;
      flushes = ap (flushes_in (Some (Reply.Ok (Amount charged)))) is_open ∙ ap (λ y. flushes y (Reply.Ok (Amount charged))) is.call_is;
      apart = λ d. refl;
      same = refl;
    }

    alike_won : ReadsAlike setup t e_won
    alike_won (EntryAt g i) = elim (cases_eq g f) [
      | inl same ↦ ap (λ x. mark_in_frame x i (last_left setup (e_won ∷ t) (EntryAt g i))) (frame_here g same)
          ∙ ap (λ x. mark_in_frame x i (last_left setup (e_won ∷ t) (EntryAt g i))) (sym (was_tcap g same))
      | inr other ↦ ap (λ x. mark_in_frame x i (last_left setup (e_won ∷ t) (EntryAt g i))) (frame_there g other)
    ]
    alike_won (FrameAt g) = refl
    alike_won (CountAt g d) = refl
    alike_won (CoreAt d) = refl
    alike_won (FlushAt d) = refl
    alike_won (LiveAt l) = refl
    alike_won ClockAt = refl

    -- what is said of each other word stays
    said_won : (w : Word) → SameFor s s_won (times_of setup t) (times_of setup (e_won ∷ t)) w → StaysSaid setup cores t e_won w
    said_won w same = word_stays s s_won (times_of setup t) (times_of setup (e_won ∷ t)) w (settled setup (held_by cores) t w) same

    list_stays : (i x : ℕ) → i ≢ 0
        → IsFrameWord s.limits.frames (Kernel (Tcap q)) (s.place f i) (stamp setup t (PlaceOf f i)) i x
        → IsFrameWord s_won.limits.frames (Kernel (Tcap q_less))
        (s_won.place f i) (stamp setup (e_won ∷ t) (PlaceOf f i)) i x
    list_stays zero x some h = absurd (some refl)
    list_stays (suc j) x some h = h

    stays_won : (w : Word) → w ≢ at → marked_by setup t w ≢ Some c → StaysSaid setup cores t e_won w
    stays_won (EntryAt g i) there free = elim (cases_eq g f) [
      | inl same ↦ subst (λ (m : ℕ). StaysSaid setup cores t e_won (EntryAt m i)) (sym same)
          (λ h. subst (λ x. IsFrameWord s_won.limits.frames x (s_won.place f i) (stamp setup (e_won ∷ t) (PlaceOf f i)) i
          (settled setup (held_by cores) t (EntryAt f i))) (sym (frame_here f refl))
          (list_stays i (settled setup (held_by cores) t (EntryAt f i))
          (λ first. there (ap (λ (m : ℕ). EntryAt m i) same ∙ ap (λ (m : ℕ). EntryAt f m) first))
          (subst (λ x. IsFrameWord s.limits.frames x (s.place f i) (stamp setup t (PlaceOf f i)) i
          (settled setup (held_by cores) t (EntryAt f i))) tcap.is h)))
      | inr other ↦ said_won (EntryAt g i) (record {
        frames = ap (λ l. l.frames) limits_won;
        frame = frame_there g other;
        place = ap (λ x. x.place g i) now_won;
        stamp = plain_stamp setup t e_won plain_won (PlaceOf g i);
      })
    ]
    stays_won (FrameAt g) there free = elim (cases_eq g f) [
      | inl same ↦ λ h. h ∙ ap (λ x. Some (frame_value x)) (was_tcap g same)
          ∙ ap (λ x. Some (frame_value x)) (sym (frame_here g same))
      | inr other ↦ said_won (FrameAt g) (frame_there g other)
    ]
    stays_won (CountAt g d) there free = said_won (CountAt g d) tt
    stays_won (CoreAt d) there free = said_won (CoreAt d) (record {
      inside = decided-inside (Some (Reply.Ok (Amount charged))) (phase t c) s c d;
      exit = plain_exit t e_won refl d;
    })
    stays_won (FlushAt d) there free = said_won (FlushAt d) (plain_flush setup t e_won plain_won d)
    stays_won (LiveAt l) there free = said_won (LiveAt l) (record {
      number = ap (λ x. x.number l) now_won;
      stamp = plain_stamp setup t e_won plain_won (NumberOf l);
    })
    stays_won ClockAt there free = λ h. tt

    now_says : WordIs s_won (times_of setup (e_won ∷ t)) at (left_of charging was)
    now_says = subst (WordIs s_won (times_of setup (e_won ∷ t)) at) (sym leaves_it)
        (subst (λ x. IsFrameWord s_won.limits.frames x
        (s_won.place f 0) (stamp setup (e_won ∷ t) (PlaceOf f 0)) 0 (word_of_head less))
        (sym (frame_here f refl))
        (record {
          version = version;
          says = spelling.reads less less_fits
              ∙ ap (λ (m : ℕ). Some (record { budget = m - charged; mark = None; version = version })) budget_is;
          within = version_within;
          most = (head_says unmarked).most;
        }))

    -- the core holds nothing
    free_of : (w : Word) → marked_by setup t w ≡ Some c → ⊥
    free_of w own =
        false≢true (sym (ap (λ h. h.marks w) (ap holds_in active ∙ held_is) ∙ bare None w) ∙ (stands.marks w c).owned own)

    still_won : (w : Word) → (holds after_won).marks w ≡ (holds (cores c)).marks w
    still_won w = same_marks (Some None) None a.counts w ∙ sym (ap (λ h. h.marks w) (ap holds_in active ∙ held_is))

    -- no reference changes
    below : f < s.limits.frames
    below = subst (λ (m : ℕ). f < m) (ap (λ x. x.frames) (stands.each c here).shape ∙ sym (ap (λ l. l.frames) (limits_of setup t)))
        (subst (λ (m : ℕ). m < (cores c).own.layout.frames) (stands.each c here).works.tcap (stands.each c here).fits.own.tcap)

    refs_won : (g : ℕ) → refs s_won g ≡ refs s g
    refs_won g = ap (λ x. refs x g) now_won ∙ counted_refs s_left c g
        ∙ core_same_refs (with_frame s f (Kernel (Tcap q_less))) c k_won refl refl g ∙ same_refs
      where
        same_refs : refs (with_frame s f (Kernel (Tcap q_less))) g ≡ refs s g
        same_refs =
            let sum = frame_refs s f (Kernel (Tcap q_less)) g below in
            let old : times g (frame_names (s.frame f)) ≡ times g (frame_names (Kernel (Tcap q))) =
            ap (λ x. times g (frame_names x)) tcap.is in
            let fresh : times g (frame_names (Kernel (Tcap q_less))) ≡ times g (frame_names (Kernel (Tcap q))) = refl in
            omega (arith, sum, old, fresh)

    no_count : (g d : ℕ) → CountAt g d ≢ at
    no_count g d h = cc

    spares : SparesBlanks setup t e_won
    spares g i on = subst (λ (m : ℕ). Spared setup t e_won m i (s.frame m)) (sym (frame_is g i on))
        (subst (Spared setup t e_won f i) (sym tcap.is)
        (subst (λ (m : ℕ). SparesTcap setup t e_won f m) (sym (index_is g i on)) turns))
      where
        frame_is : (g i : ℕ) → at ≡ EntryAt g i → g ≡ f
        frame_is g i h = cc

        index_is : (g i : ℕ) → at ≡ EntryAt g i → i ≡ 0
        index_is g i h = cc

        turns : SparesTcap setup t e_won f 0
        turns = inr (subst (λ o. TurnsHead c (list_changed t f) (head_of_word was) o)
            (sym (ap head_of_word leaves_it ∙ spelling.reads less less_fits))
            (subst (λ o. TurnsHead c (list_changed t f) o (Some less)) (sym shown_is) (inl refl, inr (refl, inl refl))))

    permitted_won : MayReply s c a.call (Reply.Ok (Amount charged))
    permitted_won = (
      not_spent setup (cores c) t c (stands.each c here) room,
      (
        has.acts,
        subst (λ x. IsFoundAnd x (λ y. y.value ≡ Amount charged)) (sym change_is)
            (ap (λ (m : ℕ). Amount m) (sym charged_is)),
      ),
    )

    reached_none : IsJustified setup t e_won a.call (Reply.Ok (Amount charged))
    reached_none = subst (λ x. HasReached (e_won ∷ t) c
        (ways s c (rule_of s c x))) (sym is.call_is)
        (All-nil (λ (x : Slot).
        IsSome (own_left (e_won ∷ t) c (EntryAt x.node x.index))))

    pub won_good : GoodTook setup cores t c charging
        (landed a (took_charge ticks (AtCompare tcap_at ticks budget version) (charged_end true charged)))
    won_good lands =
        let marks = carry_marks setup cores t e_won after_won still_won alike_won unmarked bare_now stands.marks in
        decides_changing setup setting cores t stands c here a active charging (Reply.Ok (Amount charged)) own_won
        (Decided (Reply.Ok (Amount charged)) None no_tail) (same_core (Reply.Ok (Amount charged)) charged (ticks - charged))
        (subst (λ (m : ℕ). m < 2 ^ 64) (sym leaves_it) (spelling.small less less_fits))
        (of_compare budget version met (word_of_head less)) lands opens refl
        (marks_own setup cores t e_won after_won (λ w there. still_won w) stands.marks marks)
        (λ d m other. absurd (none_some d (sym unmarked ∙ m)))
        (plain_begins setup t e_won plain_won) spares (inl (ap untypes is.call_is)) rises_won works_won marks
        (carry_words setup cores t e_won after_won still_won alike_won unmarked bare_now
        (λ g i. counts_bare (Some None) a.counts g i
        ∙ sym (ap (λ h. h.bare g i) (ap holds_in active ∙ held_is) ∙ counts_bare None a.counts g i))
        (not_exclusive_head_value setup cores t stands f q tcap.is) stays_won now_says
        (λ w own. absurd (free_of w own)) stands.words)
        (exclusive_none setup (e_won ∷ t) c after_won (counts_bare (Some None) a.counts))
        (exclusive_free cores e_won (not_exclusive_head_word setup cores t stands f q tcap.is))
        (sums_keep setup t e_won (held_by cores) (held_by (put cores c after_won))
        (λ g d. others_settled setup cores t e_won after_won still_won alike_won unmarked bare_now (CountAt g d) (no_count g d)
        (free_of (CountAt g d)) refl)
        plain_won limits_won refs_won stands.sums)
        (record { call = a.call; is_open = is_open; permitted = permitted_won; justified = reached_none })
        (λ is_alone. ok_first s c a.call (Amount charged) permitted_won)
        tt
