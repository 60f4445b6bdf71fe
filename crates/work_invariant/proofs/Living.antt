-- A call asks whether the component in which its core works lives: the loads of the component's word and of its number's word are good, and
-- where it lives the call goes on to what comes first.
use Rattle.comp_invariant.specs as low
use low.step_ways.proofs.{◌≡◌, ◌⊎◌, ◌∙◌, ◌==◌, ◌||◌, ◌<◌, ◌≤◌, inl, inr, ℕ, not, leb as nat_le, Bool, true, false, Option, Some, None, List}
use low.step_ways.proofs.{[], ◌∷◌, refl, sym, ap, subst, leb-true, leb-false, lt-ltb, eq-eqb, map, Setting, IsSetting, Call, Word, EntryAt}
use low.step_ways.proofs.{LiveAt, LoadOf, word_of, told_of, State, Kernel, Comp, NumberOf, PlaceOf, comp_of, thread_of, first_of_stack}
use low.step_ways.proofs.{acts, IsTrue, is_live_in, is_one_of, footprint_frames, Trace, Open, phase, state_after, last_left, stamp}
use low.step_ways.proofs.{marked_by, mark_in_frame, live_mark, live_of_word, comp_of_word, LiveWord, CompWord, Living, Undecided}
use low.step_ways.proofs.{ActiveCall, Core, GoesOn, landed, refuse, went, NamesAre, Invariant, HasComp, holds_at, holds_in, holds_counts}
use low.step_ways.proofs.{held_by, settled_by, IsFrameWord, NumberIs, may_keep, not_exclusive_value, phase_at, HasRoom, CountsAt, Acquired}
use low.step_ways.proofs.{due_of, AtComp, plan_for, Plan, Act, RuleMay, Refused, rule_of, change_of, found_more, Retype}
use low.step_ways.proofs.{Ret, Relies, Capability, false≢true, Make as make_call}
use low.step_ways.proofs.{Touch as touch_act, next_of, next_by as what_next, OnlyLooks, step_to, call_is, is_active, loads_on, GoodTook}
use low.step_ways.proofs.{refuses_busy, ticks_at, Reply, Refusal}
use low.act_states.specs.{asks_life, Alive, AtLive, translation_of, Touch, Flush, Tick, alive_after, alive_end}
use low.act_states.specs.stage_thread.specs.{alive_move, comp_after, comp_end, live_end, number_end, lives_end}
use low.act_states.specs.stage_tcap.specs.{Untyped, User, Kernel as to_kernel, Make}
use low.kernel_history.specs.{footprint_numbers, number_argument, number_in}
use low.kernel_rules.specs.{lives, may_act, outlives}
use Rattle.switch_invariant.specs.live_invariant.proofs.Numbers.{no_number, shows_live, lives_as_shown, shows_some}
use low.{act_states.specs.touches_if, act_states.specs.next_step, call_stages.specs.IsFirst, call_stages.specs.took_alive}
use low.{core_invariant.specs.Knows.KnowsAlive}
use low.{trace_laws.proofs.Stays.relies_pages, plan_ways.proofs.InFootprint.one_right, act_states.specs.Touches.touching}
use low.{act_states.specs.Touches.touches, step_ways.proofs.Refusals.refuses_asking, step_ways.proofs.Refusals.refuses_no_slot}
use low.{count_invariant.proofs.StackCounts.top_footprint}
use Rattle.{switch_invariant.specs.live_invariant.proofs.one_of_many, switch_invariant.specs.live_invariant.proofs.comp_is}
use Rattle.{switch_invariant.specs.thread_invariant.proofs.OwnStack.top_comp}
use Rattle.{switch_invariant.specs.thread_invariant.proofs.OwnStack.some_stack, page_invariant.proofs.TouchCalls.past_may}
use Rattle.{page_invariant.proofs.TouchCalls.past_first, work_invariant.proofs.NextLooks.next_good}

-- A call that asks for life looks up a name first, or touches a page.
named_or_touch : (call : Call) → IsTrue (asks_life call) → ((plan_for call).names ≡ [] → ⊥) ⊎ ((v : ℕ) × (call ≡ Touch v))
named_or_touch (Retype r f Untyped) asks = inl (λ h. cc)
named_or_touch (Retype r f User) asks = inl (λ h. cc)
named_or_touch (Retype r f to_kernel) asks = inl (λ h. cc)
named_or_touch (make_call Make.Table r f u b) asks = inl (λ h. cc)
named_or_touch (Touch v) asks = inr (v, refl)
named_or_touch Flush asks = absurd (false≢true asks)
named_or_touch Ret asks = absurd (false≢true asks)
named_or_touch (Tick n) asks = absurd (false≢true asks)
named_or_touch _ asks = inl (λ h. cc)

module _ (setup : Setting) (setting : IsSetting setup) (cores : ℕ → Core) (t : Trace) (stands : Invariant setup cores t) (c : ℕ)
    (here : c < setup.cores)
    (a : ActiveCall) (active : (cores c).active ≡ Some a) (alive : Alive) (stage_is : a.stage ≡ Living alive)
    (has : KnowsAlive (state_after setup t) c a.call alive) where
  abbrev s : State
  s = state_after setup t

  -- the component in which the core works
  abbrev comp : ℕ
  comp = first_of_stack (thread_of s c).stack

  opens : phase_at a.call a.stage ≡ Open a.call
  opens = ap (phase_at a.call) stage_is

  is_open : phase t c ≡ Open a.call
  is_open = (call_is setup setting cores t stands c here a active).phase ∙ opens

  held_is : holds_in (Some a) ≡ holds_counts None a.counts
  held_is = ap (λ s. holds_at s a.counts) stage_is

  no_counts : a.counts ≡ []
  no_counts = subst (CountsAt a.counts) stage_is (is_active setup setting cores t stands c here a active).counts

  none_found : a.found ≡ []
  none_found = subst (λ x. IsFirst x a.found) stage_is (is_active setup setting cores t stands c here a active).first

  room : (cores c).own.made < (cores c).own.limit
  room = subst (HasRoom (cores c).own.made (cores c).own.limit) stage_is (is_active setup setting cores t stands c here a active).room

  has_comp : HasComp s c comp
  has_comp = top_comp setup setting t stands.legal c here

  holds_comp : s.frame comp ≡ Kernel (Comp (comp_of s c))
  holds_comp = comp_is (s.frame comp) has_comp.comp

  comp_footprint : is_one_of comp (footprint_frames s c a.call) ≡ true
  comp_footprint = top_footprint s c a.call comp refl (some_stack setup setting t stands.legal c here)

  number_footprint : (l : ℕ) → (comp_of s c).number ≡ l → is_one_of l (footprint_numbers s c a.call) ≡ true
  number_footprint l same = one_right l (number_argument a.call) _
      (one_of_many (λ g. number_in (s.frame g)) l comp (footprint_frames s c a.call) comp_footprint
      (ap (λ x. is_one_of l (number_in x)) holds_comp ∙ ap (λ b. b || false) (eq-eqb (comp_of s c).number l same)))

  -- The load of the component's word.
  abbrev was : ℕ
  was = last_left setup t (EntryAt comp 2)

  abbrev its_life : CompWord
  its_life = record { number = (comp_of s c).number; epoch = (comp_of s c).epoch }

  unmarked : marked_by setup t (EntryAt comp 2) ≡ None
  unmarked = ap (λ x. mark_in_frame x 2 was) holds_comp

  says_life : comp_of_word was ≡ Some its_life
  says_life = subst (λ x. IsFrameWord s.limits.frames x (s.place comp 2) (stamp setup t (PlaceOf comp 2)) 2 was) holds_comp
      (subst (λ (n : ℕ). IsFrameWord s.limits.frames (s.frame comp) (s.place comp 2) (stamp setup t (PlaceOf comp 2)) 2 n)
      (not_exclusive_value setup cores t stands comp (ap may_keep holds_comp) 2 was)
      (subst (λ o. IsFrameWord s.limits.frames (s.frame comp) (s.place comp 2) (stamp setup t (PlaceOf comp 2)) 2
      (settled_by o (held_by cores) (EntryAt comp 2) was)) unmarked (stands.words (EntryAt comp 2))))

  loading : OnlyLooks setup t c a.call (LoadOf (EntryAt comp 2))
  loading = record { of_call = record { moves = refl; footprint = inl comp_footprint }; kept = refl; apart = λ d. refl }

  asks_on : GoodTook setup cores t c (LoadOf (EntryAt comp 2)) (GoesOn (went a (Living (AtLive its_life))))
  asks_on lands =
      loads_on setup setting cores t stands c here a active (LoadOf (EntryAt comp 2)) a.found (Living (AtLive its_life)) loading lands
      (sym held_is) opens
      (λ carries. record { asks = has.asks; at = (refl, refl) })

  load_comp_good : (f : ℕ) → f ≡ comp
      → GoodTook setup cores t c (LoadOf (EntryAt f 2))
      (took_alive (cores c).own a (comp_after f (comp_of_word (last_left setup t (EntryAt f 2))))
      (comp_end (comp_of_word (last_left setup t (EntryAt f 2)))))
  load_comp_good f is = subst (λ (g : ℕ). GoodTook setup cores t c (LoadOf (EntryAt g 2))
      (took_alive (cores c).own a (comp_after g (comp_of_word (last_left setup t (EntryAt g 2))))
      (comp_end (comp_of_word (last_left setup t (EntryAt g 2))))))
      (sym is)
      (subst (λ o. GoodTook setup cores t c (LoadOf (EntryAt comp 2)) (took_alive (cores c).own a (comp_after comp o) (comp_end o)))
      (sym says_life) asks_on)

  -- The load of its number's word.
  module _ (life : CompWord) (number : (comp_of s c).number ≡ life.number) (epoch : (comp_of s c).epoch ≡ life.epoch) where
    abbrev at : Word
    at = LiveAt life.number

    abbrev found : ℕ
    found = last_left setup t at

    abbrev after : Alive
    after = AtLive life

    looking : OnlyLooks setup t c a.call (LoadOf at)
    looking = record {
      of_call = record {
        moves = has.asks;
        footprint = inl
            (number_footprint life.number number);
      };
      kept = refl;
      apart = λ d. refl;
    }

    -- what it shows, where no core has marked it
    says : marked_by setup t at ≡ None → NumberIs (s.number life.number) (stamp setup t (NumberOf life.number)) (live_of_word found)
    says bare = subst (λ o. NumberIs (s.number life.number) (stamp setup t (NumberOf life.number))
        (live_of_word (settled_by o (held_by cores) at found))) bare (stands.words at)

    lives_so : (o : Option LiveWord) → live_of_word found ≡ o → live_mark o ≡ None → lives s c ≡ shows_live o life.epoch
    lives_so o shown bare =
        ap (λ (n : ℕ). is_live_in (s.number n) (comp_of s c).epoch) number
        ∙ ap (is_live_in (s.number life.number)) epoch
        ∙ lives_as_shown (s.number life.number) (stamp setup t (NumberOf life.number)) life.epoch o
        (subst (NumberIs (s.number life.number) (stamp setup t (NumberOf life.number))) shown (says (ap live_mark shown ∙ bare)))

    -- it does not live
    dead_good : (o : Option LiveWord) → live_of_word found ≡ o → live_mark o ≡ None → shows_live o life.epoch ≡ false
        → GoodTook setup cores t c (LoadOf at) (landed a (refuse Refusal.Dead))
    dead_good o shown bare none =
        refuses_asking setup setting cores t stands c here a active opens held_is room (LoadOf at) looking has.asks
        (lives_so o shown bare ∙ none)

    closing_good : (d : ℕ) → marked_by setup t at ≡ Some d → GoodTook setup cores t c (LoadOf at) (landed a (refuse (Refusal.Busy d)))
    closing_good d mark =
        refuses_busy setup setting cores t stands c here a active opens held_is room (LoadOf at) looking (ap ticks_at stage_is) d
        (no_number None a.counts life.number) mark tt

    -- It lives: the call goes on.
    module _ (live : lives s c ≡ true) where
      its_core_acts : IsTrue (acts s c a.call)
      its_core_acts = ap (λ b. not b || may_act s c) has.asks ∙ ap (λ b. b || outlives s c) live

      -- to its first name
      names_good : ((plan_for a.call).names ≡ [] → ⊥) → GoodTook setup cores t c (LoadOf at) (landed a (what_next (cores c).own a))
      names_good named =
          subst (λ (ks : List Capability). GoodTook setup cores t c (LoadOf at)
          (landed (found_more a ks) (what_next (cores c).own (found_more a ks)))) (sym none_found)
          (next_good setup setting cores t stands c here a active opens held_is no_counts room (LoadOf at) looking its_core_acts [] tt tt
          (λ carries. tt) named
          (λ nowhere none. absurd (named none)))

      -- or to the page that it touches
      module _ (v : ℕ) (is : a.call ≡ Touch v) where
        touches_within : v ≤ 4095 → GoodTook setup cores t c (LoadOf at) (landed a (touches_if true (cores c).own v))
        touches_within within lands =
            let works = (stands.each c here).works in
            loads_on setup setting cores t stands c here a active (LoadOf at) a.found
            (Undecided (Act (touch_act (touching (cores c).own v)))) looking lands (sym held_is) opens
            (λ carries. record {
              acts = its_core_acts;
              names = subst (λ (ks : List Capability).
                  NamesAre setup (step_to c None (LoadOf at) found None None ∷ t) c (cores c).own.table (plan_for a.call) ks)
                  (sym none_found) tt;
              knows = record {
                knows = record {
                  call_is = is;
                  root = works.pages;
                  all = ap (λ x. x.frames) (stands.each c here).shape;
                  known = ap (λ xs. translation_of xs (cores c).own.pages v) works.cached;
                  first = λ some. refl;
                  looks = record {
                    relies = subst (λ (f : ℕ). Relies s c f) (sym works.pages) (relies_pages setup setting t stands.legal c a.call is_open);
                    at = record { found = refl; frame = refl; same = refl; within = within };
                  };
                };
                all = ap (λ (xs : List Acquired). map due_of xs) (sym no_counts);
                goes = refl;
              };
            })

        touches_past : nat_le v 4095 ≡ false → GoodTook setup cores t c (LoadOf at) (landed a (touches_if false (cores c).own v))
        touches_past past =
            let pages : ℕ = (comp_of s c).pages in
            let cached = translation_of (s.core c).cached pages v in
            let beyond = lt-ltb 4095 v (leb-false v 4095 past) in
            refuses_no_slot setup setting cores t stands c here a active opens held_is room (LoadOf at) looking its_core_acts
            (subst (λ x. RuleMay s c (rule_of s c x) Reply.NoSlot) (sym is) (past_may s c pages v cached beyond))
            (λ nobody. subst (λ x. change_of s c x ≡ Refused Reply.NoSlot) (sym is) (past_first s c pages v cached beyond))

        touch_good : GoodTook setup cores t c (LoadOf at) (landed a (touches (cores c).own v))
        touch_good = by (nat_le v 4095) refl
          where
            by : (within : Bool) → nat_le v 4095 ≡ within
                → GoodTook setup cores t c (LoadOf at) (landed a (touches_if within (cores c).own v))
            by true in_range = touches_within (leb-true v 4095 in_range)
            by false past = touches_past past

        touches_next : what_next (cores c).own a ≡ touches (cores c).own v
        touches_next =
            ap (λ (p : Plan). next_step (cores c).own a.call a.found (next_of p a.found)) (ap plan_for is)
            ∙ ap (λ (ks : List Capability). next_step (cores c).own a.call ks (next_of (plan_for (Touch v)) ks)) none_found

      live_good : GoodTook setup cores t c (LoadOf at) (landed a (what_next (cores c).own a))
      live_good = elim (named_or_touch a.call has.asks) [
        | inl named ↦ names_good (λ none. named none)
        | inr touch ↦ subst (λ step. GoodTook setup cores t c (LoadOf at) (landed a step)) (sym (touches_next touch.0 touch.1))
            (touch_good touch.0 touch.1)
      ]

    -- by what the word shows
    by_epoch : (now g : ℕ) → live_of_word found ≡ Some (LiveWord.Live now g) → (same : Bool) → (now == life.epoch) ≡ same
        → GoodTook setup cores t c (LoadOf at) (took_alive (cores c).own a after (lives_end same))
    by_epoch now g shown true same = live_good (lives_so (Some (LiveWord.Live now g)) shown refl ∙ same)
    by_epoch now g shown false other = dead_good (Some (LiveWord.Live now g)) shown refl other

    by_number : (v : LiveWord) → live_of_word found ≡ Some v
        → GoodTook setup cores t c (LoadOf at) (took_alive (cores c).own a after (number_end life.epoch v))
    by_number LiveWord.Free shown = dead_good (Some LiveWord.Free) shown refl refl
    by_number (LiveWord.Live now g) shown = by_epoch now g shown (now == life.epoch) refl
    by_number (LiveWord.Closing now d) shown = closing_good d (ap live_mark shown)
    by_number (LiveWord.Dead now x) shown = dead_good (Some (LiveWord.Dead now x)) shown refl refl

    by_word : (o : Option LiveWord) → live_of_word found ≡ o
        → GoodTook setup cores t c (LoadOf at) (took_alive (cores c).own a after (live_end life.epoch o))
    by_word None shown = absurd (shows_some (s.number life.number) (stamp setup t (NumberOf life.number)) (live_of_word found)
        (says (ap live_mark shown)) shown)
    by_word (Some v) shown = by_number v shown

    load_live_good : GoodTook setup cores t c (LoadOf at) (took_alive (cores c).own a after (live_end life.epoch (live_of_word found)))
    load_live_good = by_word (live_of_word found) refl

-- A step by which it is asked whether the component lives.
pub alive_good : (setup : Setting) (setting : IsSetting setup) (cores : ℕ → Core) (t : Trace) (stands : Invariant setup cores t) (c : ℕ)
    → (here : c < setup.cores) → (a : ActiveCall) → (cores c).active ≡ Some a → (alive : Alive) → a.stage ≡ Living alive
    → KnowsAlive (state_after setup t) c a.call alive
    → GoodTook setup cores t c (alive_move alive) (took_alive (cores c).own a
    (alive_after alive (told_of (alive_move alive) (last_left setup t (word_of (alive_move alive)))))
    (alive_end alive (told_of (alive_move alive) (last_left setup t (word_of (alive_move alive))))))
alive_good setup setting cores t stands c here a active (AtComp f) stage_is has =
    load_comp_good setup setting cores t stands c here a active (AtComp f) stage_is has f has.at
alive_good setup setting cores t stands c here a active (AtLive life) stage_is has =
    load_live_good setup setting cores t stands c here a active (AtLive life) stage_is has life has.at.0 has.at.1
