-- Along a machine's traces, a count word that a core shows as acquired is one of the counts of its call, with the count and the stamp that
-- were found there; so what it settles to is what its commit stores.
use Rattle.time_laws.specs.step_ways.proofs as low
use low.{◌≡◌, ◌≢◌, inl, inr, ℕ, ℤ, ◌==◌, ◌++◌, Bool, true, false, if◌then◌else◌, List, [], ◌∷◌, length, Option, Some, None, refl, sym, ◌∙◌}
use low.{ap, subst, lt-ltb, false≢true, eq-eqb, Setting, IsSetting, Reply, count_of_word, word_of_count, CountWord, Pinned, Closed, CountAt}
use low.{CompareOf, Move, StoreOf, left_of, told_of, word_of, put_other, put_same, count_at, marked_by, count_mark, hold_mark, Step, Trace}
use low.{last_left, phase, last_left-here, acquired, unheld, Acquired, frozen, Own, Tail, Nothing, Release, Acquire, absorbed, absorbed_in}
use low.{core_after, move_in, move_of, told_by, told_in, told_of_step, took_at, tail_move, Absorbed, ActiveCall, Stage, Undecided, Decided}
use low.{Core, decided_in, returned_in, committed, count_of, settled, Invariant, held_by, is_done, KnowsAt, KnowsTail, call_is, is_active}
use Rattle.time_laws.specs.flight.specs.{cores_after, stepping_core, turned, IsMade}
use Rattle.time_laws.specs.stage_pins.specs.{compare_end, pinned_at, pushed}
use Rattle.std.proofs.lemmas.Bool.{cases_eq, cases_lt}
use Rattle.flight_laws.proofs.CountHolds.{kept, no_entry, no_return, pinned_say, raw_other}
use Rattle.flight_laws.proofs.HeldCounts.{HoldsStill, IsAmong, NotBack, NotCommitted, NotFirst, NotOk, among_last, count_settles}
use Rattle.{time_laws.specs.stage_pins.specs.declared.pin.Pin.TheVariants.AtCompare}
use Rattle.{time_laws.specs.act_states.specs.declared.untypings.Release.Release as ReleaseOf}
use Rattle.{time_laws.specs.flight.proofs.Made.made_stands, time_laws.specs.history_laws.specs.Counts.Untypes}
use Rattle.{flight_laws.proofs.CountSteps.Acquiring, flight_laws.proofs.HeldCounts.stage_holds}
use Rattle.time_laws.specs.frame_words.proofs.CountLemmas as counts
use Rattle.time_laws.specs.flight.specs.Made as made_of
use Rattle.flight_laws.proofs.CountSteps as steps

none_some : (d : ℕ) → None ≡ Some d → ⊥
none_some d h = cc

same_call : {A : Type 0} (x y : A) → Some x ≡ Some y → x ≡ y
same_call x y h = cc

-- The call of a core has this count, which shows what was found there.
pub record HasCount (o : Option ActiveCall) (f k : ℕ) (v : CountWord) : Type 0 where
  pub a : ActiveCall
  pub active : o ≡ Some a
  pub x : Acquired
  pub among : IsAmong x a.counts
  pub word : count_of x ≡ CountAt f k
  pub found : x.pin.word ≡ unheld v.count v.stamp

-- It has the same count still; and whether it is carried out is as it was, where the step does not decide it `ok`.
pub record StillHas (o : Option ActiveCall) (x : Acquired) (fate : Option (Option ℕ)) (told : Absorbed) : Type 0 where
  pub a : ActiveCall
  pub active : o ≡ Some a
  pub among : IsAmong x a.counts
  pub done : NotOk told → is_done a.stage ≡ fate

still_has : (o : Option ActiveCall) (x : Acquired) (fate : Option (Option ℕ)) (told : Absorbed) → HoldsStill o x fate told
    → StillHas o x fate told
still_has None x fate told has = absurd has
still_has (Some a) x fate told has = record { a = a; active = refl; among = has.0; done = has.1 }

not_back : (told : Absorbed) → returned_in told ≡ None → NotBack told
not_back (Absorbed.Returned r) none = absurd (cc)
not_back _ none = tt

-- A step of a core's call that goes on.
module _ (setup : Setting) (setting : IsSetting setup) (t : Trace) (e : Step) (made : IsMade setup (e ∷ t)) (entry : e.enters ≡ None) where
  abbrev pub core : Core
  core = cores_after setup t e.core

  abbrev pub found : ℕ
  found = told_of (move_of core) e.found

  pub stepping : stepping_core setup t e ≡ core
  stepping = ap (λ o. turned o core) entry

  pub core_now : cores_after setup (e ∷ t) e.core ≡ absorbed core found
  core_now = put_same (cores_after setup t) e.core (made_of.core_after (stepping_core setup t e) e.found) e.core refl
      ∙ ap (λ c. made_of.core_after c e.found) stepping

  pub step_told : (e.decides ≡ decided_in (told_of_step core found)) × (e.returns ≡ returned_in (told_of_step core found))
  step_told = (
    ap (λ (x : Step). x.decides) made.1.made ∙ ap (λ c. decided_in (told_of_step c (told_of (move_of c) e.found))) stepping,
    ap (λ (x : Step). x.returns) made.1.made ∙ ap (λ c. returned_in (told_of_step c (told_of (move_of c) e.found))) stepping,
  )

  pub move_now : e.move ≡ move_of core
  move_now = ap (λ (x : Step). x.move) made.1.made ∙ ap move_of stepping

  module _ (a : ActiveCall) (active : core.active ≡ Some a) where
    abbrev pub told : Absorbed
    told = told_by (took_at core.own a a.stage found)

    pub active_now : (cores_after setup (e ∷ t) e.core).active ≡ (core_after core.own (took_at core.own a a.stage found)).active
    active_now = ap (λ (c : Core). c.active) core_now ∙ ap (λ o. (absorbed_in core.own o found).active) active

    pub told_is : told_of_step core found ≡ told
    told_is = ap (λ o. told_in core.own o found) active

    pub decides_told : e.decides ≡ decided_in told
    decides_told = step_told.0 ∙ ap decided_in told_is

    pub returns_told : e.returns ≡ returned_in told
    returns_told = step_told.1 ∙ ap returned_in told_is

    pub move_stage : e.move ≡ move_in core.own (Some a)
    move_stage = move_now ∙ ap (move_in core.own) active

-- What a core holds after its step.
module _ (setup : Setting) (setting : IsSetting setup) (f k : ℕ) (t : Trace) (e : Step) (made : IsMade setup (e ∷ t))
    (mark : marked_by setup (e ∷ t) (CountAt f k) ≡ Some e.core) where
  before : Invariant setup (cores_after setup t) t
  before = made_stands setup setting t made.0

  pub entry : e.enters ≡ None
  entry = no_entry setup setting f k t e made mark

  abbrev now : Option ActiveCall
  now = (cores_after setup (e ∷ t) e.core).active

  abbrev own : Own
  own = (cores_after setup t e.core).own

  -- a count that it had already
  module _ (a : ActiveCall) (active : (cores_after setup t e.core).active ≡ Some a) (x : Acquired) (among : IsAmong x a.counts)
      (word : count_of x ≡ CountAt f k) where
    abbrev word_found : ℕ
    word_found = found setup setting t e made entry

    -- is not committed, since no core holds then what is stored
    stored : (y : Acquired) (n : ℕ) → e.move ≡ StoreOf (count_of y) n → count_mark (count_of_word n) ≡ None → x ≡ y → ⊥
    stored y n move none same =
        let on : CountAt f k ≡ word_of e.move = sym word ∙ ap count_of same ∙ sym (ap word_of move) in
        let left : last_left setup (e ∷ t) (CountAt f k) ≡ n =
        last_left-here setup (CountAt f k) e t on ∙ ap (λ m. left_of m e.found) move in
        none_some e.core (sym none ∙ sym (ap (λ (i : ℕ). count_mark (count_of_word i)) left) ∙ mark)

    first_other : (r : Reply) (drawn : Option ℕ) (tail : Tail) → a.stage ≡ Decided r drawn tail
        → KnowsTail setup t e.core a.call a.counts tail
        → (xs : List Acquired) → a.counts ≡ xs → NotFirst own a x among tail xs
    first_other r drawn tail is knows [] all = tt
    first_other r drawn Nothing is knows (y ∷ ys) all = λ commit same. stored y _ (moved Nothing refl)
        (steps.commits setup setting (cores_after setup t) t before e.core made.1.is_core f k a active r drawn y ys all is) same
      where
        moved : (z : Tail) → z ≡ Nothing → e.move ≡ tail_move r drawn Nothing (y ∷ ys)
        moved z same = move_stage setup setting t e made entry a active
            ∙ ap (λ s. Rattle.time_laws.specs.call_stages.specs.Steps.stage_move own a.counts s) is
            ∙ ap (tail_move r drawn Nothing) all
    first_other r drawn (Release z) is knows (y ∷ ys) all = λ commit same. stored y _ (moved z refl)
        (steps.commits_beside setup setting (cores_after setup t) t before e.core made.1.is_core f k a active r drawn z y ys all is
        (subst (λ (l : List Acquired). Rattle.time_laws.specs.core_invariant.specs.Sweeps.KnowsRelease a.call l z) all knows.1)) same
      where
        moved : (w : ReleaseOf) → w ≡ z → e.move ≡ tail_move r drawn (Release z) (y ∷ ys)
        moved w same = move_stage setup setting t e made entry a active
            ∙ ap (λ s. Rattle.time_laws.specs.call_stages.specs.Steps.stage_move own a.counts s) is
            ∙ ap (tail_move r drawn (Release z)) all
    first_other r drawn tail is knows (y ∷ ys) all = λ commit same. false≢true commit

    not_committed : (stage : Stage) → a.stage ≡ stage → KnowsAt setup t e.core own.table a stage → NotCommitted own a x among stage
    not_committed (Decided r drawn tail) is knows = first_other r drawn tail is knows a.counts refl
    not_committed stage is knows = tt

    pub count_stays : StillHas now x (is_done a.stage) (told setup setting t e made entry a active)
    count_stays = subst (λ o. StillHas o x (is_done a.stage) (told setup setting t e made entry a active))
        (sym (active_now setup setting t e made entry a active))
        (still_has _ x (is_done a.stage) (told setup setting t e made entry a active)
        (stage_holds own a x among a.stage word_found
        (is_active setup setting (cores_after setup t) t before e.core made.1.is_core a active).counts
        (not_committed a.stage refl (call_is setup setting (cores_after setup t) t before e.core made.1.is_core a active).knows)
        (not_back (told setup setting t e made entry a active)
        (sym (returns_told setup setting t e made entry a active) ∙ no_return setup setting f k t e made mark))))

  -- a count that it has acquired now
  module _ (count : ℤ) (stamp : ℕ) (takes : Acquiring (cores_after setup t e.core).active f k count stamp)
      (shown : count_of_word (last_left setup t (CountAt f k)) ≡ Some (unheld count stamp)) where
    abbrev new : Acquired
    new = record { pin = pinned_at f k count stamp; change = takes.change }

    abbrev moving : Move
    moving = CompareOf (CountAt f k) (word_of_count (unheld count stamp)) (word_of_count (acquired k count stamp))

    moves : e.move ≡ moving
    moves = move_stage setup setting t e made entry takes.a takes.active
        ∙ ap (λ s. Rattle.time_laws.specs.call_stages.specs.Steps.stage_move own takes.a.counts s) takes.stage

    found_is : found setup setting t e made entry ≡ word_of_count (unheld count stamp)
    found_is = ap (λ m. told_of m e.found) (sym (move_now setup setting t e made entry) ∙ moves)
        ∙ made.1.found ∙ ap (last_left setup t) (ap word_of moves)
        ∙ sym (counts.spelling.spells (last_left setup t (CountAt f k)) (unheld count stamp) shown).1

    taken : HasCount now f k (acquired e.core count stamp)
    taken = subst (λ o. HasCount o f k (acquired e.core count stamp)) (sym (active_now setup setting t e made entry takes.a takes.active
        ∙ ap (λ s. (core_after own (took_at own takes.a s (found setup setting t e made entry))).active) takes.stage
        ∙ ap (λ (n : ℕ). (core_after own (took_at own takes.a (Undecided (Acquire (AtCompare f k count stamp)
        takes.change takes.act)) n)).active)
        found_is)) (by (word_of_count (unheld count stamp) == word_of_count (unheld count stamp)) (eq-eqb _ _ refl))
      where
        pushed_is : pushed takes.a.counts new ≡ takes.a.counts ++ new ∷ []
        pushed_is = ap (λ b. if b then takes.a.counts ++ new ∷ [] else takes.a.counts) (lt-ltb (length takes.a.counts) 4 takes.few)

        by : (b : Bool) → b ≡ true → HasCount (core_after own (Rattle.time_laws.specs.call_stages.specs.Steps.landed takes.a
            (Rattle.time_laws.specs.call_stages.specs.Steps.took_count own.core (length takes.a.counts) takes.change takes.act
            (AtCompare f k count stamp) (compare_end b (pinned_at f k count stamp))))).active f k (acquired e.core count stamp)
        by true is = record {
          a = _;
          active = refl;
          x = new;
          among = subst (IsAmong new) (sym pushed_is) (among_last takes.a.counts new);
          word = refl;
          found = refl;
        }
        by false is = absurd (false≢true is)

-- So it is after each trace.
module _ (setup : Setting) (setting : IsSetting setup) (f k d : ℕ) (v : CountWord) (is_pinned : v.hold ≡ Pinned d) where
  abbrev Shows : Trace → Type 0
  Shows u = count_at (last_left setup u) f k ≡ Some v

  marked_so : (u : Trace) → Shows u → marked_by setup u (CountAt f k) ≡ Some d
  marked_so u shows = ap count_mark shows ∙ ap hold_mark is_pinned

  module _ (u : Trace) (e : Step) (made : IsMade setup (e ∷ u)) (shows : Shows (e ∷ u))
      (rest : Shows u → HasCount (cores_after setup u d).active f k v) where
    has_other : d ≢ e.core → HasCount (cores_after setup (e ∷ u) d).active f k v
    has_other other = subst (λ (c : Core). HasCount c.active f k v)
        (sym (put_other (cores_after setup u) e.core (made_of.core_after (stepping_core setup u e) e.found) d other))
        (rest (ap count_of_word (sym (raw_other setup setting f k u e made d other (marked_so (e ∷ u) shows))) ∙ shows))

    has_own : marked_by setup (e ∷ u) (CountAt f k) ≡ Some e.core → d ≡ e.core → HasCount (cores_after setup (e ∷ u) e.core).active f k v
    has_own mark own = elim (kept setup setting f k u e made mark) [
      | inl same ↦
          let had = subst (λ (c : ℕ). HasCount (cores_after setup u c).active f k v) own (rest (ap count_of_word (sym same) ∙ shows)) in
          let now = count_stays setup setting f k u e made mark had.a had.active had.x had.among had.word in
          record { a = now.a; active = now.active; x = had.x; among = now.among; word = had.word; found = had.found }
      | inr takes ↦ elim takes.left [
        | inl is ↦ subst (HasCount (cores_after setup (e ∷ u) e.core).active f k)
            (same_call (acquired e.core takes.count takes.stamp) v (sym is.0 ∙ shows))
            (taken setup setting f k u e made mark takes.count takes.stamp is.1.acquires takes.found)
        | inr is ↦ absurd (not_closed takes.count takes.stamp (sym shows ∙ is.0))
      ]
    ]
      where
        not_closed : (count : ℤ) (stamp : ℕ) → Some v ≡ Some (frozen e.core count stamp) → ⊥
        not_closed count stamp is =
            apart (sym is_pinned ∙ ap (λ (x : CountWord). x.hold) (same_call v (frozen e.core count stamp) is))
          where
            apart : Pinned d ≡ Closed e.core → ⊥
            apart h = cc

  pub has_count : (u : Trace) → IsMade setup u → Shows u → HasCount (cores_after setup u d).active f k v
  has_count [] made shows =
      absurd (false≢true (((made_stands setup setting [] made).marks (CountAt f k) d).owned (marked_so [] shows)))
  has_count (e ∷ u) made shows = elim (cases_eq d e.core) [
    | inl own ↦ subst (λ (c : ℕ). HasCount (cores_after setup (e ∷ u) c).active f k v) (sym own)
        (has_own u e made shows (has_count u made.0)
        (subst (λ (c : ℕ). marked_by setup (e ∷ u) (CountAt f k) ≡ Some c) own (marked_so (e ∷ u) shows)) own)
    | inr other ↦ has_other u e made shows (has_count u made.0) other
  ]

-- What such a word settles to.
module _ (setup : Setting) (setting : IsSetting setup) (t : Trace) (made : IsMade setup t) (f k d : ℕ) (v : CountWord)
    (shows : count_at (last_left setup t) f k ≡ Some v) (is_pinned : v.hold ≡ Pinned d) where
  stands : Invariant setup (cores_after setup t) t
  stands = made_stands setup setting t made

  marks : marked_by setup t (CountAt f k) ≡ Some d
  marks = ap count_mark shows ∙ ap hold_mark is_pinned

  -- of any count of its call that is in this word
  pub settles_to : (a : ActiveCall) → (cores_after setup t d).active ≡ Some a → (x : Acquired) → IsAmong x a.counts
      → count_of x ≡ CountAt f k → settled setup (held_by (cores_after setup t)) t (CountAt f k) ≡ committed (is_done a.stage) x
  settles_to a active x among word = elim (cases_lt d setup.cores) [
    | inl here ↦ subst (λ w. settled setup (held_by (cores_after setup t)) t w ≡ committed (is_done a.stage) x) word
        (count_settles setup setting (cores_after setup t) t stands d here a active x among
        (λ untypes. (pinned_say setup setting t made f k d v shows is_pinned).spares
        (subst (λ (g : ℕ). Untypes g (phase t d)) (same_frame x.pin.frame x.pin.core f k word) untypes))
        (ap (marked_by setup t) word ∙ marks))
    | inr past ↦ absurd (none_active a (sym (stands.away d past).idle ∙ active))
  ]
    where
      none_active : (b : ActiveCall) → None ≡ Some b → ⊥
      none_active b h = cc

      same_frame : (g j f k : ℕ) → CountAt g j ≡ CountAt f k → g ≡ f
      same_frame g j f k h = cc
