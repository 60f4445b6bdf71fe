-- What count words do while cores hold them: another core leaves such a word, and its own leaves its count.
use Rattle.time_laws.specs.kept_facts.proofs.{◌≡◌, ◌≢◌, ◌⊎◌, inl, inr, ℕ, ℤ, true, [], ◌∷◌, Option, Some, None, refl, sym, ◌∙◌, ap, subst}
use Rattle.time_laws.specs.kept_facts.proofs.{false≢true, Setting, IsSetting, Call, Retype, Reply, count_of_word, CountWord, Pinned, Closed}
use Rattle.time_laws.specs.kept_facts.proofs.{Word, CountAt, word_of, left_of, count_at, count_in, MayEnter, MayFollow, marked_by}
use Rattle.time_laws.specs.kept_facts.proofs.{count_mark, hold_mark, is_in, Step, Trace, Phase, Out, phase, after_enter, after_decide}
use Rattle.time_laws.specs.kept_facts.proofs.{after_return, state_after, state_before, state_entered, last_left, inside_is, cases_word}
use Rattle.time_laws.specs.kept_facts.proofs.{phase-own, phase-other, last_left-here, last_left-there, acquired, frozen, Invariant}
use Rattle.flight_laws.proofs.CountSteps.{Takes, IsOwnCount, IsSweptCount, LeavesCount, count_step}
use Rattle.{time_laws.specs.kept_facts.proofs.marker_inside, time_laws.specs.flight.specs.cores_after, time_laws.specs.flight.specs.IsMade}
use Rattle.{time_laws.specs.history_laws.specs.Untypes, time_laws.specs.history_laws.specs.FrozenSay}
use Rattle.{time_laws.specs.kernel_history.specs.call_in, std.proofs.lemmas.Bool.cases_eq}
use Rattle.{time_laws.specs.spk_nums.specs.declared.kinds.FrameKind.TheVariants.Untyped, time_laws.specs.flight.proofs.Made.made_stands}

none_some : (d : ℕ) → None ≡ Some d → ⊥
none_some d h = cc

call_stays : (o : Option Reply) (p : Phase) → call_in (after_decide o p) ≡ call_in p
call_stays (Some r) Out = refl
call_stays _ _ = refl

module _ (setup : Setting) (setting : IsSetting setup) (f k : ℕ) (t : Trace) (e : Step) (made : IsMade setup (e ∷ t)) where
  abbrev at : Word
  at = CountAt f k

  abbrev raw : Trace → ℕ
  raw u = last_left setup u at

  before : Invariant setup (cores_after setup t) t
  before = made_stands setup setting t made.0

  after : Invariant setup (cores_after setup (e ∷ t)) (e ∷ t)
  after = made_stands setup setting (e ∷ t) made

  follows : MayFollow setup t e
  follows = after.legal.1

  -- what another core holds, stays
  module _ (d : ℕ) (other : d ≢ e.core) (mark : marked_by setup (e ∷ t) at ≡ Some d) where
    pub held_before : marked_by setup t at ≡ Some d
    held_before = elim ((after.discipline.1).marks at d mark) [
      | inl held ↦ held
      | inr own ↦ absurd (other (sym own.0))
    ]

    pub raw_other : raw (e ∷ t) ≡ raw t
    raw_other = elim (cases_word at (word_of e.move)) [
      | inl on ↦ last_left-here setup at e t on
          ∙ (after.discipline.1).keeps d (ap (marked_by setup t) (sym on) ∙ held_before) other
          ∙ follows.found ∙ ap (last_left setup t) (sym on)
      | inr there ↦ last_left-there setup at e t there
    ]

  -- what the core itself holds after it
  module _ (mark : marked_by setup (e ∷ t) at ≡ Some e.core) where
    abbrev p : Phase
    p = phase t e.core

    -- the word is left as it was, or is taken
    abbrev pub IsKept : Type 0
    IsKept = (raw (e ∷ t) ≡ raw t) ⊎ Takes t (cores_after setup t e.core).active e.core f k (raw t) (raw (e ∷ t))

    stepped : at ≡ word_of e.move → IsKept
    stepped on = by (count_step setup setting t e made f k (sym on))
      where
        here : raw (e ∷ t) ≡ left_of e.move e.found
        here = last_left-here setup at e t on

        by : LeavesCount t (cores_after setup t e.core).active e.core f k (raw t) (left_of e.move e.found) → IsKept
        by (inl same) = inl (here ∙ same)
        by (inr (inl free)) = absurd (none_some e.core (sym free ∙ ap (λ (n : ℕ). count_mark (count_of_word n)) (sym here) ∙ mark))
        by (inr (inr takes)) = inr (subst (Takes t (cores_after setup t e.core).active e.core f k (raw t)) (sym here) takes)

    pub kept : IsKept
    kept = elim (cases_word at (word_of e.move)) [
      | inl on ↦ stepped on
      | inr there ↦ inl (last_left-there setup at e t there)
    ]

    -- so its count stays
    taken_count : (o : Option CountWord) (count : ℤ) (stamp : ℕ) (call : Call)
        → ((o ≡ Some (acquired e.core count stamp))
        × IsOwnCount (cores_after setup t e.core).active call e.core f k count stamp)
        ⊎ ((o ≡ Some (frozen e.core count stamp)) × IsSweptCount (cores_after setup t e.core).active call f k count stamp)
        → count_in o ≡ count
    taken_count o count stamp call (inl is) = ap count_in is.0
    taken_count o count stamp call (inr is) = ap count_in is.0

    pub still_marked : raw (e ∷ t) ≡ raw t → marked_by setup t at ≡ Some e.core
    still_marked same = ap (λ (n : ℕ). count_mark (count_of_word n)) (sym same) ∙ mark

    -- the core is in a call before it, and after it
    pub inside_before : is_in p ≡ true
    inside_before = elim kept [
      | inl same ↦ sym (inside_is setup t e.core) ∙ marker_inside setup (cores_after setup t) t before at e.core (still_marked same)
      | inr takes ↦ ap is_in takes.is_open
    ]

    inside_after : is_in (phase (e ∷ t) e.core) ≡ true
    inside_after = sym (inside_is setup (e ∷ t) e.core) ∙ marker_inside setup (cores_after setup (e ∷ t)) (e ∷ t) after at e.core mark

    pub no_entry : e.enters ≡ None
    no_entry = by e.enters refl follows.enters
      where
        by : (o : Option Call) → e.enters ≡ o → MayEnter o p → e.enters ≡ None
        by None is may = is
        by (Some call) is may = absurd (false≢true (sym (ap is_in may.0) ∙ inside_before))

    pub no_return : e.returns ≡ None
    no_return = by e.returns refl
      where
        by : (q : Option Reply) → e.returns ≡ q → e.returns ≡ None
        by None is = is
        by (Some r) is = absurd (false≢true (sym (ap is_in (phase-own e.core e t refl
            ∙ ap (λ q. after_return q (after_decide e.decides (after_enter e.enters p))) is)) ∙ inside_after))

    pub entered_is : after_enter e.enters p ≡ p
    entered_is = ap (λ o. after_enter o p) no_entry

    pub before_is : state_before setup t e ≡ state_after setup t
    before_is = ap (λ o. state_entered o (state_after setup t) e.core) no_entry

    pub phase_is : phase (e ∷ t) e.core ≡ after_decide e.decides p
    phase_is = phase-own e.core e t refl ∙ ap (λ q. after_return q (after_decide e.decides (after_enter e.enters p))) no_return
        ∙ ap (after_decide e.decides) entered_is

-- A word that a core has frozen is of a frame that its call makes untyped.
untypes_on : (f : ℕ) (p q : Phase) → call_in p ≡ call_in q → Untypes f q → Untypes f p
untypes_on f p q same is = record { range = is.range; is = same ∙ is.is }

module _ (setup : Setting) (setting : IsSetting setup) (f k d : ℕ) (v : CountWord) (is_closed : v.hold ≡ Closed d) where
  abbrev Shows : Trace → Type 0
  Shows u = count_at (last_left setup u) f k ≡ Some v

  abbrev Marked : Trace → Type 0
  Marked u = marked_by setup u (CountAt f k) ≡ Some d

  marked_so : (u : Trace) → Shows u → Marked u
  marked_so u shows = ap count_mark shows ∙ ap hold_mark is_closed

  not_pinned : (c : ℕ) (count : ℤ) (stamp : ℕ) → Some v ≡ Some (acquired c count stamp) → ⊥
  not_pinned c count stamp is = apart (sym is_closed ∙ ap (λ (x : CountWord). x.hold) (same v (acquired c count stamp) is))
    where
      same : (x y : CountWord) → Some x ≡ Some y → x ≡ y
      same x y h = cc

      apart : Closed d ≡ Pinned c → ⊥
      apart h = cc

  module _ (u : Trace) (e : Step) (made : IsMade setup (e ∷ u)) (shows : Shows (e ∷ u)) (rest : Shows u → Untypes f (phase u d)) where
    taken : Takes u (cores_after setup u e.core).active e.core f k (last_left setup u (CountAt f k))
        (last_left setup (e ∷ u) (CountAt f k)) → Untypes f (phase u e.core)
    taken takes = elim takes.left [
      | inl is ↦ absurd (not_pinned e.core takes.count takes.stamp (sym shows ∙ is.0))
      | inr is ↦ record { range = is.1.untypes.range; is = ap call_in takes.is_open ∙ ap (λ (x : Call). Some x) is.1.untypes.is }
    ]

    own_call : marked_by setup (e ∷ u) (CountAt f k) ≡ Some e.core → d ≡ e.core → Untypes f (phase (e ∷ u) e.core)
    own_call mark own =
        untypes_on f (phase (e ∷ u) e.core) (phase u e.core)
        (ap call_in (phase_is setup setting f k u e made mark) ∙ call_stays e.decides (phase u e.core))
        (elim (kept setup setting f k u e made mark) [
          | inl same ↦ subst (λ (c : ℕ). Untypes f (phase u c)) own (rest (ap count_of_word (sym same) ∙ shows))
          | inr takes ↦ taken takes
        ])

    other_call : Marked (e ∷ u) → d ≢ e.core → Untypes f (phase (e ∷ u) d)
    other_call mark other =
        untypes_on f (phase (e ∷ u) d) (phase u d) (ap call_in (phase-other d e u other))
        (rest (ap count_of_word (sym (raw_other setup setting f k u e made d other mark)) ∙ shows))

  frozen_along : (u : Trace) → IsMade setup u → Shows u → Untypes f (phase u d)
  frozen_along [] made shows =
      absurd (false≢true (((made_stands setup setting [] made).marks (CountAt f k) d).owned (marked_so [] shows)))
  frozen_along (e ∷ u) made shows = elim (cases_eq d e.core) [
    | inl own ↦ subst (λ (c : ℕ). Untypes f (phase (e ∷ u) c)) (sym own)
        (own_call u e made shows (frozen_along u made.0)
        (subst (λ (c : ℕ). marked_by setup (e ∷ u) (CountAt f k) ≡ Some c) own (marked_so (e ∷ u) shows)) own)
    | inr other ↦ other_call u e made shows (frozen_along u made.0) (marked_so (e ∷ u) shows) other
  ]

pub frozen_say : (setup : Setting) → IsSetting setup → (t : Trace) → IsMade setup t → FrozenSay setup t
frozen_say setup setting t made f k d v shows is_closed = frozen_along setup setting f k d v is_closed t made shows

-- A count that a core has acquired is its own, of a frame that its call does not make untyped.
pub record SparesOwn (f k d : ℕ) (p : Phase) : Type 0 where
  pub own : k ≡ d
  pub spares : Untypes f p → ⊥

spares_on : (f k d : ℕ) (p q : Phase) → call_in p ≡ call_in q → SparesOwn f k d q → SparesOwn f k d p
spares_on f k d p q same is =
    record { own = is.own; spares = λ untypes. is.spares (record { range = untypes.range; is = sym same ∙ untypes.is }) }

module _ (setup : Setting) (setting : IsSetting setup) (f k d : ℕ) (v : CountWord) (is_pinned : v.hold ≡ Pinned d) where
  abbrev ShowsSo : Trace → Type 0
  ShowsSo u = count_at (last_left setup u) f k ≡ Some v

  marked_by_it : (u : Trace) → ShowsSo u → marked_by setup u (CountAt f k) ≡ Some d
  marked_by_it u shows = ap count_mark shows ∙ ap hold_mark is_pinned

  not_closed : (c : ℕ) (count : ℤ) (stamp : ℕ) → Some v ≡ Some (frozen c count stamp) → ⊥
  not_closed c count stamp is = apart (sym is_pinned ∙ ap (λ (x : CountWord). x.hold) (same v (frozen c count stamp) is))
    where
      same : (x y : CountWord) → Some x ≡ Some y → x ≡ y
      same x y h = cc

      apart : Pinned d ≡ Closed c → ⊥
      apart h = cc

  module _ (u : Trace) (e : Step) (made : IsMade setup (e ∷ u)) (shows : ShowsSo (e ∷ u))
      (rest : ShowsSo u → SparesOwn f k d (phase u d)) where
    taken_own : Takes u (cores_after setup u e.core).active e.core f k (last_left setup u (CountAt f k))
        (last_left setup (e ∷ u) (CountAt f k))
        → SparesOwn f k e.core (phase u e.core)
    taken_own takes = elim takes.left [
      | inl is ↦ record {
        own = is.1.own;
        spares = λ untypes. is.1.spares (record {
          range = untypes.range;
          is = the_call takes.call (Retype untypes.range f Untyped) (sym (ap call_in takes.is_open) ∙ untypes.is);
        });
      }
      | inr is ↦ absurd (not_closed e.core takes.count takes.stamp (sym shows ∙ is.0))
    ]
      where
        the_call : (x y : Call) → Some x ≡ Some y → x ≡ y
        the_call x y h = cc

    own_spares : marked_by setup (e ∷ u) (CountAt f k) ≡ Some e.core → d ≡ e.core → SparesOwn f k e.core (phase (e ∷ u) e.core)
    own_spares mark own =
        spares_on f k e.core (phase (e ∷ u) e.core) (phase u e.core)
        (ap call_in (phase_is setup setting f k u e made mark) ∙ call_stays e.decides (phase u e.core))
        (elim (kept setup setting f k u e made mark) [
          | inl same ↦ subst (λ (c : ℕ). SparesOwn f k c (phase u c)) own (rest (ap count_of_word (sym same) ∙ shows))
          | inr takes ↦ taken_own takes
        ])

    other_spares : d ≢ e.core → SparesOwn f k d (phase (e ∷ u) d)
    other_spares other =
        spares_on f k d (phase (e ∷ u) d) (phase u d) (ap call_in (phase-other d e u other))
        (rest (ap count_of_word (sym (raw_other setup setting f k u e made d other (marked_by_it (e ∷ u) shows))) ∙ shows))

  pinned_along : (u : Trace) → IsMade setup u → ShowsSo u → SparesOwn f k d (phase u d)
  pinned_along [] made shows =
      absurd (false≢true (((made_stands setup setting [] made).marks (CountAt f k) d).owned (marked_by_it [] shows)))
  pinned_along (e ∷ u) made shows = elim (cases_eq d e.core) [
    | inl own ↦ subst (λ (c : ℕ). SparesOwn f k c (phase (e ∷ u) c)) (sym own)
        (own_spares u e made shows (pinned_along u made.0)
        (subst (λ (c : ℕ). marked_by setup (e ∷ u) (CountAt f k) ≡ Some c) own (marked_by_it (e ∷ u) shows)) own)
    | inr other ↦ other_spares u e made shows (pinned_along u made.0) other
  ]

pub pinned_say : (setup : Setting) → IsSetting setup → (t : Trace) → IsMade setup t → (f k d : ℕ) (v : CountWord)
    → count_at (last_left setup t) f k ≡ Some v → v.hold ≡ Pinned d → SparesOwn f k d (phase t d)
pinned_say setup setting t made f k d v shows is_pinned = pinned_along setup setting f k d v is_pinned t made shows
