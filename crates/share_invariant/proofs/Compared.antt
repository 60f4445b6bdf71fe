-- The compare of the head of the second of two temporal capabilities: it is lost, and the first is given back; and what the call knows of
-- both where it is won.
use Rattle.pair_invariant.specs.step_ways.proofs.{◌≡◌, inl, inr, ℕ, ◌+◌, ◌-◌, ◌<◌, ◌≤◌, ◌^◌, ◌==◌, Bool, true, false, if◌then◌else◌, List}
use Rattle.pair_invariant.specs.step_ways.proofs.{length, Some, None, arith, refl, sym, ◌∙◌, ap, subst, min, eq-eqb, eqb-true, eqb-false}
use Rattle.pair_invariant.specs.step_ways.proofs.{false≢true, Setting, IsSetting, left_if, HeadFits, word_of_head, head_of_word, spelling}
use Rattle.pair_invariant.specs.step_ways.proofs.{Word, EntryAt, CountAt, same_word, Move, CompareOf, left_of, TcapFields, State, tcap_in}
use Rattle.pair_invariant.specs.step_ways.proofs.{tcap_at, rule_of, counted, changes_in_frame, HasRacedHead, marked_by, Step, Trace}
use Rattle.pair_invariant.specs.step_ways.proofs.{state_after, last_left, debited, credited, amount_of, again_end, Pair, CompareB, Act}
use Rattle.pair_invariant.specs.step_ways.proofs.{took_shared, Undecided, ActiveCall, landed, Core, holds_counts, KnowsUndecided, HasBoth}
use Rattle.pair_invariant.specs.step_ways.proofs.{holds_in, holds_head, Invariant, HeadIs, limits_of, TcapOf, rank, HeadWord}
use Rattle.pair_invariant.specs.step_ways.proofs.{Share as share_act, IsOfCall, core_is, inner, GoodTook, not_spent, Reply, Value}
use Rattle.pair_invariant.specs.stage_tcap.specs.{giving_back, PairFits}
use Rattle.pair_invariant.proofs.{HeadsB.owes_share, ListsKnown.AreRead, ShareSteps.own_mark, ShareSteps.load_decides}
use Rattle.{pair_invariant.specs.kernel_history.specs.Justified.IsRaceLost, pair_invariant.specs.kernel_history.proofs.Laws.not_changed}
use Rattle.{pair_invariant.specs.word_map.proofs.WordLemmas.same_word-true, pair_invariant.specs.stage_tcap.specs.Pairs.next_b}
use Rattle.pair_invariant.proofs.ListsKnown as known
use Rattle.pair_invariant.proofs.ShareCalls as calls

module _ (setup : Setting) (setting : IsSetting setup) (cores : ℕ → Core) (t : Trace) (stands : Invariant setup cores t) (c : ℕ)
    (here : c < setup.cores)
    (a : ActiveCall) (active : (cores c).active ≡ Some a) (p : Pair)
    (stage_is : a.stage ≡ Undecided (Act (share_act (record p { at = CompareB }))))
    (has : KnowsUndecided setup t c (cores c).own.table a (Act (share_act (record p { at = CompareB })))) where
  abbrev now_p : Pair
  now_p = record p { at = CompareB }

  abbrev s : State
  s = state_after setup t

  abbrev at : Word
  at = EntryAt p.b 0

  abbrev at_a : Word
  at_a = EntryAt p.a 0

  abbrev was : ℕ
  was = last_left setup t at

  abbrev old : ℕ
  old = word_of_head p.head_b

  abbrev new : ℕ
  new = word_of_head (next_b p.what p.core p.head_b)

  abbrev compare : Move
  compare = CompareOf at old new

  abbrev both : HasBoth setup t c now_p CompareB
  both = has.knows.knows.at

  pub held : holds_in (Some a) ≡ holds_head now_p false (holds_counts None a.counts)
  held = calls.held_is setup setting cores t stands c here a active now_p stage_is has

  abbrev tcap_a : TcapOf (s.frame p.a)
  tcap_a = calls.tcap_a setup setting cores t stands c here a active now_p stage_is has

  abbrev tcap_b : TcapOf (s.frame p.b)
  tcap_b = calls.tcap_b setup setting cores t stands c here a active now_p stage_is has

  room : (cores c).own.made < (cores c).own.limit
  room = calls.room setup setting cores t stands c here a active now_p stage_is has

  pub of_call : IsOfCall setup t c a.call compare
  of_call = record {
    moves = ap (changes_in_frame a.call) tcap_b.is ∙ (calls.is setup setting cores t stands c here a active now_p stage_is has).budgets;
    footprint = inl (calls.footprint_b setup setting cores t stands c here a active now_p stage_is has);
  }

  abbrev raced_e : Step
  raced_e = inner setup setting cores t stands c here a active compare (Some Reply.Raced) None

  -- another word is found there than was read
  pub lost_good : (was == old) ≡ false
      → GoodTook setup cores t c compare
      (landed a (took_shared (record now_p { at = giving_back }) (again_end false (Reply.Ok Value.Nothing))))
  lost_good other lands =
      load_decides setup setting cores t stands c here a active now_p stage_is has 8 both.a held compare
      (record { of_call = of_call; kept = kept; apart = λ d. refl }) Reply.Raced
      (record now_p { at = giving_back }) Value.Nothing refl refl refl refl (sym held)
      (ap (λ x. counted x c) (owes_share s c a.call a.found now_p has.knows.knows.shares)) refl (λ x. refl) (λ x. refl) refl
      (not_spent setup (cores c) t c (core_is setup setting cores t stands c here a active) room, tt) race
      (λ is_alone. absurd (not_changed setup t raced_e refl is_alone race.own race.has_read race.changed)) lands
    where
      kept : left_of compare was ≡ was
      kept = ap (λ b. left_if b was new) other

      race : IsRaceLost t raced_e s (rule_of s c a.call)
      race = record {
        at = inr (subst HasRacedHead (sym tcap_b.is) tt, refl);
        reads = eq-eqb (left_of compare was) was kept;
        own = old;
        has_read = both.b.head.own;
        changed = eqb-false was old other;
      }

  -- a frame of the core's layout is one of the machine
  below : (f : ℕ) → f < (cores c).own.layout.frames → f < s.limits.frames
  below f low = subst (λ (n : ℕ). f < n) (ap (λ x. x.frames) (stands.each c here).shape ∙ sym (ap (λ l. l.frames) (limits_of setup t))) low

  fits : PairFits (cores c).own.layout now_p
  fits = calls.fits setup setting cores t stands c here a active now_p stage_is has

  pub below_a : p.a < s.limits.frames
  below_a = below p.a fits.a

  pub below_b : p.b < s.limits.frames
  below_b = below p.b fits.b

  -- the mark of head A is this core's, and it has marked nothing else
  pub mark_a : marked_by setup t at_a ≡ Some c
  mark_a = own_mark setup setting cores t stands c here a active now_p stage_is has 8 both.a held

  pub only_a : (w : Word) → marked_by setup t w ≡ Some c → w ≡ at_a
  only_a w own = by (same_word w at_a) refl
      (sym (ap (λ h. h.marks w) (ap holds_in active ∙ held)) ∙ (stands.marks w c).owned own)
    where
      none : (holds_counts None a.counts).marks w ≡ false
      none = ap (λ xs. (holds_counts None xs).marks w) (calls.no_counts setup setting cores t stands c here a active now_p stage_is has)

      by : (b : Bool) → same_word w at_a ≡ b → (if same_word w at_a then true else (holds_counts None a.counts).marks w) ≡ true → w ≡ at_a
      by true told h = same_word-true w at_a told
      by false told h = absurd (false≢true (sym (ap (λ b. if b then true else (holds_counts None a.counts).marks w) told ∙ none) ∙ h))

  pub count_apart : (g d : ℕ) → marked_by setup t (CountAt g d) ≡ Some c → ⊥
  count_apart g d own = not_entry (only_a (CountAt g d) own)
    where
      not_entry : CountAt g d ≡ EntryAt p.a 0 → ⊥
      not_entry h = cc

  -- The word is as it was read.
  module _ (equal : (was == old) ≡ true) where
    abbrev qa : TcapFields
    qa = tcap_a.fields

    abbrev qb : TcapFields
    qb = tcap_b.fields

    same : was ≡ old
    same = eqb-true was old equal

    pub leaves_it : left_of compare was ≡ new
    leaves_it = ap (λ b. left_if b was new) equal

    pub read : AreRead s now_p both.read
    read = known.are_read setup setting cores t stands c here a active now_p stage_is has both held same

    pub shown : head_of_word was ≡ Some p.head_b
    shown = known.shown_b setup setting cores t stands c here a active now_p stage_is has both held same

    pub bare : marked_by setup t at ≡ None
    bare = known.bare_b setup setting cores t stands c here a active now_p stage_is has both held same

    pub budget_a : p.head_a.budget ≡ qa.budget
    budget_a = read.budget_a ∙ ap (λ x. (tcap_in x).budget) tcap_a.is

    pub budget_b : p.head_b.budget ≡ qb.budget
    budget_b = read.budget_b ∙ ap (λ x. (tcap_in x).budget) tcap_b.is

    pub sum : qa.budget + qb.budget < 2 ^ 32
    sum =
        let both_few = read.sum in
        let one : (tcap_at s p.a).budget ≡ qa.budget = ap (λ x. (tcap_in x).budget) tcap_a.is in
        let two : (tcap_at s p.b).budget ≡ qb.budget = ap (λ x. (tcap_in x).budget) tcap_b.is in
        omega (arith, both_few, one, two)

    pub enough : amount_of p.what ≤ qa.budget
    enough = subst (λ (n : ℕ). amount_of p.what ≤ n) budget_a both.a.enough

    -- what both heads say once the ticks are moved
    pub debited_is : HeadIs (record qa { budget = qa.budget - amount_of p.what })
        (head_of_word (word_of_head (debited p.head_a (amount_of p.what))))
    debited_is = record {
      version = p.head_a.version;
      says = spelling.reads (debited p.head_a (amount_of p.what)) less_fits
          ∙ ap (λ (n : ℕ). Some (record { budget = n - amount_of p.what; mark = None; version = p.head_a.version })) budget_a;
      within = subst (λ (n : ℕ). p.head_a.version ≤ n) (ap (λ x. rank (tcap_in x).qualities) tcap_a.is) read.version_a;
      most = (known.range_of setup setting cores t stands p.a qa tcap_a.is).most;
    }
      where
        less_fits : HeadFits (debited p.head_a (amount_of p.what))
        less_fits = (let low = both.a.fits.0 in omega (arith, low), tt, both.a.fits.2)

    -- whatever version the second is given
    pub credited_fits : (h : HeadWord) → h.version < 2 ^ 28 → HeadFits (credited h (amount_of p.what))
    credited_fits h low = (omega arith, tt, low)

    pub credited_is : (h : HeadWord) → h.budget ≡ p.head_b.budget → h.version < 2 ^ 28 → (list : List (ℕ × ℕ))
        → h.version ≤ rank list → length list ≤ 8
        → HeadIs (record { budget = qb.budget + amount_of p.what; qualities = list })
        (head_of_word (word_of_head (credited h (amount_of p.what))))
    credited_is h same_budget low list within few = record {
      version = h.version;
      says = spelling.reads (credited h (amount_of p.what)) (credited_fits h low)
          ∙ ap (λ (n : ℕ). Some (record { budget = n; mark = None; version = h.version })) budget_now;
      within = within;
      most = few;
    }
      where
        budget_now : min (h.budget + amount_of p.what) (2 ^ 32 - 1) ≡ qb.budget + amount_of p.what
        budget_now =
            let alike = same_budget in let one = budget_b in let two = enough in let three = sum in
            omega (arith, alike, one, two, three)
