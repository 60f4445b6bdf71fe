-- The second load of the head of the second of two temporal capabilities: it has changed, or it is as it was read, and the call is decided.
use Rattle.pair_invariant.specs.step_ways.proofs as low
use low.{◌≡◌, inl, inr, ℕ, ◌<◌, ◌≤◌, ◌==◌, not, ltb as nat_lt, leb as nat_le, Bool, true, false, if◌then◌else◌, List, [], ◌∷◌, length}
use low.{Option, Some, None, arith, refl, sym, ◌∙◌, ap, subst, eq-eqb, eqb-true, eqb-false, le-ltb, leb-false, lt-ltb, Setting, IsSetting}
use low.{Reply, Value, word_of_head, Word, EntryAt, LoadOf, State, Found, Refused, Does, RuleMay, IsFoundAnd, unless, first_of, first_cause}
use low.{tcap_at, is_short, are_unlike, are_many, rule_of, change_of, changed, counted, MayReply, are_calls_spent, HasRacedHead, Step}
use low.{Trace, state_after, last_left, ok_first, refused_first, in_order, same_list, again_end, by_alike, by_room, judged, Pair, CompareB}
use low.{AgainB, StoreA, PairWork, Act, took_shared, took_share, Undecided, ActiveCall, landed, Core, holds_counts, KnowsUndecided, HasBoth}
use low.{holds_in, holds_head, Invariant, TcapOf, amount_of, found as named_by, Share as share_act, OnlyLooks, core_is, inner, GoodTook}
use low.{not_spent, does, StageEnd}
use Rattle.pair_invariant.specs.kernel_rules.specs.{are_alike, merged_list, preemption, preempts, begins_in as begun_by}
use Rattle.pair_invariant.specs.stage_tcap.specs.{merge_of, merged_if, again_value, whole_b}
use Rattle.pair_invariant.proofs.{AreRead, all_gone, causes_of, change_by}
use Rattle.pair_invariant.specs.stage_tcap.specs.declared.pair.PairWork.TheVariants.{Transfer, Delegate, Test}
use Rattle.pair_invariant.proofs.{HeadsB.owes_share, ListsKnown.same_alike, ShareCalls.value_by, ShareCalls.edits_by, ShareSteps.loading}
use Rattle.{pair_invariant.specs.kernel_history.specs.Justified.IsRaceLost, pair_invariant.specs.kernel_history.proofs.Laws.not_changed}
use Rattle.{pair_invariant.specs.spk_nums.specs.Merging.preempts_by, pair_invariant.specs.stage_tcap.specs.Pairs.value_of}
use Rattle.{pair_invariant.proofs.ShareSteps.load_decides}
use Rattle.pair_invariant.proofs.ListsKnown as known
use Rattle.pair_invariant.proofs.ShareCalls as calls

-- A list that has no room is one of more than 8.
no_room : (xs : List (ℕ × ℕ)) → merged_if (nat_le (length xs) 8) xs ≡ None → nat_lt 8 (length xs) ≡ true
no_room xs none = lt-ltb 8 (length xs) (by (nat_le (length xs) 8) refl none)
  where
    some_none : Some xs ≡ None → ⊥
    some_none h = cc

    by : (b : Bool) → nat_le (length xs) 8 ≡ b → merged_if b xs ≡ None → 8 < length xs
    by true told h = absurd (some_none h)
    by false told h = let more = leb-false (length xs) 8 told in omega (arith, more)

module _ (setup : Setting) (setting : IsSetting setup) (cores : ℕ → Core) (t : Trace) (stands : Invariant setup cores t) (c : ℕ)
    (here : c < setup.cores)
    (a : ActiveCall) (active : (cores c).active ≡ Some a) (p : Pair) (r : Reply)
    (stage_is : a.stage ≡ Undecided (Act (share_act (record p { at = AgainB r }))))
    (has : KnowsUndecided setup t c (cores c).own.table a (Act (share_act (record p { at = AgainB r })))) where
  abbrev now_p : Pair
  now_p = record p { at = AgainB r }

  abbrev s : State
  s = state_after setup t

  abbrev at : Word
  at = EntryAt p.b 0

  abbrev was : ℕ
  was = last_left setup t at

  abbrev old : ℕ
  old = word_of_head p.head_b

  both : HasBoth setup t c now_p (AgainB r)
  both = has.knows.knows.at

  held : holds_in (Some a) ≡ holds_head now_p false (holds_counts None a.counts)
  held = calls.held_is setup setting cores t stands c here a active now_p stage_is has

  tcap_b : TcapOf (s.frame p.b)
  tcap_b = calls.tcap_b setup setting cores t stands c here a active now_p stage_is has

  abbrev is : calls.IsShare s c a.call a.found now_p
  is = calls.is setup setting cores t stands c here a active now_p stage_is has

  unspent : are_calls_spent s c ≡ false
  unspent = not_spent setup (cores c) t c (core_is setup setting cores t stands c here a active)
      (calls.room setup setting cores t stands c here a active now_p stage_is has)

  load : OnlyLooks setup t c a.call (LoadOf at)
  load = loading setup setting cores t stands c here a active now_p stage_is has p.b 0
      (calls.footprint_b setup setting cores t stands c here a active now_p stage_is has)

  abbrev Decides : Value → Reply → Type 0
  Decides v reply_is =
      GoodTook setup cores t c (LoadOf at) (landed a (took_shared (record p { at = StoreA false v }) (StageEnd.Decided reply_is)))

  abbrev raced_e : Step
  raced_e = inner setup setting cores t stands c here a active (LoadOf at) (Some Reply.Raced) None

  -- another word is found there than was read
  lost_good : (was == old) ≡ false → Decides Value.Nothing Reply.Raced
  lost_good other lands =
      load_decides setup setting cores t stands c here a active now_p stage_is has 8 both.a held (LoadOf at) load Reply.Raced
      (record p { at = StoreA false Value.Nothing }) Value.Nothing refl refl refl refl (sym held)
      (ap (λ x. counted x c) (owes_share s c a.call a.found now_p has.knows.knows.shares)) refl (λ x. refl) (λ x. refl) refl
      (unspent, tt) race
      (λ is_alone. absurd (not_changed setup t raced_e refl is_alone race.own race.has_read race.changed)) lands
    where
      race : IsRaceLost t raced_e s (rule_of s c a.call)
      race = record {
        at = inr (subst HasRacedHead (sym tcap_b.is) tt, refl);
        reads = eq-eqb was was refl;
        own = old;
        has_read = both.b.head.own;
        changed = eqb-false was old other;
      }

  -- The word is as it was read.
  module _ (equal : (was == old) ≡ true) where
    same : was ≡ old
    same = eqb-true was old equal

    read : AreRead s now_p both.read
    read = known.are_read setup setting cores t stands c here a active now_p stage_is has both held same

    -- a transfer of which the lists differ
    module _ (m : ℕ) (what_is : p.what ≡ Transfer m) (told : same_list (in_order p.list_a) (in_order p.list_b) ≡ false) where
      list_b : Some (in_order p.list_b) ≡ Some (tcap_at s p.b).qualities
      list_b = ap (λ o. Some (in_order o)) (both.whole ∙ ap (λ w. whole_b w (in_order p.list_a) (in_order both.read)) what_is)
          ∙ some_read both.read read.list_b
        where
          some_read : (o : Option (List (ℕ × ℕ))) → o ≡ Some (tcap_at s p.b).qualities → Some (in_order o) ≡ Some (tcap_at s p.b).qualities
          some_read o h = ap (λ x. Some (in_order x)) h

      same_lists : (xs ys : List (ℕ × ℕ)) → Some xs ≡ Some ys → xs ≡ ys
      same_lists xs ys h = cc

      unlike : are_alike (tcap_at s p.a).qualities (tcap_at s p.b).qualities ≡ false
      unlike = same_alike (tcap_at s p.a).qualities (tcap_at s p.b).qualities
          ∙ ap (λ xs. same_list (in_order xs) (tcap_at s p.b).qualities) (sym read.list_a)
          ∙ ap (λ ys. same_list (in_order p.list_a) ys) (sym (same_lists (in_order p.list_b) (tcap_at s p.b).qualities list_b)) ∙ told

      unlike_named : are_alike (tcap_at s is.a.frame).qualities (tcap_at s is.b.frame).qualities ≡ false
      unlike_named = ap (λ (f : ℕ). are_alike (tcap_at s f).qualities (tcap_at s is.b.frame).qualities) (sym is.shared.first)
          ∙ ap (λ (f : ℕ). are_alike (tcap_at s p.a).qualities (tcap_at s f).qualities) (sym is.shared.second) ∙ unlike

      not_short : nat_lt (tcap_at s is.a.frame).budget m ≡ false
      not_short = ap (λ (f : ℕ). nat_lt (tcap_at s f).budget m) (sym is.shared.first)
          ∙ ap (λ (n : ℕ). nat_lt n m) (sym read.budget_a)
          ∙ le-ltb p.head_a.budget m (subst (λ w. amount_of w ≤ p.head_a.budget) what_is both.a.enough)

      may_unlike : RuleMay s c
          (Does (causes_of s (Transfer m) (named_by is.a) (named_by is.b)) (value_by s (Transfer m) is.a.frame is.b.frame)
          (edits_by s (Transfer m) is.a.frame is.b.frame))
          Reply.Unlike
      may_unlike = inr (inr (inl (ap not unlike_named, refl)))

      first_unlike : unless (first_cause s c (causes_of s (Transfer m) (named_by is.a) (named_by is.b)))
          (change_by c s (Transfer m) is.a.frame is.b.frame) ≡ Refused Reply.Unlike
      first_unlike =
          ap (λ b. unless (first_of (if b then Some Reply.Same else None)
          (first_cause s c (is_short s (named_by is.a) m ∷ are_unlike s (named_by is.a) (named_by is.b) ∷ [])))
          (change_by c s (Transfer m) is.a.frame is.b.frame))
          (calls.not_same setup setting cores t stands c here a active now_p stage_is has)
          ∙ ap (λ b. unless (first_of (if b then Some (Reply.Short (tcap_at s is.a.frame).budget) else None)
          (first_cause s c (are_unlike s (named_by is.a) (named_by is.b) ∷ []))) (change_by c s (Transfer m) is.a.frame is.b.frame))
          not_short
          ∙ ap (λ b. unless (first_of (if not b then Some Reply.Unlike else None) None) (change_by c s (Transfer m) is.a.frame is.b.frame))
          unlike_named

      unlike_good : Decides Value.Nothing Reply.Unlike
      unlike_good lands =
          load_decides setup setting cores t stands c here a active now_p stage_is has 8 both.a held (LoadOf at) load Reply.Unlike
          (record p { at = StoreA false Value.Nothing }) Value.Nothing refl refl refl refl (sym held)
          refl refl (λ x. refl) (λ x. refl) refl (
            unspent,
            calls.may setup setting cores t stands c here a active now_p stage_is has Reply.Unlike
                (subst (λ w. RuleMay s c
                (Does (causes_of s w (named_by is.a) (named_by is.b)) (value_by s w is.a.frame is.b.frame)
                (edits_by s w is.a.frame is.b.frame)) Reply.Unlike)
                (sym what_is) may_unlike),
          ) tt
          (λ is_alone. refused_first s c a.call Reply.Unlike has.acts unspent
          (calls.change_is setup setting cores t stands c here a active now_p stage_is has
          ∙ ap (λ w. unless (first_cause s c (causes_of s w (named_by is.a) (named_by is.b))) (change_by c s w is.a.frame is.b.frame))
          what_is
          ∙ first_unlike)) lands

    -- a delegation of which the merged list has no room
    module _ (m : ℕ) (what_is : p.what ≡ Delegate m) (none : p.list_b ≡ None) where
      many : nat_lt 8 (length (merged_list s p.a p.b)) ≡ true
      many = no_room (merged_list s p.a p.b)
          (ap (λ xs. merge_of (in_order xs) (tcap_at s p.b).qualities) (sym read.list_a)
          ∙ ap (λ ys. merge_of (in_order p.list_a) (in_order ys)) (sym read.list_b)
          ∙ ap (λ w. whole_b w (in_order p.list_a) (in_order both.read)) (sym what_is) ∙ sym both.whole ∙ none)

      many_named : nat_lt 8 (length (merged_list s is.a.frame is.b.frame)) ≡ true
      many_named = ap (λ (f : ℕ). nat_lt 8 (length (merged_list s f is.b.frame))) (sym is.shared.first)
          ∙ ap (λ (f : ℕ). nat_lt 8 (length (merged_list s p.a f))) (sym is.shared.second) ∙ many

      is_enough : nat_lt (tcap_at s is.a.frame).budget m ≡ false
      is_enough = ap (λ (f : ℕ). nat_lt (tcap_at s f).budget m) (sym is.shared.first)
          ∙ ap (λ (n : ℕ). nat_lt n m) (sym read.budget_a)
          ∙ le-ltb p.head_a.budget m (subst (λ w. amount_of w ≤ p.head_a.budget) what_is both.a.enough)

      may_many : RuleMay s c
          (Does (causes_of s (Delegate m) (named_by is.a) (named_by is.b)) (value_by s (Delegate m) is.a.frame is.b.frame)
          (edits_by s (Delegate m) is.a.frame is.b.frame))
          Reply.TooMany
      may_many = inr (inr (inl (many_named, refl)))

      first_many : unless (first_cause s c (causes_of s (Delegate m) (named_by is.a) (named_by is.b)))
          (change_by c s (Delegate m) is.a.frame is.b.frame) ≡ Refused Reply.TooMany
      first_many =
          ap (λ b. unless (first_of (if b then Some Reply.Same else None)
          (first_cause s c (is_short s (named_by is.a) m ∷ are_many s (named_by is.a) (named_by is.b) ∷ [])))
          (change_by c s (Delegate m) is.a.frame is.b.frame))
          (calls.not_same setup setting cores t stands c here a active now_p stage_is has)
          ∙ ap (λ b. unless (first_of (if b then Some (Reply.Short (tcap_at s is.a.frame).budget) else None)
          (first_cause s c (are_many s (named_by is.a) (named_by is.b) ∷ []))) (change_by c s (Delegate m) is.a.frame is.b.frame)) is_enough
          ∙ ap (λ b. unless (first_of (if b then Some Reply.TooMany else None) None)
          (change_by c s (Delegate m) is.a.frame is.b.frame)) many_named

      many_good : Decides Value.Nothing Reply.TooMany
      many_good lands =
          load_decides setup setting cores t stands c here a active now_p stage_is has 8 both.a held (LoadOf at) load Reply.TooMany
          (record p { at = StoreA false Value.Nothing }) Value.Nothing refl refl refl refl (sym held)
          refl refl (λ x. refl) (λ x. refl) refl (
            unspent,
            calls.may setup setting cores t stands c here a active now_p stage_is has Reply.TooMany
                (subst (λ w. RuleMay s c (Does (causes_of s w (named_by is.a) (named_by is.b)) (value_by s w is.a.frame is.b.frame)
                (edits_by s w is.a.frame is.b.frame))
                Reply.TooMany)
                (sym what_is) may_many),
          ) tt
          (λ is_alone. refused_first s c a.call Reply.TooMany has.acts unspent
          (calls.change_is setup setting cores t stands c here a active now_p stage_is has
          ∙ ap (λ w. unless (first_cause s c (causes_of s w (named_by is.a) (named_by is.b))) (change_by c s w is.a.frame is.b.frame))
          what_is
          ∙ first_many)) lands

    -- a test is answered
    module _ (what_is : p.what ≡ Test) where
      abbrev tells : Bool
      tells = preempts_by p.head_a.budget (in_order p.list_a) p.head_b.budget (in_order p.list_b)

      abbrev v : Value
      v = if tells then Value.Preempts else Value.Stays

      list_b_is : p.list_b ≡ Some (tcap_at s p.b).qualities
      list_b_is = both.whole ∙ ap (λ w. whole_b w (in_order p.list_a) (in_order both.read)) what_is
          ∙ ap (λ x. Some (in_order x)) read.list_b

      tells_is : tells ≡ preempts (tcap_at s is.a.frame) (tcap_at s is.b.frame)
      tells_is =
          ap (λ (n : ℕ). preempts_by n (in_order p.list_a) p.head_b.budget (in_order p.list_b)) read.budget_a
          ∙ ap (λ xs. preempts_by (tcap_at s p.a).budget (in_order xs) p.head_b.budget (in_order p.list_b)) read.list_a
          ∙ ap (λ (n : ℕ). preempts_by (tcap_at s p.a).budget (tcap_at s p.a).qualities n (in_order p.list_b)) read.budget_b
          ∙ ap (λ xs. preempts_by (tcap_at s p.a).budget (tcap_at s p.a).qualities (tcap_at s p.b).budget (in_order xs)) list_b_is
          ∙ ap (λ (f : ℕ). preempts (tcap_at s f) (tcap_at s p.b)) is.shared.first
          ∙ ap (λ (f : ℕ). preempts (tcap_at s is.a.frame) (tcap_at s f)) is.shared.second

      no_cause : first_cause s c (causes_of s Test (named_by is.a) (named_by is.b)) ≡ None
      no_cause = ap (λ b. first_of (if b then Some Reply.Same else None) None)
          (calls.not_same setup setting cores t stands c here a active now_p stage_is has)

      change_is : change_of s c a.call ≡ Found (does c s v [])
      change_is = calls.change_is setup setting cores t stands c here a active now_p stage_is has
          ∙ ap (λ w. unless (first_cause s c (causes_of s w (named_by is.a) (named_by is.b))) (change_by c s w is.a.frame is.b.frame))
          what_is
          ∙ ap (λ o. unless o (change_by c s Test is.a.frame is.b.frame)) no_cause
          ∙ ap (λ b. Found (does c s (preemption b) [])) (sym tells_is)

      permitted : MayReply s c a.call (Reply.Ok v)
      permitted = (unspent, (has.acts, subst (λ x. IsFoundAnd x (λ y. y.value ≡ v)) (sym change_is) refl))

      abbrev answer : Step
      answer = inner setup setting cores t stands c here a active (LoadOf at) (Some (Reply.Ok v)) None

      answered_good : Decides v (Reply.Ok v)
      answered_good lands =
          load_decides setup setting cores t stands c here a active now_p stage_is has 8 both.a held (LoadOf at) load (Reply.Ok v)
          (record p { at = StoreA false v }) v refl refl refl refl
          (ap (λ xs. holds_head now_p false (holds_counts (Some None) xs))
          (calls.no_counts setup setting cores t stands c here a active now_p stage_is has)
          ∙ sym (held ∙ ap (λ xs. holds_head now_p false (holds_counts None xs))
          (calls.no_counts setup setting cores t stands c here a active now_p stage_is has)))
          (ap (λ x. counted (changed s x) c) change_is) refl (λ x. ap (λ j. begun_by j x) change_is) (λ x. is.ends_none x) is.flush_none
          permitted (all_gone setup setting cores t stands c here a active now_p stage_is has answer refl refl)
          (λ is_alone. ok_first s c a.call v permitted) lands

    reply_of : (x y : Reply) → AgainB x ≡ AgainB y → x ≡ y
    reply_of x y h = cc

    by_work : (what : PairWork) → p.what ≡ what → judged what now_p ≡ AgainB r → Decides (value_of r) r
    by_work (Transfer m) what_is judges = by_lists (same_list (in_order p.list_a) (in_order p.list_b)) refl
      where
        not_compare : CompareB ≡ AgainB r → ⊥
        not_compare h = cc

        by_lists : (b : Bool) → same_list (in_order p.list_a) (in_order p.list_b) ≡ b → Decides (value_of r) r
        by_lists true told = absurd (not_compare (sym (ap by_alike told) ∙ judges))
        by_lists false told = subst (λ x. Decides (value_of x) x) (reply_of Reply.Unlike r (sym (ap by_alike told) ∙ judges))
            (unlike_good m what_is told)
    by_work (Delegate m) what_is judges = by_list p.list_b refl
      where
        not_compare : CompareB ≡ AgainB r → ⊥
        not_compare h = cc

        by_list : (o : Option (List (ℕ × ℕ))) → p.list_b ≡ o → Decides (value_of r) r
        by_list None none = subst (λ x. Decides (value_of x) x) (reply_of Reply.TooMany r (sym (ap by_room none) ∙ judges))
            (many_good m what_is none)
        by_list (Some xs) some = absurd (not_compare (sym (ap by_room some) ∙ judges))
    by_work Test what_is judges = subst (λ x. Decides (value_of x) x) (reply_of _ r judges) (answered_good what_is)

  pub again_good : GoodTook setup cores t c (LoadOf at) (landed a (took_share now_p was))
  again_good = by (was == old) refl
    where
      by : (equal : Bool) → (was == old) ≡ equal
          → GoodTook setup cores t c (LoadOf at)
          (landed a (took_shared (record p { at = StoreA false (again_value equal r) }) (again_end equal r)))
      by true told = by_work told p.what refl both.judges
      by false told = lost_good told
