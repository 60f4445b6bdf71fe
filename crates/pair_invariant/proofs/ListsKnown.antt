-- What a call on two temporal capabilities knows of both, where the head of the second is as it was read: their budgets and their lists.
use Rattle.count_invariant.specs.step_ways.proofs.{Want, ◌≡◌, ◌⊎◌, inl, inr, ℕ, ◌+◌, ◌<◌, ◌≤◌, ◌^◌, ◌==◌, ◌&&◌, true, false, List, [], ◌∷◌}
use Rattle.count_invariant.specs.step_ways.proofs.{Option, Some, None, refl, sym, ◌∙◌, ap, subst, false≢true, Setting, IsSetting}
use Rattle.count_invariant.specs.step_ways.proofs.{Capability, arith, word_of_head, head_of_word, HeadWord, spelling, EntryAt, Slot, own}
use Rattle.count_invariant.specs.step_ways.proofs.{Kernel, Tcap, TcapFields, State, tcap_in, comp_of, rule_of, tcap_at, events_of}
use Rattle.count_invariant.specs.step_ways.proofs.{HasReached, IsLegal, head_mark, marked_by, Step, Trace, state_after, last_left, own_left}
use Rattle.count_invariant.specs.step_ways.proofs.{way_to, ways, state_is, run_of, leads_by, LeadsIn, own_pages, same_list, Pair, Act}
use Rattle.count_invariant.specs.step_ways.proofs.{Undecided, ActiveCall, Core, holds_counts, HasFound, own_in, KnowsUndecided}
use Rattle.count_invariant.specs.step_ways.proofs.{list_changed, read_up, HasBoth, holds_in, holds_head, Invariant, HeadIs, own_kept}
use Rattle.count_invariant.specs.step_ways.proofs.{TcapOf, IsSome, is_some, rank, Share as share_act, list_word, plan_for}
use Rattle.count_invariant.specs.boot_words.specs.kernel_rules.specs.{InRanges, FrameInRange, are_alike}
use Rattle.count_invariant.proofs.{found_named, own_is, way_gone}
use Rattle.pair_invariant.proofs.ShareSteps.{mark_is, head_says, list_plain, a_says, a_list}
use Rattle.{std.proofs.lemmas.List.Elements.All-nil, count_invariant.specs.quality_lists.proofs.Ranks.rank_small}
use Rattle.{count_invariant.specs.boot_words.specs.kernel_rules.specs.Ranges.TcapInRange}
use Rattle.{count_invariant.specs.kernel_laws.proofs.RangesLaw.ranges_hold, count_invariant.specs.plan_ways.proofs.Ways.all_ways}
use Rattle.{pair_invariant.proofs.ListsRead.reads_whole}
use Rattle.pair_invariant.proofs.ShareCalls as calls

-- The numbers of temporal capabilities after a legal trace.
pub ranges_of : (setup : Setting) → IsSetting setup → (t : Trace) → IsLegal setup t → InRanges (state_after setup t)
ranges_of setup setting t legal = subst InRanges (sym (state_is setup t)) (ranges_hold setup setting (events_of t) (run_of setup t legal))

-- Two lists are told equal as the rules tell it.
pub same_alike : (xs ys : List (ℕ × ℕ)) → are_alike xs ys ≡ same_list xs ys
same_alike [] [] = refl
same_alike [] (y ∷ ys) = refl
same_alike (x ∷ xs) [] = refl
same_alike (x ∷ xs) (y ∷ ys) = ap (λ b. x.0 == y.0 && (x.1 == y.1 && b)) (same_alike xs ys)

pub range_of : (setup : Setting) → IsSetting setup → (cores : ℕ → Core) (t : Trace) → Invariant setup cores t → (f : ℕ) (q : TcapFields)
    → (state_after setup t).frame f ≡ Kernel (Tcap q) → TcapInRange q
range_of setup setting cores t stands f q is =
    subst (FrameInRange (state_after setup t).limits.epochs) is ((ranges_of setup setting t stands.legal).frames f)

-- Both lists are as they stand, and so are both budgets.
pub record AreRead (s : State) (p : Pair) (read : Option (List (ℕ × ℕ))) : Type 0 where
  pub list_a : p.list_a ≡ Some (tcap_at s p.a).qualities
  pub list_b : read ≡ Some (tcap_at s p.b).qualities
  pub budget_a : p.head_a.budget ≡ (tcap_at s p.a).budget
  pub budget_b : p.head_b.budget ≡ (tcap_at s p.b).budget
  pub version_a : p.head_a.version ≤ rank (tcap_at s p.a).qualities
  pub version_b : p.head_b.version ≤ rank (tcap_at s p.b).qualities
  pub few_b : p.head_b.version + 1 < 2 ^ 28
  pub sum : (tcap_at s p.a).budget + (tcap_at s p.b).budget < 2 ^ 32

module _ (setup : Setting) (setting : IsSetting setup) (cores : ℕ → Core) (t : Trace) (stands : Invariant setup cores t) (c : ℕ)
    (here : c < setup.cores)
    (a : ActiveCall) (active : (cores c).active ≡ Some a) (p : Pair) (stage_is : a.stage ≡ Undecided (Act (share_act p)))
    (has : KnowsUndecided setup t c (cores c).own.table a (Act (share_act p)))
    (both : HasBoth setup t c p p.at)
    (held : holds_in (Some a) ≡ holds_head p false (holds_counts None a.counts)) where
  abbrev s : State
  s = state_after setup t

  pub tcap_a : TcapOf (s.frame p.a)
  tcap_a = calls.tcap_a setup setting cores t stands c here a active p stage_is has

  pub tcap_b : TcapOf (s.frame p.b)
  tcap_b = calls.tcap_b setup setting cores t stands c here a active p stage_is has

  same_head : (v u : HeadWord) → Some v ≡ Some u → v ≡ u
  same_head v u h = cc

  -- head A
  says_a : HeadIs tcap_a.fields (Some p.head_a)
  unfolding tcap_a
  says_a = a_says setup setting cores t stands c here a active p stage_is has 8 both.a held

  list_a_is : p.list_a ≡ Some tcap_a.fields.qualities
  unfolding tcap_a
  list_a_is =
      let range = range_of setup setting cores t stands p.a tcap_a.fields tcap_a.is in
      both.a.list ∙ reads_whole tcap_a.fields.qualities (list_word setup t p.a) range.pairs range.most
      (a_list setup setting cores t stands c here a active p stage_is has 8 both.a held)

  -- head B, where it is as it was read
  module _ (equal : last_left setup t (EntryAt p.b 0) ≡ word_of_head p.head_b) where
    pub shown_b : head_of_word (last_left setup t (EntryAt p.b 0)) ≡ Some p.head_b
    shown_b = ap head_of_word equal ∙ spelling.reads p.head_b both.b.head.fits

    pub bare_b : marked_by setup t (EntryAt p.b 0) ≡ None
    bare_b = mark_is setup setting cores t stands p.b tcap_b.fields tcap_b.is (last_left setup t (EntryAt p.b 0))
        ∙ ap head_mark shown_b ∙ both.b.head.bare

    pub says_b : HeadIs tcap_b.fields (Some p.head_b)
    says_b = subst (HeadIs tcap_b.fields) shown_b (head_says setup setting cores t stands p.b tcap_b.fields tcap_b.is bare_b)

    now_is : both.b.seen.now ≡ p.head_b
    now_is = same_head _ _ (sym both.b.seen.shown ∙ shown_b)

    read_is : (both.b.seen.now.version ≡ p.head_b.version
        → (both.read ≡ read_up (list_word setup t p.b) 8) ⊎ ((list_changed t p.b ≡ true) × IsSome both.b.seen.now.mark))
        → both.read ≡ read_up (list_word setup t p.b) 8
    read_is since = by (since (ap (λ h. h.version) now_is))
      where
        by : (both.read ≡ read_up (list_word setup t p.b) 8) ⊎ ((list_changed t p.b ≡ true) × IsSome both.b.seen.now.mark)
            → both.read ≡ read_up (list_word setup t p.b) 8
        by (inl is) = is
        by (inr is) = absurd (false≢true (sym (ap (λ (h : HeadWord). is_some h.mark) now_is ∙ ap is_some both.b.head.bare) ∙ is.1))

    pub are_read : AreRead s p both.read
    are_read =
        let range = range_of setup setting cores t stands p.b tcap_b.fields tcap_b.is in
        let head_a = same_head _ _ says_a.says in
        let head_b = same_head _ _ says_b.says in
        record {
          list_a = list_a_is ∙ ap (λ x. Some (tcap_in x).qualities) (sym tcap_a.is);
          list_b = read_is both.b.seen.same
              ∙ reads_whole tcap_b.fields.qualities (list_word setup t p.b) range.pairs range.most
              (list_plain setup setting cores t stands p.b tcap_b.fields tcap_b.is bare_b)
              ∙ ap (λ x. Some (tcap_in x).qualities) (sym tcap_b.is);
          budget_a = ap (λ v. v.budget) head_a ∙ ap (λ x. (tcap_in x).budget) (sym tcap_a.is);
          budget_b = ap (λ v. v.budget) head_b ∙ ap (λ x. (tcap_in x).budget) (sym tcap_b.is);
          version_a = subst (λ (n : ℕ). p.head_a.version ≤ n) (ap (λ x. rank (tcap_in x).qualities) (sym tcap_a.is))
              (subst (λ (n : ℕ). n ≤ rank tcap_a.fields.qualities) (sym (ap (λ v. v.version) head_a)) says_a.within);
          version_b = subst (λ (n : ℕ). p.head_b.version ≤ n) (ap (λ x. rank (tcap_in x).qualities) (sym tcap_b.is))
              (subst (λ (n : ℕ). n ≤ rank tcap_b.fields.qualities) (sym (ap (λ v. v.version) head_b)) says_b.within);
          few_b =
              let low : p.head_b.version ≤ rank tcap_b.fields.qualities =
              subst (λ (n : ℕ). n ≤ rank tcap_b.fields.qualities) (sym (ap (λ v. v.version) head_b)) says_b.within in
              let small = rank_small tcap_b.fields.qualities range.pairs range.most in omega (arith, low, small);
          sum = (ranges_of setup setting t stands.legal).budgets p.a p.b
              (calls.differ setup setting cores t stands c here a active p stage_is has);
        }

-- The call has stepped on each place through which its names are reached.
module _ (setup : Setting) (setting : IsSetting setup) (cores : ℕ → Core) (t : Trace) (stands : Invariant setup cores t) (c : ℕ)
    (here : c < setup.cores)
    (a : ActiveCall) (active : (cores c).active ≡ Some a) (p : Pair) (stage_is : a.stage ≡ Undecided (Act (share_act p)))
    (has : KnowsUndecided setup t c (cores c).own.table a (Act (share_act p)))
    (e : Step) (own_step : e.core ≡ c) (no_entry : e.enters ≡ None) where
  table_is : (cores c).own.table ≡ (comp_of (state_after setup t) c).table
  table_is = (stands.each c here).works.table

  pub all_gone : HasReached (e ∷ t) c (ways (state_after setup t) c (rule_of (state_after setup t) c a.call))
  all_gone = all_ways (state_after setup t) c (own_pages (state_after setup t) c) (e ∷ t) (plan_for a.call)
      (rule_of (state_after setup t) c a.call) a.found
      (calls.by_plan setup setting cores t stands c here a active p stage_is has)
      (leads_by (λ n wanted q. HasFound setup t c (own_in (cores c).own.table n) wanted q)
      (λ n wanted q. LeadsIn (state_after setup t) c n wanted q
      × HasReached (e ∷ t) c (way_to (state_after setup t) c (own (state_after setup t) c n)))
      own_gone (plan_for a.call).names [] a.found has.names)
      (subst (λ x. HasReached (e ∷ t) c (ways (state_after setup t) c x))
      (sym (calls.left setup setting cores t stands c here a active p stage_is has))
      (All-nil (λ (x : Slot). IsSome (own_left (e ∷ t) c (EntryAt x.node x.index)))))
    where
      own_gone : (n : ℕ) (wanted : Want) (q : Capability) → HasFound setup t c (own_in (cores c).own.table n) wanted q
          → LeadsIn (state_after setup t) c n wanted q
          × HasReached (e ∷ t) c (way_to (state_after setup t) c (own (state_after setup t) c n))
      own_gone n wanted q had = (
        found_named setup t c (cores c).own.table n wanted q table_is had,
        subst (λ x. HasReached (e ∷ t) c (way_to (state_after setup t) c x))
            (own_is (state_after setup t) c (cores c).own.table n table_is)
            (way_gone setup t (e ∷ t) c (own_in (cores c).own.table n) had.at had.way.reached
            (λ m d h. own_kept t e c (sym own_step) no_entry _ (had.way.stepped m d h))),
      )
