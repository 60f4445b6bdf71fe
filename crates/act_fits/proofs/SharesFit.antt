-- Where the steps of a call on two temporal capabilities lead to fits its machine, and leaves fewer steps.
use Rattle.call_stages.specs.act_states.proofs.{◌≡◌, ℕ, ltb as nat_lt, ◌+◌, ◌-◌, ◌<◌, ◌≤◌, ◌==◌, Bool, true, false, List, length, Option}
use Rattle.call_stages.specs.act_states.proofs.{Some, None, refl, ap, subst, arith, ltb-true, false≢true, Reply, Acquired, AllFit}
use Rattle.call_stages.specs.act_states.proofs.{word_of_head, head_of_word, quality_of_word, HeadWord, QualityWord, Shape, end_by_mark}
use Rattle.call_stages.specs.act_states.proofs.{head_end, in_order, same_list, amount_of, by_alike, by_room, judged, giving_back}
use Rattle.call_stages.specs.act_states.proofs.{marked_end, decided_by_mark, b_end, list_end, again_end, pair_after, Pair, PairAt, LoadA}
use Rattle.call_stages.specs.act_states.proofs.{MarkA, ListA, LoadB, ListB, CompareB, AgainB, StoreList, StoreB, StoreA, PairWork}
use Rattle.call_stages.specs.act_states.proofs.{refusal_of, refuse, shared, took_shared, took_share, Value}
use Rattle.act_fits.proofs.Common.{Refusal, Own, share_act, Act, Goes, Refuses, Answers, share_left, ActiveCall, Decided, GoesOn, landed}
use Rattle.act_fits.proofs.Common.{went_with, took_tail, tail_counts, tail_left, TailFits, left_at}
use Rattle.call_stages.specs.stage_tcap.specs.{PairFits, at_by_mark, at_by_head, at_marked, at_read, a_next, b_next, store_next, at_decided}
use Rattle.call_stages.specs.stage_tcap.specs.{compared_after, again_value, noted_by}
use Rattle.call_stages.specs.stage_tcap.specs.declared.pair.PairWork.TheVariants.{Transfer, Delegate, Test}
use Rattle.call_stages.specs.act_states.specs.Shares.{is_storing, stores_of, after_share, SharedFits}
use Rattle.act_fits.proofs.LandsFit.{TookFits, Facts, landed_fits}
use Rattle.{call_stages.specs.stage_tcap.specs.Pairs.AtFits, call_stages.specs.stage_tcap.proofs.PairLemmas.pair_after_fits}
use Rattle.{call_stages.specs.act_states.specs.declared.work.Tail.TheVariants.Share as share_tail}

-- a call on two of them that stands elsewhere fits where that does
placed : (s : Shape) (p : Pair) (at : PairAt) → PairFits s p → AtFits at → PairFits s (record p { at = at })
placed s p at fits there = record { a = fits.a; b = fits.b; head_a = fits.head_a; head_b = fits.head_b; at = there }

-- the deciding step comes next, or a load by which a refusal is decided
alike_left : (what : PairWork) (same : Bool) → share_left what (by_alike same) ≤ 1 + stores_of what
alike_left (Transfer ticks) true = omega arith
alike_left (Transfer ticks) false = omega arith
alike_left (Delegate ticks) true = omega arith
alike_left (Delegate ticks) false = omega arith
alike_left Test true = omega arith
alike_left Test false = omega arith

room_left : (ticks : ℕ) (o : Option (List (ℕ × ℕ))) → share_left (Delegate ticks) (by_room o) ≤ 1 + stores_of (Delegate ticks)
room_left ticks None = omega arith
room_left ticks (Some xs) = omega arith

judged_left : (what : PairWork) (p : Pair) → share_left what (judged what p) ≤ 1 + stores_of what
judged_left (Transfer ticks) p = alike_left (Transfer ticks) (same_list (in_order p.list_a) (in_order p.list_b))
judged_left (Delegate ticks) p = room_left ticks p.list_b
judged_left Test p = omega arith

some_store : (what : PairWork) → 1 ≤ stores_of what
some_store (Transfer ticks) = omega arith
some_store _ = omega arith

decided_left : (what : PairWork) → share_left what (at_decided what) ≤ stores_of what
decided_left (Transfer ticks) = omega arith
decided_left _ = omega arith

decided_storing : (what : PairWork) → is_storing (at_decided what) ≡ true
decided_storing (Transfer ticks) = refl
decided_storing _ = refl

decided_fits : (what : PairWork) → AtFits (at_decided what)
decided_fits (Delegate ticks) = (omega arith, omega arith)
decided_fits _ = tt

-- what a decided call has still to store after a store
stored_fits : (s : Shape) (p : Pair) (at : PairAt) (found : ℕ) → SharedFits s (record p { at = at })
    → TailFits s (after_share (record p { at = at }) found) × (tail_left (after_share (record p { at = at }) found) < share_left p.what at)
stored_fits s p (StoreList entry) found fits = by (nat_lt entry 8) refl
  where
    by : (more : Bool) → nat_lt entry 8 ≡ more
        → SharedFits s (record p { at = store_next more entry }) × (share_left p.what (store_next more entry) < 11 - entry)
    by true is =
        let low = ltb-true entry 8 is in (
          record {
            fits = placed s (record p { at = StoreList entry }) (StoreList (entry + 1)) fits.fits (omega arith, omega (arith, low));
            storing = refl;
          },
          omega (arith, low),
        )
    by false is = let most = fits.fits.at.1 in
        (record { fits = placed s (record p { at = StoreList entry }) StoreB fits.fits tt; storing = refl }, omega (arith, most))
stored_fits s p StoreB found fits = (record { fits = placed s (record p { at = StoreB }) _ fits.fits tt; storing = refl }, omega arith)
stored_fits s p (StoreA moved v) found fits = (tt, omega arith)
stored_fits s p _ found fits = absurd (false≢true fits.storing)

pub shared_fits : (own : Own) (a : ActiveCall) (r : Reply) (drawn : Option ℕ) (p : Pair) (counts : List Acquired) (found : ℕ)
    → Facts own a → a.counts ≡ counts → SharedFits own.layout p
    → TookFits own (left_at own.layout.cores a (Decided r drawn (share_tail p))) a
    (GoesOn (went_with a (tail_counts (share_tail p) counts) (took_tail r drawn (share_tail p) counts found)))
shared_fits own a r drawn p counts found facts is fits =
    let stored = stored_fits own.layout p p.at found fits in record {
      call = refl;
      found = facts.found;
      first = tt;
      stage = stored.0;
      acquired = subst (AllFit own.layout) is facts.acquired;
      counts = tt;
      room = tt;
      counted = facts.own_fits.made;
      steps = refl;
      fewer = let few = stored.1 in let same : length a.counts ≡ length counts = ap length is in omega (arith, few, same);
    }

module _ (own : Own) (a : ActiveCall) (facts : Facts own a) (room : own.made < own.limit) (none : length a.counts ≡ 0) where
  refused : (left : ℕ) (r : Refusal) → 0 < left → TookFits own (2 + length a.counts + left) a (landed a (refuse r))
  refused left r some =
      landed_fits own a a refl refl facts.found facts.acquired room 0 (2 + length a.counts + left) (refuse r) (omega arith, tt)
      (omega arith)

  goes : (left : ℕ) (p : Pair) → PairFits own.layout p → share_left p.what p.at < left
      → TookFits own (2 + length a.counts + left) a (landed a (Goes (Act (share_act p))))
  goes left p fits fewer =
      landed_fits own a a refl refl facts.found facts.acquired room (share_left p.what p.at) (2 + length a.counts + left)
      (Goes (Act (share_act p))) (fits, omega arith, none) (omega (arith, fewer))

  decides : (left : ℕ) (p : Pair) (r : Reply) → SharedFits own.layout p → share_left p.what p.at < left
      → TookFits own (2 + length a.counts + left) a (landed a (shared p r))
  decides left p (Reply.Ok v) fits fewer =
      landed_fits own a a refl refl facts.found facts.acquired room (share_left p.what p.at) (2 + length a.counts + left)
      (Answers v None (share_tail p)) (omega arith, fits) (omega (arith, fewer))
  decides left p r fits fewer =
      landed_fits own a a refl refl facts.found facts.acquired room (share_left p.what p.at) (2 + length a.counts + left)
      (Refuses (refusal_of r) (share_tail p)) (omega arith, fits) (omega (arith, fewer))

  -- head A is given back as it was found
  gives_back : (left : ℕ) (p : Pair) (r : Reply) → PairFits own.layout p → 1 < left
      → TookFits own (2 + length a.counts + left) a (landed a (shared (record p { at = giving_back }) r))
  gives_back left p r fits some =
      decides left (record p { at = giving_back }) r (record { fits = placed own.layout p giving_back fits tt; storing = refl })
      (omega (arith, some))

  pub share_fits : (p : Pair) (at : PairAt) (found : ℕ) → PairFits own.layout (record p { at = at })
      → TookFits own (2 + length a.counts + share_left p.what at) a (landed a (took_share (record p { at = at }) found))
  share_fits p LoadA found fits = by (head_of_word found)
    where
      next : Pair
      next = pair_after (record p { at = LoadA }) found

      on : PairFits own.layout next
      on = pair_after_fits own.layout (record p { at = LoadA }) found fits

      by_mark : (mark : Option ℕ) → TookFits own (2 + length a.counts + (20 + stores_of p.what)) a
          (landed a (took_shared (record next { at = at_by_mark MarkA LoadA mark }) (end_by_mark mark)))
      by_mark None = goes _ (record next { at = MarkA }) (placed own.layout next MarkA on tt) (omega arith)
      by_mark (Some d) = refused _ (Refusal.Busy d) (omega arith)

      by : (o : Option HeadWord) → TookFits own (2 + length a.counts + (20 + stores_of p.what)) a
          (landed a (took_shared (record next { at = at_by_head MarkA LoadA o }) (head_end o)))
      by None = refused _ Refusal.Raced (omega arith)
      by (Some h) = by_mark h.mark
  share_fits p MarkA found fits = by (found == word_of_head p.head_a) (nat_lt p.head_a.budget (amount_of p.what))
    where
      by : (same short : Bool) → TookFits own (2 + length a.counts + (19 + stores_of p.what)) a
          (landed a (took_shared (record p { at = at_marked same short }) (marked_end same short p.head_a.budget)))
      by true true = gives_back _ (record p { at = MarkA }) (Reply.Short p.head_a.budget) fits (omega arith)
      by true false =
          goes _ (record p { at = ListA 1 })
          (placed own.layout (record p { at = MarkA }) (ListA 1) fits (omega arith, omega arith)) (omega arith)
      by false short = refused _ Refusal.Raced (omega arith)
  share_fits p (ListA entry) found fits = by (quality_of_word found)
    where
      next : Pair
      next = pair_after (record p { at = ListA entry }) found

      on : PairFits own.layout next
      on = pair_after_fits own.layout (record p { at = ListA entry }) found fits

      by_more : (more : Bool) → nat_lt entry 8 ≡ more → TookFits own (2 + length a.counts + (19 - entry + stores_of p.what)) a
          (landed a (Goes (Act (share_act (record next { at = a_next more entry })))))
      by_more true is =
          let low = ltb-true entry 8 is in
          goes _ (record next { at = ListA (entry + 1) })
          (placed own.layout next (ListA (entry + 1)) on (omega arith, omega (arith, low))) (omega (arith, low))
      by_more false is =
          let most = fits.at.1 in goes _ (record next { at = LoadB }) (placed own.layout next LoadB on tt) (omega (arith, most))

      by : (o : Option QualityWord) → TookFits own (2 + length a.counts + (19 - entry + stores_of p.what)) a
          (landed a (took_shared (record next { at = at_read o (a_next (nat_lt entry 8) entry) }) (list_end o)))
      by None = let most = fits.at.1 in gives_back _ next Reply.Raced on (omega (arith, most))
      by (Some v) = by_more (nat_lt entry 8) refl
  share_fits p LoadB found fits = by (head_of_word found)
    where
      next : Pair
      next = pair_after (record p { at = LoadB }) found

      on : PairFits own.layout next
      on = pair_after_fits own.layout (record p { at = LoadB }) found fits

      by_mark : (mark : Option ℕ) → TookFits own (2 + length a.counts + (10 + stores_of p.what)) a
          (landed a (took_shared (record next { at = at_by_mark (ListB 1) giving_back mark }) (decided_by_mark mark)))
      by_mark None =
          goes _ (record next { at = ListB 1 }) (placed own.layout next (ListB 1) on (omega arith, omega arith)) (omega arith)
      by_mark (Some d) = gives_back _ next (Reply.Busy d) on (omega arith)

      by : (o : Option HeadWord) → TookFits own (2 + length a.counts + (10 + stores_of p.what)) a
          (landed a (took_shared (record next { at = at_by_head (ListB 1) giving_back o }) (b_end o)))
      by None = gives_back _ next Reply.Raced on (omega arith)
      by (Some h) = by_mark h.mark
  share_fits p (ListB entry) found fits = by (quality_of_word found) on.at
    where
      next : Pair
      next = pair_after (record p { at = ListB entry }) found

      known : Pair
      known = noted_by (record p { at = ListB entry }) found

      on : PairFits own.layout next
      on = pair_after_fits own.layout (record p { at = ListB entry }) found fits

      by_more : (more : Bool) → nat_lt entry 8 ≡ more → AtFits (b_next more entry known)
          → TookFits own (2 + length a.counts + (10 - entry + stores_of p.what)) a
          (landed a (Goes (Act (share_act (record next { at = b_next more entry known })))))
      by_more true is there =
          let low = ltb-true entry 8 is in
          goes _ (record next { at = ListB (entry + 1) }) (placed own.layout next (ListB (entry + 1)) on there) (omega (arith, low))
      by_more false is there =
          let most = fits.at.1 in
          let few = judged_left p.what known in
          goes _ (record next { at = judged p.what known }) (placed own.layout next (judged p.what known) on there)
          (omega (arith, most, few))

      by : (o : Option QualityWord) → AtFits (at_read o (b_next (nat_lt entry 8) entry known))
          → TookFits own (2 + length a.counts + (10 - entry + stores_of p.what)) a
          (landed a (took_shared (record next { at = at_read o (b_next (nat_lt entry 8) entry known) }) (list_end o)))
      by None there = let most = fits.at.1 in let some = some_store p.what in gives_back _ next Reply.Raced on (omega (arith, most, some))
      by (Some v) there = by_more (nat_lt entry 8) refl there
  share_fits p CompareB found fits = by (found == word_of_head p.head_b)
    where
      by : (same : Bool) → TookFits own (2 + length a.counts + (1 + stores_of p.what)) a
          (landed a (took_shared (record p { at = compared_after same p.what }) (again_end same (Reply.Ok Value.Nothing))))
      by true =
          let few = decided_left p.what in
          decides _ (record p { at = at_decided p.what }) (Reply.Ok Value.Nothing)
          (record {
            fits = placed own.layout (record p { at = CompareB }) (at_decided p.what) fits (decided_fits p.what);
            storing = decided_storing p.what;
          })
          (omega (arith, few))
      by false = let some = some_store p.what in gives_back _ (record p { at = CompareB }) Reply.Raced fits (omega (arith, some))
  share_fits p (AgainB r) found fits = by (found == word_of_head p.head_b)
    where
      by : (same : Bool) → TookFits own (2 + length a.counts + 2) a
          (landed a (took_shared (record p { at = StoreA false (again_value same r) }) (again_end same r)))
      by true =
          decides _ (record p { at = StoreA false (again_value true r) }) r
          (record {
            fits = placed own.layout (record p { at = AgainB r }) (StoreA false (again_value true r)) fits tt;
            storing = refl;
          }) (omega arith)
      by false =
          decides _ (record p { at = StoreA false (again_value false r) }) Reply.Raced
          (record {
            fits = placed own.layout (record p { at = AgainB r }) (StoreA false (again_value false r)) fits tt;
            storing = refl;
          }) (omega arith)
  share_fits p (StoreList entry) found fits = by (nat_lt entry 8) refl
    where
      by : (more : Bool) → nat_lt entry 8 ≡ more → TookFits own (2 + length a.counts + (11 - entry)) a
          (landed a (Goes (Act (share_act (record p { at = store_next more entry })))))
      by true is =
          let low = ltb-true entry 8 is in
          goes _ (record p { at = StoreList (entry + 1) })
          (placed own.layout (record p { at = StoreList entry }) (StoreList (entry + 1)) fits (omega arith, omega (arith, low)))
          (omega (arith, low))
      by false is = let most = fits.at.1 in
          goes _ (record p { at = StoreB }) (placed own.layout (record p { at = StoreList entry }) StoreB fits tt) (omega (arith, most))
  share_fits p StoreB found fits =
      goes _ (record p { at = StoreA true Value.Nothing })
      (placed own.layout (record p { at = StoreB }) (StoreA true Value.Nothing) fits tt) (omega arith)
  share_fits p (StoreA moved v) found fits = refused _ Refusal.Raced (omega arith)
