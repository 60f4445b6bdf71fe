-- Where the steps lead to by which ticks are given back fits their machine, and leaves fewer steps.
use Rattle.call_stages.specs.stage_tcap.specs.{◌≡◌, ℕ, ltb as nat_lt, ◌+◌, ◌-◌, ◌<◌, ◌≤◌, ◌==◌, ◌&&◌, not, Bool, true, false, length}
use Rattle.call_stages.specs.stage_tcap.specs.{Option, Some, None, refl, covers, word_of_head, head_of_word, quality_of_word, HeadWord}
use Rattle.call_stages.specs.stage_tcap.specs.{QualityWord, Shape, end_by_mark, head_end, in_order, RefillFits, from_mark, from_head}
use Rattle.call_stages.specs.stage_tcap.specs.{weighed_at, next_in, from_word, refill_noted, refill_after, weighed, at_word, word_end, won}
use Rattle.call_stages.specs.stage_tcap.specs.{again, Reply, Value}
use Rattle.act_fits.proofs.Common.{sym, arith, ltb-true, Own, GivesBack, Refusal, refill_act, Nothing, Act, Goes, Changes as work_changes}
use Rattle.act_fits.proofs.Common.{refuse, ActiveCall, landed}
use Rattle.call_stages.specs.act_states.specs.{Refill, RefillAt, Again, took_refill, took_refilled}
use Rattle.call_stages.specs.stage_tcap.specs.declared.refill.RefillAt.TheVariants.{Load, List as at_list, Compare}
use Rattle.act_fits.proofs.LandsFit.{Facts, TookFits, landed_fits}
use Rattle.{call_stages.specs.stage_tcap.specs.Refilling.RefillAtFits, call_stages.specs.stage_tcap.proofs.RefillLemmas.refill_after_fits}
use Rattle.{call_stages.specs.act_states.specs.Refills.refill_left}

-- It fits where it stands elsewhere.
placed : (s : Shape) (r : Refill) (at : RefillAt) → RefillFits s r → RefillAtFits at → RefillFits s (record r { at = at })
placed s r at fits stands = record { tcap = fits.tcap; head = fits.head; at = stands }

module _ (own : Own) (a : ActiveCall) (facts : Facts own a) (room : own.made < own.limit) (none : length a.counts ≡ 0) where
  refused : (left : ℕ) (r : Refusal) → 0 < left → TookFits own (2 + length a.counts + left) a (landed a (refuse r))
  refused left r some =
      landed_fits own a a refl refl facts.found facts.acquired room 0 (2 + length a.counts + left) (refuse r) (omega arith, tt)
      (omega arith)

  goes : (left : ℕ) (r : Refill) → RefillFits own.layout r → refill_left r.at < left
      → TookFits own (2 + length a.counts + left) a (landed a (Goes (Act (refill_act r))))
  goes left r fits fewer =
      landed_fits own a a refl refl facts.found facts.acquired room (refill_left r.at) (2 + length a.counts + left)
      (Goes (Act (refill_act r))) (fits, omega arith, none) (omega (arith, fewer))

  pub refill_fits : (r : Refill) (at : RefillAt) (found : ℕ) → RefillFits own.layout (record r { at = at })
      → TookFits own (2 + length a.counts + refill_left at) a (landed a (took_refill (record r { at = at }) found))
  refill_fits r Load found fits = by (head_of_word found)
    where
      next : Refill
      next = refill_after (record r { at = Load }) found

      on : RefillFits own.layout next
      on = refill_after_fits own.layout (record r { at = Load }) found fits

      by_mark : (mark : Option ℕ) → TookFits own (2 + length a.counts + 10) a
          (landed a (took_refilled (record next { at = from_mark mark }) (end_by_mark mark)))
      by_mark None = goes _ (record next { at = at_list 1 })
          (placed own.layout next (at_list 1) on (omega arith, omega arith)) (omega arith)
      by_mark (Some d) = refused _ (Refusal.Busy d) (omega arith)

      by : (o : Option HeadWord) → TookFits own (2 + length a.counts + 10) a
          (landed a (took_refilled (record next { at = from_head o }) (head_end o)))
      by None = refused _ Refusal.Raced (omega arith)
      by (Some h) = by_mark h.mark
  refill_fits r (at_list entry) found fits = by (quality_of_word found)
    where
      known : Refill
      known = refill_noted (record r { at = at_list entry }) found

      next : Refill
      next = refill_after (record r { at = at_list entry }) found

      on : RefillFits own.layout next
      on = refill_after_fits own.layout (record r { at = at_list entry }) found fits

      weighs : (covered less : Bool) → TookFits own (2 + length a.counts + (10 - entry)) a
          (landed a (took_refilled (record next { at = weighed_at covered }) (weighed (covered && less) known.left)))
      weighs true true = let most = fits.at.1 in refused _ (Refusal.Short known.left) (omega (arith, most))
      weighs true false =
          let most = fits.at.1 in goes _ (record next { at = Compare }) (placed own.layout next Compare on tt) (omega (arith, most))
      weighs false less =
          let most = fits.at.1 in goes _ (record next { at = Again }) (placed own.layout next Again on tt) (omega (arith, most))

      by_more : (more : Bool) → nat_lt entry 8 ≡ more → TookFits own (2 + length a.counts + (10 - entry)) a
          (landed a (took_refilled (record next { at = next_in more entry known }) (at_word more known)))
      by_more true is =
          let low = ltb-true entry 8 is in
          goes _ (record next { at = at_list (entry + 1) })
          (placed own.layout next (at_list (entry + 1)) on (omega arith, omega (arith, low))) (omega (arith, low))
      by_more false is = weighs (covers (in_order known.list) known.grant) (nat_lt known.left known.ticks)

      by : (o : Option QualityWord) → TookFits own (2 + length a.counts + (10 - entry)) a
          (landed a (took_refilled (record next { at = from_word o entry (next_in (nat_lt entry 8) entry known) })
          (word_end o (at_word (nat_lt entry 8) known))))
      by None = let most = fits.at.1 in refused _ Refusal.Raced (omega (arith, most))
      by (Some v) = by_more (nat_lt entry 8) refl
  refill_fits r Compare found fits = by (found == word_of_head r.head)
    where
      by : (same : Bool) → TookFits own (2 + length a.counts + 1) a
          (landed a (took_refilled (refill_after (record r { at = Compare }) found) (won same)))
      by true =
          landed_fits own a a refl refl facts.found facts.acquired room 0 (2 + length a.counts + 1)
          (work_changes (Reply.Ok Value.Nothing) (GivesBack r.ticks) None Nothing) (omega arith, tt, tt) (omega arith)
      by false = refused _ Refusal.Raced (omega arith)
  refill_fits r Again found fits = by (found == word_of_head r.head)
    where
      by : (same : Bool) → TookFits own (2 + length a.counts + 1) a
          (landed a (took_refilled (refill_after (record r { at = Again }) found) (again same)))
      by true = refused _ Refusal.Unlike (omega arith)
      by false = refused _ Refusal.Raced (omega arith)
