-- A call of which a name lacks a right may be refused with `no-right`.
use Rattle.found_stays.specs.kernel_rules.proofs.{ℕ, refl, Option, Some, None, IsTrue, IsSomeAnd, Make, Call, Touch, comp_of, Slot, Want}
use Rattle.found_stays.specs.kernel_rules.proofs.{own, reached, usable, translation_of, Lacks, NameMay, RuleMay, rule_of, Reply}
use Rattle.found_stays.specs.kernel_rules.proofs.Rows.{are_ahead, name_may, by_cached}
use Rattle.found_stays.specs.kernel_rules.specs.Rows.{Asked, led}
use Rattle.kernel_laws.specs.{used_at, leads}
use Rattle.found_stays.specs.spk_nums.specs.declared.calls.Call.TheVariants.{Make as make_call}
use Rattle.kernel_laws.specs.{Causes.HasNoRight, Causes.names_of, Laws.LackIsRefused}
use Rattle.{found_stays.specs.kernel_rules.specs.State.State, kernel_laws.proofs.Causes.one_map}

module _ (s : State) (c : ℕ) where
  -- A name that lacks a right may be refused.
  at_name : (n : ℕ) (want : Want) → IsSomeAnd (leads s c n) (Lacks want) → NameMay s c n want Reply.NoRight
  at_name n want h = by (reached s c (own s c n)) h
    where
      by : (o : Option Slot) → IsSomeAnd (used_at s c o) (Lacks want) → IsSomeAnd o (λ at. IsSomeAnd (usable s c at) (Lacks want))
      by None h = absurd h
      by (Some at) h = h

  -- The names of a call stand before all else that it looks up.
  ahead : (call : Call) → IsTrue (are_ahead (rule_of s c call) (led s c (rule_of s c call)))
  ahead (make_call Make.Table r f t b) = refl
  ahead (Touch v) = by_cached (λ rule. IsTrue (are_ahead rule (led s c rule))) (comp_of s c).pages v refl (λ t. refl)
      (translation_of (s.core c).cached (comp_of s c).pages v)
  ahead _ = refl

  lacks : (call : Call) → HasNoRight s c call → RuleMay s c (rule_of s c call) Reply.NoRight
  lacks call h = name_may s c (rule_of s c call) Reply.NoRight (ahead call)
      (one_map _ _ (names_of s c call) (λ (n : Asked). at_name n.number n.want) h)

pub lack_is_refused : LackIsRefused
lack_is_refused s c call unspent h = (unspent, lacks s c call h)
