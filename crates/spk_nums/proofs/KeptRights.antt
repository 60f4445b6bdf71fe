-- The rights that a copy keeps are in range, and are none that its source lacks.
use Rattle.std.proofs.Common.{◌≡◌, ℕ, ◌<◌, ◌≤◌, IsTrue, sym, ap, ◌∙◌, arith}
use Rattle.std.proofs.lemmas.Bool.{eq-eqb, eqb-true}
use Rattle.std.proofs.lemmas.Nat.{and_le_l, and_assoc}
use Rattle.std.specs.Int.Bits.{bit_and, and_self}
use Rattle.spk_nums.specs.Rights.{both, has_rights, least_rights, kept_rights}
use Rattle.spk_nums.specs.declared.kinds.Kind.{Kind}
use Rattle.spk_nums.specs.declared.kinds.Kind.TheVariants.{Link, Page}

-- a capability keeps the least rights of its kind
pub kept_above : (k : Kind) (own these : ℕ) → least_rights k ≤ own → least_rights k ≤ kept_rights k own these
kept_above Link own these h = h
kept_above Page own these h = h
kept_above _ own these h = omega arith

-- a capability keeps no bits beyond the two
pub kept_below : (k : Kind) (own these : ℕ) → own < 4 → kept_rights k own these < 4
kept_below Link own these h = h
kept_below Page own these h = h
kept_below _ own these h = omega (arith, and_le_l own these)

-- no kind needs more than the two
pub least_three : (k : Kind) → least_rights k ≤ 3
least_three Link = omega arith
least_three Page = omega arith
least_three _ = omega arith

-- what is needed of some rights of a set is among the set
and_has : (own these needs : ℕ) → IsTrue (has_rights (bit_and own these) needs) → IsTrue (has_rights own needs)
and_has own these needs h =
    let e : bit_and (bit_and own these) needs ≡ needs = eqb-true (bit_and (bit_and own these) needs) needs h in
    let twice : bit_and own (bit_and own these) ≡ bit_and own these =
    sym (and_assoc these own own) ∙ ap (λ x. bit_and x these) (and_self own) in
    eq-eqb (bit_and own needs) needs
    (ap (bit_and own) (sym e) ∙ sym (and_assoc needs own (bit_and own these)) ∙ ap (λ x. bit_and x needs) twice ∙ e)

-- a capability keeps no right that it lacks
pub kept_has : (k : Kind) (own these needs : ℕ) → IsTrue (has_rights (kept_rights k own these) needs) → IsTrue (has_rights own needs)
kept_has Link own these needs h = h
kept_has Page own these needs h = h
kept_has _ own these needs h = and_has own these needs h

-- a capability with both rights keeps both, where both are kept
pub both_kept : (k : Kind) (own these : ℕ) → own ≡ both → these ≡ both → kept_rights k own these ≡ both
both_kept Link own these h keep = h
both_kept Page own these h keep = h
both_kept _ own these h keep = ap (bit_and own) keep ∙ ap (λ x. bit_and x both) h ∙ and_self both
