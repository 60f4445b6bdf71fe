-- What the wrong charge makes is no history: the state owes the rest.
use Rattle.kernel_history.proofs.{◌≡◌, ℕ, ◌<◌, ◌≤◌, refl, sym, ◌∙◌, ap, arith, CoreEnd, word_of_head, head_of_word, EntryAt, Represent}
use Rattle.kernel_history.proofs.{IsLegal, state_after, last_left, two_cores, may_follow, carried_out, Call}
use Rattle.kernel_history.specs.{Amount, there}
use Rattle.wrong_steps.specs.Charges.{takes, loaded, charged, owed_after, ChargesLose}

charged_legal : IsLegal two_cores charged
unfolding two_cores loaded charged word_of_head head_of_word
charged_legal = let least : 150 ≤ 1000000 = omega arith in (
  ((tt, may_follow refl refl (refl, least) tt tt), may_follow refl refl tt tt tt),
  may_follow refl refl tt (carried_out {k = Call.Tick 150} {v = Amount 100} refl (refl, (refl, refl)) refl) tt,
)

rest_is_owed : (end : ℕ → CoreEnd) → (end 0).owed ≡ owed_after (takes (there loaded (EntryAt 6 0))) 0
    → Represent (last_left two_cores charged) end (state_after two_cores charged) → ⊥
unfolding two_cores loaded charged word_of_head head_of_word
rest_is_owed end is represents =
    let core : 0 < 2 = omega arith in
    let owed : 0 ≡ 50 = sym is ∙ ap (λ (x : CoreEnd). x.owed) (represents.ends 0 core) in
    omega (arith, owed)

pub charges_lose : ChargesLose
charges_lose = record { legal = charged_legal; refused = rest_is_owed }
