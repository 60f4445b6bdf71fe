-- Each part of the state that a step changes is one that its core may change by the call that the step carries out.
use Rattle.kernel_history.proofs.{◌≡◌, ◌⊎◌, inl, inr, ◌∷◌, state_after, entered_events, Reply}
use Rattle.world_laws.specs.authority_laws.specs.{CoreIs, IsUnderOne, OwnBy, SamePart}
use Rattle.world_laws.specs.authority_laws.proofs.DecidedParts.{calls_change_their_own}
use Rattle.isolation_laws.specs.Authority.{ChangesBy, StepsHaveAuthority}
use Rattle.isolation_laws.proofs.Steps.{part_on, part_only, before, decided, into, out_of, Carrying, step_does, carried, at_decision}

pub steps_have_authority : StepsHaveAuthority
steps_have_authority setup lim t e legal x = elim (step_does setup t e legal) [
  | inl only ↦ elim (part_only (state_after setup t) (state_after setup (e ∷ t)) e.core only x) [
    | inl same ↦ inl same
    | inr core ↦ inr (inl core)
  ]
  | inr k ↦ by_call k
]
  where
    may : (k : Carrying setup t e legal)
        → SamePart (before setup t e legal) (decided setup t e legal) x
        ⊎ (OwnBy k.call (before setup t e legal) e.core x ⊎ IsUnderOne k.call (before setup t e legal) e.core x)
    may k = at_decision setup t e legal
        (λ s u. SamePart s u x ⊎ (OwnBy k.call s e.core x ⊎ IsUnderOne k.call s e.core x)) k
        (calls_change_their_own setup lim (entered_events t e) e.core k.call (Reply.Ok k.value) k.run x)

    by_call : Carrying setup t e legal
        → SamePart (state_after setup t) (state_after setup (e ∷ t)) x ⊎ ((x ≡ CoreIs e.core) ⊎ ChangesBy setup t e x)
    by_call k = elim (may k) [
      | inr change ↦ inr (inr (record { done = carried setup t e legal k; may = change }))
      | inl same ↦ elim (part_on (state_after setup t) (before setup t e legal) (decided setup t e legal) (state_after setup (e ∷ t)) e.core
          (into setup t e legal) (out_of setup t e legal) x same) [
            | inl stays ↦ inl stays
            | inr core ↦ inr (inl core)
          ]
    ]
