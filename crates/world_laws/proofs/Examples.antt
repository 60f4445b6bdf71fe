-- Worked examples, which the checker computes: states in which the world of frame 5 is not sealed, and one in which it is.
use Rattle.authority_laws.specs.kernel_laws.proofs.{◌≡◌, ℕ, Bool, false, ◌==◌, refl, ◌∙◌, ap, [], Some, true≢false, Capability, cap_of}
use Rattle.authority_laws.specs.kernel_laws.proofs.{Kind, Place, Free, Holds, Quiescing, Comp, Untyped, Kernel, Unused, State, with_place}
use Rattle.authority_laws.specs.kernel_laws.proofs.{with_frame, with_grace, plain_cap, no_grace, only, usable_in, place_all, none_some}
use Rattle.world_laws.specs.{gates, HoldsNone, IsSealed}
use Rattle.{authority_laws.specs.kernel_laws.proofs.some_inj, world_laws.proofs.Outside.leads_plain}
use Rattle.authority_laws.specs.spk_nums.specs.declared.kinds.Kind.TheVariants as kind

-- The world of frame 5, and a state without anything.
abbrev five : ℕ → Bool
five f = f == 5

abbrev nothing : State
nothing = record {
  place = λ f i. Free;
  frame = λ f. Untyped;
  number = λ l. Unused;
  core = λ c. record { inside = false; thread = 0; tcap = 0; cached = []; spent = 0; back = 0; owed = 0; counted = 0; grant = (0, 0) };
  grace = λ x. no_grace;
  limits = record { cores = 3; frames = 8; calls = 8; epochs = 8 };
}

-- A place outside has a capability of this kind to frame 5.
held_unseals : (k : Kind) → gates k ≡ false → only kind.Range k ≡ false → IsSealed five gates (with_place nothing 1 0 (Holds (plain_cap k 5)))
    → ⊥
held_unseals k crosses plain h =
    true≢false (h.places 1 0 0 (plain_cap k 5) refl refl refl crosses 5 (leads_plain k (plain_cap k 5) 5 plain refl))

table_unseals : IsSealed five gates (with_place nothing 1 0 (Holds (plain_cap kind.Table 5))) → ⊥
table_unseals = held_unseals kind.Table refl refl

leaf_unseals : IsSealed five gates (with_place nothing 1 0 (Holds (plain_cap kind.Leaf 5))) → ⊥
leaf_unseals = held_unseals kind.Leaf refl refl

pages_unseal : IsSealed five gates (with_place nothing 1 0 (Holds (plain_cap kind.Pages 5))) → ⊥
pages_unseal = held_unseals kind.Pages refl refl

comp_unseals : IsSealed five gates (with_place nothing 1 0 (Holds (plain_cap kind.Comp 5))) → ⊥
comp_unseals = held_unseals kind.Comp refl refl

thread_unseals : IsSealed five gates (with_place nothing 1 0 (Holds (plain_cap kind.Thread 5))) → ⊥
thread_unseals = held_unseals kind.Thread refl refl

tcap_unseals : IsSealed five gates (with_place nothing 1 0 (Holds (plain_cap kind.Tcap 5))) → ⊥
tcap_unseals = held_unseals kind.Tcap refl refl

-- A range of the frames 4 to 6.
range_unseals : IsSealed five gates (with_place nothing 1 0 (Holds (cap_of kind.Range 4 3))) → ⊥
range_unseals h = true≢false (h.places 1 0 0 (cap_of kind.Range 4 3) refl refl refl refl 5 refl)

-- A component capability that was removed, while core 2 is still in the call in which the removal met it.
removed_unseals : IsSealed five gates
    (with_grace (with_place nothing 1 0 (Quiescing (plain_cap kind.Comp 5))) (λ x. record no_grace { waits = λ d. d == 2 })) → ⊥
removed_unseals h = true≢false (h.places 1 0 2 (plain_cap kind.Comp 5) refl refl refl refl 5 refl)

-- A component outside whose table, or pages, is frame 5.
own_table_unseals : IsSealed five gates (with_frame nothing 1 (Kernel (Comp (record { table = 5; pages = 2; number = 0; epoch = 1 })))) → ⊥
own_table_unseals h = true≢false (h.comps 1 (record { table = 5; pages = 2; number = 0; epoch = 1 }) refl refl).0

own_pages_unseal : IsSealed five gates (with_frame nothing 1 (Kernel (Comp (record { table = 2; pages = 5; number = 0; epoch = 1 })))) → ⊥
own_pages_unseal h = true≢false (h.comps 1 (record { table = 2; pages = 5; number = 0; epoch = 1 }) refl refl).1

-- A gate to it may stand outside.
gate_stays : IsSealed five gates (with_place nothing 1 0 (Holds (cap_of kind.Gate 5 1)))
gate_stays = record {
  places = λ f i d k out. place_all (λ f i p. usable_in p false ≡ Some k → HoldsNone five gates k) nothing 1 0 (Holds (cap_of kind.Gate 5 1))
      f i
      (λ here at e right crosses. absurd (true≢false (ap (λ (j : Capability). gates j.kind) (some_inj (cap_of kind.Gate 5 1) k e) ∙ crosses)))
      (λ e. absurd (none_some k e));
  comps = λ f k out e. absurd (no_comp k e);
}
  where
    no_comp : (k : Rattle.authority_laws.specs.kernel_rules.specs.State.CompFields) → Untyped ≡ Kernel (Comp k) → ⊥
    no_comp k e = cc
