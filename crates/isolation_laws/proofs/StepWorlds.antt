-- A step of a core that works outside a sealed world leaves the world alone; and how a step brings its core into a world.
use Rattle.kernel_history.proofs.{◌≡◌, ◌≢◌, ◌⊎◌, inl, inr, ℕ, Bool, true, false, sym, ◌∙◌, ap, subst, ◌∷◌, Option, Some, None, false≢true}
use Rattle.kernel_history.proofs.{Setting, IsSetting, Kind, Call, Place, Frame, Liveness, State, comp_in, thread_in, first_of_stack}
use Rattle.kernel_history.proofs.{is_live_in, Step, state_after, state_entered, IsLegal, entered_events, Reply}
use Rattle.world_laws.specs.{works_in, lives_at, gates, IsSealed, LeavesAlone, EntersBy, IsOf}
use Rattle.world_laws.specs.authority_laws.specs.{Part, CoreIs, OwnBy, SamePart}
use Rattle.world_laws.proofs.{Entering.entered_by, Leaving.outside_leaves, Leaving.lent_alone, Sealing.sealed_entered}
use Rattle.isolation_laws.specs.Worlds.{SparesWorld, ComesIn, StepsSpareWorlds, StepsEnterWorlds}
use Rattle.isolation_laws.proofs.Steps.{OnlyCore, part_on, part_only, before, decided, into, out_of, Carrying, step_does, carried}
use Rattle.{kernel_history.specs.Trace.Trace, isolation_laws.proofs.Steps.at_decision}

-- ---- where at most a core is another

works_only : (s t : State) (c : ℕ) → OnlyCore s t c → works_in t c ≡ works_in s c
works_only s t c h =
    ap (λ n. first_of_stack (thread_in (t.frame n)).stack) h.thread
    ∙ ap (λ (g : ℕ → Frame). first_of_stack (thread_in (g (s.core c).thread)).stack) h.frame

lives_only : (s t : State) (c f : ℕ) → OnlyCore s t c → lives_at t f ≡ lives_at s f
lives_only s t c f h =
    ap (λ (g : ℕ → Frame). is_live_in (t.number (comp_in (g f)).number) (comp_in (g f)).epoch) h.frame
    ∙ ap (λ (n : ℕ → Liveness). is_live_in (n (comp_in (s.frame f)).number) (comp_in (s.frame f)).epoch) h.number

frame_only : (s t : State) (c f : ℕ) → OnlyCore s t c → t.frame f ≡ s.frame f
frame_only s t c f h = ap (λ (g : ℕ → Frame). g f) h.frame

place_only : (s t : State) (c f i : ℕ) → OnlyCore s t c → t.place f i ≡ s.place f i
place_only s t c f i h = ap (λ (g : ℕ → ℕ → Place). g f i) h.place

leaves_only : (w : ℕ → Bool) (s t : State) (c : ℕ) → OnlyCore s t c → LeavesAlone w s t c
leaves_only w s t c h = record {
  frame = λ f of not_thread not_tcap. frame_only s t c f h;
  place = λ f i of. place_only s t c f i h;
  life = λ f of. lives_only s t c f h;
  core = h.others;
}

leaves_on : (w : ℕ → Bool) (s t u v : State) (c : ℕ) → OnlyCore s t c → LeavesAlone w t u c → OnlyCore u v c → LeavesAlone w s v c
leaves_on w s t u v c a h b = record {
  frame = λ f of not_thread not_tcap.
      frame_only u v c f b ∙ h.frame f of (λ e. not_thread (e ∙ a.thread)) (λ e. not_tcap (e ∙ a.tcap)) ∙ frame_only s t c f a;
  place = λ f i of. place_only u v c f i b ∙ h.place f i of ∙ place_only s t c f i a;
  life = λ f of. lives_only u v c f b ∙ h.life f of ∙ lives_only s t c f a;
  core = λ d other. b.others d other ∙ h.core d other ∙ a.others d other;
}

-- A core is no part of a world.
no_core : (w : ℕ → Bool) (c : ℕ) (x : Part) → x ≡ CoreIs c → IsOf w x → ⊥
no_core w c x is of = subst (IsOf w) is of

sealed_into : (w : ℕ → Bool) (crosses : Kind → Bool) (o : Option Call) (s : State) (c : ℕ) → IsSealed w crosses s
    → IsSealed w crosses (state_entered o s c)
sealed_into w crosses None s c h = h
sealed_into w crosses (Some call) s c h = sealed_entered w crosses s c h

-- ---- a step

module _ (setup : Setting) (lim : IsSetting setup) (t : Trace) (e : Step) (legal : IsLegal setup (e ∷ t)) where
  abbrev first : State
  first = state_after setup t

  abbrev last : State
  last = state_after setup (e ∷ t)

  abbrev from : State
  from = before setup t e legal

  abbrev onto : State
  onto = decided setup t e legal

  works_into : works_in from e.core ≡ works_in first e.core
  works_into = works_only first from e.core (into setup t e legal)

  module _ (w : ℕ → Bool) (out : w (works_in first e.core) ≡ false) where
    out_from : w (works_in from e.core) ≡ false
    out_from = ap w works_into ∙ out

    module _ (sealed : IsSealed w gates first) where
      sealed_from : IsSealed w gates from
      sealed_from = sealed_into w gates e.enters first e.core sealed

      quiet : OnlyCore first last e.core → SparesWorld setup w t e
      quiet only = record {
        alone = leaves_only w first last e.core only;
        lent = λ x of. elim (part_only first last e.core only x) [
          | inl same ↦ inl same
          | inr core ↦ absurd (no_core w e.core x core of)
        ];
      }

      by_call : Carrying setup t e legal → SparesWorld setup w t e
      by_call k = record {
        alone = leaves_on w first from onto last e.core (into setup t e legal)
            (at_decision setup t e legal
            (λ s u. IsSealed w gates s → w (works_in s e.core) ≡ false → LeavesAlone w s u e.core) k
            (outside_leaves setup lim (entered_events t e) e.core k.call (Reply.Ok k.value) k.run w) sealed_from out_from)
            (out_of setup t e legal);
        lent = λ x of. elim (at_decision setup t e legal
            (λ s u. IsSealed w gates s → w (works_in s e.core) ≡ false → (x : Part) → IsOf w x → SamePart s u x ⊎ OwnBy k.call s e.core x) k
            (lent_alone setup lim (entered_events t e) e.core k.call (Reply.Ok k.value) k.run w) sealed_from out_from x of) [
              | inr own ↦ inr (record { done = carried setup t e legal k; own = own })
              | inl same ↦ elim (part_on first from onto last e.core (into setup t e legal) (out_of setup t e legal) x same) [
                | inl stays ↦ inl stays
                | inr core ↦ absurd (no_core w e.core x core of)
              ]
            ];
      }

    comes : w (works_in last e.core) ≡ true → ComesIn setup w t e
    comes within = elim (step_does setup t e legal) [
      | inl only ↦ absurd (false≢true (sym out ∙ ap w (sym (works_only first last e.core only)) ∙ within))
      | inr k ↦ record {
        done = carried setup t e legal k;
        by = at_decision setup t e legal
            (λ s u. w (works_in s e.core) ≡ false → w (works_in u e.core) ≡ true → EntersBy k.call w s e.core) k
            (entered_by setup lim (entered_events t e) e.core k.call (Reply.Ok k.value) k.run w) out_from
            (ap w (sym (works_only onto last e.core (out_of setup t e legal))) ∙ within);
      }
    ]

pub steps_spare_worlds : StepsSpareWorlds
steps_spare_worlds setup lim t e legal w sealed out = elim (step_does setup t e legal) [
  | inl only ↦ quiet setup lim t e legal w out sealed only
  | inr k ↦ by_call setup lim t e legal w out sealed k
]

pub steps_enter_worlds : StepsEnterWorlds
steps_enter_worlds setup lim t e legal w out within = comes setup lim t e legal w out within
