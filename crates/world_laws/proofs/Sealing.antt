-- A sealed world stays sealed through each event but a decision of a core that works inside.
use Rattle.authority_laws.specs.kernel_laws.proofs.{◌≡◌, inl, inr, ℕ, Bool, true, false, refl, sym, ◌∙◌, false≢true, Kind, Call, Tick}
use Rattle.authority_laws.specs.kernel_laws.proofs.{Reply, State, entered, returned, counted, owed_by, state_by, MayReply, after, IsOpen}
use Rattle.world_laws.specs.{Worlds.IsSealed, Laws.SealsStay}
use Rattle.world_laws.proofs.{Puts.decided_put, Puts.usable_from, Links.returned_uses, Outside.WorksOutside, Outside.sealed_for_gates}
use Rattle.world_laws.proofs.{Outside.range_out, Outside.node_out, Outside.led_frame, Outside.put_none, Leaving.opened_call}
use Rattle.{authority_laws.specs.kernel_laws.proofs.opened, world_laws.proofs.Leaving.outside}

pub sealed_entered : (w : ℕ → Bool) (crosses : Kind → Bool) (s : State) (c : ℕ) → IsSealed w crosses s → IsSealed w crosses (entered s c)
sealed_entered w crosses s c h = record { places = h.places; comps = h.comps }

pub sealed_returned : (w : ℕ → Bool) (crosses : Kind → Bool) (s : State) (c : ℕ) → IsSealed w crosses s
    → IsSealed w crosses (returned s c)
sealed_returned w crosses s c h = record {
  places = λ f i d k out e. h.places f i d k out (returned_uses s c d (record { node = f; index = i }) k e);
  comps = h.comps;
}

-- a refusal
pub sealed_counted : (w : ℕ → Bool) (crosses : Kind → Bool) (s : State) (c : ℕ) → IsSealed w crosses s → IsSealed w crosses (counted s c)
sealed_counted w crosses s c h = record { places = h.places; comps = h.comps }

pub sealed_owed : (w : ℕ → Bool) (crosses : Kind → Bool) (s : State) (c : ℕ) (call : Call) → IsSealed w crosses s
    → IsSealed w crosses (owed_by s c call)
sealed_owed w crosses s c (Tick n) h = record { places = h.places; comps = h.comps }
sealed_owed w crosses s c _ h = h

module _ (w : ℕ → Bool) (s : State) (c : ℕ) (o : ℕ → Bool) (h : IsOpen s o c) (out : WorksOutside w s c) (call : Call) (r : Reply)
    (may : MayReply s c call r) where
  abbrev t : State
  t = state_by s c call r

  -- a decision of a core that works outside
  pub sealed_outside : (crosses : Kind → Bool) → IsSealed w crosses s → IsSealed w crosses t
  sealed_outside crosses sealed = record {
    places = λ f i d k away e. elim (usable_from s c o h call r may f i d k e) [
      | inl was ↦ sealed.places f i d k away was
      | inr new ↦ put_none w s c out crosses sealed f k new
    ];
    comps = λ f k away e. elim ((decided_put s c o h call r may).comp f k e) [
      | inl was ↦ sealed.comps f k away was
      | inr made ↦ (
        led_frame w s c out Kind.Table k.table refl refl made.1.table,
        led_frame w s c out Kind.Pages k.pages refl refl made.1.pages,
      )
    ];
  }

  -- and what the world holds of the rest stays
  pub sealed_inside : (u : ℕ → Bool) (crosses : Kind → Bool) → ((f : ℕ) → u f ≡ false → w f ≡ true) → IsSealed u crosses s
      → IsSealed u crosses t
  sealed_inside u crosses rest sealed = record {
    places = λ f i d k away e. elim (usable_from s c o h call r may f i d k e) [
      | inl was ↦ sealed.places f i d k away was
      | inr new ↦ absurd (false≢true (sym (node_out w s c out f new.0) ∙ rest f away))
    ];
    comps = λ f k away e. elim ((decided_put s c o h call r may).comp f k e) [
      | inl was ↦ sealed.comps f k away was
      | inr made ↦ absurd (false≢true (sym (range_out w s c out f made.0) ∙ rest f away))
    ];
  }

pub seals_stay : SealsStay
seals_stay setting lim events c call r run w crosses only sealed out =
    let narrow = sealed_for_gates w crosses (after setting events) only sealed in
    sealed_outside w (after setting events) c (opened events) (opened_call setting lim events c call r run w narrow out)
    (outside setting lim events c call r run w narrow out) call r run.1.permitted crosses sealed
