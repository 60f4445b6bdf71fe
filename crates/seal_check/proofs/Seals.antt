-- What is sealed within the numbers of a machine is sealed, in every state that a run reaches and a kernel represents.
use Rattle.world_laws.specs.kernel_laws.proofs.{◌≡◌, inl, inr, ℕ, ◌<◌, ◌≤◌, Bool, true, false, not, ◌&&◌, refl, sym, ◌∙◌, ap, subst, arith}
use Rattle.world_laws.specs.kernel_laws.proofs.{List, Option, Some, None, false≢true, Setting, IsSetting, Capability, CompFields, Comp}
use Rattle.world_laws.specs.kernel_laws.proofs.{Frame, Untyped, Kernel, PlaceOf, Limits, State, usable, usable_in, Event, after, IsRun}
use Rattle.seal_check.specs.Sealing.{Tells, is_in, has_none, IsSealedHere, TellsSeal}
use Rattle.{world_laws.specs.kernel_laws.proofs.limits_stay, world_laws.specs.kernel_laws.proofs.runs_sound}
use Rattle.{std.proofs.lemmas.Bool.and_parts, std.proofs.lemmas.Bool.cases_lt, world_laws.specs.gates, world_laws.specs.IsSealed}
use Rattle.{seq_lookups.specs.seq_state.specs.state_of, seq_lookups.specs.seq_state.specs.Represents}
use Rattle.{seq_lookups.specs.seq_state.specs.Maps.Maps, seal_check.proofs.Reached.UsedWithin}
use Rattle.{seal_check.proofs.Reached.used_within}

not_true : (b : Bool) → not b ≡ true → b ≡ false
not_true true e = absurd (false≢true e)
not_true false e = refl

untyped_comp : (k : CompFields) → Untyped ≡ Kernel (Comp k) → ⊥
untyped_comp k e = cc

none_from : (w : ℕ → Bool) (x : Frame)
    → ((k : CompFields) → x ≡ Kernel (Comp k) → (w k.table ≡ false) × (w k.pages ≡ false)) → has_none w x ≡ true
none_from w (Kernel (Comp k)) h =
    let p : (w k.table ≡ false) × (w k.pages ≡ false) = h k refl in
    ap (λ b. not b && not (w k.pages)) p.0 ∙ ap not p.1
none_from w _ h = refl

none_to : (w : ℕ → Bool) (x : Frame) (k : CompFields) → x ≡ Kernel (Comp k) → has_none w x ≡ true
    → (w k.table ≡ false) × (w k.pages ≡ false)
none_to w x k is e =
    let p : (not (w k.table) ≡ true) × (not (w k.pages) ≡ true) =
    and_parts (not (w k.table)) (not (w k.pages)) (sym (ap (has_none w) is) ∙ e) in
    (not_true (w k.table) p.0, not_true (w k.pages) p.1)

module _ (setting : Setting) (lim : IsSetting setting) (events : List Event) (run : IsRun setting events) (m : Maps)
    (rep : Represents m (after setting events)) (w : ℕ → Bool) where
  abbrev s : State
  s = after setting events

  abbrev t : State
  t = state_of m

  frame_here : (f : ℕ) → f < setting.frames → f < s.limits.frames
  frame_here f = subst (λ (l : Limits). f < l.frames) (sym (limits_stay setting events))

  core_here : (d : ℕ) → d < setting.cores → d < s.limits.cores
  core_here d = subst (λ (l : Limits). d < l.cores) (sym (limits_stay setting events))

  same_use : (f i d : ℕ) → f < s.limits.frames → i < 64 → d < s.limits.cores
      → usable t d (record { node = f; index = i }) ≡ usable s d (record { node = f; index = i })
  same_use f i d below small core =
      ap (λ p. usable_in p ((t.grace (PlaceOf f i)).waits d)) (rep.place f i below small)
      ∙ ap (usable_in (s.place f i)) ((rep.grace (PlaceOf f i) (below, small)).waits d core)

  sealed_from : IsSealedHere t w → IsSealed w gates s
  sealed_from h = record {
    places = λ f i d k out e.
        let u : UsedWithin setting s f i k = used_within setting lim events run f i d k e in
        (h f (subst (λ (l : Limits). f < l.frames) (sym rep.limits) (frame_here f u.frame)) out).places i u.index u.core k
        (subst (λ (l : Limits). u.core < l.cores) (sym rep.limits) (core_here u.core u.is_core))
        (same_use f i u.core (frame_here f u.frame) u.index (core_here u.core u.is_core) ∙ u.used);
    comps = λ f k out is. elim (cases_lt f s.limits.frames) [
      | inl below ↦ none_to w (t.frame f) k (rep.frame f below ∙ is)
          (h f (subst (λ (l : Limits). f < l.frames) (sym rep.limits) below) out).fields
      | inr past ↦ absurd (untyped_comp k (sym ((runs_sound setting lim events run).beyond f past) ∙ is))
    ];
  }

  sealed_to : IsSealed w gates s → IsSealedHere t w
  sealed_to h f below out =
      let here : f < s.limits.frames = subst (λ (l : Limits). f < l.frames) rep.limits below in
      record {
        fields = none_from w (t.frame f) (λ k is. h.comps f k out (sym (rep.frame f here) ∙ is));
        places = λ i small d k core e.
            h.places f i d k out (sym (same_use f i d here small (subst (λ (l : Limits). d < l.cores) rep.limits core)) ∙ e);
      }

  pub seal_here : (b : Bool) → Tells b (IsSealedHere t w) → Tells b (IsSealed w gates s)
  seal_here b tells = record {
    yes = λ e. sealed_from (tells.yes e);
    no = λ e h. tells.no e (sealed_to h);
  }

pub tells_seal : (m : Maps) (world : List Bool) (b : Bool) → Tells b (IsSealedHere (state_of m) (is_in world)) → TellsSeal m world b
tells_seal m world b tells setting lim events run rep = seal_here setting lim events run m rep (is_in world) b tells
