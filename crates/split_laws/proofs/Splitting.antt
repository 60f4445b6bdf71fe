-- What is split stays split.
use Rattle.same_changes.specs.kernel_laws.proofs.{◌≡◌, inl, inr, ℕ, Bool, refl, sym, ◌∙◌, ap, subst, [], ◌∷◌, ◌++◌, Some, Capability, Call}
use Rattle.same_changes.specs.kernel_laws.proofs.{Tick, Value, Reply, Comp, Thread, Frame, Kernel, Limits, State, usable, entered, returned}
use Rattle.same_changes.specs.kernel_laws.proofs.{Change, Judged, Refused, Found, IsFoundAnd, rule_of, change_of, changed, counted, owed_by}
use Rattle.same_changes.specs.kernel_laws.proofs.{state_by, MayReply, Enters, Decides, Returns, after, is_open, IfFound, outcome_from}
use Rattle.same_changes.specs.kernel_laws.proofs.{IsOpen, opened, open_is, IsFitted, runs_fit}
use Rattle.split_laws.specs.{World, IsSplit, side, MakesOwn}
use Rattle.split_laws.proofs.Working.{WorksOn, works_on, node_on, put_on}
use Rattle.split_laws.proofs.Sides.{FrameOn, Sides, core_same, Next, rule_sides}
use Rattle.{world_laws.specs.kernel_rules.proofs.AloneLaw.decided_stays, world_laws.specs.Worlds.LeadsTo}
use Rattle.{world_laws.proofs.Puts.usable_from, world_laws.proofs.Links.returned_uses, split_laws.specs.Split.SplitForGood}

-- What each place has leads to its side.
abbrev Places : World → State → Type 0
Places w s = (f i d g : ℕ) (k : Capability) → usable s d (record { node = f; index = i }) ≡ Some k → LeadsTo k.kind k g
    → w.frame g ≡ w.frame f

-- A state is split where its places, its frames and its cores are on their sides.
pub sides_of : (w : World) (s : State) → IsSplit w s → Sides w s.frame s.core s.limits.cores
sides_of w s h = record {
  frames = λ f. by_frame f (s.frame f) refl;
  cores = λ c below. record { tcap = h.cores c below; cached = h.cached c below };
}
  where
    by_frame : (f : ℕ) (x : Frame) → s.frame f ≡ x → FrameOn w f x
    by_frame f (Kernel (Comp k)) is = h.comps f k is
    by_frame f (Kernel (Thread t)) is = h.stacks f t is
    by_frame f _ is = tt

split_from : (w : World) (s : State) → Places w s → Sides w s.frame s.core s.limits.cores → IsSplit w s
split_from w s places h = record {
  places = places;
  comps = λ f k e. subst (FrameOn w f) e (h.frames f);
  stacks = λ f t e. subst (FrameOn w f) e (h.frames f);
  cores = λ c below. (h.cores c below).tcap;
  cached = λ c below. (h.cores c below).cached;
}

pub split_entered : (w : World) (s : State) (c : ℕ) → IsSplit w s → IsSplit w (entered s c)
split_entered w s c h = split_from w (entered s c) h.places (core_same w s.frame s.core s.limits.cores (sides_of w s h) c _ refl refl refl)

pub split_returned : (w : World) (s : State) (c : ℕ) → IsSplit w s → IsSplit w (returned s c)
split_returned w s c h = split_from w (returned s c)
    (λ f i d g k e leads. h.places f i d g k (returned_uses s c d (record { node = f; index = i }) k e) leads)
    (core_same w s.frame s.core s.limits.cores (sides_of w s h) c _ refl refl refl)

-- A decision, of a core on either side.
module _ (w : World) (s : State) (c : ℕ) (o : ℕ → Bool) (open_call : IsOpen s o c) (fitted : IsFitted s o) (split : IsSplit w s)
    (call : Call) (r : Reply) (may : MayReply s c call r) (own : MakesOwn w (side w s c) call) where
  abbrev b : Bool
  b = side w s c

  on : WorksOn w s c b
  on = works_on w s c o open_call split

  -- the frames and the cores of a state are on their sides
  abbrev On : State → Type 0
  On t = Sides w t.frame t.core s.limits.cores

  sided : On s
  sided = sides_of w s split

  counted_on : (t : State) → On t → On (counted t c)
  counted_on t h = core_same w t.frame t.core s.limits.cores h c _ refl refl refl

  owed_on : (made : Call) → On (owed_by s c made)
  owed_on (Tick n) = core_same w s.frame s.core s.limits.cores sided c _ refl refl refl
  owed_on _ = sided

  changed_on : (v : Value) (x : Judged Change) → IfFound x (Next w s) → IsFoundAnd x (λ k. k.value ≡ v)
      → On (changed s x)
  changed_on v (Refused q) next ok = absurd ok
  changed_on v (Found change) next ok = next

  by_reply : (q : Reply) → MayReply s c call q → On (state_by s c call q)
  by_reply (Reply.Ok v) m = counted_on (changed s (change_of s c call)) (changed_on v (change_of s c call)
      (outcome_from (Next w s) s c (rule_of s c call)
      (rule_sides w s c o open_call fitted b on sided call own)) m.1.1)
  by_reply Reply.CallsSpent m = sided
  by_reply Reply.Raced m = counted_on (owed_by s c call) (owed_on call)
  by_reply (Reply.Busy d) m = counted_on (owed_by s c call) (owed_on call)
  by_reply _ m = counted_on s sided

  abbrev t : State
  t = state_by s c call r

  places : Places w t
  places f i d g k e leads = elim (usable_from s c o open_call call r may f i d k e) [
    | inl was ↦ split.places f i d g k was leads
    | inr new ↦ put_on w s c b on f k new g leads ∙ sym (node_on w s c b on f new.0)
  ]

  pub split_decided : IsSplit w t
  split_decided = split_from w t places
      (subst (λ (l : Limits). Sides w t.frame t.core l.cores) (sym (decided_stays s c call r).limits) (by_reply r may))

pub split_for_good : SplitForGood
split_for_good setting lim before [] run w split own = split
split_for_good setting lim before (Enters c call ∷ later) run w split own =
    split_entered w (after setting (later ++ before)) c (split_for_good setting lim before later run.0 w split own)
split_for_good setting lim before (Returns c ∷ later) run w split own =
    split_returned w (after setting (later ++ before)) c (split_for_good setting lim before later run.0 w split own)
split_for_good setting lim before (Decides c call r ∷ later) run w split own =
    split_decided w (after setting (later ++ before)) c (opened (later ++ before))
    (open_is setting lim (later ++ before) c run.0 (ap is_open run.1.is_open)) (runs_fit setting lim (later ++ before) run.0)
    (split_for_good setting lim before later run.0 w split own.0) call r run.1.permitted own.1
