-- Moves that are told, one after another, by an order and then to the ends of the lists.
use Rattle.lone_kernel.specs.flight.proofs.{◌≡◌, inl, inr, ℕ, suc, ◌+◌, ◌++◌, List, [], ◌∷◌, arith, refl, sym, ◌∙◌, ap, subst, Bool}
use Rattle.lone_kernel.specs.flight.proofs.{append_assoc, Call, Item, Trace, IsIdle, ready_after, Setting}
use Rattle.lone_kernel.specs.step_views.specs.kernel_history.specs.{Return, FollowsItem, FollowsItems, RunsOut, FollowsCores}
use Rattle.told_run.specs.{GoesByItems, RunsCoresOut}
use Rattle.std.proofs.lemmas.List.Elements.{All-nil, All-append}
use Rattle.lone_kernel.specs.{declared.lone.Moved.Moved, declared.lone.Moved.TheVariants.Idle, declared.lone.Moved.TheVariants.Went}
use Rattle.told_run.specs.Watching.{Watching, Watches, GoesOnBy, IsStretch, IsToldMove, StaysWatched, GoesByItem, GoesByCore, RunsCoreOut}

-- a move is the stretch of its item
pub takes_item : {W : Type 0} (Seen : Setting → W → Trace → W → Type 0) (moved : Moved) (s s' : Watching W) (item : Item)
    → IsToldMove Seen moved item.how s s' item.core → GoesByItem Seen s s' item
takes_item {W} Seen Idle s s' item stays first t watches = record {
  after = t;
  watches = subst (λ x. Watches W Seen first x t) (sym stays.same) watches;
  is = inl (stays.idle t watches.stands, refl);
}
takes_item Seen Went s s' item goes first t watches =
    let g = goes first t watches in
    record { after = g.after; watches = g.watches; is = inr (g.is.busy, g.is.stretch) }

pub items_none : {W : Type 0} (Seen : Setting → W → Trace → W → Type 0) (s : Watching W) → GoesByItems Seen s s []
items_none Seen s first t watches = record { after = t; watches = watches; is = refl }

follows_more : (ready : Trace → ℕ → Bool) (lists : List (List Call)) (items : List Item) (item : Item) (t u v : Trace)
    → FollowsItems ready lists items t u → FollowsItem ready lists item u v → FollowsItems ready lists (items ++ item ∷ []) t v
follows_more ready lists [] item t u v is one = (v, subst (λ x. FollowsItem ready lists item x v) is one, refl)
follows_more ready lists (i ∷ items) item t u v (m, first, rest) one = (m, first, follows_more ready lists items item m u v rest one)

pub items_more : {W : Type 0} (Seen : Setting → W → Trace → W → Type 0) (s s' s'' : Watching W) (items : List Item) (item : Item)
    → s'.machine.setup ≡ s.machine.setup → s'.machine.lists ≡ s.machine.lists → GoesByItems Seen s s' items → GoesByItem Seen s' s'' item
    → GoesByItems Seen s s'' (items ++ item ∷ [])
items_more Seen s s' s'' items item setup same goes one first t watches =
    let g = goes first t watches in
    let o = one first g.after g.watches in
    record {
      after = o.after;
      watches = o.watches;
      is = follows_more (ready_after s.machine.setup) s.machine.lists items item t g.after o.after g.is
          (subst (λ x. FollowsItem (ready_after x) s.machine.lists item g.after o.after) setup
          (subst (λ l. FollowsItem (ready_after s'.machine.setup) l item g.after o.after) same o.is));
    }

pub alone_none : {W : Type 0} (Seen : Setting → W → Trace → W → Type 0) (s : Watching W) (c : ℕ) → GoesByCore Seen s s c
alone_none Seen s c first t watches = record {
  after = t;
  watches = watches;
  is = record { steps = []; own = All-nil (λ e. e.core ≡ c); adds = refl };
}

-- one call more of core c
pub alone_more : {W : Type 0} (Seen : Setting → W → Trace → W → Type 0) (s s' s'' : Watching W) (c : ℕ)
    → GoesByCore Seen s s' c → GoesOnBy Seen s' s'' (IsStretch s'.machine Return c) → GoesByCore Seen s s'' c
alone_more Seen s s' s'' c goes call first t watches =
    let g = goes first t watches in
    let x = call first g.after g.watches in
    let through = x.is.stretch in
    let own_steps = through.last ∷ through.steps in
    record {
      after = x.after;
      watches = x.watches;
      is = record {
        steps = own_steps ++ g.is.steps;
        own = All-append (λ x. x.core ≡ c) own_steps g.is.steps through.own g.is.own;
        adds = through.adds ∙ ap (λ u. own_steps ++ u) g.is.adds ∙ sym (append_assoc own_steps g.is.steps t);
      };
    }

pub cores_none : {W : Type 0} (Seen : Setting → W → Trace → W → Type 0) (s : Watching W) → RunsCoresOut Seen s s 0
cores_none Seen s first t watches = record { after = t; watches = watches; is = refl }

pub cores_more : {W : Type 0} (Seen : Setting → W → Trace → W → Type 0) (s s' s'' : Watching W) (n : ℕ)
    → s'.machine.lists ≡ s.machine.lists → RunsCoresOut Seen s s' n → RunsCoreOut Seen s' s'' n
    → RunsCoresOut Seen s s'' (n + 1)
cores_more Seen s s' s'' n same goes one first t watches =
    let g = goes first t watches in
    let o = one first g.after g.watches in
    let all : FollowsCores s.machine.lists (suc n) t o.after = (g.after, g.is, subst (λ l. RunsOut l n g.after o.after) same o.is) in
    let next : suc n ≡ n + 1 = omega arith in
    record { after = o.after; watches = o.watches; is = subst (λ (k : ℕ). FollowsCores s.machine.lists k t o.after) next all }

-- at the end of its list
pub runs_out : {W : Type 0} (Seen : Setting → W → Trace → W → Type 0) (s s' s'' : Watching W) (c : ℕ)
    → s'.machine.lists ≡ s.machine.lists → GoesByCore Seen s s' c → StaysWatched W s' s'' c
    → RunsCoreOut Seen s s'' c
runs_out {W} Seen s s' s'' c same goes stays first t watches =
    let g = goes first t watches in
    record {
      after = g.after;
      watches = subst (λ x. Watches W Seen first x g.after) (sym stays.same) g.watches;
      is = record {
        steps = g.is.steps;
        adds = g.is.adds;
        own = g.is.own;
        idle = subst (λ l. IsIdle l g.after c) same (stays.idle g.after g.watches.stands);
      };
    }
