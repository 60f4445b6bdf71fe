-- Moves one after another, by an order and then to the ends of the lists.
use Rattle.trace_run.specs.lone_kernel.specs.flight.proofs.{◌≡◌, inl, inr, ℕ, suc, ◌+◌, ◌++◌, List, [], ◌∷◌, arith, refl, sym, ◌∙◌, subst}
use Rattle.trace_run.specs.lone_kernel.specs.flight.proofs.{Bool, append_assoc, Call, Item, Trace, ready_after}
use Rattle.trace_run.specs.lone_kernel.specs.kernel_history.specs.{Return, FollowsItem, FollowsItems, RunsOut, FollowsCores}
use Rattle.trace_run.specs.lone_kernel.specs.{declared.lone.Moved.Moved, declared.lone.Moved.TheVariants.Idle}
use Rattle.trace_run.specs.lone_kernel.specs.{declared.lone.Moved.TheVariants.Went, Machine.Machine, Moves.MovesBy}
use Rattle.speck_run.specs.Orders.{GoesByItem, GoesByCore, RunsCoreOut}
use Rattle.{speck_run.specs.GoesByItems, speck_run.specs.RunsCoresOut, trace_run.specs.lone_kernel.specs.StandsFor}
use Rattle.{trace_run.specs.lone_kernel.specs.GoesBy, std.proofs.lemmas.List.Elements.All-nil, std.proofs.lemmas.List.Elements.All-append}

-- a move is the stretch of its item
pub takes_item : (moved : Moved) (m m' : Machine) (item : Item) → MovesBy moved item.how m m' item.core → GoesByItem m m' item
takes_item Idle m m' item stays t stands = record {
  after = t;
  stands = subst (λ x. StandsFor x t) (sym stays.same) stands;
  follows = inl (stays.idle t stands, refl);
}
takes_item Went m m' item goes t stands = let g = goes t stands in
    record { after = g.after; stands = g.stands; follows = inr (g.busy, g.is) }

pub items_none : (m : Machine) → GoesByItems m m []
items_none m t stands = record { after = t; stands = stands; follows = refl }

follows_more : (ready : Trace → ℕ → Bool) (lists : List (List Call)) (items : List Item) (item : Item) (t u v : Trace)
    → FollowsItems ready lists items t u → FollowsItem ready lists item u v → FollowsItems ready lists (items ++ item ∷ []) t v
follows_more ready lists [] item t u v is one = (v, subst (λ x. FollowsItem ready lists item x v) is one, refl)
follows_more ready lists (i ∷ items) item t u v (m, first, rest) one = (m, first, follows_more ready lists items item m u v rest one)

pub items_more : (m m' m'' : Machine) (items : List Item) (item : Item)
    → m'.setup ≡ m.setup → m'.lists ≡ m.lists → GoesByItems m m' items → GoesByItem m' m'' item
    → GoesByItems m m'' (items ++ item ∷ [])
items_more m m' m'' items item setup same goes one t stands =
    let g = goes t stands in
    let o = one g.after g.stands in
    record {
      after = o.after;
      stands = o.stands;
      follows = follows_more (ready_after m.setup) m.lists items item t g.after o.after g.follows
          (subst (λ s. FollowsItem (ready_after s) m.lists item g.after o.after) setup
          (subst (λ l. FollowsItem (ready_after m'.setup) l item g.after o.after) same o.follows));
    }

pub alone_none : (m : Machine) (c : ℕ) → GoesByCore m m c
alone_none m c t stands = record { steps = []; own = All-nil (λ e. e.core ≡ c); stands = stands }

-- one call more of core c
pub alone_more : (m m' m'' : Machine) (c : ℕ) → GoesByCore m m' c → GoesBy Return m' m'' c → GoesByCore m m'' c
alone_more m m' m'' c goes call t stands =
    let g = goes t stands in
    let s = call (g.steps ++ t) g.stands in
    let through = s.is in
    let own_steps = through.last ∷ through.steps in
    let adds = through.adds ∙ sym (append_assoc own_steps g.steps t) in
    record {
      steps = own_steps ++ g.steps;
      own = All-append (λ x. x.core ≡ c) own_steps g.steps through.own g.own;
      stands = subst (λ u. StandsFor m'' u) adds s.stands;
    }

pub cores_none : (m : Machine) → RunsCoresOut m m 0
cores_none m t stands = record { after = t; stands = stands; out = refl }

pub cores_more : (m m' m'' : Machine) (n : ℕ) → m'.lists ≡ m.lists → RunsCoresOut m m' n → RunsCoreOut m' m'' n → RunsCoresOut m m'' (n + 1)
cores_more m m' m'' n same goes one t stands =
    let g = goes t stands in
    let o = one g.after g.stands in
    let all : FollowsCores m.lists (suc n) t o.after = (g.after, g.out, subst (λ l. RunsOut l n g.after o.after) same o.out) in
    let next : suc n ≡ n + 1 = omega arith in
    record { after = o.after; stands = o.stands; out = subst (λ (k : ℕ). FollowsCores m.lists k t o.after) next all }
