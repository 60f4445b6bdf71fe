-- Traces that have the calls of lists, and that follow an order.
use Rattle.std.specs.Prelude.{◌≡◌, ◌⊎◌, ◌∷◌, ◌++◌}
use Rattle.kernel_rules.specs.{ℕ, zero, suc, Bool, List, [], length, All, get_or as slice_index_or, Option, None}
use Rattle.kernel_rules.specs.{IsSome, IsTrue, IsFalse, Call, Reply, Item, How, One, Ready, Decide, Return}
use Rattle.kernel_history.specs.Trace.{Step, Trace, Phase, Out, Open, Decided, phase, calls_of}

-- The list of a core's calls.
abbrev pub list_of : List (List Call) → ℕ → List Call
list_of lists c = slice_index_or lists c []

-- The core is between calls and its list is finished.
pub record IsIdle (lists : List (List Call)) (t : Trace) (c : ℕ) : Type 0 where
  pub out : phase t c ≡ Out
  pub finished : calls_of t c ≡ list_of lists c

-- Each core has entered the calls of its list, once and in order, and the last has returned.
abbrev pub HasCalls : List (List Call) → Trace → Type 0
HasCalls lists t = (c : ℕ) → IsIdle lists t c

-- The core's call is decided.
abbrev pub IsDecided : Phase → Type 0
IsDecided Out = ⊥
IsDecided (Open call) = ⊥
IsDecided (Decided call r) = Unit {0}

-- All the steps are of core c.
abbrev pub AreOf : ℕ → Trace → Type 0
AreOf c s = All (λ e. e.core ≡ c) s

-- None of the steps has this event.
abbrev pub HaveNone : (Step → Option Reply) → Trace → Type 0
HaveNone event s = All (λ e. event e ≡ None) s

-- From t to u: one step of core c.
pub record MakesOne (c : ℕ) (t u : Trace) : Type 0 where
  pub step : Step
  pub adds : u ≡ step ∷ t
  pub own : step.core ≡ c

-- From t to u: steps of core c, up to the first with this event.
pub record GoesThrough (event : Step → Option Reply) (c : ℕ) (t u : Trace) : Type 0 where
  pub steps : Trace
  pub last : Step
  pub adds : u ≡ last ∷ (steps ++ t)
  pub own : AreOf c (last ∷ steps)
  pub before : HaveNone event steps
  pub ends : IsSome (event last)

-- Core c is not ready after any of these steps, which follow t.
abbrev pub StaysUnready : (Trace → ℕ → Bool) → ℕ → Trace → Trace → Type 0
StaysUnready ready c t [] = Unit {0}
StaysUnready ready c t (e ∷ s) = StaysUnready ready c t s × IsFalse (ready (e ∷ (s ++ t)) c)

-- From t to u: steps of core c, up to the first after which it is ready.
pub record GoesUntilReady (ready : Trace → ℕ → Bool) (c : ℕ) (t u : Trace) : Type 0 where
  pub steps : Trace
  pub last : Step
  pub adds : u ≡ last ∷ (steps ++ t)
  pub own : AreOf c (last ∷ steps)
  pub before : StaysUnready ready c t steps
  pub ends : IsTrue (ready u c)

-- From t to u: nothing where the call of core c is decided, else what is said.
abbrev pub UnlessDecided : ℕ → Trace → Trace → Type 0 → Type 0
UnlessDecided c t u Else = (IsDecided (phase t c) × (u ≡ t)) ⊎ ((IsDecided (phase t c) → ⊥) × Else)

-- From t to u: nothing where core c is ready, else what is said.
abbrev pub UnlessReady : (Trace → ℕ → Bool) → ℕ → Trace → Trace → Type 0 → Type 0
UnlessReady ready c t u Else = (IsTrue (ready t c) × (u ≡ t)) ⊎ (IsFalse (ready t c) × Else)

-- From t to u by an item, of a core that is not idle: one step; until its call is ready; until its call has decided; until its
-- call has returned. A core that is between calls begins its next one.
abbrev pub Stretch : (Trace → ℕ → Bool) → How → ℕ → Trace → Trace → Type 0
Stretch ready One c t u = MakesOne c t u
Stretch ready Ready c t u = UnlessReady ready c t u (GoesUntilReady ready c t u)
Stretch ready Decide c t u = UnlessDecided c t u (GoesThrough (λ e. e.decides) c t u)
Stretch ready Return c t u = GoesThrough (λ e. e.returns) c t u

-- From t to u by an item: nothing where the core is idle, else the item's stretch.
abbrev pub FollowsItem : (Trace → ℕ → Bool) → List (List Call) → Item → Trace → Trace → Type 0
FollowsItem ready lists item t u = (IsIdle lists t item.core × (u ≡ t))
    ⊎ ((IsIdle lists t item.core → ⊥) × Stretch ready item.how item.core t u)

-- From t to u by the items, one after another.
abbrev pub FollowsItems : (Trace → ℕ → Bool) → List (List Call) → List Item → Trace → Trace → Type 0
FollowsItems ready lists [] t u = u ≡ t
FollowsItems ready lists (item ∷ items) t u = (m : Trace) × FollowsItem ready lists item t m × FollowsItems ready lists items m u

-- From t to u: steps of core c, to the end of its list.
pub record RunsOut (lists : List (List Call)) (c : ℕ) (t u : Trace) : Type 0 where
  pub steps : Trace
  pub adds : u ≡ steps ++ t
  pub own : AreOf c steps
  pub idle : IsIdle lists u c

-- From t to u: core 0, then core 1 and so on, n in all, each to the end of its list.
abbrev pub FollowsCores : List (List Call) → ℕ → Trace → Trace → Type 0
FollowsCores lists zero t u = u ≡ t
FollowsCores lists (suc n) t u = (m : Trace) × FollowsCores lists n t m × RunsOut lists n m u

-- The trace goes by the items of the order, and then each core to the end of its list. `ready` says of each trace which cores
-- are ready after it: their next step is the one at which their call's `ok` is decided, or the call has decided.
pub record Follows (ready : Trace → ℕ → Bool) (lists : List (List Call)) (items : List Item) (w : Trace) : Type 0 where
  pub ordered : Trace
  pub by_items : FollowsItems ready lists items [] ordered
  pub by_cores : FollowsCores lists (length lists) ordered w
