-- The ranges of a state's numbers, which every state that a run reaches keeps (`kernel_laws`), in a form that code can ask for.
use Rattle.std.specs.Prelude.{◌≢◌, ℕ, ◌+◌, ◌*◌, ◌<◌, ◌≤◌, ◌^◌, length}
use Rattle.spk_nums.specs.Qualities.{IsQualityList}
use Rattle.kernel_rules.specs.State.{CompFields, ThreadFields, TcapFields, Comp, Thread, Tcap, Frame, Kernel, Liveness, Unused, Live, Dead}
use Rattle.kernel_rules.specs.State.{Core, State, tcap_in, outstanding}

-- An epoch is from 1 to the limit.
pub record EpochInRange (epochs e : ℕ) : Type 0 where
  pub least : 1 ≤ e
  pub most : e ≤ epochs

-- A component has a liveness number below 64, and was made in an epoch within the limit.
pub record CompInRange (epochs : ℕ) (k : CompFields) : Type 0 where
  pub number : k.number < 64
  pub epoch : EpochInRange epochs k.epoch

-- A thread is in 1 to 16 components.
pub record ThreadInRange (t : ThreadFields) : Type 0 where
  pub least : 1 ≤ length t.stack
  pub most : length t.stack ≤ 16

-- A temporal capability has 1 to 8 pairs, each in range, with ascending schedulers; its budget is below 2^32.
pub record TcapInRange (q : TcapFields) : Type 0 where
  pub least : 1 ≤ length q.qualities
  pub most : length q.qualities ≤ 8
  pub pairs : IsQualityList q.qualities
  pub budget : q.budget < 2 ^ 32

-- What a frame has is in range.
abbrev pub FrameInRange : ℕ → Frame → Type 0
FrameInRange epochs (Kernel (Comp k)) = CompInRange epochs k
FrameInRange epochs (Kernel (Thread t)) = ThreadInRange t
FrameInRange epochs (Kernel (Tcap q)) = TcapInRange q
FrameInRange epochs _ = Unit {0}

-- A liveness number's last epoch is within the limit, if it was ever used.
abbrev pub NumberInRange : ℕ → Liveness → Type 0
NumberInRange epochs Unused = Unit {0}
NumberInRange epochs (Live e f) = EpochInRange epochs e
NumberInRange epochs (Dead e) = EpochInRange epochs e

-- A core has counted no more calls than its limit, has spent and owes at most 1,000,000 ticks for each of them, has had back no more than
-- it has spent, and has cached at most 64 translations.
pub record CoreInRange (calls : ℕ) (k : Core) : Type 0 where
  pub counted : k.counted ≤ calls
  pub charged : k.spent + k.owed ≤ 1000000 * k.counted
  pub back : k.back ≤ k.spent
  pub cached : length k.cached ≤ 64

-- The budget of the temporal capability in a frame; 0 where it has none.
abbrev pub budget_at : State → ℕ → ℕ
budget_at s f = (tcap_in (s.frame f)).budget

-- The numbers of a state are in range. The budgets of two frames also sum to less than 2^32, and so do a frame's budget and what
-- a core has spent and has not had back.
pub record InRanges (s : State) : Type 0 where
  pub frames : (f : ℕ) → FrameInRange s.limits.epochs (s.frame f)
  pub numbers : (l : ℕ) → NumberInRange s.limits.epochs (s.number l)
  pub cores : (c : ℕ) → c < s.limits.cores → CoreInRange s.limits.calls (s.core c)
  pub budgets : (f g : ℕ) → f ≢ g → budget_at s f + budget_at s g < 2 ^ 32
  pub spending : (f c : ℕ) → c < s.limits.cores → budget_at s f + outstanding (s.core c) < 2 ^ 32
