-- No act keeps a word without a mark, and so no call that is not decided.
use Rattle.core_invariant.specs.{◌≡◌, ℕ, None, refl, Call, Open, Work, Acquire, Act as act_work, ActiveCall, Stage}
use Rattle.core_invariant.specs.{Living, Undecided, phase_at, holds_work, holds_at}
use Rattle.std.proofs.Common.{◌∙◌}
use Rattle.core_invariant.specs.Holding.{Holding}
use Rattle.core_invariant.proofs.{Bare.counts_bare, Keepings.act_bare}

work_bare : (work : Work) (h : Holding) (f i : ℕ) → (holds_work work h).bare f i ≡ h.bare f i
work_bare (Acquire pin change act) h f i = act_bare act h f i
work_bare (act_work act) h f i = act_bare act h f i
work_bare _ h f i = refl

pub open_bare : (a : ActiveCall) (call : Call) → phase_at a.call a.stage ≡ Open call → (f i : ℕ)
    → (holds_at a.stage a.counts).bare f i ≡ None
open_bare a call opens f i = by a.stage opens
  where
    by : (stage : Stage) → phase_at a.call stage ≡ Open call → (holds_at stage a.counts).bare f i ≡ None
    by (Living alive) is = counts_bare None a.counts f i
    by (Undecided work) is = work_bare work _ f i ∙ counts_bare None a.counts f i
    by _ is = absurd (cc)
