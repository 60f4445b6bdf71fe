-- What a call knows that gives ticks back to a temporal capability, where it stands.
use Rattle.std.specs.Prelude.{◌≡◌, ◌≤◌, ◌∷◌}
use Rattle.act_fits.specs.act_states.specs.{ℕ, zero, suc, Bool, true, false, List, [], Setting, Capability, covers, Call}
use Rattle.act_fits.specs.act_states.specs.{State, left_among, in_order, Refill, RefillAt, Again}
use Rattle.kernel_history.specs.spk_nums.specs.declared.kinds.Kind.TheVariants.{Tcap as tcap_kind}
use Rattle.kernel_history.specs.Trace.{Trace, state_after}
use Rattle.act_fits.specs.stage_tcap.specs.declared.refill.RefillAt.TheVariants.{Load, List as at_list, Compare}
use Rattle.core_invariant.specs.Shares.{HasTcap, ReadsHead, HasSeenB, IsUnread}

-- The head was read, which no core had marked, and so many words of the list.
pub record HasReadList (setup : Setting) (t : Trace) (c : ℕ) (r : Refill) (n : ℕ) : Type 0 where
  pub head : ReadsHead t c r.tcap r.head
  pub seen : HasSeenB setup t r.tcap r.head.version r.list n

-- The list is read: it covers the grant of the core, which has the ticks left, or it does not.
pub record HasWeighed (setup : Setting) (t : Trace) (c : ℕ) (r : Refill) (covered : Bool) : Type 0 where
  pub read : HasReadList setup t c r 8
  pub is : covers (in_order r.list) r.grant ≡ covered
  pub enough : covered ≡ true → r.ticks ≤ r.left

-- What it knows where it stands there.
abbrev pub KnowsRefillAt : Setting → Trace → ℕ → Refill → RefillAt → Type 0
KnowsRefillAt setup t c r Load = IsUnread r.list
KnowsRefillAt setup t c r (at_list zero) = ⊥
KnowsRefillAt setup t c r (at_list (suc n)) = HasReadList setup t c r n
KnowsRefillAt setup t c r Compare = HasWeighed setup t c r true
KnowsRefillAt setup t c r Again = HasWeighed setup t c r false

-- It is of the temporal capability to which its name has led, and of its core's numbers.
pub record IsRefill (s : State) (c m : ℕ) (k : Capability) (r : Refill) : Type 0 where
  pub tcap : r.tcap ≡ k.frame
  pub kind : k.kind ≡ tcap_kind
  pub ticks : r.ticks ≡ m
  pub left : r.left ≡ left_among (s.core c).spent (s.core c).back
  pub grant : r.grant ≡ (s.core c).grant

abbrev pub RefillsBy : State → ℕ → Call → List Capability → Refill → Type 0
RefillsBy s c (Call.Replenish a m) (k ∷ []) r = IsRefill s c m k r
RefillsBy s c call ks r = ⊥

pub record KnowsRefill (setup : Setting) (t : Trace) (c : ℕ) (call : Call) (ks : List Capability) (r : Refill) : Type 0 where
  pub refills : RefillsBy (state_after setup t) c call ks r
  pub tcap : HasTcap (state_after setup t) c r.tcap
  pub at : KnowsRefillAt setup t c r r.at
