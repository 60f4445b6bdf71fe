-- The acts on two temporal capabilities: a transfer, a delegation, and a test of preemption.
use Rattle.stage_tcap.specs as low
use Rattle.std.specs.Prelude.{◌-◌, ◌+◌, ◌==◌, if◌then◌else◌, ◌∷◌}
use low.{ℕ, Bool, true, false, Option, Some, None, [], IsTrue, Capability, Reply, Ok, Value, StageEnd, Shape}
use low.declared.pair.PairAt.TheVariants.{LoadA, MarkA, ListA, LoadB, ListB, CompareB, AgainB, StoreList, StoreB, StoreA}
use Rattle.act_states.specs.{declared.refusals.Refusal.TheVariants.Raced, declared.refusals.Refusal.TheVariants.Same}
use Rattle.act_states.specs.{declared.work.Act.TheVariants.Share as share_act, declared.work.Work.TheVariants.Act, declared.work.Tail.Tail}
use Rattle.act_states.specs.{declared.work.Tail.TheVariants.Nothing, declared.work.Tail.TheVariants.Share as share_tail}
use Rattle.act_states.specs.{declared.work.WorkStep.WorkStep, declared.work.WorkStep.TheVariants.Goes}
use Rattle.act_states.specs.{declared.work.WorkStep.TheVariants.Refuses, declared.work.WorkStep.TheVariants.Answers, Refusals.refusal_of}
use low.{head, PairFits, pair_after, pair_end, declared.pair.Pair.Pair, declared.pair.PairAt.PairAt, declared.pair.PairWork.PairWork}
use low.{declared.pair.PairWork.TheVariants.Transfer, declared.pair.PairWork.TheVariants.Delegate, declared.pair.PairWork.TheVariants.Test}
use low.{List, EntryAt, word_of_head, Pairs.left_a, Pairs.amount_of}
use Rattle.act_states.specs.{WorkSteps.refuse, Keeping.Keeping, Keeping.KeepsWord}

-- the call is decided with this reply, and has still to store what stands here
abbrev pub shared : Pair → Reply → WorkStep
shared p (Ok v) = Answers v None (share_tail p)
shared p r = Refuses (refusal_of r) (share_tail p)

-- what it takes from its step, after which it stands here: it goes on, is refused with nothing to store, or is decided
abbrev pub took_shared : Pair → StageEnd Value → WorkStep
took_shared p StageEnd.Going = Goes (Act (share_act p))
took_shared p (StageEnd.Decided r) = shared p r
took_shared p (StageEnd.Done v) = refuse Raced
took_shared p (StageEnd.Refuse r) = refuse (refusal_of r)

abbrev pub took_share : Pair → ℕ → WorkStep
took_share p found = took_shared (pair_after p found) (pair_end p found)

-- whether a reply that is decided at a second load of head B carries the call out
abbrev pub is_carried : Reply → Bool
is_carried (Ok v) = true
is_carried _ = false

-- whether the next step is the one that decides `ok`
abbrev pub is_sharing : PairAt → Bool
is_sharing LoadA = false
is_sharing MarkA = false
is_sharing (ListA entry) = false
is_sharing LoadB = false
is_sharing (ListB entry) = false
is_sharing CompareB = true
is_sharing (AgainB r) = is_carried r
is_sharing (StoreList entry) = false
is_sharing StoreB = false
is_sharing (StoreA moved v) = false

-- whether it is decided, and stores what is still to be stored
abbrev pub is_storing : PairAt → Bool
is_storing LoadA = false
is_storing MarkA = false
is_storing (ListA entry) = false
is_storing LoadB = false
is_storing (ListB entry) = false
is_storing CompareB = false
is_storing (AgainB r) = false
is_storing (StoreList entry) = true
is_storing StoreB = true
is_storing (StoreA moved v) = true

-- the first head is marked till it is decided, and stands for what was found there
abbrev pub head_keeps : Pair → List Keeping
head_keeps p = KeepsWord (EntryAt p.a 0) (word_of_head (left_a false p.head_a (amount_of p.what))) ∷ []

abbrev pub share_keeps : Pair → PairAt → List Keeping
share_keeps p LoadA = []
share_keeps p MarkA = []
share_keeps p (ListA n) = head_keeps p
share_keeps p LoadB = head_keeps p
share_keeps p (ListB n) = head_keeps p
share_keeps p CompareB = head_keeps p
share_keeps p (AgainB r) = head_keeps p
share_keeps p (StoreList n) = []
share_keeps p StoreB = []
share_keeps p (StoreA moved v) = []

-- the stores after the deciding step: a delegation stores the eight words of list B and head B before head A
abbrev pub stores_of : PairWork → ℕ
stores_of (Transfer ticks) = 1
stores_of (Delegate ticks) = 10
stores_of Test = 1

-- the steps that are still to come, with those of what is then still to be stored
abbrev pub share_left : PairWork → PairAt → ℕ
share_left what LoadA = 20 + stores_of what
share_left what MarkA = 19 + stores_of what
share_left what (ListA entry) = 19 - entry + stores_of what
share_left what LoadB = 10 + stores_of what
share_left what (ListB entry) = 10 - entry + stores_of what
share_left what CompareB = 1 + stores_of what
share_left what (AgainB r) = 2
share_left what (StoreList entry) = 11 - entry
share_left what StoreB = 2
share_left what (StoreA moved v) = 1

-- what is still to be stored after a store, after which it stands here: after that of head A nothing
abbrev pub stores_more : Pair → StageEnd Value → Tail
stores_more p StageEnd.Going = share_tail p
stores_more p (StageEnd.Decided r) = Nothing
stores_more p (StageEnd.Done v) = Nothing
stores_more p (StageEnd.Refuse r) = Nothing

abbrev pub after_share : Pair → ℕ → Tail
after_share p found = stores_more (pair_after p found) (pair_end p found)

-- what is still to be stored is of the machine, and the call is decided
pub record SharedFits (s : Shape) (p : Pair) : Type 0 where
  pub fits : PairFits s p
  pub storing : IsTrue (is_storing p.at)

-- a core's call on two temporal capabilities
abbrev pub sharing : ℕ → PairWork → ℕ → ℕ → Pair
sharing core what a b = record {
  a = a;
  b = b;
  what = what;
  core = core;
  head_a = head 0 0;
  head_b = head 0 0;
  list_a = Some [];
  list_b = Some [];
  grows = false;
  at = LoadA;
}

-- it begins where its names have led to two that differ
abbrev pub shares_if : Bool → ℕ → PairWork → ℕ → ℕ → WorkStep
shares_if same core what a b = if same then refuse Same else Goes (Act (share_act (sharing core what a b)))

abbrev pub shares_at : ℕ → PairWork → Option Capability → Option Capability → WorkStep
shares_at core what (Some a) (Some b) = shares_if (a.frame == b.frame) core what a.frame b.frame
shares_at core what _ _ = refuse Raced
