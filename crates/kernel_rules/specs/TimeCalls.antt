-- The calls of time: charging ticks, moving budgets, testing preemption, and giving back what was spent.
use Rattle.std.specs.Prelude.{ℕ, ◌+◌, Bool, true, false, not, ◌&&◌, ◌==◌, nat_lt, min, if◌then◌else◌, List, [], ◌∷◌, length}
use Rattle.spk_nums.specs.{Merging.merged, Merging.covers, Merging.preempts_by, declared.replies.Value.Value}
use Rattle.spk_nums.specs.{declared.replies.Value.TheVariants.Nothing, declared.replies.Value.TheVariants.Amount}
use Rattle.spk_nums.specs.{declared.replies.Value.TheVariants.Preempts, declared.replies.Value.TheVariants.Stays, declared.kinds.Kind.Kind}
use Rattle.kernel_rules.specs.{State.TcapFields, State.State, State.outstanding, Access.Named, Access.only, Access.to_use, Edits.tcap_at}
use Rattle.kernel_rules.specs.{Edits.charge, Edits.Charge, Edits.Move, Edits.Merge, Edits.Give, Rules.Cause, Rules.When, Rules.Rule}
use Rattle.{spk_nums.specs.declared.replies.Reply.Reply, kernel_rules.specs.Rules.Name, kernel_rules.specs.Rules.Does}

-- `tick N` charges the N ticks and those owed to the current temporal capability, and answers how many it charged.
abbrev pub tick_rule : State → ℕ → ℕ → Rule
tick_rule s c n = Does [] (Amount (charge s c (n + (s.core c).owed))) (Charge n ∷ [])

-- `same`: both names lead to one temporal capability.
abbrev pub are_same : Named → Named → Cause
are_same a b = When (a.found && (b.found && a.frame == b.frame)) Reply.Same

-- `short`: the budget is less than the amount.
abbrev pub is_short : State → Named → ℕ → Cause
is_short s a m = When (a.found && nat_lt (tcap_at s a.frame).budget m) (Reply.Short (tcap_at s a.frame).budget)

-- Whether two lists of qualities are equal.
abbrev pub are_alike : List (ℕ × ℕ) → List (ℕ × ℕ) → Bool
are_alike [] [] = true
are_alike [] (y ∷ ys) = false
are_alike (x ∷ xs) [] = false
are_alike (x ∷ xs) (y ∷ ys) = x.0 == y.0 && (x.1 == y.1 && are_alike xs ys)

-- `unlike`: the two lists differ.
abbrev pub are_unlike : State → Named → Named → Cause
are_unlike s a b =
    When (a.found && (b.found && not (are_alike (tcap_at s a.frame).qualities (tcap_at s b.frame).qualities))) Reply.Unlike

-- `transfer A B M` names temporal capabilities A and B with equal lists, and moves M ticks from A to B.
abbrev pub transfer_rule : State → ℕ → ℕ → ℕ → Rule
transfer_rule s a b m =
    Name a (to_use (only Kind.Tcap)) λ a.
    Name b (to_use (only Kind.Tcap)) λ b.
    Does (are_same a b ∷ is_short s a m ∷ are_unlike s a b ∷ []) Nothing (Move a.frame b.frame m ∷ [])

-- The merged list of two temporal capabilities.
abbrev pub merged_list : State → ℕ → ℕ → List (ℕ × ℕ)
merged_list s a b = merged (tcap_at s a).qualities (tcap_at s b).qualities

-- `too-many`: the merged list has more than 8 schedulers.
abbrev pub are_many : State → Named → Named → Cause
are_many s a b = When (a.found && (b.found && nat_lt 8 (length (merged_list s a.frame b.frame)))) Reply.TooMany

-- `delegate A B M` names temporal capabilities A and B, moves M ticks from A to B, and gives B the merged list.
abbrev pub delegate_rule : State → ℕ → ℕ → ℕ → Rule
delegate_rule s a b m =
    Name a (to_use (only Kind.Tcap)) λ a.
    Name b (to_use (only Kind.Tcap)) λ b.
    Does (are_same a b ∷ is_short s a m ∷ are_many s a b ∷ []) Nothing
    (Move a.frame b.frame m ∷ Merge b.frame (merged_list s a.frame b.frame) ∷ [])

-- The answer of a `test`.
abbrev pub preemption : Bool → Value
preemption preempts = if preempts then Preempts else Stays

-- Whether one temporal capability preempts another.
abbrev pub preempts : TcapFields → TcapFields → Bool
preempts a b = preempts_by a.budget a.qualities b.budget b.qualities

-- `test A B` names temporal capabilities A and B, and answers whether A preempts B.
abbrev pub test_rule : State → ℕ → ℕ → Rule
test_rule s a b =
    Name a (to_use (only Kind.Tcap)) λ a.
    Name b (to_use (only Kind.Tcap)) λ b.
    Does (are_same a b ∷ []) (preemption (preempts (tcap_at s a.frame) (tcap_at s b.frame))) []

-- `unlike`: the list of the temporal capability does not name the scheduler of the core's grant with a number that is no smaller, so
-- merging the grant into it would change it: time would get better by being given back.
abbrev pub is_finer : State → ℕ → Named → Cause
is_finer s c a = When (a.found && not (covers (tcap_at s a.frame).qualities (s.core c).grant)) Reply.Unlike

-- `short`: the core has fewer ticks left to have back than the amount; the reply tells how many.
abbrev pub is_less : State → ℕ → ℕ → Cause
is_less s c m = When (nat_lt (outstanding (s.core c)) m) (Reply.Short (min (outstanding (s.core c)) m))

-- `replenish A M` names a temporal capability A whose list is no better than the core's grant, and puts into its budget M of the ticks
-- that the core has spent and has not had back.
abbrev pub replenish_rule : State → ℕ → ℕ → ℕ → Rule
replenish_rule s c a m =
    Name a (to_use (only Kind.Tcap)) λ a.
    Does (is_finer s c a ∷ is_less s c m ∷ []) Nothing (Give a.frame m ∷ [])
