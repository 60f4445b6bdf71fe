-- What a decision changes is its core's own, or lies under a capability that it named and that has the right to use.
use Rattle.state_laws.specs.kernel_laws.proofs.{◌≡◌, ◌⊎◌, inl, inr, ℕ, Bool, refl, ap, List, Call, Tick, Value, Reply, Core, Grace, Thing}
use Rattle.state_laws.specs.kernel_laws.proofs.{State, with_core, with_grace, outstanding, begun, Change, does, Judged, Refused, Found}
use Rattle.state_laws.specs.kernel_laws.proofs.{IsFoundAnd, MayReply, rule_of, change_of, changed, owed_by, state_by, is_open, after}
use Rattle.state_laws.specs.kernel_laws.proofs.{IfFound, Edit, after_edits, begins_all, outcome_from, IsOpen, opened, open_is, Calm}
use Rattle.authority_laws.specs.{Part, PlaceIs, FrameIs, StackIs, RunsIs, BudgetIs, ListIs, NumberIs, CoreIs, OwnBy, SamePart}
use Rattle.state_laws.specs.kernel_invariant.proofs.Facts.{edits_map}
use Rattle.authority_laws.specs.Authority.{IsOwn, DecisionsHaveAuthority, CallsChangeTheirOwn}
use Rattle.authority_laws.proofs.Acts.{EachBy, Acts, rule_acts}
use Rattle.authority_laws.proofs.EditParts.{MayBy, Within, within_same, within_core, within_grace, edits_within}

module _ (s : State) (c : ℕ) (o : ℕ → Bool) (h : IsOpen s o c) (call : Call) where
  -- What holds after a call's edits, whose grace periods begin, holds after its answer `ok`.
  pub acts_ok : (v : Value) (Q : State → Type 0) → MayReply s c call (Reply.Ok v)
      → ((es : List Edit) → Calm c s es → EachBy call s c es → Q (begun s (begins_all c s es) (after_edits c s es)))
      → Q (changed s (change_of s c call))
  acts_ok v Q may by = found_after (change_of s c call)
      (outcome_from After s c (rule_of s c call)
      (edits_map (λ v es. Acts call c s es) (λ v es. After (does c s v es)) s c (rule_of s c call) (λ v es acts. by es acts.calm acts.by)
      (rule_acts s c o h call))) may.1.1
    where
      After : Change → Type 0
      After change = Q (begun s change.begins change.next)

      found_after : (x : Judged Change) → IfFound x After → IsFoundAnd x (λ k. k.value ≡ v) → Q (changed s x)
      found_after (Refused r) after ok = absurd ok
      found_after (Found change) after ok = after

  -- What holds before, and holds on where the core, but for its thread and what it has left to have back, or grace periods change, holds
  -- after a decision if it does after a call's edits.
  pub decided_from : (Q : State → Type 0) → Q s
      → ((t : State) (k : Core) → k.thread ≡ (t.core c).thread → outstanding k ≡ outstanding (t.core c) → Q t → Q (with_core t c k))
      → ((t : State) (g : Thing → Grace) → Q t → Q (with_grace t g))
      → ((es : List Edit) → Calm c s es → EachBy call s c es → Q (after_edits c s es))
      → (r : Reply) → MayReply s c call r → Q (state_by s c call r)
  decided_from Q same core grace by r may = by_reply r may
    where
      owed : (made : Call) → Q (owed_by s c made)
      owed (Tick n) = core s _ refl refl same
      owed _ = same

      by_reply : (r : Reply) → MayReply s c call r → Q (state_by s c call r)
      by_reply (Reply.Ok v) may = core (changed s (change_of s c call)) _ refl refl
          (acts_ok v Q may (λ es calm each. grace (after_edits c s es) _ (by es calm each)))
      by_reply Reply.CallsSpent may = same
      by_reply Reply.Raced may = core (owed_by s c call) _ refl refl (owed call)
      by_reply (Reply.Busy d) may = core (owed_by s c call) _ refl refl (owed call)
      by_reply _ may = core s _ refl refl same

  pub decided_within : (r : Reply) → MayReply s c call r → Within call s c (state_by s c call r)
  decided_within = decided_from (Within call s c) (within_same call s c) (λ t k same spent w. within_core call s c t k w)
      (λ t g w. within_grace call s c t g w) (λ es calm by. edits_within call s c es calm by)

pub each_part : (call : Call) (s : State) (c : ℕ) (t : State) → Within call s c t → (x : Part) → SamePart s t x ⊎ MayBy call s c x
each_part call s c t w (PlaceIs f i) = w.place f i
each_part call s c t w (FrameIs f) = (w.fields f).bare
each_part call s c t w (StackIs f) = (w.fields f).stack
each_part call s c t w (RunsIs f) = (w.fields f).runs
each_part call s c t w (BudgetIs f) = (w.fields f).budget
each_part call s c t w (ListIs f) = (w.fields f).list
each_part call s c t w (NumberIs l) = w.number l
each_part call s c t w (CoreIs d) = w.core d

own_is : (call : Call) (s : State) (c : ℕ) (x : Part) → OwnBy call s c x → IsOwn s c x
own_is call s c (CoreIs d) own = own
own_is call s c (StackIs f) own = own.0
own_is call s c (RunsIs f) own = own.0
own_is call s c (BudgetIs f) own = own.0
own_is call s c _ own = absurd own

pub calls_change_their_own : CallsChangeTheirOwn
calls_change_their_own setting lim events c call r run = each_part call (after setting events) c _
    (decided_within (after setting events) c (opened events) (open_is setting lim events c run.0 (ap is_open run.1.is_open)) call r
    run.1.permitted)

pub decisions_have_authority : DecisionsHaveAuthority
decisions_have_authority setting lim events c call r run x = elim (calls_change_their_own setting lim events c call r run x) [
  | inl same ↦ inl same
  | inr (inl own) ↦ inr (inl (own_is call (after setting events) c x own))
  | inr (inr one) ↦ inr (inr one)
]
