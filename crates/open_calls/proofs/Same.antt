-- What is found of an open call is the same in two states that are one for the machine, one of them reached.
use Rattle.plain_kernel.specs.kernel_laws.proofs.{◌≡◌, ℕ, ◌<◌, ◌++◌, leb as nat_le, ltb as nat_lt, min, if◌then◌else◌, refl, sym, ◌∙◌, ap}
use Rattle.plain_kernel.specs.kernel_laws.proofs.{List, Option, Some, None, string_bytes, Setting, IsSetting, Capability, Call, Retype}
use Rattle.plain_kernel.specs.kernel_laws.proofs.{Transfer, Delegate, Replenish, Reply, Core, State, tcap_in, outstanding, any, only}
use Rattle.plain_kernel.specs.kernel_laws.proofs.{to_look, to_use, Change, Judged, Refused, Found, named, acts, change_of, are_calls_spent}
use Rattle.plain_kernel.specs.kernel_laws.proofs.{reply_in, alone, Event, after, Open, phase_of, IsRun, opened}
use Rattle.plain_kernel.specs.same_changes.proofs.{Twins, core_below, named_same, changes_same, twins}
use Rattle.plain_kernel.specs.seq_state.proofs.{state_of, Represents, same_refs}
use Rattle.plain_kernel.specs.call_plans.specs.{at_place, plan_for}
use Rattle.plain_kernel.specs.same_changes.proofs.{Reaching.core_same, TimeRules.named_frame, EveryCall.same_acts, EveryCall.stays_in_range}
use Rattle.plain_kernel.specs.call_plans.specs.declared.plans.Nth.TheVariants.{First, Second, Third, Fourth}
use Rattle.open_calls.specs.{declared.outlooks.Outlook.Outlook, Leads.lead_line, Leads.some_name, Leads.names_text, Told.left}
use Rattle.open_calls.specs.{Told.short_of, Told.short, Told.told, Outlooks.IsOutlook}
use Rattle.{plain_kernel.specs.seq_state.specs.kernel_rules.specs.Alone.first_reply, plain_kernel.specs.seq_state.specs.Maps.Maps}
use Rattle.{plain_kernel.specs.seq_lookups.specs.Ranges.IsInRange}
use Rattle.{plain_kernel.specs.same_changes.specs.Same.SameOutcome, plain_kernel.specs.call_plans.specs.declared.plans.Name.Name}
use Rattle.spk_nums.specs.declared.kinds.Kind.TheVariants as kind
use Rattle.spk_nums.specs.declared.kinds.FrameKind.TheVariants as frame_kind
use Rattle.spk_nums.specs.declared.replies.Reply.TheVariants as reply

module _ {t s : State} {o : ℕ → _} {c : ℕ} (w : Twins t s o c) where
  name_same : (name : Option Name) → some_name t c name ≡ some_name s c name
  name_same None = refl
  name_same (Some name) = ap (lead_line name.number) (named_same w name.number (to_look any))

  pub names_same : (call : Call) → names_text t c call ≡ names_text s c call
  names_same call = λ i. name_same (at_place (plan_for call).names First) i ++ name_same (at_place (plan_for call).names Second) i
      ++ name_same (at_place (plan_for call).names Third) i ++ name_same (at_place (plan_for call).names Fourth) i

  short_same : (a : ℕ) → short t c a ≡ short s c a
  short_same a = ap (short_of t) (named_same w a (to_use (only kind.Tcap))) ∙ by_found (named s c a (to_use (only kind.Tcap))) refl
    where
      by_found : (j : Judged Capability) → named s c a (to_use (only kind.Tcap)) ≡ j → short_of t j ≡ short_of s j
      by_found (Refused r) is = refl
      by_found (Found k) is = ap (λ x. Some (reply.Short (tcap_in x).budget)) (named_frame w a kind.Tcap k refl is)

  left_same : (m : ℕ) → left t c m ≡ left s c m
  left_same m = ap (λ (k : Core). if nat_lt (outstanding k) m then Some (reply.Short (min (outstanding k) m)) else None) (core_same w)

  pub told_same : (call : Call) → told t c call ≡ told s c call
  told_same (Retype r f frame_kind.Untyped) = λ i. if nat_lt f (w.same.limits i).frames then Some (reply.Referenced (same_refs t s f w.same i))
      else None
  told_same (Transfer a b m) = short_same a
  told_same (Delegate a b m) = short_same a
  told_same (Replenish a m) = left_same m
  told_same _ = refl

reply_same : (x y : Judged Change) → SameOutcome x y → reply_in x ≡ reply_in y
reply_same (Refused p) (Refused q) same = same
reply_same (Found x) (Found y) same = ap reply.Ok same.value
reply_same (Refused p) (Found y) same = absurd same
reply_same (Found x) (Refused q) same = absurd same

-- in a reached state with an open call
module _ (setting : Setting) (lim : IsSetting setting) (events : List Event) (run : IsRun setting events) (c : ℕ) (call : Call)
    (opens : phase_of events c ≡ Open call) (k : Maps) (same : Represents k (after setting events)) where
  w : Twins (state_of k) (after setting events) (opened events) c
  w = twins setting lim events run c call opens (state_of k) same

  spent_same : are_calls_spent (state_of k) c ≡ are_calls_spent (after setting events) c
  spent_same = λ i. nat_le (same.limits i).calls (same.core c (core_below w) i).counted

  first_same : first_reply (state_of k) c call ≡ first_reply (after setting events) c call
  first_same = λ i. if same_acts setting lim events run c call opens (state_of k) same i
      then reply_same (change_of (state_of k) c call) (change_of (after setting events) c call)
      (changes_same setting lim events run c call opens (state_of k) same) i
      else reply.Dead

  alone_same : alone (state_of k) c call ≡ alone (after setting events) c call
  alone_same = λ i. if spent_same i then reply.CallsSpent else first_same i

  ranges : IsInRange (state_of k) c call
  ranges = stays_in_range setting lim events run c call opens (state_of k) same

  pub outlook_is : (found : Outlook) → string_bytes found.names ≡ names_text (state_of k) c call
      → (IsInRange (state_of k) c call → found.alone ≡ alone (state_of k) c call) → found.told ≡ told (state_of k) c call
      → IsOutlook (after setting events) c call found
  outlook_is found names first number = record {
    names = names ∙ names_same w call;
    alone_reply = first ranges ∙ alone_same;
    number_told = number ∙ told_same w call;
  }
