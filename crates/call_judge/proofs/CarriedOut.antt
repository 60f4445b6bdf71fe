-- A call carried out with a value, or put back.
use Rattle.plain_kernel.specs.seq_state.proofs.{◌≡◌, ◌≢◌, inl, inr, ℕ, ◌<◌, true, false, refl, sym, ◌∙◌, ap, subst, [], Option, Some}
use Rattle.plain_kernel.specs.seq_state.proofs.{None, IsTrue, IsFalse, false≢true, true≢false, FrameKind, Call, Look, Retype}
use Rattle.plain_kernel.specs.seq_state.proofs.{Make as make_call, Touch, Switch, Tick, Test}
use Rattle.plain_kernel.specs.seq_state.proofs.{Translation, Value, Nothing, Reply, Limits, State, with_frame, with_core, comp_of}
use Rattle.plain_kernel.specs.seq_state.proofs.{thread_in, found}
use Rattle.plain_kernel.specs.seq_state.proofs.{begun, Change, Judged, Refused, Found, translation_of, touch_by, switch_to, rule_of}
use Rattle.plain_kernel.specs.seq_state.proofs.{change_of, reply_in}
use Rattle.plain_kernel.specs.seq_state.proofs.{IfFound, state_of, SameState, Represents, same_then, same_grace_by, same_frame, same_core}
use Rattle.plain_kernel.specs.kernel_rules.proofs.{Make, Core, Frame, IsRefusal, AllChanges, outcome_all, put_same}
use Rattle.plain_kernel.specs.kernel_rules.proofs.{put_other}
use Rattle.call_judge.specs.{Judged.RefusesPlainly, Judged.CarriesOut, Judged.IsAnswerOf, Putting.AgreesBut, Putting.answers_value}
use Rattle.{std.proofs.lemmas.Bool.cases_eq}
use Rattle.{plain_kernel.specs.kernel_rules.proofs.AloneLaw.core_inside, plain_kernel.specs.seq_state.specs.Maps.Maps}
use Rattle.{plain_kernel.specs.seq_lookups.specs.Carried.IsCarriedOut}

value_is : (v u : Value) → Reply.Ok v ≡ Reply.Ok u → v ≡ u
value_is v u e = cc

-- ---- calls that answer nothing

answers_nothing : Change → Type 0
answers_nothing change = change.value ≡ Nothing

nothing_switched : (s : State) (c : ℕ) (h : Rattle.plain_kernel.specs.kernel_rules.specs.Access.Named) (q : ℕ) (e : Option ℕ)
    → AllChanges s c (λ change. change.value ≡ Nothing) (switch_to h q e)
nothing_switched s c h q None = refl
nothing_switched s c h q (Some e) = refl

nothing : (s : State) (c : ℕ) (call : Call) → IsFalse (answers_value call)
    → AllChanges s c (λ change. change.value ≡ Nothing) (rule_of s c call)
nothing s c (Look a) plain = absurd (true≢false plain)
nothing s c (Retype r f FrameKind.Untyped) plain = λ range. refl
nothing s c (make_call Make.Table r f x b) plain = λ range table at. refl
nothing s c (Touch v) plain = absurd (true≢false plain)
nothing s c (Switch h q) plain = λ thread tcap.
    nothing_switched s c (found thread) tcap.frame (thread_in (s.frame thread.frame)).runs_on
nothing s c (Tick n) plain = absurd (true≢false plain)
nothing s c (Test a b) plain = absurd (true≢false plain)
nothing s c _ plain = search

-- ---- calls that answer a value

-- The state after a change is the old one but for the core and the frame of its temporal capability.
abbrev pub Nearly : State → ℕ → Change → Type 0
Nearly s c change = AgreesBut (s.core c).tcap c (begun s change.begins change.next) s

no_change : (s : State) (f c : ℕ) → AgreesBut f c s s
no_change s f c = record {
  inside = refl;
  limits = refl;
  place = λ g i below small. refl;
  frame = λ g below other. refl;
  number = λ l small. refl;
  core = λ d below other. refl;
  grace = λ x is. same_grace_by s.limits.cores (s.grace x) (s.grace x) refl;
}

core_change : (s : State) (f c : ℕ) (k : Core) → k.inside ≡ (s.core c).inside → AgreesBut f c (with_core s c k) s
core_change s f c k inside = record {
  inside = core_inside s c c k inside;
  limits = refl;
  place = λ g i below small. refl;
  frame = λ g below other. refl;
  number = λ l small. refl;
  core = λ d below other. put_other s.core c k d other;
  grace = λ x is. same_grace_by s.limits.cores (s.grace x) (s.grace x) refl;
}

both_change : (s : State) (f c : ℕ) (x : Frame) (k : Core) → k.inside ≡ (s.core c).inside
    → AgreesBut f c (with_core (with_frame s f x) c k) s
both_change s f c x k inside = record {
  inside = core_inside s c c k inside;
  limits = refl;
  place = λ g i below small. refl;
  frame = λ g below other. put_other s.frame f x g other;
  number = λ l small. refl;
  core = λ d below other. put_other s.core c k d other;
  grace = λ x is. same_grace_by s.limits.cores (s.grace x) (s.grace x) refl;
}

nearly_touched : (s : State) (c pages v : ℕ) (tr : Option Translation) → AllChanges s c (Nearly s c) (touch_by pages v tr)
nearly_touched s c pages v (Some tr) = no_change s (s.core c).tcap c
nearly_touched s c pages v None = λ mapping. core_change s (s.core c).tcap c _ refl

nearly : (s : State) (c : ℕ) (call : Call) → IsTrue (answers_value call) → AllChanges s c (Nearly s c) (rule_of s c call)
nearly s c (Look a) some = λ cap. no_change s (s.core c).tcap c
nearly s c (Touch v) some = nearly_touched s c (comp_of s c).pages v
    (translation_of (s.core c).cached (comp_of s c).pages v)
nearly s c (Tick n) some = both_change s (s.core c).tcap c _ _ refl
nearly s c (Test a b) some = λ x y. no_change s (s.core c).tcap c
nearly s c _ some = absurd (false≢true some)

-- What is put back is as before.
restored : (s u v : State) (f c : ℕ) → AgreesBut f c u s → SameState v (with_core (with_frame u f (s.frame f)) c (s.core c)) → SameState v s
restored s u v f c near put_back = same_then v (with_core (with_frame u f (s.frame f)) c (s.core c)) s put_back (record {
  limits = near.limits;
  place = near.place;
  frame = λ g below. elim (cases_eq g f) [
    | inl e ↦ put_same u.frame f (s.frame f) g e ∙ ap s.frame (sym e)
    | inr other ↦ put_other u.frame f (s.frame f) g other ∙ near.frame g below other
  ];
  number = near.number;
  core = λ d below. elim (cases_eq d c) [
    | inl e ↦ put_same u.core c (s.core c) d e ∙ ap s.core (sym e)
    | inr other ↦ put_other u.core c (s.core c) d other ∙ near.core d below other
  ];
  grace = near.grace;
})

-- ---- what is answered

-- What was carried out with a value, of what is judged.
found_value : (s : State) (j : Judged Change) (v : Value) (k : Maps) → RefusesPlainly j → IsCarriedOut s j (Reply.Ok v) k
    → (P : Change → Type 0) → IfFound j P
    → (change : Change) × (change.value ≡ v) × P change × Represents k (begun s change.begins change.next)
found_value s (Refused r) v k plain h P all = absurd (subst IsRefusal (sym h.reply) plain)
found_value s (Found change) v k plain h P all = (change, value_is change.value v (sym h.reply), all, h.state)

-- A refused call left all as it was.
left_alone : (s : State) (j : Judged Change) (r : Reply) (k : Maps) → IsRefusal r → IsCarriedOut s j r k
    → Represents k s
left_alone s (Refused q) r k refused h = h.state
left_alone s (Found change) r k refused h = absurd (subst IsRefusal h.reply refused)

not_this : (r p : Reply) (v : Value) → IsRefusal r → r ≡ p → p ≡ Reply.Ok v → ⊥
not_this r p v refused e is = subst IsRefusal (e ∙ is) refused

-- A call that answers nothing.
pub plain_result : (s : State) (c : ℕ) (call : Call) (o : Option Value) (r : Reply) (k : Maps) → IsFalse (answers_value call)
    → IsAnswerOf o r → RefusesPlainly (change_of s c call) → IsCarriedOut s (change_of s c call) r k
    → CarriesOut s (change_of s c call) Nothing (Rattle.std.specs.Option.is_some o) k
plain_result s c call None r k plain is calm h =
    (not_this r (reply_in (change_of s c call)) Nothing is h.reply, left_alone s (change_of s c call) r k is h)
plain_result s c call (Some v) r k plain is calm h =
    let here : IsCarriedOut s (change_of s c call) (Reply.Ok v) k = subst (λ q. IsCarriedOut s (change_of s c call) q k) is h in
    let got = found_value s (change_of s c call) v k calm here (λ change. change.value ≡ Nothing)
    (outcome_all (λ change. change.value ≡ Nothing) s c (rule_of s c call) (nothing s c call plain)) in
    subst (λ u. IsCarriedOut s (change_of s c call) (Reply.Ok u) k) (sym got.1 ∙ got.2) here

-- A call that answers nothing does not answer another value.
pub other_result : (s : State) (c : ℕ) (call : Call) (v : Value) → IsFalse (answers_value call) → (v ≡ Nothing → ⊥)
    → RefusesPlainly (change_of s c call) → reply_in (change_of s c call) ≡ Reply.Ok v → ⊥
other_result s c call v plain other calm is = by_outcome (change_of s c call) calm
    (outcome_all (λ change. change.value ≡ Nothing) s c (rule_of s c call) (nothing s c call plain)) is
  where
    by_outcome : (j : Judged Change) → RefusesPlainly j → IfFound j (λ change. change.value ≡ Nothing) → reply_in j ≡ Reply.Ok v → ⊥
    by_outcome (Refused r) calm all e = subst IsRefusal e calm
    by_outcome (Found change) calm all e = other (sym (value_is change.value v e) ∙ all)

-- A call that answers this value.
pub same_result : (s : State) (j : Judged Change) (u v : Value) (r : Reply) (k : Maps) → r ≡ Reply.Ok u → u ≡ v → IsCarriedOut s j r k
    → IsCarriedOut s j (Reply.Ok v) k
same_result s j u v r k is same h = subst (λ q. IsCarriedOut s j q k) (is ∙ ap Reply.Ok same) h

-- A call that answers another value, and is put back.
pub put_back_result : (s : State) (c : ℕ) (call : Call) (u v : Value) (r : Reply) (k k' : Maps) (kept : Core) (tcap : Frame)
    → c < s.limits.cores → IsTrue (answers_value call) → kept ≡ s.core c → tcap ≡ s.frame kept.tcap
    → r ≡ Reply.Ok u → (u ≡ v → ⊥) → RefusesPlainly (change_of s c call) → IsCarriedOut s (change_of s c call) r k
    → (c < (state_of k).limits.cores → kept.inside ≡ ((state_of k).core c).inside
    → Represents k' (with_core (with_frame (state_of k) kept.tcap tcap) c kept))
    → (reply_in (change_of s c call) ≡ Reply.Ok v → ⊥) × Represents k' s
put_back_result s c call u v r k k' kept tcap below some kept_is tcap_is is other calm h puts =
    let here : IsCarriedOut s (change_of s c call) (Reply.Ok u) k = subst (λ q. IsCarriedOut s (change_of s c call) q k) is h in
    let got = found_value s (change_of s c call) u k calm here (Nearly s c)
    (outcome_all (Nearly s c) s c (rule_of s c call) (nearly s c call some)) in
    let f = (s.core c).tcap in
    let next : State = begun s (got.0).begins (got.0).next in
    let there : c < next.limits.cores = subst (λ (l : Limits). c < l.cores) (sym (got.2).limits) below in
    let core_below : c < (state_of k).limits.cores = subst (λ (l : Limits). c < l.cores) (sym (got.3).limits) there in
    let inside : kept.inside ≡ ((state_of k).core c).inside =
    ap (λ (x : Core). x.inside) kept_is ∙ sym (got.2).inside ∙ sym (ap (λ (x : Core). x.inside) ((got.3).core c there)) in
    let frame_is : tcap ≡ s.frame f = tcap_is ∙ ap (λ (x : Core). s.frame x.tcap) kept_is in
    let back : SameState (state_of k') (with_core (with_frame (state_of k) f (s.frame f)) c (s.core c)) =
    subst (λ x. SameState (state_of k') x) (λ i. with_core (with_frame (state_of k) (kept_is i).tcap (frame_is i)) c (kept_is i))
    (puts core_below inside) in (
      λ e. other (value_is u v (here.reply ∙ e)),
      restored s next (state_of k') f c got.2
          (same_then (state_of k') _ _ back (same_core _ _ c (s.core c) (same_frame _ _ f (s.frame f) got.3))),
    )

-- A refused call.
pub refused_result : (s : State) (j : Judged Change) (v : Value) (r : Reply) (k : Maps) → IsRefusal r → IsCarriedOut s j r k
    → (reply_in j ≡ Reply.Ok v → ⊥) × Represents k s
refused_result s j v r k refused h = (not_this r (reply_in j) v refused h.reply, left_alone s j r k refused h)
