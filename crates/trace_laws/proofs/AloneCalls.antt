-- What holds of a call that is alone: its core waits for nothing, and what is carried out is what the sequential kernel answers.
use Rattle.boot_words.specs.kernel_history.proofs as low
use low.{◌≡◌, ◌&&◌, ◌||◌, not, IsTrue, inl, inr, ℕ, Bool, true, false, [], ◌∷◌, Option, Some, None, refl, sym, ◌∙◌, ap, subst}
use low.{if◌then◌else◌, false≢true, Setting, Call, Value, Reply, Thing, NumberOf, State, comp_of, Judged, Found, IsFoundAnd, MayReply}
use low.{are_calls_spent, change_of, asks_life, acts, alone, Step, Phase, Out, Decided, phase, after_enter, after_decide, after_return}
use low.{state_after, state_entered, state_before, is_in, MayEnter, IsLegal, events_of, IsAlone, phase-own, state_is, inside_is}
use Rattle.found_stays.specs.kernel_rules.specs.{Refused, is_dead_in, lives, outlives, may_act, reply_in, first_reply}
use Rattle.boot_words.specs.kernel_history.specs.{UnlessEnters, IsUndisturbed}
use Rattle.found_stays.specs.kernel_rules.proofs.AloneLaw.{AreInside, waits_inside}
use Rattle.boot_words.specs.kernel_history.specs.Trace.{Trace, Open}
use Rattle.{std.proofs.lemmas.Bool.cases_eq, trace_laws.proofs.Stays.state_plain}

-- what a call answers alone

-- An `ok` that the call relation permits is the reply to a call made alone.
pub ok_first : (s : State) (c : ℕ) (call : Call) (v : Value) → MayReply s c call (Reply.Ok v) → Reply.Ok v ≡ alone s c call
ok_first s c call v may =
    sym (ap (λ b. if b then Reply.CallsSpent else first_reply s c call) may.0
    ∙ ap (λ b. if b then reply_in (change_of s c call) else Reply.Dead) may.1.0 ∙ found (change_of s c call) may.1.1)
  where
    found : (j : Judged Rattle.boot_words.specs.kernel_rules.specs.Rules.Change) → IsFoundAnd j (λ k. k.value ≡ v) → reply_in j ≡ Reply.Ok v
    found (Refused r) h = absurd h
    found (Found change) h = ap Reply.Ok h

-- And so is `calls-spent`, and the refusal of a call's rule where the calls are not spent and the core may make the call.
pub spent_first : (s : State) (c : ℕ) (call : Call) → are_calls_spent s c ≡ true → Reply.CallsSpent ≡ alone s c call
spent_first s c call is = sym (ap (λ b. if b then Reply.CallsSpent else first_reply s c call) is)

pub refused_first : (s : State) (c : ℕ) (call : Call) (r : Reply)
    → IsTrue (acts s c call) → are_calls_spent s c ≡ false → change_of s c call ≡ Refused r → r ≡ alone s c call
refused_first s c call r may unspent is =
    sym (ap (λ b. if b then Reply.CallsSpent else first_reply s c call) unspent
    ∙ ap (λ b. if b then reply_in (change_of s c call) else Reply.Dead) may ∙ ap reply_in is)

-- And so is `dead`, where the call asks that its core may act, the core's component does not live, and the core waits in no grace period.
pub dead_first : (s : State) (c : ℕ) (call : Call) → are_calls_spent s c ≡ false → IsTrue (asks_life call) → lives s c ≡ false
    → ((x : Thing) → (s.grace x).waits c ≡ false) → Reply.Dead ≡ alone s c call
dead_first s c call unspent asks dead waits =
    sym (ap (λ b. if b then Reply.CallsSpent else first_reply s c call) unspent
    ∙ ap (λ b. if b then reply_in (change_of s c call) else Reply.Dead) may_not)
  where
    none : (b : Bool) → (b && false) ≡ false
    none true = refl
    none false = refl

    may_not : acts s c call ≡ false
    may_not =
        ap (λ b. not b || may_act s c) asks
        ∙ ap (λ b. b || outlives s c) dead
        ∙ ap (λ b. is_dead_in (s.number (comp_of s c).number) (comp_of s c).epoch && b) (waits (NumberOf (comp_of s c).number))
        ∙ none (is_dead_in (s.number (comp_of s c).number) (comp_of s c).epoch)

-- for whom a core waits

-- A core that is between calls waits in no grace period.
out_waits_none : (setup : Setting) (t : Trace) (c : ℕ) → phase t c ≡ Out → (x : Thing) → ((state_after setup t).grace x).waits c ≡ false
out_waits_none setup t c out x = by_cases (((state_after setup t).grace x).waits c) refl
  where
    inside : AreInside (state_after setup t)
    inside = subst AreInside (sym (state_is setup t)) (waits_inside setup (events_of t))

    by_cases : (b : Bool) → ((state_after setup t).grace x).waits c ≡ b → b ≡ false
    by_cases true is = absurd (false≢true (sym (inside_is setup t c ∙ ap is_in out) ∙ inside x c is))
    by_cases false is = refl

entered_waits : (o : Option Call) (s : State) (c d : ℕ) (x : Thing) → ((state_entered o s c).grace x).waits d ≡ (s.grace x).waits d
entered_waits None s c d x = refl
entered_waits (Some call) s c d x = refl

-- A step after which its core's call is open neither decides nor returns.
stays_open : (d q : Option Reply) (p : Phase) (call : Call)
    → after_return q (after_decide d p) ≡ Open call → (d ≡ None) × (q ≡ None) × (p ≡ Open call)
stays_open None None p call is = (refl, refl, is)
stays_open (Some r) None Out call is = absurd (cc)
stays_open (Some r) None (Open k) call is = absurd (cc)
stays_open (Some r) None (Decided k q) call is = absurd (cc)
stays_open d (Some r) p call is = absurd (cc)

-- A core whose call is open, and that alone has stepped since it entered, waits in no grace period: what was removed before was
-- removed while it was between calls.
pub alone_waits_none : (setup : Setting) (t : Trace) → IsLegal setup t → (c : ℕ) (call : Call) → phase t c ≡ Open call → IsUndisturbed t c
    → (x : Thing) → ((state_after setup t).grace x).waits c ≡ false
alone_waits_none setup [] legal c call is alone x = refl
alone_waits_none setup (e ∷ t) legal c call is alone x =
    let is_open : (e.decides ≡ None) × (e.returns ≡ None) × (after_enter e.enters (phase t c) ≡ Open call) =
    stays_open e.decides e.returns (after_enter e.enters (phase t c)) call (sym (phase-own c e t (sym alone.0)) ∙ is) in
    by_entry e.enters refl is_open.0 is_open.1 is_open.2 alone.1 (alone_waits_none setup t legal.0 c call)
  where
    by_entry : (o : Option Call) → e.enters ≡ o → e.decides ≡ None → e.returns ≡ None
        → after_enter e.enters (phase t c) ≡ Open call → UnlessEnters e.enters (IsUndisturbed t c)
        → (phase t c ≡ Open call → IsUndisturbed t c → (y : Thing) → ((state_after setup t).grace y).waits c ≡ false)
        → ((state_after setup (e ∷ t)).grace x).waits c ≡ false
    by_entry None os no_decision no_return opens rest before =
        ap (λ s. (s.grace x).waits c) (state_plain setup t e os no_decision no_return)
        ∙ before (ap (λ o. after_enter o (phase t c)) (sym os) ∙ opens) (subst (λ o. UnlessEnters o (IsUndisturbed t c)) os rest) x
    by_entry (Some k) os no_decision no_return opens rest before =
        ap (λ o. ((state_of o e.decides e.returns).grace x).waits c) os
        ∙ ap (λ d. ((state_of (Some k) d e.returns).grace x).waits c) no_decision
        ∙ ap (λ q. ((state_of (Some k) None q).grace x).waits c) no_return
        ∙ out_waits_none setup t c
        (subst (λ (d : ℕ). phase t d ≡ Out) alone.0 (subst (λ o. MayEnter o (phase t e.core)) os legal.1.enters).0) x
      where
        state_of : Option Call → Option Reply → Option Reply → State
        state_of o d q = state_after setup
            (record { core = e.core; move = e.move; found = e.found; enters = o; decides = d; returns = q } ∷ t)

-- At the step at which a call that is alone is still open, its core waits in no grace period, and nor does any other.
alone_before : (setup : Setting) (t : Trace) (e : Step) → IsLegal setup t → MayEnter e.enters (phase t e.core) → IsAlone t e → (call : Call)
    → after_enter e.enters (phase t e.core) ≡ Open call → (x : Thing) → ((state_before setup t e).grace x).waits e.core ≡ false
alone_before setup t e legal enters alone call is x =
    entered_waits e.enters (state_after setup t) e.core e.core x ∙ by_entry e.enters refl enters alone.undisturbed is
  where
    by_entry : (o : Option Call) → e.enters ≡ o → MayEnter o (phase t e.core)
        → UnlessEnters o (IsUndisturbed t e.core) → after_enter o (phase t e.core) ≡ Open call
        → ((state_after setup t).grace x).waits e.core ≡ false
    by_entry None os may rest is = alone_waits_none setup t legal e.core call is rest x
    by_entry (Some k) os may rest is = out_waits_none setup t e.core may.0 x

pub nobody_waits : (setup : Setting) (t : Trace) (e : Step) → IsLegal setup t
    → MayEnter e.enters (phase t e.core) → IsAlone t e → (call : Call)
    → after_enter e.enters (phase t e.core) ≡ Open call → (x : Thing) (d : ℕ) → ((state_before setup t e).grace x).waits d ≡ false
nobody_waits setup t e legal enters alone call is x d = elim (cases_eq d e.core) [
  | inl own ↦ ap ((state_before setup t e).grace x).waits own ∙ alone_before setup t e legal enters alone call is x
  | inr other ↦ entered_waits e.enters (state_after setup t) e.core d x ∙ out_waits_none setup t d (alone.others_out d other) x
]
