-- A retype of a frame that the machine does not have is refused by its range alone: nothing refers to such a frame, and its grace
-- period never began.
use Rattle.plain_kernel.specs.kernel_laws.proofs as low
use low.{◌≡◌, ◌≢◌, ◌⊎◌, inl, inr, ℕ, zero, suc, ◌+◌, ◌<◌, ◌≤◌, ◌==◌, Bool, true, false, not, ◌&&◌, ltb as nat_lt, cond, if◌then◌else◌, refl}
use low.{sym, ◌∙◌, ap, subst, arith, List, [], ◌∷◌, IsTrue, false≢true, ne_eqb, ltb-false, Setting, IsSetting, Kind, Call, Retype, Reply}
use low.{Place, Free, Holds, Quiescing, Comp, Thread, Frame, Untyped, Kernel, Liveness, Unused, Live, Dead, Grace, FrameOf, Limits, State}
use low.{put, no_grace, named_by, place_names, frame_names, number_names, core_names, sum_below, times, node_refs, refs, new_grace, RuleMay}
use low.{OneMay, retype_rule, is_empty, rule_of, begins, ends, flushes, Event, Enters, Decides, Returns, after, Open, phase_of, is_open}
use low.{IsRun, fits, IsSound, IsStack, IsObjectGood, IsOpen, opened, limits_stay, runs_sound, grace_is, flushed_by}
use Rattle.plain_kernel.specs.seq_plans.specs.{retype_beyond, judged_rule, Iff}
use Rattle.plain_kernel.specs.kernel_invariant.proofs.{AreComps, is_typed, begins_typed}
use Rattle.plain_kernel.specs.same_changes.proofs.{is_some_kind, fit_below}
use Rattle.plain_kernel.specs.kernel_rules.specs.GracePeriods.{passed}
use Rattle.spk_nums.specs.declared.kinds.Kind.TheVariants as kind
use Rattle.spk_nums.specs.declared.kinds.FrameKind.TheVariants as frame_kind
use Rattle.spk_nums.specs.declared.replies.Reply.TheVariants as reply

-- ---- references

zero_sum : (g : ℕ → ℕ) (n : ℕ) → ((k : ℕ) → k < n → g k ≡ 0) → sum_below g n ≡ 0
unfolding sum_below
zero_sum g zero h = refl
zero_sum g (suc n) h = λ i. zero_sum g n (λ k less. h k (omega (arith, less))) i + h n (omega arith) i

-- No frame of a list is this one.
abbrev NoneIs : ℕ → List ℕ → Type 0
NoneIs f [] = Unit {0}
NoneIs f (g ∷ fs) = (g ≢ f) × NoneIs f fs

no_times : (f : ℕ) (fs : List ℕ) → NoneIs f fs → times f fs ≡ 0
no_times f [] h = refl
no_times f (g ∷ fs) h = rw (ne_eqb g f h.0) (no_times f fs h.1)

module _ (s : State) (o : ℕ → Bool) (f : ℕ) (sound : IsSound s o) (past : s.limits.frames ≤ f) where
  away : (j : Kind) (g : ℕ) → is_some_kind j ≡ true → IsTrue (fits j (s.frame g)) → g ≢ f
  away j g some fit same = let below = fit_below s o j g sound some fit in omega (arith, below, past, same)

  kind_away : (j : Kind) (g : ℕ) → IsTrue (fits j (s.frame g)) → NoneIs f (named_by j g)
  kind_away kind.Range g fit = tt
  kind_away j g fit = (away j g refl fit, tt)

  place_away : (g i : ℕ) (p : Place) → s.place g i ≡ p → NoneIs f (place_names p)
  place_away g i Free is = tt
  place_away g i (Holds k) is = kind_away k.kind k.frame (sound.held g i k is).fit
  place_away g i (Quiescing k) is = tt

  comps_away : (fs : List ℕ) → AreComps s fs → NoneIs f fs
  comps_away [] h = tt
  comps_away (g ∷ fs) h = (away kind.Comp g refl h.0, comps_away fs h.1)

  stack_away : (fs : List ℕ) → IsStack s fs → NoneIs f fs
  stack_away [] h = absurd h
  stack_away (g ∷ fs) h = (away kind.Comp g refl h.0, comps_away fs h.1)

  object_away : (x : Frame) → IsObjectGood s x → NoneIs f (frame_names x)
  object_away (Kernel (Comp k)) h = (away kind.Table k.table refl h.0, (away kind.Pages k.pages refl h.1, tt))
  object_away (Kernel (Thread t)) h = stack_away t.stack h
  object_away _ h = tt

  number_away : (l : ℕ) (x : Liveness) → s.number l ≡ x → NoneIs f (number_names x)
  number_away l Unused is = tt
  number_away l (Live e g) is = (away kind.Comp g refl (sound.numbers l e g is).0, tt)
  number_away l (Dead e) is = tt

  core_away : (d : ℕ) → d < s.limits.cores → NoneIs f (core_names (s.core d))
  core_away d below =
      let fit = sound.cores d below in
      (away kind.Thread (s.core d).thread refl fit.0, (away kind.Tcap (s.core d).tcap refl fit.1, tt))

  nodes_none : (g : ℕ) → node_refs s f g ≡ 0
  unfolding node_refs
  nodes_none g = zero_sum (λ i. times f (place_names (s.place g i))) 64
      (λ i less. no_times f (place_names (s.place g i)) (place_away g i (s.place g i) refl))

  pub no_refs : refs s f ≡ 0
  unfolding refs
  no_refs =
      let a = zero_sum (node_refs s f) s.limits.frames (λ g less. nodes_none g) in
      let b = zero_sum (λ g. times f (frame_names (s.frame g))) s.limits.frames
      (λ g less. no_times f (frame_names (s.frame g)) (object_away (s.frame g) (sound.objects g))) in
      let d = zero_sum (λ c. times f (core_names (s.core c))) s.limits.cores
      (λ c less. no_times f (core_names (s.core c)) (core_away c less)) in
      let e = zero_sum (λ l. times f (number_names (s.number l))) 64
      (λ l less. no_times f (number_names (s.number l)) (number_away l (s.number l) refl)) in
      λ i. a i + b i + d i + e i

-- ---- grace periods

-- No core has still to pass the grace period, or to flush in it.
record IsNone (g : Grace) : Type 0 where
  passed : (d : ℕ) → g.not_passed d ≡ false
  flushed : (d : ℕ) → g.flush_unknown d ≡ false

none_here : IsNone no_grace
none_here = record { passed = λ d. refl; flushed = λ d. refl }

put_none : (p : ℕ → Bool) (c d : ℕ) → p d ≡ false → put p c false d ≡ false
put_none p c d none = by_test (d == c)
  where
    by_test : (b : Bool) → (if b then false else p d) ≡ false
    by_test true = refl
    by_test false = none

chosen_none : (b : Bool) (p q : ℕ → Bool) (d : ℕ) → p d ≡ false → q d ≡ false → (if b then p else q) d ≡ false
chosen_none true p q d a b = a
chosen_none false p q d a b = b

passed_none : (c : ℕ) (g : Grace) → IsNone g → IsNone (passed c g)
passed_none c g h = record {
  passed = λ d. chosen_none (g.waits c) g.not_passed (put g.not_passed c false) d (h.passed d) (put_none g.not_passed c d (h.passed d));
  flushed = λ d. chosen_none (g.unflushed c) g.flush_unknown (put g.flush_unknown c false) d (h.flushed d)
      (put_none g.flush_unknown c d (h.flushed d));
}

kept_none : (a b : Bool) (c : ℕ) (g : Grace) → IsNone g → IsNone (cond a no_grace (cond b (flushed_by c g) g))
kept_none true b c g h = none_here
kept_none false true c g h = record { passed = h.passed; flushed = h.flushed }
kept_none false false c g h = h

-- The grace period of a frame that the machine does not have never begins.
no_grace_of : (setting : Setting) → IsSetting setting → (events : List Event) → IsRun setting events → (f : ℕ)
    → setting.frames ≤ f → IsNone ((after setting events).grace (FrameOf f))
no_grace_of setting lim [] run f past = none_here
no_grace_of setting lim (Enters c call ∷ events) run f past = no_grace_of setting lim events run.0 f past
no_grace_of setting lim (Returns c ∷ events) run f past =
    passed_none c ((after setting events).grace (FrameOf f)) (no_grace_of setting lim events run.0 f past)
no_grace_of setting lim (Decides c call r ∷ events) run f past =
    subst IsNone (sym (grace_is (after setting events) c call r run.1.permitted (FrameOf f)))
    (by_begin (begins (after setting events) c call r (FrameOf f)) refl (no_grace_of setting lim events run.0 f past))
  where
    open_here : IsOpen (after setting events) (opened events) c
    open_here = record { sound = runs_sound setting lim events run.0; is = ap is_open run.1.is_open }

    untyped : (after setting events).frame f ≡ Untyped
    untyped = (runs_sound setting lim events run.0).beyond f
        (subst (λ (l : Limits). l.frames ≤ f) (sym (limits_stay setting events)) past)

    by_begin : (b : Bool) → begins (after setting events) c call r (FrameOf f) ≡ b → IsNone ((after setting events).grace (FrameOf f))
        → IsNone (cond b (new_grace (after setting events) (FrameOf f)) (cond (ends call r (FrameOf f)) no_grace
        (cond (flushes call r) (flushed_by c ((after setting events).grace (FrameOf f))) ((after setting events).grace (FrameOf f)))))
    by_begin true is kept = absurd (false≢true (subst (λ x. IsTrue (is_typed x)) untyped
        (begins_typed (after setting events) (opened events) c open_here call r f is)))
    by_begin false is kept = kept_none (ends call r (FrameOf f)) (flushes call r) c ((after setting events).grace (FrameOf f)) kept

-- ---- the rule

module _ (s : State) (c r f : ℕ) (q : Reply) (past : nat_lt f s.limits.frames ≡ false) (untyped : s.frame f ≡ Untyped)
    (bare : refs s f ≡ 0) (calm : IsNone (s.grace (FrameOf f))) where
  not_else : OneMay s c (Rattle.plain_kernel.specs.kernel_rules.specs.MemoryCalls.not_retyped s f frame_kind.Untyped) q → ⊥
  not_else h = elim h [
    | inl kind ↦ false≢true
        (sym (ap (λ b. b && Rattle.plain_kernel.specs.kernel_rules.specs.MemoryCalls.is_untyped (s.frame f)) past) ∙ kind.0)
    | inr h1 ↦ elim h1 [
      | inl refs ↦ false≢true (sym (ap (nat_lt 0) bare) ∙ refs.0)
      | inr h2 ↦ elim h2 [
        | inl waits ↦ no_wait q waits
        | inr h3 ↦ elim h3 [
          | inl flush ↦ no_flush q flush
          | inr h4 ↦ elim h4 [
            | inl full ↦ false≢true (sym (ap (λ x. not (is_empty s f x)) untyped) ∙ full.0)
            | inr none ↦ none
          ]
        ]
      ]
    ]
  ]
    where
      no_wait : (q : Reply) → Rattle.plain_kernel.specs.kernel_rules.specs.Rules.WaitedMay s c (FrameOf f) q → ⊥
      no_wait (reply.Quiescing e) h = false≢true (sym (calm.passed e) ∙ h.not_passed)
      no_wait _ h = h

      no_flush : (q : Reply) → Rattle.plain_kernel.specs.kernel_rules.specs.Rules.UnflushedMay s (FrameOf f) q → ⊥
      no_flush (reply.Unflushed e) h = false≢true (sym (calm.flushed e) ∙ h.flush_unknown)
      no_flush _ h = h

  beyond : Iff (RuleMay s c (retype_beyond r f) q) (RuleMay s c (retype_rule s r f frame_kind.Untyped) q)
  beyond = record {
    there = λ h. elim h [ inl name ↦ inl name | inr own ↦ elim own [ inl outside ↦ inr (inl outside) | inr none ↦ absurd none ] ];
    back = λ h. elim h [
      | inl name ↦ inl name
      | inr own ↦ elim own [ inl outside ↦ inr (inl outside) | inr other ↦ absurd (not_else other) ]
    ];
  }

same_iff : (A : Type 0) → Iff A A
same_iff A = record { there = λ a. a; back = λ a. a }

-- In a reached state, a call may be refused exactly where it is so judged.
pub judged_here : (setting : Setting) → IsSetting setting → (events : List Event) → IsRun setting events → (c : ℕ) (call : Call)
    → phase_of events c ≡ Open call → (q : Reply)
    → Iff (RuleMay (after setting events) c (judged_rule (after setting events) c call) q)
    (RuleMay (after setting events) c (rule_of (after setting events) c call) q)
judged_here setting lim events run c (Retype r f frame_kind.Untyped) opens q = by_frame (nat_lt f (after setting events).limits.frames) refl
  where
    by_frame : (b : Bool) → nat_lt f (after setting events).limits.frames ≡ b
        → Iff (RuleMay (after setting events) c (if b then retype_rule (after setting events) r f frame_kind.Untyped
        else retype_beyond r f) q)
        (RuleMay (after setting events) c (retype_rule (after setting events) r f frame_kind.Untyped) q)
    by_frame true is = same_iff _
    by_frame false is =
        let sound = runs_sound setting lim events run in
        let past = ltb-false f (after setting events).limits.frames is in
        beyond (after setting events) c r f q is (sound.beyond f past) (no_refs (after setting events) (opened events) f sound past)
        (no_grace_of setting lim events run f (subst (λ (l : Limits). l.frames ≤ f) (limits_stay setting events) past))
judged_here setting lim events run c call opens q = same_iff _
