-- A judge takes a mark: it has come to the end of the marks with that one.
use Rattle.call_judge.specs.seq_state.proofs.{◌≡◌, ◌≢◌, ℕ, ◌+◌, ◌<◌, ◌==◌, ◌&&◌, Bool, true, false, not, List, [], ◌∷◌, length, Option}
use Rattle.call_judge.specs.seq_state.proofs.{refl, sym, ap, subst}
use Rattle.call_judge.specs.seq_state.proofs.{◌∙◌, inl, inr, IsTrue, if◌then◌else◌, set as slice_set, false≢true, Setting, IsSetting, Call}
use Rattle.call_judge.specs.seq_state.proofs.{Reply}
use Rattle.call_judge.specs.seq_state.proofs.{entered as entered_state, returned as returned_state, state_by, after, Out, Open, Decided}
use Rattle.call_judge.specs.seq_state.proofs.{is_in, is_decided}
use Rattle.call_judge.specs.seq_state.proofs.{phase_of, limits_stay, state_of, Represents, same_then}
use Rattle.marked_history.specs.{with_decision, events_of, phase, state, HasMet, MayBeHeldUp, CanBeDecided, MayDecideIn, IsOfMachine}
use Rattle.history_check.specs.{at_of, is_inside, seen_of, HasCome}
use Rattle.call_judge.specs.Judged.{IsDecided, IsJudged, JudgesExactly}
use Rattle.marked_history.specs.declared.marks.Mark.TheVariants.{Enter, Decide, Return}
use Rattle.marked_history.specs.Histories.{IsOther, IsAnotherIn, enters, Unless}
use Rattle.history_check.specs.{declared.seen.Seen.Seen, declared.judge.Judge.Judge, Judging.IsAnotherSeen, Judging.is_alone}
use Rattle.history_check.proofs.Cores.{inside_is, out_is, decided_is, of_each, seen_own, seen_other, here, apart, turned}
use Rattle.{marked_history.specs.entered, marked_history.specs.MarkBreaks, std.proofs.lemmas.Bool.cases_eq}
use Rattle.{call_judge.specs.seq_state.specs.Maps.Maps}
use Rattle.{call_judge.specs.seq_plans.specs.Refusals.Decides, call_judge.specs.plain_kernel.proofs.Stepping.entered_same}
use Rattle.{call_judge.specs.plain_kernel.proofs.Stepping.returned_same, marked_history.specs.declared.marks.Mark.Mark}
use Rattle.{marked_history.proofs.Running.histories_run, history_check.specs.Judging.alone_after, history_check.specs.Judging.is_held_up}
use Rattle.spk_nums.specs.declared.replies.Reply.TheVariants as reply
use Rattle.marked_history.specs.declared.marks.Why.TheVariants as why
use Rattle.history_check.specs.declared.seen.At.TheVariants as at

-- ---- who is met

-- A core that has another beside it in a call now has met it.
now_met : (marks : List Mark) (c : ℕ) → IsAnotherIn marks c → HasMet marks c
now_met [] c a = absurd (false≢true a.is.inside)
now_met (m ∷ marks) c a = inl a

decides_by : {P Q : Type 0} (b : Bool) → (P → Q) → (Q → P) → Decides b P → Decides b Q
decides_by true to from p = to p
decides_by false to from n = λ q. n (from q)

-- A mark by which no core enters, and after which no more cores are in a call, changes nobody's having met another.
still_met : (marks : List Mark) (m : Mark) (c : ℕ) → ((d : ℕ) → enters m d ≡ false)
    → ((d : ℕ) → IsTrue (is_in (phase (m ∷ marks) d)) → IsTrue (is_in (phase marks d)))
    → (b : Bool) → Decides b (HasMet marks c) → Decides b (HasMet (m ∷ marks) c)
still_met marks m c nobody fewer b met =
    decides_by b (λ h. inr (subst (λ t. Unless t (HasMet marks c)) (sym (nobody c)) h)) back met
  where
    back : HasMet (m ∷ marks) c → HasMet marks c
    back (inl a) = now_met marks c
        (record { core = a.core; is = record { other = a.is.other; inside = fewer a.core a.is.inside } })
    back (inr u) = subst (λ t. Unless t (HasMet marks c)) (nobody c) u

-- ---- the kernel

core_within : (setting : Setting) (marks : List Mark) (c : ℕ) → c < setting.cores → c < (state setting marks).limits.cores
core_within setting marks c lt = subst (λ l. c < l.cores) (sym (limits_stay setting (events_of marks))) lt

pub enters_kernel : (setting : Setting) (marks : List Mark) (c : ℕ) (k k' : Maps) → c < setting.cores
    → Represents k (state setting marks) → Represents k' (entered_state (state_of k) c)
    → Represents k' (entered_state (state setting marks) c)
enters_kernel setting marks c k k' lt was is =
    same_then (state_of k') (entered_state (state_of k) c) (entered_state (state setting marks) c) is
    (entered_same (state_of k) (state setting marks) c (core_within setting marks c lt) was)

pub leaves_kernel : (setting : Setting) (marks : List Mark) (c : ℕ) (k k' : Maps) → c < setting.cores
    → Represents k (state setting marks) → Represents k' (returned_state (state_of k) c)
    → Represents k' (returned_state (state setting marks) c)
leaves_kernel setting marks c k k' lt was is =
    same_then (state_of k') (returned_state (state_of k) c) (returned_state (state setting marks) c) is
    (returned_same (state_of k) (state setting marks) c (core_within setting marks c lt) was)

-- ---- a core enters

module _ (setting : Setting) (marks : List Mark) (j j' : Judge) (come : HasCome setting marks j) (c : ℕ) (call : Call) where
  phase_entered : (d : ℕ) → d ≢ c → phase (Enter c call ∷ marks) d ≡ phase marks d
  phase_entered d other = ap (λ b. if b then Open call else phase marks d) (apart d c other)

  phase_opened : phase (Enter c call ∷ marks) c ≡ Open call
  phase_opened = ap (λ b. if b then Open call else phase marks c) (here c)

  is_inside_now : IsTrue (is_in (phase (Enter c call ∷ marks) c))
  is_inside_now = ap is_in phase_opened

  another_there : IsAnotherIn (Enter c call ∷ marks) c → IsAnotherSeen j.seen.items c
  another_there a = record {
    core = a.core;
    other = a.is.other;
    inside = ap is_inside (come.cores a.core) ∙ inside_is (phase marks a.core) ∙ ap is_in (sym (phase_entered a.core a.is.other))
        ∙ a.is.inside;
  }

  another_seen : IsAnotherSeen j.seen.items c → IsAnotherIn (Enter c call ∷ marks) c
  another_seen a = record {
    core = a.core;
    is = record {
      other = a.other;
      inside = ap is_in (phase_entered a.core a.other) ∙ sym (inside_is (phase marks a.core)) ∙ sym (ap is_inside (come.cores a.core))
          ∙ a.inside;
    };
  }

  met_own : (another : Bool) → Decides another (IsAnotherSeen j.seen.items c)
      → Decides (not (is_alone (alone_after another c) c)) (HasMet (Enter c call ∷ marks) c)
  met_own true a = inl (another_seen a)
  met_own false none = subst (λ b. Decides (not b) (HasMet (Enter c call ∷ marks) c)) (sym (here c)) nobody
    where
      nobody : HasMet (Enter c call ∷ marks) c → ⊥
      nobody (inl a) = none (another_there a)
      nobody (inr u) = subst (λ b. Unless b (HasMet marks c)) (here c) u

  met_other : (another : Bool) (d : ℕ) → d ≢ c → Decides (not (is_alone (alone_after another c) d)) (HasMet (Enter c call ∷ marks) d)
  met_other true d other = inl (record { core = c; is = record { other = turned other; inside = is_inside_now } })
  met_other false d other =
      subst (λ b. Decides (not b) (HasMet (Enter c call ∷ marks) d)) (sym (apart d c other))
      (inl (record { core = c; is = record { other = turned other; inside = is_inside_now } }))

  pub has_entered : (another : Bool) (s : Seen) → length j.seen.items ≡ 8 → c < 8
      → IsOfMachine setting.cores (Enter c call) → (seen_of j.seen.items c).at ≡ at.Out
      → Decides another (IsAnotherSeen j.seen.items c)
      → s.at ≡ at.Open call → s.entered ≡ (seen_of j.seen.items c).entered + 1
      → j'.seen.items ≡ slice_set j.seen.items c s → j'.alone ≡ alone_after another c → j'.decided ≡ j.decided
      → Represents j'.kernel (entered_state (state_of j.kernel) c)
      → HasCome setting (Enter c call ∷ marks) j'
  has_entered another s eight few machine out is_another opens one seen alone decided kernel =
      let long : c < length j.seen.items = subst (λ n. c < n) (sym eight) few in
      let own : seen_of j'.seen.items c ≡ s = ap (λ l. seen_of l c) seen ∙ seen_own j.seen.items c s long in
      let others : (d : ℕ) → d ≢ c → seen_of j'.seen.items d ≡ seen_of j.seen.items d =
      λ d other. ap (λ l. seen_of l d) seen ∙ seen_other j.seen.items c s d other in
      record {
        history = (come.history, record { machine = machine; order = out_is (phase marks c) (sym out ∙ come.cores c); held_up = tt; permitted = tt });
        kernel = enters_kernel setting marks c j.kernel j'.kernel machine.0 come.kernel kernel;
        cores = of_each (λ d. (seen_of j'.seen.items d).at ≡ at_of (phase (Enter c call ∷ marks) d)) c
            (ap (λ x. x.at) own ∙ opens ∙ sym (ap at_of phase_opened))
            (λ d other. ap (λ x. x.at) (others d other) ∙ come.cores d ∙ sym (ap at_of (phase_entered d other)));
        entered = of_each (λ d. (seen_of j'.seen.items d).entered ≡ entered (Enter c call ∷ marks) d) c
            (ap (λ x. x.entered) own ∙ one ∙ ap (λ n. n + 1) (come.entered c)
            ∙ sym (ap (λ b. if b then entered marks c + 1 else entered marks c) (here c)))
            (λ d other. ap (λ x. x.entered) (others d other) ∙ come.entered d
            ∙ sym (ap (λ b. if b then entered marks d + 1 else entered marks d) (apart d c other)));
        met = λ d within. subst (λ (o : Option ℕ). Decides (not (is_alone o d)) (HasMet (Enter c call ∷ marks) d)) (sym alone)
            (of_each (λ e. Decides (not (is_alone (alone_after another c) e)) (HasMet (Enter c call ∷ marks) e)) c
            (met_own another is_another) (met_other another) d);
        decided = decided ∙ come.decided;
      }

-- ---- a call is decided

module _ (setting : Setting) (marks : List Mark) (j j' : Judge) (come : HasCome setting marks j) (c : ℕ) (call : Call) (r : Reply)
    (opens : phase marks c ≡ Open call) where
  phase_made : (d : ℕ) → phase (Decide c r ∷ marks) d ≡ (if d == c then Decided call r else phase marks d)
  phase_made d = ap (λ p. phase_of (with_decision p c r (events_of marks)) d) opens

  phase_decided : phase (Decide c r ∷ marks) c ≡ Decided call r
  phase_decided = phase_made c ∙ ap (λ b. if b then Decided call r else phase marks c) (here c)

  phase_kept : (d : ℕ) → d ≢ c → phase (Decide c r ∷ marks) d ≡ phase marks d
  phase_kept d other = phase_made d ∙ ap (λ b. if b then Decided call r else phase marks d) (apart d c other)

  as_many : (d : ℕ) → IsTrue (is_in (phase (Decide c r ∷ marks) d)) → IsTrue (is_in (phase marks d))
  as_many = of_each (λ d. IsTrue (is_in (phase (Decide c r ∷ marks) d)) → IsTrue (is_in (phase marks d))) c
      (λ h. ap is_in opens) (λ d other h. sym (ap is_in (phase_kept d other)) ∙ h)

  can_decide : CanBeDecided (phase marks c)
  can_decide = subst CanBeDecided (sym opens) tt

  pub held_up : (q : Reply) → Decides (is_held_up j.alone j.seen.items c q) (MayBeHeldUp marks c q)
  held_up reply.Raced = come.met c (ap is_in opens)
  held_up (reply.Busy d) = elim (cases_eq d c) [
    | inl same ↦ subst (λ b. Decides (not b && is_inside (seen_of j.seen.items d).at) (IsOther marks c d)) (sym (ap (λ e. d == e) (sym same) ∙ here d))
        (λ is. is.other same)
    | inr other ↦ subst (λ b. Decides (not b && is_inside (seen_of j.seen.items d).at) (IsOther marks c d)) (sym (apart d c other))
        (beside d other (is_inside (seen_of j.seen.items d).at) (ap is_inside (come.cores d) ∙ inside_is (phase marks d)))
  ]
    where
      beside : (d : ℕ) → d ≢ c → (b : Bool) → b ≡ is_in (phase marks d) → Decides b (IsOther marks c d)
      beside d other true is = record { other = other; inside = sym is }
      beside d other false is = λ o. false≢true (is ∙ o.inside)
  held_up _ = tt

  held_so : (held : Bool) → held ≡ is_held_up j.alone j.seen.items c r → held ≡ true → MayBeHeldUp marks c r
  held_so held is holds = subst (λ b. Decides b (MayBeHeldUp marks c r)) (sym is ∙ holds) (held_up r)

  judged : IsSetting setting → (b : Bool) (k' : Maps) → JudgesExactly j.kernel c call r b k' → IsJudged (state setting marks) c call r b k'
  judged lim b k' exact = exact setting lim (events_of marks) (histories_run setting marks come.history) opens come.kernel

  -- Nobody holds it up so.
  pub race_breaks : (held : Bool) → held ≡ is_held_up j.alone j.seen.items c r → held ≡ false → MarkBreaks setting marks (Decide c r) why.Race
  race_breaks held is fails = (can_decide, subst (λ b. Decides b (MayBeHeldUp marks c r)) (sym is ∙ fails) (held_up r))

  -- The call relation does not permit it.
  pub reply_breaks : IsSetting setting → (held b : Bool) (k' : Maps) → held ≡ is_held_up j.alone j.seen.items c r → held ≡ true
      → JudgesExactly j.kernel c call r b k' → b ≡ false → MarkBreaks setting marks (Decide c r) why.Reply
  reply_breaks lim held b k' is holds exact fails = (
    can_decide,
    held_so held is holds,
    λ may.
        (subst (λ x. IsJudged (state setting marks) c call r x k') fails (judged lim b k' exact)).forbidden
        (subst (λ p. MayDecideIn p (state setting marks) c r) opens may),
  )

  pub has_decided : (s : Seen) → IsSetting setting → length j.seen.items ≡ 8 → c < 8 → c < setting.cores
      → (held b : Bool) (k' : Maps) → held ≡ is_held_up j.alone j.seen.items c r → held ≡ true
      → JudgesExactly j.kernel c call r b k' → b ≡ true → j'.kernel ≡ k'
      → s.at ≡ at.Decided → s.entered ≡ (seen_of j.seen.items c).entered
      → j'.seen.items ≡ slice_set j.seen.items c s → j'.alone ≡ j.alone → j'.decided ≡ j.decided + 1
      → HasCome setting (Decide c r ∷ marks) j'
  has_decided s lim eight few machine held b k' is holds exact so kernel_is is_decided same seen alone decided =
      let verdict : IsDecided (state setting marks) c call r k' =
      subst (λ x. IsJudged (state setting marks) c call r x k') so (judged lim b k' exact) in
      let kernel : Represents j'.kernel (state_by (state setting marks) c call r) =
      subst (λ k. Represents k (state_by (state setting marks) c call r)) (sym kernel_is) verdict.state in
      let long : c < length j.seen.items = subst (λ n. c < n) (sym eight) few in
      let own : seen_of j'.seen.items c ≡ s = ap (λ l. seen_of l c) seen ∙ seen_own j.seen.items c s long in
      let others : (d : ℕ) → d ≢ c → seen_of j'.seen.items d ≡ seen_of j.seen.items d =
      λ d other. ap (λ l. seen_of l d) seen ∙ seen_other j.seen.items c s d other in
      record {
        history = (
          come.history,
          record {
            machine = machine;
            order = can_decide;
            held_up = held_so held is holds;
            permitted = subst (λ p. MayDecideIn p (state setting marks) c r) (sym opens) verdict.permitted;
          },
        );
        kernel = subst (λ p. Represents j'.kernel (after setting (with_decision p c r (events_of marks)))) (sym opens) kernel;
        cores = of_each (λ d. (seen_of j'.seen.items d).at ≡ at_of (phase (Decide c r ∷ marks) d)) c
            (ap (λ x. x.at) own ∙ is_decided ∙ sym (ap at_of phase_decided))
            (λ d other. ap (λ x. x.at) (others d other) ∙ come.cores d ∙ sym (ap at_of (phase_kept d other)));
        entered = of_each (λ d. (seen_of j'.seen.items d).entered ≡ entered (Decide c r ∷ marks) d) c
            (ap (λ x. x.entered) own ∙ same ∙ come.entered c)
            (λ d other. ap (λ x. x.entered) (others d other) ∙ come.entered d);
        met = λ d within. subst (λ (o : Option ℕ). Decides (not (is_alone o d)) (HasMet (Decide c r ∷ marks) d)) (sym alone)
            (still_met marks (Decide c r) d (λ e. refl) as_many (not (is_alone j.alone d)) (come.met d (as_many d within)));
        decided = decided ∙ ap (λ n. n + 1) come.decided;
      }

-- ---- a core returns

module _ (setting : Setting) (marks : List Mark) (j j' : Judge) (come : HasCome setting marks j) (c : ℕ) where
  phase_left : phase (Return c ∷ marks) c ≡ Out
  phase_left = ap (λ b. if b then Out else phase marks c) (here c)

  phase_stays : (d : ℕ) → d ≢ c → phase (Return c ∷ marks) d ≡ phase marks d
  phase_stays d other = ap (λ b. if b then Out else phase marks d) (apart d c other)

  fewer : (d : ℕ) → IsTrue (is_in (phase (Return c ∷ marks) d)) → IsTrue (is_in (phase marks d))
  fewer = of_each (λ d. IsTrue (is_in (phase (Return c ∷ marks) d)) → IsTrue (is_in (phase marks d))) c
      (λ h. absurd (false≢true (sym (ap is_in phase_left) ∙ h))) (λ d other h. sym (ap is_in (phase_stays d other)) ∙ h)

  pub has_left : (s : Seen) → length j.seen.items ≡ 8 → c < 8 → c < setting.cores → (seen_of j.seen.items c).at ≡ at.Decided
      → s.at ≡ at.Out → s.entered ≡ (seen_of j.seen.items c).entered
      → j'.seen.items ≡ slice_set j.seen.items c s → j'.alone ≡ j.alone → j'.decided ≡ j.decided
      → Represents j'.kernel (returned_state (state_of j.kernel) c)
      → HasCome setting (Return c ∷ marks) j'
  has_left s eight few machine was out same seen alone decided kernel =
      let long : c < length j.seen.items = subst (λ n. c < n) (sym eight) few in
      let own : seen_of j'.seen.items c ≡ s = ap (λ l. seen_of l c) seen ∙ seen_own j.seen.items c s long in
      let others : (d : ℕ) → d ≢ c → seen_of j'.seen.items d ≡ seen_of j.seen.items d =
      λ d other. ap (λ l. seen_of l d) seen ∙ seen_other j.seen.items c s d other in
      record {
        history = (
          come.history,
          record {
            machine = machine;
            order = decided_is (phase marks c) (sym was ∙ come.cores c);
            held_up = tt;
            permitted = tt;
          },
        );
        kernel = leaves_kernel setting marks c j.kernel j'.kernel machine come.kernel kernel;
        cores = of_each (λ d. (seen_of j'.seen.items d).at ≡ at_of (phase (Return c ∷ marks) d)) c
            (ap (λ x. x.at) own ∙ out ∙ sym (ap at_of phase_left))
            (λ d other. ap (λ x. x.at) (others d other) ∙ come.cores d ∙ sym (ap at_of (phase_stays d other)));
        entered = of_each (λ d. (seen_of j'.seen.items d).entered ≡ entered (Return c ∷ marks) d) c
            (ap (λ x. x.entered) own ∙ same ∙ come.entered c)
            (λ d other. ap (λ x. x.entered) (others d other) ∙ come.entered d);
        met = λ d within. subst (λ (o : Option ℕ). Decides (not (is_alone o d)) (HasMet (Return c ∷ marks) d)) (sym alone)
            (still_met marks (Return c) d (λ e. refl) fewer (not (is_alone j.alone d)) (come.met d (fewer d within)));
        decided = decided ∙ come.decided;
      }
