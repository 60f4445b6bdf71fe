-- Where a world is split, the calls of the cores outside may be hushed: the history is still a run, and the world the same.
use Rattle.same_changes.specs.kernel_laws.proofs.{◌≡◌, ◌⊎◌, inl, inr, ℕ, ◌+◌, ◌<◌, leb as nat_le, Bool, true, false, refl, sym, ◌∙◌, ap}
use Rattle.same_changes.specs.kernel_laws.proofs.{subst, arith, if◌then◌else◌, IsTrue, IsFalse, List, [], ◌∷◌, ◌++◌, false≢true, Setting}
use Rattle.same_changes.specs.kernel_laws.proofs.{IsSetting, Call, Flush, Value, Reply, put, Core, Limits, State, flushes, are_calls_spent}
use Rattle.same_changes.specs.kernel_laws.proofs.{state_by, MayReply, calls_counted, Event, Enters, Decides, Returns, after, Open, is_open}
use Rattle.same_changes.specs.kernel_laws.proofs.{is_decided, phase_of, IsRun, put_all, IsOpen, opened, open_is, limits_stay}
use Rattle.split_laws.specs.{World, IsSplit, side, MakesOwn, TellsOwn}
use Rattle.same_changes.proofs.{Agreeing.agree_by, Agreeing.agree_then, Reaching.TwinsOn}
use Rattle.split_laws.specs.Split.{KeepsNumbers, TellsInside, hushed_reply, hushed, told_inside, OthersAreSilent}
use Rattle.split_laws.proofs.Splitting.{split_for_good, split_entered, split_returned}
use Rattle.split_laws.proofs.Keeping.{agree_back, put_pair, entered_agree, returned_agree, decided_agree, flush_agree, raced_apart}
use Rattle.split_laws.proofs.Phases.{SamePhase, phase_same, same_out, same_open, same_decided, decided_in, same_after, in_call_below}
use Rattle.split_laws.proofs.Cores.{others_stay, thread_stays, counts_one}
use Rattle.split_laws.proofs.Apart.{frame_stays, place_stays, number_stays, core_stays, grace_stays}
use Rattle.split_laws.proofs.Inside.{region, thing_of, agree_in, reaches_only, outcome_agrees, may_reply}
use Rattle.{std.proofs.lemmas.Bool.cases_eq, world_laws.specs.kernel_rules.specs.Runs.MayEnter}
use Rattle.{world_laws.specs.kernel_rules.specs.Runs.MayDecide, world_laws.specs.kernel_rules.proofs.AloneLaw.decided_stays}
use Rattle.{same_changes.specs.seq_state.proofs.Same.same_grace_by, same_changes.specs.Region.AgreeOn, split_laws.proofs.Working.WorksOn}
use Rattle.{split_laws.proofs.Working.works_on, split_laws.proofs.Referring.numbers_on, split_laws.proofs.Referring.same_refs}

-- What a call is hushed to: a flush that is carried out stays, and so does a call past its core's limit; any other does nothing.
abbrev Hushes : Call → Reply → Type 0
Hushes call r =
    ((call ≡ Flush) × ((v : Value) × (r ≡ Reply.Ok v)))
    ⊎ ((r ≡ Reply.CallsSpent) ⊎ ((hushed_reply call r ≡ Reply.Raced) × (flushes call r ≡ false) × (calls_counted r ≡ 1)))

hushes : (call : Call) (r : Reply) → Hushes call r
hushes Flush (Reply.Ok v) = inl (refl, (v, refl))
hushes Flush Reply.CallsSpent = inr (inl refl)
hushes Flush _ = inr (inr (refl, refl, refl))
hushes _ (Reply.Ok v) = inr (inr (refl, refl, refl))
hushes _ Reply.CallsSpent = inr (inl refl)
hushes _ _ = inr (inr (refl, refl, refl))

hushed_spent : (call : Call) → hushed_reply call Reply.CallsSpent ≡ Reply.CallsSpent
hushed_spent Flush = refl
hushed_spent _ = refl

not_spent : (s : State) (c : ℕ) (call : Call) (r : Reply) → calls_counted r ≡ 1 → MayReply s c call r → IsFalse (are_calls_spent s c)
not_spent s c call Reply.CallsSpent one may = absurd (omega (arith, one))
not_spent s c call _ one may = may.0

module _ (setting : Setting) (lim : IsSetting setting) (w : World) (cores : ℕ → Bool) where
  -- A run from where a world is split, and the same with the calls outside hushed: which cores are of the world has not changed.
  record Silent (events other : List Event) : Type 0 where
    run : IsRun setting events
    quiet : IsRun setting other
    split : IsSplit w (after setting events)
    still : IsSplit w (after setting other)
    agree : AgreeOn (region w cores) (after setting other) (after setting events)
    thread : (c : ℕ) → w.frame ((after setting events).core c).thread ≡ cores c
    threads : (c : ℕ) → w.frame ((after setting other).core c).thread ≡ cores c
    counted : (c : ℕ) → ((after setting other).core c).counted ≡ ((after setting events).core c).counted
    phase : (c : ℕ) → SamePhase (phase_of events c) (phase_of other c)

  -- a core whose thread stays
  put_thread : (core : ℕ → Core) (c : ℕ) (k : Core) → w.frame k.thread ≡ cores c → ((d : ℕ) → w.frame (core d).thread ≡ cores d)
      → (d : ℕ) → w.frame (put core c k d).thread ≡ cores d
  put_thread core c k here there d = put_all (λ d (x : Core). w.frame x.thread ≡ cores d) core c k d
      (λ same. here ∙ ap cores (sym same)) (λ other. there d)

  put_counted : (f g : ℕ → Core) (c : ℕ) (j k : Core) → j.counted ≡ k.counted → ((d : ℕ) → (f d).counted ≡ (g d).counted)
      → (d : ℕ) → (put f c j d).counted ≡ (put g c k d).counted
  put_counted f g c j k here there d = put_pair (λ (x y : Core). x.counted ≡ y.counted) f g c j k d (λ same. here) (there d)

  module _ (events other : List Event) (h : Silent events other) where
    abbrev s : State
    s = after setting events

    abbrev t : State
    t = after setting other

    spent_same : (c : ℕ) → are_calls_spent t c ≡ are_calls_spent s c
    spent_same c = λ i. nat_le (h.agree.limits i).calls (h.counted c i)

    -- ---- entries and returns

    enters : (c : ℕ) (call : Call) → MayEnter setting events c call → Silent (Enters c call ∷ events) (Enters c call ∷ other)
    enters c call may = record {
      run = (h.run, may);
      quiet = (
        h.quiet,
        record {
          is_core = may.is_core;
          is_out = same_out (phase_of events c) (phase_of other c) (h.phase c) may.is_out;
          in_limits = may.in_limits;
        },
      );
      split = split_entered w s c h.split;
      still = split_entered w t c h.still;
      agree = entered_agree t s c h.agree;
      thread = put_thread s.core c _ (h.thread c) h.thread;
      threads = put_thread t.core c _ (h.threads c) h.threads;
      counted = put_counted t.core s.core c _ _ (h.counted c) h.counted;
      phase = same_after (Enters c call) (Enters c call) events other refl refl h.phase;
    }

    returns : (c : ℕ) → IsTrue (is_decided (phase_of events c)) → Silent (Returns c ∷ events) (Returns c ∷ other)
    returns c may = record {
      run = (h.run, may);
      quiet = (h.quiet, same_decided (phase_of events c) (phase_of other c) (h.phase c) may);
      split = split_returned w s c h.split;
      still = split_returned w t c h.still;
      agree = returned_agree t s c (subst (λ (l : Limits). c < l.cores) (sym (limits_stay setting events))
          (in_call_below setting events h.run c (decided_in (phase_of events c) may))) h.agree;
      thread = put_thread s.core c _ (h.thread c) h.thread;
      threads = put_thread t.core c _ (h.threads c) h.threads;
      counted = put_counted t.core s.core c _ _ (h.counted c) h.counted;
      phase = same_after (Returns c) (Returns c) events other refl tt h.phase;
    }

    -- ---- decisions

    module _ (c : ℕ) (call : Call) (r : Reply) (may : MayDecide setting events c call r) where
      abbrev decided : IsRun setting (Decides c call r ∷ events)
      decided = (h.run, may)

      open_call : IsOpen s (opened events) c
      open_call = open_is setting lim events c h.run (ap is_open may.is_open)

      open_too : phase_of other c ≡ Open call
      open_too = same_open (phase_of events c) (phase_of other c) call (h.phase c) may.is_open

      on : WorksOn w s c (side w s c)
      on = works_on w s c (opened events) open_call h.split

      on_too : WorksOn w t c (side w t c)
      on_too = works_on w t c (opened other) (open_is setting lim other c h.quiet (ap is_open open_too)) h.still

      side_same : side w t c ≡ side w s c
      side_same = sym on_too.thread ∙ h.threads c ∙ sym (h.thread c) ∙ on.thread

      -- the decision in the one, and a decision in the other, with this reply
      decides : (q : Reply) → MakesOwn w (side w s c) call → MayReply t c call q → calls_counted q ≡ calls_counted r
          → AgreeOn (region w cores) (state_by t c call q) (state_by s c call r)
          → Silent (Decides c call r ∷ events) (Decides c call q ∷ other)
      decides q own reply_may count agree =
          let decided_too : IsRun setting (Decides c call q ∷ other) = (h.quiet, record { is_open = open_too; permitted = reply_may }) in
          record {
            run = decided;
            quiet = decided_too;
            split = split_for_good setting lim events (Decides c call r ∷ []) decided w h.split (tt, own);
            still = split_for_good setting lim other (Decides c call q ∷ []) decided_too w h.still
                (tt, subst (λ b. MakesOwn w b call) (sym side_same) own);
            agree = agree;
            thread = λ d. elim (cases_eq d c) [
              | inl same ↦ ap (λ n. w.frame ((state_by s c call r).core n).thread) same
                  ∙ thread_stays setting lim events c call r decided w h.split ∙ h.thread c ∙ ap cores (sym same)
              | inr apart ↦ ap (λ (k : Core). w.frame k.thread) (others_stay setting lim events c call r decided d apart) ∙ h.thread d
            ];
            threads = λ d. elim (cases_eq d c) [
              | inl same ↦ ap (λ n. w.frame ((state_by t c call q).core n).thread) same
                  ∙ thread_stays setting lim other c call q decided_too w h.still ∙ h.threads c ∙ ap cores (sym same)
              | inr apart ↦ ap (λ (k : Core). w.frame k.thread) (others_stay setting lim other c call q decided_too d apart) ∙ h.threads d
            ];
            counted = λ d. elim (cases_eq d c) [
              | inl same ↦ ap (λ n. ((state_by t c call q).core n).counted) same
                  ∙ counts_one setting lim other c call q decided_too ∙ (λ i. h.counted c i + count i)
                  ∙ sym (counts_one setting lim events c call r decided) ∙ ap (λ n. ((state_by s c call r).core n).counted) (sym same)
              | inr apart ↦ ap (λ (k : Core). k.counted) (others_stay setting lim other c call q decided_too d apart) ∙ h.counted d
                  ∙ ap (λ (k : Core). k.counted) (sym (others_stay setting lim events c call r decided d apart))
            ];
            phase = same_after (Decides c call r) (Decides c call q) events other refl tt h.phase;
          }

      -- of a core inside
      decides_inside : side w s c ≡ true → MakesOwn w true call → TellsOwn w.frame true call r
          → Silent (Decides c call r ∷ events) (Decides c call r ∷ other)
      decides_inside here own tells =
          let mine : cores c ≡ true = sym (h.thread c) ∙ on.thread ∙ here in
          let twins : TwinsOn (region w cores) t s (opened events) c = record {
            sound = open_call.sound;
            is_open = open_call.is;
            within = reaches_only w cores s c mine (subst (WorksOn w s c) here on);
            agree = h.agree;
            referred = λ f of. same_refs w t s (agree_in w cores t s h.agree h.threads h.thread) f h.still
                (numbers_on setting lim other h.quiet w h.still) h.split (numbers_on setting lim events h.run w h.split) of;
          } in
          decides r (subst (λ b. MakesOwn w b call) (sym here) own) (may_reply w cores twins call own r tells may.permitted) refl
          (decided_agree t s c call r h.agree (outcome_agrees w cores twins call own))

      -- of a core outside, whose call is no flush
      outside_agrees : side w s c ≡ false → MakesOwn w false call → flushes call r ≡ false → cores c ≡ false
          → AgreeOn (region w cores) (state_by s c call r) s
      outside_agrees away own none apart = record {
        limits = (decided_stays s c call r).limits;
        place = λ f i of small. place_stays setting lim events c call r decided w h.split away own f i of;
        frame = frame_stays setting lim events c call r decided w h.split away own;
        number = number_stays setting lim events c call r decided w h.split away own;
        core = λ d of. core_stays setting lim events c call r decided w h.split away own d
            (λ same. false≢true (sym apart ∙ ap cores (sym same) ∙ of));
        inside = λ d below. (decided_stays s c call r).inside d;
        grace = λ x is. same_grace_by s.limits.cores _ _
            (grace_stays setting lim events c call r decided w h.split away own x (thing_of w cores x is) none);
      }

      decides_outside : side w s c ≡ false → MakesOwn w false call
          → Silent (Decides c call r ∷ events) (Decides c call (hushed_reply call r) ∷ other)
      decides_outside away own = by_hush (hushes call r)
        where
          apart : cores c ≡ false
          apart = sym (h.thread c) ∙ on.thread ∙ away

          owns : MakesOwn w (side w s c) call
          owns = subst (λ b. MakesOwn w b call) (sym away) own

          -- a flush that is carried out
          by_flush : (made : Call) (v : Value) → made ≡ Flush → call ≡ made → r ≡ Reply.Ok v
              → MayReply t c made (Reply.Ok v) × AgreeOn (region w cores) (state_by t c made (Reply.Ok v)) (state_by s c made (Reply.Ok v))
          by_flush made v is same answer = subst (λ m. MayReply t c m (Reply.Ok v)
              × AgreeOn (region w cores) (state_by t c m (Reply.Ok v)) (state_by s c m (Reply.Ok v))) (sym is)
              (let p : MayReply s c Flush (Reply.Ok v) = subst (λ m. MayReply s c m (Reply.Ok v)) (same ∙ is)
              (subst (MayReply s c call) answer may.permitted) in
              ((spent_same c ∙ p.0, (refl, p.1.1)), flush_agree t s c v h.agree))

          by_hush : Hushes call r → Silent (Decides c call r ∷ events) (Decides c call (hushed_reply call r) ∷ other)
          by_hush (inl (is, (v, answer))) =
              let both = by_flush call v is refl answer in
              let same : hushed_reply call r ≡ Reply.Ok v = (λ i. hushed_reply (is i) (answer i)) in
              decides (hushed_reply call r) owns (subst (MayReply t c call) (sym same) both.0)
              (ap calls_counted same ∙ ap calls_counted (sym answer))
              (subst (λ q. AgreeOn (region w cores) (state_by t c call (hushed_reply call r)) (state_by s c call q)) (sym answer)
              (subst (λ q. AgreeOn (region w cores) (state_by t c call q) (state_by s c call (Reply.Ok v))) (sym same) both.1))
          by_hush (inr (inl spent)) =
              let same : hushed_reply call r ≡ Reply.CallsSpent = ap (hushed_reply call) spent ∙ hushed_spent call in
              decides (hushed_reply call r) owns
              (subst (MayReply t c call) (sym same) (spent_same c ∙ subst (MayReply s c call) spent may.permitted))
              (ap calls_counted same ∙ ap calls_counted (sym spent))
              (subst (λ q. AgreeOn (region w cores) (state_by t c call (hushed_reply call r)) (state_by s c call q)) (sym spent)
              (subst (λ q. AgreeOn (region w cores) (state_by t c call q) s) (sym same) h.agree))
          by_hush (inr (inr (same, none, one))) =
              decides (hushed_reply call r) owns
              (subst (MayReply t c call) (sym same) (spent_same c ∙ not_spent s c call r one may.permitted, tt))
              (ap calls_counted same ∙ sym one)
              (subst (λ q. AgreeOn (region w cores) (state_by t c call q) (state_by s c call r)) (sym same)
              (agree_then (state_by t c call Reply.Raced) t (state_by s c call r) (raced_apart t c call apart)
              (agree_then t s (state_by s c call r) h.agree (agree_back (state_by s c call r) s (outside_agrees away own none apart)))))

      decides_either : (b : Bool) → side w s c ≡ b → MakesOwn w (side w s c) call → (side w s c ≡ true → TellsOwn w.frame true call r)
          → Silent (Decides c call r ∷ events) (Decides c call (if b then r else hushed_reply call r) ∷ other)
      decides_either true here own tells = decides_inside here (subst (λ b. MakesOwn w b call) here own) (tells here)
      decides_either false away own tells = decides_outside away (subst (λ b. MakesOwn w b call) away own)

module _ (setting : Setting) (lim : IsSetting setting) (before : List Event) (w : World) (split : IsSplit w (after setting before)) where
  abbrev cores : ℕ → Bool
  cores c = w.frame ((after setting before).core c).thread

  all_silent : (later : List Event) → IsRun setting (later ++ before) → KeepsNumbers w setting later before
      → TellsInside w setting later before
      → Silent setting lim w cores (later ++ before) (hushed w setting later before ++ before)
  all_silent [] run own tells = record {
    run = run;
    quiet = run;
    split = split;
    still = split;
    agree = agree_by (after setting before) (after setting before) refl;
    thread = λ c. refl;
    threads = λ c. refl;
    counted = λ c. refl;
    phase = λ c. phase_same (phase_of before c);
  }
  all_silent (Enters c call ∷ later) run own tells =
      enters setting lim w cores (later ++ before) (hushed w setting later before ++ before) (all_silent later run.0 own tells) c call run.1
  all_silent (Returns c ∷ later) run own tells =
      returns setting lim w cores (later ++ before) (hushed w setting later before ++ before) (all_silent later run.0 own tells) c run.1
  all_silent (Decides c call r ∷ later) run own tells =
      decides_either setting lim w cores (later ++ before) (hushed w setting later before ++ before)
      (all_silent later run.0 own.0 tells.0) c call r
      run.1 (side w (after setting (later ++ before)) c) refl own.1 tells.1

  -- a decision told inside, or not
  told_same : (c : ℕ) (call : Call) (r q : Reply) (b d : Bool) (xs ys : List Event) → d ≡ b → xs ≡ ys
      → (if d then Decides c call (if b then r else q) ∷ xs else xs) ≡ (if b then Decides c call r ∷ ys else ys)
  told_same c call r q true true xs ys same e = ap (λ es. Decides c call r ∷ es) e
  told_same c call r q false false xs ys same e = e
  told_same c call r q true false xs ys same e = absurd (false≢true same)
  told_same c call r q false true xs ys same e = absurd (false≢true (sym same))

  all_told : (later : List Event) → IsRun setting (later ++ before) → KeepsNumbers w setting later before
      → TellsInside w setting later before
      → told_inside w setting (hushed w setting later before) before ≡ told_inside w setting later before
  all_told [] run own tells = refl
  all_told (Enters c call ∷ later) run own tells = all_told later run.0 own tells
  all_told (Returns c ∷ later) run own tells = all_told later run.0 own tells
  all_told (Decides c call r ∷ later) run own tells =
      told_same c call r (hushed_reply call r) (side w (after setting (later ++ before)) c)
      (side w (after setting (hushed w setting later before ++ before)) c) _ _
      (side_same setting lim w cores (later ++ before) (hushed w setting later before ++ before) (all_silent later run.0 own.0 tells.0) c
      call r run.1)
      (all_told later run.0 own.0 tells.0)

pub others_are_silent : OthersAreSilent
others_are_silent setting lim before later run w split own tells =
    let h = all_silent setting lim before w split later run own tells in (
      h.quiet,
      agree_in w (cores setting lim before w split) (after setting (later ++ before))
          (after setting (hushed w setting later before ++ before))
          (agree_back _ _ h.agree) h.thread h.threads,
      all_told setting lim before w split later run own tells,
    )
