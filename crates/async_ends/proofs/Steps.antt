-- What the step of an entry has done, by the call and the stage.
use Rattle.std.proofs.Common.{◌≡◌, ◌≢◌, ℕ, ◌+◌, ◌<◌, ◌≤◌, ◌%◌, ◌^◌, ◌==◌, Bool, if◌then◌else◌, Option, Some, None, IsNone, Ok, List, refl}
use Rattle.std.proofs.Common.{sym, ap, ◌∙◌, subst, arith, eq-eqb, ne_eqb}
use Rattle.async_ends.specs.{reached, Added, Loaded, Took, Missed, Event, count_by, untaken, sends_in, receive_at, receiving, MayDo}
use Rattle.async_ends.specs.{EndCore, most_calls, end_steps, call_of}
use Rattle.spk_nums.specs.{declared.steps.WordOp.WordOp, declared.steps.WordOp.TheVariants.Load, declared.steps.WordOp.TheVariants.Compare}
use Rattle.spk_nums.specs.{declared.steps.WordOp.TheVariants.Add, WordSteps.place_in, WordSteps.left_by, WordSteps.told_by}
use Rattle.async_ends.specs.{declared.asks.Look.Look, declared.endpoint.EndOp.EndOp, declared.endpoint.EndOp.TheVariants.Send}
use Rattle.async_ends.specs.{declared.endpoint.EndOp.TheVariants.Recv, declared.endpoint.EndCall.EndCall, declared.run.EndStage.EndStage}
use Rattle.async_ends.specs.{declared.run.EndStage.TheVariants.Idle, declared.run.EndStage.TheVariants.Adds}
use Rattle.async_ends.specs.{declared.run.EndStage.TheVariants.Loads, declared.run.EndStage.TheVariants.Takes, Events.EndStep}
use Rattle.async_ends.specs.{Events.Receiving, Events.going, Events.MayBegin, Running.next_at, Running.stage_after, Seen.step_in}
use Rattle.{std.proofs.lemmas.Option.none-some, turn_rule.specs.Trace.called}
use mathlib.Core.Logic.{dite}
use native.Mathlib.Decide.{ℕ_discrete}
use Rattle.turn_rule.specs.Trace as table

-- a core between calls has no receive in progress, and one before its compare has the count that it has loaded
abbrev pub Knows : Option Receiving → EndStage → Type 0
Knows o Idle = o ≡ None
Knows o (Adds f) = ⊥
Knows o (Loads f) = ⊥
Knows o (Takes f n) = (0 < n) × (o ≡ Some (receive_at f n))

-- what the step has done, after which p is q
pub record Did (h : List Event) (c at found left : ℕ) (call : Option EndCall) (p q : EndCore) : Type 0 where
  pub step : EndStep
  pub is : step_in call found left ≡ step
  pub count : left ≡ count_by step found
  pub may : MayDo h c at step
  pub more : p.begun + sends_in step ≤ q.begun
  pub most : q.begun ≤ most_calls
  pub frames_are : q.frames ≡ p.frames
  pub knows : Knows (going at step) q.stage

abbrev pub made_of : EndCore → Option EndCall → WordOp → ℕ → EndCore
made_of p call op found = end_steps.after (called end_steps p call) (told_by op found)

-- a core with no next step is between calls
pub idle_of : (stage : EndStage) → IsNone (next_at stage) → stage ≡ Idle
idle_of Idle none = refl
idle_of (Adds f) none = absurd (cc)
idle_of (Loads f) none = absurd (cc)
idle_of (Takes f n) none = absurd (cc)

module _ (h : List Event) (c at found left : ℕ) (op : WordOp) (place : at ≡ place_in op) (leaves : left ≡ left_by op found)
    (found_is : found ≡ untaken h at) (small : found + 1 < 2 ^ 64) where
  begins : (asks : EndOp) (f : ℕ) (l : Look) → at ≡ f → receiving h c ≡ None → reached asks l.reply ≡ Ok f → MayBegin h c at asks l
  begins asks f l here between leads = record { between = between; leads = leads ∙ ap Ok (sym here) }

  did_send : (p : EndCore) (f : ℕ) (l : Look) → p.begun < most_calls → receiving h c ≡ None → reached Send l.reply ≡ Ok f
      → Some (Add f 1) ≡ Some op → Did h c at found left (Some (call_of Send f l)) p (made_of p (Some (call_of Send f l)) op found)
  did_send p f l few between leads next =
      let is : op ≡ Add f 1 = cc in
      let added : left ≡ (found + 1) % 2 ^ 64 = leaves ∙ ap (λ o. left_by o found) is in
      record {
        step = Added l;
        is = refl;
        count = omega arith;
        may = begins Send f l (place ∙ ap place_in is) between leads;
        more = omega arith;
        most = omega arith;
        frames_are = refl;
        knows = refl;
      }

  did_recv : (p : EndCore) (f : ℕ) (l : Look) → p.begun < most_calls → receiving h c ≡ None → reached Recv l.reply ≡ Ok f
      → Some (Load f) ≡ Some op → Did h c at found left (Some (call_of Recv f l)) p (made_of p (Some (call_of Recv f l)) op found)
  did_recv p f l few between leads next =
      let is : op ≡ Load f = cc in
      let here : at ≡ f = place ∙ ap place_in is in
      let same : left ≡ found = leaves ∙ ap (λ o. left_by o found) is in
      let told : told_by op found ≡ found = ap (λ o. told_by o found) is in
      let stage : ℕ → Bool → EndStage = λ n b. if b then Idle else Takes f n in
      let goes : Bool → Option Receiving = λ b. if b then None else Some (receive_at at found) in
      let after : ℕ → EndStage = λ n. stage n (n == 0) in
      record {
        step = Loaded l found;
        is = refl;
        count = same;
        may = (begins Recv f l here between leads, found_is);
        more = omega arith;
        most = omega arith;
        frames_are = refl;
        knows = subst (λ n. Knows (goes (found == 0)) (after n)) (sym told) (dite (ℕ_discrete found 0)
            (λ (none : found ≡ 0). subst (λ b. Knows (goes b) (stage found b)) (sym (eq-eqb found 0 none)) refl)
            (λ (some : found ≢ 0). subst (λ b. Knows (goes b) (stage found b)) (sym (ne_eqb found 0 some))
            (omega arith, ap (λ i. Some (receive_at i found)) here)));
      }

  did_take : (p : EndCore) (f n : ℕ) → p.begun ≤ most_calls → 0 < n → receiving h c ≡ Some (receive_at f n)
      → Some (Compare f n 0) ≡ Some op
      → (q : EndCore) → q.begun ≡ p.begun → q.frames ≡ p.frames → q.stage ≡ Idle → Did h c at found left None p q
  did_take p f n few some receives next q begun frames idle =
      let is : op ≡ Compare f n 0 = cc in
      let here : at ≡ f = place ∙ ap place_in is in
      let leaves_it : left ≡ (if found == n then 0 else found) = leaves ∙ ap (λ o. left_by o found) is in
      let by_test : Bool → EndStep = λ b. if b then Missed found else Took found in
      let mine : receiving h c ≡ Some (receive_at at n) = receives ∙ ap (λ i. Some (receive_at i n)) (sym here) in
      dite (ℕ_discrete found n)
      (λ (same : found ≡ n).
      let none : left ≡ 0 = leaves_it ∙ ap (λ b. if b then 0 else found) (eq-eqb found n same) in record {
        step = Took found;
        is = ap by_test (ne_eqb found left (λ e. omega arith));
        count = none;
        may = (mine ∙ ap (λ k. Some (receive_at at k)) (sym same), found_is);
        more = omega arith;
        most = omega arith;
        frames_are = frames;
        knows = subst (Knows None) (sym idle) refl;
      })
      (λ (other : found ≢ n).
      let kept : left ≡ found = leaves_it ∙ ap (λ b. if b then 0 else found) (ne_eqb found n other) in record {
        step = Missed found;
        is = ap by_test (eq-eqb found left (sym kept));
        count = kept;
        may = record { seen = n; receives = mine; count = found_is; another = other };
        more = omega arith;
        most = omega arith;
        frames_are = frames;
        knows = subst (Knows None) (sym idle) refl;
      })

  did_later : (p : EndCore) (stage : EndStage) → p.stage ≡ stage → p.begun ≤ most_calls → Knows (receiving h c) stage
      → next_at stage ≡ Some op → Did h c at found left None p (made_of p None op found)
  did_later p Idle at_stage few knows next = absurd (none-some op next)
  did_later p (Adds f) at_stage few knows next = absurd knows
  did_later p (Loads f) at_stage few knows next = absurd knows
  did_later p (Takes f n) at_stage few knows next =
      did_take p f n few knows.0 knows.1 next (made_of p None op found) refl refl
      (ap (λ s. stage_after s (told_by op found)) at_stage)

  did_first : (p : EndCore) (asks : EndOp) (f : ℕ) (l : Look) → p.begun < most_calls → receiving h c ≡ None
      → reached asks l.reply ≡ Ok f → end_steps.next (called end_steps p (Some (call_of asks f l))) ≡ Some op
      → Did h c at found left (Some (call_of asks f l)) p (made_of p (Some (call_of asks f l)) op found)
  did_first p Send f l few between leads next = did_send p f l few between leads next
  did_first p Recv f l few between leads next = did_recv p f l few between leads next

  pub did : (p : EndCore) (call : Option EndCall) → table.MayCall end_steps p call → p.begun ≤ most_calls
      → Knows (receiving h c) p.stage → end_steps.next (called end_steps p call) ≡ Some op
      → Did h c at found left call p (made_of p call op found)
  did p None may few knows next = did_later p p.stage refl few knows next
  did p (Some call) may few knows next =
      did_first p call.op call.frame call.look may.1.few (subst (Knows (receiving h c)) (idle_of p.stage may.0) knows) may.1.leads next
