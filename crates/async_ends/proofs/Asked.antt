-- What a call adds to the events of its core, and that the sends to a frame are those of all cores.
use Rattle.std.proofs.Common.{◌≡◌, ◌≢◌, inl, inr, ℕ, zero, suc, ◌+◌, ◌<◌, ◌≤◌, ◌==◌, List, [], ◌∷◌, ◌++◌, if◌then◌else◌, Some, None, Result}
use Rattle.std.proofs.Common.{Ok, Err, refl, sym, ap, ◌∙◌, subst, arith, append-nil, append_assoc, eq-eqb, ne_eqb, flat_map}
use Rattle.async_ends.specs.{reached, Added, Loaded, Took, Missed, Event, event, events_by, AreOfOthers, ExtendsByOthers, sends_in, sent_to}
use Rattle.async_ends.specs.{event_in, history_of, call_of, Comes, EndSeatValue, AreStepsOf, AreStepsOfAll}
use Rattle.spk_nums.specs.{declared.replies.Reply.Reply, declared.steps.WordOp.TheVariants.Load, declared.steps.WordOp.TheVariants.Compare}
use Rattle.async_ends.specs.{declared.asks.Look.Look, declared.endpoint.EndOp.EndOp, declared.endpoint.EndOp.TheVariants.Send}
use Rattle.async_ends.specs.{declared.endpoint.EndOp.TheVariants.Recv, declared.endpoint.EndCall.EndCall}
use Rattle.async_ends.specs.{declared.endpoint.EndReply.EndReply, declared.endpoint.EndReply.TheVariants.Sent}
use Rattle.async_ends.specs.{declared.endpoint.EndReply.TheVariants.Taken, declared.endpoint.EndReply.TheVariants.Raced}
use Rattle.async_ends.specs.{declared.asks.EndDone.EndDone, Calls.AddsOne, Calls.FindsNone, Calls.ComparesIt, Calls.ComesTo, Asked.taken_by}
use Rattle.async_ends.proofs.{Histories.history_of-append, Histories.history_of-others, Closing.all_zip_push}
use Rattle.{std.proofs.lemmas.Bool.cases_eq, std.proofs.lemmas.Bool.cases_lt, std.proofs.lemmas.Grind.flat_map-append}
use Rattle.{spk_nums.specs.declared.steps.WordOp.TheVariants.Add, spk_nums.specs.WordSteps.left_by}
use Rattle.{turn_rule.specs.declared.view.Entry.Entry, turn_rule.specs.Trace.entry, async_ends.specs.Asked.AreStepsBy}
use Rattle.{async_ends.specs.Asked.look_in}
use mathlib.Core.Logic.{dite}
use native.Mathlib.Decide.{ℕ_discrete}
use Rattle.turn_rule.specs.Trace as table

-- ---- the events of a core

events_own : (c : ℕ) (e : Event) (h : List Event) → e.core ≡ c → events_by (e ∷ h) c ≡ events_by h c ++ e ∷ []
events_own c e h own = rw (eq-eqb e.core c own)

events_other : (c : ℕ) (e : Event) (h : List Event) → e.core ≢ c → events_by (e ∷ h) c ≡ events_by h c
events_other c e h other = rw (ne_eqb e.core c other)

-- events of others add none
pub events_past : (c : ℕ) (xs ys : List Event) → AreOfOthers c xs → events_by (xs ++ ys) c ≡ events_by ys c
events_past c [] ys h = refl
events_past c (e ∷ xs) ys h = events_other c e (xs ++ ys) h.0 ∙ events_past c xs ys h.1

pub events_kept : (c : ℕ) (older newer : List Event) → ExtendsByOthers c older newer → events_by newer c ≡ events_by older c
events_kept c older newer x = ap (λ (h : List Event). events_by h c) x.begins ∙ events_past c x.since older x.apart

pub events_none : (c : ℕ) (h : List Event) → AreOfOthers c h → events_by h c ≡ []
events_none c [] apart = refl
events_none c (e ∷ h) apart = events_other c e h apart.0 ∙ events_none c h apart.1

-- ---- a call

-- a call's events, in order, by which its core's have grown
pub record StepsMade (op : EndOp) (c : ℕ) (l : Look) (r : Result ℕ Reply) (answer : EndReply) (before after : List Event) : Type 0 where
  pub steps : List Event
  pub are : AreStepsBy op c l r answer steps
  pub more : events_by after c ≡ events_by before c ++ steps

-- an entry of core c on top of others' entries
own_after : (c : ℕ) (e : Entry EndCall) (others before : List (Entry EndCall)) → e.core ≡ c → table.AreOfOthers c others
    → events_by (history_of (e ∷ (others ++ before))) c ≡ events_by (history_of before) c ++ event_in e ∷ []
own_after c e others before own apart = events_own c (event_in e) (history_of (others ++ before)) own
    ∙ ap (λ (l : List Event). l ++ event_in e ∷ []) (ap (λ (h : List Event). events_by h c) (history_of-append others before)
    ∙ events_past c (history_of others) (history_of before) (history_of-others c others apart))

module _ (c f : ℕ) (l : Look) (before after : List (Entry EndCall)) where
  sent : AddsOne c f l before after → (answer : EndReply) → answer ≡ Sent
      → StepsMade Send c l (Ok f) answer (history_of before) (history_of after)
  sent d answer is = subst (λ r. StepsMade Send c l (Ok f) r (history_of before) (history_of after)) (sym is) record {
    steps = event c f (Added l) ∷ [];
    are = (refl, refl);
    more = ap (λ t. events_by (history_of t) c) d.whole
        ∙ own_after c (entry c (Add f 1) d.found (Some (call_of Send f l))) d.others before refl d.apart;
  }

  none_taken : FindsNone c f l before after → (answer : EndReply) → answer ≡ Taken 0
      → StepsMade Recv c l (Ok f) answer (history_of before) (history_of after)
  none_taken d answer is = subst (λ r. StepsMade Recv c l (Ok f) r (history_of before) (history_of after)) (sym is) record {
    steps = event c f (Loaded l 0) ∷ [];
    are = (refl, refl);
    more = ap (λ t. events_by (history_of t) c) d.whole
        ∙ own_after c (entry c (Load f) 0 (Some (call_of Recv f l))) d.others before refl d.apart;
  }

  module _ (answer : EndReply) (d : ComparesIt c f l answer before after) where
    abbrev last : Event
    last = event_in (entry c (Compare f d.seen 0) d.found None)

    two : events_by (history_of after) c ≡ events_by (history_of before) c ++ event c f (Loaded l d.seen) ∷ last ∷ []
    two =
        let first = entry c (Load f) d.seen (Some (call_of Recv f l)) in
        ap (λ t. events_by (history_of t) c) d.whole
        ∙ own_after c (entry c (Compare f d.seen 0) d.found None) d.between (first ∷ (d.others ++ before)) refl d.between_apart
        ∙ ap (λ (h : List Event). h ++ last ∷ []) (own_after c first d.others before refl d.apart)
        ∙ append_assoc (events_by (history_of before) c) (event c f (Loaded l d.seen) ∷ []) (last ∷ [])

    two_steps : StepsMade Recv c l (Ok f) answer (history_of before) (history_of after)
    two_steps = dite (ℕ_discrete d.found d.seen)
        (λ (same : d.found ≡ d.seen).
        let taken : answer ≡ Taken d.seen = d.is ∙ ap (λ b. if b then Taken d.seen else Raced) (eq-eqb d.found d.seen same) in
        let left : left_by (Compare f d.seen 0) d.found ≡ 0 = ap (λ b. if b then 0 else d.found) (eq-eqb d.found d.seen same) in
        let some = d.some in
        let step : last ≡ event c f (Took d.seen) = ap (λ b. event c f (if b then Missed d.found else Took d.found))
        (ne_eqb d.found (left_by (Compare f d.seen 0) d.found) (λ e. omega arith)) ∙ ap (λ n. event c f (Took n)) same in
        subst (λ r. StepsMade Recv c l (Ok f) r (history_of before) (history_of after)) (sym taken) record {
          steps = taken_by c f l d.seen;
          are = (refl, refl);
          more = two ∙ ap (λ (e : Event). events_by (history_of before) c ++ event c f (Loaded l d.seen) ∷ e ∷ []) step
              ∙ ap (λ b. events_by (history_of before) c ++ event c f (Loaded l d.seen) ∷ (if b then [] else event c f (Took d.seen) ∷ []))
              (sym (ne_eqb d.seen 0 (λ e. omega arith)));
        })
        (λ (other : d.found ≢ d.seen).
        let raced : answer ≡ Raced = d.is ∙ ap (λ b. if b then Taken d.seen else Raced) (ne_eqb d.found d.seen other) in
        let left : left_by (Compare f d.seen 0) d.found ≡ d.found = ap (λ b. if b then 0 else d.found) (ne_eqb d.found d.seen other) in
        let step : last ≡ event c f (Missed d.found) = ap (λ b. event c f (if b then Missed d.found else Took d.found))
        (eq-eqb d.found (left_by (Compare f d.seen 0) d.found) (sym left)) in
        subst (λ r. StepsMade Recv c l (Ok f) r (history_of before) (history_of after)) (sym raced) record {
          steps = event c f (Loaded l d.seen) ∷ event c f (Missed d.found) ∷ [];
          are = (refl, record { seen = d.seen; some = d.some; found = d.found; another = other; are = refl });
          more = two ∙ ap (λ (e : Event). events_by (history_of before) c ++ event c f (Loaded l d.seen) ∷ e ∷ []) step;
        })

steps_made : (op : EndOp) (c : ℕ) (l : Look) (r : Result ℕ Reply) (answer : EndReply) (before after : List (Entry EndCall))
    → ComesTo op c l r answer before after → StepsMade op c l r answer (history_of before) (history_of after)
steps_made op c l (Err refusal) answer before after comes = record {
  steps = [];
  are = (comes.0, refl);
  more = ap (λ t. events_by (history_of t) c) comes.1 ∙ sym (append-nil (events_by (history_of before) c));
}
steps_made Send c l (Ok f) answer before after does = sent c f l before after does.0 answer does.1
steps_made Recv c l (Ok f) answer before after (inl does) = none_taken c f l before after does.0 answer does.1
steps_made Recv c l (Ok f) answer before after (inr does) = two_steps c f l before after answer does

-- the events of a call that was made are its core's next
pub done_steps : (d : EndDone) (seat made : EndSeatValue) → Comes d.ask.op (look_in d) d.answer seat made
    → StepsMade d.ask.op seat.core (look_in d) (reached d.ask.op d.looked) d.answer (history_of seat.seen) (history_of made.seen)
done_steps d seat made m = steps_made d.ask.op seat.core (look_in d) (reached d.ask.op d.looked) d.answer seat.seen made.seen m.comes

-- a core that has made no call, and one that has made one more
pub no_steps : (c : ℕ) (events : List Event) → events ≡ [] → AreStepsOfAll c [] events
no_steps c events none = record { steps = []; each = tt; whole = none }

pub one_more : (c : ℕ) (done : List EndDone) (events : List Event) (d : EndDone) (steps : List Event) → AreStepsOfAll c done events
    → AreStepsOf c d steps → AreStepsOfAll c (done ++ d ∷ []) (events ++ steps)
one_more c done events d steps all are = record {
  steps = all.steps ++ steps ∷ [];
  each = all_zip_push (AreStepsOf c) done all.steps d steps all.each are;
  whole = ap (λ (l : List Event). l ++ steps) all.whole
      ∙ ap (λ (l : List Event). flat_map (λ s. s) all.steps ++ l) (sym (append-nil steps))
      ∙ sym (flat_map-append (λ s. s) all.steps (steps ∷ []));
}

-- ---- sends

pub sent_append : (xs ys : List Event) (f : ℕ) → sent_to (xs ++ ys) f ≡ sent_to xs f + sent_to ys f
sent_append [] ys f = omega arith
sent_append (e ∷ xs) ys f = let rest = sent_append xs ys f in omega arith

-- the first n numbers, added up
abbrev pub sum_below : (ℕ → ℕ) → ℕ → ℕ
sum_below f zero = 0
sum_below f (suc n) = sum_below f n + f n

sum_same : (n : ℕ) (f g : ℕ → ℕ) → ((c : ℕ) → c < n → g c ≡ f c) → sum_below g n ≡ sum_below f n
sum_same zero f g h = refl
sum_same (suc n) f g h = let rest = sum_same n f g (λ c lt. h c (omega arith)) in let last = h n (omega arith) in omega arith

sum_changed : (n k m : ℕ) (f g : ℕ → ℕ) → k < n → g k ≡ f k + m → ((c : ℕ) → c ≢ k → g c ≡ f c) → sum_below g n ≡ sum_below f n + m
sum_changed zero k m f g lt here other = absurd (omega arith)
sum_changed (suc n) k m f g lt here other = elim (cases_eq k n) [
  | inl last ↦
      let rest = sum_same n f g (λ c below. other c (λ same. omega arith)) in
      let at : g n ≡ f n + m = subst (λ (i : ℕ). g i ≡ f i + m) last here in
      omega arith
  | inr earlier ↦
      let rest = sum_changed n k m f g (omega arith) here other in
      let last = other n (λ same. earlier (sym same)) in
      omega arith
]

sum_zero : (n : ℕ) → sum_below (λ c. 0) n ≡ 0
sum_zero zero = refl
sum_zero (suc n) = let rest = sum_zero n in omega arith

-- all sends to a frame are those of the cores below n, where no other core has an event
pub sent_by_cores : (n : ℕ) (h : List Event) (f : ℕ) → ((c : ℕ) → n ≤ c → AreOfOthers c h)
    → sent_to h f ≡ sum_below (λ c. sent_to (events_by h c) f) n
sent_by_cores n [] f none = sym (sum_zero n)
sent_by_cores n (e ∷ h) f none =
    let inside : e.core < n = elim (cases_lt e.core n) [ inl lt ↦ lt | inr le ↦ absurd ((none e.core le).0 refl) ] in
    let m = if e.frame == f then sends_in e.step else 0 in
    let here : sent_to (events_by (e ∷ h) e.core) f ≡ sent_to (events_by h e.core) f + m =
    ap (λ (l : List Event). sent_to l f) (events_own e.core e h refl) ∙ sent_append (events_by h e.core) (e ∷ []) f
    ∙ (let one : sent_to (e ∷ []) f ≡ m + 0 = refl in omega arith) in
    let before = sent_by_cores n h f (λ c le. (none c le).1) in
    let more = sum_changed n e.core m (λ c. sent_to (events_by h c) f) (λ c. sent_to (events_by (e ∷ h) c) f) inside here
    (λ c other. ap (λ (l : List Event). sent_to l f) (events_other c e h (λ same. other (sym same)))) in
    omega arith
