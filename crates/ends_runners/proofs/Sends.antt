-- The sends of calls, of runners, and of a history.
use Rattle.core_kernel.specs.kernel_rules.proofs.{◌≡◌, inl, inr, Bool, true, false, ◌==◌, ℕ, zero, suc, ◌+◌, ◌*◌, ◌<◌, ◌≤◌, ◌^◌, List, []}
use Rattle.core_kernel.specs.kernel_rules.proofs.{◌∷◌, ◌++◌, length, take, replicate, get_or, Result, Ok, Err, All, if◌then◌else◌, eq-eqb}
use Rattle.core_kernel.specs.kernel_rules.proofs.{ne_eqb, refl, sym, ◌∙◌, ap, subst, arith, slice_get, slice_index, Some, flat_map}
use Rattle.core_kernel.specs.kernel_rules.proofs.{take_more, length-take-le, Reply}
use Rattle.async_ends.specs.{Loaded, Took, Event, event, sent_to, reached, AreStepsOf, AreStepsOfAll}
use Rattle.ends_runners.specs.{EndRunnerValue, sends_among, sends_by}
use Rattle.std.proofs.{lemmas.Bool.cases_eq, lemmas.List.get_or-take, lemmas.List.Concat.flat_map-cons, lemmas.Option.get_or_from_slice_get}
use Rattle.async_ends.specs.{declared.endpoint.EndOp.EndOp, declared.endpoint.EndReply.EndReply}
use Rattle.async_ends.specs.{declared.endpoint.EndReply.TheVariants.Sent, declared.endpoint.EndReply.TheVariants.Taken}
use Rattle.async_ends.specs.{declared.endpoint.EndReply.TheVariants.Raced, declared.endpoint.EndReply.TheVariants.Refused}
use Rattle.async_ends.specs.{declared.asks.Look.Look, declared.asks.EndDone.EndDone, Asked.AreStepsBy, Asked.look_in}
use Rattle.{std.specs.List.AllZip, async_ends.proofs.Asked.sent_append, async_ends.proofs.Asked.sum_below}
use Rattle.{ends_runners.specs.Tallies.sends_at, ends_runners.specs.Tallies.sends_of}

zero_either : (b : Bool) → ◌≡◌ {A = ℕ} (if b then 0 else 0) 0
zero_either true = refl
zero_either false = refl

-- what a call's events send
sent_by_steps : (op : EndOp) (c : ℕ) (l : Look) (r : Result ℕ Reply) (answer : EndReply) (steps : List Event) (f : ℕ)
    → AreStepsBy op c l r answer steps → sent_to steps f ≡ sends_at r answer f
sent_by_steps op c l (Err refusal) answer steps f h = ap (λ (s : List Event). sent_to s f) h.1
sent_by_steps op c l (Ok g) Sent steps f h =
    let is : sent_to steps f ≡ (if g == f then 1 else 0) + 0 = ap (λ (s : List Event). sent_to s f) h.1 in omega arith
sent_by_steps op c l (Ok g) (Taken k) steps f h = ap (λ (s : List Event). sent_to s f) h.1 ∙ either (k == 0)
  where
    either : (b : Bool) → sent_to (event c g (Loaded l k) ∷ (if b then [] else event c g (Took k) ∷ [])) f ≡ 0
    either true = (let zero = zero_either (g == f) in omega arith)
    either false = (let zero = zero_either (g == f) in omega arith)
sent_by_steps op c l (Ok g) Raced steps f h =
    let zero = zero_either (g == f) in
    let is : sent_to steps f ≡ (if g == f then 0 else 0) + ((if g == f then 0 else 0) + 0) =
    ap (λ (s : List Event). sent_to s f) h.1.are in
    omega arith
sent_by_steps op c l (Ok g) (Refused q) steps f h = absurd h

sent_by_zip : (c : ℕ) (done : List EndDone) (steps : List (List Event)) (f : ℕ) → AllZip (AreStepsOf c) done steps
    → sent_to (flat_map (λ s. s) steps) f ≡ sends_among done f
sent_by_zip c [] [] f z = refl
sent_by_zip c [] (s ∷ ss) f z = absurd z
sent_by_zip c (d ∷ ds) [] f z = absurd z
sent_by_zip c (d ∷ ds) (s ∷ ss) f z =
    let one : sent_to s f ≡ sends_of d f = sent_by_steps d.ask.op c (look_in d) (reached d.ask.op d.looked) d.answer s f z.0 in
    let rest = sent_by_zip c ds ss f z.1 in
    let parts = ap (λ (l : List Event). sent_to l f) (flat_map-cons (λ (x : List Event). x) s ss) in
    let sum = sent_append s (flat_map (λ x. x) ss) f in
    omega arith

pub among_events : (c : ℕ) (done : List EndDone) (events : List Event) (f : ℕ) → AreStepsOfAll c done events
    → sent_to events f ≡ sends_among done f
among_events c done events f all = ap (λ (l : List Event). sent_to l f) all.whole ∙ sent_by_zip c done all.steps f all.each

-- a call sends at most once
one_at_most : (r : Result ℕ Reply) (answer : EndReply) (f : ℕ) → sends_at r answer f ≤ 1
one_at_most (Err e) answer f = omega arith
one_at_most (Ok g) Sent f = elim (cases_eq g f) [
  | inl same ↦ let is : sends_at (Ok g) Sent f ≡ 1 = ap (λ b. if b then 1 else 0) (eq-eqb g f same) in omega arith
  | inr other ↦ let is : sends_at (Ok g) Sent f ≡ 0 = ap (λ b. if b then 1 else 0) (ne_eqb g f other) in omega arith
]
one_at_most (Ok g) (Taken k) f = omega arith
one_at_most (Ok g) Raced f = omega arith
one_at_most (Ok g) (Refused r) f = omega arith

pub sends_at_most : (d : EndDone) (f : ℕ) → sends_of d f ≤ 1
sends_at_most d f = one_at_most (reached d.ask.op d.looked) d.answer f

pub among_at_most : (done : List EndDone) (f : ℕ) → sends_among done f ≤ length done
among_at_most [] f = omega arith
among_at_most (d ∷ ds) f = let one = sends_at_most d f in let rest = among_at_most ds f in omega arith

pub among_push : (ds : List EndDone) (d : EndDone) (f : ℕ) → sends_among (ds ++ d ∷ []) f ≡ sends_among ds f + sends_of d f
among_push [] d f = omega arith
among_push (e ∷ ds) d f = let rest = among_push ds d f in omega arith

pub by_push : (rs : List EndRunnerValue) (r : EndRunnerValue) (f : ℕ) → sends_by (rs ++ r ∷ []) f ≡ sends_by rs f + sends_among r.done f
by_push [] r f = omega arith
by_push (q ∷ rs) r f = let rest = by_push rs r f in omega arith

-- few runners of few calls have few sends
pub by_at_most : (rs : List EndRunnerValue) (n f : ℕ) → All (λ r. length r.done < n) rs → sends_by rs f ≤ length rs * n
by_at_most [] n f few = omega arith
by_at_most (r ∷ rs) n f few =
    let most = among_at_most r.done f in
    let here = few 0 r (omega arith) in
    let rest : sends_by rs f ≤ length rs * n = by_at_most rs n f (λ k d lt. few (suc k) d (omega arith)) in
    grind arith

-- ---- as they are counted

pub zeros : (n f : ℕ) → slice_index (replicate n 0) f ≡ 0
zeros zero f = refl
zeros (suc n) zero = refl
zeros (suc n) (suc f) = zeros n f

pub added_more : (ds : List EndDone) (k : ℕ) (d : EndDone) (first old new : List ℕ) → k < length ds → d ≡ get_or ds k d
    → ((f : ℕ) → slice_index old f ≡ slice_index first f + sends_among (take k ds) f)
    → ((f : ℕ) → slice_index new f ≡ slice_index old f + sends_of d f)
    → (f : ℕ) → slice_index new f ≡ slice_index first f + sends_among (take (k + 1) ds) f
added_more ds k d first old new low at was adds f =
    let more : take (k + 1) ds ≡ take k ds ++ d ∷ [] = take_more ds k d low ∙ ap (λ x. take k ds ++ x ∷ []) (sym at) in
    let pushed = ap (λ (q : List EndDone). sends_among q f) more ∙ among_push (take k ds) d f in
    let a = was f in
    let b = adds f in
    omega arith

pub added_room : (ds : List EndDone) (k : ℕ) (first old : List ℕ) → k < length ds
    → ((f : ℕ) → slice_index old f ≡ slice_index first f + sends_among (take k ds) f)
    → ((f : ℕ) → slice_index first f + length ds < 2 ^ 64) → (f : ℕ) → slice_index old f + 1 < 2 ^ 64
added_room ds k first old low was room f =
    let size = length-take-le k ds (omega arith) in
    let most = among_at_most (take k ds) f in
    let a = was f in
    let b = room f in
    omega arith

pub sent_more : (rs : List EndRunnerValue) (k : ℕ) (r : EndRunnerValue) (old new : List ℕ) → k < length rs → r ≡ get_or rs k r
    → ((f : ℕ) → slice_index old f ≡ sends_by (take k rs) f)
    → ((f : ℕ) → slice_index new f ≡ slice_index old f + sends_among r.done f)
    → (f : ℕ) → slice_index new f ≡ sends_by (take (k + 1) rs) f
sent_more rs k r old new low at was adds f =
    let more : take (k + 1) rs ≡ take k rs ++ r ∷ [] = take_more rs k r low ∙ ap (λ x. take k rs ++ x ∷ []) (sym at) in
    let pushed = ap (λ (q : List EndRunnerValue). sends_by q f) more ∙ by_push (take k rs) r f in
    let a = was f in
    let b = adds f in
    omega arith

pub sent_room : (rs : List EndRunnerValue) (k : ℕ) (r : EndRunnerValue) (old : List ℕ) → length rs ≤ 8 → k < length rs
    → r ≡ get_or rs k r → All (λ r. length r.done < 2 ^ 32) rs → ((f : ℕ) → slice_index old f ≡ sends_by (take k rs) f)
    → (f : ℕ) → slice_index old f + length r.done < 2 ^ 64
sent_room rs k r old most low at few was f =
    let here : length r.done < 2 ^ 32 = subst (λ (x : EndRunnerValue). length x.done < 2 ^ 32) (sym at) (few k r low) in
    let size : length (take k rs) ≡ k = length-take-le k rs (omega arith) in
    let sum : sends_by (take k rs) f ≤ length (take k rs) * 2 ^ 32 = by_at_most (take k rs) (2 ^ 32) f
    (λ j d lt. subst (λ (x : EndRunnerValue). length x.done < 2 ^ 32) (sym (get_or-take k rs j d (omega arith))) (few j d (omega arith))) in
    let a = was f in
    omega arith

-- the sends of runners are the sum of those of their cores
pub by_cores : (rs : List EndRunnerValue) (g : ℕ → ℕ) (n f : ℕ) → n ≤ length rs
    → ((k : ℕ) → k < n → (r : EndRunnerValue) × (slice_get rs k ≡ Some r) × (sends_among r.done f ≡ g k))
    → sends_by (take n rs) f ≡ sum_below g n
by_cores rs g zero f le each = refl
by_cores rs g (suc n) f le each =
    let l = each n (omega arith) in
    let before = by_cores rs g n f (omega arith) (λ k lt. each k (omega arith)) in
    let next : suc n ≡ n + 1 = omega arith in
    let read : get_or rs n l.0 ≡ l.0 = get_or_from_slice_get rs n l.0 l.0 l.1 in
    let more : take (suc n) rs ≡ take n rs ++ l.0 ∷ [] =
    ap (λ (k : ℕ). take k rs) next ∙ take_more rs n l.0 (omega arith) ∙ ap (λ r. take n rs ++ r ∷ []) read in
    let pushed = ap (λ (q : List EndRunnerValue). sends_by q f) more ∙ by_push (take n rs) l.0 f in
    let here = l.2 in
    omega arith
