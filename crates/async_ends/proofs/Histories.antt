-- Histories that grow by a step.
use Rattle.std.proofs.Common.{◌≡◌, ◌≢◌, ◌⊎◌, ⊎_elim, inl, inr, ℕ, ◌+◌, ◌≤◌, Bool, List, [], ◌∷◌, ◌++◌, if◌then◌else◌, Some, None, refl, sym}
use Rattle.std.proofs.Common.{ap, ◌∙◌, subst, arith, eq-eqb, ne_eqb}
use Rattle.async_ends.specs.{Added, Loaded, Took, Missed, Event, event, count_by, untaken, sends_in, sent_to, taken_at, receive_at}
use Rattle.async_ends.specs.{receiving, MayDo, IsLegal, AreOfOthers, ExtendsByOthers, event_in, history_of}
use Rattle.async_ends.specs.{declared.endpoint.EndCall.EndCall, Events.EndStep, Events.takes_in, Events.going, Events.Moves}
use Rattle.async_ends.specs.{Events.WasCrossed, Events.CrossedBefore, Events.AreCrossed, Calls.IsMoved}
use Rattle.{std.proofs.lemmas.Option.none-some, turn_rule.specs.declared.view.Entry.Entry}
use mathlib.Core.Logic.{dite}
use native.Mathlib.Decide.{ℕ_discrete}
use Rattle.turn_rule.specs.Trace as table

counted_at_most : (step : EndStep) (n : ℕ) → count_by step n ≤ n + sends_in step
counted_at_most (Added l) n = omega arith
counted_at_most (Loaded l k) n = omega arith
counted_at_most (Took k) n = omega arith
counted_at_most (Missed k) n = omega arith

-- a step keeps the count, or moves it
keeps_or_moves : (step : EndStep) (n : ℕ) → (count_by step n ≡ n) ⊎ Moves step
keeps_or_moves (Added l) n = inr tt
keeps_or_moves (Loaded l k) n = inl refl
keeps_or_moves (Took k) n = inr tt
keeps_or_moves (Missed k) n = inl refl

module _ (e : Event) (h : List Event) where
  pub untaken_here : (f : ℕ) → e.frame ≡ f → untaken (e ∷ h) f ≡ count_by e.step (untaken h f)
  untaken_here f same = ap (λ b. if b then count_by e.step (untaken h f) else untaken h f) (eq-eqb e.frame f same)

  pub untaken_elsewhere : (f : ℕ) → e.frame ≢ f → untaken (e ∷ h) f ≡ untaken h f
  untaken_elsewhere f other = ap (λ b. if b then count_by e.step (untaken h f) else untaken h f) (ne_eqb e.frame f other)

  pub untaken_at_most : (f n m : ℕ) → untaken h f ≤ n → n + sends_in e.step ≤ m → untaken (e ∷ h) f ≤ m
  untaken_at_most f n m few more = dite (ℕ_discrete e.frame f)
      (λ (same : e.frame ≡ f). let is = untaken_here f same in let most = counted_at_most e.step (untaken h f) in omega arith)
      (λ (other : e.frame ≢ f). let is = untaken_elsewhere f other in omega arith)

  pub receiving_here : (c : ℕ) → e.core ≡ c → receiving (e ∷ h) c ≡ going e.frame e.step
  receiving_here c own = ap (λ b. if b then going e.frame e.step else receiving h c) (eq-eqb e.core c own)

  pub receiving_elsewhere : (c : ℕ) → e.core ≢ c → receiving (e ∷ h) c ≡ receiving h c
  receiving_elsewhere c other = ap (λ b. if b then going e.frame e.step else receiving h c) (ne_eqb e.core c other)

  -- a step that keeps the frame's count, or moves it
  kept_or_moved : (f : ℕ) → (untaken (e ∷ h) f ≡ untaken h f) ⊎ ((e.frame ≡ f) × Moves e.step)
  kept_or_moved f = dite (ℕ_discrete e.frame f)
      (λ (same : e.frame ≡ f). ⊎_elim (λ keeps. inl (untaken_here f same ∙ keeps)) (λ moves. inr (same, moves))
      (keeps_or_moves e.step (untaken h f)))
      (λ (other : e.frame ≢ f). inl (untaken_elsewhere f other))

-- a core that no event is of has no receive in progress
pub receiving_past : (c : ℕ) (xs ys : List Event) → AreOfOthers c xs → receiving (xs ++ ys) c ≡ receiving ys c
receiving_past c [] ys apart = refl
receiving_past c (e ∷ xs) ys apart = receiving_elsewhere e (xs ++ ys) c apart.0 ∙ receiving_past c xs ys apart.1

pub receiving_none : (c : ℕ) (h : List Event) → AreOfOthers c h → receiving h c ≡ None
receiving_none c [] apart = refl
receiving_none c (e ∷ h) apart = receiving_elsewhere e h c apart.0 ∙ receiving_none c h apart.1

-- ---- crossings

-- events that change a frame's count have one that moves it
pub moved : (xs h : List Event) (f : ℕ) → untaken (xs ++ h) f ≢ untaken h f → IsMoved xs f
moved [] h f other = absurd (other refl)
moved (e ∷ xs) h f other = ⊎_elim
    (λ keeps. let m = moved xs h f (λ same. other (keeps ∙ same)) in record {
      since = e ∷ m.since;
      by = m.by;
      older = m.older;
      whole = ap (λ (l : List Event). e ∷ l) m.whole;
      there = m.there;
      moves = m.moves;
    })
    (λ (moves : (e.frame ≡ f) × Moves e.step). record {
      since = [];
      by = e;
      older = xs;
      whole = refl;
      there = moves.0;
      moves = moves.1;
    })
    (kept_or_moved e (xs ++ h) f)

-- the count just after a load of some is the one loaded
loaded : (h : List Event) (c g f seen : ℕ) (step : EndStep) → MayDo h c g step → going g step ≡ Some (receive_at f seen)
    → untaken (event c g step ∷ h) f ≡ seen
loaded h c g f seen (Added l) may is = absurd (none-some (receive_at f seen) is)
loaded h c g f seen (Took k) may is = absurd (none-some (receive_at f seen) is)
loaded h c g f seen (Missed k) may is = absurd (none-some (receive_at f seen) is)
loaded h c g f seen (Loaded l k) may is = dite (ℕ_discrete k 0)
    (λ (none : k ≡ 0). absurd (none-some (receive_at f seen)
    (sym (ap (λ b. if b then None else Some (receive_at g k)) (eq-eqb k 0 none)) ∙ is)))
    (λ (some : k ≢ 0).
    let it : Some (receive_at g k) ≡ Some (receive_at f seen) =
    sym (ap (λ b. if b then None else Some (receive_at g k)) (ne_eqb k 0 some)) ∙ is in
    let same : receive_at g k ≡ receive_at f seen = cc in
    let here : g ≡ f = ap (λ r. r.frame) same in
    untaken_here (event c g (Loaded l k)) h f here ∙ ap (untaken h) (sym here) ∙ sym may.1 ∙ ap (λ r. r.seen) same)

-- a core in a receive was crossed since its load, or the count is still the one that it has loaded
pub still_or_crossed : (h : List Event) (c f seen : ℕ) → IsLegal h → receiving h c ≡ Some (receive_at f seen)
    → (untaken h f ≡ seen) ⊎ WasCrossed h c f
still_or_crossed [] c f seen legal is = absurd (none-some (receive_at f seen) is)
still_or_crossed (e ∷ h) c f seen legal is = dite (ℕ_discrete e.core c)
    (λ (own : e.core ≡ c). inl (loaded h e.core e.frame f seen e.step legal.1 (sym (receiving_here e h c own) ∙ is)))
    (λ (other : e.core ≢ c). ⊎_elim
    (λ (same : untaken h f ≡ seen). ⊎_elim (λ keeps. inl (keeps ∙ same))
    (λ (moves : (e.frame ≡ f) × Moves e.step). inr record {
      since = [];
      other = e;
      older = h;
      whole = refl;
      apart = tt;
      another = other;
      there = moves.0;
      moves = moves.1;
    })
    (kept_or_moved e h f))
    (λ (w : WasCrossed h c f). inr record {
      since = e ∷ w.since;
      other = w.other;
      older = w.older;
      whole = ap (λ (l : List Event). e ∷ l) w.whole;
      apart = (other, w.apart);
      another = w.another;
      there = w.there;
      moves = w.moves;
    })
    (still_or_crossed h c f seen legal.0 (sym (receiving_elsewhere e h c other) ∙ is)))

crossed_before : (h : List Event) (c f : ℕ) (step : EndStep) → IsLegal h → MayDo h c f step → CrossedBefore h c f step
crossed_before h c f (Added l) legal may = tt
crossed_before h c f (Loaded l k) legal may = tt
crossed_before h c f (Took k) legal may = tt
crossed_before h c f (Missed k) legal may = ⊎_elim (λ still. absurd (may.another (may.count ∙ still))) (λ w. w)
    (still_or_crossed h c f may.seen legal may.receives)

-- in a legal history each receive that missed was crossed
pub all_crossed : (h : List Event) → IsLegal h → AreCrossed h
all_crossed [] legal = tt
all_crossed (e ∷ h) legal = (all_crossed h legal.0, crossed_before h e.core e.frame e.step legal.0 legal.1)

-- ---- entries

-- entries on top of others are their histories on top of each other
pub history_of-append : (xs ys : List (Entry EndCall)) → history_of (xs ++ ys) ≡ history_of xs ++ history_of ys
history_of-append [] ys = refl
history_of-append (e ∷ xs) ys = ap (λ l. event_in e ∷ l) (history_of-append xs ys)

pub history_of-others : (c : ℕ) (xs : List (Entry EndCall)) → table.AreOfOthers c xs → AreOfOthers c (history_of xs)
history_of-others c [] h = tt
history_of-others c (e ∷ xs) h = (h.0, history_of-others c xs h.1)

pub extends_by_others : (c : ℕ) (older newer : List (Entry EndCall)) → table.ExtendsByOthers c older newer
    → ExtendsByOthers c (history_of older) (history_of newer)
extends_by_others c older newer x = record {
  since = history_of x.since;
  begins = ap history_of x.whole ∙ history_of-append x.since older;
  apart = history_of-others c x.since x.apart;
}

-- ---- what is left

-- what is left of a step on its frame, where all before it balances
balanced : (step : EndStep) (h : List Event) (c f u t s : ℕ) → MayDo h c f step → untaken h f ≡ u → u + t ≡ s
    → count_by step u + (takes_in step + t) ≡ sends_in step + s
balanced (Added l) h c f u t s may is sums = omega arith
balanced (Loaded l k) h c f u t s may is sums = omega arith
balanced (Took k) h c f u t s may is sums = let took : k ≡ untaken h f = may.1 in omega arith
balanced (Missed k) h c f u t s may is sums = omega arith

-- in a legal history each send was taken once, or is left
pub balance : (h : List Event) (f : ℕ) → IsLegal h → untaken h f + taken_at h f ≡ sent_to h f
balance [] f legal = refl
balance (e ∷ h) f legal =
    let before = balance h f legal.0 in
    let u = untaken h f in
    let sums : Bool → Type 0 = λ b. (if b then count_by e.step u else u) + ((if b then takes_in e.step else 0) + taken_at h f)
    ≡ (if b then sends_in e.step else 0) + sent_to h f in
    dite (ℕ_discrete e.frame f)
    (λ (same : e.frame ≡ f). subst sums (sym (eq-eqb e.frame f same))
    (balanced e.step h e.core e.frame u (taken_at h f) (sent_to h f) legal.1 (ap (untaken h) same) before))
    (λ (other : e.frame ≢ f). subst sums (sym (ne_eqb e.frame f other)) (omega arith))
