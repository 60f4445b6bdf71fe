-- What holds along a sound trace of the table: the words are the counts of a legal history.
use Rattle.std.proofs.Common.{◌≡◌, ◌≢◌, ℕ, ◌+◌, ◌*◌, ◌<◌, ◌≤◌, ◌^◌, List, [], ◌∷◌, Option, Some, None, refl, sym, ap, ◌∙◌, subst, arith}
use Rattle.async_ends.specs.{Event, event, count_by, sends_in, receiving, AreOfOthers, IsLegal, untaken, EndCore, most_calls, end_steps}
use Rattle.turn_rule.proofs.{kept_along, word_here, word_elsewhere, program_here, program_elsewhere, core_inside}
use Rattle.turn_rule.specs.{word_after, program_after, MayFollow, IsSound, declared.view.Entry.Entry, declared.view.Start.Start}
use Rattle.async_ends.proofs.Histories.{untaken_here, untaken_elsewhere, untaken_at_most, receiving_here, receiving_elsewhere}
use Rattle.async_ends.proofs.Steps.{Knows, Did, made_of, did}
use Rattle.async_ends.proofs.Totals.{total, total_changed, total_at_most}
use Rattle.{async_ends.specs.history_of, async_ends.specs.IsStart, async_ends.specs.declared.endpoint.EndCall.EndCall}
use mathlib.Core.Logic.{dite}
use native.Mathlib.Decide.{ℕ_discrete}

module _ (frames cores : ℕ) (start : Start EndCore) (is : IsStart frames cores start) where
  abbrev pub begun_in : Option EndCore → ℕ
  begun_in None = 0
  begun_in (Some p) = p.begun

  abbrev pub begun_after : List (Entry EndCall) → ℕ → ℕ
  begun_after t c = begun_in (program_after end_steps start t c)

  pub record Good (t : List (Entry EndCall)) (c : ℕ) (p : EndCore) : Type 0 where
    pub most : p.begun ≤ most_calls
    pub frames_are : p.frames ≡ frames
    pub knows : Knows (receiving (history_of t) c) p.stage

  pub record Kept (t : List (Entry EndCall)) : Type 0 where
    pub counts : (f : ℕ) → word_after start t f ≡ untaken (history_of t) f
    pub few : (f : ℕ) → untaken (history_of t) f ≤ total (begun_after t) cores
    pub legal : IsLegal (history_of t)
    pub inside : (c : ℕ) → cores ≤ c → AreOfOthers c (history_of t)
    pub good : (c : ℕ) (p : EndCore) → program_after end_steps start t c ≡ Some p → Good t c p

  first : Kept []
  first = record {
    counts = is.words;
    few = λ f. omega arith;
    legal = tt;
    inside = λ c past. tt;
    good = λ c p runs. let new = is.each c p runs in
        subst (Good [] c) (sym new) record { most = omega arith; frames_are = refl; knows = refl };
  }

  module _ (t : List (Entry EndCall)) (e : Entry EndCall) (m : MayFollow end_steps start t e) (k : Kept t) where
    abbrev h : List Event
    h = history_of t

    mine : Good t e.core m.program
    mine = k.good e.core m.program m.runs

    begun_most : (c : ℕ) → begun_after t c ≤ most_calls
    begun_most c = by_program (program_after end_steps start t c) refl
      where
        by_program : (o : Option EndCore) → program_after end_steps start t c ≡ o → begun_in o ≤ most_calls
        by_program None runs = omega arith
        by_program (Some p) runs = (k.good c p runs).most

    small : e.found + 1 < 2 ^ 64
    small =
        let few = k.few e.at in
        let found = m.found ∙ k.counts e.at in
        let all : total (begun_after t) cores ≤ cores * most_calls = total_at_most cores most_calls (begun_after t) begun_most in
        let some = is.few in
        omega arith

    abbrev q : EndCore
    q = made_of m.program e.call m.step.op e.found

    d : Did h e.core e.at e.found e.left e.call m.program q
    d = did h e.core e.at e.found e.left m.step.op m.step.place m.step.left (m.found ∙ k.counts e.at) small
        m.program e.call m.step.may mine.most mine.knows m.step.next

    abbrev new : Event
    new = event e.core e.at d.step

    abbrev grown : List Event
    grown = new ∷ h

    now : history_of (e ∷ t) ≡ grown
    now = ap (λ s. event e.core e.at s ∷ h) d.is

    runs_here : program_after end_steps start (e ∷ t) e.core ≡ Some q
    runs_here = program_here end_steps start e t e.core m.program refl m.runs m.step

    counts : (f : ℕ) → word_after start (e ∷ t) f ≡ untaken grown f
    counts f = dite (ℕ_discrete e.at f)
        (λ (same : e.at ≡ f). word_here start e t f same ∙ d.count ∙ ap (count_by d.step) (m.found ∙ k.counts e.at ∙ ap (untaken h) same)
        ∙ sym (untaken_here new h f same))
        (λ (other : e.at ≢ f). word_elsewhere start e t f other ∙ k.counts f ∙ sym (untaken_elsewhere new h f other))

    more : total (begun_after t) cores + sends_in d.step ≤ total (begun_after (e ∷ t)) cores
    more =
        let inside = core_inside end_steps start t e.core m.program m.runs in
        let count = is.count in
        let was : begun_after t e.core ≡ m.program.begun = ap begun_in m.runs in
        let here : begun_after (e ∷ t) e.core ≡ q.begun = ap begun_in runs_here in
        let sums = total_changed cores e.core (begun_after t) (begun_after (e ∷ t)) (omega arith)
        (λ c other. ap begun_in (program_elsewhere end_steps start e t c (λ same. other (sym same)))) in
        let step = d.more in
        omega arith

    good_now : (c : ℕ) (p : EndCore) → p.begun ≤ most_calls → p.frames ≡ frames → Knows (receiving grown c) p.stage
        → Good (e ∷ t) c p
    good_now c p most frames_are knows = record {
      most = most;
      frames_are = frames_are;
      knows = subst (λ l. Knows (receiving l c) p.stage) (sym now) knows;
    }

    good : (c : ℕ) (p : EndCore) → program_after end_steps start (e ∷ t) c ≡ Some p → Good (e ∷ t) c p
    good c p runs = dite (ℕ_discrete e.core c)
        (λ (same : e.core ≡ c).
        let ran : program_after end_steps start (e ∷ t) e.core ≡ Some p = ap (program_after end_steps start (e ∷ t)) same ∙ runs in
        let it : q ≡ p = the_same q p (program_after end_steps start (e ∷ t) e.core) runs_here ran in
        subst (λ (z : ℕ × EndCore). Good (e ∷ t) z.0 z.1) (λ i. (same i, it i))
        (good_now e.core q d.most (d.frames_are ∙ mine.frames_are)
        (subst (λ o. Knows o q.stage) (sym (receiving_here new h e.core refl)) d.knows)))
        (λ (other : e.core ≢ c).
        let was = k.good c p (sym (program_elsewhere end_steps start e t c other) ∙ runs) in
        good_now c p was.most was.frames_are (subst (λ o. Knows o p.stage) (sym (receiving_elsewhere new h c other)) was.knows))
      where
        the_same : (x y : EndCore) (o : Option EndCore) → o ≡ Some x → o ≡ Some y → x ≡ y
        the_same x y o i j = cc

    keeps : Kept (e ∷ t)
    keeps = record {
      counts = λ f. counts f ∙ ap (λ l. untaken l f) (sym now);
      few = λ f. subst (λ l. untaken l f ≤ total (begun_after (e ∷ t)) cores) (sym now)
          (untaken_at_most new h f (total (begun_after t) cores) (total (begun_after (e ∷ t)) cores) (k.few f) more);
      legal = subst IsLegal (sym now) (k.legal, d.may);
      inside = λ c past. subst (AreOfOthers c) (sym now) (
        (λ same. let inside = core_inside end_steps start t e.core m.program m.runs in let count = is.count in omega arith),
        k.inside c past,
      );
      good = good;
    }

  pub along : (t : List (Entry EndCall)) → IsSound end_steps start t → Kept t
  along t sound = kept_along end_steps start Kept first (λ t e before m k. keeps t e m k) t sound
