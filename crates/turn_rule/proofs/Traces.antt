-- What a trace leaves, and what its sound steps keep.
use Rattle.std.proofs.Common.{◌≡◌, ◌≢◌, ℕ, ◌<◌, ◌≤◌, ◌==◌, true, false, List, [], ◌∷◌, ◌++◌, length, slice_get, if◌then◌else◌, Option, Some}
use Rattle.std.proofs.Common.{None, refl, sym, ap, ◌∙◌, eq-eqb, ne_eqb, append_assoc, lt_of_not-le, arith, option_map}
use Rattle.turn_rule.specs.{AreOfOthers, word_after, called, program_after, IsStep, MayFollow, IsSound}
use Rattle.std.proofs.{lemmas.Option.slice_get_past, lemmas.Option.none-some, lemmas.List.get_or_past}
use Rattle.turn_rule.specs.{declared.view.Entry.Entry, declared.view.Start.Start, Steps.Steps, Trace.Extends, Trace.ExtendsByOthers}
use Rattle.{spk_nums.specs.WordSteps.told_by, turn_rule.specs.Trace.told, turn_rule.specs.Trace.after_entry}
use native.Mathlib.Decide.{dec_le}

module _ {C : Type 0} where
  pub AreOfOthers-append : (c : ℕ) (xs ys : List (Entry C)) → AreOfOthers c xs → AreOfOthers c ys → AreOfOthers c (xs ++ ys)
  AreOfOthers-append c [] ys h k = k
  AreOfOthers-append c (x ∷ xs) ys h k = (h.0, AreOfOthers-append c xs ys h.1 k)

  pub extends_itself : (c : ℕ) (t : List (Entry C)) → ExtendsByOthers c t t
  extends_itself c t = record { since = []; whole = refl; apart = tt }

  pub extends_on : (x y z : List (Entry C)) → Extends x y → Extends y z → Extends x z
  extends_on x y z h k = record {
    since = k.since ++ h.since;
    whole = k.whole ∙ ap (λ (l : List (Entry C)). k.since ++ l) h.whole ∙ sym (append_assoc k.since h.since x);
  }

  pub extends_on_by_others : (c : ℕ) (x y z : List (Entry C)) → ExtendsByOthers c x y → ExtendsByOthers c y z → ExtendsByOthers c x z
  extends_on_by_others c x y z h k = record {
    since = k.since ++ h.since;
    whole = k.whole ∙ ap (λ (l : List (Entry C)). k.since ++ l) h.whole ∙ sym (append_assoc k.since h.since x);
    apart = AreOfOthers-append c k.since h.since k.apart h.apart;
  }

module _ {P C : Type 0} (start : Start P) where
  -- the newest step's word is what it left, and the others are as before
  pub word_here : (e : Entry C) (t : List (Entry C)) (i : ℕ) → e.at ≡ i → word_after start (e ∷ t) i ≡ e.left
  word_here e t i same = ap (λ b. if b then e.left else word_after start t i) (eq-eqb e.at i same)

  pub word_elsewhere : (e : Entry C) (t : List (Entry C)) (i : ℕ) → e.at ≢ i → word_after start (e ∷ t) i ≡ word_after start t i
  word_elsewhere e t i other = ap (λ b. if b then e.left else word_after start t i) (ne_eqb e.at i other)

module _ {P C : Type 0} (T : Steps P C) (start : Start P) where
  -- the program whose step was made has taken in what the step told, and the others are as before
  pub program_here : (e : Entry C) (t : List (Entry C)) (c : ℕ) (p : P) → e.core ≡ c → program_after T start t c ≡ Some p
      → (s : IsStep T p e)
      → program_after T start (e ∷ t) c ≡ Some (T.after (called T p e.call) (told_by s.op e.found))
  program_here e t c p same was s =
      let f : P → P = λ q. after_entry T q e in
      ap (λ b. if b then option_map f (program_after T start t c) else program_after T start t c) (eq-eqb e.core c same)
      ∙ ap (option_map f) was ∙ ap (λ op. Some (told T (called T p e.call) op e.found)) s.next

  pub program_elsewhere : (e : Entry C) (t : List (Entry C)) (c : ℕ) → e.core ≢ c
      → program_after T start (e ∷ t) c ≡ program_after T start t c
  program_elsewhere e t c other =
      ap (λ b. if b then option_map (λ q. after_entry T q e) (program_after T start t c) else program_after T start t c)
      (ne_eqb e.core c other)

  -- steps of other cores leave a core's program
  pub program_stays : (c : ℕ) (since t : List (Entry C)) → AreOfOthers c since
      → program_after T start (since ++ t) c ≡ program_after T start t c
  program_stays c [] t h = refl
  program_stays c (e ∷ since) t h = program_elsewhere e (since ++ t) c h.0 ∙ program_stays c since t h.1

  -- no core past the last has a program
  pub no_program : (t : List (Entry C)) (c : ℕ) → slice_get start.programs c ≡ None → program_after T start t c ≡ None
  no_program [] c none = none
  no_program (e ∷ t) c none = either_way (e.core == c) (program_after T start t c) (no_program t c none)
    where
      either_way : (b : _) (o : Option P) → o ≡ None → (if b then option_map (λ q. after_entry T q e) o else o) ≡ None
      either_way true o is = ap (option_map (λ q. after_entry T q e)) is
      either_way false o is = is

  -- so a core with a program is one of the table's
  pub core_inside : (t : List (Entry C)) (c : ℕ) (p : P) → program_after T start t c ≡ Some p → c < length start.programs
  core_inside t c p runs = by_order (dec_le (length start.programs) c)
    where
      by_order : Dec (length start.programs ≤ c) → c < length start.programs
      by_order (yes past) = absurd (none-some p (sym (no_program t c (slice_get_past start.programs c past)) ∙ runs))
      by_order (no inside) = lt_of_not-le inside

  -- past the last place a sound trace leaves nothing
  pub word_past : (t : List (Entry C)) → IsSound T start t → (i : ℕ) → length start.words ≤ i → word_after start t i ≡ 0
  word_past [] h i past = get_or_past start.words i 0 past
  word_past (e ∷ t) h i past = let inside = h.1.inside in
      word_elsewhere start e t i (λ same. absurd (omega arith)) ∙ word_past t h.0 i past

  -- each earlier moment of a sound trace is sound
  pub sound_before : (since t : List (Entry C)) → IsSound T start (since ++ t) → IsSound T start t
  sound_before [] t h = h
  sound_before (e ∷ since) t h = sound_before since t h.0

  -- what the empty trace has and each sound step keeps, a sound trace has
  pub kept_along : (I : List (Entry C) → Type 0) → I []
      → ((t : List (Entry C)) (e : Entry C) → IsSound T start t → MayFollow T start t e → I t → I (e ∷ t)) → (t : List (Entry C))
      → IsSound T start t → I t
  kept_along I first keeps [] h = first
  kept_along I first keeps (e ∷ t) h = keeps t e h.0 h.1 (kept_along I first keeps t h.0)

  -- and has at each of its moments
  pub kept_at : (I : List (Entry C) → Type 0) → I []
      → ((t : List (Entry C)) (e : Entry C) → IsSound T start t → MayFollow T start t e → I t → I (e ∷ t)) → (since t : List (Entry C))
      → IsSound T start (since ++ t) → I t
  kept_at I first keeps since t h = kept_along I first keeps t (sound_before since t h)
