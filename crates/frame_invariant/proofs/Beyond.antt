-- The words of a frame past its 64: no step is on one, so they stay as at the start, where they are 0, and carry no mark.
use Rattle.place_invariant.specs.step_ways.proofs as low
use low.{◌≡◌, Bool, true, false, Option, Some, None, refl, ℕ, ◌-◌, ◌*◌, ◌==◌, arith, ◌≢◌, ◌+◌, sym, ltb as nat_lt, [], ◌∷◌, length, ap, ◌∙◌}
use low.{◌≤◌, ltb-true, eqb-true, Capability, Setting, IsSetting, entry_of_word, word_of_entry, word_of_stack, word_of, IsIn, EntryAt, Word}
use low.{ClockAt, FrameAt, CountAt, CoreAt, FlushAt, LiveAt, Free, TcapFields, Frame, Place, last_left-there, shape_of, IsLegal, at_height}
use low.{Trace, last_left, slice_get, if◌then◌else◌, Entry}
use Rattle.place_invariant.specs.kernel_rules.specs.{Grant, granted, start_cap, core_cap, place_with, start_place, start_comp}
use Rattle.place_invariant.specs.kernel_history.specs.{boot_entry, boot_frame, boot_word}
use Rattle.place_invariant.specs.kernel_history.specs.{BootWords.boot_thread, BootWords.boot_tcap, ObjectWords.comp_word}
use Rattle.{std.proofs.lemmas.Option.slice_get_past, place_invariant.specs.tcap_words.specs.Quality.word_of_quality}
use Rattle.place_invariant.specs.entry_words.proofs.Spelling as entries

choose : {A : Type 0} (P : A → Type 0) (b : Bool) (x y : A) → (b ≡ true → P x) → (b ≡ false → P y) → P (if b then x else y)
choose P true x y hx hy = hx refl
choose P false x y hx hy = hy refl

zero_entry : word_of_entry Entry.Free ≡ 0
unfolding word_of_entry
zero_entry = refl

free_entry : (p : Place) → p ≡ Free → word_of_entry (boot_entry p) ≡ 0
free_entry p free = ap (λ p. word_of_entry (boot_entry p)) free ∙ zero_entry

no_stack : (o : Option ℕ) → o ≡ None → word_of_stack (record { 0 = o }) ≡ 0
unfolding word_of_stack
no_stack o none = ap (λ o. word_of_stack (record { 0 = o })) none

no_quality : (o : Option (ℕ × ℕ)) → o ≡ None → word_of_quality (record { 0 = o }) ≡ 0
unfolding word_of_quality
no_quality o none = ap (λ o. word_of_quality (record { 0 = o })) none

module _ (setup : Setting) (setting : IsSetting setup) (i : ℕ) (past : 64 ≤ i) where
  core_place : place_with (core_cap setup i) ≡ Free
  core_place =
      let n = setting.most_cores in
      let P : Option Capability → Type 0 = λ o. place_with o ≡ Free in
      choose P (nat_lt i 4) _ _ (λ e. refl) λ e.
      choose P (nat_lt i (4 + setup.cores)) _ _ (λ e. absurd (let q = ltb-true i (4 + setup.cores) e in omega (arith, n, past, q))) λ e.
      choose P (nat_lt i 12) _ _ (λ e. refl) λ e.
      choose P (nat_lt i (12 + setup.cores)) _ _ (λ e. absurd (let q = ltb-true i (12 + setup.cores) e in omega (arith, n, past, q))) λ e.
      refl

  cap_place : place_with (start_cap setup i) ≡ Free
  cap_place =
      let P : Option Capability → Type 0 = λ o. place_with o ≡ Free in
      choose P (i == 0) _ _ (λ e. absurd (let q = eqb-true i 0 e in omega (arith, past, q))) λ e.
      choose P (i == 1) _ _ (λ e. absurd (let q = eqb-true i 1 e in omega (arith, past, q))) λ e.
      choose P (i == 2) _ _ (λ e. absurd (let q = eqb-true i 2 e in omega (arith, past, q))) λ e.
      choose P (i == 3) _ _ (λ e. absurd (let q = eqb-true i 3 e in omega (arith, past, q))) λ e. core_place

  place_free : (f : ℕ) → start_place setup f i ≡ Free
  place_free f =
      let P : Place → Type 0 = λ p. p ≡ Free in
      choose P (f == 0) _ _ (λ e. choose P (i == 0) _ _ (λ z. absurd (let q = eqb-true i 0 z in omega (arith, past, q))) (λ z. refl)) λ e.
      choose P (f == 1) _ _ (λ e. cap_place) (λ e. refl)

  comp_zero : comp_word start_comp i ≡ 0
  comp_zero =
      let P : ℕ → Type 0 = λ x. x ≡ 0 in
      choose P (i == 0) _ _ (λ e. refl) λ e.
      choose P (i == 1) _ _ (λ e. absurd (let q = eqb-true i 1 e in omega (arith, past, q))) λ e.
      choose P (i == 2) _ _ (λ e. absurd (let q = eqb-true i 2 e in omega (arith, past, q))) λ e. refl

  thread_zero : (c : ℕ) → boot_thread (record { stack = 3 ∷ []; runs_on = Some c }) i ≡ 0
  thread_zero c = choose (λ (x : ℕ). x ≡ 0) (i == 0) _ _ (λ e. absurd (let q = eqb-true i 0 e in omega (arith, past, q)))
      (λ e. no_stack (at_height (3 ∷ []) (i - 1)) (slice_get_past (3 ∷ []) (i - 1) (omega arith)))

  tcap_zero : (q : TcapFields) → length q.qualities ≤ 8 → boot_tcap q i ≡ 0
  tcap_zero q most = choose (λ (x : ℕ). x ≡ 0) (i == 0) _ _ (λ e. absurd (let q = eqb-true i 0 e in omega (arith, past, q)))
      (λ e. no_quality (slice_get q.qualities (i - 1)) (slice_get_past q.qualities (i - 1) (omega (arith, past, most))))

  granted_few : (o : Option Grant) → length (granted o).qualities ≤ 8
  granted_few None = omega arith
  granted_few (Some g) = omega arith

  boot_zero : (f : ℕ) → boot_word setup (EntryAt f i) ≡ 0
  boot_zero f =
      let P : Frame → Type 0 = λ x. boot_frame x (start_place setup f) i ≡ 0 in
      let node : word_of_entry (boot_entry (start_place setup f i)) ≡ 0 = free_entry (start_place setup f i) (place_free f) in
      choose P (f == 0) _ _ (λ e. node) λ e.
      choose P (f == 1) _ _ (λ e. node) λ e.
      choose P (f == 2) _ _ (λ e. node) λ e.
      choose P (f == 3) _ _ (λ e. comp_zero) λ e.
      choose P (nat_lt f (4 + setup.cores)) _ _ (λ e. thread_zero (f - 4)) λ e.
      choose P (nat_lt f (4 + 2 * setup.cores)) _ _ (λ e. tcap_zero (granted (slice_get setup.grants (f - 4 - setup.cores)))
      (granted_few (slice_get setup.grants (f - 4 - setup.cores)))) λ e. refl

  same_index : (f g j : ℕ) → EntryAt f i ≡ EntryAt g j → i ≡ j
  same_index f g j h = cc

  never_in : (w : Word) (f : ℕ) → IsIn (shape_of setup) w → EntryAt f i ≢ w
  never_in (EntryAt g j) f is h = let q = same_index f g j h in let small = is.1 in omega (arith, past, q, small)
  never_in (FrameAt g) f is h = cc
  never_in (CountAt g d) f is h = cc
  never_in (CoreAt d) f is h = cc
  never_in (FlushAt d) f is h = cc
  never_in (LiveAt l) f is h = cc
  never_in ClockAt f is h = cc

  stays_zero : (t : Trace) → IsLegal setup t → (f : ℕ) → last_left setup t (EntryAt f i) ≡ 0
  stays_zero [] legal f = boot_zero f
  stays_zero (e ∷ t) legal f = last_left-there setup (EntryAt f i) e t (never_in (word_of e.move) f legal.1.is_in) ∙ stays_zero t legal.0 f

  -- so it says that it is free
  pub free_beyond : (t : Trace) → IsLegal setup t → (f : ℕ) → entry_of_word (last_left setup t (EntryAt f i)) ≡ Some Entry.Free
  free_beyond t legal f = ap entry_of_word (stays_zero t legal f ∙ sym zero_entry) ∙ entries.spelling.reads Entry.Free tt
