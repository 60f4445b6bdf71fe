-- A line is judged word by word, and so is its first word found that does not fit.
use Rattle.std.proofs.Common.{◌≡◌, ℕ, ◌+◌, ◌<◌, ◌≤◌, Bool, true, false, ◌&&◌, List, length, drop, Option, Some, None, Result, Ok, Err, refl}
use Rattle.std.proofs.Common.{sym, ◌∙◌, ap, arith, if◌then◌else◌, nat_le, slice_get, is_some, ok_or, leb-true, leb-false, le-leb}
use Rattle.std.proofs.Common.{option_and_then, unwrap_or}
use Rattle.fault_texts.specs.call_reader.specs.{frame_kind_of, frame_kind_at, object_of, object_at}
use Rattle.fault_texts.specs.line_reader.specs.{◌>>=◌, number_of}
use Rattle.fault_texts.specs.line_reader.specs.declared.cause.Cause.TheVariants.{S1, S2, S3, S4, S5}
use Rattle.fault_texts.specs.line_reader.specs.Arguments.{word_at, number_at, end_at}
use Rattle.fault_texts.specs.line_forms.specs.{declared.context.Context.Context, declared.slots.Slot.Slot}
use Rattle.fault_texts.specs.line_forms.specs.{declared.slots.Slot.TheVariants.Number, declared.slots.Slot.TheVariants.MayNumber}
use Rattle.fault_texts.specs.line_forms.specs.{declared.slots.Slot.TheVariants.FrameKind as Frame_kind, declared.slots.Slot.TheVariants.End}
use Rattle.fault_texts.specs.line_forms.specs.{declared.slots.Slot.TheVariants.Object as Object_slot}
use Rattle.fault_texts.specs.line_forms.specs.Calls.{number_in, kind_in, object_in}
use Rattle.fault_texts.specs.line_forms.specs.{Slots.is_number_between, Lines.slot_at, Fitting.fits_by, Fitting.fits}
use Rattle.mark_laws.specs.Marked.{number_cause, cause_by, cause_at}
use Rattle.mark_laws.proofs.Gets.{cond_true, cond_false, get_drop, get_end, get_low, get_none, get_some}
use Rattle.fault_texts.specs.spk_nums.specs.{declared.kinds.FrameKind.FrameKind, declared.verbs.Object.Object}
use Rattle.{fault_texts.specs.line_reader.specs.declared.cause.Cause.Cause, fault_texts.specs.Places.misfit_from}
use Rattle.mark_laws.proofs.Words.{kinds_same, objects_same, worth}

module _ (here : Context) (ws : List (List ℕ)) where
  -- the first place from this one on whose word does not fit
  abbrev pub from : ℕ → ℕ
  from p = misfit_from here ws p (drop p ws)

  abbrev pub Goes : {B : Type 0} → ℕ → Result B Cause → Type 0
  Goes p (Ok x) = (from p ≡ length ws) × (fits here ws (length ws) ≡ true)
  Goes p (Err cause) = cause_at here ws (from p) ≡ cause

  -- the words from a place on are judged so
  pub record Judged {B : Type 0} (p : ℕ) (r : Result B Cause) : Type 0 where
    pub goes : Goes p r

  walk_fit : (p : ℕ) (w : List ℕ) → slice_get ws p ≡ Some w → fits here ws p ≡ true → from p ≡ from (p + 1)
  walk_fit p w e fine =
      ap (λ (l : List (List ℕ)). misfit_from here ws p l) (get_drop ws p w e)
      ∙ cond_true (fits here ws p) (misfit_from here ws (p + 1) (drop (p + 1) ws)) p fine

  walk_stop : (p : ℕ) (w : List ℕ) → slice_get ws p ≡ Some w → fits here ws p ≡ false → from p ≡ p
  walk_stop p w e bad =
      ap (λ (l : List (List ℕ)). misfit_from here ws p l) (get_drop ws p w e)
      ∙ cond_false (fits here ws p) (misfit_from here ws (p + 1) (drop (p + 1) ws)) p bad

  walk_end : (p : ℕ) → slice_get ws p ≡ None → from p ≡ p
  walk_end p e = ap (λ (l : List (List ℕ)). misfit_from here ws p l) (get_end ws p e)

  fits_is : (p : ℕ) (s : Slot) (o : Option (List ℕ)) → slot_at here ws p ≡ s → slice_get ws p ≡ o → fits here ws p ≡ fits_by here ws s o
  fits_is p s o es eo =
      ap (λ (x : Slot). fits_by here ws x (slice_get ws p)) es ∙ ap (λ (x : Option (List ℕ)). fits_by here ws s x) eo

  cause_is : (p : ℕ) (s : Slot) (o : Option (List ℕ)) → slot_at here ws p ≡ s → slice_get ws p ≡ o → cause_at here ws p ≡ cause_by s o
  cause_is p s o es eo =
      ap (λ (x : Slot). cause_by x (slice_get ws p)) es ∙ ap (λ (x : Option (List ℕ)). cause_by s x) eo

  refused : {B : Type 0} (p : ℕ) (s : Slot) (o : Option (List ℕ)) (c : Cause) → slot_at here ws p ≡ s → slice_get ws p ≡ o
      → from p ≡ p → cause_by s o ≡ c → Judged {B = B} p (Err c)
  refused p s o c es eo stop cause = record {
    goes = ap (λ (k : ℕ). cause_at here ws k) stop ∙ cause_is p s o es eo ∙ cause;
  }

  lift : {B : Type 0} (p : ℕ) (r : Result B Cause) → from p ≡ from (p + 1) → Judged (p + 1) r → Judged p r
  lift p (Ok x) same j = record { goes = (same ∙ j.goes.0, j.goes.1) }
  lift p (Err c) same j = record { goes = ap (λ (k : ℕ). cause_at here ws k) same ∙ j.goes }

  -- what fits that place is a number of that range, and what does not is refused so
  pub record Ranges (s : Slot) (least most : ℕ) : Type 0 where
    pub fit : (w : List ℕ) → fits_by here ws s (Some w) ≡ is_number_between (number_of w) least most
    pub cause : (w : List ℕ) → cause_by s (Some w) ≡ number_cause (number_of w)

  pub number_ranges : (least most : ℕ) → Ranges (Number least most) least most
  number_ranges least most = record { fit = λ w. refl; cause = λ w. refl }

  pub may_ranges : (least most : ℕ) → Ranges (MayNumber least most) least most
  may_ranges least most = record { fit = λ w. refl; cause = λ w. refl }

  module _ {B : Type 0} (p least most : ℕ) (s : Slot) (ranges : Ranges s least most) (slot : slot_at here ws p ≡ s) (k : ℕ → Result B Cause)
      (next : (n : ℕ) → number_in ws p ≡ n → p + 1 ≤ length ws → Judged (p + 1) (k n)) where
    range_by : (w : List ℕ) (n : ℕ) → slice_get ws p ≡ Some w → number_of w ≡ Some n → (b : Bool) → (nat_le least n && nat_le n most) ≡ b
        → Judged p ((if b then Ok n else Err S5) >>= k)
    range_by w n e en true eb =
        let low : p < length ws = get_low ws p w e in
        let fine : fits here ws p ≡ true =
        fits_is p s (Some w) slot e ∙ ranges.fit w ∙ ap (λ (o : Option ℕ). is_number_between o least most) en ∙ eb in
        lift p (k n) (walk_fit p w e fine) (next n (worth number_of 0 w n (slice_get ws p) e en) (omega arith))
    range_by w n e en false eb =
        let bad : fits here ws p ≡ false =
        fits_is p s (Some w) slot e ∙ ranges.fit w ∙ ap (λ (o : Option ℕ). is_number_between o least most) en ∙ eb in
        refused p s (Some w) S5 slot e (walk_stop p w e bad) (ranges.cause w ∙ ap (λ (o : Option ℕ). number_cause o) en)

    numeral_by : (w : List ℕ) → slice_get ws p ≡ Some w → (m : Option ℕ) → number_of w ≡ m
        → Judged p ((ok_or m S1 >>= λ (n : ℕ). (if nat_le least n && nat_le n most then Ok n else Err S5)) >>= k)
    numeral_by w e None em =
        let bad : fits here ws p ≡ false =
        fits_is p s (Some w) slot e ∙ ranges.fit w ∙ ap (λ (o : Option ℕ). is_number_between o least most) em in
        refused p s (Some w) S1 slot e (walk_stop p w e bad) (ranges.cause w ∙ ap (λ (o : Option ℕ). number_cause o) em)
    numeral_by w e (Some n) em = range_by w n e em (nat_le least n && nat_le n most) refl

    word_by : (o : Option (List ℕ)) → slice_get ws p ≡ o
        → Judged p ((ok_or o S3 >>= λ (w : List ℕ).
        (ok_or (number_of w) S1 >>= λ (n : ℕ). (if nat_le least n && nat_le n most then Ok n else Err S5))) >>= k)
    word_by None e = refused p s None S3 slot e (walk_end p e) refl
    word_by (Some w) e = numeral_by w e (number_of w) refl

    pub judge_range : Judged p (number_at ws p least most >>= k)
    unfolding number_at word_at
    judge_range = word_by (slice_get ws p) refl

  pub judge_number : {B : Type 0} (p least most : ℕ) (k : ℕ → Result B Cause) → slot_at here ws p ≡ Number least most
      → ((n : ℕ) → number_in ws p ≡ n → p + 1 ≤ length ws → Judged (p + 1) (k n)) → Judged p (number_at ws p least most >>= k)
  judge_number p least most k slot next = judge_range p least most (Number least most) (number_ranges least most) slot k next

  -- a word that names something
  module _ {B X : Type 0} (p : ℕ) (s : Slot) (read : List ℕ → Option X)
      (fit : (w : List ℕ) → fits_by here ws s (Some w) ≡ is_some (read w))
      (cause : (w : List ℕ) → cause_by s (Some w) ≡ S2) (slot : slot_at here ws p ≡ s) (k : X → Result B Cause)
      (d : X) (next : (x : X) → unwrap_or (option_and_then read (slice_get ws p)) d ≡ x → p + 1 ≤ length ws → Judged (p + 1) (k x)) where
    meant_by : (w : List ℕ) → slice_get ws p ≡ Some w → (m : Option X) → read w ≡ m → Judged p (ok_or m S2 >>= k)
    meant_by w e None em =
        let bad : fits here ws p ≡ false =
        fits_is p s (Some w) slot e ∙ fit w ∙ ap (λ (o : Option X). is_some o) em in
        refused p s (Some w) S2 slot e (walk_stop p w e bad) (cause w)
    meant_by w e (Some x) em =
        let low : p < length ws = get_low ws p w e in
        let fine : fits here ws p ≡ true =
        fits_is p s (Some w) slot e ∙ fit w ∙ ap (λ (o : Option X). is_some o) em in
        lift p (k x) (walk_fit p w e fine) (next x (worth read d w x (slice_get ws p) e em) (omega arith))

    pub judge_name : (o : Option (List ℕ)) → slice_get ws p ≡ o
        → Judged p ((ok_or o S3 >>= λ (w : List ℕ). ok_or (read w) S2) >>= k)
    judge_name None e = refused p s None S3 slot e (walk_end p e) refl
    judge_name (Some w) e = meant_by w e (read w) refl

  pub judge_kind : {B : Type 0} (p : ℕ) (k : FrameKind → Result B Cause) → slot_at here ws p ≡ Frame_kind
      → ((x : FrameKind) → kind_in ws p ≡ x → p + 1 ≤ length ws → Judged (p + 1) (k x)) → Judged p (frame_kind_at ws p >>= k)
  unfolding frame_kind_at word_at
  judge_kind p k slot next =
      judge_name p Frame_kind frame_kind_of (λ w. kinds_same w) (λ w. refl) slot k FrameKind.Untyped next (slice_get ws p) refl

  pub judge_object : {B : Type 0} (p : ℕ) (k : Object → Result B Cause) → slot_at here ws p ≡ Object_slot
      → ((x : Object) → object_in ws p ≡ x → p + 1 ≤ length ws → Judged (p + 1) (k x)) → Judged p (object_at ws p >>= k)
  unfolding object_at word_at
  judge_object p k slot next =
      judge_name p Object_slot object_of (λ w. objects_same w) (λ w. refl) slot k Object.Table next (slice_get ws p) refl

  -- the end of a line, at a place where it may end and no word may stand
  module _ {B : Type 0} (p : ℕ) (s : Slot) (x : B) (low : p ≤ length ws) (slot : slot_at here ws p ≡ s)
      (may_end : fits_by here ws s None ≡ true) where
    taken : length ws ≤ p → Judged p (Ok x)
    taken past =
        let none : slice_get ws p ≡ None = get_none ws p past in
        let same : p ≡ length ws = omega arith in
        record {
          goes = (
            walk_end p none ∙ same,
            ap (λ (q : ℕ). fits here ws q) (sym same) ∙ fits_is p s None slot none ∙ may_end,
          );
        }

    end_by : ((w : List ℕ) → fits_by here ws s (Some w) ≡ false) → ((w : List ℕ) → cause_by s (Some w) ≡ S4) → (b : Bool)
        → nat_le (length ws) p ≡ b → Judged p ((if b then Ok tt else Err S4) >>= λ (done : Unit {0}). Ok x)
    end_by unfit cause true past = taken (leb-true (length ws) p past)
    end_by unfit cause false more =
        let w = get_some ws p (leb-false (length ws) p more) in
        refused p s (Some w.0) S4 slot w.1 (walk_stop p w.0 w.1 (fits_is p s (Some w.0) slot w.1 ∙ unfit w.0)) (cause w.0)

  pub judge_end : {B : Type 0} (p : ℕ) (x : B) → p ≤ length ws → slot_at here ws p ≡ End
      → Judged p (end_at ws p >>= λ (done : Unit {0}). Ok x)
  unfolding end_at
  judge_end p x low slot = end_by p End x low slot refl (λ w. refl) (λ w. refl) (nat_le (length ws) p) refl

  -- the end of a line that has at most so many words
  pub judge_last : {B : Type 0} (p : ℕ) (s : Slot) (x : B) → p ≤ length ws → length ws ≤ p → slot_at here ws p ≡ s
      → fits_by here ws s None ≡ true → Judged p (end_at ws p >>= λ (done : Unit {0}). Ok x)
  unfolding end_at
  judge_last p s x low past slot may_end = rw (le-leb (length ws) p past) (taken p s x low slot may_end past)
