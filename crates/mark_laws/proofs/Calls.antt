-- Each call is judged word by word, by its form.
use Rattle.std.proofs.Common.{◌≡◌, ℕ, suc, ◌+◌, ◌-◌, ◌≤◌, ◌==◌, Bool, true, false, ◌&&◌, List, [], ◌∷◌, ◌++◌, length, Result, Ok, Err, refl}
use Rattle.std.proofs.Common.{sym, ◌∙◌, ap, subst, arith, if◌then◌else◌, nat_lt, nat_le, ltb-false}
use Rattle.std.proofs.lemmas.Bool.{ne_eqb}
use Rattle.fault_texts.specs.line_reader.specs.{declared.cause.Cause.Cause, ◌>>=◌, number_at}
use Rattle.fault_texts.specs.call_reader.specs.CallLines.{Form, form_of, read_form, call_line}
use Rattle.fault_texts.specs.call_reader.proofs.Forms.{IsLast, AllSay, forms_say}
use Rattle.fault_texts.specs.line_forms.specs.{declared.context.Context.Context, declared.slots.Slot.Slot, Lines.slot_at, Fitting.fits}
use Rattle.fault_texts.specs.line_forms.specs.Calls.{number_in, kind_in, object_in, slots_of, slot_in, verb_slot}
use Rattle.fault_texts.specs.spk_nums.specs.{Rights.both, Verbs.Argument, declared.calls.Call.Call, declared.verbs.Verb.Verb}
use Rattle.mark_laws.specs.Marked.{GoesByMark, in_list, IsCallLine, cause_at}
use Rattle.mark_laws.proofs.Chains.{Judged, judge_number, judge_range, may_ranges, judge_kind, judge_object, judge_end, judge_last}
use Rattle.{fault_texts.specs.Places.misfit_from, mark_laws.proofs.Gets.cond_true}

-- where nothing more stands, a call is said
last_says : (f : Form) → IsLast f → (c : Call) × (f ≡ Form.Says c)
last_says (Form.Says c) last = (c, refl)
last_says (Form.Number letter least most next) last = absurd last
last_says (Form.MayNumber letter next) last = absurd last
last_says (Form.Kind letter next) last = absurd last
last_says (Form.Made letter next) last = absurd last

module _ (context : Context) (word : List ℕ) (rest : List (List ℕ)) where
  abbrev here : Context
  here = in_list context

  abbrev ws : List (List ℕ)
  ws = word ∷ rest

  -- what may stand at the places from one on
  abbrev At : ℕ → List Slot → Type 0
  At p slots = (q : ℕ) → slot_at here ws (p + q) ≡ slot_in slots q

  there : (p : ℕ) (slots : List Slot) → At p slots → slot_at here ws p ≡ slot_in slots 0
  there p slots at = let same : p ≡ p + 0 = omega arith in ap (λ (k : ℕ). slot_at here ws k) same ∙ at 0

  after : (p : ℕ) (s : Slot) (slots : List Slot) → At p (s ∷ slots) → At (p + 1) slots
  after p s slots at q = let same : p + 1 + q ≡ p + suc q = omega arith in ap (λ (k : ℕ). slot_at here ws k) same ∙ at (suc q)

  -- the words from a place on are judged as lines of this form go
  abbrev Goes : ℕ → Form → Type 0
  Goes p f = Judged here ws p (read_form context.version ws p f)

  abbrev slots_from : ℕ → Form → List Slot
  slots_from p f = slots_of context.version ws p f

  goes_to : (p : ℕ) (c : Call) → p ≤ length ws → At p [] → Goes p (Form.Says c)
  goes_to p c low at = judge_end here ws p c low (there p [] at)

  -- where a number may be left out, it is the last
  goes_maybe : (p : ℕ) (next : ℕ → Form) (c d : Call) → next (number_in ws p) ≡ Form.Says c → next both ≡ Form.Says d → p ≤ length ws
      → (two more : Bool) → nat_lt p (length ws) ≡ more
      → At p (if two then Slot.MayNumber 0 3 ∷ slots_from (p + 1) (next (number_in ws p)) else slots_from p (next both))
      → Judged here ws p (if two && more then (number_at ws p 0 3 >>= λ n. read_form context.version ws (p + 1) (next n))
      else read_form context.version ws p (next both))
  goes_maybe p next c d one none low true true more at =
      let s = Slot.MayNumber 0 3 in
      let slots = slots_from (p + 1) (next (number_in ws p)) in
      judge_range here ws p 0 3 s (may_ranges here ws 0 3) (there p (s ∷ slots) at) (λ n. read_form context.version ws (p + 1) (next n))
      (λ n is low. subst (λ m. Goes (p + 1) (next m)) is
      (subst (λ f. At (p + 1) (slots_from (p + 1) f) → Goes (p + 1) f) (sym one) (goes_to (p + 1) c low) (after p s slots at)))
  goes_maybe p next c d one none low true false past at =
      let s = Slot.MayNumber 0 3 in
      let slots = slots_from (p + 1) (next (number_in ws p)) in
      let mark : slot_at here ws p ≡ s = there p (s ∷ slots) at in
      subst (λ f. Goes p f) (sym none) (judge_last here ws p s d low (ltb-false p (length ws) past) mark refl)
  goes_maybe p next c d one none low false more is at = subst (λ f. At p (slots_from p f) → Goes p f) (sym none) (goes_to p d low) at

  judged : (v : Verb) (p : ℕ) (f : Form) (before : List Argument) → AllSay v f before → p ≤ length ws → At p (slots_from p f) → Goes p f
  judged v p (Form.Says c) before all low at = goes_to p c low at
  judged v p (Form.Number letter least most next) before all low at =
      let one = number_in ws p in
      judge_number here ws p least most _ (there p (slots_from p (Form.Number letter least most next)) at)
      (λ n is low. subst (λ m. Goes (p + 1) (next m)) is
      (judged v (p + 1) (next one) (before ++ Argument.Number one ∷ []) (all.1 one) low (after p _ _ at)))
  judged v p (Form.MayNumber letter next) before all low at =
      let one = last_says (next (number_in ws p)) (all (number_in ws p)).0 in
      let none = last_says (next both) (all both).0 in
      goes_maybe p next one.0 none.0 one.1 none.1 low (nat_le 2 context.version) (nat_lt p (length ws)) refl at
  judged v p (Form.Kind letter next) before all low at =
      let one = kind_in ws p in
      judge_kind here ws p _ (there p (slots_from p (Form.Kind letter next)) at) (λ k is low. subst (λ m. Goes (p + 1) (next m)) is
      (judged v (p + 1) (next one) (before ++ Argument.Kind one ∷ []) (all one) low (after p _ _ at)))
  judged v p (Form.Made letter next) before all low at =
      let one = object_in ws p in
      judge_object here ws p _ (there p (slots_from p (Form.Made letter next)) at) (λ o is low. subst (λ m. Goes (p + 1) (next m)) is
      (judged v (p + 1) (next one) (before ++ Argument.Made one ∷ []) (all one) low (after p _ _ at)))

  -- what may stand at each place of the line, from place 1 on
  slots : (v : Verb) → IsCallLine context word rest v → (p : ℕ) → (p == 0) ≡ false → slot_at here ws p ≡ verb_slot context.version v ws p
  slots v line p more = rw (line.begins, more, line.is_verb) refl

  arguments : (v : Verb) → IsCallLine context word rest v → At 1 (slots_from 1 (form_of v))
  arguments v line q =
      let next : 1 + q ≡ suc q = omega arith in
      let same : suc q - 1 ≡ q = omega arith in
      ap (λ (k : ℕ). slot_at here ws k) next ∙ slots v line (suc q) (ne_eqb (suc q) 0 (λ none. omega (arith, none)))
      ∙ ap (λ (k : ℕ). slot_in (slots_from 1 (form_of v)) k) same

  judged_line : (v : Verb) → IsCallLine context word rest v → Judged here ws 1 (call_line context.version ws v)
  unfolding call_line
  judged_line v line = judged v 1 (form_of v) [] (forms_say v) (omega arith) (arguments v line)

  -- its first word fits
  first_fine : (v : Verb) → IsCallLine context word rest v → fits here ws 0 ≡ true
  first_fine v line = rw line.begins refl

  -- the first word is taken, and the arguments are judged
  whole : {B : Type 0} (v : Verb) (r : Result B Cause) → IsCallLine context word rest v → Judged here ws 1 r → GoesByMark here ws r
  whole v (Ok x) line j = (cond_true (fits here ws 0) (misfit_from here ws 1 rest) 0 (first_fine v line) ∙ j.goes.0, j.goes.1)
  whole v (Err c) line j =
      ap (λ (k : ℕ). cause_at here ws k) (cond_true (fits here ws 0) (misfit_from here ws 1 rest) 0 (first_fine v line)) ∙ j.goes

  pub calls_go : (v : Verb) → IsCallLine context word rest v → GoesByMark here ws (call_line context.version ws v)
  calls_go v line = whole v (call_line context.version ws v) line (judged_line v line)
