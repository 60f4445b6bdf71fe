use Rattle.std.proofs.Common.{ℕ, List, ◌∷◌, codes, refl, sym, ap, ◌∙◌}
use Rattle.line_reader.specs.Arguments.{texts}
use Rattle.call_reader.specs.{form_of, spk_nums.specs.declared.verbs.Verb.Verb, spk_nums.specs.declared.verbs.Object.Object}
use Rattle.line_forms.specs.{declared.slots.Slot.Slot, Calls.slots_of}
use Rattle.line_forms.proofs.Objects.{after_made, named, plain, thread_is, tcap_is, comp_is}
use Rattle.line_forms.proofs.calls.make_slots.Goals as goal

-- What may stand there, by the object.
abbrev slots_by : ℕ → List (List ℕ) → Object → List Slot
slots_by version words o = Slot.Object ∷ slots_of version words 2 (after_made (form_of Verb.Make) o)

pub returns-then-is_at : goal.returns-then-is_at
returns-then-is_at c = λ version. let ws = texts c.args.words.now in
    sym (ap (slots_by version ws) (named ws 1 (codes "thread") Object.Thread thread_is (sym c.is_at.ensures ∙ c.if-is_at.true)))

pub returns-then-is_at-2 : goal.returns-then-is_at-2
returns-then-is_at-2 c = λ version. let ws = texts c.args.words.now in
    sym (ap (slots_by version ws) (named ws 1 (codes "tcap") Object.Tcap tcap_is (sym c.is_at-else-is_at.ensures ∙ c.if-is_at-2.true)))

pub returns-then-is_at-3 : goal.returns-then-is_at-3
returns-then-is_at-3 c = λ version. let ws = texts c.args.words.now in
    sym (ap (slots_by version ws) (named ws 1 (codes "comp") Object.Comp comp_is (sym c.is_at-else-is_at-2.ensures ∙ c.if-is_at-3.true)))

pub returns-else-is_at-3 : goal.returns-else-is_at-3
returns-else-is_at-3 c = λ version. let ws = texts c.args.words.now in
    sym (plain (slots_by version ws) refl refl refl ws 1 (sym c.is_at.ensures ∙ c.if-is_at.false)
    (sym c.is_at-else-is_at.ensures ∙ c.if-is_at-2.false) (sym c.is_at-else-is_at-2.ensures ∙ c.if-is_at-3.false))
