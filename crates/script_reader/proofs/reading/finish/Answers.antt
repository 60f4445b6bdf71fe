use Rattle.std.proofs.Common.{◌≡◌, ap, ◌∙◌, take, sym, refl}
use Rattle.script_reader.specs.{draft_view, lists_of}
use Rattle.script_reader.proofs.DraftSteps.{finished, is_script}
use Rattle.{std.proofs.lemmas.List.take-map, script_reader.specs.declared.reading.Script.Script}
use Rattle.script_reader.proofs.reading.finish.Goals as goal

pub returns-clause-value : goal.returns-clause-value
returns-clause-value c =
    let d = draft_view c.args.draft in
    let s : Script =
    record { version = d.head.version; setup = c.setup_of-setup.result; lists = c.truncate.new.self; order = c.args.draft.order } in
    let lists : lists_of c.truncate.new.self.items ≡ take d.head.cores d.lists = ap lists_of c.truncate.ensures.items
    ∙ sym (take-map (λ v. v.items) c.from.result c.args.draft.lists.items) ∙ ap (λ n. take n d.lists) c.from.ensures in
    finished d c.args.ending c.in_ok-lines.lines s c.in_ok-lines.ensures.value (sym c.if-not-is_whole.ensures) refl c.setup_of-setup.ensures lists refl

pub returns-clause-script : goal.returns-clause-script
returns-clause-script c =
    let d = draft_view c.args.draft in
    let s : Script =
    record { version = d.head.version; setup = c.setup_of-setup.result; lists = c.truncate.new.self; order = c.args.draft.order } in
    let lists : lists_of c.truncate.new.self.items ≡ take d.head.cores d.lists = ap lists_of c.truncate.ensures.items
    ∙ sym (take-map (λ v. v.items) c.from.result c.args.draft.lists.items) ∙ ap (λ n. take n d.lists) c.from.ensures in
    is_script d s c.requires.draft refl c.setup_of-setup.ensures lists refl
