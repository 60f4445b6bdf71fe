use Rattle.trace_run.specs.lone_kernel.specs.flight.proofs.{◌≡◌, ◌∙◌, sym, ap, subst, map, string_bytes, length-map, Shape, state_after}
use Rattle.trace_run.specs.lone_kernel.specs.flight.proofs.{Represent, word_in, end_in, IsSetting}
use Rattle.trace_run.specs.lone_kernel.specs.flight_laws.proofs.Histories.{made_histories}
use Rattle.world_lines.specs.world_parts.specs.machine_image.specs.Views.{ImageOf}
use Rattle.speck_run.proofs.Finish.{all_out, run, worlds_told}
use Rattle.speck_run.proofs.apart.worlds.Goals as goal

pub close-requires : goal.close-requires
close-requires c =
    let lists = map (λ v. v.items) c.args.lists.items in
    let booted = c.in_ok-kernel.ensures in
    let followed = c.follow.ensures in
    let ran = c.run_rest.ensures in
    let r = run c.args.setup.now lists c.args.items.now c.in_ok-kernel.kernel c.follow.new.kernel
    c.run_rest.new.kernel booted.setup followed.setup ran.setup booted.lists followed.lists ran.lists
    c.cores-cores.ensures.limits (length-map c.args.lists.items (λ v. v.items) ∙ c.requires.one_each)
    booted.stands followed.goes ran.goes in
    all_out c.run_rest.new.kernel r.trace (subst IsSetting (sym (ran.setup ∙ followed.setup ∙ booted.setup)) c.cores-cores.ensures.limits)
    r.stands r.idle

pub returns : goal.returns
returns c =
    let lists = map (λ v. v.items) c.args.lists.items in
    let ended = c.run_rest.new.kernel in
    let booted = c.in_ok-kernel.ensures in
    let followed = c.follow.ensures in
    let ran = c.run_rest.ensures in
    let one_each = length-map c.args.lists.items (λ v. v.items) ∙ c.requires.one_each in
    let r = run c.args.setup.now lists c.args.items.now c.in_ok-kernel.kernel c.follow.new.kernel
    ended booted.setup followed.setup ran.setup booted.lists followed.lists ran.lists
    c.cores-cores.ensures.limits one_each booted.stands followed.goes ran.goes in
    let closed = c.in_ok-closed.closed in
    let done = c.in_ok-closed.ensures in
    let image : ImageOf = record { shape = closed.layout; words = closed.words.items; ends = closed.ends.items } in
    worlds_told c.args.setup.now lists c.args.items.now c.in_ok-kernel.kernel c.follow.new.kernel
    ended booted.setup followed.setup ran.setup booted.lists followed.lists ran.lists
    c.cores-cores.ensures.limits one_each booted.stands followed.goes ran.goes r made_histories image (string_bytes c.in_ok-text.text)
    done.layout
    (subst (λ (s : Shape). Represent (word_in s closed.words.items) (end_in closed.ends.items) (state_after ended.setup r.trace))
    (sym done.layout) (done.represent r.trace r.stands))
    c.in_ok-text.ensures
