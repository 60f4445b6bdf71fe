use Rattle.plain_tables.specs.kernel_history.proofs.{◌≡◌, ◌<◌, ◌^◌, ◌∙◌, sym, ap, subst, map, length, arith, List, [], string_bytes}
use Rattle.plain_tables.specs.kernel_history.proofs.{get_or as slice_index_or, length-map, get_or-map, list_of, Call}
use Rattle.plain_run.specs.Plain.{RunsList}
use Rattle.plain_run.proofs.PlainRuns.{no_list, one_list, has_reached, list_at, runnable_at}
use Rattle.plain_run.proofs.run.run_lists.Goals as goal

pub cores-init : goal.cores-init
cores-init c = no_list c.args.setup.now c.args.kernel.now (list_of (map (λ v. v.items) c.args.lists.now)) (string_bytes c.args.text.now)

pub run_list-requires-clause-reached : goal.run_list-requires-clause-reached
run_list-requires-clause-reached c =
    has_reached c.args.setup.now c.args.kernel.now c.cores.kernel (list_of (map (λ v. v.items) c.args.lists.now)) c.cores.core
    (string_bytes c.args.text.now) (string_bytes c.cores.text) c.cores.invariant c.requires.reached

pub run_list-requires-clause-limits : goal.run_list-requires-clause-limits
run_list-requires-clause-limits c =
    let below : c.cores.core < length c.args.lists.now = omega arith in
    let is = list_at (λ v. v.items) c.args.lists.now c.cores.core c.from.result c.index-lists-from.result c.as_slice-calls.result.now
    below c.from.ensures
    c.index-lists-from.is c.as_slice-calls.ensures.value in
    (runnable_at (λ v. v.items) c.args.lists.now c.cores.core c.as_slice-calls.result.now below is c.requires.can_run).0

pub run_list-requires-clause-few : goal.run_list-requires-clause-few
run_list-requires-clause-few c =
    let below : c.cores.core < length c.args.lists.now = omega arith in
    let is = list_at (λ v. v.items) c.args.lists.now c.cores.core c.from.result c.index-lists-from.result c.as_slice-calls.result.now
    below c.from.ensures
    c.index-lists-from.is c.as_slice-calls.ensures.value in
    (runnable_at (λ v. v.items) c.args.lists.now c.cores.core c.as_slice-calls.result.now below is c.requires.can_run).1

pub cores-preserved : goal.cores-preserved
cores-preserved c =
    let below : c.cores.core < length c.args.lists.now = omega arith in
    let is = list_at (λ v. v.items) c.args.lists.now c.cores.core c.from.result c.index-lists-from.result c.as_slice-calls.result.now
    below c.from.ensures
    c.index-lists-from.is c.as_slice-calls.ensures.value in
    let ran = subst (λ n. RunsList c.args.setup.now c.cores.kernel c.run_list.new.kernel n c.as_slice-calls.result.now
    (string_bytes c.cores.text) (string_bytes c.run_list.new.text)) c.new.ensures c.in_ok-run_list.ensures in
    one_list c.args.setup.now c.args.kernel.now c.cores.kernel c.run_list.new.kernel (list_of (map (λ v. v.items) c.args.lists.now))
    c.cores.core
    c.as_slice-calls.result.now (string_bytes c.args.text.now) (string_bytes c.cores.text) (string_bytes c.run_list.new.text) is
    c.cores.invariant ran
