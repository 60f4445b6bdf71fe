use Rattle.lone_kernel.specs.flight.proofs.{rules, All, List, subst, sym, ◌<◌, [], take_all, get_or-map, length-map, Call}
use Rattle.{std.proofs.Common.Vec, std.proofs.Common.Global, std.proofs.lemmas.List.Elements.All-more}
use Rattle.{std.proofs.lemmas.List.Elements.All-map, lone_checks.specs.Lists.IsRunnable}
use Rattle.lone_checks.proofs.are_lists.Goals as goal

pub lists-preserved : goal.lists-preserved
lists-preserved c =
    let runs = subst IsRunnable c.as_slice.ensures.value (c.is_list.ensures.0 (search rules)) in
    All-more (λ (v : Vec Call Global). IsRunnable v.items) c.args.lists.now c.lists.list-index c.list-item.result
    c.lists-test.true c.lists.invariant (subst (λ (v : Vec Call Global). IsRunnable v.items) c.list-item.is runs)

pub returns-then-not-is_list : goal.returns-then-not-is_list
returns-then-not-is_list c = (
  λ t. search rules,
  λ all.
      let at = c.lists.list-index in
      let there = subst (λ n. at < n) (sym (length-map c.args.lists.now (λ (v : Vec Call Global). v.items))) c.lists-test.true in
      let found = subst IsRunnable (get_or-map (λ (v : Vec Call Global). v.items) c.args.lists.now at c.list-item.result [] c.lists-test.true)
      (all at [] there) in
      let item = subst (λ (v : Vec Call Global). IsRunnable v.items) (sym c.list-item.is) found in
      c.if-not-is_list.ensures.1 (subst IsRunnable (sym c.as_slice.ensures.value) item),
)

pub returns : goal.returns
returns c = (
  λ _. All-map IsRunnable (λ v. v.items) c.args.lists.now
      (subst (λ (xs : List (Vec Call Global)). All (λ v. IsRunnable v.items) xs) (take_all _ _ c.lists-test.false) c.lists.invariant),
  λ _. search rules,
)
