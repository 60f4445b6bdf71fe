use Rattle.std.proofs.Common.{◌≡◌, Some, length, refl, ap, subst, arith}
use Rattle.confinement.specs.{declared.table.Kept.Kept, declared.table.Head.Head, Links.Table, Links.PutsIn, Links.put_of}
use Rattle.confinement.proofs.Tables.{IsPut, begins_below, put_exact}
use Rattle.confinement.proofs.table.OriginTable.put.Goals as goal

pub returns-clause-exact : goal.returns-clause-exact
returns-clause-exact c =
    let p = put_of c.args.put.now in
    let parent = c.in-Some.parent in
    let t : Table = record { kept = c.self.inside.kept.items; heads = c.self.inside.heads.items } in
    let t' : Table = record { kept = c.push.new.self.items; heads = c.set_head.new.heads.items } in
    let y : Kept = record { link = record { decision = c.args.decision; what = c.args.put.now.what }; rest = parent.first } in
    let h : Head = record { first = Some c.len-first.result; start = parent.start } in
    let long : c.len-first.result ≡ length c.self.inside.kept.items = omega (arith, c.len-first.ensures, c.self.inside.kept.ok.0) in
    let put : IsPut t y p.at h t' = record {
      kept = c.in_ok-push.ensures.items;
      heads = c.set_head.ensures;
      first = ap Some long;
      rest = begins_below t c.self.invariant p.parent.node p.parent.index parent c.in-Some.ensures;
    } in
    subst (λ (o : Table). PutsIn o c.args.decision p t') c.self.view_is
    (put_exact t t' y h parent c.args.decision p c.self.invariant put c.in-Some.ensures refl refl refl)
