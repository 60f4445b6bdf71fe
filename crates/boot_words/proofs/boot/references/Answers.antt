use Rattle.std.proofs.Common.{arith, sym}
use Rattle.boot_words.proofs.StartRefs.{refs_table, refs_leaf, refs_pages, refs_comp, refs_object, refs_untyped}
use Rattle.boot_words.proofs.boot.references.Goals as goal

pub returns-then-frame-eq0-clause-value : goal.returns-then-frame-eq0-clause-value
returns-then-frame-eq0-clause-value c = sym (refs_table c.args.setup.now c.cores-cores.ensures.limits c.args.frame c.if-frame-eq0.true)

pub returns-then-frame-eq1-clause-value : goal.returns-then-frame-eq1-clause-value
returns-then-frame-eq1-clause-value c = sym (refs_leaf c.args.setup.now c.cores-cores.ensures.limits c.args.frame c.if-frame-eq1.true)

pub returns-then-frame-eq2-clause-value : goal.returns-then-frame-eq2-clause-value
returns-then-frame-eq2-clause-value c = sym (refs_pages c.args.setup.now c.cores-cores.ensures.limits c.args.frame c.if-frame-eq2.true)

pub returns-then-frame-eq3-clause-value : goal.returns-then-frame-eq3-clause-value
returns-then-frame-eq3-clause-value c =
    let e = refs_comp c.args.setup.now c.cores-cores.ensures.limits c.args.frame c.if-frame-eq3.true in omega arith

pub returns-then-frame-from-clause-value : goal.returns-then-frame-from-clause-value
returns-then-frame-from-clause-value c =
    sym (refs_object c.args.setup.now c.cores-cores.ensures.limits c.args.frame (omega arith) (omega arith))

pub returns-clause-value : goal.returns-clause-value
returns-clause-value c = sym (refs_untyped c.args.setup.now c.cores-cores.ensures.limits c.args.frame (omega arith))
