use Rattle.lone_kernel.specs.flight.proofs.{◌<◌, ◌∙◌, inl, refl, ap, sym, subst, arith, false≢true, IsSetting}
use Rattle.lone_kernel.specs.{IsThere, IsInCall}
use Rattle.lone_kernel.proofs.Runs.{begins_in_call, open_first, open_after, inside_after, works_on, counted_more, counted_last}
use Rattle.told_run.proofs.Steps.{short_none, short_more, there_at_last}
use Rattle.told_run.proofs.moves.until.Goals as goal

pub going-init : goal.going-init
going-init g c = record {
  setup = refl;
  lists = refl;
  begins = c.requires.begins;
  stays_open = open_first c.args.how c.args.kernel.now c.args.core c.requires.undone;
  counted = inl refl;
  goes = short_none g.W.Watcher.has_seen c.args.how record { machine = c.args.kernel.now; watcher = c.args.watcher.now } c.args.core;
}

pub going-preserved : goal.going-preserved
going-preserved g c =
    let i = c.going.invariant in
    let s = c.tell_step.ensures in
    let v = ap (λ x. x.cores) i.setup in
    let r : c.args.core < c.args.kernel.now.setup.cores = c.requires.here in
    let here : c.args.core < c.going.kernel.setup.cores = omega arith in
    let short : IsThere c.args.how c.tell_step.new.kernel c.args.core
    → ⊥ = λ h. false≢true (sym c.if-is_there.false ∙ c.is_there.ensures.1 h) in
    let inside : IsInCall c.tell_step.new.kernel c.args.core =
    inside_after c.args.how c.going.kernel c.tell_step.new.kernel c.args.core i.stays_open s.work short in
    record {
      setup = s.setup ∙ i.setup;
      lists = s.lists ∙ i.lists;
      begins = begins_in_call c.tell_step.new.kernel c.args.core inside;
      stays_open = open_after c.args.how c.tell_step.new.kernel c.args.core short;
      counted = counted_more c.args.kernel.now c.going.kernel c.tell_step.new.kernel c.args.core inside s.work i.counted;
      goes = short_more g.W.Watcher.has_seen record { machine = c.args.kernel.now; watcher = c.args.watcher.now }
          record { machine = c.going.kernel; watcher = c.going.watcher }
          record { machine = c.tell_step.new.kernel; watcher = c.tell_step.new.watcher }
          c.args.core i.setup s.setup here c.in_ok-tell_step.ensures.goes c.args.how short inside i.goes;
    }

pub going-smaller : goal.going-smaller
going-smaller g c =
    let i = c.going.invariant in
    let s = c.tell_step.ensures in
    let short : IsThere c.args.how c.tell_step.new.kernel c.args.core
    → ⊥ = λ h. false≢true (sym c.if-is_there.false ∙ c.is_there.ensures.1 h) in
    let inside : IsInCall c.tell_step.new.kernel c.args.core =
    inside_after c.args.how c.going.kernel c.tell_step.new.kernel c.args.core i.stays_open s.work short in
    works_on c.going.kernel c.tell_step.new.kernel c.args.core inside s.work

pub returns-then-is_there-clause-goes : goal.returns-then-is_there-clause-goes
returns-then-is_there-clause-goes g c =
    let i = c.going.invariant in
    let s = c.tell_step.ensures in
    let v = ap (λ x. x.cores) i.setup in
    let r : c.args.core < c.args.kernel.now.setup.cores = c.requires.here in
    let here : c.args.core < c.going.kernel.setup.cores = omega arith in
    there_at_last g.W.Watcher.has_seen record { machine = c.args.kernel.now; watcher = c.args.watcher.now }
    record { machine = c.going.kernel; watcher = c.going.watcher }
    record { machine = c.tell_step.new.kernel; watcher = c.tell_step.new.watcher }
    c.args.core i.setup s.setup here c.in_ok-tell_step.ensures.goes c.args.how r c.requires.setting
    c.requires.begins c.requires.undone i.stays_open (c.is_there.ensures.0 c.if-is_there.true) i.goes

pub returns-then-is_there-clause-fewer : goal.returns-then-is_there-clause-fewer
returns-then-is_there-clause-fewer g c return =
    let i = c.going.invariant in
    let s = c.tell_step.ensures in
    counted_last c.args.kernel.now c.going.kernel c.tell_step.new.kernel c.args.core (s.lists ∙ i.lists)
    (subst (λ h. IsThere h c.tell_step.new.kernel c.args.core) return (c.is_there.ensures.0 c.if-is_there.true)) s.work i.counted

pub tell_step-requires-clause-setting : goal.tell_step-requires-clause-setting
tell_step-requires-clause-setting g c = subst IsSetting (sym c.going.invariant.setup) c.requires.setting
