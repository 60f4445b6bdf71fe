use Rattle.std.proofs.Common.{[], arith}
use Rattle.straight_looks.specs.Standing.{going}
use Rattle.straight_looks.specs.step_starts.specs.act_states.specs.declared.work.Work.TheVariants.{Lookup}
use Rattle.straight_looks.specs.step_starts.specs.call_stages.specs.declared.stages.Stage.TheVariants.{Undecided}
use Rattle.straight_maps.proofs.Mapping.{map_first, map_maps, map_none, map_second}
use Rattle.straight_maps.proofs.Placing.{stood}
use Rattle.straight_maps.proofs.maps.map.Goals as goal

pub name-requires-clause-stands : goal.name-requires-clause-stands
name-requires-clause-stands g c =
    map_none c.args.own.now c.args.call.now c.in-Map.p c.in-Map.v c.in-Map.r c.in-Map.f c.in-Map.w c.none-caps.result _ (cc) (omega arith)
    c.none-caps.ensures c.in-Lives.ensures.core

pub name-requires-2-clause-stands : goal.name-requires-2-clause-stands
name-requires-2-clause-stands g c =
    map_first c.args.own.now c.args.call.now c.in-Map.p c.in-Map.v c.in-Map.r c.in-Map.f c.in-Map.w c.none-caps.result c.push.new.self
    c.in-Finds.cap _ (cc) (omega arith) c.none-caps.ensures c.push.ensures c.in-Finds.ensures.core

pub map_at-requires-clause-maps : goal.map_at-requires-clause-maps
map_at-requires-clause-maps g c =
    map_maps c.args.own.now c.args.call.now c.in-Map.p c.in-Map.v c.in-Map.r c.in-Map.f c.in-Map.w c.none-caps.result c.push.new.self
    c.push-2.new.self c.in-Finds.cap c.in-Finds-name.cap c.page_cap.result (cc) (omega arith) c.none-caps.ensures c.push.ensures
    c.push-2.ensures (cc) c.page_cap.ensures

pub map_at-requires-clause-stands : goal.map_at-requires-clause-stands
map_at-requires-clause-stands g c =
    map_second c.args.own.now c.args.call.now c.in-Map.p c.in-Map.v c.in-Map.r c.in-Map.f c.frame.result c.new.result c.in-Map.w
    c.none-caps.result c.push.new.self c.push-2.new.self c.in-Finds.cap c.in-Finds-name.cap c.place-look.result _ (cc) (omega arith)
    c.none-caps.ensures c.push.ensures c.push-2.ensures c.frame.ensures (cc) c.place-look.ensures c.in-Finds-name.ensures.core

pub returns-else-is_within : goal.returns-else-is_within
returns-else-is_within g c =
    stood c.args.own.now c.rest_looking.new.active
    (going c.args.call.now 7 (Undecided (Lookup c.place-look.result)) c.push-2.new.self [])
    (g.W.Words.core c.name-2.new.words) c.rest_looking.ensures
    (map_second c.args.own.now c.args.call.now c.in-Map.p c.in-Map.v c.in-Map.r c.in-Map.f c.frame.result c.new.result c.in-Map.w
    c.none-caps.result c.push.new.self c.push-2.new.self c.in-Finds.cap c.in-Finds-name.cap c.place-look.result _ (cc) (omega arith)
    c.none-caps.ensures c.push.ensures c.push-2.ensures c.frame.ensures (cc) c.place-look.ensures c.in-Finds-name.ensures.core)
    c.in-Finds-name.ensures.fits
