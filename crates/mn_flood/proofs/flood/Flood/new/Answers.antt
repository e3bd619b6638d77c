use Rattle.std.proofs.Common.{arith, sym, subst}
use Rattle.mn_flood_laws.specs.Flood.{start}
use Rattle.mn_flood_laws.proofs.Start.{start_is, first_age}
use Rattle.mn_flood.specs.World.{WorldNow}
use Rattle.mn_flood.specs.Floods.{IsSound}
use Rattle.mn_topo.specs.Network.{wiring_of}
use Rattle.mn_flood.proofs.flood.Flood.new.Goals as goal

pub invariant_of-result : goal.invariant_of-result
invariant_of-result c works =
    let wiring = wiring_of c.args.topology.now in
    let sound : IsSound wiring (start wiring) 0 0 = record {
      flood = start_is wiring;
      own = λ node h. omega (arith, first_age wiring node h);
      few = omega arith;
      sent = omega arith;
    } in
    subst (λ (w : WorldNow). IsSound w.wiring w.world 0 w.made) (sym c.in_ok-world.ensures) sound
