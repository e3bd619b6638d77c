use Rattle.std.proofs.Common.{rules, ◌<◌, [], length, arith}
use Rattle.std.proofs.lemmas.Option.{slice_get_within}
use Rattle.mn_base.specs.declared.numbers.SiteNo.{SiteNo}
use Rattle.mn_topo.specs.declared.steps.Step.TheVariants as step
use Rattle.mn_timetable_laws.specs.Steps.{pushed}
use Rattle.mn_transport_laws.specs.Stands.{IsTransport}
use Rattle.mn_flight_tests.proofs.Witness.{first_detached, then_attached}
use Rattle.mn_flight_tests.proofs.transport.a_site_that_is_attached_anew_has_the_next_label.Goals as goal

pub detach-requires : goal.detach-requires
detach-requires g c =
    let there : 0 < length c.in_ok-topology.topology.sites = search rules in
    record {
      may = record {
        journal = [];
        stands = c.in_ok-transport.ensures.stands;
        turn = first_detached c.in_ok-topology.topology (record { 0 = 0 }) there;
      };
    }

pub attach-requires : goal.attach-requires
attach-requires g c =
    let t = c.in_ok-topology.topology in
    let a : SiteNo = record { 0 = 0 } in
    let there : 0 < length c.in_ok-topology.topology.sites = search rules in
    record {
      may = record {
        journal = pushed [] 0 (step.Detach a);
        stands = c.detach.ensures.goes [] 0 c.in_ok-transport.ensures.stands (first_detached t a there);
        turn = then_attached t c.laws.ensures a there;
      };
    }

pub node-requires-3 : goal.node-requires-3
node-requires-3 g c =
    let t = c.in_ok-topology.topology in
    let a : SiteNo = record { 0 = 0 } in
    let there : 0 < length c.in_ok-topology.topology.sites = search rules in
    let some : 0 < length c.in_ok-transport.transport.nodes = slice_get_within c.in_ok-transport.transport.nodes 0 c.node.result.now c.node.ensures in
    let stands : IsTransport t (pushed (pushed [] 0 (step.Detach a)) 0 (step.Attach a)) c.attach.new.self =
    c.in_ok-label.ensures.goes (pushed [] 0 (step.Detach a)) 0 (c.detach.ensures.goes [] 0 c.in_ok-transport.ensures.stands (first_detached t a there))
    (then_attached t c.laws.ensures a there) in
    omega (arith, stands.each, c.in_ok-transport.ensures.stands.each, some)
