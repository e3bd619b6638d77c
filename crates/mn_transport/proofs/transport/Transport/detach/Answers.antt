use Rattle.std.proofs.Common.{◌≡◌, false}
use Rattle.mn_transport_laws.specs.Carried.{Carried}
use Rattle.mn_transport.specs.Inside.{carried_in}
use Rattle.mn_transport_laws.specs.Steps.{MayDo}
use Rattle.mn_transport_laws.proofs.Detaching.{IsDetached}
use Rattle.mn_transport_laws.proofs.Sited.{may-end, detached-goes, edge-works}
use Rattle.mn_topo.specs.declared.steps.Step.TheVariants as step
use Rattle.mn_transport.proofs.transport.Transport.detach.Goals as goal

pub detach-requires : goal.detach-requires
detach-requires c =
    let old : Carried = carried_in c.self.inside in
    let may : MayDo c.args.topology.now (step.Detach c.args.site) c.args.self.now = c.requires.may in
    record {
      attachment =
          may-end c.args.topology.now c.laws.ensures old c.args.self.now c.self.view_is c.args.site c.home_of-home.result.0 c.from-2.result
          c.home_of-home.ensures.home c.from-2.ensures
          c.home_of-home.ensures.there c.index_mut.result.now c.index_mut.ensures.value c.from.result c.from.ensures c.index-label.result.now
          c.index-label.ensures may.journal may.stands may.turn;
    }

pub returns-clause-goes : goal.returns-clause-goes
returns-clause-goes c =
    let old : Carried = carried_in c.self.inside in
    λ journal tick stands turn.
    let works : c.index_mut.result.now.failed ≡ false =
    edge-works c.args.topology.now c.laws.ensures old c.args.self.now c.self.view_is c.args.site c.home_of-home.result.0 c.from-2.result
    c.home_of-home.ensures.home c.from-2.ensures
    c.home_of-home.ensures.there c.index_mut.result.now c.index_mut.ensures.value journal stands in
    let did : IsDetached c.index_mut.result.now c.detach.new.self c.index-label.result.now =
    record { ended = c.detach.ensures.ended works; others = c.detach.ensures.others; kept = c.detach.ensures.kept } in
    detached-goes c.args.topology.now c.laws.ensures old c.args.self.now c.self.view_is c.args.site c.home_of-home.result.0 c.from-2.result
    c.home_of-home.ensures.home c.from-2.ensures
    c.home_of-home.ensures.there c.index_mut.result.now c.index_mut.ensures.value c.from.result c.from.ensures c.index-label.result.now
    c.index-label.ensures journal stands turn c.detach.new.self did tick
