use Rattle.std.proofs.Common.{◌∙◌, ap, subst, sym, length, None}
use Rattle.std.specs.Prelude.{slice_index_or}
use Rattle.mn_ledger.specs.Places.{edge_of, home_of}
use Rattle.mn_ledger.specs.Ledger.{world_of}
use Rattle.mn_frame_laws.specs.Given.{given}
use Rattle.mn_pe.specs.Entries.{IsWayOpen, IsBoundBelow}
use Rattle.mn_routing_laws.proofs.Enters.{enters, bound_below}
use Rattle.mn_routing.proofs.Rows.{if_ok, if_both}
use Rattle.mn_routing.proofs.routes.Routes.enter.Goals as goal

pub returns-clause-fate : goal.returns-clause-fate
returns-clause-fate c = if_both c.enter_at.result
    (λ entered fates is journal inputs lawful stands way. fates c.args.topology.now (given c.args.topology.now journal) (world_of c.args.topology.now journal)
    (enters c.args.topology.now c.laws.ensures c.args.self.now c.args.site.0 c.args.packet.now c.pe_of-pe.result.now c.requires.site
    (ap (λ v. slice_index_or c.args.self.now.edges (edge_of c.args.topology.now v) None) (sym c.vrf_of.ensures.vrf) ∙ c.pe_of-pe.ensures) journal inputs
    lawful stands c.enter_at.ensures.bytes
    (subst (IsWayOpen c.args.topology.now (world_of c.args.topology.now journal) (home_of c.args.topology.now c.args.site.0)) is way)))
    c.enter_at.ensures.fate c.enter_at.ensures.answer

pub returns-clause-node : goal.returns-clause-node
returns-clause-node c = λ journal inputs lawful stands. if_ok c.enter_at.result
    (λ entered is. subst (IsBoundBelow (length c.args.topology.now.loopbacks)) (sym is)
    (bound_below c.args.topology.now c.laws.ensures c.args.self.now c.args.site.0 c.args.packet.now c.pe_of-pe.result.now c.requires.site
    (ap (λ v. slice_index_or c.args.self.now.edges (edge_of c.args.topology.now v) None) (sym c.vrf_of.ensures.vrf) ∙ c.pe_of-pe.ensures) journal inputs
    lawful stands))
    c.enter_at.ensures.answer

pub returns-clause-answer : goal.returns-clause-answer
returns-clause-answer c = if_ok c.enter_at.result (λ entered is. (c.pe_of-pe.result.now.edge, is)) c.enter_at.ensures.answer
