use Rattle.std.proofs.Common.{◌∙◌, ap, sym, None}
use Rattle.std.specs.Prelude.{slice_index_or}
use Rattle.mn_ledger.specs.Places.{edge_of}
use Rattle.mn_ledger.specs.Ledger.{world_of}
use Rattle.mn_frame_laws.specs.Given.{given}
use Rattle.mn_routing_laws.proofs.Enters.{enters_among}
use Rattle.mn_routing.proofs.Rows.{if_ok}
use Rattle.mn_routing.proofs.routes.Routes.enter_among.Goals as goal

pub returns-clause-fate : goal.returns-clause-fate
returns-clause-fate c = λ on. if_ok c.enter_among_at.result
    (λ entered fates journal inputs lawful stands are. fates c.args.topology.now (given c.args.topology.now journal) (world_of c.args.topology.now journal)
    (enters_among c.args.topology.now c.laws.ensures c.args.self.now c.args.site.0 c.args.packet.now c.pe_of-pe.result.now c.requires.site
    (ap (λ v. slice_index_or c.args.self.now.edges (edge_of c.args.topology.now v) None) (sym c.vrf_of.ensures.vrf) ∙ c.pe_of-pe.ensures) journal inputs
    lawful stands c.args.ways.now c.enter_among_at.ensures.bytes on are))
    c.enter_among_at.ensures.fate

pub returns-clause-answer : goal.returns-clause-answer
returns-clause-answer c = if_ok c.enter_among_at.result (λ entered is. (c.pe_of-pe.result.now.edge, is)) c.enter_among_at.ensures.answer
