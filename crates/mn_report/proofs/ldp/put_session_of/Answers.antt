use Rattle.std.proofs.Common.{◌∙◌, ap, sym}
use Rattle.mn_wiring.specs.Wiring.{sender}
use Rattle.mn_wiring.specs.declared.links.Dir.TheVariants.{Forth, Back}
use Rattle.mn_topo.specs.Network.{Network, wiring_of}
use Rattle.mn_ledger.specs.Ledger.{world_of}
use Rattle.mn_output_laws.specs.Tables.{ldp_line}
use Rattle.mn_tables.specs.States.{state_at}
use Rattle.mn_report.proofs.Standing.{of_topology}
use Rattle.mn_report.proofs.ldp.put_session_of.Goals as goal

pub put_ldp-requires : goal.put_ldp-requires
put_ldp-requires g c = rw c.topology.ensures c.requires.link

pub returns : goal.returns
returns g c =
    of_topology (λ (topology : Network). ldp_line topology (world_of c.args.net.now.topology c.args.net.now.journal) c.args.link.0) _ _ _ _ _ c.topology.ensures
    (c.put_ldp.ensures (world_of c.args.net.now.topology c.args.net.now.journal)
    (c.ldp_state.ensures.told
    ∙ ap (λ (topology : Network). state_at topology (world_of c.args.net.now.topology c.args.net.now.journal) c.args.link.0
    (sender (wiring_of topology) c.args.link.0 Forth)) (sym c.topology.ensures))
    (c.ldp_state-2.ensures.told
    ∙ ap (λ (topology : Network). state_at topology (world_of c.args.net.now.topology c.args.net.now.journal) c.args.link.0
    (sender (wiring_of topology) c.args.link.0 Back)) (sym c.topology.ensures)))
