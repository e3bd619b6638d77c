use Rattle.std.proofs.Common.{◌∙◌, sym}
use Rattle.mn_topo.specs.Network.{Network}
use Rattle.mn_ledger.specs.Ledger.{world_of}
use Rattle.mn_output_laws.specs.Tables.{bgp_line}
use Rattle.mn_tables.proofs.Telling.{tells_as, tells_nothing}
use Rattle.mn_report.proofs.Rows.{no_pair_row, one_pair_row}
use Rattle.mn_report.proofs.Standing.{of_topology}
use Rattle.mn_report.proofs.bgp.put_pair.Goals as goal

pub returns-then-not-is_pair : goal.returns-then-not-is_pair
returns-then-not-is_pair g c = tells_as _ _ _ _ _ (tells_nothing _)
    (no_pair_row c.args.net.now.topology (world_of c.args.net.now.topology c.args.net.now.journal) c.args.a.0 c.args.b.0
    (sym c.is_pair.ensures ∙ c.if-not-is_pair.true))

pub returns : goal.returns
returns g c = tells_as _ _ _ _ _
    (of_topology (λ (topology : Network). bgp_line topology (world_of c.args.net.now.topology c.args.net.now.journal) c.args.a.0 c.args.b.0) _ _ _ _ _
    c.topology.ensures
    (c.put_bgp.ensures (world_of c.args.net.now.topology c.args.net.now.journal) c.bgp_state.ensures.told c.bgp_state-2.ensures.told))
    (one_pair_row c.args.net.now.topology (world_of c.args.net.now.topology c.args.net.now.journal) c.args.a.0 c.args.b.0
    (sym c.is_pair.ensures ∙ c.if-not-is_pair.false))
