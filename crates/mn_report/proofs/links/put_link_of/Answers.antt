use Rattle.mn_topo.specs.Network.{Network}
use Rattle.mn_ledger.specs.Ledger.{world_of}
use Rattle.mn_output_laws.specs.Tables.{link_line}
use Rattle.mn_report.proofs.Standing.{of_topology}
use Rattle.mn_report.proofs.links.put_link_of.Goals as goal

pub put_link-requires : goal.put_link-requires
put_link-requires g c = rw c.topology.ensures c.requires.link

pub returns : goal.returns
returns g c =
    of_topology (λ (topology : Network). link_line topology (world_of c.args.net.now.topology c.args.net.now.journal) c.args.link.0) _ _ _ _ _
    c.topology.ensures
    (c.put_link.ensures (world_of c.args.net.now.topology c.args.net.now.journal) c.link_up.ensures.told c.link_changes.ensures.told)
