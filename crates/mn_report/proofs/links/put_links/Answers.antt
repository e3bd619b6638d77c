use Rattle.std.proofs.Common.{◌<◌, ◌≤◌, arith}
use Rattle.std.specs.Prelude.{length}
use Rattle.mn_ledger.specs.Ledger.{world_of}
use Rattle.mn_output_laws.specs.Tables.{link_line}
use Rattle.mn_tables.proofs.Telling.{told_nothing, told_next_number, tells_cut_number, tells_all_numbers}
use Rattle.mn_report.proofs.links.put_links.Goals as goal

pub loop-link-init : goal.loop-link-init
loop-link-init g c = told_nothing _

pub loop-link-preserved : goal.loop-link-preserved
loop-link-preserved g c =
    let below : c.loop-link.link < length c.args.net.now.topology.links = omega arith in
    told_next_number (link_line c.args.net.now.topology (world_of c.args.net.now.topology c.args.net.now.journal))
    (length c.args.net.now.topology.links) c.loop-link.link _ _ _ below c.loop-link.invariant c.in_ok-put_link_of.ensures

pub returns-in_err-put_link_of : goal.returns-in_err-put_link_of
returns-in_err-put_link_of g c =
    let below : c.loop-link.link < length c.args.net.now.topology.links = omega arith in
    (tells_cut_number (link_line c.args.net.now.topology (world_of c.args.net.now.topology c.args.net.now.journal))
    (length c.args.net.now.topology.links) c.loop-link.link _ _ _ _ _ c.from_residual.ensures below c.loop-link.invariant
    c.in_err-put_link_of.ensures)

pub returns : goal.returns
returns g c =
    let past : length c.args.net.now.topology.links ≤ c.loop-link.link = omega arith in
    (tells_all_numbers (link_line c.args.net.now.topology (world_of c.args.net.now.topology c.args.net.now.journal))
    (length c.args.net.now.topology.links) c.loop-link.link _ _ past c.loop-link.invariant)
