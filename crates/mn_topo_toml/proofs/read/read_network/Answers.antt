use Rattle.toml.specs.View.{table_view}
use Rattle.std.proofs.Common.{◌∙◌, ap, Err}
use Rattle.std.proofs.lemmas.Result.{err_from_is_err_and}
use Rattle.mn_topo_toml.proofs.Chain.{TablesRead, refused_sites, whole_lawful}
use Rattle.mn_topo_toml.proofs.read.read_network.Goals as goal

pub returns-in_err-sites : goal.returns-in_err-sites
returns-in_err-sites c =
    let parts : TablesRead (table_view c.args.top.now) c.in-Ok.head c.in_ok-nodes.nodes c.in_ok-links.links c.in_ok-vrfs.vrfs =
    record { head_is = c.in-Ok.ensures; nodes_are = c.in_ok-nodes.ensures; links_are = c.in_ok-links.ensures; vrfs_are = c.in_ok-vrfs.ensures } in
    let handed = err_from_is_err_and c.from_residual-in_err-sites.result c.from_residual-in_err-sites.ensures.1 in
    rw (handed.1 ∙ ap (λ e. Err e) handed.2)
    (refused_sites (table_view c.args.top.now) c.in-Ok.head c.in_ok-nodes.nodes c.in_ok-links.links c.in_ok-vrfs.vrfs c.in_err-sites.field-0.0 parts
    c.in_err-sites.ensures)

pub of-requires : goal.of-requires
of-requires c =
    let parts : TablesRead (table_view c.args.top.now) c.in-Ok.head c.in_ok-nodes.nodes c.in_ok-links.links c.in_ok-vrfs.vrfs =
    record { head_is = c.in-Ok.ensures; nodes_are = c.in_ok-nodes.ensures; links_are = c.in_ok-links.ensures; vrfs_are = c.in_ok-vrfs.ensures } in
    whole_lawful (table_view c.args.top.now) c.in-Ok.head c.in_ok-nodes.nodes c.in_ok-links.links c.in_ok-vrfs.vrfs c.in_ok-sites.sites parts
    c.in_ok-sites.ensures
