use Rattle.std.proofs.Common.{◌≡◌, Some, true}
use Rattle.std.specs.Str.{is_utf8}
use Rattle.toml.specs.Parse.{parse_document}
use Rattle.toml.specs.View.{table_view}
use Rattle.mn_topo_toml.specs.Topology.{topology_of}
use Rattle.mn_topo_toml.proofs.read.read_topology.Goals as goal

pub returns-in-Ok : goal.returns-in-Ok
unfolding topology_of
returns-in-Ok c =
    let utf8 : is_utf8 c.args.bytes.now ≡ true = c.in-Some.ensures.1 in
    let parsed : parse_document c.args.bytes.now ≡ Some (table_view c.in-Ok.top) = rw c.in-Some.ensures.0 at c.in-Ok.ensures.ok in
    rw (utf8, parsed) c.read_network.ensures
