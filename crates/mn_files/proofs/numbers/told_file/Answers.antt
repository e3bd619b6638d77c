use Rattle.std.proofs.Common.{◌≡◌, ◌+◌, ◌<◌, ◌≤◌, length, refl, sym, ◌∙◌, ap, arith}
use Rattle.mn_files.specs.Numbers.{edges_before}
use Rattle.mn_files.proofs.Places.{edge_below, table_length, nodes_length, edge_at, all_at, some_edge, places_apart, told_is}
use Rattle.mn_files.proofs.numbers.told_file.Goals as goal

pub before-others-requires : goal.before-others-requires
before-others-requires c =
    let rows : length c.args.places.now ≡ length c.args.topology.now.loopbacks + 1 = table_length c.args.topology.now c.args.places.now c.requires.places in
    let nodes : length c.nodes.result.now ≡ length c.args.topology.now.loopbacks = nodes_length c.args.topology.now c.nodes.result.now c.nodes.ensures in
    omega (arith, rows, nodes)

pub overflow_sub-others : goal.overflow_sub-others
overflow_sub-others c =
    let all =
    all_at c.args.topology.now c.nodes.result.now c.args.places.now c.before-others.result c.nodes.ensures c.requires.places
    c.before-others.ensures.count in
    let some : 1 ≤ edges_before c.args.topology.now (length c.args.topology.now.loopbacks) =
    some_edge c.args.topology.now c.args.edge.0 c.laws.ensures c.requires.edge in
    omega (arith, all, some)

pub before-place-requires : goal.before-place-requires
before-place-requires c =
    let rows : length c.args.places.now ≡ length c.args.topology.now.loopbacks + 1 = table_length c.args.topology.now c.args.places.now c.requires.places in
    let below : c.args.edge.0 < length c.args.topology.now.loopbacks = edge_below c.args.topology.now c.args.edge.0 c.laws.ensures c.requires.edge in
    omega (arith, rows, below)

pub before-peer_place-requires : goal.before-peer_place-requires
before-peer_place-requires c =
    let rows : length c.args.places.now ≡ length c.args.topology.now.loopbacks + 1 = table_length c.args.topology.now c.args.places.now c.requires.places in
    let below : c.args.peer.0 < length c.args.topology.now.loopbacks = edge_below c.args.topology.now c.args.peer.0 c.laws.ensures c.requires.peer in
    omega (arith, rows, below)

pub place_without-requires : goal.place_without-requires
place_without-requires c =
    let place =
    edge_at c.args.topology.now c.args.places.now c.args.edge.0 _ c.requires.places c.laws.ensures c.requires.edge c.before-place.ensures.count in
    let other =
    edge_at c.args.topology.now c.args.places.now c.args.peer.0 _ c.requires.places c.laws.ensures c.requires.peer c.before-peer_place.ensures.count in
    λ same. places_apart c.args.topology.now c.args.edge.0 c.args.peer.0 c.laws.ensures c.requires.edge c.requires.peer c.requires.apart
    (sym other ∙ same ∙ place)

pub returns : goal.returns
returns c =
    let place =
    edge_at c.args.topology.now c.args.places.now c.args.edge.0 _ c.requires.places c.laws.ensures c.requires.edge c.before-place.ensures.count in
    let other =
    edge_at c.args.topology.now c.args.places.now c.args.peer.0 _ c.requires.places c.laws.ensures c.requires.peer c.before-peer_place.ensures.count in
    let all =
    all_at c.args.topology.now c.nodes.result.now c.args.places.now c.before-others.result c.nodes.ensures c.requires.places
    c.before-others.ensures.count in
    told_is c.args.topology.now c.args.edge.0 c.args.peer.0 _
    (length c.links.result.now) c.before-others.result c.before-place.result c.before-peer_place.result c.place_without.result
    c.laws.ensures c.requires.edge c.requires.peer c.requires.apart (ap length c.links.ensures) all place other c.place_without.ensures.value refl
