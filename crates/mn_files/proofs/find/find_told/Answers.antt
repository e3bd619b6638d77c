use Rattle.std.proofs.Common.{◌≡◌, ◌≢◌, ◌+◌, ◌≤◌, length, refl, sym, ◌∙◌, ap, subst, arith, true, false}
use Rattle.mn_base.proofs.Bools.{other_numbers}
use Rattle.mn_output_laws.specs.Files.{Told}
use Rattle.mn_files.specs.Numbers.{edges_before}
use Rattle.mn_files.proofs.Places.{edge_at, all_at, some_edge, places_apart, told_is}
use Rattle.mn_files.proofs.Finding.{is_there, are_two, no_two}
use Rattle.mn_files.proofs.find.find_told.Goals as goal

pub returns-then-not-are_two : goal.returns-then-not-are_two
returns-then-not-are_two c = λ places number within is.
    no_two c.args.topology.now c.args.edge.0 c.args.peer.0 (sym c.are_two.ensures ∙ c.if-not-are_two.true)
    (is_there c.args.topology.now number (Told c.args.edge.0 c.args.peer.0) within is)

pub returns-then-edges-eq0 : goal.returns-then-edges-eq0
returns-then-edges-eq0 c = λ places number within is.
    let two = are_two c.args.topology.now c.args.edge.0 c.args.peer.0 (sym c.are_two.ensures ∙ c.if-not-are_two.false) in
    let all =
    all_at c.args.topology.now c.nodes.result.now c.args.places.now c.count-edges.result c.nodes.ensures places c.count-edges.ensures.count in
    let some : 1 ≤ edges_before c.args.topology.now (length c.args.topology.now.loopbacks) =
    some_edge c.args.topology.now c.args.edge.0 c.laws.ensures two.one in
    let none = c.if-edges-eq0.true in
    omega (arith, all, some, none)

pub returns-then-place-peer_place : goal.returns-then-place-peer_place
returns-then-place-peer_place c = λ places number within is.
    let two = are_two c.args.topology.now c.args.edge.0 c.args.peer.0 (sym c.are_two.ensures ∙ c.if-not-are_two.false) in
    let apart : c.args.edge.0 ≢ c.args.peer.0 = other_numbers c.args.edge.0 c.args.peer.0 two.apart in
    let place = edge_at c.args.topology.now c.args.places.now c.args.edge.0 _ places c.laws.ensures two.one c.count-place.ensures.count in
    let other = edge_at c.args.topology.now c.args.places.now c.args.peer.0 _ places c.laws.ensures two.other c.count-peer_place.ensures.count in
    places_apart c.args.topology.now c.args.edge.0 c.args.peer.0 c.laws.ensures two.one two.other apart (sym other ∙ sym c.if-place-peer_place.true ∙ place)

pub returns : goal.returns
returns c = λ places.
    let two = are_two c.args.topology.now c.args.edge.0 c.args.peer.0 (sym c.are_two.ensures ∙ c.if-not-are_two.false) in
    let apart : c.args.edge.0 ≢ c.args.peer.0 = other_numbers c.args.edge.0 c.args.peer.0 two.apart in
    let all =
    all_at c.args.topology.now c.nodes.result.now c.args.places.now c.count-edges.result c.nodes.ensures places c.count-edges.ensures.count in
    let place = edge_at c.args.topology.now c.args.places.now c.args.edge.0 _ places c.laws.ensures two.one c.count-place.ensures.count in
    let other = edge_at c.args.topology.now c.args.places.now c.args.peer.0 _ places c.laws.ensures two.other c.count-peer_place.ensures.count in
    told_is c.args.topology.now c.args.edge.0 c.args.peer.0 _ (length c.links.result.now) c.count-edges.result c.count-place.result c.count-peer_place.result
    c.place_without.result c.laws.ensures two.one two.other apart (ap length c.links.ensures) all place other c.place_without.ensures.value refl
