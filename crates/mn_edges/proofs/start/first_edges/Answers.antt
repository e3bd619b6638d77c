use Rattle.std.proofs.Common.{◌≡◌, length, map, arith, ◌∙◌, ap}
use Rattle.std.proofs.lemmas.List.{length-map}
use Rattle.std.specs.Prelude.{option_map}
use Rattle.std.specs.List.{range_with_len}
use Rattle.std.proofs.lemmas.List.FromFn.{map-range_with_len_more}
use Rattle.mn_edges.specs.Changes.{working}
use Rattle.mn_edges.specs.Start.{first_edge_or_none}
use Rattle.mn_edges.proofs.start.first_edges.Goals as goal

pub loop-number-preserved : goal.loop-number-preserved
loop-number-preserved c =
    let t = c.args.topology.now in
    let n = c.loop-number.number in
    let more = map-range_with_len_more (λ node. option_map working (first_edge_or_none t node)) 0 n n (omega arith) in
    cc (c.in_ok-push.ensures.items, c.in_ok-edge_if_any.ensures, c.loop-number.invariant, more)

pub returns : goal.returns
returns c =
    let t = c.args.topology.now in
    let many : length c.nodes-number-end.result.now ≡ length t.loopbacks = ap length c.nodes-number-end.ensures ∙ length-map t.loopbacks _ in
    let done : c.loop-number.number ≡ length t.loopbacks = omega (arith, many) in
    c.loop-number.invariant ∙ ap (λ k. map (λ node. option_map working (first_edge_or_none t node)) (range_with_len 0 k)) done
