use Rattle.std.proofs.Common.{◌≡◌, ◌+◌, ◌*◌, length, ◌∙◌, ap}
use Rattle.std.proofs.lemmas.List.{length-map}
use Rattle.mn_routing.proofs.flying.channel_to.Goals as goal

pub returns : goal.returns
returns c =
    let many : length c.nodes.result.now ≡ length c.args.topology.now.loopbacks = ap length c.nodes.ensures ∙ length-map c.args.topology.now.loopbacks _ in
    ap (λ n. n * length c.nodes.result.now + c.from-2.result) c.from.ensures
    ∙ ap (λ n. c.args.edge.0 * n + c.from-2.result) many
    ∙ ap (λ n. c.args.edge.0 * length c.args.topology.now.loopbacks + n) c.from-2.ensures
