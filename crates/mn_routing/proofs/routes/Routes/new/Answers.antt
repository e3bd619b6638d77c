use Rattle.std.proofs.Common.{◌≡◌, length, sym, ◌∙◌, ap, subst}
use Rattle.std.proofs.lemmas.List.{length-map}
use Rattle.mn_flight.proofs.Kept.{none_flies}
use Rattle.mn_flight.specs.Flying.{IsFlight}
use Rattle.mn_routing_laws.proofs.Starts.{edges_are, stands_first, channels_first}
use Rattle.mn_routing.proofs.routes.Routes.new.Goals as goal

pub invariant_of-result : goal.invariant_of-result
invariant_of-result c =
    let t = c.args.topology.now in
    let many : length c.nodes-nodes.result.now ≡ length t.loopbacks = ap length c.nodes-nodes.ensures ∙ length-map t.loopbacks _ in
    record {
      channels_are =
          channels_first t c.in_ok-edges.edges.items (length c.nodes-nodes.result.now) c.in_ok-messages.messages.channels many
          (c.in_ok-edges.ensures ∙ edges_are t c.laws.ensures)
          c.in_ok-messages.ensures.channels;
      messages_fly = subst (IsFlight c.in_ok-messages.messages.channels) (sym c.in_ok-messages.ensures.items) (none_flies c.in_ok-messages.messages.channels);
    }

pub returns-clause-stands : goal.returns-clause-stands
returns-clause-stands c =
    let t = c.args.topology.now in
    let many : length c.nodes-nodes.result.now ≡ length t.loopbacks = ap length c.nodes-nodes.ensures ∙ length-map t.loopbacks _ in
    stands_first t _ (length c.nodes-nodes.result.now) many (c.in_ok-edges.ensures ∙ edges_are t c.laws.ensures) c.in_ok-sessions.ensures
    c.in_ok-messages.ensures.items
