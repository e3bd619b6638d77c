use Rattle.std.proofs.Common.{ℕ, ◌≡◌, ◌*◌, ◌/◌, ◌<◌, length, sym, ap, ◌∙◌, subst}
use Rattle.std.specs.Option.{option_copied}
use Rattle.mn_net_tally.proofs.Frame.{on_direction, half_below}
use Rattle.mn_net_tally.proofs.count.count_frame.Goals as goal

pub bounds-links-item : goal.bounds-links-item
bounds-links-item c =
    subst (λ links. c.in-Some.item.now.channel / 2 < length links) (sym c.links.ensures)
    (half_below c.in-Some.item.now.channel (length c.args.topology.now.links)
    (on_direction (2 * length c.args.topology.now.links) c.args.number c.args.transit.now.flying c.in-Some.item.now c.requires.flight
    (sym c.frame.ensures ∙ ap option_copied c.in-Some.is)))

pub send-requires-clause-there : goal.send-requires-clause-there
send-requires-clause-there c =
    subst (λ n. c.in-Some.item.now.channel < n) (sym c.requires.each)
    (on_direction (2 * length c.args.topology.now.links) c.args.number c.args.transit.now.flying c.in-Some.item.now c.requires.flight
    (sym c.frame.ensures ∙ ap option_copied c.in-Some.is))
