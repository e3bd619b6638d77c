use Rattle.std.proofs.Common.{◌<◌, arith, sym, subst}
use Rattle.std.specs.List.{All}
use Rattle.mn_transport_laws.specs.Carried.{Carried}
use Rattle.mn_transport_laws.proofs.Turned.{below-cut}
use Rattle.mn_transport.proofs.transport.Transport.switch.Goals as goal

pub returns-then-not-is_link_up-clause-number : goal.returns-then-not-is_link_up-clause-number
returns-then-not-is_link_up-clause-number c = (
  omega arith,
  below-cut c.args.link.0 c.self.inside.messages.items c.cut.new.messages.items c.args.clock.number c.cut.ensures.cut
      (subst (λ (x : Carried). All (λ item. item.number < c.args.clock.number) x.messages) (sym c.self.view_is) c.requires.messages),
)

pub turn_session-requires-clause-number : goal.turn_session-requires-clause-number
turn_session-requires-clause-number c =
    below-cut c.args.link.0 c.self.inside.messages.items c.cut.new.messages.items c.args.clock.number c.cut.ensures.cut
    (subst (λ (x : Carried). All (λ item. item.number < c.args.clock.number) x.messages) (sym c.self.view_is) c.requires.messages)
