use Rattle.std.proofs.Common.{◌<◌, refl, subst, sym}
use Rattle.std.specs.List.{All}
use Rattle.mn_routing_laws.specs.Routed.{Routed}
use Rattle.mn_routing.proofs.Rows.{sent_below}
use Rattle.mn_routing.proofs.routes.Routes.say_open.Goals as goal

pub returns-clause-number : goal.returns-clause-number
returns-clause-number c =
    sent_below c.send.result c.args.clock.number c.self.inside.messages.items c.send.new.messages.items _ c.send.ensures.sent c.send.ensures.next refl
    (subst (λ (x : Routed). All (λ item. item.number < c.args.clock.number) x.messages) (sym c.self.view_is) c.requires.number)
