use Rattle.std.proofs.Common.{◌≡◌, ◌<◌, ◌≤◌, ◌∙◌, arith, ap, sym, subst}
use Rattle.std.specs.List.{All}
use Rattle.mn_transport_laws.specs.Carried.{Carried}
use Rattle.mn_transport_laws.proofs.Turned.{below-cut, below-more}
use Rattle.mn_transport.proofs.transport.Transport.turn_link.Goals as goal

pub returns-then-not-ldp_on-clause-messages_below : goal.returns-then-not-ldp_on-clause-messages_below
returns-then-not-ldp_on-clause-messages_below c =
    let same : c.self.inside.messages.items ≡ c.args.self.now.messages = ap (λ (x : Carried). x.messages) (c.self.view_is ∙ c.change.ensures) in
    let more : c.args.clock.number ≤ c.in_ok-number.number = let n = c.in_ok-number.ensures.next in omega (arith, n) in
    below-more c.cut.new.messages.items c.args.clock.number c.in_ok-number.number more
    (below-cut c.args.link.0 c.self.inside.messages.items c.cut.new.messages.items c.args.clock.number c.cut.ensures.cut
    (subst (All (λ item. item.number < c.args.clock.number)) (sym same) c.requires.messages))

pub turn_session-requires-clause-number : goal.turn_session-requires-clause-number
turn_session-requires-clause-number c =
    let same : c.self.inside.messages.items ≡ c.args.self.now.messages = ap (λ (x : Carried). x.messages) (c.self.view_is ∙ c.change.ensures) in
    let more : c.args.clock.number ≤ c.in_ok-number.number = let n = c.in_ok-number.ensures.next in omega (arith, n) in
    below-more c.cut.new.messages.items c.args.clock.number c.in_ok-number.number more
    (below-cut c.args.link.0 c.self.inside.messages.items c.cut.new.messages.items c.args.clock.number c.cut.ensures.cut
    (subst (All (λ item. item.number < c.args.clock.number)) (sym same) c.requires.messages))
