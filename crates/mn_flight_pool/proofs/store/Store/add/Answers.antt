use Rattle.std.proofs.Common.{◌++◌, ◌∷◌, [], None, refl, ap, ◌∙◌}
use Rattle.mn_flight_pool.specs.Nodes.{roomy_node}
use Rattle.mn_flight_pool.proofs.Nodes.{added_now, past_last, room_last}
use Rattle.mn_flight_pool.proofs.store.Store.add.Goals as goal

pub returns-clause-ok : goal.returns-clause-ok
returns-clause-ok g c = (
  roomy_node c.nowhere.result c.nowhere-2.result None,
  added_now c.self.inside.firsts c.self.inside.channel.items c.self.inside.due.items c.self.inside.items.items c.args.self.now c.self.view_is c.self.invariant.0
      c.self.invariant.1 c.push_reserved.new.self.items c.push_reserved-2.new.self.items c.push.new.self.items
      c.nowhere.result c.nowhere-2.result None
      (c.push_reserved.ensures.items ∙ ap (λ l. l ++ c.nowhere.result ∷ []) c.reserve.ensures.items)
      (c.push_reserved-2.ensures.items ∙ ap (λ l. l ++ c.nowhere-2.result ∷ []) c.reserve-2.ensures.items)
      (c.in_ok-push.ensures).items,
  refl,
  c.in_ok-place.ensures,
)

pub returns-clause-fresh : goal.returns-clause-fresh
returns-clause-fresh g c = past_last c.args.self.now c.in_ok-place.place.index c.in_ok-place.ensures

pub returns-clause-room : goal.returns-clause-room
returns-clause-room g c =
    room_last c.args.self.now _ c.in_ok-place.place.index (roomy_node c.nowhere.result c.nowhere-2.result None) refl
    (added_now c.self.inside.firsts c.self.inside.channel.items c.self.inside.due.items c.self.inside.items.items c.args.self.now c.self.view_is
    c.self.invariant.0 c.self.invariant.1 c.push_reserved.new.self.items c.push_reserved-2.new.self.items c.push.new.self.items
    c.nowhere.result c.nowhere-2.result None
    (c.push_reserved.ensures.items ∙ ap (λ l. l ++ c.nowhere.result ∷ []) c.reserve.ensures.items)
    (c.push_reserved-2.ensures.items ∙ ap (λ l. l ++ c.nowhere-2.result ∷ []) c.reserve-2.ensures.items)
    (c.in_ok-push.ensures).items)
    c.in_ok-place.ensures
