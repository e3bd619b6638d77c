use Rattle.std.proofs.Common.{length, ap, arith}
use Rattle.mn_flight_pool.proofs.Nodes.{many}
use Rattle.mn_flight_pool.proofs.store.Store.next_place.Goals as goal

pub returns : goal.returns
returns g c =
    omega (
      arith,
      c.in-Ok.ensures,
      c.len.ensures,
      c.self.inside.channel.ok.0,
      many c.self.inside.firsts c.self.inside.channel.items c.self.inside.due.items c.self.inside.items.items,
      ap (λ l. length l) c.self.view_is,
    )
