-- What contracts see of routes by their fields.
use Rattle.std.specs.Prelude.{map}
use Rattle.mn_routing.specs.declared.routes.Routes.TheInside.{Inside}
use Rattle.mn_routing_laws.specs.Routed.{Routed}

abbrev pub routed_in : Inside → Routed
routed_in r = record { edges = r.edges.items; sessions = map (λ row. row.items) r.sessions.items; messages = r.messages.items }
