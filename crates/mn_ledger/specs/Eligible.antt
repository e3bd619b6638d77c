-- Which of the routes that a VRF holds take part where the best for an address is sought: RFC 4271, section 9.1.2, leaves out a
-- route whose next hop can't be resolved. Where the topology doesn't say so, all take part.
use Rattle.std.specs.Prelude.{◌≡◌, ℕ, ◌&&◌, Bool, true, false, List, filter, Some, None}
use Rattle.std.specs.List.{list_any, Contains}
use Rattle.mn_topo.specs.Prefix.{contains}
use Rattle.mn_topo.specs.Network.{Network, wiring_of}
use Rattle.mn_ledger.specs.World.{World}
use Rattle.mn_ledger.specs.Transport.{known, offers}
use Rattle.mn_ledger.specs.Held.{HeldRoute, held, best}
use Rattle.mn_ledger.specs.Best.{NamesTheBest}

-- the route's edge is this one, or one towards which it can send: it offers that edge's FEC
abbrev pub is_resolved : Network → World → ℕ → HeldRoute → Bool
is_resolved topology world edge route = offers (wiring_of topology) (known topology world edge) edge route.edge

abbrev pub covers : ℕ → HeldRoute → Bool
covers address route = contains route.prefix address

abbrev pub only_if : Bool → (HeldRoute → Bool) → List HeldRoute → List HeldRoute
only_if true resolved routes = filter resolved routes
only_if false resolved routes = routes

-- a route that is resolved contains the address
abbrev pub some_resolves : Network → World → ℕ → ℕ → ℕ → Bool
some_resolves topology world edge v address =
    list_any (covers address) (filter (is_resolved topology world edge) (held topology world.config world.peerings edge v))

-- of the routes that a VRF of an edge holds those that are resolved, where the topology says so and one of these contains the
-- address; else all
abbrev pub eligible : Network → World → ℕ → ℕ → ℕ → List HeldRoute
eligible topology world edge v address =
    only_if (topology.resolve && some_resolves topology world edge v address) (is_resolved topology world edge)
    (held topology world.config world.peerings edge v)

-- What the choice owes: one route is best; it is held; it is the best of all where the topology doesn't resolve, and where that one is
-- resolved; it is resolved where one that contains the address is; and there is none exactly where no held prefix contains it
pub record IsFairChoice (topology : Network) (world : World) (edge v address : ℕ) : Type 0 where
  pub names : NamesTheBest (eligible topology world edge v address) address
  pub is_held : (route : HeldRoute) → Contains (eligible topology world edge v address) route
      → Contains (held topology world.config world.peerings edge v) route
  pub all : topology.resolve ≡ false → eligible topology world edge v address ≡ held topology world.config world.peerings edge v
  pub stays : (route : HeldRoute) → best (held topology world.config world.peerings edge v) address ≡ Some route
      → is_resolved topology world edge route ≡ true → best (eligible topology world edge v address) address ≡ Some route
  pub found : topology.resolve ≡ true → (route other : HeldRoute) → best (eligible topology world edge v address) address ≡ Some route
      → Contains (held topology world.config world.peerings edge v) other → contains other.prefix address ≡ true
      → is_resolved topology world edge other ≡ true → is_resolved topology world edge route ≡ true
  pub none : best (eligible topology world edge v address) address ≡ None → (route : HeldRoute)
      → Contains (held topology world.config world.peerings edge v) route → contains route.prefix address ≡ false
