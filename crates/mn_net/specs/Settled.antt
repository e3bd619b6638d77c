-- What a settled network tells of next hops: what the links that are up give alone, whatever happened before.
use Rattle.std.specs.Prelude.{◌≡◌, ℕ, true, List, ◌∷◌, Option, Some, is_some, option_map}
use Rattle.mn_base.specs.declared.numbers.NodeNo.{NodeNo}
use Rattle.mn_wiring.specs.Paths.{next}
use Rattle.mn_topo.specs.Network.{Network, wiring_of}
use Rattle.mn_ledger.specs.World.{World}
use Rattle.mn_settled_laws.specs.Ways.{links_up, Reaches}
use Rattle.mn_settled_laws.specs.Arrival.{IsLeastWay}

-- the next hop from a node towards another over the links that are up
abbrev pub hop_over_links : Network → World → ℕ → ℕ → Option NodeNo
hop_over_links topology world node edge = option_map (λ hop. record { 0 = hop.0 }) (next (wiring_of topology) (links_up topology world) node edge)

-- it is the hop by the links that are up; there is one exactly where a walk over these leads to the other node; and a walk of least
-- cost begins with it
pub record IsByLinks (topology : Network) (world : World) (node edge : ℕ) (hop : Option NodeNo) : Type 0 where
  pub hop_is : hop ≡ hop_over_links topology world node edge
  pub where_reached : Reaches topology world node edge → is_some hop ≡ true
  pub only_there : is_some hop ≡ true → Reaches topology world node edge
  pub least : (to : NodeNo) → hop ≡ Some to → (nodes : List ℕ) × IsLeastWay topology world node edge (node ∷ to.0 ∷ nodes)
