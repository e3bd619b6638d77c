-- Ways beside which links go down, and what stays of them.
use Rattle.std.specs.Prelude.{◌≡◌, ◌<◌, ℕ, true, List, [], All, length, unwrap_or}
use Rattle.mn_wiring.specs.Wiring.{Wiring, View, is_up}
use Rattle.mn_wiring.specs.Paths.{dist_in, dists_to}
use Rattle.mn_topo.specs.Network.{Network}
use Rattle.mn_ledger.specs.World.{Config}
use Rattle.mn_toward_laws.specs.Spared.{HasNoMore}
use Rattle.mn_reach_laws.specs.Fates.{lsp}
use Rattle.mn_way.specs.Way.{links_on, way}
use Rattle.mn_way_laws.specs.Paths.{way_of, cost_of}

-- the links of the way from a node to another one; none where no links lead there
abbrev pub way_links : Wiring → View → ℕ → ℕ → List ℕ
way_links wiring view node to = links_on (unwrap_or (way wiring view node to) [])

-- no link came up, and each link of the way stayed up
pub record IsSparedWay (wiring : Wiring) (before after : View) (node to : ℕ) : Type 0 where
  pub no_more : HasNoMore after before
  pub up : All (λ l. is_up after l ≡ true) (way_links wiring before node to)

-- the way is as before, with the same least cost; no way is there where none was
pub record KeepsWay (wiring : Wiring) (before after : View) (node to : ℕ) : Type 0 where
  pub same_way : way wiring after node to ≡ way wiring before node to
  pub same_cost : dist_in (dists_to wiring after to) node ≡ dist_in (dists_to wiring before to) node

-- no link came up, each link of the way stayed up, and LDP is on on those on which it was
pub record IsSparedPath (topology : Network) (before after : Config) (node to : ℕ) : Type 0 where
  pub no_more : (l : ℕ) → l < length topology.links → after.is_up l ≡ true → before.is_up l ≡ true
  pub up : All (λ l. after.is_up l ≡ true) (links_on (unwrap_or (way_of topology before node to) []))
  pub ldp : All (λ l. after.ldp_on l ≡ before.ldp_on l) (links_on (unwrap_or (way_of topology before node to) []))

-- the way, its least cost and the label switched path are as before
pub record KeepsPath (topology : Network) (before after : Config) (node to : ℕ) : Type 0 where
  pub same_way : way_of topology after node to ≡ way_of topology before node to
  pub same_cost : cost_of topology after node to ≡ cost_of topology before node to
  pub same_path : lsp topology after node to ≡ lsp topology before node to
