-- Ways over two links, worked from the definition: what the laws ask is met there.
--
--     0 --- link 0 --- 1 --- link 1 --- 2
use Rattle.std.specs.Prelude.{◌≡◌, true, false, [], ◌∷◌, Some, None}
use Rattle.mn_wiring.specs.Wiring.{JoinsNodes, JoinsOnce}
use Rattle.mn_topo.specs.Network.{wiring_of}
use Rattle.mn_topo.specs.Lawful.{IsLawful}
use Rattle.mn_ledger.proofs.TwoLinks.{two_links}
use Rattle.mn_reach_laws.specs.Fates.{up_links, lsp}
use Rattle.mn_reach_laws.specs.TwoLinks.{all_on, one_down}
use Rattle.mn_toward_laws.specs.Spared.{AllCost}
use Rattle.mn_way.specs.Switched.{Switched}
use Rattle.mn_way.specs.Way.{label_path}
use Rattle.mn_way_laws.specs.Paths.{IsOf}
use Rattle.mn_way_laws.specs.Spared.{IsSparedPath, IsSparedWay}

-- both links are up, with LDP
abbrev pub both_on : Switched
both_on = record { nodes = 3; ends = two_links.links; edges = 0 ∷ 2 ∷ []; up = true ∷ true ∷ []; ldp = true ∷ true ∷ []; failed = false }

pub record TwoLinksHaveWays : Type 0 where
  pub lawful : IsLawful two_links
  pub joins_nodes : JoinsNodes (wiring_of two_links)
  pub joins_once : JoinsOnce (wiring_of two_links)
  pub costs : AllCost (wiring_of two_links)
  pub is_of : IsOf two_links all_on both_on
  pub leads : label_path (wiring_of two_links) both_on.up both_on.ldp 0 2 ≡ Some (0 ∷ 1 ∷ 2 ∷ [])
  -- link 1 goes down: the way from 0 to 1 is spared, and that to 2 is cut
  pub spared_way : IsSparedWay (wiring_of two_links) (up_links two_links all_on) (up_links two_links one_down) 0 1
  pub spared_path : IsSparedPath two_links all_on one_down 0 1
  pub stays : lsp two_links one_down 0 1 ≡ Some (0 ∷ 1 ∷ [])
  pub cut : lsp two_links one_down 0 2 ≡ None
