-- A node is its loopback.
use Rattle.std.proofs.Common.{◌≡◌, ℕ, ◌==◌, ◌||◌, List, [], ◌∷◌, map, refl, ap}
use Rattle.std.specs.List.{list_any}
use Rattle.mn_topo.specs.declared.nodes.Node.{Node}
use Rattle.mn_topo.specs.Network.{nodes_with}

pub nodes_again : (nodes : List Node) → nodes_with (map (λ node. node.loopback) nodes) ≡ nodes
nodes_again [] = refl
nodes_again (node ∷ nodes) = ap (λ rest. node ∷ rest) (nodes_again nodes)

-- a look-up among the nodes is one among their loopbacks
pub has_mapped : (loopback : ℕ) (nodes : List Node) → list_any (λ node. loopback == node.loopback) nodes ≡
    list_any (λ other. loopback == other) (map (λ node. node.loopback) nodes)
has_mapped loopback [] = refl
has_mapped loopback (node ∷ nodes) = ap (λ rest. (loopback == node.loopback) || rest) (has_mapped loopback nodes)
