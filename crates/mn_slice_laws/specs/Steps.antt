-- A step of the ledger, as what happens to each of its nodes.
use Rattle.std.specs.Prelude.{◌≡◌, ◌<◌, ℕ, true, List, [], ◌∷◌, map, length, slice_set}
use Rattle.std.specs.List.{flat_map}
use Rattle.mn_wiring.specs.Wiring.{nodes_of}
use Rattle.mn_topo.specs.Network.{Network, wiring_of}
use Rattle.mn_topo.specs.declared.steps.Step.{Step}
use Rattle.mn_node.specs.Ldp.{Said}
use Rattle.mn_node.specs.Node.{Node}
use Rattle.mn_node.specs.Machine.{after_any, said_any}
use Rattle.mn_ledger.specs.World.{World}
use Rattle.mn_ledger.specs.Transport.{is_transport, views_after, ldp_counted, said_in}
use Rattle.mn_ledger.specs.Ledger.{config_after, after}
use Rattle.mn_ledger.specs.Quiet.{said_by}
use Rattle.mn_slice_laws.specs.Slice.{node_at, event_of, acting}

-- the nodes of this world, in order
abbrev pub nodes_at : Network → World → List Node
nodes_at topology world = map (node_at topology world) (nodes_of (wiring_of topology))

-- the node after the step, and what it says in it, by the node alone
abbrev pub node_then : Network → World → Step → ℕ → Node
node_then topology world step node = after_any (wiring_of topology) (node_at topology world node) (event_of topology world step node)

abbrev pub node_says : Network → World → Step → ℕ → List Said
node_says topology world step node = said_any (wiring_of topology) (node_at topology world node) (event_of topology world step node)

-- these of the nodes are changed
abbrev pub with_nodes : (ℕ → Node) → List ℕ → List Node → List Node
with_nodes then_node [] nodes = nodes
with_nodes then_node (node ∷ others) nodes = with_nodes then_node others (slice_set nodes node (then_node node))

-- every node goes by what happens to it; the others than the acting nodes stay as they are; and what is sent in the step is what
-- the acting nodes say, one after another
pub record IsByNodes (topology : Network) (world : World) (step : Step) : Type 0 where
  pub each : (node : ℕ) → node < length topology.loopbacks → node_at topology (after topology world step) node ≡ node_then topology world step node
  pub part : (node : ℕ) → node < length topology.loopbacks → said_by topology world step node ≡ node_says topology world step node
  pub all : nodes_at topology (after topology world step) ≡ with_nodes (node_then topology world step) (acting topology step) (nodes_at topology world)
  pub order : is_transport step ≡ true →
      said_in topology world.config world.views world.sessions (config_after world.config step) (views_after world.views step)
      (ldp_counted topology world.sessions step) step
      ≡ flat_map (node_says topology world step) (acting topology step)
