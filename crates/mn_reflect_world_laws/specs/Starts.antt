-- What is kept at the start: no session lives, nothing was received, and each site of an edge has its label.
use Rattle.std.specs.Prelude.{◌≡◌, ℕ, false, List, [], None, length, map, replicate}
use Rattle.mn_wiring.specs.Wiring.{nodes_of}
use Rattle.mn_topo.specs.Network.{Network, wiring_of}
use Rattle.mn_ledger.specs.Places.{sites_at}
use Rattle.mn_ledger.specs.Ledger.{first_config}
use Rattle.mn_reflect_ledger_laws.specs.Picks.{by_address}
use Rattle.mn_reflect_ledger_laws.specs.World.{start}
use Rattle.mn_reflect_world_laws.specs.Labels.{first_labels}
use Rattle.mn_reflect_world_laws.specs.Edges.{Decisions}
use Rattle.mn_reflect_world_laws.specs.Now.{ReflectNow, edges_in}

abbrev pub nothing_decided : Decisions
nothing_decided edge home = []

pub record StartsAs (topology : Network) (reflectors : List ℕ) (now : ReflectNow) : Type 0 where
  pub works : now.failed ≡ false
  pub topology_is : now.topology ≡ topology
  pub reflectors_are : now.reflectors ≡ by_address topology reflectors
  pub edges : now.edges ≡ edges_in topology (first_labels topology) (start topology) nothing_decided
  pub sessions : now.sessions ≡ replicate (length topology.loopbacks) (replicate (length topology.loopbacks) None)
  pub heard : now.heard ≡ replicate (length topology.loopbacks) (replicate (length topology.loopbacks) [])
  pub attachments : now.attachments ≡ map (λ node. length (sites_at topology node)) (nodes_of (wiring_of topology))
  pub statics : now.statics ≡ length (first_config topology).statics
  pub nodes : now.mail.nodes ≡ length topology.loopbacks
  pub letters : now.mail.letters ≡ []
  pub done : now.done ≡ 0
