-- What contracts see of reflected routes, and when they stand for the steps that were done.
use Rattle.std.specs.Prelude.{◌≡◌, ℕ, Bool, false, List, map, length, Option, Some, None, option_map, if◌then◌else◌}
use Rattle.mn_wiring.specs.Wiring.{nodes_of}
use Rattle.mn_mail.specs.Mail.{Mail}
use Rattle.mn_topo.specs.Network.{Network, wiring_of}
use Rattle.mn_topo.specs.VrfTable.{is_edge}
use Rattle.mn_topo.specs.declared.steps.Step.{Step}
use Rattle.mn_ledger.specs.Bgp.{peers_live, state_heard}
use Rattle.mn_ledger.specs.Places.{loopback}
use Rattle.mn_bgp_session.specs.declared.session.BgpSession.{BgpSession}
use Rattle.mn_bgp_spelling_laws.specs.Spelling.{Labels}
use Rattle.mn_pe.specs.Edge.{Edge}
use Rattle.mn_pe.specs.Pe.{PeNow}
use Rattle.mn_routing_laws.specs.Routed.{working}
use Rattle.mn_routing_laws.specs.Standing.{edge_in}
use Rattle.mn_offers.specs.Heard.{Heard}
use Rattle.mn_reflect_ledger_laws.specs.Picks.{ReflectWorld, by_address}
use Rattle.mn_reflect_ledger_laws.specs.World.{world_of}
use Rattle.mn_reflect_world_laws.specs.Labels.{labels_of, attachments_at}
use Rattle.mn_reflect_world_laws.specs.Spelling.{letters_in}
use Rattle.mn_reflect_world_laws.specs.Kept.{all_kept}
use Rattle.mn_reflect_world_laws.specs.Edges.{Decisions, all_live, as_peerings, AreDecided}

pub record ReflectNow : Type 0 where
  pub topology : Network
  pub reflectors : List ℕ  -- by address, the least first
  pub edges : List (Option PeNow)  -- by node, none of a node that is no edge
  pub sessions : List (List (Option BgpSession))  -- by node and peer, none where no session lives
  pub heard : List (List (List Heard))  -- by node and peer, the routes that were received
  pub attachments : List ℕ  -- by node, how many its sites have had
  pub statics : ℕ  -- how many routes there are over sites
  pub mail : Mail  -- the messages in flight, in the order of sending
  pub done : ℕ  -- how many steps were done
  pub failed : Bool  -- whether memory was wanted

-- an end of a session goes by how many words it received
abbrev pub session_in : Network → ReflectWorld → ℕ → ℕ → Option BgpSession
session_in topology world node peer =
    if peers_live world.config node peer
    then Some (record { asn = topology.asn; me = loopback topology node; peer = loopback topology peer; state = state_heard (length (world.heard node peer)) })
    else None

abbrev pub sessions_in : Network → ReflectWorld → List (List (Option BgpSession))
sessions_in topology world = map (λ node. map (session_in topology world node) (nodes_of (wiring_of topology))) (nodes_of (wiring_of topology))

abbrev pub edge_or_none : Network → Labels → ReflectWorld → Decisions → ℕ → Option Edge
edge_or_none topology labels world decisions node =
    if is_edge topology.vrfs node then Some (edge_in topology labels (all_live topology world.config) (as_peerings decisions) node) else None

abbrev pub edges_in : Network → Labels → ReflectWorld → Decisions → List (Option PeNow)
edges_in topology labels world decisions = map (λ node. option_map working (edge_or_none topology labels world decisions node)) (nodes_of (wiring_of topology))

-- they stand for a world, with these labels
pub record StandsFor (topology : Network) (reflectors : List ℕ) (labels : Labels) (world : ReflectWorld) (now : ReflectNow) : Type 0 where
  pub works : now.failed ≡ false
  pub topology_is : now.topology ≡ topology
  pub reflectors_are : now.reflectors ≡ by_address topology reflectors
  pub decisions : Decisions
  pub decided : AreDecided topology reflectors world decisions
  pub edges : now.edges ≡ edges_in topology labels world decisions
  pub sessions : now.sessions ≡ sessions_in topology world
  pub heard : now.heard ≡ all_kept topology labels world
  pub attachments : now.attachments ≡ map (attachments_at topology world.config) (nodes_of (wiring_of topology))
  pub statics : now.statics ≡ length world.config.statics
  pub nodes : now.mail.nodes ≡ length topology.loopbacks
  pub letters : now.mail.letters ≡ letters_in topology reflectors labels world.flying

-- they are the routes after these steps
abbrev pub IsReflect : Network → List ℕ → List Step → ReflectNow → Type 0
IsReflect topology reflectors steps now = StandsFor topology reflectors (labels_of topology steps) (world_of topology reflectors steps) now ×
    (now.done ≡ length steps)
