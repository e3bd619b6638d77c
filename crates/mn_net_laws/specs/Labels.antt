-- What labels mean between any two steps of a network: RFC 3031, sections 3.1 and 3.14; RFC 5036, section 2.6; RFC 4364, sections 3.2 and 5.
use Rattle.std.specs.Prelude.{◌≡◌, ◌<◌, ℕ, List, length, map, drop, slice_get, Some}
use Rattle.mn_wiring.specs.Wiring.{across, sender, receiver}
use Rattle.mn_wiring.specs.declared.links.Dir.{Dir}
use Rattle.mn_flight.specs.Flying.{on_channel}
use Rattle.mn_topo.specs.Network.{wiring_of}
use Rattle.mn_node.specs.Node.{session_at}
use Rattle.mn_ledger.specs.Ledger.{world_of, packets_of}
use Rattle.mn_ledger.specs.Packets.{channel, flying_on}
use Rattle.mn_transport_laws.specs.Given.{given, label_for}
use Rattle.mn_transport_laws.specs.Tables.{TableStands}
use Rattle.mn_lsr.specs.Standing.{Standing, session_label}
use Rattle.mn_net_tally.specs.Stands.{AreFlown}
use Rattle.mn_transport_laws.specs.Sending.{spelled}
use Rattle.mn_transport_laws.specs.Stands.{own_of}
use Rattle.mn_routing_laws.specs.Routed.{IsRoutes}
use Rattle.mn_net_laws.specs.Now.{NetNow}

-- what holds of one node
pub record NodeMeans (net : NetNow) (node : ℕ) (standing : Standing) : Type 0 where
  -- its labels are those that were given in the journal, and its FECs have those that they have after it
  pub labels : standing.labels ≡ given net.topology net.journal node
  -- a label that it keeps for a FEC over a link is the neighbour's label for the FEC, also where it isn't in use
  pub kept : (l fec label : ℕ) → l < length net.topology.links → fec < length net.topology.loopbacks →
      session_label (session_at standing.node l) fec ≡ Some label →
      label ≡ label_for (given net.topology net.journal) (across (wiring_of net.topology) l node) fec
  -- a FEC's label leads there exactly where the node can send there, to the next hop and its label; a site's label leads to it
  -- exactly while its attachment is the present one
  pub entries : TableStands net.topology (given net.topology net.journal) (world_of net.topology net.journal) node standing.uses

pub record LabelsMean (net : NetNow) (inputs : List (List ℕ)) : Type 0 where
  pub nodes : (node : ℕ) (standing : Standing) → node < length net.topology.loopbacks → slice_get net.transport.nodes node ≡ Some standing →
      NodeMeans net node standing
  -- each Mapping, Withdraw or Release in flight spells what was sent and not received, with the label that its FEC has now
  pub said : (l : ℕ) (dir : Dir) → l < length net.topology.links →
      map (λ item. item.item) (on_channel (channel l dir) net.transport.messages)
      ≡ drop ((world_of net.topology net.journal).sessions.heard l (receiver (wiring_of net.topology) l dir))
      (spelled (wiring_of net.topology) (own_of (given net.topology net.journal)) l (sender (wiring_of net.topology) l dir) 1
      ((world_of net.topology net.journal).sessions.said l (sender (wiring_of net.topology) l dir)))
  -- each VPN route kept or in flight has the label that its edge gave to the attachment, which keeps it for good
  pub routes : IsRoutes net.topology net.journal net.routes
  -- each frame in flight, however old, is the frame of its packet there by the labels that things have now
  pub frames : (l : ℕ) (dir : Dir) → AreFlown net.topology (given net.topology net.journal) (receiver (wiring_of net.topology) l dir)
      (on_channel (channel l dir) net.moving.flying) (flying_on (packets_of net.topology net.journal inputs) l dir)
