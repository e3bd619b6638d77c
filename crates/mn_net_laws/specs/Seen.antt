-- What a network's parts show, by which it refuses steps; and when that is what the ledger says.
use Rattle.std.specs.Prelude.{◌≡◌, ◌<◌, ◌+◌, ◌-◌, ◌*◌, ℕ, Bool, List, length, map, slice_index}
use Rattle.mn_wiring.specs.Wiring.{links_of}
use Rattle.mn_linkdb.specs.Changes.{is_odd}
pub use Rattle.mn_labels.specs.Labels.{Labels, attachments_in}
use Rattle.mn_topo.specs.Network.{Network, wiring_of}
use Rattle.mn_topo.specs.declared.steps.JournalEntry.{JournalEntry}
use Rattle.mn_ledger.specs.World.{World}
use Rattle.mn_ledger.specs.Ledger.{world_of}
use Rattle.mn_frame_laws.specs.Given.{given}
use Rattle.mn_routing_laws.specs.Whole.{RoutesNow}
use Rattle.mn_routing_laws.specs.Changes.{routes_of}
use Rattle.mn_net_parts_laws.specs.Stands.{Packed, StandsFor}

-- how many labels the attachments of a node and the FECs of the other nodes ask for
abbrev pub labels_asked : Labels → ℕ
labels_asked labels = attachments_in labels.given + (length labels.fecs - 1)

pub record Seen : Type 0 where
  pub changes : List ℕ  -- by link, how often it came up or went down
  pub switches : List Bool  -- by link, whether LDP is switched on for it
  pub given : List ℕ  -- by node, how many labels are asked for
  pub routes : RoutesNow  -- edges and sessions
  pub statics : ℕ  -- how many static routes VRFs have, those over detached sites too
  pub packed : Packed  -- what is in flight
  pub steps : ℕ  -- how many steps were done

-- with these packets it is what the ledger says of the journal
pub record Shows (topology : Network) (journal : List JournalEntry) (inputs : List (List ℕ)) (seen : Seen) : Type 0 where
  pub changes : seen.changes ≡ map (world_of topology journal).views.changes (links_of (wiring_of topology))
  pub up : (l : ℕ) → l < length topology.links → is_odd ((world_of topology journal).views.changes l) ≡ (world_of topology journal).config.is_up l
  pub switches : seen.switches ≡ map (world_of topology journal).config.ldp_on (links_of (wiring_of topology))
  pub given : (node : ℕ) → node < length topology.loopbacks → slice_index seen.given node ≡ labels_asked (given topology journal node)
  pub routes : seen.routes ≡ routes_of topology journal
  pub statics : seen.statics ≡ length (world_of topology journal).config.statics
  pub packed : StandsFor topology journal seen.packed inputs
  pub channels : seen.packed.moving.channels ≡ 2 * length topology.links
  pub steps : seen.steps ≡ length journal
