-- What contracts see of a network, what holds of it, and when it stands for the ledger.
use Rattle.std.specs.Prelude.{◌≡◌, ◌≤◌, ◌<◌, ◌+◌, ◌*◌, ◌^◌, ℕ, Bool, false, List, length}
use Rattle.mn_base.specs.Limits.{most_flying_bytes}
use Rattle.mn_topo.specs.Network.{Network}
use Rattle.mn_topo.specs.declared.steps.JournalEntry.{JournalEntry}
use Rattle.mn_ledger.specs.OneMore.{tick_from}
use Rattle.mn_net_tally.specs.Moving.{Moving, bytes_in}
use Rattle.mn_transport_laws.specs.Carried.{Carried}
use Rattle.mn_transport_laws.specs.Stands.{IsTransport}
use Rattle.mn_routing_laws.specs.Routed.{Routed, IsRoutes}
use Rattle.mn_timetable_laws.specs.Keys.{keys_in}
use Rattle.mn_net_tally.specs.NetModelStands.{Packed}
use Rattle.mn_net_tally.specs.NetModelStands as model
use Rattle.mn_net_tally.specs.Tallies.{Tally, Tallies}
use Rattle.std.specs.List.{All}

pub record NetNow : Type 0 where
  pub topology : Network
  pub journal : List JournalEntry
  pub tick : ℕ  -- the clock
  pub made : ℕ  -- how many items were made
  pub failed : Bool  -- whether memory was wanted
  pub transport : Carried
  pub routes : Routed
  pub moving : Moving
  pub tally : Tally  -- what is counted beside the parts
  pub spare : ℕ  -- how many more steps the journal has memory for

-- what of it depends on the packets that were injected
abbrev pub packed_in : NetNow → Packed
packed_in net = record {
  moving = net.moving;
  notices = keys_in net.transport.notices;
  messages = keys_in net.transport.messages;
  routes = keys_in net.routes.messages;
  made = net.made;
}

-- it works, and with these packets it is what the ledger says of its journal
pub record StandsFor (net : NetNow) (inputs : List (List ℕ)) : Type 0 where
  pub works : net.failed ≡ false
  pub transport : IsTransport net.topology net.journal net.transport
  pub routes : IsRoutes net.topology net.journal net.routes
  pub stands : model.StandsFor net.topology net.journal (packed_in net) inputs
  pub tally : Tallies net.topology net.journal inputs net.tally

-- What holds of a network that works: it stands for some packets, its clock isn't behind its journal and went past no frame that was
-- due, and its counts are bounded.
pub record IsNet (net : NetNow) : Type 0 where
  pub inputs : List (List ℕ)
  pub stands : StandsFor net inputs
  pub channels : net.moving.channels ≡ 2 * length net.topology.links
  pub late : tick_from 0 net.journal ≤ net.tick
  pub due : tick_from 0 net.journal < net.tick → All (λ item. net.tick ≤ item.due) net.moving.flying
  pub within : net.tick ≤ 2 ^ 62 + 1000000 * length net.journal
  pub bytes : bytes_in net.moving.flying ≤ most_flying_bytes
  pub copies : net.moving.copies ≤ length net.journal
  pub verdicts : length net.moving.verdicts ≤ length net.journal

abbrev pub WorksAsNet : NetNow → Type 0
WorksAsNet net = net.failed ≡ false → IsNet net

-- It works, and has memory for so many more steps that carry or lose a frame, and numbers for what they make. The room of a network
-- is the greatest such number; a network that has run out of memory has none.
pub record HasRoom (net : NetNow) (more : ℕ) : Type 0 where
  pub works : net.failed ≡ false
  pub journal : more ≤ net.spare
  pub counts : more ≤ net.tally.spare
  pub numbers : net.made + more < 2 ^ 64

-- another network with all the same but for memory to spare
abbrev pub but_spare : NetNow → ℕ → ℕ → NetNow
but_spare net journal counts = record net { spare = journal; tally = record net.tally { spare = counts } }
