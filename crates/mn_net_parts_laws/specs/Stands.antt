-- What contracts see of a network, and when it stands for the ledger.
use Rattle.std.specs.Prelude.{◌≡◌, ℕ, List, length}
use Rattle.mn_topo.specs.Network.{Network}
use Rattle.mn_topo.specs.declared.steps.JournalEntry.{JournalEntry}
use Rattle.mn_ledger.specs.Ledger.{packets_of}
use Rattle.mn_ledger.specs.Verdicts.{injections}
use Rattle.mn_ledger.specs.Lawful.{IsLawfulJournal}
use Rattle.mn_ledger.specs.Items.{flight_of}
use Rattle.mn_transit.specs.Given.{given}
use Rattle.mn_transit.specs.Moving.{Moving}
use Rattle.mn_transit.specs.Stands as transit
use Rattle.mn_timetable_laws.specs.Keys.{Key, keys_in, keys_on, of_notices, of_messages, of_routes, of_frames}

-- what depends on the packets that were injected: their part of the network, and when each item in flight is due
pub record Packed : Type 0 where
  pub moving : Moving  -- verdicts, paths and frames
  pub notices : List Key  -- of the flight of notices, in the order of numbers
  pub messages : List Key  -- of LDP's
  pub routes : List Key  -- of BGP's
  pub made : ℕ  -- how many items were made

-- for one packet for each injection the verdicts, paths, deliveries and frames are the ledger's, and each of the four flights
-- holds the ledger's items of its channels, by number and due tick
pub record StandsFor (topology : Network) (journal : List JournalEntry) (packed : Packed) (inputs : List (List ℕ)) : Type 0 where
  pub each : length inputs ≡ injections journal
  pub lawful : IsLawfulJournal topology journal inputs
  pub packets : transit.StandsFor topology (given topology journal) packed.moving (packets_of topology journal inputs)
  pub made : packed.made ≡ (flight_of topology journal inputs).made
  pub notices : packed.notices ≡ keys_on (of_notices (length topology.loopbacks)) (flight_of topology journal inputs).items
  pub messages : packed.messages ≡ keys_on (of_messages topology) (flight_of topology journal inputs).items
  pub routes : packed.routes ≡ keys_on (of_routes (length topology.loopbacks)) (flight_of topology journal inputs).items
  pub frames : keys_in packed.moving.flying ≡ keys_on of_frames (flight_of topology journal inputs).items
