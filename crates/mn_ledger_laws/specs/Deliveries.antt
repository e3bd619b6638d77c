-- What a journal delivered: each packet that reached a site, with the tick at which it did, in order.
use Rattle.std.specs.Prelude.{ℕ, List, [], ◌∷◌, ◌++◌, Option, Some, None}
use Rattle.mn_topo.specs.Network.{Network}
use Rattle.mn_topo.specs.declared.steps.JournalEntry.{JournalEntry}
use Rattle.mn_ledger.specs.World.{World}
use Rattle.mn_ledger.specs.Packets.{Packets, packets_after}
use Rattle.mn_ledger.specs.Ledger.{after, start, no_packets, next_of, left_by}
use Rattle.mn_ledger.specs.Ledger.{packets_by}

-- the packet's bytes as they arrived
pub record Delivery : Type 0 where
  pub tick : ℕ
  pub bytes : List ℕ

-- what a step at a tick delivered: one packet, or none
abbrev pub delivery_at : ℕ → Option (List ℕ) → List Delivery
delivery_at tick None = []
delivery_at tick (Some bytes) = record { tick = tick; bytes = bytes } ∷ []

-- what these entries deliver, from a world and its packets on
abbrev pub deliveries_from : Network → World → Packets → List JournalEntry → List (List ℕ) → List Delivery
deliveries_from topology world packets [] inputs = []
deliveries_from topology world packets (entry ∷ entries) inputs =
    let world_then : World = after topology world entry.step in
    let packets_then : Packets = packets_by topology world_then packets entry (next_of inputs) in
    delivery_at entry.tick packets_then.delivered ++ deliveries_from topology world_then packets_then entries (left_by entry.step inputs)

abbrev pub deliveries_of : Network → List JournalEntry → List (List ℕ) → List Delivery
deliveries_of topology entries inputs = deliveries_from topology (start topology) no_packets entries inputs
