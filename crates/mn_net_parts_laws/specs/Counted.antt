-- What counts against a full network.
use Rattle.std.specs.Prelude.{◌≡◌, ◌+◌, ℕ, List, length}
use Rattle.mn_topo.specs.Lawful.{IsLawful}
use Rattle.mn_topo.specs.Network.{Network}
use Rattle.mn_topo.specs.declared.steps.JournalEntry.{JournalEntry}
use Rattle.mn_ledger.specs.Ledger.{world_of}
use Rattle.mn_ledger.specs.Refusal.{in_flight}
use Rattle.mn_net_parts_laws.specs.Stands.{Packed, StandsFor}

-- the notices and messages in flight that the ledger counts are those of the three flights
abbrev pub IsCounted : Type 0
IsCounted = (topology : Network) (journal : List JournalEntry) (packed : Packed) (inputs : List (List ℕ)) → IsLawful topology →
    StandsFor topology journal packed inputs →
    in_flight topology (world_of topology journal) ≡ length packed.notices + length packed.messages + length packed.routes
