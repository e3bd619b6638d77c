use Rattle.std.proofs.Common.{◌≡◌, ◌<◌, ℕ, false, List, length}
use Rattle.std.specs.Prelude.{slice_index_or}
use Rattle.mn_topo.specs.Network.{wiring_of}
use Rattle.mn_topo.specs.declared.steps.JournalEntry.{JournalEntry}
use Rattle.mn_ledger.specs.Ledger.{world_of}
use Rattle.mn_ledger.specs.Transport.{known, offers}
use Rattle.mn_transport_laws.specs.Stands.{IsTransport}
use Rattle.mn_transport.proofs.transport.Transport.ways.Given as goal

-- the nodes before this one are told
abbrev pub invariant-loop-to : goal.invariant-loop-to
invariant-loop-to l = record {
  size : length l.ways ≡ 256;
  told : (journal : List JournalEntry) → IsTransport l.topology journal l.self → (to : ℕ) → to < l.to → slice_index_or l.ways to false
      ≡ offers (wiring_of l.topology) (known l.topology (world_of l.topology journal) l.node.0) l.node.0 to;
}
