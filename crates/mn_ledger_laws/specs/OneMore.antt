-- A journal with one entry more: what it delivered, and the frames that it sent.
use Rattle.std.specs.Prelude.{◌≡◌, ℕ, List, [], ◌∷◌, ◌++◌, length}
use Rattle.mn_wiring.specs.declared.links.Dir.{Dir}
use Rattle.mn_topo.specs.Network.{Network}
use Rattle.mn_topo.specs.declared.steps.JournalEntry.{JournalEntry}
use Rattle.mn_ledger.specs.Items.{Frames, items_on, numbered, made_by}
use Rattle.mn_ledger.specs.Ledger.{after, world_of, packets_of}
use Rattle.mn_ledger.specs.OneMore.{with_packet, made_then}
use Rattle.mn_ledger.specs.Packets.{Packets, packets_after}
use Rattle.mn_ledger_laws.specs.Deliveries.{delivery_at, deliveries_of}
use Rattle.mn_ledger_laws.specs.Ids.{frames_sent}
use Rattle.mn_ledger.specs.Ledger.{packets_by}

-- the packets once one step more is done
abbrev pub packets_then : Network → List JournalEntry → List (List ℕ) → JournalEntry → List ℕ → Packets
packets_then topology entries inputs entry bytes =
    packets_by topology (after topology (world_of topology entries) entry.step) (packets_of topology entries inputs) entry bytes

-- what the step delivers comes last, at its tick; and so do the frames that it sends in each direction, numbered on
pub record AddsToItsLists (topology : Network) (entries : List JournalEntry) (inputs : List (List ℕ)) (entry : JournalEntry) (bytes : List ℕ) : Type 0 where
  pub deliveries : deliveries_of topology (entries ++ entry ∷ []) (with_packet entry.step bytes inputs)
      ≡ deliveries_of topology entries inputs ++ delivery_at entry.tick (packets_then topology entries inputs entry bytes).delivered
  pub frames : (l : ℕ) (dir : Dir) → frames_sent topology (entries ++ entry ∷ []) (with_packet entry.step bytes inputs) l dir
      ≡ frames_sent topology entries inputs l dir
      ++ items_on (Frames l dir)
      (numbered topology entry.tick (length (made_by topology entries inputs))
      (made_then topology (world_of topology entries) (packets_of topology entries inputs) entry bytes))
