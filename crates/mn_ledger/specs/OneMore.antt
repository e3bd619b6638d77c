-- A journal with one entry more: what it makes is what the journal made, and one step more.
use Rattle.std.specs.Prelude.{◌≡◌, ◌≤◌, ◌↔◌, ℕ, Bool, true, false, List, [], ◌∷◌, ◌++◌, length, None}
use Rattle.mn_topo.specs.Network.{Network}
use Rattle.mn_topo.specs.Steps.{fits}
use Rattle.mn_topo.specs.declared.steps.Step.{Step}
use Rattle.mn_topo.specs.declared.steps.JournalEntry.{JournalEntry}
use Rattle.mn_ledger.specs.World.{World}
use Rattle.mn_ledger.specs.Packets.{Packets, packets_after}
use Rattle.mn_ledger.specs.Time.{clock_after, timed}
use Rattle.mn_ledger.specs.Ledger.{after, injects, world_of, packets_of, packets_by}
use Rattle.mn_ledger.specs.Lawful.{GoesForward, IsLawfulJournal}
use Rattle.mn_ledger.specs.Refusal.{refusal}
use Rattle.mn_ledger.specs.Items.{Channel, Load, made_in, numbered, with_made, in_time, made_by, flight_of}

-- the packets' bytes once a step is done: one packet more where it injects one
abbrev pub added : Bool → List ℕ → List (List ℕ) → List (List ℕ)
added true bytes inputs = inputs ++ bytes ∷ []
added false bytes inputs = inputs

abbrev pub with_packet : Step → List ℕ → List (List ℕ) → List (List ℕ)
with_packet step bytes inputs = added (injects step) bytes inputs

-- the clock at the end of these entries
abbrev pub tick_from : ℕ → List JournalEntry → ℕ
tick_from tick [] = tick
tick_from tick (entry ∷ entries) = tick_from (clock_after entry) entries

-- what a step makes that is done in this world, with these packets
abbrev pub made_then : Network → World → Packets → JournalEntry → List ℕ → List (Channel × Load)
made_then topology world packets entry bytes =
    let world_then : World = after topology world entry.step in
    let packets_now : Packets = timed topology entry packets in
    made_in topology world world_then packets_now (packets_after topology world_then packets_now entry.step bytes) entry.step

-- the world, the packets, what was made and what flies after these entries and one more; and when such a journal is lawful
pub record GoesOnByOneStep (topology : Network) (entries : List JournalEntry) (inputs : List (List ℕ)) (entry : JournalEntry) (bytes : List ℕ) : Type 0 where
  pub world : world_of topology (entries ++ entry ∷ []) ≡ after topology (world_of topology entries) entry.step
  pub packets : packets_of topology (entries ++ entry ∷ []) (with_packet entry.step bytes inputs)
      ≡ packets_by topology (after topology (world_of topology entries) entry.step) (packets_of topology entries inputs) entry bytes
  pub made : made_by topology (entries ++ entry ∷ []) (with_packet entry.step bytes inputs)
      ≡ made_by topology entries inputs
      ++ numbered topology entry.tick (length (made_by topology entries inputs))
      (made_then topology (world_of topology entries) (packets_of topology entries inputs) entry bytes)
  pub flight : flight_of topology (entries ++ entry ∷ []) (with_packet entry.step bytes inputs)
      ≡ with_made topology entry.tick (made_then topology (world_of topology entries) (packets_of topology entries inputs) entry bytes) entry.step
      (in_time topology entry (flight_of topology entries inputs))
  pub lawful : IsLawfulJournal topology (entries ++ entry ∷ []) (with_packet entry.step bytes inputs)
      ↔ (IsLawfulJournal topology entries inputs × (fits topology entry.step ≡ true) × GoesForward topology (tick_from 0 entries)
      (packets_of topology entries inputs) entry.tick
      × (refusal topology entries inputs entry.step bytes ≡ None))
