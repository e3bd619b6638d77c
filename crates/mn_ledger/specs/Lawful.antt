-- Lawful journals: each step fits the topology, none is refused, and the clock doesn't go back.
use Rattle.std.specs.Prelude.{◌≡◌, ◌≤◌, ℕ, ◌+◌, ◌||◌, Bool, true, nat_le, List, [], ◌∷◌, ◌++◌, None, ⊤}
use Rattle.std.specs.List.{list_all}
use Rattle.mn_topo.specs.Dir.TheVariants.{Forth, Back}
use Rattle.mn_topo.specs.Wiring.{link, links_of}
use Rattle.mn_topo.specs.Network.{Network, wiring_of}
use Rattle.mn_topo.specs.Steps.{fits}
use Rattle.mn_topo.specs.declared.steps.JournalEntry.{JournalEntry}
use Rattle.mn_ledger.specs.World.{World}
use Rattle.mn_ledger.specs.Packets.{Packets, flying_on}
use Rattle.mn_ledger.specs.Ledger.{after, start, no_packets, next_of, left_by, packets_by}
use Rattle.mn_ledger.specs.Time.{clock_after}
use Rattle.mn_ledger.specs.Refusal.{refusal_at}

-- no frame that flies on a link of the network is due before this tick
abbrev pub none_is_due_before : Network → Packets → ℕ → Bool
none_is_due_before topology packets tick =
    list_all
    (λ l. list_all (λ token. nat_le tick (token.sent + (link (wiring_of topology) l).delay)) (flying_on packets l Forth ++ flying_on packets l Back))
    (links_of (wiring_of topology))

-- The clock doesn't go back; and it goes on only where no frame is due before: each would have arrived first.
pub record GoesForward (topology : Network) (clock : ℕ) (packets : Packets) (tick : ℕ) : Type 0 where
  pub later : clock ≤ tick
  pub due : (nat_le tick clock || none_is_due_before topology packets tick) ≡ true

-- these entries go on lawfully from a world and its packets, at this tick and after so many steps
abbrev pub IsLawfulFrom : Network → ℕ → World → Packets → ℕ → List JournalEntry → List (List ℕ) → Type 0
IsLawfulFrom topology tick world packets count [] inputs = ⊤
IsLawfulFrom topology tick world packets count (entry ∷ entries) inputs =
    (fits topology entry.step ≡ true)
    × GoesForward topology tick packets entry.tick
    × (refusal_at topology world packets count entry.step (next_of inputs) ≡ None)
    × (let world_then : World = after topology world entry.step in
    IsLawfulFrom topology (clock_after entry) world_then (packets_by topology world_then packets entry (next_of inputs)) (count + 1) entries
    (left_by entry.step inputs))

abbrev pub IsLawfulJournal : Network → List JournalEntry → List (List ℕ) → Type 0
IsLawfulJournal topology entries inputs = IsLawfulFrom topology 0 (start topology) no_packets 0 entries inputs
