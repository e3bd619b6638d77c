-- Journals with damages of which nothing refuses an entry, with a packet for each entry that looks at one.
use Rattle.std.specs.Prelude.{◌≡◌, ℕ, ◌+◌, ◌||◌, Bool, true, false, cond, List, [], ◌∷◌, Some, None, ⊤}
use Rattle.mn_topo.specs.Network.{Network}
use Rattle.mn_topo.specs.Steps.{fits}
use Rattle.mn_topo.specs.declared.steps.Step.{Step}
use Rattle.mn_topo.specs.declared.steps.Damage.{Damage}
use Rattle.mn_topo.specs.declared.steps.Damaged.{Damaged}
use Rattle.mn_topo.specs.declared.steps.Damaged.TheVariants.{Undamaged}
use Rattle.mn_topo.specs.declared.steps.JournalEntry.{JournalEntry}
use Rattle.mn_ledger.specs.World.{World}
use Rattle.mn_ledger.specs.Packets.{Packets}
use Rattle.mn_ledger.specs.Time.{clock_after}
use Rattle.mn_ledger.specs.Ledger.{after, start, no_packets, injects, next_of, but_next, packets_by}
use Rattle.mn_ledger.specs.Lawful.{GoesForward, IsLawfulJournal}
use Rattle.mn_ledger.specs.Refusal.{refusal_at}
use Rattle.mn_damage.specs.Damages.{damage_by, damage_fits, ending}
use Rattle.mn_damage.specs.Refusals.{damage_refusal_at}

abbrev pub is_marked : Damaged → Bool
is_marked Undamaged = false
is_marked _ = true

-- the entry looks at a packet: it injects it, or it came in place of a message
abbrev pub looks : JournalEntry → Bool
looks entry = injects entry.step || is_marked entry.damaged

abbrev pub left_then : JournalEntry → List (List ℕ) → List (List ℕ)
left_then entry packets = cond (looks entry) (but_next packets) packets

-- of the packets at which a journal's entries look, those that are injected
abbrev pub injected : List JournalEntry → List (List ℕ) → List (List ℕ)
injected [] packets = []
injected (entry ∷ entries) packets =
    cond (injects entry.step) (next_of packets ∷ injected entries (left_then entry packets)) (injected entries (left_then entry packets))

-- the step fits, and nothing refuses it
pub record IsAllowedStep (topology : Network) (world : World) (packets : Packets) (count : ℕ) (step : Step) (bytes : List ℕ) : Type 0 where
  pub fitting : fits topology step ≡ true
  pub unrefused : refusal_at topology world packets count step bytes ≡ None

-- step and mark are those of a damage that fits, and nothing refuses that
pub record IsAllowedDamage (topology : Network) (world : World) (packets : Packets) (count : ℕ) (step : Step) (mark : Damaged) (bytes : List ℕ) : Type 0 where
  pub damage : Damage
  pub ends : step ≡ ending damage
  pub told : damage_by step mark ≡ Some damage
  pub fitting : damage_fits topology damage ≡ true
  pub unrefused : damage_refusal_at topology world packets count damage bytes ≡ None

-- a step goes by its own rules, and a damage by its own
abbrev pub IsAllowed : Network → World → Packets → ℕ → Step → Damaged → List ℕ → Type 0
IsAllowed topology world packets count step Undamaged bytes = IsAllowedStep topology world packets count step bytes
IsAllowed topology world packets count step mark bytes = IsAllowedDamage topology world packets count step mark bytes

abbrev pub AreAllowedFrom : Network → ℕ → World → Packets → ℕ → List JournalEntry → List (List ℕ) → Type 0
AreAllowedFrom topology tick world packets count [] inputs = ⊤
AreAllowedFrom topology tick world packets count (entry ∷ entries) inputs =
    IsAllowed topology world packets count entry.step entry.damaged (next_of inputs)
    × GoesForward topology tick packets entry.tick
    × (let world_then : World = after topology world entry.step in
    AreAllowedFrom topology (clock_after entry) world_then (packets_by topology world_then packets entry (next_of inputs)) (count + 1) entries
    (left_then entry inputs))

abbrev pub AreAllowed : Network → List JournalEntry → List (List ℕ) → Type 0
AreAllowed topology entries inputs = AreAllowedFrom topology 0 (start topology) no_packets 0 entries inputs

-- to the ledger such a journal is lawful, with the packets that are injected
abbrev pub IsLawfulToo : Type 0
IsLawfulToo = (topology : Network) (entries : List JournalEntry) (inputs : List (List ℕ)) →
    AreAllowed topology entries inputs → IsLawfulJournal topology entries (injected entries inputs)
