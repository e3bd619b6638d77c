-- Why a damage is refused: the first cause that holds.
use Rattle.std.specs.Prelude.{◌≡◌, ◌≢◌, ℕ, Bool, true, false, List, [], ◌∷◌, length, Option, Some, None, Ok, IsTrue}
use Rattle.std.specs.Result.{is_ok}
use Rattle.mn_topo.specs.Network.{Network}
use Rattle.mn_topo.specs.Steps.{fits}
use Rattle.mn_topo.specs.declared.steps.Damage.{Damage}
use Rattle.mn_topo.specs.declared.steps.Damage.TheVariants.{Ldp, Bgp}
use Rattle.mn_topo.specs.declared.steps.JournalEntry.{JournalEntry}
use Rattle.mn_ldp_wire.specs.Reading.{has_header, pdu_of}
use Rattle.mn_bgp_wire.specs.Grammar.{update_kind}
use Rattle.mn_bgp_wire.specs.Reading.{header_of, message_of}
use Rattle.mn_ledger.specs.declared.refused.Refused.{Refused}
use Rattle.mn_ledger.specs.declared.refused.Refused.TheVariants.{Empty, StillReads}
use Rattle.mn_ledger.specs.World.{World}
use Rattle.mn_ledger.specs.Packets.{Packets}
use Rattle.mn_ledger.specs.Ledger.{world_of, packets_of}
use Rattle.mn_ledger.specs.Refusal.{refusal_at, first_cause, where_holds, is_empty, limits}
use Rattle.mn_damage.specs.Damages.{hearing, ending, damage_fits}

-- the message's reader reads the bytes
abbrev pub still_reads : Damage → List ℕ → Bool
still_reads (Ldp link dir number) bytes = is_ok (pdu_of bytes)
still_reads (Bgp a b number) bytes = is_ok (message_of bytes)

-- the message's reader reads its header, and may want memory for what is behind it: in BGP for an UPDATE alone
abbrev pub IsHeaderRead : Damage → List ℕ → Type 0
IsHeaderRead (Ldp link dir number) bytes = IsTrue (has_header bytes)
IsHeaderRead (Bgp a b number) bytes = header_of bytes ≡ Ok update_kind

-- no message is there to be damaged; its bytes can be read; or what limits the step that it also is
abbrev pub damage_refusal_at : Network → World → Packets → ℕ → Damage → List ℕ → Option Refused
damage_refusal_at topology world packets count damage bytes =
    first_cause (where_holds (is_empty topology world packets (hearing damage)) Empty ∷ where_holds (still_reads damage bytes) StillReads
    ∷ limits topology world packets count (ending damage) [])

-- why it is refused after these entries, and none where it is done
abbrev pub damage_refusal : Network → List JournalEntry → List (List ℕ) → Damage → List ℕ → Option Refused
damage_refusal topology entries inputs damage bytes =
    damage_refusal_at topology (world_of topology entries) (packets_of topology entries inputs) (length entries) damage bytes

-- the step that it also is fits, and nothing refuses it
pub record Ends (topology : Network) (world : World) (packets : Packets) (count : ℕ) (damage : Damage) : Type 0 where
  pub fitting : fits topology (ending damage) ≡ true
  pub unrefused : (bytes : List ℕ) → refusal_at topology world packets count (ending damage) bytes ≡ None

-- a damage that fits and isn't refused ends a session that lives
abbrev pub EndsWhatLives : Type 0
EndsWhatLives = (topology : Network) (world : World) (packets : Packets) (count : ℕ) (damage : Damage) (bytes : List ℕ) →
    damage_fits topology damage ≡ true → damage_refusal_at topology world packets count damage bytes ≡ None → Ends topology world packets count damage

-- In which order the cause is found, by what refuses the hearing and the step that it also is: Empty where that refuses the hearing;
-- else StillReads where the bytes can be read; else what refuses the step.
pub record IsInOrder (topology : Network) (world : World) (packets : Packets) (count : ℕ) (damage : Damage) (bytes : List ℕ) : Type 0 where
  pub empty : refusal_at topology world packets count (hearing damage) [] ≡ Some Empty
      → damage_refusal_at topology world packets count damage bytes ≡ Some Empty
  pub reads : refusal_at topology world packets count (hearing damage) [] ≢ Some Empty → still_reads damage bytes ≡ true
      → damage_refusal_at topology world packets count damage bytes ≡ Some StillReads
  pub rest : refusal_at topology world packets count (hearing damage) [] ≢ Some Empty → still_reads damage bytes ≡ false
      → damage_refusal_at topology world packets count damage bytes ≡ refusal_at topology world packets count (ending damage) []

abbrev pub ComesInOrder : Type 0
ComesInOrder = (topology : Network) (world : World) (packets : Packets) (count : ℕ) (damage : Damage) (bytes : List ℕ) →
    IsInOrder topology world packets count damage bytes
