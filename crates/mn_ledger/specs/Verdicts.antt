-- Each packet has one verdict, and is in one place.
use Rattle.std.specs.Prelude.{◌≡◌, ℕ, ◌+◌, ◌==◌, Bool, true, false, List, [], ◌∷◌, length, slice_index_or}
use Rattle.mn_topo.specs.declared.steps.JournalEntry.{JournalEntry}
use Rattle.mn_ledger.specs.declared.verdict.Verdict.{Verdict}
use Rattle.mn_ledger.specs.declared.verdict.Verdict.TheVariants.{Delivered, Flying}
use Rattle.mn_ledger.specs.Packets.{Token, Packets, channel}
use Rattle.mn_ledger.specs.Ledger.{injects}

abbrev pub one_if : Bool → ℕ
one_if true = 1
one_if false = 0

-- how many of the entries inject a packet
abbrev pub injections : List JournalEntry → ℕ
injections [] = 0
injections (entry ∷ entries) = one_if (injects entry.step) + injections entries

-- how often a packet is among these tokens
abbrev pub times_in : ℕ → List Token → ℕ
times_in packet [] = 0
times_in packet (token ∷ tokens) = one_if (token.packet == packet) + times_in packet tokens

-- how often a packet of this verdict flies on a channel: once on its own, and never elsewhere
abbrev pub times_by : Verdict → ℕ → ℕ
times_by (Flying l dir) at = one_if (channel l.0 dir == at)
times_by _ at = 0

-- the verdict on a packet; past the last there is none that flies
abbrev pub verdict_on : Packets → ℕ → Verdict
verdict_on packets packet = slice_index_or packets.verdicts packet (Delivered 0 (record { 0 = 0 }) 0)

-- each packet flies once where its verdict says so, and in no other place; each that was injected has one verdict and one path
pub record AreInOnePlace (packets : Packets) (count : ℕ) : Type 0 where
  pub places : (packet at : ℕ) → times_in packet (packets.flying at) ≡ times_by (verdict_on packets packet) at
  pub verdicts : length packets.verdicts ≡ count
  pub paths : length packets.paths ≡ count
