-- Time: how far a step moves the clock, and which frames end by it, before the step does anything else.
use Rattle.std.specs.Prelude.{ℕ, ◌+◌, Bool, true, false, not, nat_lt, List, [], ◌∷◌, filter, slice_get}
use Rattle.mn_drops.specs.declared.drops.Rule.TheVariants as rule
use Rattle.mn_topo.specs.Dir.{Dir}
use Rattle.mn_topo.specs.Dir.TheVariants.{Forth, Back}
use Rattle.mn_topo.specs.Wiring.{link, links_of, sender}
use Rattle.mn_topo.specs.Network.{Network, wiring_of}
use Rattle.mn_topo.specs.declared.steps.Step.{Step}
use Rattle.mn_topo.specs.declared.steps.Step.TheVariants.{Tick}
use Rattle.mn_topo.specs.declared.steps.JournalEntry.{JournalEntry}
use Rattle.mn_ledger.specs.Packets.{Token, Packets, flying_on, taken, fall}

-- how far a step moves the clock
abbrev pub ticks_in : Step → ℕ
ticks_in (Tick ticks) = ticks
ticks_in _ = 0

-- the clock that an entry leaves
abbrev pub clock_after : JournalEntry → ℕ
clock_after entry = entry.tick + ticks_in entry.step

-- the frame was sent on its link longer ago than the link's life
abbrev pub is_overdue : Network → ℕ → ℕ → Token → Bool
is_overdue topology clock l token = nat_lt (token.sent + (link (wiring_of topology) l).life) clock

-- each that is, of the frames of a direction from the one at this place on, ends at the node that sent it
abbrev pub expire_from : Network → ℕ → ℕ → Dir → ℕ → List Token → Packets → Packets
expire_from topology clock l dir place [] packets = packets
expire_from topology clock l dir place (token ∷ tokens) packets =
    elim (is_overdue topology clock l token) [
      | true ↦
          expire_from topology clock l dir place tokens
          (fall rule.Overdue (taken packets l dir place) (sender (wiring_of topology) l dir) (slice_get (flying_on packets l dir) place))
      | false ↦ expire_from topology clock l dir (place + 1) tokens packets
    ]

abbrev pub expire_on : Network → ℕ → ℕ → Dir → Packets → Packets
expire_on topology clock l dir packets = expire_from topology clock l dir 0 (flying_on packets l dir) packets

abbrev pub expire_over : Network → ℕ → List ℕ → Packets → Packets
expire_over topology clock [] packets = packets
expire_over topology clock (l ∷ ls) packets = expire_over topology clock ls (expire_on topology clock l Back (expire_on topology clock l Forth packets))

abbrev pub expire : Network → ℕ → Packets → Packets
expire topology clock packets = expire_over topology clock (links_of (wiring_of topology)) packets

-- what becomes of packets as time goes on to this clock: only a Tick lets frames grow too old
abbrev pub timed_by : Network → ℕ → Step → Packets → Packets
timed_by topology clock (Tick ticks) packets = expire topology clock (record packets { clock = clock })
timed_by topology clock _ packets = record packets { clock = clock }

abbrev pub timed : Network → JournalEntry → Packets → Packets
timed topology entry packets = timed_by topology (clock_after entry) entry.step packets
