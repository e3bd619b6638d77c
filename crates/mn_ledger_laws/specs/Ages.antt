-- How long frames have been on their links.
use Rattle.std.specs.Prelude.{◌≤◌, ◌<◌, ℕ, ◌+◌, List, length}
use Rattle.std.specs.List.{Contains}
use Rattle.mn_wiring.specs.declared.links.Dir.{Dir}
use Rattle.mn_wiring.specs.Wiring.{link}
use Rattle.mn_topo.specs.Network.{Network, wiring_of}
use Rattle.mn_topo.specs.declared.steps.JournalEntry.{JournalEntry}
use Rattle.mn_ledger.specs.Packets.{Token, flying_on}
use Rattle.mn_ledger.specs.Ledger.{packets_of}
use Rattle.mn_ledger.specs.OneMore.{tick_from}

-- at this tick the frame has been sent, and is no older than its link's life
pub record IsInItsLife (topology : Network) (tick l : ℕ) (token : Token) : Type 0 where
  pub sent : token.sent ≤ tick
  pub young : tick ≤ token.sent + (link (wiring_of topology) l).life

-- each frame that flies on a link is in its life, at the clock that the journal leaves
abbrev pub NoneIsOverdue : Network → List JournalEntry → List (List ℕ) → Type 0
NoneIsOverdue topology entries inputs =
    (l : ℕ) (dir : Dir) (token : Token) → l < length topology.links → Contains (flying_on (packets_of topology entries inputs) l dir) token →
    IsInItsLife topology (tick_from 0 entries) l token
