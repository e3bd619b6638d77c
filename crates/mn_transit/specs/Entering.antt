-- What goes with an edge's answer on a packet that enters: the way out, and what the frame has room for.
use Rattle.std.specs.Prelude.{◌≡◌, ◌<◌, ◌^◌, ℕ, length, Option, Some, None, ⊤}
use Rattle.mn_base.specs.declared.numbers.NodeNo.{NodeNo}
use Rattle.mn_stack.specs.Labelled.{Labelled}
use Rattle.mn_topo.specs.Network.{Network}
use Rattle.mn_ledger.specs.World.{World}
use Rattle.mn_frame_laws.specs.Given.{Labelling}
use Rattle.mn_frame_laws.specs.Entries.{outer_for}
use Rattle.mn_pe.specs.declared.entering.Entered.{Entered}
use Rattle.mn_pe.specs.declared.entering.Entered.TheVariants.{Tunnel}

-- what the edge's node says of the way to another edge
abbrev pub IsWayOut : Network → Labelling → World → ℕ → Entered → Option (NodeNo × Option ℕ) → Type 0
IsWayOut topology given world node (Tunnel edge frame) outer = outer ≡ outer_for topology given world node edge.0
IsWayOut topology given world node _ outer = ⊤

-- a frame for a tunnel has an entry, and room for one more
abbrev pub HasRoom : Entered → Type 0
HasRoom (Tunnel edge frame) = (0 < length frame.entries) × (0 < frame.room)
HasRoom _ = ⊤

-- the label of the way out has 20 bits
abbrev pub IsLabel : Option ℕ → Type 0
IsLabel None = ⊤
IsLabel (Some label) = label < 2 ^ 20

abbrev pub OuterFits : Option (NodeNo × Option ℕ) → Type 0
OuterFits None = ⊤
OuterFits (Some hop) = IsLabel hop.1

-- the bytes of a packet that leaves for another edge
abbrev pub size_of : Entered → ℕ
size_of (Tunnel edge frame) = length frame.packet
size_of _ = 0

-- a fact of the frame of a packet that leaves
abbrev pub IfTunnel : Entered → (Labelled → Type 0) → Type 0
IfTunnel (Tunnel edge frame) P = P frame
IfTunnel _ P = ⊤
