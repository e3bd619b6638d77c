-- What is received for a FEC from a neighbour that isn't its next hop: it is kept (RFC 5036, section 2.6.2.2), and changes no way.
use Rattle.std.specs.Prelude.{ℕ, ◌==◌, not, Bool, false, Option, Some, None, slice_index_or}
use Rattle.mn_base.specs.declared.numbers.NodeNo.{NodeNo}
use Rattle.mn_bindings.specs.declared.event.LibEvent.{LibEvent}
use Rattle.mn_bindings.specs.declared.event.LibEvent.TheVariants as event
use Rattle.mn_bindings.specs.Bindings.{Bindings}

-- the next hop is this neighbour
abbrev pub is_hop : Option NodeNo → ℕ → Bool
is_hop None neighbour = false
is_hop (Some hop) neighbour = hop.0 == neighbour

-- a neighbour maps a FEC, which isn't its next hop
abbrev pub is_aside : Bindings → LibEvent → Bool
is_aside bindings (event.Map from fec label) = not (is_hop (slice_index_or bindings.hops fec.0 None) from.0)
is_aside bindings _ = false
