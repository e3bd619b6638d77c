-- The packet of a record, which the capture may lack.
use Rattle.std.specs.Prelude.{ℕ, List, Option, Some, None}
use Rattle.std.specs.Borrow.{Bor}

abbrev pub packet_of : Option (Bor (List ℕ)) → Option (List ℕ)
packet_of None = None
packet_of (Some bytes) = Some bytes.now
