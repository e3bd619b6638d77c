use Rattle.std.proofs.Common.{ℕ, ◌≡◌, ◌<◌, None}
use Rattle.std.specs.Prelude.{slice_get}
use Rattle.mn_transit.specs.Landed.{site_as}
use Rattle.mn_transit.proofs.transit.Transit.find_last.Given as goal

-- none before it
abbrev pub invariant-loop-packet : goal.invariant-loop-packet
invariant-loop-packet l = (earlier : ℕ) → earlier < l.packet → site_as l.self.copies (slice_get l.self.verdicts earlier) ≡ None
