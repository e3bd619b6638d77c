-- Which packet the last step delivered, and where: the one whose verdict is the newest copy.
use Rattle.std.specs.Prelude.{◌≡◌, ◌<◌, ℕ, List, length, Option, Some, None}
use Rattle.mn_base.specs.declared.numbers.SiteNo.{SiteNo}
use Rattle.mn_ledger.specs.declared.verdict.Verdict.TheVariants.{Delivered}
use Rattle.mn_ledger.specs.Packets.{Packets}
use Rattle.mn_ledger.specs.Verdicts.{verdict_on}

-- its number, from 0, and the site
abbrev pub IsLandingOf : Packets → Option (List ℕ) → Option (ℕ × SiteNo) → Type 0
IsLandingOf packets None found = found ≡ None
IsLandingOf packets (Some bytes) None = ⊥
IsLandingOf packets (Some bytes) (Some found) =
    (ttl : ℕ) × (found.0 < length packets.verdicts) × (verdict_on packets found.0 ≡ Delivered ttl found.1 packets.copies)

-- none exactly where it delivered nothing
abbrev pub IsLanding : Packets → Option (ℕ × SiteNo) → Type 0
IsLanding packets found = IsLandingOf packets packets.delivered found
