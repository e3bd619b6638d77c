-- Which packet the last step delivered: the one whose verdict is the newest copy.
use Rattle.std.specs.Prelude.{◌≡◌, ◌==◌, cond, ℕ, List, slice_get, Option, Some, None}
use Rattle.mn_base.specs.declared.numbers.SiteNo.{SiteNo}
use Rattle.mn_ledger.specs.declared.verdict.Verdict.{Verdict}
use Rattle.mn_ledger.specs.declared.verdict.Verdict.TheVariants.{Delivered}
use Rattle.mn_transit.specs.Moving.{Moving}

-- the site at which a packet was delivered as the copy of this number
abbrev pub site_as : ℕ → Option Verdict → Option SiteNo
site_as copies (Some (Delivered ttl site copy)) = cond (copy == copies) (Some site) None
site_as copies _ = None

-- such a packet and its site, none where there is none
abbrev pub IsLast : ℕ → List Verdict → Option (ℕ × SiteNo) → Type 0
IsLast copies verdicts None = (packet : ℕ) → site_as copies (slice_get verdicts packet) ≡ None
IsLast copies verdicts (Some found) = site_as copies (slice_get verdicts found.0) ≡ Some found.1

-- none also where the last step delivered nothing
abbrev pub HasLandedBy : ℕ → List Verdict → Option (List ℕ) → Option (ℕ × SiteNo) → Type 0
HasLandedBy copies verdicts None result = result ≡ None
HasLandedBy copies verdicts (Some bytes) result = IsLast copies verdicts result

abbrev pub HasLanded : Moving → Option (ℕ × SiteNo) → Type 0
HasLanded moving result = HasLandedBy moving.copies moving.verdicts moving.delivered result
