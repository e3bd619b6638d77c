-- How received routes are kept: each in an ordered map, at its VRF and prefix.
use Rattle.std.specs.Prelude.{ℕ, List}
use Rattle.mn_by_key_laws.specs.ByKey.{AreByKey}
use Rattle.mn_prefix.specs.Prefix.{AddressBlock}
use Rattle.mn_offers.specs.Heard.{Heard, heard_before}

abbrev pub name_of : Heard → ℕ × AddressBlock
name_of route = (route.vrf, route.prefix)

abbrev pub AreByName : List ((ℕ × AddressBlock) × Heard) → Type 0
AreByName entries = AreByKey heard_before name_of entries
