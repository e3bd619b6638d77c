-- How received routes are kept: each in an ordered map, at its distinguisher and prefix.
use Rattle.std.specs.Prelude.{List}
use Rattle.mn_base.specs.declared.numbers.Rd.{Rd}
use Rattle.mn_by_key_laws.specs.ByKey.{AreByKey}
use Rattle.mn_prefix.specs.Prefix.{AddressBlock}
use Rattle.mn_rib_in.specs.Heard.{Heard, heard_before}

abbrev pub key_of : Heard → Rd × AddressBlock
key_of route = (route.rd, route.prefix)

abbrev pub AreByPlace : List ((Rd × AddressBlock) × Heard) → Type 0
AreByPlace entries = AreByKey heard_before key_of entries
