-- How statics and held routes are kept: a static at its prefix in an ordered map; of each prefix its sources in a table, and the
-- prefixes in order beside it.
use Rattle.std.specs.Prelude.{◌≡◌, ◌<◌, List, [], map, length, Some}
use Rattle.std.specs.Option.{is_some, unwrap_or}
use Rattle.std.specs.List.{list_any, flat_map}
use Rattle.mn_base.specs.Ordered.{Ascends}
use Rattle.mn_by_key_laws.specs.ByKey.{AreByKey}
use Rattle.mn_prefix.specs.Prefix.{AddressBlock, same_prefix, prefix_before}
use Rattle.mn_prefix.specs.Table.{value_at}
use Rattle.mn_vrf.specs.declared.source.Source.{Source}
use Rattle.mn_vrf.specs.Routes.{source_before}
use Rattle.mn_vrf.specs.Vrf.{Static, static_before}

-- each static stands at its prefix, and they ascend
abbrev pub AreByPrefix : List (AddressBlock × Static) → Type 0
AreByPrefix entries = AreByKey static_before (λ (x : Static). x.prefix) entries

-- the sources that a table has at a prefix
abbrev pub those : AddressBlock → List (AddressBlock × List Source) → List Source
those prefix table = unwrap_or (value_at prefix table) []

-- the routes of a prefix
abbrev pub routes_at : List (AddressBlock × List Source) → AddressBlock → List (AddressBlock × Source)
routes_at table prefix = map (λ source. (prefix, source)) (those prefix table)

-- the routes of these prefixes
abbrev pub in_order : List (AddressBlock × List Source) → List AddressBlock → List (AddressBlock × Source)
in_order table prefixes = flat_map (routes_at table) prefixes

-- the sources of a prefix: one at least, in their order
pub record AreSources (sources : List Source) : Type 0 where
  pub some : 0 < length sources
  pub ascend : Ascends source_before sources

-- the prefixes are those of the table, in their order, and each has sources
pub record IsKept (table : List (AddressBlock × List Source)) (prefixes : List AddressBlock) : Type 0 where
  pub ascend : Ascends prefix_before prefixes
  pub same : (p : AddressBlock) → is_some (value_at p table) ≡ list_any (same_prefix p) prefixes
  pub each : (p : AddressBlock) (sources : List Source) → value_at p table ≡ Some sources → AreSources sources
