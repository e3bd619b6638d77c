-- What an edge looks at before it sends a site's packet on: destination and header.
use Rattle.std.specs.Prelude.{ℕ, ◌/◌, Bool, not, ◌&&◌, ◌||◌, ◌==◌, nat_lt}
pub use Rattle.mn_base.specs.Rules.{when, first_broken as first_rule}
use Rattle.mn_drops.specs.declared.drops.Rule.{Rule}
use Rattle.mn_drops.specs.declared.drops.Rule.TheVariants as rule
use Rattle.mn_ipv4.specs.declared.header.Bad.{Bad}
use Rattle.mn_ipv4.specs.declared.header.Bad.TheVariants as bad

-- not of 0.0.0.0/8, 127.0.0.0/8, 224.0.0.0/4 or 240.0.0.0/4: RFC 1122, section 3.2.1.3, and RFC 1112, section 4
abbrev pub is_unicast : ℕ → Bool
is_unicast address = not (address / 16777216 == 0 || address / 16777216 == 127) && nat_lt address 3758096384

-- the rule by which a packet with a bad header is dropped
abbrev pub header_rule : Bad → Rule
header_rule bad.NotIpv4 = rule.NotIpv4
header_rule bad.Malformed = rule.Malformed
header_rule bad.Truncated = rule.Truncated
header_rule bad.BadChecksum = rule.BadChecksum
