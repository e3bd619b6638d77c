-- RFC 4271, section 3.2, and RFC 4364, section 4.3.2: the routes that were received from one peer, each by its last mention.
use Rattle.std.specs.Prelude.{ℕ, Bool, List, []}
use Rattle.mn_base.specs.declared.numbers.Rd.{Rd}
use Rattle.mn_base.specs.declared.numbers.Rt.{Rt}
use Rattle.mn_prefix.specs.Prefix.{AddressBlock, prefix_before}
use Rattle.mn_base.specs.Ordered.{first_by, with_one, without_one, has_one}

-- a route as its last mention announced it
pub record Heard : Type 0 where
  pub rd : Rd
  pub prefix : AddressBlock
  pub label : ℕ
  pub targets : List Rt

-- by distinguisher, and of one distinguisher by prefix
abbrev pub heard_before : Heard → Heard → Bool
heard_before route other = first_by route.rd.0 other.rd.0 (prefix_before route.prefix other.prefix)

-- the place of a distinguisher and prefix
abbrev pub place_of : Rd → AddressBlock → Heard
place_of rd prefix = record { rd = rd; prefix = prefix; label = 0; targets = [] }

-- with this route, in place of one of its distinguisher and prefix
abbrev pub with_heard : Heard → List Heard → List Heard
with_heard route routes = with_one heard_before route routes

-- without the route of this distinguisher and prefix
abbrev pub without_heard : Rd → AddressBlock → List Heard → List Heard
without_heard rd prefix routes = without_one heard_before (place_of rd prefix) routes

-- a route of this distinguisher and prefix is among them
abbrev pub has_heard : Rd → AddressBlock → List Heard → Bool
has_heard rd prefix routes = has_one heard_before (place_of rd prefix) routes
