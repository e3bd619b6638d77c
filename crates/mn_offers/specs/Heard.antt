-- RFC 4271, section 3.2, and RFC 4456, section 8: the routes that were received from one peer, each by its last mention, with the reflectors
-- through which it came.
use Rattle.std.specs.Prelude.{ℕ, Bool, List, [], Option}
use Rattle.mn_base.specs.declared.numbers.Rt.{Rt}
use Rattle.mn_base.specs.Ordered.{first_by, with_one, without_one, one_at}
use Rattle.mn_prefix.specs.Prefix.{AddressBlock, prefix_before}

-- a route as its last mention announced it
pub record Heard : Type 0 where
  pub vrf : ℕ  -- whose distinguisher it has
  pub prefix : AddressBlock
  pub label : ℕ  -- at the edge that exports it
  pub targets : List Rt
  pub clusters : List ℕ  -- addresses of reflectors, the last one first; none from that edge itself

-- by VRF, and of one VRF by prefix
abbrev pub heard_before : Heard → Heard → Bool
heard_before route other = first_by route.vrf other.vrf (prefix_before route.prefix other.prefix)

-- the place of a VRF's prefix
abbrev pub place_of : ℕ → AddressBlock → Heard
place_of vrf prefix = record { vrf = vrf; prefix = prefix; label = 0; targets = []; clusters = [] }

-- with this route, in place of one of its VRF and prefix
abbrev pub with_heard : Heard → List Heard → List Heard
with_heard route routes = with_one heard_before route routes

-- without the route of this VRF and prefix
abbrev pub without_heard : ℕ → AddressBlock → List Heard → List Heard
without_heard vrf prefix routes = without_one heard_before (place_of vrf prefix) routes

-- the route of this VRF and prefix
abbrev pub heard_at : ℕ → AddressBlock → List Heard → Option Heard
heard_at vrf prefix routes = one_at heard_before (place_of vrf prefix) routes
