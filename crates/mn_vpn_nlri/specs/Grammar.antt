-- VPN-IPv4 routes as they stand in an NLRI, and targets as they stand among extended communities: what bytes are
-- which route, and which of these bytes are written.
use Rattle.std.specs.Prelude.{◌≡◌, ℕ, ◌+◌, ◌*◌, ◌/◌, ◌^◌, ◌<◌, ◌++◌, Bool, true, List, [], ◌∷◌, take, filter, if◌then◌else◌}
use Rattle.std.specs.List.{AllByRecursion, AllPairs, flat_map}
use Rattle.byteorder.specs.Endian.{big_bytes}
use Rattle.mn_base.specs.declared.numbers.Rt.{Rt}
use Rattle.mn_base.specs.Numbers.{has_rd_form, has_rt_form}
use Rattle.mn_prefix.specs.Prefix.{AddressBlock, IsPrefix}
use Rattle.mn_vpn_nlri.specs.declared.message.VpnRoute.{VpnRoute}
use Rattle.mn_prefix.specs.Octets.{prefix_octets}
pub use Rattle.mn_base.specs.Ordered.{IsAscending}

-- A route.

-- RFC 8277, section 2.2: a label has 20 bits. RFC 4364, section 4.2: a distinguisher is of type 0 or 1.
pub record IsVpnRoute (route : VpnRoute) : Type 0 where
  pub distinguisher : has_rd_form route.rd.0 ≡ true
  pub label : route.label < 2 ^ 20
  pub prefix : IsPrefix route.prefix.address route.prefix.length

-- RFC 8277, section 2.2: the length counts the bits of the label field and of the prefix behind it, which for a
-- VPN-IPv4 route is a distinguisher (RFC 4364, section 4.3.4) and the prefix proper. These are the bits before that.
abbrev pub bits_before_prefix : ℕ
bits_before_prefix = 24 + 64

-- length in bits (1), label field (3), distinguisher (8), prefix (0 to 4; RFC 4364, section 4.3.4: of the address, the bytes that
-- hold the network's bits)
unfoldable pub nlri_of : ℕ → VpnRoute → List ℕ
nlri_of label_field route = (bits_before_prefix + route.prefix.length) ∷ big_bytes 3 label_field ++ big_bytes 8 route.rd.0 ++ prefix_octets route.prefix

-- RFC 8277, section 2.2: the label field is label (20 bits), Rsrv (3) and S (1), of which a reader ignores the last four
abbrev pub label_field : ℕ → ℕ → ℕ
label_field label low = label * 2 ^ 4 + low

-- the bytes are this route
pub record IsNlri (bytes : List ℕ) (route : VpnRoute) : Type 0 where
  pub is_route : IsVpnRoute route
  pub low : ℕ  -- Rsrv and S
  pub low_fits : low < 2 ^ 4
  pub whole : bytes ≡ nlri_of (label_field route.label low) route

-- the bytes are these routes, one after another, and nothing else
abbrev pub AreNlri : List ℕ → List VpnRoute → Type 0
AreNlri bytes [] = bytes ≡ []
AreNlri bytes (route ∷ more) = (first : List ℕ) × (others : List ℕ) × (bytes ≡ first ++ others) × IsNlri first route × AreNlri others more

-- RFC 8277, section 2.4: what stands in the label field of a withdrawal
abbrev pub withdrawn_field : ℕ
withdrawn_field = 0x800000

-- the label that is read there, the field's first 20 bits
abbrev pub withdrawn_label : ℕ
withdrawn_label = 524288

-- RFC 8277, sections 2.2 and 2.4: the label field that is written, with Rsrv zero and S one, or that of a withdrawal
abbrev pub written_field : VpnRoute → Bool → ℕ
written_field route withdrawn = if withdrawn then withdrawn_field else label_field route.label 1

-- the bytes that are written
abbrev pub written : VpnRoute → Bool → List ℕ
written route withdrawn = nlri_of (written_field route withdrawn) route

-- the route that these bytes are: of a withdrawal the distinguisher and the prefix, with a label that says nothing
abbrev pub as_read : VpnRoute → Bool → VpnRoute
as_read route withdrawn = if withdrawn then record route { label = withdrawn_label } else route

-- Targets.

-- RFC 4360, section 2: an extended community has eight bytes
abbrev pub community_bytes : Rt → List ℕ
community_bytes community = big_bytes 8 community.0

-- RFC 4360, sections 3.1, 3.2 and 4: a target is a community with type and subtype 0002 or 0102
abbrev pub is_target : Rt → Bool
is_target community = has_rt_form community.0

-- The bytes are extended communities one after another, and these are the targets among them, in order.
pub record AreTargets (bytes : List ℕ) (targets : List Rt) : Type 0 where
  pub communities : List Rt
  pub fit : AllByRecursion (λ community. community.0 < 2 ^ 64) communities
  pub whole : bytes ≡ flat_map community_bytes communities
  pub targets_are : targets ≡ filter is_target communities

-- each is a target
abbrev pub AllTargets : List Rt → Type 0
AllTargets targets = AllByRecursion (λ target. is_target target ≡ true) targets

-- the bytes that are written
abbrev pub written_targets : List Rt → List ℕ
written_targets targets = flat_map community_bytes targets
