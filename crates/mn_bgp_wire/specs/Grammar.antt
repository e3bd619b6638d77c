-- RFC 4271 and RFC 4760: which bytes are which BGP message, where the routes are VPN-IPv4 routes.
use Rattle.std.specs.Prelude.{◌≡◌, ◌≢◌, ◌<◌, ◌≤◌, ℕ, ◌+◌, ◌/◌, ◌%◌, ◌^◌, ◌==◌, ◌&&◌, ◌||◌, Bool, true, false, List, [], ◌∷◌, ◌++◌, length, replicate, map}
use Rattle.std.specs.Prelude.{Option, Some, None, MatchBool, if◌then◌else◌}
use Rattle.std.specs.Option.{option_map}
use Rattle.std.specs.List.{flat_map, list_any, find, AllByRecursion, AllPairs}
use Rattle.byteorder.specs.Endian.{big_bytes}
use Rattle.mn_base.specs.declared.numbers.Rt.{Rt}
use Rattle.mn_vpn_nlri.specs.declared.message.VpnRoute.{VpnRoute}
use Rattle.mn_vpn_nlri.specs.Grammar.{AreNlri, AreTargets}
use Rattle.mn_bgp_wire.specs.Says.{Says}
use Rattle.mn_bgp_wire.specs.declared.message.BgpMessage.{BgpMessage}
use Rattle.mn_bgp_wire.specs.declared.message.BgpMessage.TheVariants as messages

-- RFC 4271, section 4.1: the header.

-- all ones
abbrev pub marker : List ℕ
marker = replicate 16 255

abbrev pub header_size : ℕ
header_size = 19

abbrev pub greatest_length : ℕ
greatest_length = 4096

-- marker (16), length (2, of the whole message), type (1), body
abbrev pub message_bytes : ℕ → List ℕ → List ℕ
message_bytes kind body = marker ++ big_bytes 2 (header_size + length body) ++ kind ∷ body

abbrev pub open_kind : ℕ
open_kind = 1

abbrev pub update_kind : ℕ
update_kind = 2

abbrev pub notification_kind : ℕ
notification_kind = 3

abbrev pub keepalive_kind : ℕ
keepalive_kind = 4

-- RFC 4271, section 4.2, and RFC 5492, section 4: OPEN.

-- a parameter, by its type, or a capability, by its code
pub record Field : Type 0 where
  pub kind : ℕ
  pub value : List ℕ

-- type (1), length (1), value
abbrev pub field_bytes : Field → List ℕ
field_bytes field = field.kind ∷ length field.value ∷ field.value

abbrev pub fields_bytes : List Field → List ℕ
fields_bytes fields = flat_map field_bytes fields

-- the type of a parameter that is a list of capabilities
abbrev pub capabilities_kind : ℕ
capabilities_kind = 2

-- a parameter, and the capabilities in it
pub record Parameter : Type 0 where
  pub field : Field
  pub capabilities : List Field

-- the value of a parameter of type 2 is its capabilities, and one of another type has none
abbrev pub HasCapabilities : Parameter → Type 0
HasCapabilities parameter =
    MatchBool (parameter.field.kind == capabilities_kind) (parameter.field.value ≡ fields_bytes parameter.capabilities) (parameter.capabilities ≡ [])

-- RFC 4760, section 8: the code of multiprotocol extensions
abbrev pub multiprotocol : ℕ
multiprotocol = 1

-- RFC 4760, section 8, and RFC 4364, section 4.3.4: address family IPv4 (0001), a reserved byte, and labelled VPN addresses (80)
abbrev pub is_vpn_family : List ℕ → Bool
is_vpn_family (high ∷ low ∷ reserved ∷ subsequent ∷ []) = high == 0 && low == 1 && subsequent == 0x80
is_vpn_family _ = false

abbrev pub is_vpn : Field → Bool
is_vpn capability = capability.kind == multiprotocol && is_vpn_family capability.value

abbrev pub offers_vpn : Parameter → Bool
offers_vpn parameter = list_any is_vpn parameter.capabilities

-- version (1), AS (2), hold time (2), identifier (4), length of the parameters (1), parameters
pub record IsOpen (body : List ℕ) (version asn hold id : ℕ) (vpn : Bool) : Type 0 where
  pub parameters : List Parameter
  pub version_is : version ≡ 4
  pub asn_fits : asn < 2 ^ 16
  pub hold_fits : hold < 2 ^ 16
  pub id_fits : id < 2 ^ 32
  pub capabilities : AllByRecursion HasCapabilities parameters
  pub vpn_is : vpn ≡ list_any offers_vpn parameters
  pub whole : let list = fields_bytes (map (λ parameter. parameter.field) parameters) in
      body ≡ version ∷ big_bytes 2 asn ++ big_bytes 2 hold ++ big_bytes 4 id ++ length list ∷ list

-- RFC 4271, section 4.3: the attributes of an UPDATE.

pub record PathAttribute : Type 0 where
  pub flags : ℕ
  pub kind : ℕ
  pub value : List ℕ

-- flag 80: who doesn't know the attribute passes it over
abbrev pub is_optional : ℕ → Bool
is_optional flags = flags / 2 ^ 7 % 2 == 1

-- flag 10: the length has two bytes
abbrev pub is_extended : ℕ → Bool
is_extended flags = flags / 2 ^ 4 % 2 == 1

-- the length of a value, in two bytes or in one
abbrev pub length_bytes : Bool → ℕ → List ℕ
length_bytes extended n = if extended then big_bytes 2 n else n ∷ []

-- flags (1), type (1), length (1 or 2), value
abbrev pub attribute_bytes : PathAttribute → List ℕ
attribute_bytes attribute = attribute.flags ∷ attribute.kind ∷ length_bytes (is_extended attribute.flags) (length attribute.value) ++ attribute.value

abbrev pub attributes_bytes : List PathAttribute → List ℕ
attributes_bytes attributes = flat_map attribute_bytes attributes

-- RFC 4271, section 5.1; RFC 4760, sections 3 and 4; RFC 4360, section 2
abbrev pub origin_kind : ℕ
origin_kind = 1

abbrev pub as_path_kind : ℕ
as_path_kind = 2

abbrev pub next_hop_kind : ℕ
next_hop_kind = 3

abbrev pub local_pref_kind : ℕ
local_pref_kind = 5

abbrev pub atomic_aggregate_kind : ℕ
atomic_aggregate_kind = 6

abbrev pub mp_reach_kind : ℕ
mp_reach_kind = 14

abbrev pub mp_unreach_kind : ℕ
mp_unreach_kind = 15

abbrev pub extended_communities_kind : ℕ
extended_communities_kind = 16

abbrev pub known_kinds : List ℕ
known_kinds =
    origin_kind ∷ as_path_kind ∷ next_hop_kind ∷ local_pref_kind ∷ atomic_aggregate_kind ∷ mp_reach_kind ∷ mp_unreach_kind ∷ extended_communities_kind ∷ []

abbrev pub is_known_attribute : ℕ → Bool
is_known_attribute kind = list_any (λ known. known == kind) known_kinds

-- Of the values that aren't read, that of ORIGIN has one byte and that of LOCAL_PREF four; and an attribute of a type that
-- isn't known has to be optional.
pub record IsLawful (attribute : PathAttribute) : Type 0 where
  pub of_origin : attribute.kind ≡ origin_kind → length attribute.value ≡ 1
  pub of_local_pref : attribute.kind ≡ local_pref_kind → length attribute.value ≡ 4
  pub of_unknown : is_known_attribute attribute.kind ≡ false → is_optional attribute.flags ≡ true

-- one of them is of this type
abbrev pub has : ℕ → List PathAttribute → Bool
has kind attributes = list_any (λ attribute. attribute.kind == kind) attributes

-- RFC 4271, section 5, and RFC 4760, section 3: what has to stand beside routes
pub record HasAllWanted (attributes : List PathAttribute) : Type 0 where
  pub some : (has mp_reach_kind attributes || has mp_unreach_kind attributes) ≡ true
  pub beside : has mp_reach_kind attributes ≡ true →
      (has origin_kind attributes && has as_path_kind attributes && has local_pref_kind attributes && has extended_communities_kind attributes) ≡ true

-- the value of the attribute of a type
abbrev pub value_of : ℕ → List PathAttribute → Option (List ℕ)
value_of kind attributes = option_map (λ attribute. attribute.value) (find (λ attribute. attribute.kind == kind) attributes)

-- address family IPv4 (0001), labelled VPN addresses (80)
abbrev pub vpn_family : List ℕ
vpn_family = 0 ∷ 1 ∷ 0x80 ∷ []

-- RFC 4760, section 3, and RFC 4364, section 4.3.2: family (3), length of the next hop (1, which is 12), distinguisher (8)
-- and address (4) of the next hop, a reserved byte, and at least one route
pub record IsReach (value : List ℕ) (hop : ℕ) (routes : List VpnRoute) : Type 0 where
  pub distinguisher : List ℕ
  pub reserved : ℕ
  pub nlri : List ℕ
  pub eight : length distinguisher ≡ 8
  pub hop_fits : hop < 2 ^ 32
  pub some : 0 < length routes
  pub are_routes : AreNlri nlri routes
  pub whole : value ≡ vpn_family ++ 12 ∷ distinguisher ++ big_bytes 4 hop ++ reserved ∷ nlri

-- RFC 4760, section 4: family (3), and any number of routes
pub record IsUnreach (value : List ℕ) (routes : List VpnRoute) : Type 0 where
  pub nlri : List ℕ
  pub are_routes : AreNlri nlri routes
  pub whole : value ≡ vpn_family ++ nlri

-- what the attributes 14, 15 and 16 say, and what is meant where one isn't there
abbrev pub SayReach : Option (List ℕ) → ℕ → List VpnRoute → Type 0
SayReach None hop routes = (hop ≡ 0) × (routes ≡ [])
SayReach (Some value) hop routes = IsReach value hop routes

abbrev pub SayUnreach : Option (List ℕ) → List VpnRoute → Type 0
SayUnreach None routes = routes ≡ []
SayUnreach (Some value) routes = IsUnreach value routes

abbrev pub SayTargets : Option (List ℕ) → List Rt → Type 0
SayTargets None targets = targets ≡ []
SayTargets (Some value) targets = AreTargets value targets

-- RFC 4271, section 4.3: length of the withdrawn IPv4 routes (2, which is 0), length of the attributes (2), attributes, and no IPv4 routes behind them
abbrev pub update_body : List ℕ → List ℕ
update_body attributes = big_bytes 2 0 ++ big_bytes 2 (length attributes) ++ attributes

-- Attributes fill the body, each type once and each lawful, and this is what those of types 14, 15 and 16 say.
pub record AreAttributes (body : List ℕ) (attributes : List PathAttribute) (says : Says) : Type 0 where
  pub whole : body ≡ update_body (attributes_bytes attributes)
  pub once : AllPairs (λ earlier later. earlier.kind ≢ later.kind) attributes
  pub lawful : AllByRecursion IsLawful attributes
  pub reach : SayReach (value_of mp_reach_kind attributes) says.next_hop says.reached
  pub unreach : SayUnreach (value_of mp_unreach_kind attributes) says.withdrawn
  pub targets : SayTargets (value_of extended_communities_kind attributes) says.targets

-- and none is missing
pub record IsUpdate (body : List ℕ) (says : Says) : Type 0 where
  pub attributes : List PathAttribute
  pub are_attributes : AreAttributes body attributes says
  pub wanted : HasAllWanted attributes

-- RFC 4271, section 4.5: code (1), subcode (1), and bytes that tell more
abbrev pub IsNotification : List ℕ → ℕ → ℕ → Type 0
IsNotification body code subcode = (more : List ℕ) × (body ≡ code ∷ subcode ∷ more)

-- RFC 4271, section 4.4: a header alone
abbrev pub IsKeepAlive : List ℕ → Type 0
IsKeepAlive body = body ≡ []

-- A message.

abbrev pub kind_of : BgpMessage → ℕ
kind_of (messages.Opening version asn hold id vpn) = open_kind
kind_of (messages.Update says) = update_kind
kind_of (messages.Notification code subcode) = notification_kind
kind_of messages.KeepAlive = keepalive_kind

abbrev pub IsBody : List ℕ → BgpMessage → Type 0
IsBody body (messages.Opening version asn hold id vpn) = IsOpen body version asn hold id vpn
IsBody body (messages.Update says) = IsUpdate body says
IsBody body (messages.Notification code subcode) = IsNotification body code subcode
IsBody body messages.KeepAlive = IsKeepAlive body

-- the bytes are this message
pub record IsBgp (bytes : List ℕ) (message : BgpMessage) : Type 0 where
  pub body : List ℕ
  pub is_body : IsBody body message
  pub within : length bytes ≤ greatest_length
  pub whole : bytes ≡ message_bytes (kind_of message) body
