-- RFC 5036: the bytes of PDUs, and what they say. This is the part for the labels of IPv4 prefixes, distributed downstream and unsolicited.
-- All numbers have their high byte first. `big_bytes n x` is the number x in n bytes.
use Rattle.std.specs.Prelude.{◌≡◌, ◌<◌, ◌≤◌, ◌⊎◌, ◌+◌, ◌/◌, ◌==◌, ◌^◌, ℕ, Bool, false, List, [], ◌∷◌, ◌++◌, length, take, slice_index, Option, Some, None, ⊤}
use Rattle.std.specs.List.{flat_map, list_any, filter_map, AllByRecursion}
use Rattle.byteorder.specs.Endian.{big_bytes}
use Rattle.mn_prefix.specs.Prefix.{AddressBlock, IsPrefix}
use Rattle.mn_ldp_wire.specs.declared.message.LdpId.{LdpId}
use Rattle.mn_ldp_wire.specs.declared.message.LdpMessage.{LdpMessage}
use Rattle.mn_ldp_wire.specs.declared.message.LdpBody.{LdpBody}
use Rattle.mn_ldp_wire.specs.declared.message.LdpBody.TheVariants.{Notification, Initialization, KeepAlive, Address, Mapping, Withdraw, Release}
use Rattle.mn_prefix.specs.Octets.{prefix_octets}
pub use Rattle.mn_base.specs.Bytes.{IsBytes}

-- Sections 3.3 and 3.5: a TLV, and a message too, is its type (2 bytes), the length of what follows (2), and what follows.
unfoldable pub framed : ℕ → List ℕ → List ℕ
framed kind value = big_bytes 2 kind ++ big_bytes 2 (length value) ++ value

-- what fits these fields
pub record FitsFrame (kind : ℕ) (value : List ℕ) : Type 0 where
  pub kind_fits : kind < 2 ^ 16
  pub size_fits : length value < 2 ^ 16

-- Section 3.3: the U bit on top of a type tells a receiver that doesn't know the type to pass over what has it.
abbrev pub u_bit : ℕ
u_bit = 0x8000

-- Section 3.4.1: a FEC of one element, a prefix: 02, the address family (2; IPv4 is 1), the length in bits (1), and of the address
-- as many whole bytes as the length needs.
unfoldable pub prefix_element : AddressBlock → List ℕ
prefix_element prefix = 2 ∷ big_bytes 2 1 ++ prefix.length ∷ prefix_octets prefix

-- Section 3.4.2.1: a generic label is a number of 20 bits in four bytes. RFC 3032, section 2.1: of those below 16 only 3 is given, implicit null.
abbrev pub IsLabel : ℕ → Type 0
IsLabel label = (label ≡ 3) ⊎ ((16 ≤ label) × (label < 2 ^ 20))

-- Section 3.4.3: the address family (2; IPv4 is 1), and the addresses.
unfoldable pub address_list : List ℕ → List ℕ
address_list addresses = big_bytes 2 1 ++ flat_map (big_bytes 4) addresses

-- Section 3.4.6: status code (4), message id (4), message type (2).
unfoldable pub status_value : ℕ → ℕ → ℕ → List ℕ
status_value status about kind = big_bytes 4 status ++ big_bytes 4 about ++ big_bytes 2 kind

-- Section 2.2.2: the router's id (4), the label space (2).
abbrev pub ldp_id : LdpId → List ℕ
ldp_id id = big_bytes 4 id.lsr ++ big_bytes 2 id.space

pub record FitsId (id : LdpId) : Type 0 where
  pub lsr : id.lsr < 2 ^ 32
  pub space : id.space < 2 ^ 16

-- Section 3.5.3: protocol version (2), keepalive time in seconds (2), flags (1), path vector limit (1), greatest PDU (2), receiver's id (6).
unfoldable pub session_parameters : ℕ → ℕ → ℕ → ℕ → ℕ → LdpId → List ℕ
session_parameters version keepalive flags limit greatest receiver =
    big_bytes 2 version ++ big_bytes 2 keepalive ++ flags ∷ limit ∷ big_bytes 2 greatest ++ ldp_id receiver

-- The types of messages, by the sections 3.5.1, 3.5.3, 3.5.4, 3.5.5, 3.5.7, 3.5.10 and 3.5.11.
abbrev pub notification_type : ℕ
notification_type = 0x0001

abbrev pub initialization_type : ℕ
initialization_type = 0x0200

abbrev pub keepalive_type : ℕ
keepalive_type = 0x0201

abbrev pub address_type : ℕ
address_type = 0x0300

abbrev pub mapping_type : ℕ
mapping_type = 0x0400

abbrev pub withdraw_type : ℕ
withdraw_type = 0x0402

abbrev pub release_type : ℕ
release_type = 0x0403

-- The types of TLVs, by the sections 3.4.1, 3.4.2.1, 3.4.3, 3.4.6 and 3.5.3.
abbrev pub fec_tlv : ℕ
fec_tlv = 0x0100

abbrev pub generic_label_tlv : ℕ
generic_label_tlv = 0x0200

abbrev pub address_list_tlv : ℕ
address_list_tlv = 0x0101

abbrev pub status_tlv : ℕ
status_tlv = 0x0300

abbrev pub session_parameters_tlv : ℕ
session_parameters_tlv = 0x0500

abbrev pub type_of : LdpBody → ℕ
type_of (Notification status about kind) = notification_type
type_of (Initialization version keepalive flags limit greatest receiver) = initialization_type
type_of KeepAlive = keepalive_type
type_of (Address addresses) = address_type
type_of (Mapping prefix label) = mapping_type
type_of (Withdraw prefix label) = withdraw_type
type_of (Release prefix label) = release_type

abbrev pub is_known_message : ℕ → Bool
is_known_message kind =
    list_any (λ known. kind == known) (notification_type ∷ initialization_type ∷ keepalive_type ∷ address_type ∷ mapping_type ∷ withdraw_type ∷ release_type
    ∷ [])

-- The mandatory TLVs of a message, in their order, by the same sections. U bit and F bit are zero.
abbrev pub binding : AddressBlock → ℕ → List ℕ
binding prefix label = framed fec_tlv (prefix_element prefix) ++ framed generic_label_tlv (big_bytes 4 label)

abbrev pub mandatory_tlvs : LdpBody → List ℕ
mandatory_tlvs (Notification status about kind) = framed status_tlv (status_value status about kind)
mandatory_tlvs (Initialization version keepalive flags limit greatest receiver) =
    framed session_parameters_tlv (session_parameters version keepalive flags limit greatest receiver)
mandatory_tlvs KeepAlive = []
mandatory_tlvs (Address addresses) = framed address_list_tlv (address_list addresses)
mandatory_tlvs (Mapping prefix label) = binding prefix label
mandatory_tlvs (Withdraw prefix label) = binding prefix label
mandatory_tlvs (Release prefix label) = binding prefix label

-- What a message may say: each number fits its field, a prefix has no host bits, at least one address is there, and a label is lawful.
pub record IsStatus (status about kind : ℕ) : Type 0 where
  pub status_fits : status < 2 ^ 32
  pub about_fits : about < 2 ^ 32
  pub kind_fits : kind < 2 ^ 16

pub record IsAsked (version keepalive flags limit greatest : ℕ) (receiver : LdpId) : Type 0 where
  pub version_fits : version < 2 ^ 16
  pub keepalive_fits : keepalive < 2 ^ 16
  pub flags_fit : flags < 2 ^ 8
  pub limit_fits : limit < 2 ^ 8
  pub greatest_fits : greatest < 2 ^ 16
  pub receiver_fits : FitsId receiver

pub record AreAddresses (addresses : List ℕ) : Type 0 where
  pub some : 0 < length addresses
  pub each : AllByRecursion (λ address. address < 2 ^ 32) addresses

pub record IsBinding (prefix : AddressBlock) (label : ℕ) : Type 0 where
  pub is_prefix : IsPrefix prefix.address prefix.length
  pub is_label : IsLabel label

abbrev pub IsLawful : LdpBody → Type 0
IsLawful (Notification status about kind) = IsStatus status about kind
IsLawful (Initialization version keepalive flags limit greatest receiver) = IsAsked version keepalive flags limit greatest receiver
IsLawful KeepAlive = ⊤
IsLawful (Address addresses) = AreAddresses addresses
IsLawful (Mapping prefix label) = IsBinding prefix label
IsLawful (Withdraw prefix label) = IsBinding prefix label
IsLawful (Release prefix label) = IsBinding prefix label

-- Section 3.3: TLVs that are passed over, one after another: any with the U bit.
abbrev pub ArePassedOver : List ℕ → List (ℕ × List ℕ) → Type 0
ArePassedOver bytes [] = bytes ≡ []
ArePassedOver bytes (tlv ∷ tlvs) =
    (rest : List ℕ) × (bytes ≡ framed tlv.0 tlv.1 ++ rest) × FitsFrame tlv.0 tlv.1 × (u_bit ≤ tlv.0) × ArePassedOver rest tlvs

-- Section 3.5: a message is its type, under a U bit that is free, its length, and in that its id (4), its mandatory TLVs, and any
-- TLVs that are passed over.
pub record IsMessage (message : LdpMessage) (bytes : List ℕ) : Type 0 where
  pub u : ℕ
  pub further : List ℕ
  pub tlvs : List (ℕ × List ℕ)
  pub u_is : (u ≡ 0) ⊎ (u ≡ u_bit)
  pub id_fits : message.id < 2 ^ 32
  pub lawful : IsLawful message.body
  pub passed_over : ArePassedOver further tlvs
  pub fits : FitsFrame (u + type_of message.body) (big_bytes 4 message.id ++ mandatory_tlvs message.body ++ further)
  pub whole : bytes ≡ framed (u + type_of message.body) (big_bytes 4 message.id ++ mandatory_tlvs message.body ++ further)

-- a message that is passed over: of a type that isn't known, with the U bit, and with an id at least
pub record IsUnknown (bytes : List ℕ) : Type 0 where
  pub kind : ℕ
  pub contents : List ℕ
  pub unknown : is_known_message kind ≡ false
  pub has_id : 4 ≤ length contents
  pub fits : FitsFrame (u_bit + kind) contents
  pub whole : bytes ≡ framed (u_bit + kind) contents

abbrev pub IsSaid : Option LdpMessage → List ℕ → Type 0
IsSaid (Some message) bytes = IsMessage message bytes
IsSaid None bytes = IsUnknown bytes

-- messages one after another, each known or passed over
abbrev pub AreSaid : List (Option LdpMessage) → List ℕ → Type 0
AreSaid [] bytes = bytes ≡ []
AreSaid (first ∷ others) bytes = (front rest : List ℕ) × (bytes ≡ front ++ rest) × IsSaid first front × AreSaid others rest

-- Section 3.1: a PDU is the version (2; it is 1), the length of what follows (2), the sender's id (6) and at least one message. The
-- messages that it says are those that are known.
pub record IsPdu (bytes : List ℕ) (from : LdpId) (messages : List LdpMessage) : Type 0 where
  pub body : List ℕ
  pub said : List (Option LdpMessage)
  pub id_fits : FitsId from
  pub some : 0 < length said
  pub are_said : AreSaid said body
  pub messages_are : messages ≡ filter_map (λ known. known) said
  pub size_fits : 6 + length body < 2 ^ 16
  pub whole : bytes ≡ big_bytes 2 1 ++ big_bytes 2 (6 + length body) ++ ldp_id from ++ body

-- Of the spellings of one message the written one has a PDU to itself, no U bit and no further TLV.
unfoldable pub written_message : LdpMessage → List ℕ
written_message message = framed (type_of message.body) (big_bytes 4 message.id ++ mandatory_tlvs message.body)

unfoldable pub written : LdpId → LdpMessage → List ℕ
written from message =
    big_bytes 2 1 ++ big_bytes 2 (6 + length (written_message message)) ++ ldp_id from ++ written_message message

-- what may be written: a list of addresses that isn't empty and leaves the PDU within 4,096 bytes, and a lawful label
abbrev pub IsWritable : LdpBody → Type 0
IsWritable (Notification status about kind) = ⊤
IsWritable (Initialization version keepalive flags limit greatest receiver) = ⊤
IsWritable KeepAlive = ⊤
IsWritable (Address addresses) = (0 < length addresses) × (length addresses ≤ 1000)
IsWritable (Mapping prefix label) = IsLabel label
IsWritable (Withdraw prefix label) = IsLabel label
IsWritable (Release prefix label) = IsLabel label
