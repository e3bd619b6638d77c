-- Why a PDU is refused, in the grammar's words: which cause each refusal has, and that what stands before it is right.
use Rattle.std.specs.Prelude.{◌≡◌, ◌≢◌, ◌<◌, ◌≤◌, ◌-◌, ◌%◌, ◌⊎◌, ℕ, false, List, [], ◌++◌, length, drop, Option}
use Rattle.byteorder.specs.Endian.{big_bytes, big_number}
use Rattle.mn_prefix.specs.Prefix.{AddressBlock, IsPrefix}
use Rattle.mn_ldp_wire.specs.declared.message.LdpId.{LdpId}
use Rattle.mn_ldp_wire.specs.declared.message.LdpMessage.{LdpMessage}
use Rattle.mn_ldp_wire.specs.declared.message.LdpBody.{LdpBody}
use Rattle.mn_ldp_wire.specs.declared.refusal.WireBad.{WireBad}
use Rattle.mn_ldp_wire.specs.declared.refusal.WireBad.TheVariants.{Short, BadVersion, BadPduLength, BadMessageLength, UnknownMessage, MissingTlv, BadTlv}
use Rattle.mn_ldp_wire.specs.declared.refusal.WireBad.TheVariants.{BadFec}
use Rattle.mn_ldp_wire.specs.Grammar.{framed, FitsFrame, u_bit, is_known_message, type_of, mandatory_tlvs, status_value, session_parameters, address_list}
use Rattle.mn_ldp_wire.specs.Grammar.{address_list_tlv, address_type, fec_tlv, generic_label_tlv, initialization_type, mapping_type, notification_type}
use Rattle.mn_ldp_wire.specs.Grammar.{release_type, session_parameters_tlv, status_tlv, withdraw_type}
use Rattle.mn_ldp_wire.specs.Grammar.{prefix_element, IsStatus, IsAsked, AreAddresses, IsLabel, IsLawful, ArePassedOver, AreSaid}
use Rattle.mn_ldp_wire.specs.Reading.{size_at}

-- The values that a mandatory TLV may have.

abbrev pub IsStatusValue : List ℕ → Type 0
IsStatusValue value = (status : ℕ) × (about : ℕ) × (kind : ℕ) × IsStatus status about kind × (value ≡ status_value status about kind)

abbrev pub AreParameters : List ℕ → Type 0
AreParameters value =
    (version : ℕ) × (keepalive : ℕ) × (flags : ℕ) × (limit : ℕ) × (greatest : ℕ) × (receiver : LdpId) × IsAsked version keepalive flags limit greatest receiver
    × (value ≡ session_parameters version keepalive flags limit greatest receiver)

abbrev pub IsAddressList : List ℕ → Type 0
IsAddressList value = (addresses : List ℕ) × AreAddresses addresses × (value ≡ address_list addresses)

abbrev pub IsOnePrefix : List ℕ → Type 0
IsOnePrefix value = (prefix : AddressBlock) × IsPrefix prefix.address prefix.length × (value ≡ prefix_element prefix)

abbrev pub IsLabelValue : List ℕ → Type 0
IsLabelValue value = (label : ℕ) × IsLabel label × (value ≡ big_bytes 4 label)

-- The mandatory TLV that is due.

-- the message ends
abbrev pub IsMissing : List ℕ → WireBad → Type 0
IsMissing tlvs bad = (tlvs ≡ []) × (bad ≡ MissingTlv)

-- something stands there, and it isn't a whole TLV of this type
abbrev pub IsNotDue : ℕ → List ℕ → WireBad → Type 0
IsNotDue kind tlvs bad = (tlvs ≢ []) × ((value rest : List ℕ) → FitsFrame kind value → tlvs ≢ framed kind value ++ rest) × (bad ≡ BadTlv)

-- it stands there, and has no value that it may have
pub record HasWrongValue (kind : ℕ) (IsRight : List ℕ → Type 0) (wrong : WireBad) (tlvs : List ℕ) (bad : WireBad) : Type 0 where
  pub value : List ℕ
  pub rest : List ℕ
  pub fits : FitsFrame kind value
  pub whole : tlvs ≡ framed kind value ++ rest
  pub not_right : IsRight value → ⊥
  pub bad_is : bad ≡ wrong

abbrev pub IsDueRefused : ℕ → (List ℕ → Type 0) → WireBad → List ℕ → WireBad → Type 0
IsDueRefused kind IsRight wrong tlvs bad = IsMissing tlvs bad ⊎ (IsNotDue kind tlvs bad ⊎ HasWrongValue kind IsRight wrong tlvs bad)

-- of a FEC and a label the FEC is right, and the label is refused
pub record IsLabelRefused (tlvs : List ℕ) (bad : WireBad) : Type 0 where
  pub prefix : AddressBlock
  pub rest : List ℕ
  pub is_prefix : IsPrefix prefix.address prefix.length
  pub whole : tlvs ≡ framed fec_tlv (prefix_element prefix) ++ rest
  pub refused : IsDueRefused generic_label_tlv IsLabelValue BadTlv rest bad

-- by the type of the message; a KeepAlive has no mandatory TLV
abbrev pub IsMandatoryRefused : ℕ → List ℕ → WireBad → Type 0
IsMandatoryRefused kind tlvs bad =
    ((kind ≡ notification_type) × IsDueRefused status_tlv IsStatusValue BadTlv tlvs bad)
    ⊎ (((kind ≡ initialization_type) × IsDueRefused session_parameters_tlv AreParameters BadTlv tlvs bad)
    ⊎ (((kind ≡ address_type) × IsDueRefused address_list_tlv IsAddressList BadTlv tlvs bad)
    ⊎ (((kind ≡ mapping_type) ⊎ ((kind ≡ withdraw_type) ⊎ (kind ≡ release_type)))
    × (IsDueRefused fec_tlv IsOnePrefix BadFec tlvs bad ⊎ IsLabelRefused tlvs bad))))

-- the mandatory TLVs are right, and what stands behind them isn't passed over
pub record IsFurtherRefused (kind : ℕ) (tlvs : List ℕ) (bad : WireBad) : Type 0 where
  pub body : LdpBody
  pub rest : List ℕ
  pub kind_is : kind ≡ type_of body
  pub lawful : IsLawful body
  pub whole : tlvs ≡ mandatory_tlvs body ++ rest
  pub not_passed : (passed : List (ℕ × List ℕ)) → ArePassedOver rest passed → ⊥
  pub bad_is : bad ≡ BadTlv

-- The message at the front.

-- no whole message stands there, with an id at least
abbrev pub IsNoMessage : List ℕ → WireBad → Type 0
IsNoMessage bytes bad =
    ((kind : ℕ) (contents rest : List ℕ) → FitsFrame kind contents → 4 ≤ length contents → bytes ≢ framed kind contents ++ rest) × (bad ≡ BadMessageLength)

-- one stands there
pub record HasMessage (bytes : List ℕ) (kind : ℕ) (contents : List ℕ) : Type 0 where
  pub rest : List ℕ
  pub fits : FitsFrame kind contents
  pub long : 4 ≤ length contents
  pub whole : bytes ≡ framed kind contents ++ rest

-- its type isn't known, and it has no U bit
pub record IsUnknownRefused (bytes : List ℕ) (bad : WireBad) : Type 0 where
  pub kind : ℕ
  pub contents : List ℕ
  pub there : HasMessage bytes kind contents
  pub low : kind < u_bit
  pub unknown : is_known_message kind ≡ false
  pub bad_is : bad ≡ UnknownMessage

-- its type is known, under whatever U bit, and its TLVs are refused
pub record AreTlvsRefused (bytes : List ℕ) (bad : WireBad) : Type 0 where
  pub kind : ℕ
  pub contents : List ℕ
  pub there : HasMessage bytes kind contents
  pub refused : IsMandatoryRefused (kind % u_bit) (drop 4 contents) bad ⊎ IsFurtherRefused (kind % u_bit) (drop 4 contents) bad

abbrev pub IsRefusedThere : List ℕ → WireBad → Type 0
IsRefusedThere bytes bad = IsNoMessage bytes bad ⊎ (IsUnknownRefused bytes bad ⊎ AreTlvsRefused bytes bad)

-- messages that are right stand first, and then the one that is refused
pub record IsMessageRefused (body : List ℕ) (bad : WireBad) : Type 0 where
  pub before : List ℕ
  pub rest : List ℕ
  pub said : List (Option LdpMessage)
  pub whole : body ≡ before ++ rest
  pub are_said : AreSaid said before
  pub some : 0 < length rest
  pub refused : IsRefusedThere rest bad

-- The PDU.

abbrev pub IsTooShort : List ℕ → WireBad → Type 0
IsTooShort bytes bad = (length bytes < 10) × (bad ≡ Short)

abbrev pub IsOfOtherVersion : List ℕ → WireBad → Type 0
IsOfOtherVersion bytes bad = (10 ≤ length bytes) × (big_number 2 bytes ≢ 1) × (bad ≡ BadVersion)

abbrev pub IsOfOtherLength : List ℕ → WireBad → Type 0
IsOfOtherLength bytes bad = (10 ≤ length bytes) × (big_number 2 bytes ≡ 1) × ((size_at bytes ≢ length bytes - 4) ⊎ (length bytes ≡ 10)) × (bad ≡ BadPduLength)

-- a header that is right: it says version 1, and how many bytes stand behind it, and some do
pub record IsHeaderRight (bytes : List ℕ) : Type 0 where
  pub long : 10 ≤ length bytes
  pub version : big_number 2 bytes ≡ 1
  pub size : size_at bytes ≡ length bytes - 4
  pub some : length bytes ≢ 10

abbrev pub IsRefusedInside : List ℕ → WireBad → Type 0
IsRefusedInside bytes bad = IsHeaderRight bytes × IsMessageRefused (drop 10 bytes) bad

abbrev pub IsRefused : List ℕ → WireBad → Type 0
IsRefused bytes bad = IsTooShort bytes bad ⊎ (IsOfOtherVersion bytes bad ⊎ (IsOfOtherLength bytes bad ⊎ IsRefusedInside bytes bad))
