-- A PDU as it is read: its value, or the first refusal from the front.
use Rattle.std.specs.Prelude.{◌≡◌, ◌≢◌, ◌-◌, ◌%◌, ◌^◌, ◌==◌, ◌||◌, ◌&&◌, ℕ, zero, suc, Bool, true, false, not, nat_lt, nat_le, List, [], ◌∷◌, ◌++◌, length}
use Rattle.std.specs.Prelude.{take, drop, replicate, slice_index, Option, Some, None, Result, Ok, Err, MatchResult, ok_or, option_to_list, if◌then◌else◌}
use Rattle.byteorder.specs.Endian.{big_number}
use Rattle.mn_prefix.specs.Prefix.{AddressBlock}
use Rattle.mn_ldp_wire.specs.declared.message.LdpId.{LdpId}
use Rattle.mn_ldp_wire.specs.declared.message.LdpMessage.{LdpMessage}
use Rattle.mn_ldp_wire.specs.declared.message.LdpBody.{LdpBody}
use Rattle.mn_ldp_wire.specs.declared.message.LdpBody.TheVariants.{Notification, Initialization, KeepAlive, Address, Mapping, Withdraw, Release}
use Rattle.mn_ldp_wire.specs.declared.refusal.WireBad.{WireBad}
use Rattle.mn_ldp_wire.specs.declared.refusal.WireBad.TheVariants.{Short, BadVersion, BadPduLength, BadMessageLength, UnknownMessage, MissingTlv, BadTlv}
use Rattle.mn_ldp_wire.specs.declared.refusal.WireBad.TheVariants.{BadFec, NoMemory}
use Rattle.mn_ldp_wire.specs.Message.{PduContents}
use Rattle.mn_ldp_wire.specs.Grammar.{u_bit, is_known_message}
use Rattle.mn_ldp_wire.specs.Grammar.{address_list_tlv, address_type, fec_tlv, generic_label_tlv, initialization_type, keepalive_type, mapping_type}
use Rattle.mn_ldp_wire.specs.Grammar.{notification_type, release_type, session_parameters_tlv, status_tlv, withdraw_type}
use Rattle.mn_prefix.specs.Octets.{octets, address_of}
pub use Rattle.mn_base.specs.Refusals.{◌>>=◌}

-- What a function answers, seen by `view`, is what reading gives.
abbrev pub Gives : {X Y : Type 0} → (X → Y) → Result X WireBad → Result Y WireBad → Type 0
Gives view answer reading = MatchResult answer (λ x. reading ≡ Ok (view x)) (λ bad. reading ≡ Err bad)

-- The same, but that it may answer at any time that there is no memory.
abbrev pub Answers : {X Y : Type 0} → (X → Y) → Result X WireBad → Result Y WireBad → Type 0
Answers view answer reading = MatchResult answer (λ x. reading ≡ Ok (view x)) (λ bad. bad ≢ NoMemory → reading ≡ Err bad)

-- What stands at the front of bytes: the type and the value of a message or of a TLV, and the bytes behind it.
pub record Front : Type 0 where
  pub kind : ℕ
  pub value : List ℕ
  pub rest : List ℕ

abbrev pub size_at : List ℕ → ℕ
size_at bytes = big_number 2 (drop 2 bytes)

-- none where the bytes end before its header or its value does
unfoldable pub front_of : List ℕ → Option Front
front_of bytes =
    if nat_lt (length bytes) 4 then None
    else if nat_lt (length bytes - 4) (size_at bytes) then None
    else Some (record { kind = big_number 2 bytes; value = take (size_at bytes) (drop 4 bytes); rest = drop (size_at bytes) (drop 4 bytes) })

-- The TLVs of a message.

-- the value of the mandatory TLV of this type, which is due, and the bytes behind it
abbrev pub due : ℕ → Option Front → Result (List ℕ × List ℕ) WireBad
due kind None = Err BadTlv
due kind (Some tlv) = if tlv.kind == kind then Ok (tlv.value, tlv.rest) else Err BadTlv

unfoldable pub mandatory_at : ℕ → List ℕ → Result (List ℕ × List ℕ) WireBad
mandatory_at kind bytes = if length bytes == 0 then Err MissingTlv else due kind (front_of bytes)

-- where none is due any more, whether the bytes are whole TLVs with the U bit; there are no more of them than bytes
unfoldable pub passed_over_from : ℕ → List ℕ → Bool
passed_over_from zero bytes = length bytes == 0
passed_over_from (suc most) bytes =
    if length bytes == 0 then true
    else elim (front_of bytes) [ None ↦ false | Some tlv ↦ if nat_le u_bit tlv.kind then passed_over_from most tlv.rest else false ]

unfoldable pub are_passed_over : List ℕ → Bool
are_passed_over bytes = passed_over_from (length bytes) bytes

-- The values of TLVs.

abbrev pub octets_of : List ℕ → List ℕ
octets_of value = drop 4 value

abbrev pub bits_of : List ℕ → ℕ
bits_of value = slice_index value 3

-- one element: 02, family 1, at most 32 bits, as many octets as they need, and the bits behind them zero
abbrev pub is_prefix_element : List ℕ → Bool
is_prefix_element value =
    nat_le 4 (length value) && (slice_index value 0 == 2) && (big_number 2 (drop 1 value) == 1)
    && nat_le (bits_of value) 32 && (length (octets_of value) == octets (bits_of value))
    && (address_of (octets_of value) % 2 ^ (32 - bits_of value) == 0)

unfoldable pub prefix_of : List ℕ → Option AddressBlock
prefix_of value =
    if is_prefix_element value then Some (record { address = address_of (octets_of value); length = bits_of value }) else None

abbrev pub is_label : ℕ → Bool
is_label label = label == 3 || (nat_le 16 label && nat_le label 1048575)

unfoldable pub read_label : List ℕ → Option ℕ
read_label value =
    if not (length value == 4) then None
    else if is_label (big_number 4 value) then Some (big_number 4 value)
    else None

-- every four bytes, as a number
unfoldable pub addresses_of : List ℕ → List ℕ
addresses_of (a ∷ b ∷ c ∷ d ∷ rest) = big_number 4 (a ∷ b ∷ c ∷ d ∷ []) ∷ addresses_of rest
addresses_of _ = []

abbrev pub is_address_list : List ℕ → Bool
is_address_list value = nat_le 6 (length value) && (big_number 2 value == 1) && ((length value - 2) % 4 == 0)

-- What a message says, and the bytes behind its mandatory TLVs.

unfoldable pub notification_of : List ℕ → Result (LdpBody × List ℕ) WireBad
notification_of tlvs = do
  status ← mandatory_at status_tlv tlvs
  if length status.0 == 10
      then Ok (Notification (big_number 4 status.0) (big_number 4 (drop 4 status.0)) (big_number 2 (drop 8 status.0)), status.1)
      else Err BadTlv

abbrev pub id_at : List ℕ → LdpId
id_at bytes = record { lsr = big_number 4 bytes; space = big_number 2 (drop 4 bytes) }

abbrev pub asked : List ℕ → LdpBody
asked value =
    Initialization (big_number 2 value) (big_number 2 (drop 2 value)) (slice_index value 4) (slice_index value 5) (big_number 2 (drop 6 value))
    (id_at (drop 8 value))

unfoldable pub initialization_of : List ℕ → Result (LdpBody × List ℕ) WireBad
initialization_of tlvs = do
  parameters ← mandatory_at session_parameters_tlv tlvs
  if length parameters.0 == 14 then Ok (asked parameters.0, parameters.1) else Err BadTlv

unfoldable pub address_message_of : List ℕ → Result (LdpBody × List ℕ) WireBad
address_message_of tlvs = do
  list ← mandatory_at address_list_tlv tlvs
  if is_address_list list.0 then Ok (Address (addresses_of (drop 2 list.0)), list.1) else Err BadTlv

unfoldable pub binding_of : List ℕ → Result (AddressBlock × ℕ × List ℕ) WireBad
binding_of tlvs = do
  fec ← mandatory_at fec_tlv tlvs
  prefix ← ok_or (prefix_of fec.0) BadFec
  value ← mandatory_at generic_label_tlv fec.1
  label ← ok_or (read_label value.0) BadTlv
  Ok (prefix, label, value.1)

abbrev pub bound : (AddressBlock → ℕ → LdpBody) → List ℕ → Result (LdpBody × List ℕ) WireBad
bound body tlvs = binding_of tlvs >>= λ b. Ok (body b.0 b.1, b.2)

unfoldable pub body_of : ℕ → List ℕ → Result (LdpBody × List ℕ) WireBad
body_of kind tlvs =
    if kind == notification_type then notification_of tlvs
    else if kind == initialization_type then initialization_of tlvs
    else if kind == keepalive_type then Ok (KeepAlive, tlvs)
    else if kind == address_type then address_message_of tlvs
    else if kind == mapping_type then bound Mapping tlvs
    else if kind == withdraw_type then bound Withdraw tlvs
    else if kind == release_type then bound Release tlvs
    else Err UnknownMessage

-- A message of this type with these contents: none where it is passed over.
unfoldable pub said_of : ℕ → List ℕ → Result (Option LdpMessage) WireBad
said_of kind contents =
    if nat_le u_bit kind && not (is_known_message (kind % u_bit)) then Ok None
    else do
      body ← body_of (kind % u_bit) (drop 4 contents)
      if are_passed_over body.1 then Ok (Some (record { id = big_number 4 contents; body = body.0 })) else Err BadTlv

-- The message at the front, and the bytes behind it.
abbrev pub message_in : Option Front → Result (Option LdpMessage × List ℕ) WireBad
message_in None = Err BadMessageLength
message_in (Some message) =
    if nat_lt (length message.value) 4 then Err BadMessageLength
    else (said_of message.kind message.value >>= λ said. Ok (said, message.rest))

unfoldable pub message_at : List ℕ → Result (Option LdpMessage × List ℕ) WireBad
message_at bytes = message_in (front_of bytes)

-- Messages one after another; there are no more of them than bytes.
unfoldable pub messages_from : ℕ → List ℕ → Result (List LdpMessage) WireBad
messages_from zero bytes = Ok []
messages_from (suc most) bytes =
    if length bytes == 0 then Ok []
    else do
      first ← message_at bytes
      others ← messages_from most first.1
      Ok (option_to_list first.0 ++ others)

unfoldable pub messages_of : List ℕ → Result (List LdpMessage) WireBad
messages_of bytes = messages_from (length bytes) bytes

-- The PDU's header is right: version 1, and a length that counts all bytes after it, with some messages among them.
abbrev pub has_header : List ℕ → Bool
has_header bytes = nat_lt 10 (length bytes) && (big_number 2 bytes == 1) && (size_at bytes == length bytes - 4)

-- The whole of the bytes as one PDU.
unfoldable pub pdu_of : List ℕ → Result PduContents WireBad
pdu_of bytes =
    if nat_lt (length bytes) 10 then Err Short
    else if not (big_number 2 bytes == 1) then Err BadVersion
    else if not (size_at bytes == length bytes - 4) || (length bytes == 10) then Err BadPduLength
    else do
      messages ← messages_of (drop 10 bytes)
      Ok (record { from = id_at (drop 4 bytes); messages = messages })

-- why so many bytes of a PDU aren't read, where it has more
abbrev pub cut_bad : ℕ → WireBad
cut_bad k = if nat_lt k 10 then Short else BadPduLength
