-- A message as it is read: the refusals in the order in which they are tried.
use Rattle.std.specs.Prelude.{◌≡◌, ℕ, ◌+◌, ◌*◌, ◌==◌, ◌||◌, ◌&&◌, Bool, true, false, not, nat_lt, nat_le, List, [], ◌∷◌, length, take, drop, slice_index}
use Rattle.std.specs.Prelude.{Option, Some, None, Result, Ok, Err, ⊤, if◌then◌else◌}
use Rattle.std.specs.Option.{option_map}
use Rattle.std.specs.List.{list_any, list_all}
use Rattle.byteorder.specs.Endian.{big_number}
use Rattle.mn_base.specs.declared.numbers.Rt.{Rt}
use Rattle.mn_vpn_nlri.specs.declared.message.VpnRoute.{VpnRoute}
use Rattle.mn_vpn_nlri.specs.declared.refusal.NlriBad.{NlriBad}
use Rattle.mn_vpn_nlri.specs.Reading.{routes_of, targets_of}
use Rattle.mn_bgp_wire.specs.Says.{Says}
use Rattle.mn_bgp_wire.specs.Items.{◌>>=◌, items_of}
use Rattle.mn_bgp_wire.specs.Grammar.{header_size, greatest_length, open_kind, update_kind, notification_kind, keepalive_kind, Field, capabilities_kind}
use Rattle.mn_bgp_wire.specs.Grammar.{is_vpn, PathAttribute, is_optional, is_extended, origin_kind, as_path_kind, local_pref_kind, mp_reach_kind}
use Rattle.mn_bgp_wire.specs.Grammar.{mp_unreach_kind, extended_communities_kind, is_known_attribute, has, value_of}
use Rattle.mn_bgp_wire.specs.declared.message.BgpMessage.{BgpMessage}
use Rattle.mn_bgp_wire.specs.declared.message.BgpMessage.TheVariants as messages
use Rattle.mn_bgp_wire.specs.declared.refusal.BgpWireBad.{BgpWireBad}
use Rattle.mn_bgp_wire.specs.declared.refusal.BgpWireBad.TheVariants.{Short, BadMarker, BadLength, BadType, BadOpen, BadAttribute, MissingAttribute, NoMemory}
pub use Rattle.mn_base.specs.Rules.{first_refusal, unless, after}

-- A value, or else a refusal.
abbrev pub or_else : {X : Type 0} → BgpWireBad → Option X → Result X BgpWireBad
or_else bad None = Err bad
or_else bad (Some x) = Ok x

-- Parts of OPEN and UPDATE.

-- a length, of two bytes or of one, and what stands behind it
abbrev pub sized : Bool → List ℕ → Option (ℕ × List ℕ)
sized true (high ∷ low ∷ rest) = Some (high * 256 + low, rest)
sized true _ = None
sized false (n ∷ rest) = Some (n, rest)
sized false [] = None

-- a value of that length, and what stands behind it
abbrev pub cut : ℕ × List ℕ → Option (List ℕ × List ℕ)
cut found = if nat_lt (length found.1) found.0 then None else Some (take found.0 found.1, drop found.0 found.1)

-- OPEN: RFC 4271, section 6.2.

unfoldable pub field_at : List ℕ → Option (Field × List ℕ)
field_at [] = None
field_at (kind ∷ rest) = sized false rest >>= cut >>= λ parts. Some (record { kind = kind; value = parts.0 }, parts.1)

abbrev pub fields_of : List ℕ → Option (List Field)
fields_of bytes = items_of field_at bytes

-- whether VPN-IPv4 is among the capabilities, if they are whole
abbrev pub vpn_among : List ℕ → Option Bool
vpn_among capabilities = option_map (list_any is_vpn) (fields_of capabilities)

abbrev pub vpn_in : Field → Option Bool
vpn_in parameter = if parameter.kind == capabilities_kind then vpn_among parameter.value else Some false

abbrev pub vpn_in_some : List Field → Option Bool
vpn_in_some [] = Some false
vpn_in_some (parameter ∷ parameters) = vpn_in parameter >>= λ first. vpn_in_some parameters >>= λ others. Some (first || others)

abbrev pub vpn_offered : List ℕ → Option Bool
vpn_offered parameters = fields_of parameters >>= vpn_in_some

abbrev pub version_of : List ℕ → ℕ
version_of body = slice_index body 0

abbrev pub opening : List ℕ → Bool → BgpMessage
opening body vpn = messages.Opening (version_of body) (big_number 2 (drop 1 body)) (big_number 2 (drop 3 body)) (big_number 4 (drop 5 body)) vpn

-- the parameters are what is left behind their length
unfoldable pub open_of : List ℕ → Result BgpMessage BgpWireBad
open_of body =
    if not (version_of body == 4) || not (slice_index body 9 == length (drop 10 body)) then Err BadOpen
    else after (or_else BadOpen (vpn_offered (drop 10 body))) (λ vpn. Ok (opening body vpn))

-- UPDATE: RFC 4271, section 6.3. Its attributes, apart from what the values of 14, 15 and 16 say.

unfoldable pub attribute_at : List ℕ → Option (PathAttribute × List ℕ)
attribute_at (flags ∷ kind ∷ rest) = sized (is_extended flags) rest >>= cut >>= λ parts. Some (record { flags = flags; kind = kind; value = parts.0 }, parts.1)
attribute_at _ = None

abbrev pub attributes_of : List ℕ → Option (List PathAttribute)
attributes_of bytes = items_of attribute_at bytes

-- The withdrawn IPv4 routes are none, and the attributes go to the end.
unfoldable pub attributes_in : List ℕ → Option (List PathAttribute)
attributes_in body = if not (big_number 2 body == 0) || not (big_number 2 (drop 2 body) == length (drop 4 body)) then None else attributes_of (drop 4 body)

abbrev pub has_twice : List PathAttribute → Bool
has_twice [] = false
has_twice (attribute ∷ attributes) = has attribute.kind attributes || has_twice attributes

unfoldable pub is_lawful : PathAttribute → Bool
is_lawful attribute =
    if attribute.kind == origin_kind then length attribute.value == 1
    else if attribute.kind == local_pref_kind then length attribute.value == 4
    else is_known_attribute attribute.kind || is_optional attribute.flags

-- neither routes that come nor routes that go, or beside the former something is missing
unfoldable pub is_missing : List PathAttribute → Bool
is_missing attributes =
    if has mp_reach_kind attributes then not
    (has origin_kind attributes && has as_path_kind attributes && has local_pref_kind attributes && has extended_communities_kind attributes)
    else not (has mp_unreach_kind attributes)

-- What the values of 14, 15 and 16 say: RFC 4760, sections 3 and 4; RFC 4360, section 4.

-- in an UPDATE, whatever is wrong with a route or with communities
abbrev pub in_attribute : {X : Type 0} → Result X NlriBad → Result X BgpWireBad
in_attribute (Ok x) = Ok x
in_attribute (Err bad) = Err BadAttribute

abbrev pub is_family : List ℕ → Bool
is_family value = slice_index value 0 == 0 && slice_index value 1 == 1 && slice_index value 2 == 0x80

-- family (3), length of the next hop (1), distinguisher (8) and address (4) of the next hop, a reserved byte
abbrev pub reach_head : ℕ
reach_head = 17

unfoldable pub reach_of : List ℕ → Result (ℕ × List VpnRoute) BgpWireBad
reach_of value =
    if not (nat_le reach_head (length value) && is_family value && slice_index value 3 == 12) then Err BadAttribute
    else after (in_attribute (routes_of (drop reach_head value)))
    (λ routes. if length routes == 0 then Err BadAttribute else Ok (big_number 4 (drop 12 value), routes))

unfoldable pub unreach_of : List ℕ → Result (List VpnRoute) BgpWireBad
unreach_of value = if not (nat_le 3 (length value) && is_family value) then Err BadAttribute else in_attribute (routes_of (drop 3 value))

abbrev pub communities_of : List ℕ → Result (List Rt) BgpWireBad
communities_of value = in_attribute (targets_of value)

-- what an attribute says, or what is meant where it isn't there
abbrev pub said : {X : Type 0} → X → (List ℕ → Result X BgpWireBad) → Option (List ℕ) → Result X BgpWireBad
said absent read None = Ok absent
said absent read (Some value) = read value

abbrev pub no_routes : List VpnRoute
no_routes = []

abbrev pub no_targets : List Rt
no_targets = []

abbrev pub reach_in : List PathAttribute → Result (ℕ × List VpnRoute) BgpWireBad
reach_in attributes = said (0, no_routes) reach_of (value_of mp_reach_kind attributes)

abbrev pub unreach_in : List PathAttribute → Result (List VpnRoute) BgpWireBad
unreach_in attributes = said no_routes unreach_of (value_of mp_unreach_kind attributes)

abbrev pub targets_in : List PathAttribute → Result (List Rt) BgpWireBad
targets_in attributes = said no_targets communities_of (value_of extended_communities_kind attributes)

unfoldable pub says_of : List PathAttribute → Result Says BgpWireBad
says_of attributes =
    if has_twice attributes || not (list_all is_lawful attributes) then Err BadAttribute
    else after (reach_in attributes) (λ reach.
    after (unreach_in attributes) (λ withdrawn.
    after (targets_in attributes) (λ targets.
    if is_missing attributes then Err MissingAttribute
    else Ok (record { next_hop = reach.0; reached = reach.1; withdrawn = withdrawn; targets = targets }))))

abbrev pub update_of : List ℕ → Result Says BgpWireBad
update_of body = after (or_else BadAttribute (attributes_in body)) says_of

-- A message: RFC 4271, section 6.1.

-- The first rule that is broken, of rules in order, each with whether it is broken.
abbrev pub is_marked : List ℕ → Bool
is_marked bytes = list_all (λ byte. byte == 255) (take 16 bytes)

abbrev pub length_of : List ℕ → ℕ
length_of bytes = big_number 2 (drop 16 bytes)

abbrev pub kind_at : List ℕ → ℕ
kind_at bytes = slice_index bytes 18

abbrev pub body_of : List ℕ → List ℕ
body_of bytes = drop header_size bytes

-- the least lengths of a type's messages, of which a KEEPALIVE has no other
unfoldable pub allows : ℕ → ℕ → Bool
allows kind len =
    if kind == open_kind then nat_le 29 len
    else if kind == update_kind then nat_le 23 len
    else if kind == notification_kind then nat_le 21 len
    else if kind == keepalive_kind then len == header_size
    else true

abbrev pub is_kind : ℕ → Bool
is_kind kind = kind == open_kind || kind == update_kind || kind == notification_kind || kind == keepalive_kind

abbrev pub header_rules : List ℕ → List (Bool × BgpWireBad)
header_rules bytes =
    (nat_lt (length bytes) header_size, Short)
    ∷ (not (is_marked bytes), BadMarker)
    ∷ (not (length_of bytes == length bytes && nat_le (length bytes) greatest_length && allows (kind_at bytes) (length bytes)), BadLength)
    ∷ (not (is_kind (kind_at bytes)), BadType)
    ∷ []

unfoldable pub header_of : List ℕ → Result ℕ BgpWireBad
header_of bytes = unless (first_refusal (header_rules bytes)) (kind_at bytes)

abbrev pub update_said : List ℕ → Result BgpMessage BgpWireBad
update_said body = after (update_of body) (λ says. Ok (messages.Update says))

-- by type, of one of the four types
abbrev pub body_says : ℕ → List ℕ → Result BgpMessage BgpWireBad
body_says kind body =
    if kind == open_kind then open_of body
    else if kind == update_kind then update_said body
    else if kind == notification_kind then Ok (messages.Notification (slice_index body 0) (slice_index body 1))
    else Ok messages.KeepAlive

unfoldable pub message_of : List ℕ → Result BgpMessage BgpWireBad
message_of bytes = after (header_of bytes) (λ kind. body_says kind (body_of bytes))

-- A refusal is the one that reading gives, and out of memory is free.
abbrev pub Fails : {Y : Type 0} → BgpWireBad → Result Y BgpWireBad → Type 0
Fails NoMemory reading = ⊤
Fails Short reading = reading ≡ Err Short
Fails BadMarker reading = reading ≡ Err BadMarker
Fails BadLength reading = reading ≡ Err BadLength
Fails BadType reading = reading ≡ Err BadType
Fails BadOpen reading = reading ≡ Err BadOpen
Fails BadAttribute reading = reading ≡ Err BadAttribute
Fails MissingAttribute reading = reading ≡ Err MissingAttribute

-- what a function answers, seen by view, is what reading gives
abbrev pub Gives : {X Y : Type 0} → (X → Y) → Result X BgpWireBad → Result Y BgpWireBad → Type 0
Gives view (Ok x) reading = reading ≡ Ok (view x)
Gives view (Err bad) reading = Fails bad reading

abbrev pub Answers : {X : Type 0} → Result X BgpWireBad → Result X BgpWireBad → Type 0
Answers result reading = Gives (λ x. x) result reading
