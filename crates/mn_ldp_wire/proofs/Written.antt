-- What is written piece by piece is the TLV.
use Rattle.std.proofs.lemmas.List.{length-take-le}
use Rattle.std.proofs.Common.{length-append, length-take, ◌<◌, ◌^◌, get_or, ◌≡◌, ◌≤◌, ◌+◌, ◌*◌, ℕ, suc, List, [], ◌∷◌, ◌++◌, length, take, refl, ap, ◌∙◌}
use Rattle.std.proofs.Common.{arith, append_assoc, Result, Ok, Err, is_ok, OnOk, if◌then◌else◌}
use Rattle.std.specs.List.{flat_map, AllByRecursion}
use Rattle.byteorder.specs.Endian.{big_bytes}
use Rattle.mn_prefix.specs.Prefix.{AddressBlock}
use Rattle.mn_ldp_wire.specs.declared.message.LdpId.{LdpId}
use Rattle.mn_ldp_wire.specs.declared.message.LdpMessage.{LdpMessage}
use Rattle.mn_ldp_wire.specs.declared.message.LdpBody.{LdpBody}
use Rattle.mn_ldp_wire.specs.declared.message.LdpBody.TheVariants.{Notification, Initialization, KeepAlive, Address, Mapping, Withdraw, Release}
use Rattle.mn_ldp_wire.specs.Grammar.{framed, prefix_element, address_list, status_value, session_parameters, ldp_id, binding, mandatory_tlvs, type_of}
use Rattle.mn_ldp_wire.specs.Grammar.{written, written_message, IsWritable}
use Rattle.mn_prefix.specs.Octets.{octets}

pub length-addresses : (addresses : List ℕ) → length (flat_map (big_bytes 4) addresses) ≡ 4 * length addresses
length-addresses [] = refl
length-addresses (a ∷ addresses) = omega (arith, length-addresses addresses)

regroup_4 : (o a b c d : List ℕ) → (((o ++ a) ++ b) ++ c) ++ d ≡ o ++ (a ++ (b ++ (c ++ d)))
regroup_4 o a b c d = simp append_assoc

regroup_6 : (o a b c d e f : List ℕ) → (((((o ++ a) ++ b) ++ c) ++ d) ++ e) ++ f ≡ o ++ (a ++ (b ++ (c ++ (d ++ (e ++ f)))))
regroup_6 o a b c d e f = simp append_assoc

pub addresses_in_turn : (new third second first old addresses done : List ℕ) (size : ℕ) → new ≡ third ++ flat_map (big_bytes 4) done → done ≡ addresses →
    third ≡ second ++ big_bytes 2 1 → second ≡ first ++ big_bytes 2 size
    → first ≡ old ++ big_bytes 2 0x0101 → size ≡ 2 + 4 * length addresses → new ≡ old ++ framed 0x0101 (address_list addresses)
unfolding framed address_list
addresses_in_turn new third second first old addresses done size e4 all e3 e2 e1 is =
    let same : size ≡ suc (suc (length (flat_map (big_bytes 4) addresses))) = omega (arith, length-addresses addresses) in
    let turn : new ≡ (((old ++ big_bytes 2 0x0101) ++ big_bytes 2 size) ++ big_bytes 2 1) ++ flat_map (big_bytes 4) addresses = cc in
    turn ∙ regroup_4 old (big_bytes 2 0x0101) (big_bytes 2 size) (big_bytes 2 1) (flat_map (big_bytes 4) addresses)
    ∙ ap (λ (n : ℕ). old ++ (big_bytes 2 0x0101 ++ (big_bytes 2 n ++ (big_bytes 2 1 ++ flat_map (big_bytes 4) addresses)))) same

pub fec_in_turn : (last fifth fourth third second first old first_bytes : List ℕ) (prefix : AddressBlock) (size : ℕ) → last ≡ fifth ++ first_bytes →
    first_bytes ≡ take (octets prefix.length) (big_bytes 4 prefix.address)
    → fifth ≡ fourth ++ prefix.length ∷ [] → fourth ≡ third ++ big_bytes 2 1 → third ≡ second ++ 2 ∷ [] → second ≡ first ++ big_bytes 2 size →
    first ≡ old ++ big_bytes 2 0x0100 → size ≡ 4 + length first_bytes
    → last ≡ old ++ framed 0x0100 (prefix_element prefix)
unfolding framed prefix_element
fec_in_turn last fifth fourth third second first old first_bytes prefix size e6 all e5 e4 e3 e2 e1 is =
    let same : size ≡ suc (suc (suc (suc (length (take (octets prefix.length) (big_bytes 4 prefix.address)))))) = omega (arith, ap length all) in
    let turn : last ≡ (((((old ++ big_bytes 2 0x0100) ++ big_bytes 2 size) ++ 2 ∷ []) ++ big_bytes 2 1) ++ prefix.length ∷ []) ++ take
    (octets prefix.length) (big_bytes 4 prefix.address) = cc in
    turn ∙ regroup_6 old (big_bytes 2 0x0100) (big_bytes 2 size) (2 ∷ []) (big_bytes 2 1) (prefix.length ∷ [])
    (take (octets prefix.length) (big_bytes 4 prefix.address))
    ∙ ap (λ (n : ℕ). old ++
    (big_bytes 2 0x0100 ++
    (big_bytes 2 n ++ (2 ∷ [] ++ (big_bytes 2 1 ++ (prefix.length ∷ [] ++ take (octets prefix.length) (big_bytes 4 prefix.address))))))) same

pub at_ok : {T E : Type 0} (r : Result T E) (new old x y : List ℕ) → new ≡ (if is_ok r then x else old) → (new ≡ x → new ≡ y) → OnOk r (new ≡ y)
at_ok (Ok t) new old x y e h = h e
at_ok (Err e) new old x y is h = tt

pub all_fit : (xs : List ℕ) → ((i : ℕ) → get_or xs i 0 < 2 ^ 32) → AllByRecursion (λ x. x < 2 ^ 32) xs
all_fit [] h = tt
all_fit (x ∷ xs) h = (h 0, all_fit xs (λ i. h (suc i)))

-- ---- lengths

pub length-framed : (kind : ℕ) (value : List ℕ) → length (framed kind value) ≡ 4 + length value
unfolding framed
length-framed kind value = omega arith

pub length-element : (prefix : AddressBlock) → length (prefix_element prefix) ≤ 8
unfolding prefix_element
length-element prefix = omega (arith, length-take (octets prefix.length) (big_bytes 4 prefix.address))

binding_small : (prefix : AddressBlock) (label : ℕ) → length (binding prefix label) ≤ 20
binding_small prefix label =
    let e = length-element prefix in
    omega (
      arith,
      length-append (framed 0x0100 (prefix_element prefix)) (framed 0x0200 (big_bytes 4 label)),
      length-framed 0x0100
          (prefix_element prefix),
      length-framed 0x0200 (big_bytes 4 label),
    )

pub length-status : (status about kind : ℕ) → length (status_value status about kind) ≡ 10
unfolding status_value
length-status status about kind = refl

pub length-session : (version keepalive flags limit greatest : ℕ) (receiver : LdpId) →
    length (session_parameters version keepalive flags limit greatest receiver) ≡ 14
unfolding session_parameters
length-session version keepalive flags limit greatest receiver = refl

pub length-list : (addresses : List ℕ) → length (address_list addresses) ≡ 2 + 4 * length addresses
unfolding address_list
length-list addresses = omega (arith, length-addresses addresses)

pub tlvs_small : (body : LdpBody) → IsWritable body → length (mandatory_tlvs body) ≤ 4006
tlvs_small (Notification status about kind) h = omega (arith, length-framed 0x0300 (status_value status about kind), length-status status about kind)
tlvs_small (Initialization version keepalive flags limit greatest receiver) h =
    omega (
      arith,
      length-framed 0x0500 (session_parameters version keepalive flags limit greatest receiver),
      length-session version keepalive flags limit
          greatest receiver,
    )
tlvs_small KeepAlive h = omega arith
tlvs_small (Address addresses) h = (let most = h.1 in omega (arith, length-framed 0x0101 (address_list addresses), length-list addresses))
tlvs_small (Mapping prefix label) h = (let b = binding_small prefix label in omega arith)
tlvs_small (Withdraw prefix label) h = (let b = binding_small prefix label in omega arith)
tlvs_small (Release prefix label) h = (let b = binding_small prefix label in omega arith)

pub length-binding : (prefix : AddressBlock) (label : ℕ) → prefix.length ≤ 32 → length (binding prefix label) ≡ 16 + octets prefix.length
unfolding prefix_element
length-binding prefix label short =
    omega (
      arith,
      length-append (framed 0x0100 (prefix_element prefix)) (framed 0x0200 (big_bytes 4 label)),
      length-framed 0x0100 (prefix_element prefix),
      length-framed 0x0200 (big_bytes 4 label),
      length-take-le (octets prefix.length) (big_bytes 4 prefix.address) (omega arith),
    )

-- ---- the whole

pub pdu_in_turn : (last sixth fifth fourth third second first tlvs : List ℕ) (from : LdpId) (message : LdpMessage) (kind inner size : ℕ) →
    last ≡ sixth ++ tlvs → tlvs ≡ mandatory_tlvs message.body
    → sixth ≡ fifth ++ big_bytes 4 message.id → fifth ≡ fourth ++ big_bytes 2 inner → fourth ≡ third ++ big_bytes 2 kind → kind ≡ type_of message.body →
    third ≡ second ++ ldp_id from
    → second ≡ first ++ big_bytes 2 size → first ≡ big_bytes 2 1 → inner ≡ 4 + length tlvs → size ≡ 14 + length tlvs → last ≡ written from message
unfolding written written_message framed
pdu_in_turn last sixth fifth fourth third second first tlvs from message kind inner size e7 all e6 e5 e4 says e3 e2 e1 inner_is size_is =
    let k = type_of message.body in
    let t = mandatory_tlvs message.body in
    let inner_same : inner ≡ suc (suc (suc (suc (length t)))) = omega (arith, ap length all) in
    let size_same : size ≡ 6 + suc (suc (suc (suc (suc (suc (suc (suc (length t)))))))) = omega (arith, ap length all) in
    let turn : last ≡ ((((((big_bytes 2 1 ++ big_bytes 2 size) ++ ldp_id from) ++ big_bytes 2 k) ++ big_bytes 2 inner) ++ big_bytes 4 message.id) ++ t) = cc in
    turn ∙ regroup_6 (big_bytes 2 1) (big_bytes 2 size) (ldp_id from) (big_bytes 2 k) (big_bytes 2 inner) (big_bytes 4 message.id) t
    ∙ ap (λ (n : ℕ). big_bytes 2 1 ++ (big_bytes 2 n ++ (ldp_id from ++ (big_bytes 2 k ++ (big_bytes 2 inner ++ (big_bytes 4 message.id ++ t)))))) size_same
    ∙ ap (λ (n : ℕ). big_bytes 2 1 ++
    (big_bytes 2 (6 + suc (suc (suc (suc (suc (suc (suc (suc (length t))))))))) ++
    (ldp_id from ++ (big_bytes 2 k ++ (big_bytes 2 n ++ (big_bytes 4 message.id ++ t)))))) inner_same
