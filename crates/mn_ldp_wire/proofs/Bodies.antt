-- What a message says: what is read is spelled so, and what is spelled so is read.
use Rattle.std.proofs.Common.{◌≡◌, ◌==◌, ◌<◌, ◌^◌, ◌⊎◌, ℕ, Bool, true, false, cond, List, ◌++◌, length, drop, Option, Some, None, Result, Ok, Err, refl, ap}
use Rattle.std.proofs.Common.{sym, ◌∙◌, subst, arith, inl, inr, append_assoc, if◌then◌else◌}
use Rattle.std.specs.Prelude.{ok_or}
use Rattle.std.proofs.lemmas.Bool.{eq-eqb, eqb-true}
use Rattle.byteorder.specs.Endian.{big_bytes, big_number}
use Rattle.mn_prefix.specs.Prefix.{AddressBlock}
use Rattle.mn_ldp_wire.specs.declared.message.LdpId.{LdpId}
use Rattle.mn_ldp_wire.specs.declared.message.LdpBody.{LdpBody}
use Rattle.mn_ldp_wire.specs.declared.message.LdpBody.TheVariants.{Notification, Initialization, KeepAlive, Address, Mapping, Withdraw, Release}
use Rattle.mn_ldp_wire.specs.declared.refusal.WireBad.{WireBad}
use Rattle.mn_ldp_wire.specs.declared.refusal.WireBad.TheVariants.{UnknownMessage, BadTlv, BadFec}
use Rattle.mn_ldp_wire.specs.Grammar.{IsBytes, framed, FitsFrame, prefix_element, status_value, session_parameters, address_list, binding, type_of}
use Rattle.mn_ldp_wire.specs.Grammar.{mandatory_tlvs, IsStatus, IsAsked, AreAddresses, IsBinding, IsLawful}
use Rattle.mn_ldp_wire.specs.Reading.{◌>>=◌, mandatory_at, prefix_of, read_label, addresses_of, is_address_list, asked, notification_of, initialization_of}
use Rattle.mn_ldp_wire.specs.Reading.{address_message_of, binding_of, bound, body_of}
use Rattle.mn_ldp_wire.proofs.InOrder.{bind_ok}
use Rattle.mn_ldp_wire.proofs.Frames.{IsDue, mandatory_is, mandatory_again}
use Rattle.mn_ldp_wire.proofs.Values.{label_is, label_again, status_is, status_again, Asked, session_is, session_again, list_is, list_again}
use Rattle.mn_ldp_wire.proofs.Prefixes.{element_is, element_again}
use Rattle.mn_ldp_wire.proofs.Written.{length-status, length-session, length-element, length-framed}

-- what the mandatory TLVs at the front say, and the bytes behind them
pub record Says (tlvs : List ℕ) (body : LdpBody) (rest : List ℕ) : Type 0 where
  pub whole : tlvs ≡ mandatory_tlvs body ++ rest
  pub lawful : IsLawful body
  pub rest_bytes : IsBytes rest

-- a test that did not fail
chosen : {A : Type 0} (b : Bool) (bad : WireBad) (x y : A) → cond {A = Result A WireBad} b (Ok x) (Err bad) ≡ Ok y → (b ≡ true) × (x ≡ y)
chosen true bad x y e = (refl, cc)
chosen false bad x y e = absurd cc

some_of : {A : Type 0} (o : Option A) (bad : WireBad) (x : A) → ok_or o bad ≡ Ok x → o ≡ Some x
some_of None bad x e = absurd cc
some_of (Some y) bad x e = cc

abbrev done : {A : Type 0} → A → Result A WireBad
done x = Ok x

ok_is : {A : Type 0} (x y : A) → done x ≡ done y → x ≡ y
ok_is x y e = cc

-- ---- Notification

notification_is : (tlvs rest : List ℕ) (body : LdpBody) → IsBytes tlvs → notification_of tlvs ≡ Ok (body, rest) → Says tlvs body rest × (type_of body ≡ 0x0001)
unfolding notification_of
notification_is tlvs rest body h e =
    let m = bind_ok (mandatory_at 0x0300 tlvs)
    (λ status. if length status.0 == 10 then Ok
    (Notification (big_number 4 status.0) (big_number 4 (drop 4 status.0)) (big_number 2 (drop 8 status.0)), status.1) else Err BadTlv)
    (body, rest) e in
    let value = m.0.0 in
    let t = chosen (length value == 10) BadTlv (Notification (big_number 4 value) (big_number 4 (drop 4 value)) (big_number 2 (drop 8 value)), m.0.1)
    (body, rest) m.2 in
    let due = mandatory_is 0x0300 tlvs value m.0.1 h m.1 in
    let s = status_is value due.value_bytes (eqb-true _ _ t.0) in
    subst (λ (p : LdpBody × List ℕ). Says tlvs p.0 p.1 × (type_of p.0 ≡ 0x0001)) t.1 (
      record {
        whole = due.whole ∙ ap (λ (v : List ℕ). framed 0x0300 v ++ m.0.1) s.0;
        lawful = s.1;
        rest_bytes = due.rest_bytes;
      },
      refl,
    )

fits_of : (kind : ℕ) (value : List ℕ) → kind < 2 ^ 16 → length value < 2 ^ 16 → FitsFrame kind value
fits_of kind value k v = record { kind_fits = k; size_fits = v }

notification_again : (status about kind : ℕ) (rest : List ℕ) → IsStatus status about kind →
    notification_of (framed 0x0300 (status_value status about kind) ++ rest) ≡ Ok (Notification status about kind, rest)
unfolding notification_of
notification_again status about kind rest s =
    let value = status_value status about kind in
    let size = length-status status about kind in
    rw (mandatory_again 0x0300 value rest (fits_of 0x0300 value (omega arith) (omega (arith, size))), eq-eqb (length value) 10 size)
    (ap (λ (b : LdpBody). Ok (b, rest)) (status_again status about kind s))

-- ---- Initialization

asked_says : (tlvs value rest : List ℕ) (body : LdpBody) → IsDue 0x0500 tlvs value rest → Asked value body → Says tlvs body rest
asked_says tlvs value rest (Notification status about kind) due a = absurd a
asked_says tlvs value rest (Initialization version keepalive flags limit greatest receiver) due a = record {
  whole = due.whole ∙ ap (λ (v : List ℕ). framed 0x0500 v ++ rest) a.0;
  lawful = a.1;
  rest_bytes = due.rest_bytes;
}
asked_says tlvs value rest KeepAlive due a = absurd a
asked_says tlvs value rest (Address addresses) due a = absurd a
asked_says tlvs value rest (Mapping prefix label) due a = absurd a
asked_says tlvs value rest (Withdraw prefix label) due a = absurd a
asked_says tlvs value rest (Release prefix label) due a = absurd a

initialization_is : (tlvs rest : List ℕ) (body : LdpBody) → IsBytes tlvs → initialization_of tlvs ≡ Ok (body, rest) →
    Says tlvs body rest × (type_of body ≡ 0x0200)
unfolding initialization_of
initialization_is tlvs rest body h e =
    let m = bind_ok (mandatory_at 0x0500 tlvs) (λ parameters. if length parameters.0 == 14 then Ok (asked parameters.0, parameters.1) else Err BadTlv)
    (body, rest) e in
    let value = m.0.0 in
    let t = chosen (length value == 14) BadTlv (asked value, m.0.1) (body, rest) m.2 in
    let due = mandatory_is 0x0500 tlvs value m.0.1 h m.1 in
    subst (λ (p : LdpBody × List ℕ). Says tlvs p.0 p.1 × (type_of p.0 ≡ 0x0200)) t.1
    (asked_says tlvs value m.0.1 (asked value) due (session_is value due.value_bytes (eqb-true _ _ t.0)), refl)

initialization_again : (version keepalive flags limit greatest : ℕ) (receiver : LdpId) (rest : List ℕ) → IsAsked version keepalive flags limit greatest receiver
    → initialization_of (framed 0x0500 (session_parameters version keepalive flags limit greatest receiver) ++ rest) ≡ Ok
    (Initialization version keepalive flags limit greatest receiver, rest)
unfolding initialization_of
initialization_again version keepalive flags limit greatest receiver rest a =
    let value = session_parameters version keepalive flags limit greatest receiver in
    let size = length-session version keepalive flags limit greatest receiver in
    rw (mandatory_again 0x0500 value rest (fits_of 0x0500 value (omega arith) (omega (arith, size))), eq-eqb (length value) 14 size)
    (ap (λ (b : LdpBody). Ok (b, rest)) (session_again version keepalive flags limit greatest receiver a))

-- ---- Address

address_message_is : (tlvs rest : List ℕ) (body : LdpBody) → IsBytes tlvs → address_message_of tlvs ≡ Ok (body, rest) →
    Says tlvs body rest × (type_of body ≡ 0x0300)
unfolding address_message_of
address_message_is tlvs rest body h e =
    let m = bind_ok (mandatory_at 0x0101 tlvs) (λ list. if is_address_list list.0 then Ok (Address (addresses_of (drop 2 list.0)), list.1) else Err BadTlv)
    (body, rest) e in
    let value = m.0.0 in
    let t = chosen (is_address_list value) BadTlv (Address (addresses_of (drop 2 value)), m.0.1) (body, rest) m.2 in
    let due = mandatory_is 0x0101 tlvs value m.0.1 h m.1 in
    let s = list_is value due.value_bytes t.0 in
    subst (λ (p : LdpBody × List ℕ). Says tlvs p.0 p.1 × (type_of p.0 ≡ 0x0300)) t.1 (
      record {
        whole = due.whole ∙ ap (λ (v : List ℕ). framed 0x0101 v ++ m.0.1) s.0;
        lawful = s.1;
        rest_bytes = due.rest_bytes;
      },
      refl,
    )

address_message_again : (addresses rest : List ℕ) → AreAddresses addresses → length (address_list addresses) < 2 ^ 16 →
    address_message_of (framed 0x0101 (address_list addresses) ++ rest) ≡ Ok (Address addresses, rest)
unfolding address_message_of
address_message_again addresses rest a size =
    let value = address_list addresses in
    let l = list_again addresses a in
    rw (mandatory_again 0x0101 value rest (fits_of 0x0101 value (omega arith) size), l.0)
    (ap (λ (xs : List ℕ). Ok (Address xs, rest)) l.1)

-- ---- the binding of a prefix and a label

record Binds (tlvs : List ℕ) (prefix : AddressBlock) (label : ℕ) (rest : List ℕ) : Type 0 where
  pub whole : tlvs ≡ binding prefix label ++ rest
  pub lawful : IsBinding prefix label
  pub rest_bytes : IsBytes rest

binding_is : (tlvs rest : List ℕ) (prefix : AddressBlock) (label : ℕ) → IsBytes tlvs → binding_of tlvs ≡ Ok (prefix, label, rest) → Binds tlvs prefix label rest
unfolding binding_of
binding_is tlvs rest prefix label h e =
    let m = bind_ok (mandatory_at 0x0100 tlvs)
    (λ fec. ok_or (prefix_of fec.0) BadFec >>= λ prefix. mandatory_at 0x0200 fec.1 >>= λ value. ok_or (read_label value.0) BadTlv >>= λ label. Ok
    (prefix, label, value.1)) (prefix, label, rest) e in
    let p = bind_ok (ok_or (prefix_of m.0.0) BadFec)
    (λ prefix. mandatory_at 0x0200 m.0.1 >>= λ value. ok_or (read_label value.0) BadTlv >>= λ label. Ok (prefix, label, value.1))
    (prefix, label, rest) m.2 in
    let v = bind_ok (mandatory_at 0x0200 m.0.1) (λ value. ok_or (read_label value.0) BadTlv >>= λ label. Ok (p.0, label, value.1)) (prefix, label, rest) p.2 in
    let l = bind_ok (ok_or (read_label v.0.0) BadTlv) (λ label. Ok (p.0, label, v.0.1)) (prefix, label, rest) v.2 in
    let all = ok_is (p.0, l.0, v.0.1) (prefix, label, rest) l.2 in
    let fec = mandatory_is 0x0100 tlvs m.0.0 m.0.1 h m.1 in
    let element = element_is m.0.0 p.0 fec.value_bytes (some_of (prefix_of m.0.0) BadFec p.0 p.1) in
    let value = mandatory_is 0x0200 m.0.1 v.0.0 v.0.1 fec.rest_bytes v.1 in
    let lawful = label_is v.0.0 l.0 value.value_bytes (some_of (read_label v.0.0) BadTlv l.0 l.1) in
    subst (λ (x : AddressBlock × ℕ × List ℕ). Binds tlvs x.0 x.1 x.2) all (record {
      whole =
          fec.whole
          ∙ ap (λ (xs : List ℕ). framed 0x0100 xs ++ m.0.1) element.0
          ∙ ap (λ (xs : List ℕ). framed 0x0100 (prefix_element p.0) ++ xs) (value.whole ∙ ap (λ (xs : List ℕ). framed 0x0200 xs ++ v.0.1) lawful.0)
          ∙ sym (append_assoc (framed 0x0100 (prefix_element p.0)) (framed 0x0200 (big_bytes 4 l.0)) v.0.1);
      lawful = record { is_prefix = element.1; is_label = lawful.1 };
      rest_bytes = value.rest_bytes;
    })

binding_again : (prefix : AddressBlock) (label : ℕ) (rest : List ℕ) → IsBinding prefix label →
    binding_of (binding prefix label ++ rest) ≡ Ok (prefix, label, rest)
unfolding binding_of
binding_again prefix label rest b =
    let element = prefix_element prefix in
    let small = length-element prefix in
    let fec : mandatory_at 0x0100 (framed 0x0100 element ++ (framed 0x0200 (big_bytes 4 label) ++ rest)) ≡ Ok
    (element, framed 0x0200 (big_bytes 4 label) ++ rest) =
    mandatory_again 0x0100 element (framed 0x0200 (big_bytes 4 label) ++ rest) (fits_of 0x0100 element (omega arith) (omega arith)) in
    let value : mandatory_at 0x0200 (framed 0x0200 (big_bytes 4 label) ++ rest) ≡ Ok (big_bytes 4 label, rest) =
    mandatory_again 0x0200 (big_bytes 4 label) rest (fits_of 0x0200 (big_bytes 4 label) (omega arith) (omega arith)) in
    rw (
      append_assoc (framed 0x0100 element) (framed 0x0200 (big_bytes 4 label)) rest,
      fec,
      element_again prefix b.is_prefix,
      value,
      label_again label
          b.is_label,
    ) refl

-- ---- by the type of the message

pub record IsRead (kind : ℕ) (tlvs : List ℕ) (body : LdpBody) (rest : List ℕ) : Type 0 where
  pub kind_is : kind ≡ type_of body
  pub says : Says tlvs body rest

either : {A : Type 0} (b : Bool) (x y z : A) → cond b x y ≡ z → ((b ≡ true) × (x ≡ z)) ⊎ (y ≡ z)
either true x y z e = inl (refl, e)
either false x y z e = inr e

-- the three messages that bind
mapping_is : (tlvs rest : List ℕ) (body : LdpBody) → IsBytes tlvs → bound Mapping tlvs ≡ Ok (body, rest) → Says tlvs body rest × (type_of body ≡ 0x0400)
mapping_is tlvs rest body h e =
    let b = bind_ok (binding_of tlvs) (λ b. Ok (Mapping b.0 b.1, b.2)) (body, rest) e in
    let s = binding_is tlvs b.0.2 b.0.0 b.0.1 h b.1 in
    subst (λ (p : LdpBody × List ℕ). Says tlvs p.0 p.1 × (type_of p.0 ≡ 0x0400)) (ok_is (Mapping b.0.0 b.0.1, b.0.2) (body, rest) b.2) (
      record {
        whole =
            s.whole;
        lawful = s.lawful;
        rest_bytes = s.rest_bytes;
      },
      refl,
    )

withdraw_is : (tlvs rest : List ℕ) (body : LdpBody) → IsBytes tlvs → bound Withdraw tlvs ≡ Ok (body, rest) → Says tlvs body rest × (type_of body ≡ 0x0402)
withdraw_is tlvs rest body h e =
    let b = bind_ok (binding_of tlvs) (λ b. Ok (Withdraw b.0 b.1, b.2)) (body, rest) e in
    let s = binding_is tlvs b.0.2 b.0.0 b.0.1 h b.1 in
    subst (λ (p : LdpBody × List ℕ). Says tlvs p.0 p.1 × (type_of p.0 ≡ 0x0402)) (ok_is (Withdraw b.0.0 b.0.1, b.0.2) (body, rest) b.2) (
      record {
        whole =
            s.whole;
        lawful = s.lawful;
        rest_bytes = s.rest_bytes;
      },
      refl,
    )

release_is : (tlvs rest : List ℕ) (body : LdpBody) → IsBytes tlvs → bound Release tlvs ≡ Ok (body, rest) → Says tlvs body rest × (type_of body ≡ 0x0403)
release_is tlvs rest body h e =
    let b = bind_ok (binding_of tlvs) (λ b. Ok (Release b.0 b.1, b.2)) (body, rest) e in
    let s = binding_is tlvs b.0.2 b.0.0 b.0.1 h b.1 in
    subst (λ (p : LdpBody × List ℕ). Says tlvs p.0 p.1 × (type_of p.0 ≡ 0x0403)) (ok_is (Release b.0.0 b.0.1, b.0.2) (body, rest) b.2) (
      record {
        whole =
            s.whole;
        lawful = s.lawful;
        rest_bytes = s.rest_bytes;
      },
      refl,
    )

typed : (kind type : ℕ) (tlvs rest : List ℕ) (body : LdpBody) → (kind == type) ≡ true → Says tlvs body rest × (type_of body ≡ type) → IsRead kind tlvs body rest
typed kind type tlvs rest body same s = record { kind_is = eqb-true _ _ same ∙ sym s.1; says = s.0 }

pub body_is : (kind : ℕ) (tlvs rest : List ℕ) (body : LdpBody) → IsBytes tlvs → body_of kind tlvs ≡ Ok (body, rest) → IsRead kind tlvs body rest
unfolding body_of
body_is kind tlvs rest body h e =
    elim (either (kind == 0x0001) (notification_of tlvs) _ (Ok (body, rest)) e) [
      | inl p ↦ typed kind 0x0001 tlvs rest body p.0 (notification_is tlvs rest body h p.1)
      | inr e ↦ elim (either (kind == 0x0200) (initialization_of tlvs) _ (Ok (body, rest)) e) [
        | inl p ↦ typed kind 0x0200 tlvs rest body p.0 (initialization_is tlvs rest body h p.1)
        | inr e ↦ elim (either (kind == 0x0201) (Ok (KeepAlive, tlvs)) _ (Ok (body, rest)) e) [
          | inl p ↦ subst (λ (q : LdpBody × List ℕ). IsRead kind tlvs q.0 q.1) (ok_is (KeepAlive, tlvs) (body, rest) p.1) (record {
            kind_is =
                eqb-true _ _ p.0;
            says = record { whole = refl; lawful = tt; rest_bytes = h };
          })
          | inr e ↦ elim (either (kind == 0x0300) (address_message_of tlvs) _ (Ok (body, rest)) e) [
            | inl p ↦ typed kind 0x0300 tlvs rest body p.0 (address_message_is tlvs rest body h p.1)
            | inr e ↦ elim (either (kind == 0x0400) (bound Mapping tlvs) _ (Ok (body, rest)) e) [
              | inl p ↦ typed kind 0x0400 tlvs rest body p.0 (mapping_is tlvs rest body h p.1)
              | inr e ↦ elim (either (kind == 0x0402) (bound Withdraw tlvs) _ (Ok (body, rest)) e) [
                | inl p ↦ typed kind 0x0402 tlvs rest body p.0 (withdraw_is tlvs rest body h p.1)
                | inr e ↦ elim (either (kind == 0x0403) (bound Release tlvs) (Err UnknownMessage) (Ok (body, rest)) e) [
                  | inl p ↦ typed kind 0x0403 tlvs rest body p.0 (release_is tlvs rest body h p.1)
                  | inr e ↦ absurd cc
                ]
              ]
            ]
          ]
        ]
      ]
    ]

pub body_again : (body : LdpBody) (rest : List ℕ) → IsLawful body → length (mandatory_tlvs body) < 2 ^ 16 →
    body_of (type_of body) (mandatory_tlvs body ++ rest) ≡ Ok (body, rest)
unfolding body_of
body_again (Notification status about kind) rest lawful size = notification_again status about kind rest lawful
body_again (Initialization version keepalive flags limit greatest receiver) rest lawful size =
    initialization_again version keepalive flags limit greatest receiver rest lawful
body_again KeepAlive rest lawful size = refl
body_again (Address addresses) rest lawful size =
    address_message_again addresses rest lawful (omega (arith, size, length-framed 0x0101 (address_list addresses)))
body_again (Mapping prefix label) rest lawful size = rw (binding_again prefix label rest lawful) refl
body_again (Withdraw prefix label) rest lawful size = rw (binding_again prefix label rest lawful) refl
body_again (Release prefix label) rest lawful size = rw (binding_again prefix label rest lawful) refl
