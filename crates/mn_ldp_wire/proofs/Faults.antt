-- Why a message is refused: what is refused stands so, and what stands so is refused.
use Rattle.std.proofs.Common.{◌≡◌, ◌≢◌, ◌==◌, ◌≤◌, ◌<◌, ◌%◌, ◌^◌, ◌⊎◌, ℕ, Bool, true, false, cond, not, List, [], ◌++◌, length, drop, Option, Some, None}
use Rattle.std.proofs.Common.{Result, Ok, Err, refl, ap, sym, ◌∙◌, subst, arith, inl, inr, length-append, length-drop, if◌then◌else◌}
use Rattle.std.specs.Prelude.{ok_or, nat_le, nat_lt, ◌&&◌}
use Rattle.std.proofs.lemmas.Bool.{eq-eqb, eqb-true, eqb-false, ne_eqb, le-ltb, ltb-true, ltb-false, lt-leb, leb-false, and_right, and_cases, or_parts}
use Rattle.std.proofs.lemmas.Bool.{not-false, false_from_ne_true}
use Rattle.std.proofs.lemmas.List.{nil_from_length}
use Rattle.byteorder.specs.Endian.{big_number}
use Rattle.mn_prefix.specs.Prefix.{AddressBlock}
use Rattle.mn_ldp_wire.specs.declared.message.LdpMessage.{LdpMessage}
use Rattle.mn_ldp_wire.specs.declared.message.LdpBody.{LdpBody}
use Rattle.mn_ldp_wire.specs.declared.message.LdpBody.TheVariants.{Notification, Initialization, KeepAlive, Address, Mapping, Withdraw, Release}
use Rattle.mn_ldp_wire.specs.declared.refusal.WireBad.{WireBad}
use Rattle.mn_ldp_wire.specs.declared.refusal.WireBad.TheVariants.{BadMessageLength, UnknownMessage, MissingTlv, BadTlv, BadFec}
use Rattle.mn_ldp_wire.specs.Grammar.{IsBytes, framed, FitsFrame, u_bit, is_known_message, type_of, mandatory_tlvs, prefix_element, ArePassedOver}
use Rattle.mn_ldp_wire.specs.Reading.{◌>>=◌, Front, front_of, due, mandatory_at, are_passed_over, prefix_of, read_label, addresses_of, is_address_list, asked}
use Rattle.mn_ldp_wire.specs.Reading.{notification_of, initialization_of, address_message_of, binding_of, bound, body_of, said_of, message_in, message_at}
use Rattle.mn_ldp_wire.specs.Refused.{IsStatusValue, AreParameters, IsAddressList, IsOnePrefix, IsLabelValue, IsMissing, IsNotDue, HasWrongValue}
use Rattle.mn_ldp_wire.specs.Refused.{IsDueRefused, IsLabelRefused, IsMandatoryRefused, IsFurtherRefused, HasMessage, IsUnknownRefused, AreTlvsRefused}
use Rattle.mn_ldp_wire.specs.Refused.{IsRefusedThere}
use Rattle.mn_base.proofs.Bytes.{IsBytes-drop}
use Rattle.mn_ldp_wire.proofs.Frames.{IsFramed, framed_is, framed_again, IsDue, mandatory_is, mandatory_again, over_is, over_again}
use Rattle.mn_ldp_wire.proofs.Values.{label_is, label_again, status_is, Asked, session_is, list_is, list_again}
use Rattle.mn_ldp_wire.proofs.Prefixes.{element_is, element_again}
use Rattle.mn_ldp_wire.proofs.Written.{length-status, length-session, length-element}
use Rattle.mn_ldp_wire.proofs.Bodies.{IsRead, body_is, body_again}
use Rattle.mn_ldp_wire.proofs.Messages.{type_known}

-- a step that failed, or the one behind it did
bind_bad : {A B : Type 0} (r : Result A WireBad) (f : A → Result B WireBad) (bad : WireBad) → (r >>= f) ≡ Err bad →
    (r ≡ Err bad) ⊎ ((x : A) × (r ≡ Ok x) × (f x ≡ Err bad))
bind_bad (Ok x) f bad e = inr (x, refl, e)
bind_bad (Err other) f bad e = inl cc

-- ---- the TLV that is due

none_there : (bytes : List ℕ) → front_of bytes ≡ None → (kind : ℕ) (value rest : List ℕ) → FitsFrame kind value → bytes ≢ framed kind value ++ rest
none_there bytes none kind value rest fits e = let some = ap front_of e ∙ framed_again kind value rest fits in cc

other_there : (bytes : List ℕ) (front : Front) (kind : ℕ) → front_of bytes ≡ Some front → (front.kind ≡ kind → ⊥) →
    (value rest : List ℕ) → FitsFrame kind value → bytes ≢ framed kind value ++ rest
other_there bytes front kind is other value rest fits e =
    let some = ap front_of e ∙ framed_again kind value rest fits in
    let same : front ≡ record { kind = kind; value = value; rest = rest } = cc in
    other (ap (λ (x : Front). x.kind) same)

abbrev due_by : Bool → ℕ → List ℕ → Result (List ℕ × List ℕ) WireBad
due_by ended kind bytes = cond {A = Result (List ℕ × List ℕ) WireBad} ended (Err MissingTlv) (due kind (front_of bytes))

not_due_by_test : (kind : ℕ) (bytes : List ℕ) (bad : WireBad) (front : Front) (same : Bool) →
    (front.kind == kind) ≡ same → bytes ≢ [] → front_of bytes ≡ Some front
    → cond {A = Result (List ℕ × List ℕ) WireBad} same (Ok (front.value, front.rest)) (Err BadTlv) ≡ Err bad → IsNotDue kind bytes bad
not_due_by_test kind bytes bad front true test some is e = absurd cc
not_due_by_test kind bytes bad front false test some is e = (some, other_there bytes front kind is (eqb-false _ _ test), cc)

not_due_by_front : (kind : ℕ) (bytes : List ℕ) (bad : WireBad) (o : Option Front) → bytes ≢ [] → front_of bytes ≡ o → due kind o ≡ Err bad →
    IsNotDue kind bytes bad
not_due_by_front kind bytes bad None some is e = (some, none_there bytes is kind, cc)
not_due_by_front kind bytes bad (Some front) some is e = not_due_by_test kind bytes bad front (front.kind == kind) refl some is e

not_nil : (bytes : List ℕ) → (length bytes == 0) ≡ false → bytes ≢ []
not_nil bytes h e = eqb-false _ _ h (ap length e)

due_by_end : (kind : ℕ) (bytes : List ℕ) (bad : WireBad) (ended : Bool) →
    (length bytes == 0) ≡ ended → due_by ended kind bytes ≡ Err bad → IsMissing bytes bad ⊎ IsNotDue kind bytes bad
due_by_end kind bytes bad true test e = inl (nil_from_length bytes (eqb-true _ _ test), cc)
due_by_end kind bytes bad false test e = inr (not_due_by_front kind bytes bad (front_of bytes) (not_nil bytes test) refl e)

mandatory_bad : (kind : ℕ) (bytes : List ℕ) (bad : WireBad) → mandatory_at kind bytes ≡ Err bad → IsMissing bytes bad ⊎ IsNotDue kind bytes bad
unfolding mandatory_at
mandatory_bad kind bytes bad e = due_by_end kind bytes bad (length bytes == 0) refl e

missing_again : (kind : ℕ) (bytes : List ℕ) (bad : WireBad) → IsMissing bytes bad → mandatory_at kind bytes ≡ Err bad
unfolding mandatory_at
missing_again kind bytes bad m = ap (mandatory_at kind) m.0 ∙ ap (λ (b : WireBad). Err b) (sym m.1)

due_again_by_test : (kind : ℕ) (bytes : List ℕ) (front : Front) (same : Bool) → (front.kind == kind) ≡ same → IsFramed bytes front →
    ((value rest : List ℕ) → FitsFrame kind value → bytes ≢ framed kind value ++ rest)
    → cond {A = Result (List ℕ × List ℕ) WireBad} same (Ok (front.value, front.rest)) (Err BadTlv) ≡ Err BadTlv
due_again_by_test kind bytes front false test f other = refl
due_again_by_test kind bytes front true test f other =
    let is : front.kind ≡ kind = eqb-true _ _ test in
    absurd (other front.value front.rest (subst (λ (k : ℕ). FitsFrame k front.value) is f.fits)
    (f.whole ∙ ap (λ (k : ℕ). framed k front.value ++ front.rest) is))

due_again : (kind : ℕ) (bytes : List ℕ) (o : Option Front) → IsBytes bytes → front_of bytes ≡ o →
    ((value rest : List ℕ) → FitsFrame kind value → bytes ≢ framed kind value ++ rest) → due kind o ≡ Err BadTlv
due_again kind bytes None h is other = refl
due_again kind bytes (Some front) h is other = due_again_by_test kind bytes front (front.kind == kind) refl (framed_is bytes front h is) other

not_due_again : (kind : ℕ) (bytes : List ℕ) (bad : WireBad) → IsBytes bytes → IsNotDue kind bytes bad → mandatory_at kind bytes ≡ Err bad
unfolding mandatory_at
not_due_again kind bytes bad h d =
    let some : (length bytes == 0) ≡ false = ne_eqb _ _ (λ e. d.0 (nil_from_length bytes e)) in
    rw some (due_again kind bytes (front_of bytes) h refl d.1 ∙ ap (λ (b : WireBad). Err b) (sym d.2))

value_bytes : (kind : ℕ) (bytes value rest : List ℕ) → IsBytes bytes → FitsFrame kind value → bytes ≡ framed kind value ++ rest → IsBytes value × IsBytes rest
value_bytes kind bytes value rest h fits e =
    let f = framed_is bytes (record { kind = kind; value = value; rest = rest }) h (ap front_of e ∙ framed_again kind value rest fits) in
    (f.value_bytes, f.rest_bytes)

-- ---- messages with one mandatory TLV

abbrev one : ℕ → (List ℕ → Bool) → (List ℕ → LdpBody) → List ℕ → Result (LdpBody × List ℕ) WireBad
one kind test body tlvs = mandatory_at kind tlvs >>= λ v. cond {A = Result (LdpBody × List ℕ) WireBad} (test v.0) (Ok (body v.0, v.1)) (Err BadTlv)

-- a test that tells which values are right
record Tells (test : List ℕ → Bool) (IsRight : List ℕ → Type 0) : Type 0 where
  pub passes : (value : List ℕ) → IsBytes value → test value ≡ true → IsRight value
  pub right : (value : List ℕ) → IsRight value → test value ≡ true

wrong_by_test : (kind : ℕ) (test : List ℕ → Bool) (IsRight : List ℕ → Type 0) (x : LdpBody) (tlvs value rest : List ℕ) (bad : WireBad) (b : Bool) →
    Tells test IsRight → test value ≡ b → IsDue kind tlvs value rest
    → cond {A = Result (LdpBody × List ℕ) WireBad} b (Ok (x, rest)) (Err BadTlv) ≡ Err bad → HasWrongValue kind IsRight BadTlv tlvs bad
wrong_by_test kind test IsRight x tlvs value rest bad true t is d e = absurd cc
wrong_by_test kind test IsRight x tlvs value rest bad false t is d e = record {
  value = value;
  rest = rest;
  fits = d.fits;
  whole = d.whole;
  not_right = λ r. (let passed = t.right value r in cc);
  bad_is = cc;
}

one_bad : (kind : ℕ) (test : List ℕ → Bool) (body : List ℕ → LdpBody) (IsRight : List ℕ → Type 0) (tlvs : List ℕ) (bad : WireBad) → Tells test IsRight →
    IsBytes tlvs → one kind test body tlvs ≡ Err bad → IsDueRefused kind IsRight BadTlv tlvs bad
one_bad kind test body IsRight tlvs bad t h e =
    elim (bind_bad (mandatory_at kind tlvs) (λ v. cond {A = Result (LdpBody × List ℕ) WireBad} (test v.0) (Ok (body v.0, v.1)) (Err BadTlv)) bad e) [
      | inl m ↦ elim (mandatory_bad kind tlvs bad m) [ inl missing ↦ inl missing | inr not_due ↦ inr (inl not_due) ]
      | inr v ↦ inr (inr (wrong_by_test kind test IsRight (body v.0.0) tlvs v.0.0 v.0.1 bad (test v.0.0) t refl (mandatory_is kind tlvs v.0.0 v.0.1 h v.1) v.2))
    ]

one_again : (kind : ℕ) (test : List ℕ → Bool) (body : List ℕ → LdpBody) (IsRight : List ℕ → Type 0) (tlvs : List ℕ) (bad : WireBad) → Tells test IsRight →
    IsBytes tlvs → IsDueRefused kind IsRight BadTlv tlvs bad → one kind test body tlvs ≡ Err bad
one_again kind test body IsRight tlvs bad t h (inl missing) = rw (missing_again kind tlvs bad missing) refl
one_again kind test body IsRight tlvs bad t h (inr (inl not_due)) = rw (not_due_again kind tlvs bad h not_due) refl
one_again kind test body IsRight tlvs bad t h (inr (inr w)) =
    let fails : test w.value ≡ false =
    false_from_ne_true (test w.value) (λ passed. w.not_right (t.passes w.value (value_bytes kind tlvs w.value w.rest h w.fits w.whole).0 passed)) in
    let there : mandatory_at kind tlvs ≡ Ok (w.value, w.rest) = ap (mandatory_at kind) w.whole ∙ mandatory_again kind w.value w.rest w.fits in
    rw (there, fails) (ap (λ (b : WireBad). Err b) (sym w.bad_is))

status_tells : Tells (λ value. length value == 10) IsStatusValue
status_tells = record {
  passes = λ value h e. (let s = status_is value h (eqb-true _ _ e) in
      (big_number 4 value, big_number 4 (drop 4 value), big_number 2 (drop 8 value), s.1, s.0));
  right = λ value (status, about, kind, lawful, is). eq-eqb _ _ (ap length is ∙ length-status status about kind);
}

asked_right : (value : List ℕ) (body : LdpBody) → Asked value body → AreParameters value
asked_right value (Notification status about kind) a = absurd a
asked_right value (Initialization version keepalive flags limit greatest receiver) a = (version, keepalive, flags, limit, greatest, receiver, a.1, a.0)
asked_right value KeepAlive a = absurd a
asked_right value (Address addresses) a = absurd a
asked_right value (Mapping prefix label) a = absurd a
asked_right value (Withdraw prefix label) a = absurd a
asked_right value (Release prefix label) a = absurd a

parameters_tell : Tells (λ value. length value == 14) AreParameters
parameters_tell = record {
  passes = λ value h e. asked_right value (asked value) (session_is value h (eqb-true _ _ e));
  right = λ value (version, keepalive, flags, limit, greatest, receiver, lawful, is). eq-eqb _ _
      (ap length is ∙ length-session version keepalive flags limit greatest receiver);
}

list_tells : Tells is_address_list IsAddressList
list_tells = record {
  passes = λ value h e. (let l = list_is value h e in (addresses_of (drop 2 value), l.1, l.0));
  right = λ value (addresses, lawful, is). ap is_address_list is ∙ (list_again addresses lawful).0;
}

-- ---- messages that bind

abbrev failed : WireBad → Result (AddressBlock × ℕ × List ℕ) WireBad
failed bad = Err bad

abbrev labelled : AddressBlock → List ℕ → Result (AddressBlock × ℕ × List ℕ) WireBad
labelled prefix rest = mandatory_at 0x0200 rest >>= λ value. ok_or (read_label value.0) BadTlv >>= λ label. Ok (prefix, label, value.1)

wrong_label : (o : Option ℕ) (tlvs value rest : List ℕ) (prefix : AddressBlock) (bad : WireBad) → read_label value ≡ o → IsDue 0x0200 tlvs value rest →
    (ok_or o BadTlv >>= λ label. Ok (prefix, label, rest)) ≡ failed bad → HasWrongValue 0x0200 IsLabelValue BadTlv tlvs bad
wrong_label (Some label) tlvs value rest prefix bad is d e = absurd cc
wrong_label None tlvs value rest prefix bad is d e = record {
  value = value;
  rest = rest;
  fits = d.fits;
  whole = d.whole;
  not_right = λ r. (let some = ap read_label r.2 ∙ label_again r.0 r.1 in cc);
  bad_is = cc;
}

label_bad : (tlvs : List ℕ) (prefix : AddressBlock) (bad : WireBad) → IsBytes tlvs → labelled prefix tlvs ≡ failed bad →
    IsDueRefused 0x0200 IsLabelValue BadTlv tlvs bad
label_bad tlvs prefix bad h e =
    elim (bind_bad (mandatory_at 0x0200 tlvs) (λ value. ok_or (read_label value.0) BadTlv >>= λ label. Ok (prefix, label, value.1)) bad e) [
      | inl m ↦ elim (mandatory_bad 0x0200 tlvs bad m) [ inl missing ↦ inl missing | inr not_due ↦ inr (inl not_due) ]
      | inr v ↦ inr (inr (wrong_label (read_label v.0.0) tlvs v.0.0 v.0.1 prefix bad refl (mandatory_is 0x0200 tlvs v.0.0 v.0.1 h v.1) v.2))
    ]

none_label : (value : List ℕ) (o : Option ℕ) → IsBytes value → read_label value ≡ o → (IsLabelValue value → ⊥) → read_label value ≡ None
none_label value None h is other = is
none_label value (Some label) h is other = (let l = label_is value label h is in absurd (other (label, l.1, l.0)))

label_refused : (tlvs : List ℕ) (prefix : AddressBlock) (bad : WireBad) → IsBytes tlvs → IsDueRefused 0x0200 IsLabelValue BadTlv tlvs bad →
    labelled prefix tlvs ≡ failed bad
label_refused tlvs prefix bad h (inl missing) = rw (missing_again 0x0200 tlvs bad missing) refl
label_refused tlvs prefix bad h (inr (inl not_due)) = rw (not_due_again 0x0200 tlvs bad h not_due) refl
label_refused tlvs prefix bad h (inr (inr w)) =
    let none : read_label w.value ≡ None =
    none_label w.value (read_label w.value) (value_bytes 0x0200 tlvs w.value w.rest h w.fits w.whole).0 refl w.not_right in
    let there : mandatory_at 0x0200 tlvs ≡ Ok (w.value, w.rest) = ap (mandatory_at 0x0200) w.whole ∙ mandatory_again 0x0200 w.value w.rest w.fits in
    rw (there, none) (ap failed (sym w.bad_is))

abbrev IsBindingRefused : List ℕ → WireBad → Type 0
IsBindingRefused tlvs bad = IsDueRefused 0x0100 IsOnePrefix BadFec tlvs bad ⊎ IsLabelRefused tlvs bad

by_prefix : (o : Option AddressBlock) (tlvs value rest : List ℕ) (bad : WireBad) → prefix_of value ≡ o → IsDue 0x0100 tlvs value rest →
    (ok_or o BadFec >>= λ prefix. labelled prefix rest) ≡ failed bad → IsBindingRefused tlvs bad
by_prefix None tlvs value rest bad is d e = inl (inr (inr (record {
  value = value;
  rest = rest;
  fits = d.fits;
  whole = d.whole;
  not_right = λ r. (let some = ap prefix_of r.2 ∙ element_again r.0 r.1 in cc);
  bad_is = cc;
})))
by_prefix (Some prefix) tlvs value rest bad is d e =
    let element = element_is value prefix d.value_bytes is in
    inr (record {
      prefix = prefix;
      rest = rest;
      is_prefix = element.1;
      whole = d.whole ∙ ap (λ (xs : List ℕ). framed 0x0100 xs ++ rest) element.0;
      refused = label_bad rest prefix bad d.rest_bytes e;
    })

binding_bad : (tlvs : List ℕ) (bad : WireBad) → IsBytes tlvs → binding_of tlvs ≡ failed bad → IsBindingRefused tlvs bad
unfolding binding_of
binding_bad tlvs bad h e = elim (bind_bad (mandatory_at 0x0100 tlvs) (λ fec. ok_or (prefix_of fec.0) BadFec >>= λ prefix. labelled prefix fec.1) bad e) [
  | inl m ↦ elim (mandatory_bad 0x0100 tlvs bad m) [ inl missing ↦ inl (inl missing) | inr not_due ↦ inl (inr (inl not_due)) ]
  | inr v ↦ by_prefix (prefix_of v.0.0) tlvs v.0.0 v.0.1 bad refl (mandatory_is 0x0100 tlvs v.0.0 v.0.1 h v.1) v.2
]

none_prefix : (value : List ℕ) (o : Option AddressBlock) → IsBytes value → prefix_of value ≡ o → (IsOnePrefix value → ⊥) → prefix_of value ≡ None
none_prefix value None h is other = is
none_prefix value (Some prefix) h is other = (let p = element_is value prefix h is in absurd (other (prefix, p.1, p.0)))

binding_refused : (tlvs : List ℕ) (bad : WireBad) → IsBytes tlvs → IsBindingRefused tlvs bad → binding_of tlvs ≡ failed bad
unfolding binding_of
binding_refused tlvs bad h (inl (inl missing)) = rw (missing_again 0x0100 tlvs bad missing) refl
binding_refused tlvs bad h (inl (inr (inl not_due))) = rw (not_due_again 0x0100 tlvs bad h not_due) refl
binding_refused tlvs bad h (inl (inr (inr w))) =
    let none : prefix_of w.value ≡ None =
    none_prefix w.value (prefix_of w.value) (value_bytes 0x0100 tlvs w.value w.rest h w.fits w.whole).0 refl w.not_right in
    let there : mandatory_at 0x0100 tlvs ≡ Ok (w.value, w.rest) = ap (mandatory_at 0x0100) w.whole ∙ mandatory_again 0x0100 w.value w.rest w.fits in
    rw (there, none) (ap failed (sym w.bad_is))
binding_refused tlvs bad h (inr l) =
    let small = length-element l.prefix in
    let fits : FitsFrame 0x0100 (prefix_element l.prefix) = record { kind_fits = omega arith; size_fits = omega arith } in
    let there : mandatory_at 0x0100 tlvs ≡ Ok (prefix_element l.prefix, l.rest) =
    ap (mandatory_at 0x0100) l.whole ∙ mandatory_again 0x0100 (prefix_element l.prefix) l.rest fits in
    rw (there, element_again l.prefix l.is_prefix)
    (label_refused l.rest l.prefix bad (value_bytes 0x0100 tlvs (prefix_element l.prefix) l.rest h fits l.whole).1 l.refused)

bound_bad : (body : AddressBlock → ℕ → LdpBody) (tlvs : List ℕ) (bad : WireBad) → IsBytes tlvs → bound body tlvs ≡ Err bad → IsBindingRefused tlvs bad
bound_bad body tlvs bad h e = elim (bind_bad (binding_of tlvs) (λ b. Ok (body b.0 b.1, b.2)) bad e) [
  | inl b ↦ binding_bad tlvs bad h b
  | inr b ↦ absurd (let never = b.2 in cc)
]

bound_refused : (body : AddressBlock → ℕ → LdpBody) (tlvs : List ℕ) (bad : WireBad) → IsBytes tlvs → IsBindingRefused tlvs bad → bound body tlvs ≡ Err bad
bound_refused body tlvs bad h r = rw (binding_refused tlvs bad h r) refl

-- ---- by the type of the message

either : {A : Type 0} (b : Bool) (x y z : A) → cond b x y ≡ z → ((b ≡ true) × (x ≡ z)) ⊎ ((b ≡ false) × (y ≡ z))
either true x y z e = inl (refl, e)
either false x y z e = inr (refl, e)

abbrev refused : WireBad → Result (LdpBody × List ℕ) WireBad
refused bad = Err bad

unknown_kind : (kind : ℕ) → (kind == 0x0001) ≡ false → (kind == 0x0200) ≡ false → (kind == 0x0201) ≡ false → (kind == 0x0300) ≡ false →
    (kind == 0x0400) ≡ false → (kind == 0x0402) ≡ false → (kind == 0x0403) ≡ false → is_known_message kind ≡ false
unknown_kind kind a b c d e f g = rw (a, b, c, d, e, f, g) refl

body_bad : (kind : ℕ) (tlvs : List ℕ) (bad : WireBad) → is_known_message kind ≡ true → IsBytes tlvs → body_of kind tlvs ≡ Err bad →
    IsMandatoryRefused kind tlvs bad
unfolding body_of notification_of initialization_of address_message_of
body_bad kind tlvs bad known h e =
    elim (either (kind == 0x0001) (notification_of tlvs) _ (refused bad) e) [
      | inl p ↦ inl (
        eqb-true _ _ p.0,
        one_bad 0x0300 (λ value. length value == 10)
            (λ value. Notification (big_number 4 value) (big_number 4 (drop 4 value)) (big_number 2 (drop 8 value))) IsStatusValue tlvs bad status_tells h
            p.1,
      )
      | inr q1 ↦ elim (either (kind == 0x0200) (initialization_of tlvs) _ (refused bad) q1.1) [
        | inl p ↦ inr (inl (eqb-true _ _ p.0, one_bad 0x0500 (λ value. length value == 14) asked AreParameters tlvs bad parameters_tell h p.1))
        | inr q2 ↦ elim (either (kind == 0x0201) (Ok (KeepAlive, tlvs)) _ (refused bad) q2.1) [
          | inl p ↦ absurd (let never = p.1 in cc)
          | inr q3 ↦ elim (either (kind == 0x0300) (address_message_of tlvs) _ (refused bad) q3.1) [
            | inl p ↦ inr
                (inr (inl (
                  eqb-true _ _ p.0,
                  one_bad 0x0101 is_address_list
                      (λ value. Address (addresses_of (drop 2 value))) IsAddressList tlvs bad list_tells h p.1,
                )))
            | inr q4 ↦ elim (either (kind == 0x0400) (bound Mapping tlvs) _ (refused bad) q4.1) [
              | inl p ↦ inr (inr (inr (inl (eqb-true _ _ p.0), bound_bad Mapping tlvs bad h p.1)))
              | inr q5 ↦ elim (either (kind == 0x0402) (bound Withdraw tlvs) _ (refused bad) q5.1) [
                | inl p ↦ inr (inr (inr (inr (inl (eqb-true _ _ p.0)), bound_bad Withdraw tlvs bad h p.1)))
                | inr q6 ↦ elim (either (kind == 0x0403) (bound Release tlvs) (refused UnknownMessage) (refused bad) q6.1) [
                  | inl p ↦ inr (inr (inr (inr (inr (eqb-true _ _ p.0)), bound_bad Release tlvs bad h p.1)))
                  | inr q7 ↦ absurd (let never = unknown_kind kind q1.0 q2.0 q3.0 q4.0 q5.0 q6.0 q7.0 in cc)
                ]
              ]
            ]
          ]
        ]
      ]
    ]

body_unknown : (kind : ℕ) (tlvs : List ℕ) → is_known_message kind ≡ false → body_of kind tlvs ≡ Err UnknownMessage
unfolding body_of
body_unknown kind tlvs h =
    let a = or_parts (kind == 0x0001) _ h in
    let b = or_parts (kind == 0x0200) _ a.1 in
    let c = or_parts (kind == 0x0201) _ b.1 in
    let d = or_parts (kind == 0x0300) _ c.1 in
    let e = or_parts (kind == 0x0400) _ d.1 in
    let f = or_parts (kind == 0x0402) _ e.1 in
    let g = or_parts (kind == 0x0403) _ f.1 in
    rw (a.0, b.0, c.0, d.0, e.0, f.0, g.0) refl

body_refused : (kind : ℕ) (tlvs : List ℕ) (bad : WireBad) → IsBytes tlvs → IsMandatoryRefused kind tlvs bad → body_of kind tlvs ≡ Err bad
unfolding body_of notification_of initialization_of address_message_of
body_refused kind tlvs bad h (inl r) = ap (λ (k : ℕ). body_of k tlvs) r.0
    ∙ one_again 0x0300 (λ value. length value == 10)
    (λ value. Notification (big_number 4 value) (big_number 4 (drop 4 value)) (big_number 2 (drop 8 value))) IsStatusValue tlvs bad status_tells h r.1
body_refused kind tlvs bad h (inr (inl r)) =
    ap (λ (k : ℕ). body_of k tlvs) r.0 ∙ one_again 0x0500 (λ value. length value == 14) asked AreParameters tlvs bad parameters_tell h r.1
body_refused kind tlvs bad h (inr (inr (inl r))) =
    ap (λ (k : ℕ). body_of k tlvs) r.0
    ∙ one_again 0x0101 is_address_list (λ value. Address (addresses_of (drop 2 value))) IsAddressList tlvs bad list_tells h r.1
body_refused kind tlvs bad h (inr (inr (inr r))) = elim r.0 [
  | inl is ↦ ap (λ (k : ℕ). body_of k tlvs) is ∙ bound_refused Mapping tlvs bad h r.1
  | inr more ↦ elim more [
    | inl is ↦ ap (λ (k : ℕ). body_of k tlvs) is ∙ bound_refused Withdraw tlvs bad h r.1
    | inr is ↦ ap (λ (k : ℕ). body_of k tlvs) is ∙ bound_refused Release tlvs bad h r.1
  ]
]

mandatory_known : (kind : ℕ) (tlvs : List ℕ) (bad : WireBad) → IsMandatoryRefused kind tlvs bad → is_known_message kind ≡ true
mandatory_known kind tlvs bad (inl r) = ap is_known_message r.0
mandatory_known kind tlvs bad (inr (inl r)) = ap is_known_message r.0
mandatory_known kind tlvs bad (inr (inr (inl r))) = ap is_known_message r.0
mandatory_known kind tlvs bad (inr (inr (inr r))) =
    elim r.0 [ inl is ↦ ap is_known_message is | inr more ↦ elim more [ inl is ↦ ap is_known_message is | inr is ↦ ap is_known_message is ] ]

-- ---- the message at the front

not_passed : (rest : List ℕ) → are_passed_over rest ≡ false → (passed : List (ℕ × List ℕ)) → ArePassedOver rest passed → ⊥
not_passed rest h passed a = let over = over_again rest passed a in cc

further_by_test : (kind : ℕ) (tlvs rest : List ℕ) (id : ℕ) (body : LdpBody) (bad : WireBad) (over : Bool) → are_passed_over rest ≡ over →
    IsRead kind tlvs body rest
    → cond {A = Result (Option LdpMessage) WireBad} over (Ok (Some (record { id = id; body = body }))) (Err BadTlv) ≡ Err bad → IsFurtherRefused kind tlvs bad
further_by_test kind tlvs rest id body bad true test r e = absurd cc
further_by_test kind tlvs rest id body bad false test r e = record {
  body = body;
  rest = rest;
  kind_is = r.kind_is;
  lawful = r.says.lawful;
  whole = r.says.whole;
  not_passed = not_passed rest test;
  bad_is = cc;
}

abbrev behind : List ℕ → LdpBody × List ℕ → Result (Option LdpMessage) WireBad
behind contents body = if are_passed_over body.1 then Ok (Some (record { id = big_number 4 contents; body = body.0 })) else Err BadTlv

known_bad : (kind : ℕ) (contents : List ℕ) (bad : WireBad) → is_known_message kind ≡ true → IsBytes contents →
    (body_of kind (drop 4 contents) >>= behind contents) ≡ Err bad
    → IsMandatoryRefused kind (drop 4 contents) bad ⊎ IsFurtherRefused kind (drop 4 contents) bad
known_bad kind contents bad known h e = elim (bind_bad (body_of kind (drop 4 contents)) (behind contents) bad e) [
  | inl b ↦ inl (body_bad kind (drop 4 contents) bad known (IsBytes-drop 4 contents h) b)
  | inr b ↦ inr
      (further_by_test kind (drop 4 contents) b.0.1 (big_number 4 contents) b.0.0 bad (are_passed_over b.0.1) refl
      (body_is kind (drop 4 contents) b.0.1 b.0.0 (IsBytes-drop 4 contents h) b.1) b.2)
]

further_again : (kind : ℕ) (contents : List ℕ) (bad : WireBad) → IsBytes contents → length contents < 2 ^ 16 → IsFurtherRefused kind (drop 4 contents) bad →
    (body_of kind (drop 4 contents) >>= behind contents) ≡ Err bad
further_again kind contents bad h small r =
    let size : length (mandatory_tlvs r.body) < 2 ^ 16 =
    omega (arith, ap length r.whole, length-append (mandatory_tlvs r.body) r.rest, length-drop 4 contents) in
    let reads : body_of kind (drop 4 contents) ≡ Ok (r.body, r.rest) =
    ap (λ (k : ℕ). body_of k (drop 4 contents)) r.kind_is ∙ ap (body_of (type_of r.body)) r.whole ∙ body_again r.body r.rest r.lawful size in
    let tlvs : IsBytes (drop 4 contents) = IsBytes-drop 4 contents h in
    let rest : IsBytes r.rest = (body_is kind (drop 4 contents) r.rest r.body tlvs reads).says.rest_bytes in
    let over : are_passed_over r.rest ≡ false =
    false_from_ne_true (are_passed_over r.rest) (λ passed. (let p = over_is r.rest rest passed in r.not_passed p.0 p.1)) in
    rw (reads, over) (ap (λ (b : WireBad). Err b) (sym r.bad_is))

abbrev passes : ℕ → Bool
passes kind = nat_le u_bit kind && not (is_known_message (kind % u_bit))

said_by_known : (bytes : List ℕ) (kind : ℕ) (contents : List ℕ) (bad : WireBad) (known : Bool) → is_known_message (kind % u_bit) ≡ known → passes kind ≡ false →
    IsBytes contents → HasMessage bytes kind contents
    → (body_of (kind % u_bit) (drop 4 contents) >>= behind contents) ≡ Err bad → IsUnknownRefused bytes bad ⊎ AreTlvsRefused bytes bad
said_by_known bytes kind contents bad true test not_over h m e =
    inr (record { kind = kind; contents = contents; there = m; refused = known_bad (kind % u_bit) contents bad test h e })
said_by_known bytes kind contents bad false test not_over h m e =
    let low : kind < u_bit =
    leb-false _ _ (elim (and_cases (nat_le u_bit kind) (not (is_known_message (kind % u_bit))) not_over) [
      | inl l ↦ l
      | inr n ↦ absurd (let k =
          not-false _ n in
          cc)
    ]) in
    let same : kind % u_bit ≡ kind = omega arith in
    let wrong = body_unknown (kind % u_bit) (drop 4 contents) test in
    inl (record {
      kind = kind;
      contents = contents;
      there = m;
      low = low;
      unknown = ap is_known_message (sym same) ∙ test;
      bad_is = cc;
    })

said_by_over : (bytes : List ℕ) (kind : ℕ) (contents : List ℕ) (bad : WireBad) (over : Bool) → passes kind ≡ over → IsBytes contents →
    HasMessage bytes kind contents
    → cond {A = Result (Option LdpMessage) WireBad} over (Ok None) (body_of (kind % u_bit) (drop 4 contents) >>= behind contents) ≡ Err bad →
    IsUnknownRefused bytes bad ⊎ AreTlvsRefused bytes bad
said_by_over bytes kind contents bad true test h m e = absurd cc
said_by_over bytes kind contents bad false test h m e = said_by_known bytes kind contents bad (is_known_message (kind % u_bit)) refl test h m e

said_bad : (bytes : List ℕ) (kind : ℕ) (contents : List ℕ) (bad : WireBad) → IsBytes contents → HasMessage bytes kind contents →
    said_of kind contents ≡ Err bad → IsUnknownRefused bytes bad ⊎ AreTlvsRefused bytes bad
unfolding said_of
said_bad bytes kind contents bad h m e = said_by_over bytes kind contents bad (passes kind) refl h m e

short_there : (bytes : List ℕ) (front : Front) → front_of bytes ≡ Some front → length front.value < 4 →
    (kind : ℕ) (contents rest : List ℕ) → FitsFrame kind contents → 4 ≤ length contents → bytes ≢ framed kind contents ++ rest
short_there bytes front is short kind contents rest fits long e =
    let some = ap front_of e ∙ framed_again kind contents rest fits in
    let same : front ≡ record { kind = kind; value = contents; rest = rest } = cc in
    let size : length front.value ≡ length contents = ap (λ (x : Front). length x.value) same in
    omega arith

at_front : (bytes : List ℕ) (front : Front) (bad : WireBad) (short : Bool) → nat_lt (length front.value) 4 ≡ short → IsBytes bytes → front_of bytes ≡ Some front
    → cond {A =
    Result (Option LdpMessage × List ℕ) WireBad} short (Err BadMessageLength)
    (said_of front.kind front.value >>= λ said. Ok (said, front.rest)) ≡ Err bad → IsRefusedThere bytes bad
at_front bytes front bad true test h is e = inl (short_there bytes front is (ltb-true _ _ test), cc)
at_front bytes front bad false test h is e =
    let f = framed_is bytes front h is in
    let m : HasMessage bytes front.kind front.value = record { rest = front.rest; fits = f.fits; long = ltb-false _ _ test; whole = f.whole } in
    elim (bind_bad (said_of front.kind front.value) (λ said. Ok (said, front.rest)) bad e) [
      | inl s ↦ inr (said_bad bytes front.kind front.value bad f.value_bytes m s)
      | inr s ↦ absurd (let never = s.2 in cc)
    ]

at_option : (bytes : List ℕ) (o : Option Front) (bad : WireBad) → IsBytes bytes → front_of bytes ≡ o → message_in o ≡ Err bad → IsRefusedThere bytes bad
at_option bytes None bad h is e = inl (λ kind contents rest fits long. none_there bytes is kind contents rest fits, cc)
at_option bytes (Some front) bad h is e = at_front bytes front bad (nat_lt (length front.value) 4) refl h is e

pub message_bad : (bytes : List ℕ) (bad : WireBad) → IsBytes bytes → message_at bytes ≡ Err bad → IsRefusedThere bytes bad
unfolding message_at
message_bad bytes bad h e = at_option bytes (front_of bytes) bad h refl e

-- and back
no_message : (bytes : List ℕ) (front : Front) (short : Bool) → nat_lt (length front.value) 4 ≡ short → IsFramed bytes front →
    ((kind : ℕ) (contents rest : List ℕ) → FitsFrame kind contents → 4 ≤ length contents → bytes ≢ framed kind contents ++ rest)
    → cond {A =
    Result (Option LdpMessage × List ℕ) WireBad} short (Err BadMessageLength)
    (said_of front.kind front.value >>= λ said. Ok (said, front.rest)) ≡ Err BadMessageLength
no_message bytes front true test f none = refl
no_message bytes front false test f none = absurd (none front.kind front.value front.rest f.fits (ltb-false _ _ test) f.whole)

no_message_in : (bytes : List ℕ) (o : Option Front) → IsBytes bytes → front_of bytes ≡ o →
    ((kind : ℕ) (contents rest : List ℕ) → FitsFrame kind contents → 4 ≤ length contents → bytes ≢ framed kind contents ++ rest) →
    message_in o ≡ Err BadMessageLength
no_message_in bytes None h is none = refl
no_message_in bytes (Some front) h is none = no_message bytes front (nat_lt (length front.value) 4) refl (framed_is bytes front h is) none

message_there : (bytes : List ℕ) (kind : ℕ) (contents : List ℕ) (bad : WireBad) → HasMessage bytes kind contents → said_of kind contents ≡ Err bad →
    message_at bytes ≡ Err bad
unfolding message_at
message_there bytes kind contents bad m e =
    let is : front_of bytes ≡ Some (record { kind = kind; value = contents; rest = m.rest }) = ap front_of m.whole ∙ framed_again kind contents m.rest m.fits in
    rw (is, le-ltb _ _ m.long, e) refl

said_unknown : (kind : ℕ) (contents : List ℕ) → kind < u_bit → is_known_message kind ≡ false → said_of kind contents ≡ Err UnknownMessage
unfolding said_of
said_unknown kind contents low unknown =
    let same : kind % u_bit ≡ kind = omega arith in
    rw (lt-leb u_bit kind low, body_unknown (kind % u_bit) (drop 4 contents) (ap is_known_message same ∙ unknown)) refl

said_known : (kind : ℕ) (contents : List ℕ) (bad : WireBad) → is_known_message (kind % u_bit) ≡ true →
    (body_of (kind % u_bit) (drop 4 contents) >>= behind contents) ≡ Err bad → said_of kind contents ≡ Err bad
unfolding said_of
said_known kind contents bad known e =
    let over : passes kind ≡ false = and_right _ _ (ap not known) in
    rw over e

pub message_again : (bytes : List ℕ) (bad : WireBad) → IsBytes bytes → IsRefusedThere bytes bad → message_at bytes ≡ Err bad
unfolding message_at
message_again bytes bad h (inl none) = no_message_in bytes (front_of bytes) h refl none.0 ∙ ap (λ (b : WireBad). Err b) (sym none.1)
message_again bytes bad h (inr (inl u)) =
    message_there bytes u.kind u.contents bad u.there (said_unknown u.kind u.contents u.low u.unknown ∙ ap (λ (b : WireBad). Err b) (sym u.bad_is))
message_again bytes bad h (inr (inr t)) =
    let contents : IsBytes t.contents = (value_bytes t.kind bytes t.contents t.there.rest h t.there.fits t.there.whole).0 in
    elim t.refused [
      | inl m ↦ message_there bytes t.kind t.contents bad t.there
          (said_known t.kind t.contents bad (mandatory_known (t.kind % u_bit) (drop 4 t.contents) bad m)
          (rw (body_refused (t.kind % u_bit) (drop 4 t.contents) bad (IsBytes-drop 4 t.contents contents) m) refl))
      | inr f ↦ message_there bytes t.kind t.contents bad t.there
          (said_known t.kind t.contents bad (ap is_known_message f.kind_is ∙ type_known f.body)
          (further_again (t.kind % u_bit) t.contents bad contents t.there.fits.size_fits f))
    ]
