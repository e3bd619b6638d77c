-- The values of TLVs: what is read is spelled so, and what is spelled so is read.
use Rattle.std.proofs.Common.{◌≡◌, ◌==◌, ◌≤◌, ◌<◌, ◌-◌, ◌*◌, ◌/◌, ◌%◌, ◌^◌, ℕ, zero, suc, Bool, true, false, cond, not, List, [], ◌∷◌, ◌++◌, length, take}
use Rattle.std.proofs.Common.{drop, Option, Some, None, refl, ap, sym, ◌∙◌, subst, arith, inl, inr, length-drop}
use Rattle.std.specs.Prelude.{nat_le, slice_index, ◌&&◌}
use Rattle.std.specs.List.{flat_map, AllByRecursion}
use Rattle.std.proofs.lemmas.Bool.{le-leb, leb-true, eq-eqb, eqb-true, and_parts, and_from, or_cases, or_left, or_right, not-false}
use Rattle.std.proofs.lemmas.List.{drop-drop, drop_all, get_or-drop, nil_from_length}
use Rattle.byteorder.specs.Endian.{big_bytes, big_number}
use Rattle.byteorder.specs.Numbers.{big_from-take}
use Rattle.mn_ldp_wire.specs.declared.message.LdpId.{LdpId}
use Rattle.mn_ldp_wire.specs.declared.message.LdpBody.{LdpBody}
use Rattle.mn_ldp_wire.specs.declared.message.LdpBody.TheVariants.{Notification, Initialization}
use Rattle.mn_ldp_wire.specs.Grammar.{IsBytes, IsLabel, FitsId, ldp_id, status_value, session_parameters, address_list, IsStatus, IsAsked, AreAddresses}
use Rattle.mn_ldp_wire.specs.Reading.{is_label, read_label, id_at, asked, addresses_of, is_address_list}
use Rattle.mn_base.proofs.Bytes.{IsBytes-drop}
use Rattle.mn_ldp_wire.proofs.Bytes.{two_again, four_again, two_fits, four_fits, two_back, four_back}
use Rattle.mn_ldp_wire.proofs.Loops.{four_more, no_more}
use Rattle.mn_ldp_wire.proofs.Written.{length-addresses}

-- ---- labels

label_lawful : (n : ℕ) → is_label n ≡ true → IsLabel n
label_lawful n h = elim (or_cases (n == 3) (nat_le 16 n && nat_le n 1048575) h) [
  | inl three ↦ inl (eqb-true _ _ three)
  | inr within ↦ (let w = and_parts _ _ within in inr (leb-true _ _ w.0, omega (arith, leb-true _ _ w.1)))
]

lawful_label : (n : ℕ) → IsLabel n → is_label n ≡ true
lawful_label n (inl three) = or_left _ _ (eq-eqb _ _ three)
lawful_label n (inr within) = or_right _ _ (and_from _ _ (le-leb _ _ within.0) (le-leb _ _ (omega (arith, within.1))))

label_by_test : (value : List ℕ) (label : ℕ) (wrong lawful : Bool) → not (length value == 4) ≡ wrong → is_label (big_number 4 value) ≡ lawful
    → cond {A = Option ℕ} wrong None (cond {A = Option ℕ} lawful (Some (big_number 4 value)) None) ≡ Some label →
    (length value ≡ 4) × (is_label (big_number 4 value) ≡ true) × (big_number 4 value ≡ label)
label_by_test value label true lawful a b e = absurd cc
label_by_test value label false false a b e = absurd cc
label_by_test value label false true a b e = (eqb-true _ _ (not-false _ a), b, cc)

pub label_is : (value : List ℕ) (label : ℕ) → IsBytes value → read_label value ≡ Some label → (value ≡ big_bytes 4 label) × IsLabel label
unfolding read_label
label_is value label h e =
    let t = label_by_test value label (not (length value == 4)) (is_label (big_number 4 value)) refl refl e in
    let size = t.0 in
    let none : drop 4 value ≡ [] = drop_all 4 value (omega arith) in
    let whole : value ≡ big_bytes 4 (big_number 4 value) =
    four_again value h (omega arith) ∙ ap (λ (xs : List ℕ). big_bytes 4 (big_number 4 value) ++ xs) none in
    subst (λ (n : ℕ). (value ≡ big_bytes 4 n) × IsLabel n) t.2 (whole, label_lawful (big_number 4 value) t.1)

pub label_again : (label : ℕ) → IsLabel label → read_label (big_bytes 4 label) ≡ Some label
unfolding read_label
label_again label h =
    let fits : label < 2 ^ 32 = elim h [ inl three ↦ omega (arith, three) | inr within ↦ omega (arith, within.1) ] in
    let back : big_number 4 (big_bytes 4 label) ≡ label = four_back label [] fits in
    rw (back, lawful_label label h) refl

-- ---- ids, status, session parameters

pub id_is : (bytes : List ℕ) → IsBytes bytes → 6 ≤ length bytes → (bytes ≡ ldp_id (id_at bytes) ++ drop 6 bytes) × FitsId (id_at bytes)
id_is bytes h long =
    let behind : drop 4 bytes ≡ big_bytes 2 (big_number 2 (drop 4 bytes)) ++ drop 2 (drop 4 bytes) =
    two_again (drop 4 bytes) (IsBytes-drop 4 bytes h) (omega (arith, length-drop 4 bytes)) in
    let last : drop 2 (drop 4 bytes) ≡ drop 6 bytes = drop-drop 2 4 bytes in (
      four_again bytes h (omega arith)
          ∙ ap (λ (xs : List ℕ). big_bytes 4 (big_number 4 bytes) ++ xs)
          (behind ∙ ap (λ (xs : List ℕ). big_bytes 2 (big_number 2 (drop 4 bytes)) ++ xs) last),
      record { lsr = four_fits bytes h; space = two_fits (drop 4 bytes) (IsBytes-drop 4 bytes h) },
    )

pub id_again : (id : LdpId) (rest : List ℕ) → FitsId id → id_at (ldp_id id ++ rest) ≡ id
id_again id rest fits =
    ap (λ (n : ℕ). record { lsr = n; space = big_number 2 (big_bytes 2 id.space ++ rest) }) (four_back id.lsr (big_bytes 2 id.space ++ rest) fits.lsr)
    ∙ ap (λ (n : ℕ). record { lsr = id.lsr; space = n }) (two_back id.space rest fits.space)

pub status_is : (value : List ℕ) → IsBytes value → length value ≡ 10
    → (value ≡ status_value (big_number 4 value) (big_number 4 (drop 4 value)) (big_number 2 (drop 8 value)))
    × IsStatus (big_number 4 value) (big_number 4 (drop 4 value)) (big_number 2 (drop 8 value))
unfolding status_value
status_is value h size =
    let second = drop 4 value in
    let third = drop 8 value in
    let at_8 : drop 4 second ≡ third = drop-drop 4 4 value in
    let none : drop 2 third ≡ [] = drop-drop 2 8 value ∙ drop_all 10 value (omega arith) in
    let e3 : third ≡ big_bytes 2 (big_number 2 third) =
    two_again third (IsBytes-drop 8 value h) (omega (arith, length-drop 8 value)) ∙ ap (λ (xs : List ℕ). big_bytes 2 (big_number 2 third) ++ xs) none in
    let e2 : second ≡ big_bytes 4 (big_number 4 second) ++ big_bytes 2 (big_number 2 third) =
    four_again second (IsBytes-drop 4 value h) (omega (arith, length-drop 4 value))
    ∙ ap (λ (xs : List ℕ). big_bytes 4 (big_number 4 second) ++ xs) (at_8 ∙ e3) in (
      four_again value h (omega arith) ∙ ap (λ (xs : List ℕ). big_bytes 4 (big_number 4 value) ++ xs) e2,
      record { status_fits = four_fits value h; about_fits = four_fits second (IsBytes-drop 4 value h); kind_fits = two_fits third (IsBytes-drop 8 value h) },
    )

pub status_again : (status about kind : ℕ) → IsStatus status about kind
    → Notification (big_number 4 (status_value status about kind)) (big_number 4 (drop 4 (status_value status about kind)))
    (big_number 2 (drop 8 (status_value status about kind))) ≡ Notification status about kind
unfolding status_value
status_again status about kind fits =
    ap (λ (n : ℕ). Notification n (big_number 4 (big_bytes 4 about ++ big_bytes 2 kind)) (big_number 2 (big_bytes 2 kind ++ [])))
    (four_back status (big_bytes 4 about ++ big_bytes 2 kind) fits.status_fits)
    ∙ ap (λ (n : ℕ). Notification status n (big_number 2 (big_bytes 2 kind ++ []))) (four_back about (big_bytes 2 kind) fits.about_fits)
    ∙ ap (λ (n : ℕ). Notification status about n) (two_back kind [] fits.kind_fits)

two_cells : (bs : List ℕ) → 2 ≤ length bs → bs ≡ slice_index bs 0 ∷ slice_index bs 1 ∷ drop 2 bs
two_cells [] h = absurd (omega arith)
two_cells (a ∷ []) h = absurd (omega arith)
two_cells (a ∷ b ∷ bs) h = refl

abbrev pub Asked : List ℕ → LdpBody → Type 0
Asked value (Initialization version keepalive flags limit greatest receiver) =
    (value ≡ session_parameters version keepalive flags limit greatest receiver) × IsAsked version keepalive flags limit greatest receiver
Asked value _ = ⊥

pub session_is : (value : List ℕ) → IsBytes value → length value ≡ 14 → Asked value (asked value)
unfolding session_parameters
session_is value h size =
    let b2 = IsBytes-drop 2 value h in
    let b4 = IsBytes-drop 4 value h in
    let b6 = IsBytes-drop 6 value h in
    let b8 = IsBytes-drop 8 value h in
    let receiver = id_is (drop 8 value) b8 (omega (arith, length-drop 8 value)) in
    let none : drop 6 (drop 8 value) ≡ [] = drop-drop 6 8 value ∙ drop_all 14 value (omega arith) in
    let e8 : drop 8 value ≡ ldp_id (id_at (drop 8 value)) = receiver.0 ∙ ap (λ (xs : List ℕ). ldp_id (id_at (drop 8 value)) ++ xs) none in
    let e6 : drop 6 value ≡ big_bytes 2 (big_number 2 (drop 6 value)) ++ ldp_id (id_at (drop 8 value)) =
    two_again (drop 6 value) b6 (omega (arith, length-drop 6 value))
    ∙ ap (λ (xs : List ℕ). big_bytes 2 (big_number 2 (drop 6 value)) ++ xs) (drop-drop 2 6 value ∙ e8) in
    let flags : slice_index (drop 4 value) 0 ≡ slice_index value 4 = get_or-drop 4 value 0 0 in
    let limit : slice_index (drop 4 value) 1 ≡ slice_index value 5 = get_or-drop 4 value 1 0 in
    let e4 : drop 4 value ≡ slice_index value 4 ∷ slice_index value 5 ∷ (big_bytes 2 (big_number 2 (drop 6 value)) ++ ldp_id (id_at (drop 8 value))) =
    two_cells (drop 4 value) (omega (arith, length-drop 4 value))
    ∙ ap (λ (n : ℕ). n ∷ slice_index (drop 4 value) 1 ∷ drop 2 (drop 4 value)) flags
    ∙ ap (λ (n : ℕ). slice_index value 4 ∷ n ∷ drop 2 (drop 4 value)) limit
    ∙ ap (λ (xs : List ℕ). slice_index value 4 ∷ slice_index value 5 ∷ xs) (drop-drop 2 4 value ∙ e6) in
    let e2 = two_again (drop 2 value) b2 (omega (arith, length-drop 2 value))
    ∙ ap (λ (xs : List ℕ). big_bytes 2 (big_number 2 (drop 2 value)) ++ xs) (drop-drop 2 2 value ∙ e4) in (
      two_again value h (omega arith) ∙ ap (λ (xs : List ℕ). big_bytes 2 (big_number 2 value) ++ xs) e2,
      record {
        version_fits = two_fits value h;
        keepalive_fits = two_fits (drop 2 value) b2;
        flags_fit = h.below 4;
        limit_fits = h.below 5;
        greatest_fits = two_fits (drop 6 value) b6;
        receiver_fits = receiver.1;
      },
    )

pub session_again : (version keepalive flags limit greatest : ℕ) (receiver : LdpId) → IsAsked version keepalive flags limit greatest receiver
    → asked (session_parameters version keepalive flags limit greatest receiver) ≡ Initialization version keepalive flags limit greatest receiver
unfolding session_parameters
session_again version keepalive flags limit greatest receiver fits =
    let third = big_bytes 2 greatest ++ ldp_id receiver in
    let second = big_bytes 2 keepalive ++ flags ∷ limit ∷ third in
    ap (λ (n : ℕ). Initialization n (big_number 2 second) flags limit (big_number 2 third) (id_at (ldp_id receiver)))
    (two_back version second fits.version_fits)
    ∙ ap (λ (n : ℕ). Initialization version n flags limit (big_number 2 third) (id_at (ldp_id receiver)))
    (two_back keepalive (flags ∷ limit ∷ third) fits.keepalive_fits)
    ∙ ap (λ (n : ℕ). Initialization version keepalive flags limit n (id_at (ldp_id receiver))) (two_back greatest (ldp_id receiver) fits.greatest_fits)
    ∙ ap (λ (id : LdpId). Initialization version keepalive flags limit greatest id) (id_again receiver [] fits.receiver_fits)

-- ---- addresses

four_front : (bs : List ℕ) → big_number 4 (take 4 bs) ≡ big_number 4 bs
four_front bs = big_from-take 0 4 4 bs (omega arith)

pub record AreSpelled (bs : List ℕ) (n : ℕ) : Type 0 where
  pub whole : bs ≡ flat_map (big_bytes 4) (addresses_of bs)
  pub fit : AllByRecursion (λ address. address < 2 ^ 32) (addresses_of bs)
  pub count : length (addresses_of bs) ≡ n

addresses_are : (n : ℕ) (bs : List ℕ) → IsBytes bs → length bs ≡ 4 * n → AreSpelled bs n
addresses_are zero bs h size =
    let none : bs ≡ [] = nil_from_length bs size in
    let nothing : addresses_of bs ≡ [] = no_more bs (omega arith) in
    record {
      whole = none ∙ sym (ap (λ (xs : List ℕ). flat_map (big_bytes 4) xs) nothing);
      fit = subst (λ (xs : List ℕ). AllByRecursion (λ address. address < 2 ^ 32) xs) (sym nothing) tt;
      count = ap length nothing;
    }
addresses_are (suc n) bs h size =
    let again = addresses_are n (drop 4 bs) (IsBytes-drop 4 bs h) (omega (arith, length-drop 4 bs)) in
    let one : addresses_of bs ≡ big_number 4 bs ∷ addresses_of (drop 4 bs) =
    four_more bs (omega arith) ∙ ap (λ (x : ℕ). x ∷ addresses_of (drop 4 bs)) (four_front bs) in
    record {
      whole =
          four_again bs h (omega arith) ∙ ap (λ (xs : List ℕ). big_bytes 4 (big_number 4 bs) ++ xs) again.whole
          ∙ sym (ap (λ (xs : List ℕ). flat_map (big_bytes 4) xs) one);
      fit = subst (λ (xs : List ℕ). AllByRecursion (λ address. address < 2 ^ 32) xs) (sym one) (four_fits bs h, again.fit);
      count = ap length one ∙ ap suc again.count;
    }

addresses_again : (addresses : List ℕ) → AllByRecursion (λ address. address < 2 ^ 32) addresses → addresses_of (flat_map (big_bytes 4) addresses) ≡ addresses
unfolding addresses_of
addresses_again [] fit = refl
addresses_again (a ∷ addresses) fit =
    ap (λ (n : ℕ). n ∷ addresses_of (flat_map (big_bytes 4) addresses)) (four_back a [] fit.0) ∙ ap (λ (xs : List ℕ). a ∷ xs) (addresses_again addresses fit.1)

pub list_is : (value : List ℕ) → IsBytes value → is_address_list value ≡ true →
    (value ≡ address_list (addresses_of (drop 2 value))) × AreAddresses (addresses_of (drop 2 value))
unfolding address_list
list_is value h e =
    let p = and_parts _ _ e in
    let q = and_parts _ _ p.0 in
    let long : 6 ≤ length value = leb-true _ _ q.0 in
    let family : big_number 2 value ≡ 1 = eqb-true _ _ q.1 in
    let whole : (length value - 2) % 4 ≡ 0 = eqb-true _ _ p.1 in
    let n = (length value - 2) / 4 in
    let size : length (drop 2 value) ≡ 4 * n = length-drop 2 value ∙ omega (arith, whole) in
    let a = addresses_are n (drop 2 value) (IsBytes-drop 2 value h) size in (
      two_again value h (omega arith) ∙ ap (λ (x : ℕ). big_bytes 2 x ++ drop 2 value) family ∙ ap (λ (xs : List ℕ). big_bytes 2 1 ++ xs) a.whole,
      record { some = omega (arith, a.count, whole, long); each = a.fit },
    )

pub list_again : (addresses : List ℕ) → AreAddresses addresses →
    (is_address_list (address_list addresses) ≡ true) × (addresses_of (drop 2 (address_list addresses)) ≡ addresses)
unfolding address_list
list_again addresses a =
    let size = length-addresses addresses in
    let some = a.some in
    let value : List ℕ = address_list addresses in
    let long : nat_le 6 (length value) ≡ true = le-leb 6 (length value) (omega (arith, size)) in
    let family : (big_number 2 value == 1) ≡ true = eq-eqb (big_number 2 value) 1 (two_back 1 (flat_map (big_bytes 4) addresses) (omega arith)) in
    let whole : ((length value - 2) % 4 == 0) ≡ true = eq-eqb ((length value - 2) % 4) 0 (omega (arith, size)) in (
      and_from (nat_le 6 (length value) && (big_number 2 value == 1)) ((length value - 2) % 4 == 0)
          (and_from (nat_le 6 (length value)) (big_number 2 value == 1) long family) whole,
      addresses_again addresses a.each,
    )
