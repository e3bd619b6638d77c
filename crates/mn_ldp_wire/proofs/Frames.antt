-- A message or a TLV at the front: what is read is spelled so, and what is spelled so is read.
use Rattle.std.proofs.Common.{◌≡◌, ◌==◌, ◌≤◌, ◌<◌, ◌-◌, ℕ, zero, suc, Bool, true, false, cond, List, [], ◌∷◌, ◌++◌, length, take, drop, Option, Some, None}
use Rattle.std.proofs.Common.{Result, Ok, Err, refl, ap, sym, ◌∙◌, subst, arith, length-append, length-drop, take-append-drop, if◌then◌else◌}
use Rattle.std.specs.Prelude.{nat_le}
use Rattle.std.proofs.lemmas.Bool.{leb-true, eq-eqb, eqb-true}
use Rattle.std.proofs.lemmas.List.{take_at, drop_at, length-take-le}
use Rattle.byteorder.specs.Endian.{big_bytes, big_number}
use Rattle.mn_ldp_wire.specs.declared.refusal.WireBad.{WireBad}
use Rattle.mn_ldp_wire.specs.declared.refusal.WireBad.TheVariants.{MissingTlv, BadTlv}
use Rattle.mn_ldp_wire.specs.Grammar.{IsBytes, framed, FitsFrame, u_bit, ArePassedOver}
use Rattle.mn_ldp_wire.specs.Reading.{Front, size_at, front_of, due, mandatory_at, are_passed_over}
use Rattle.mn_base.proofs.Bytes.{IsBytes-drop, IsBytes-take}
use Rattle.mn_ldp_wire.proofs.Bytes.{two_again, two_fits, two_back}
use Rattle.mn_ldp_wire.proofs.Loops.{front_is, front_from, front_shorter, not_empty, over_done, over_cut, over_step, over_one_more}

-- ---- what stands at the front

pub record IsFramed (bytes : List ℕ) (front : Front) : Type 0 where
  pub fits : FitsFrame front.kind front.value
  pub value_bytes : IsBytes front.value
  pub rest_bytes : IsBytes front.rest
  pub whole : bytes ≡ framed front.kind front.value ++ front.rest

header : (bytes : List ℕ) → IsBytes bytes → 4 ≤ length bytes → bytes ≡ big_bytes 2 (big_number 2 bytes) ++ (big_bytes 2 (size_at bytes) ++ drop 4 bytes)
header [] h long = absurd (omega arith)
header (a ∷ []) h long = absurd (omega arith)
header (a ∷ b ∷ xs) h long =
    two_again (a ∷ b ∷ xs) h (omega arith)
    ∙ ap (λ (ys : List ℕ). big_bytes 2 (big_number 2 (a ∷ b ∷ xs)) ++ ys) (two_again xs (IsBytes-drop 2 (a ∷ b ∷ xs) h) (omega arith))

framed_there : (bytes : List ℕ) → IsBytes bytes → 4 ≤ length bytes → size_at bytes ≤ length bytes - 4
    → IsFramed bytes (record { kind = big_number 2 bytes; value = take (size_at bytes) (drop 4 bytes); rest = drop (size_at bytes) (drop 4 bytes) })
unfolding framed
framed_there bytes h long whole =
    let size = size_at bytes in
    let behind = drop 4 bytes in
    let len : length (take size behind) ≡ size = length-take-le size behind (omega (arith, length-drop 4 bytes)) in
    record {
      fits = record { kind_fits = two_fits bytes h; size_fits = omega (arith, len, two_fits (drop 2 bytes) (IsBytes-drop 2 bytes h)) };
      value_bytes = IsBytes-take size behind (IsBytes-drop 4 bytes h);
      rest_bytes = IsBytes-drop size behind (IsBytes-drop 4 bytes h);
      whole =
          header bytes h long
          ∙ ap (λ (n : ℕ). big_bytes 2 (big_number 2 bytes) ++ (big_bytes 2 n ++ behind)) (sym len)
          ∙ ap (λ (ys : List ℕ). big_bytes 2 (big_number 2 bytes) ++ (big_bytes 2 (length (take size behind)) ++ ys)) (sym (take-append-drop size behind));
    }

pub framed_is : (bytes : List ℕ) (front : Front) → IsBytes bytes → front_of bytes ≡ Some front → IsFramed bytes front
framed_is bytes front h e =
    let f = front_is bytes front e in
    subst (λ (x : Front). IsFramed bytes x) (sym f.is) (framed_there bytes h f.header f.whole)

pub framed_again : (kind : ℕ) (value rest : List ℕ) → FitsFrame kind value →
    front_of (framed kind value ++ rest) ≡ Some (record { kind = kind; value = value; rest = rest })
unfolding framed
framed_again kind value rest fits =
    let bytes = framed kind value ++ rest in
    let size : size_at bytes ≡ length value = two_back (length value) (value ++ rest) fits.size_fits in
    let is : big_number 2 bytes ≡ kind = two_back kind (big_bytes 2 (length value) ++ value ++ rest) fits.kind_fits in
    front_from bytes (omega arith) (omega (arith, size, length-append value rest))
    ∙ ap (λ (n : ℕ). Some (record { kind = big_number 2 bytes; value = take n (value ++ rest); rest = drop n (value ++ rest) })) size
    ∙ ap (λ (n : ℕ). Some (record { kind = n; value = take (length value) (value ++ rest); rest = drop (length value) (value ++ rest) })) is
    ∙ ap (λ (xs : List ℕ). Some (record { kind = kind; value = xs; rest = drop (length value) (value ++ rest) })) (take_at value rest (length value) refl)
    ∙ ap (λ (xs : List ℕ). Some (record { kind = kind; value = value; rest = xs })) (drop_at value rest (length value) refl)

-- ---- the TLV that is due

pub record IsDue (kind : ℕ) (bytes value rest : List ℕ) : Type 0 where
  pub fits : FitsFrame kind value
  pub value_bytes : IsBytes value
  pub rest_bytes : IsBytes rest
  pub whole : bytes ≡ framed kind value ++ rest

due_by_test : (kind : ℕ) (bytes value rest : List ℕ) (front : Front) (same : Bool) → (front.kind == kind) ≡ same → IsFramed bytes front
    → cond {A = Result (List ℕ × List ℕ) WireBad} same (Ok (front.value, front.rest)) (Err BadTlv) ≡ Ok (value, rest) → IsDue kind bytes value rest
due_by_test kind bytes value rest front false test f e = absurd cc
due_by_test kind bytes value rest front true test f e =
    let pair : (front.value, front.rest) ≡ (value, rest) = cc in
    let one : IsDue kind bytes front.value front.rest =
    subst (λ (k : ℕ). IsDue k bytes front.value front.rest) (eqb-true _ _ test) (record {
      fits = f.fits;
      value_bytes = f.value_bytes;
      rest_bytes =
          f.rest_bytes;
      whole = f.whole;
    }) in
    subst (λ (p : List ℕ × List ℕ). IsDue kind bytes p.0 p.1) pair one

due_by_front : (kind : ℕ) (bytes value rest : List ℕ) (o : Option Front) → IsBytes bytes → front_of bytes ≡ o → due kind o ≡ Ok (value, rest) →
    IsDue kind bytes value rest
due_by_front kind bytes value rest None h is e = absurd cc
due_by_front kind bytes value rest (Some front) h is e = due_by_test kind bytes value rest front (front.kind == kind) refl (framed_is bytes front h is) e

mandatory_by_end : (kind : ℕ) (bytes value rest : List ℕ) (ended : Bool) → IsBytes bytes
    → cond {A = Result (List ℕ × List ℕ) WireBad} ended (Err MissingTlv) (due kind (front_of bytes)) ≡ Ok (value, rest) → IsDue kind bytes value rest
mandatory_by_end kind bytes value rest true h e = absurd cc
mandatory_by_end kind bytes value rest false h e = due_by_front kind bytes value rest (front_of bytes) h refl e

pub mandatory_is : (kind : ℕ) (bytes value rest : List ℕ) → IsBytes bytes → mandatory_at kind bytes ≡ Ok (value, rest) → IsDue kind bytes value rest
unfolding mandatory_at
mandatory_is kind bytes value rest h e = mandatory_by_end kind bytes value rest (length bytes == 0) h e

some_bytes : (kind : ℕ) (value rest : List ℕ) → 0 < length (framed kind value ++ rest)
unfolding framed
some_bytes kind value rest = omega arith

pub mandatory_again : (kind : ℕ) (value rest : List ℕ) → FitsFrame kind value → mandatory_at kind (framed kind value ++ rest) ≡ Ok (value, rest)
unfolding mandatory_at
mandatory_again kind value rest fits =
    rw (not_empty (framed kind value ++ rest) (some_bytes kind value rest), framed_again kind value rest fits, eq-eqb kind kind refl) refl

-- ---- TLVs that are passed over

pub over_again : (bytes : List ℕ) (tlvs : List (ℕ × List ℕ)) → ArePassedOver bytes tlvs → are_passed_over bytes ≡ true
over_again bytes [] a = over_done bytes (ap length a)
over_again bytes (tlv ∷ tlvs) (rest, whole, fits, u, others) =
    let there : front_of bytes ≡ Some (record { kind = tlv.0; value = tlv.1; rest = rest }) = ap front_of whole ∙ framed_again tlv.0 tlv.1 rest fits in
    over_one_more bytes rest tlv.1 tlv.0 there u ∙ over_again rest tlvs others

-- some TLVs that are passed over
abbrev pub Passed : List ℕ → Type 0
Passed bytes = (tlvs : List (ℕ × List ℕ)) × ArePassedOver bytes tlvs

over_by_test : (bytes : List ℕ) (front : Front) (u : Bool) → IsFramed bytes front → (nat_le u_bit front.kind) ≡ u →
    (if u then are_passed_over front.rest else false) ≡ true
    → (are_passed_over front.rest ≡ true → Passed front.rest) → Passed bytes
over_by_test bytes front false f test e again = absurd cc
over_by_test bytes front true f test e again =
    (let more = again e in ((front.kind, front.value) ∷ more.0, (front.rest, f.whole, f.fits, leb-true _ _ test, more.1)))

over_by_front : (n : ℕ) (bytes : List ℕ) (o : Option Front) → IsBytes bytes → 0 < length bytes → length bytes ≤ suc n → front_of bytes ≡ o →
    are_passed_over bytes ≡ true
    → ((rest : List ℕ) → IsBytes rest → length rest ≤ n → are_passed_over rest ≡ true → Passed rest) → Passed bytes
over_by_front n bytes None h some most is e again = absurd (let cut = over_cut bytes some is in cc)
over_by_front n bytes (Some front) h some most is e again =
    let f = framed_is bytes front h is in
    let s = front_shorter bytes front is in
    over_by_test bytes front (nat_le u_bit front.kind) f refl (sym (over_step bytes front is) ∙ e) (λ more. again front.rest f.rest_bytes (omega arith) more)

over_within : (n : ℕ) (bytes : List ℕ) → IsBytes bytes → length bytes ≤ n → are_passed_over bytes ≡ true → Passed bytes
over_within n [] h most e = ([], refl)
over_within zero (b ∷ bs) h most e = absurd (omega arith)
over_within (suc n) (b ∷ bs) h most e = over_by_front n (b ∷ bs) (front_of (b ∷ bs)) h (omega arith) most refl e (λ rest. over_within n rest)

pub over_is : (bytes : List ℕ) → IsBytes bytes → are_passed_over bytes ≡ true → Passed bytes
over_is bytes h e = over_within (length bytes) bytes h (omega arith) e
