-- What is read one after another, step by step, as the loops do.
use Rattle.std.proofs.Common.{◌≡◌, ◌==◌, ◌≤◌, ◌<◌, ◌+◌, ◌-◌, ℕ, zero, suc, Bool, true, false, cond, List, [], ◌∷◌, ◌++◌, length, take, drop, Option, Some}
use Rattle.std.proofs.Common.{None, refl, ap, sym, ◌∙◌, arith, if◌then◌else◌}
use Rattle.std.specs.Prelude.{nat_lt, nat_le}
use Rattle.std.proofs.lemmas.List.{length-drop, append-nil, append_assoc}
use Rattle.std.proofs.lemmas.Bool.{le-ltb, le-leb, lt-leb, ne_eqb, ltb-false}
use Rattle.byteorder.specs.Endian.{big_number}
use Rattle.mn_ldp_wire.specs.Grammar.{u_bit}
use Rattle.mn_ldp_wire.specs.Reading.{Front, size_at, front_of, passed_over_from, are_passed_over, addresses_of}

-- ---- what stands at the front

-- a front that is whole, by the two tests
pub record IsFront (bytes : List ℕ) (front : Front) : Type 0 where
  pub header : 4 ≤ length bytes
  pub whole : size_at bytes ≤ length bytes - 4
  pub is : front ≡ record { kind = big_number 2 bytes; value = take (size_at bytes) (drop 4 bytes); rest = drop (size_at bytes) (drop 4 bytes) }

by_tests : (bytes : List ℕ) (made front : Front) (a b : Bool) → cond a None (cond b None (Some made)) ≡ Some front → (a ≡ false) × (b ≡ false) × (front ≡ made)
by_tests bytes made front true b e = cc
by_tests bytes made front false true e = cc
by_tests bytes made front false false e = (refl, refl, cc)

pub front_is : (bytes : List ℕ) (front : Front) → front_of bytes ≡ Some front → IsFront bytes front
unfolding front_of
front_is bytes front e =
    let t = by_tests bytes (record {
      kind = big_number 2 bytes;
      value = take (size_at bytes) (drop 4 bytes);
      rest =
          drop (size_at bytes) (drop 4 bytes);
    }) front (nat_lt (length bytes) 4) (nat_lt (length bytes - 4) (size_at bytes)) e in
    record { header = ltb-false _ _ t.0; whole = ltb-false _ _ t.1; is = t.2 }

pub front_from : (bytes : List ℕ) → 4 ≤ length bytes → size_at bytes ≤ length bytes - 4
    → front_of bytes ≡ Some (record { kind = big_number 2 bytes; value = take (size_at bytes) (drop 4 bytes); rest = drop (size_at bytes) (drop 4 bytes) })
unfolding front_of
front_from bytes h w = rw (le-ltb _ _ h, le-ltb _ _ w) refl

pub front_shorter : (bytes : List ℕ) (front : Front) → front_of bytes ≡ Some front → length front.rest < length bytes
front_shorter bytes front e =
    let f = front_is bytes front e in
    let h = f.header in
    let r : length front.rest ≡ length (drop (size_at bytes) (drop 4 bytes)) = ap (λ (x : Front). length x.rest) f.is in
    omega (arith, length-drop (size_at bytes) (drop 4 bytes), length-drop 4 bytes)

-- ---- TLVs that are passed over

pub not_empty : (bytes : List ℕ) → 0 < length bytes → (length bytes == 0) ≡ false
not_empty bytes h = ne_eqb _ _ (omega arith)

over_some : (n : ℕ) (bytes : List ℕ) (front : Front) → 0 < length bytes → front_of bytes ≡ Some front →
    passed_over_from (suc n) bytes ≡ (if nat_le u_bit front.kind then passed_over_from n front.rest else false)
unfolding passed_over_from
over_some n bytes front h e = rw (not_empty bytes h, e) refl

over_none : (n : ℕ) (bytes : List ℕ) → 0 < length bytes → front_of bytes ≡ None → passed_over_from (suc n) bytes ≡ false
unfolding passed_over_from
over_none n bytes h e = rw (not_empty bytes h, e) refl

over_nil : (n : ℕ) → passed_over_from n [] ≡ true
unfolding passed_over_from
over_nil zero = refl
over_nil (suc n) = refl

over_same : (n m : ℕ) (bytes : List ℕ) (o : Option Front) → 0 < length bytes → front_of bytes ≡ o → length bytes ≤ suc n → length bytes ≤ suc m
    → ((rest : List ℕ) → length rest ≤ n → length rest ≤ m → passed_over_from n rest ≡ passed_over_from m rest) →
    passed_over_from (suc n) bytes ≡ passed_over_from (suc m) bytes
over_same n m bytes None some e hn hm again = over_none n bytes some e ∙ sym (over_none m bytes some e)
over_same n m bytes (Some front) some e hn hm again =
    let s = front_shorter bytes front e in
    over_some n bytes front some e
    ∙ ap (λ (x : Bool). if nat_le u_bit front.kind then x else false) (again front.rest (omega arith) (omega arith))
    ∙ sym (over_some m bytes front some e)

over_enough : (n m : ℕ) (bytes : List ℕ) → length bytes ≤ n → length bytes ≤ m → passed_over_from n bytes ≡ passed_over_from m bytes
over_enough n m [] hn hm = over_nil n ∙ sym (over_nil m)
over_enough zero m (b ∷ bs) hn hm = absurd (omega arith)
over_enough (suc n) zero (b ∷ bs) hn hm = absurd (omega arith)
over_enough (suc n) (suc m) (b ∷ bs) hn hm = over_same n m (b ∷ bs) (front_of (b ∷ bs)) (omega arith) refl hn hm (λ rest. over_enough n m rest)

pub over_step : (bytes : List ℕ) (front : Front) → front_of bytes ≡ Some front →
    are_passed_over bytes ≡ (if nat_le u_bit front.kind then are_passed_over front.rest else false)
unfolding are_passed_over
over_step [] front e = let s = front_shorter [] front e in absurd (omega arith)
over_step (b ∷ bs) front e =
    let s = front_shorter (b ∷ bs) front e in
    over_some (length bs) (b ∷ bs) front (omega arith) e
    ∙ ap (λ (x : Bool). if nat_le u_bit front.kind then x else false) (over_enough (length bs) (length front.rest) front.rest (omega arith) (omega arith))

pub over_one_more : (bytes rest value : List ℕ) (kind : ℕ) → front_of bytes ≡ Some (record { kind = kind; value = value; rest = rest }) → u_bit ≤ kind →
    are_passed_over bytes ≡ are_passed_over rest
over_one_more bytes rest value kind e u = over_step bytes (record { kind = kind; value = value; rest = rest }) e ∙ rw (le-leb u_bit kind u) refl

pub over_known : (bytes rest value : List ℕ) (kind : ℕ) → front_of bytes ≡ Some (record { kind = kind; value = value; rest = rest }) → kind < u_bit →
    are_passed_over bytes ≡ false
over_known bytes rest value kind e u = over_step bytes (record { kind = kind; value = value; rest = rest }) e ∙ rw (lt-leb u_bit kind u) refl

pub over_cut : (bytes : List ℕ) → 0 < length bytes → front_of bytes ≡ None → are_passed_over bytes ≡ false
unfolding are_passed_over
over_cut [] h e = absurd (omega arith)
over_cut (b ∷ bs) h e = over_none (length bs) (b ∷ bs) h e

pub over_done : (bytes : List ℕ) → length bytes ≡ 0 → are_passed_over bytes ≡ true
unfolding are_passed_over
over_done [] h = over_nil 0
over_done (b ∷ bs) h = absurd (omega arith)

-- ---- addresses

pub four_more : (bytes : List ℕ) → 4 ≤ length bytes → addresses_of bytes ≡ big_number 4 (take 4 bytes) ∷ addresses_of (drop 4 bytes)
unfolding addresses_of
four_more [] h = absurd (omega arith)
four_more (a ∷ []) h = absurd (omega arith)
four_more (a ∷ b ∷ []) h = absurd (omega arith)
four_more (a ∷ b ∷ c ∷ []) h = absurd (omega arith)
four_more (a ∷ b ∷ c ∷ d ∷ rest) h = refl

pub no_more : (bytes : List ℕ) → length bytes < 4 → addresses_of bytes ≡ []
unfolding addresses_of
no_more [] h = refl
no_more (a ∷ []) h = refl
no_more (a ∷ b ∷ []) h = refl
no_more (a ∷ b ∷ c ∷ []) h = refl
no_more (a ∷ b ∷ c ∷ d ∷ rest) h = absurd (omega arith)

pub ruleset passing_over = (front_shorter, over_one_more, over_known, over_cut, over_done)

pub on_ok : {X : Type 0} (b : Bool) (new old x : X) → b ≡ true → new ≡ (if b then x else old) → new ≡ x
on_ok true new old x is e = e
on_ok false new old x is e = cc

pub four_go_on : (all rest done octets behind new : List ℕ) (n : ℕ) → octets ≡ take 4 rest → behind ≡ drop 4 rest → length behind + 4 ≡ length rest →
    n ≡ big_number 4 octets
    → new ≡ done ++ n ∷ [] → done ++ addresses_of rest ≡ all → new ++ addresses_of behind ≡ all
four_go_on all rest done octets behind new n front back long is pushed so_far =
    let one : addresses_of rest ≡ n ∷ addresses_of behind = four_more rest (omega arith) ∙ rw (is, front, back) refl in
    ap (λ (xs : List ℕ). xs ++ addresses_of behind) pushed ∙ append_assoc done (n ∷ []) (addresses_of behind) ∙ ap (λ (xs : List ℕ). done ++ xs) (sym one)
    ∙ so_far

pub four_end : (all rest done : List ℕ) → length rest < 4 → done ++ addresses_of rest ≡ all → all ≡ done
four_end all rest done short so_far = sym so_far ∙ ap (λ (xs : List ℕ). done ++ xs) (no_more rest short) ∙ append-nil done
