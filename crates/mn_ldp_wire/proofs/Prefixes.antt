-- A FEC's one element, by its tests.
use Rattle.std.proofs.Common.{◌+◌, ◌*◌, zero, suc, [], ◌∷◌, ◌≡◌, ◌≤◌, ◌<◌, ◌-◌, ◌%◌, ◌^◌, ℕ, Bool, true, false, List, length, drop, take, Some, None, refl}
use Rattle.std.proofs.Common.{ap, sym, ◌∙◌, subst, arith, if◌then◌else◌}
use Rattle.std.specs.Prelude.{slice_index}
use Rattle.std.proofs.lemmas.List.{length-drop, take_all, length-take-le}
use Rattle.std.proofs.lemmas.Nat.{mod-pow-add}
use Rattle.std.proofs.lemmas.Bool.{and_parts, and_from, leb-true, le-leb, eqb-true, eq-eqb}
use Rattle.byteorder.specs.Endian.{big_bytes, big_number}
use Rattle.mn_prefix.specs.Prefix.{AddressBlock, IsPrefix}
use Rattle.mn_ldp_wire.specs.Grammar.{IsBytes, prefix_element}
use Rattle.mn_prefix.specs.Octets.{octets}
use Rattle.mn_ldp_wire.specs.Reading.{octets_of, bits_of, is_prefix_element, prefix_of}
use Rattle.mn_prefix.specs.Octets.{address_of}
use Rattle.mn_base.proofs.Bytes.{IsBytes-drop}

pub record IsElement (value : List ℕ) : Type 0 where
  pub header : 4 ≤ length value
  pub element : slice_index value 0 ≡ 2
  pub family : big_number 2 (drop 1 value) ≡ 1
  pub bits : bits_of value ≤ 32
  pub first_bytes : length (octets_of value) ≡ octets (bits_of value)
  pub clear : address_of (octets_of value) % 2 ^ (32 - bits_of value) ≡ 0

abbrev pub prefix_in : List ℕ → AddressBlock
prefix_in value = record { address = address_of (octets_of value); length = bits_of value }

element_passes : (value : List ℕ) → IsElement value → is_prefix_element value ≡ true
element_passes value e =
    and_from _ _ (and_from _ _ (and_from _ _ (and_from _ _ (and_from _ _
    (le-leb _ _ e.header) (eq-eqb _ _ e.element)) (eq-eqb _ _ e.family)) (le-leb _ _ e.bits)) (eq-eqb _ _ e.first_bytes)) (eq-eqb _ _ e.clear)

passes_is : (value : List ℕ) → is_prefix_element value ≡ true → IsElement value
passes_is value h =
    let f = and_parts _ _ h in
    let o = and_parts _ _ f.0 in
    let b = and_parts _ _ o.0 in
    let a = and_parts _ _ b.0 in
    let e = and_parts _ _ a.0 in
    record {
      header = leb-true _ _ e.0;
      element = eqb-true _ _ e.1;
      family = eqb-true _ _ a.1;
      bits = leb-true _ _ b.1;
      first_bytes = eqb-true _ _ o.1;
      clear = eqb-true _ _ f.1;
    }

by_test : (value : List ℕ) (b : Bool) → is_prefix_element value ≡ b → prefix_of value ≡ (if b then Some (prefix_in value) else None)
unfolding prefix_of
by_test value b e = rw e refl

none_by_test : (value : List ℕ) (b : Bool) → is_prefix_element value ≡ b → (IsElement value → ⊥) → prefix_of value ≡ None
none_by_test value true e h = absurd (h (passes_is value e))
none_by_test value false e h = by_test value false e

pub prefix_none : (value : List ℕ) → (IsElement value → ⊥) → prefix_of value ≡ None
prefix_none value h = none_by_test value (is_prefix_element value) refl h

pub prefix_some : (value : List ℕ) → IsElement value → prefix_of value ≡ Some (prefix_in value)
prefix_some value e = by_test value true (element_passes value e)

some_by_test : (value : List ℕ) (p : AddressBlock) (b : Bool) → is_prefix_element value ≡ b → prefix_of value ≡ Some p → IsElement value × (p ≡ prefix_in value)
some_by_test value p true e h =
    let both : Some (prefix_in value) ≡ Some p = sym (by_test value true e) ∙ h in
    (passes_is value e, cc)
some_by_test value p false e h =
    let both : None ≡ Some p = sym (by_test value false e) ∙ h in
    cc

pub prefix_is : (value : List ℕ) (p : AddressBlock) → prefix_of value ≡ Some p → IsElement value × (p ≡ prefix_in value)
prefix_is value p h = some_by_test value p (is_prefix_element value) refl h

-- ---- as the reader goes

-- the bytes behind the first four, as a slice has them
pub octets_all : (value : List ℕ) → take (length value - 4) (drop 4 value) ≡ octets_of value
octets_all value = take_all (length value - 4) (drop 4 value) (omega (arith, length-drop 4 value))

-- no prefix has these numbers
pub not_an_element : (value first_bytes : List ℕ) (address bits : ℕ) → first_bytes ≡ octets_of value → address ≡ address_of first_bytes →
    bits ≡ bits_of value → address < 2 ^ 32 → (IsPrefix address bits → ⊥) → prefix_of value ≡ None
not_an_element value first_bytes address bits same is bits_is fits none =
    let a : address_of (octets_of value) ≡ address = sym (is ∙ ap address_of same) in
    prefix_none value (λ e. none (record {
      fits = fits;
      short = subst (λ (n : ℕ). n ≤ 32) (sym bits_is) e.bits;
      clear = subst (λ (n : ℕ). n % 2 ^ (32 - bits) ≡ 0) a (subst (λ (n : ℕ). address_of (octets_of value) % 2 ^ (32 - n) ≡ 0) (sym bits_is) e.clear);
    }))

-- these are a prefix's
pub an_element : (value first_bytes : List ℕ) (address bits : ℕ) (p : AddressBlock) → 4 ≤ length value → slice_index value 0 ≡ 2 →
    big_number 2 (drop 1 value) ≡ 1 → first_bytes ≡ octets_of value → address ≡ address_of first_bytes → bits ≡ bits_of value
    → p ≡ record { address = address; length = bits } → IsPrefix p.address p.length → length first_bytes ≡ octets p.length → prefix_of value ≡ Some p
an_element value first_bytes address bits p header element family same is bits_is p_is form size =
    let a : address ≡ address_of (octets_of value) = is ∙ ap address_of same in
    let p_in : p ≡ prefix_in value =
    p_is ∙ ap (λ (x : ℕ). record { address = x; length = bits }) a
    ∙ ap (λ (n : ℕ). record { address = address_of (octets_of value); length = n }) bits_is in
    let f : IsPrefix (prefix_in value).address (prefix_in value).length = subst (λ (q : AddressBlock). IsPrefix q.address q.length) p_in form in
    let e : IsElement value = record {
      header = header;
      element = element;
      family = family;
      bits = f.short;
      first_bytes = sym (ap length same) ∙ size ∙ ap (λ (q : AddressBlock). octets q.length) p_in;
      clear = f.clear;
    } in
    prefix_some value e ∙ ap Some (sym p_in)

-- ---- the spelling

one_cell : (a b : ℕ) → a ≡ b → a ∷ [] ≡ b ∷ []
one_cell a b e = cc

two_cells : (a b c d : ℕ) → a ≡ b → c ≡ d → a ∷ c ∷ [] ≡ b ∷ d ∷ []
two_cells a b c d e f = cc

three_cells : (a b c d x y : ℕ) → a ≡ b → c ≡ d → x ≡ y → a ∷ c ∷ x ∷ [] ≡ b ∷ d ∷ y ∷ []
three_cells a b c d x y e f g = cc

four_cells : (a b c d x y v w : ℕ) → a ≡ b → c ≡ d → x ≡ y → v ≡ w → a ∷ c ∷ x ∷ v ∷ [] ≡ b ∷ d ∷ y ∷ w ∷ []
four_cells a b c d x y v w e f g h = cc

-- the first_bytes are the first bytes of their address
pub octets_again : (first_bytes : List ℕ) → IsBytes first_bytes → length first_bytes ≤ 4 →
    (first_bytes ≡ take (length first_bytes) (big_bytes 4 (address_of first_bytes))) × (address_of first_bytes < 2 ^ 32)
octets_again [] h short = (refl, omega arith)
octets_again (a ∷ []) h short = (let x = h.below 0 in (one_cell _ _ (omega arith), omega arith))
octets_again (a ∷ b ∷ []) h short = (let x = h.below 0 in let y = h.below 1 in (two_cells _ _ _ _ (omega arith) (omega arith), omega arith))
octets_again (a ∷ b ∷ c ∷ []) h short =
    (let x = h.below 0 in let y = h.below 1 in let z = h.below 2 in (three_cells _ _ _ _ _ _ (omega arith) (omega arith) (omega arith), omega arith))
octets_again (a ∷ b ∷ c ∷ d ∷ []) h short =
    (let x = h.below 0 in let y = h.below 1 in let z = h.below 2 in let w = h.below 3 in
    (four_cells _ _ _ _ _ _ _ _ (omega arith) (omega arith) (omega arith) (omega arith), omega arith))
octets_again (a ∷ b ∷ c ∷ d ∷ e ∷ first_bytes) h short = absurd (omega arith)

-- an address is that of its first n bytes, where the others are zero
address_back : (n address : ℕ) → n ≤ 4 → address < 2 ^ 32 → address % 2 ^ (32 - 8 * n) ≡ 0 → address_of (take n (big_bytes 4 address)) ≡ address
address_back zero address h fits clear = omega arith
address_back (suc zero) address h fits clear = omega arith
address_back (suc (suc zero)) address h fits clear = omega arith
address_back (suc (suc (suc zero))) address h fits clear = omega arith
address_back (suc (suc (suc (suc zero)))) address h fits clear = omega arith
address_back (suc (suc (suc (suc (suc n))))) address h fits clear = absurd (omega arith)

-- whole bytes have at least the bits that they hold
bytes_clear : (bits address : ℕ) → bits ≤ 32 → address % 2 ^ (32 - bits) ≡ 0 → address % 2 ^ (32 - 8 * octets bits) ≡ 0
bytes_clear bits address short clear =
    let k = 32 - 8 * octets bits in
    let j = 8 * octets bits - bits in
    let both : 32 - bits ≡ j + k = omega arith in
    let split : address % 2 ^ (j + k) ≡ 0 = subst (λ (n : ℕ). address % 2 ^ n ≡ 0) both clear in
    omega (arith, split, mod-pow-add address j k)

five_cells : (a b c d x y v w : ℕ) (xs ys : List ℕ) → a ≡ b → c ≡ d → x ≡ y → v ≡ w → xs ≡ ys → a ∷ c ∷ x ∷ v ∷ xs ≡ b ∷ d ∷ y ∷ w ∷ ys
five_cells a b c d x y v w xs ys e f g h i = cc

element_whole : (value : List ℕ) → IsBytes value → IsElement value →
    (value ≡ prefix_element (prefix_in value)) × IsPrefix (prefix_in value).address (prefix_in value).length
unfolding prefix_element
element_whole [] h e = (let long = e.header in absurd (omega arith))
element_whole (a ∷ []) h e = (let long = e.header in absurd (omega arith))
element_whole (a ∷ b ∷ []) h e = (let long = e.header in absurd (omega arith))
element_whole (a ∷ b ∷ c ∷ []) h e = (let long = e.header in absurd (omega arith))
element_whole (a ∷ b ∷ c ∷ d ∷ first_bytes) h e =
    let family : b * 256 + (c * 1 + 0) ≡ 1 = e.family in
    let bits = e.bits in
    let size : length first_bytes ≡ octets d = e.first_bytes in
    let o = octets_again first_bytes (IsBytes-drop 4 (a ∷ b ∷ c ∷ d ∷ first_bytes) h) (omega arith) in
    let same : first_bytes ≡ take (octets d) (big_bytes 4 (address_of first_bytes)) =
    o.0 ∙ ap (λ (n : ℕ). take n (big_bytes 4 (address_of first_bytes))) size in (
      five_cells _ _ _ _ _ _ d d first_bytes _ e.element (omega arith) (omega arith) refl same,
      record { fits = o.1; short = e.bits; clear = e.clear },
    )

pub element_is : (value : List ℕ) (p : AddressBlock) → IsBytes value → prefix_of value ≡ Some p → (value ≡ prefix_element p) × IsPrefix p.address p.length
element_is value p h is =
    let e = prefix_is value p is in
    subst (λ (q : AddressBlock). (value ≡ prefix_element q) × IsPrefix q.address q.length) (sym e.1) (element_whole value h e.0)

pub element_again : (p : AddressBlock) → IsPrefix p.address p.length → prefix_of (prefix_element p) ≡ Some p
unfolding prefix_element
element_again p form =
    let n = octets p.length in
    let first_bytes : List ℕ = take n (big_bytes 4 p.address) in
    let short = form.short in
    let size : length first_bytes ≡ n = length-take-le n (big_bytes 4 p.address) (omega arith) in
    let back : address_of first_bytes ≡ p.address = address_back n p.address (omega arith) form.fits (bytes_clear p.length p.address form.short form.clear) in
    prefix_some (prefix_element p) (record {
      header = omega arith;
      element = refl;
      family = refl;
      bits = form.short;
      first_bytes = size;
      clear = subst (λ (a : ℕ). a % 2 ^ (32 - p.length) ≡ 0) (sym back) form.clear;
    }) ∙ ap (λ (a : ℕ). Some (record { address = a; length = p.length })) back
