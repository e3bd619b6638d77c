-- A look-up from the longest length on: the first prefix that is there is the longest match.
use Rattle.std.proofs.Common.{◌≡◌, ◌<◌, ◌≤◌, ◌-◌, ◌*◌, ◌/◌, ◌%◌, ◌^◌, ℕ, Bool, true, false, cond, List, [], ◌∷◌, Option, Some, None, refl, ap, sym, ◌∙◌}
use Rattle.std.proofs.Common.{subst, arith, ◌⊎◌, inl, inr}
use Rattle.std.specs.Prelude.{nat_le}
use Rattle.std.proofs.lemmas.Bool.Decides.{nat_tests}
use Rattle.std.specs.List.{AllByRecursion}
use Rattle.std.specs.Map.{keys_of}
use Rattle.std.specs.Option.{option_map, is_some}
use Rattle.std.proofs.lemmas.Nat.{pow_pos}
use Rattle.std.proofs.Math.Nat.{mul-div_cancel, mod-eq-sub-div-mul, div-mul-le_self}
use Rattle.mn_base.proofs.Bools.{two_ways, test_same, same_numbers}
use Rattle.mn_prefix.specs.Prefix.{AddressBlock, IsPrefix, contains, same_prefix}
use Rattle.mn_prefix.specs.Table.{IsTable, value_at, longest_match}
use Rattle.mn_prefix.proofs.Tables.{same_exact}
use Rattle.mn_prefix.proofs.Matches.{longest_some, longest_none}
use Rattle.mn_lpm.specs.Levels.{network, prefix_at, pair_at}

-- a prefix that contains the address is the address's of its length
its_prefix : (p : AddressBlock) (address : ℕ) → IsPrefix p.address p.length → contains p address ≡ true → p ≡ prefix_at p.length address
its_prefix p address form covers =
    let size : ℕ = 2 ^ (32 - p.length) in
    let some : 0 < size = pow_pos (32 - p.length) in
    let bits : address / size ≡ p.address / size = same_numbers _ _ covers in
    let clear : p.address % size ≡ 0 = form.clear in
    let whole : p.address ≡ p.address / size * size = omega (arith, sym (mod-eq-sub-div-mul p.address size) ∙ clear, div-mul-le_self p.address size) in
    ap (λ n. record { address = n; length = p.length }) (whole ∙ ap (λ n. n * size) (sym bits))

-- the address's prefix is one
pub network_is : (size address : ℕ) → address < 2 ^ 32 → size ≤ 32 → IsPrefix (network size address) size
network_is size address fits short = record {
  fits = omega (arith, fits, div-mul-le_self address (2 ^ (32 - size)));
  short = short;
  clear = mod-eq-sub-div-mul (network size address) (2 ^ (32 - size))
      ∙ ap (λ n. network size address - n * 2 ^ (32 - size)) (mul-div_cancel (address / 2 ^ (32 - size)) (pow_pos (32 - size)))
      ∙ itself (network size address);
}
  where
    itself : (n : ℕ) → n - n ≡ 0
    itself n = omega arith

contains_it : (size address : ℕ) → contains (prefix_at size address) address ≡ true
contains_it size address = test_same _ _ (sym (mul-div_cancel (address / 2 ^ (32 - size)) (pow_pos (32 - size))))

module _ {T : Type 0} where
  pub form_of : (P : AddressBlock → Type 0) (p : AddressBlock) (v : T) (pairs : List (AddressBlock × T)) → AllByRecursion P (keys_of pairs) →
      value_at p pairs ≡ Some v → P p
  form_of P p v [] h e = cc
  form_of P p v (pair ∷ pairs) h e = split (same_prefix p pair.0) refl (form_of P p v pairs h.1) e
    where
      split : (b : Bool) → same_prefix p pair.0 ≡ b → (value_at p pairs ≡ Some v → P p) → cond b (Some pair.1) (value_at p pairs) ≡ Some v → P p
      split true same more e = subst P (sym (same_exact p pair.0 same)) h.0
      split false other more e = more e

  -- no prefix of the address that is longer than this has a value
  abbrev pub NoneLonger : ℕ → ℕ → List (AddressBlock × T) → Type 0
  NoneLonger size address pairs = (n : ℕ) → size < n → n ≤ 32 → value_at (prefix_at n address) pairs ≡ None

  pub none_pair : (p : AddressBlock) (pairs : List (AddressBlock × T)) → None ≡ value_at p pairs → ◌≡◌ {A = Option (AddressBlock × T)} None (pair_at p pairs)
  none_pair p pairs h = ap (option_map (λ value. (p, value))) h

  pub some_pair : (p q : AddressBlock) (v : T) (pairs : List (AddressBlock × T)) → q ≡ p → Some v ≡ value_at p pairs →
      ◌≡◌ {A = Option (AddressBlock × T)} (Some (q, v)) (pair_at p pairs)
  some_pair p q v pairs same h = ap (λ q. let o : Option (AddressBlock × T) = Some (q, v) in o) same ∙ ap (option_map (λ value. (p, value))) h

  pub no_pair : (p : AddressBlock) (pairs : List (AddressBlock × T)) → pair_at p pairs ≡ None → value_at p pairs ≡ None
  no_pair p pairs h = by (value_at p pairs) h
    where
      by : (o : Option T) → option_map {U = AddressBlock × T} (λ value. (p, value)) o ≡ None → o ≡ None
      by None h = refl
      by (Some v) h = cc

  apart : (o : Option T) (v : T) → o ≡ None → o ≡ Some v → ⊥
  apart None v e k = cc
  apart (Some w) v e k = cc

  no_longer : (address size : ℕ) (pairs : List (AddressBlock × T)) → IsTable pairs → NoneLonger size address pairs →
      (p : AddressBlock) (v : T) → value_at p pairs ≡ Some v → contains p address ≡ true → p.length ≤ size
  no_longer address size pairs table none p v held covers = by_size (two_ways (nat_le p.length size))
    where
      form : IsPrefix p.address p.length
      form = form_of (λ p. IsPrefix p.address p.length) p v pairs table.prefixes held

      by_size : (nat_le p.length size ≡ true) ⊎ (nat_le p.length size ≡ false) → p.length ≤ size
      by_size (inl h) = grind (arith, nat_tests, h)
      by_size (inr h) =
          absurd (apart (value_at p pairs) v (ap (λ q. value_at q pairs) (its_prefix p address form covers)
          ∙ none p.length (grind (arith, nat_tests, h)) form.short) held)

  pub first_is_longest : (address size : ℕ) (pairs : List (AddressBlock × T)) (v : T) → IsTable pairs → NoneLonger size address pairs →
      value_at (prefix_at size address) pairs ≡ Some v → longest_match address pairs ≡ Some (prefix_at size address, v)
  first_is_longest address size pairs v table none there =
      (longest_some address pairs (prefix_at size address, v) table).1 (record {
        held = there;
        covers = contains_it size address;
        longest = λ p w held covers. no_longer address size pairs table none p w held covers;
      })

  pub none_is_longest : (address : ℕ) (pairs : List (AddressBlock × T)) → IsTable pairs →
      ((n : ℕ) → n ≤ 32 → value_at (prefix_at n address) pairs ≡ None) → longest_match address pairs ≡ None
  none_is_longest address pairs table none =
      (longest_none address pairs table).1 (λ p v held. not_it p v held (two_ways (contains p address)))
    where
      not_it : (p : AddressBlock) (v : T) → value_at p pairs ≡ Some v → (contains p address ≡ true) ⊎ (contains p address ≡ false) → contains p address ≡ false
      not_it p v held (inr other) = other
      not_it p v held (inl covers) =
          let form = form_of (λ p. IsPrefix p.address p.length) p v pairs table.prefixes held in
          absurd (apart (value_at p pairs) v (ap (λ q. value_at q pairs) (its_prefix p address form covers) ∙ none p.length form.short) held)

  pub first_pair : (address size : ℕ) (pairs : List (AddressBlock × T)) → IsTable pairs → NoneLonger size address pairs →
      is_some (pair_at (prefix_at size address) pairs) ≡ true → pair_at (prefix_at size address) pairs ≡ longest_match address pairs
  first_pair address size pairs table none some = by (value_at (prefix_at size address) pairs) refl some
    where
      by : (o : Option T) → value_at (prefix_at size address) pairs ≡ o →
          is_some (option_map {U = AddressBlock × T} (λ value. (prefix_at size address, value)) o) ≡ true →
          pair_at (prefix_at size address) pairs ≡ longest_match address pairs
      by None e h = cc
      by (Some v) e h = ap (option_map (λ value. (prefix_at size address, value))) e ∙ sym (first_is_longest address size pairs v table none e)

  pub mapped_some : {B : Type 0} (f : B → AddressBlock × T) (o : Option B) (pair : Option (AddressBlock × T)) → option_map f o ≡ pair → is_some o ≡ true →
      is_some pair ≡ true
  mapped_some f None pair e h = cc
  mapped_some f (Some x) pair e h = ap is_some (sym e)
