-- A route at the front of bytes: what is a route is read, and what is read is a route.
use Rattle.std.proofs.Common.{◌≡◌, ◌==◌, ◌≤◌, ◌<◌, ◌+◌, ◌-◌, ◌/◌, ◌%◌, ◌^◌, ℕ, zero, suc, Bool, true, false, List, [], ◌∷◌, ◌++◌, length, take, drop}
use Rattle.std.proofs.Common.{Result, Ok, Err, refl, ap, sym, ◌∙◌, subst, arith, if◌then◌else◌}
use Rattle.std.specs.Prelude.{nat_lt, not, ◌||◌, ◌≢◌, slice_range, is_ok, OnOk, IfOk, IfErr}
use Rattle.std.proofs.lemmas.List.{length-append, length-drop, length-take-le, take_at, take-append-drop}
use Rattle.std.proofs.Math.Seq.{take-add, take-append-add}
use Rattle.std.proofs.lemmas.Bool.Decides.{nat_tests}
use Rattle.mn_base.proofs.Bools.{not_false, or_off}
use Rattle.byteorder.specs.Endian.{big_bytes, big_number}
use Rattle.byteorder.specs.Numbers.{big_number-reads_back, big_from-lt}
use Rattle.mn_base.specs.Numbers.{has_rd_form}
use Rattle.mn_vpn_nlri.specs.declared.message.VpnRoute.{VpnRoute}
use Rattle.mn_vpn_nlri.specs.declared.refusal.NlriBad.{NlriBad}
use Rattle.mn_vpn_nlri.specs.declared.refusal.NlriBad.TheVariants.{Short, BadLength, BadRd, HostBits, NoMemory}
use Rattle.mn_vpn_nlri.specs.Grammar.{IsVpnRoute, IsNlri, nlri_of, label_field, written, written_field, as_read, bits_before_prefix}
use Rattle.mn_prefix.specs.Octets.{octets, prefix_octets}
use Rattle.mn_vpn_nlri.specs.Reading.{IsBytes, first_refusal, unless, vpn_route_of, route_at, bits_of, size_of, rd_of, nlri_label, prefix_address_of}
use Rattle.mn_vpn_nlri.specs.Reading.{prefix_length_of, has_host_bits}
use Rattle.mn_base.proofs.Bytes.{IsBytes-drop, IsBytes-take}
use Rattle.mn_prefix.proofs.PrefixBytes.{first_bytes, prefix_again, length-prefix_octets}
use Rattle.mn_vpn_nlri.proofs.Numbers.{number-three, number-eight}

-- The rules in order.

passes : {X : Type 0} (x y : X) (a b c d e : Bool) →
    unless (first_refusal ((a, Short) ∷ (b, BadLength) ∷ (c, Short) ∷ (d, BadRd) ∷ (e, HostBits) ∷ [])) x ≡ Ok y →
    (a ≡ false) × (b ≡ false) × (c ≡ false) × (d ≡ false) × (e ≡ false) × (x ≡ y)
passes x y true b c d e h = cc
passes x y false true c d e h = cc
passes x y false false true d e h = cc
passes x y false false false true e h = cc
passes x y false false false false true h = cc
passes x y false false false false false h = (refl, refl, refl, refl, refl, cc)

none_broken : {X : Type 0} (x : X) (a b c d e : Bool) → a ≡ false → b ≡ false → c ≡ false → d ≡ false → e ≡ false →
    unless (first_refusal ((a, Short) ∷ (b, BadLength) ∷ (c, Short) ∷ (d, BadRd) ∷ (e, HostBits) ∷ [])) x ≡ Ok x
none_broken x a b c d e ha hb hc hd he = rw (ha, hb, hc, hd, he) refl

cut_short : {X : Type 0} (x : X) (a b c d e : Bool) → b ≡ false → c ≡ true →
    unless (first_refusal ((a, Short) ∷ (b, BadLength) ∷ (c, Short) ∷ (d, BadRd) ∷ (e, HostBits) ∷ [])) x ≡ Err Short
cut_short x true b c d e hb hc = refl
cut_short x false b c d e hb hc = rw (hb, hc) refl

-- Of a route's bytes and what follows them, each field.

rd_fits : (n : ℕ) → has_rd_form n ≡ true → n < 256 ^ 8
rd_fits n form = let h : n / 2 ^ 48 ≤ 1 = grind (arith, nat_tests) in omega arith

pub length-nlri_of : (field : ℕ) (route : VpnRoute) → IsVpnRoute route → length (nlri_of field route) ≡ 12 + octets route.prefix.length
unfolding nlri_of
length-nlri_of field route lawful = let n = length-prefix_octets route.prefix lawful.prefix.short in omega arith

record Fields (field : ℕ) (route : VpnRoute) (rest : List ℕ) : Type 0 where
  bits_are : bits_of (nlri_of field route ++ rest) ≡ 88 + route.prefix.length
  size_is : size_of (nlri_of field route ++ rest) ≡ length (nlri_of field route)
  rd_is : rd_of (nlri_of field route ++ rest) ≡ route.rd.0
  label_is : nlri_label (nlri_of field route ++ rest) ≡ field / 2 ^ 4
  prefix_length_is : prefix_length_of (nlri_of field route ++ rest) ≡ route.prefix.length
  address_is : prefix_address_of (nlri_of field route ++ rest) ≡ route.prefix.address

fields : (field : ℕ) (route : VpnRoute) (rest : List ℕ) → IsVpnRoute route → field < 2 ^ 24 → Fields field route rest
unfolding nlri_of
fields field route rest lawful fits =
    let short = lawful.prefix.short in
    let size : size_of (nlri_of field route ++ rest) ≡ 12 + octets route.prefix.length = omega arith in
    let few : size_of (nlri_of field route ++ rest) - 12 ≡ octets route.prefix.length = omega arith in
    record {
      bits_are = refl;
      size_is = size ∙ sym (length-nlri_of field route lawful);
      rd_is = big_number-reads_back 8 route.rd.0 (prefix_octets route.prefix ++ rest) (rd_fits route.rd.0 lawful.distinguisher);
      label_is = ap (λ (n : ℕ). n / 2 ^ 4) (big_number-reads_back 3 field (big_bytes 8 route.rd.0 ++ (prefix_octets route.prefix ++ rest)) fits);
      prefix_length_is = omega arith;
      address_is =
          ap (λ (n : ℕ). big_number 4 (take n (prefix_octets route.prefix ++ rest))) few
          ∙ ap (λ (ys : List ℕ). big_number 4 ys)
          (take_at (prefix_octets route.prefix) rest (octets route.prefix.length) (length-prefix_octets route.prefix short))
          ∙ prefix_again route.prefix.address route.prefix.length lawful.prefix;
    }

-- the route with these fields
abbrev made : ℕ → ℕ → ℕ → ℕ → VpnRoute
made rd address bits label = record { rd = record { 0 = rd }; prefix = record { address = address; length = bits }; label = label }

same_made : {rd address bits label rd' address' bits' label' : ℕ} → rd ≡ rd' → address ≡ address' → bits ≡ bits' → label ≡ label' →
    made rd address bits label ≡ made rd' address' bits' label'
same_made a b c d = cc

abbrev found : VpnRoute → ℕ → Result (VpnRoute × ℕ) NlriBad
found route size = Ok (route, size)

-- What a route's bytes are, is read, with the first 20 bits of the label field as its label.
pub nlri_is_read : (field : ℕ) (route : VpnRoute) (rest : List ℕ) → IsVpnRoute route → field < 2 ^ 24 → field / 2 ^ 4 ≡ route.label →
    route_at (nlri_of field route ++ rest) ≡ Ok (route, length (nlri_of field route))
unfolding route_at
nlri_is_read field route rest lawful fits label =
    let bytes = nlri_of field route ++ rest in
    let f = fields field route rest lawful fits in
    let bits = f.bits_are in
    let size = f.size_is in
    let short = lawful.prefix.short in
    let long : length bytes ≡ length (nlri_of field route) + length rest = length-append (nlri_of field route) rest in
    let there : length (nlri_of field route) ≡ 12 + octets route.prefix.length = length-nlri_of field route lawful in
    let some : (length bytes == 0) ≡ false = grind (arith, nat_tests) in
    let low : nat_lt (bits_of bytes) bits_before_prefix ≡ false = grind (arith, nat_tests) in
    let high : nat_lt (bits_before_prefix + 32) (bits_of bytes) ≡ false = grind (arith, nat_tests) in
    let lengths : (nat_lt (bits_of bytes) bits_before_prefix || nat_lt (bits_before_prefix + 32) (bits_of bytes)) ≡ false = rw (low, high) refl in
    let whole : nat_lt (length bytes) (size_of bytes) ≡ false = grind (arith, nat_tests) in
    let rd : not (has_rd_form (rd_of bytes)) ≡ false = ap (λ (n : ℕ). not (has_rd_form n)) f.rd_is ∙ ap not lawful.distinguisher in
    let clear : has_host_bits (prefix_address_of bytes) (prefix_length_of bytes) ≡ false =
    ap (λ (n : ℕ). has_host_bits n (prefix_length_of bytes)) f.address_is ∙ ap (λ (n : ℕ). has_host_bits route.prefix.address n) f.prefix_length_is
    ∙ ap (λ (n : ℕ). not (n == 0)) lawful.prefix.clear in
    let is : vpn_route_of bytes ≡ route = same_made f.rd_is f.address_is f.prefix_length_is (f.label_is ∙ label) in
    let whole_is : route_at bytes ≡ found (vpn_route_of bytes) (size_of bytes) =
    none_broken (vpn_route_of bytes, size_of bytes) (length bytes == 0)
    (nat_lt (bits_of bytes) bits_before_prefix || nat_lt (bits_before_prefix + 32) (bits_of bytes)) (nat_lt (length bytes) (size_of bytes))
    (not (has_rd_form (rd_of bytes))) (has_host_bits (prefix_address_of bytes) (prefix_length_of bytes)) some lengths whole rd clear in
    let same : found (vpn_route_of bytes) (size_of bytes) ≡ found route (length (nlri_of field route)) =
    ap (λ (r : VpnRoute). found r (size_of bytes)) is ∙ ap (λ (n : ℕ). found route n) size in
    whole_is ∙ same

pub route_is_read : (bytes rest : List ℕ) (route : VpnRoute) → IsNlri bytes route → route_at (bytes ++ rest) ≡ Ok (route, length bytes)
route_is_read bytes rest route is =
    let field = label_field route.label is.low in
    let lawful = is.is_route in
    let low = is.low_fits in
    let label = lawful.label in
    subst (λ (xs : List ℕ). route_at (xs ++ rest) ≡ Ok (route, length xs)) (sym is.whole) (nlri_is_read field route rest lawful (omega arith) (omega arith))

-- what is read

pub record IsRead (bytes : List ℕ) (route : VpnRoute) (size : ℕ) : Type 0 where
  pub low : 88 ≤ bits_of bytes
  pub high : bits_of bytes ≤ 120
  pub whole : size_of bytes ≤ length bytes
  pub rd : has_rd_form (rd_of bytes) ≡ true
  pub clear : has_host_bits (prefix_address_of bytes) (prefix_length_of bytes) ≡ false
  pub route_is : vpn_route_of bytes ≡ route
  pub size_is : size_of bytes ≡ size

pub is_read : (bytes : List ℕ) (route : VpnRoute) (size : ℕ) → route_at bytes ≡ Ok (route, size) → IsRead bytes route size
unfolding route_at
is_read bytes route size e =
    let p = passes (vpn_route_of bytes, size_of bytes) (route, size) (length bytes == 0)
    (nat_lt (bits_of bytes) bits_before_prefix || nat_lt (bits_before_prefix + 32) (bits_of bytes)) (nat_lt (length bytes) (size_of bytes))
    (not (has_rd_form (rd_of bytes))) (has_host_bits (prefix_address_of bytes) (prefix_length_of bytes)) e in
    let lengths = or_off (nat_lt (bits_of bytes) bits_before_prefix) (nat_lt (bits_before_prefix + 32) (bits_of bytes)) p.1 in
    record {
      low = grind (arith, nat_tests, lengths.0);
      high = grind (arith, nat_tests, lengths.1);
      whole = grind (arith, nat_tests, p.2);
      rd = not_false (has_rd_form (rd_of bytes)) p.3;
      clear = p.4;
      route_is = ap (λ (x : VpnRoute × ℕ). x.0) p.5;
      size_is = ap (λ (x : VpnRoute × ℕ). x.1) p.5;
    }

pub read_within : (bytes : List ℕ) (route : VpnRoute) (size : ℕ) → route_at bytes ≡ Ok (route, size) → (0 < size) × (size ≤ length bytes)
read_within bytes route size e =
    let r = is_read bytes route size e in
    let low = r.low in
    let whole = r.whole in
    let is = r.size_is in
    (omega arith, omega arith)

-- of bytes that are read, each field again

front_again : (bytes : List ℕ) → IsBytes bytes → 12 ≤ length bytes →
    (tail : List ℕ) → bits_of bytes ∷ big_bytes 3 (big_number 3 (drop 1 bytes)) ++ big_bytes 8 (rd_of bytes) ++ tail ≡ take 12 bytes ++ tail
front_again (n ∷ p ∷ q ∷ r ∷ a ∷ b ∷ c ∷ d ∷ e ∷ f ∷ g ∷ h ∷ rest) bytes long tail =
    let field : big_bytes 3 (big_number 3 (p ∷ q ∷ r ∷ [])) ≡ p ∷ q ∷ r ∷ [] = number-three p q r (bytes.below 1) (bytes.below 2) (bytes.below 3) in
    let behind = IsBytes-take 8 (a ∷ b ∷ c ∷ d ∷ e ∷ f ∷ g ∷ h ∷ rest) (IsBytes-drop 4 (n ∷ p ∷ q ∷ r ∷ a ∷ b ∷ c ∷ d ∷ e ∷ f ∷ g ∷ h ∷ rest) bytes) in
    let rd : big_bytes 8 (big_number 8 (a ∷ b ∷ c ∷ d ∷ e ∷ f ∷ g ∷ h ∷ [])) ≡ a ∷ b ∷ c ∷ d ∷ e ∷ f ∷ g ∷ h ∷ [] = number-eight a b c d e f g h behind in
    ap (λ (ys : List ℕ). n ∷ ys ++ big_bytes 8 (big_number 8 (a ∷ b ∷ c ∷ d ∷ e ∷ f ∷ g ∷ h ∷ [])) ++ tail) field
    ∙ ap (λ (ys : List ℕ). n ∷ p ∷ q ∷ r ∷ ys ++ tail) rd
front_again _ bytes long tail = absurd (omega arith)

octets_again : (bytes : List ℕ) → IsBytes bytes → 88 ≤ bits_of bytes → bits_of bytes ≤ 120 → size_of bytes ≤ length bytes →
    take (octets (prefix_length_of bytes)) (big_bytes 4 (prefix_address_of bytes)) ≡ take (octets (prefix_length_of bytes)) (drop 12 bytes)
octets_again bytes h low high whole =
    let count : size_of bytes - 12 ≡ octets (prefix_length_of bytes) = omega arith in
    let part = take (octets (prefix_length_of bytes)) (drop 12 bytes) in
    let size : length part ≡ octets (prefix_length_of bytes) =
    length-take-le (octets (prefix_length_of bytes)) (drop 12 bytes) (omega (arith, length-drop 12 bytes)) in
    ap (λ (n : ℕ). take (octets (prefix_length_of bytes)) (big_bytes 4 (big_number 4 (take n (drop 12 bytes))))) count
    ∙ first_bytes (octets (prefix_length_of bytes)) part (IsBytes-take (octets (prefix_length_of bytes)) (drop 12 bytes) (IsBytes-drop 12 bytes h)) size
    (omega arith)

read_again : (bytes : List ℕ) → IsBytes bytes → 88 ≤ bits_of bytes → bits_of bytes ≤ 120 → size_of bytes ≤ length bytes → has_rd_form (rd_of bytes) ≡ true →
    has_host_bits (prefix_address_of bytes) (prefix_length_of bytes) ≡ false → IsNlri (take (size_of bytes) bytes) (vpn_route_of bytes)
unfolding nlri_of
read_again bytes h low high whole rd clear =
    let field = big_number 3 (drop 1 bytes) in
    let fits : field < 256 ^ 3 = big_from-lt 0 3 (drop 1 bytes) (λ k. (IsBytes-drop 1 bytes h).below k) in
    let address_fits : prefix_address_of bytes < 256 ^ 4 =
    big_from-lt 0 4 (slice_range bytes 12 (size_of bytes)) (λ k. (IsBytes-take (size_of bytes - 12) (drop 12 bytes) (IsBytes-drop 12 bytes h)).below k)
    in
    let zeros : prefix_address_of bytes % 2 ^ (32 - prefix_length_of bytes) ≡ 0 =
    grind (arith, nat_tests, not_false (prefix_address_of bytes % 2 ^ (32 - prefix_length_of bytes) == 0) clear) in
    let bits : bits_before_prefix + prefix_length_of bytes ≡ bits_of bytes = omega arith in
    let fields : label_field (nlri_label bytes) (field % 2 ^ 4) ≡ field = omega arith in
    let size : size_of bytes ≡ 12 + octets (prefix_length_of bytes) = omega arith in
    let front : take (size_of bytes) bytes ≡ take 12 bytes ++ take (octets (prefix_length_of bytes)) (drop 12 bytes) =
    ap (λ (n : ℕ). take n bytes) size ∙ take-add 12 (octets (prefix_length_of bytes)) bytes in
    record {
      is_route = record { distinguisher = rd; label = omega arith; prefix = record { fits = omega arith; short = omega arith; clear = zeros } };
      low = field % 2 ^ 4;
      low_fits = omega arith;
      whole =
          front
          ∙ sym (front_again bytes h (omega arith) (take (octets (prefix_length_of bytes)) (drop 12 bytes)))
          ∙ ap (λ (ys : List ℕ). bits_of bytes ∷ big_bytes 3 field ++ big_bytes 8 (rd_of bytes) ++ ys) (sym (octets_again bytes h low high whole))
          ∙ ap (λ (n : ℕ). n ∷ big_bytes 3 field ++ big_bytes 8 (rd_of bytes) ++ prefix_octets (record {
            address = prefix_address_of bytes;
            length =
                prefix_length_of bytes;
          })) (sym bits)
          ∙ ap (λ (f : ℕ). nlri_of f (vpn_route_of bytes)) (sym fields);
    }

pub read_is_route : (bytes : List ℕ) (route : VpnRoute) (size : ℕ) → IsBytes bytes → route_at bytes ≡ Ok (route, size) → IsNlri (take size bytes) route
read_is_route bytes route size h e =
    let r = is_read bytes route size e in
    let low = r.low in
    let high = r.high in
    let whole = r.whole in
    subst (λ (x : ℕ). IsNlri (take x bytes) route) r.size_is
    (subst (λ (x : VpnRoute). IsNlri (take (size_of bytes) bytes) x) r.route_is (read_again bytes h low high whole r.rd r.clear))

-- Of a route that is cut short nothing is read.

cut_nlri : (field : ℕ) (route : VpnRoute) (size : ℕ) → IsVpnRoute route → size < length (nlri_of field route) →
    route_at (take size (nlri_of field route)) ≡ Err Short
unfolding route_at nlri_of
cut_nlri field route zero lawful cut = refl
cut_nlri field route (suc size) lawful cut =
    let short = lawful.prefix.short in
    let there : length (nlri_of field route) ≡ 12 + octets route.prefix.length = length-nlri_of field route lawful in
    let bytes = take (suc size) (nlri_of field route) in
    let long : length bytes ≡ suc size = length-take-le (suc size) (nlri_of field route) (omega arith) in
    let bits : bits_of bytes ≡ 88 + route.prefix.length = refl in
    let low : nat_lt (bits_of bytes) bits_before_prefix ≡ false = grind (arith, nat_tests) in
    let high : nat_lt (bits_before_prefix + 32) (bits_of bytes) ≡ false = grind (arith, nat_tests) in
    let lengths : (nat_lt (bits_of bytes) bits_before_prefix || nat_lt (bits_before_prefix + 32) (bits_of bytes)) ≡ false = rw (low, high) refl in
    let less : length bytes < size_of bytes = omega arith in
    let whole : nat_lt (length bytes) (size_of bytes) ≡ true = grind (arith, nat_tests) in
    cut_short (vpn_route_of bytes, size_of bytes) (length bytes == 0)
    (nat_lt (bits_of bytes) bits_before_prefix || nat_lt (bits_before_prefix + 32) (bits_of bytes)) (nat_lt (length bytes) (size_of bytes))
    (not (has_rd_form (rd_of bytes))) (has_host_bits (prefix_address_of bytes) (prefix_length_of bytes)) lengths whole

pub cut_is_short : (bytes : List ℕ) (route : VpnRoute) (size : ℕ) → IsNlri bytes route → size < length bytes → route_at (take size bytes) ≡ Err Short
cut_is_short bytes route size is cut =
    let field = label_field route.label is.low in
    let shorter : size < length (nlri_of field route) = subst (λ (xs : List ℕ). size < length xs) is.whole cut in
    subst (λ (xs : List ℕ). route_at (take size xs) ≡ Err Short) (sym is.whole) (cut_nlri field route size is.is_route shorter)

-- What is written is a route.

pub written_is_route : (route : VpnRoute) (withdrawn : Bool) → IsVpnRoute route → IsNlri (written route withdrawn) (as_read route withdrawn)
unfolding nlri_of
written_is_route route true lawful = record {
  is_route = record { distinguisher = lawful.distinguisher; label = omega arith; prefix = lawful.prefix };
  low = 0;
  low_fits = omega arith;
  whole = refl;
}
written_is_route route false lawful = record { is_route = lawful; low = 1; low_fits = omega arith; whole = refl }

pub written_is_read : (route : VpnRoute) (withdrawn : Bool) (rest : List ℕ) → IsVpnRoute route →
    route_at (written route withdrawn ++ rest) ≡ Ok (as_read route withdrawn, length (written route withdrawn))
written_is_read route withdrawn rest lawful = route_is_read (written route withdrawn) rest (as_read route withdrawn) (written_is_route route withdrawn lawful)

-- The same, of what a call answered.

pub found_by : (answer : Result (VpnRoute × ℕ) NlriBad) (bytes : List ℕ) → IsBytes bytes → answer ≡ route_at bytes →
    IfOk answer (λ found. IsNlri (take found.1 bytes) found.0)
found_by (Ok found) bytes is e = read_is_route bytes found.0 found.1 is (sym e)
found_by (Err bad) bytes is e = tt

pub within_by : (answer : Result (VpnRoute × ℕ) NlriBad) (bytes : List ℕ) → answer ≡ route_at bytes →
    IfOk answer (λ found. (0 < found.1) × (found.1 ≤ length bytes))
within_by (Ok found) bytes e = read_within bytes found.0 found.1 (sym e)
within_by (Err bad) bytes e = tt

pub only_by : (bytes : List ℕ) (route : VpnRoute) (size : ℕ) → size ≤ length bytes → IsNlri (take size bytes) route → route_at bytes ≡ Ok (route, size)
only_by bytes route size within is =
    let long : length (take size bytes) ≡ size = length-take-le size bytes within in
    ap route_at (sym (take-append-drop size bytes)) ∙ route_is_read (take size bytes) (drop size bytes) route is ∙ ap (λ (n : ℕ). found route n) long

no_memory : {X : Type 0} (x : X) (bad : NlriBad) (a b c d e : Bool) →
    unless (first_refusal ((a, Short) ∷ (b, BadLength) ∷ (c, Short) ∷ (d, BadRd) ∷ (e, HostBits) ∷ [])) x ≡ Err bad → bad ≡ NoMemory → ⊥
no_memory x bad true b c d e h is = cc
no_memory x bad false true c d e h is = cc
no_memory x bad false false true d e h is = cc
no_memory x bad false false false true e h is = cc
no_memory x bad false false false false true h is = cc
no_memory x bad false false false false false h is = cc

pub no_memory_by : (answer : Result (VpnRoute × ℕ) NlriBad) (bytes : List ℕ) → answer ≡ route_at bytes → IfErr answer (λ bad. bad ≢ NoMemory)
unfolding route_at
no_memory_by (Ok found) bytes e = tt
no_memory_by (Err bad) bytes e =
    no_memory (vpn_route_of bytes, size_of bytes) bad (length bytes == 0)
    (nat_lt (bits_of bytes) bits_before_prefix || nat_lt (bits_before_prefix + 32) (bits_of bytes)) (nat_lt (length bytes) (size_of bytes))
    (not (has_rd_form (rd_of bytes))) (has_host_bits (prefix_address_of bytes) (prefix_length_of bytes)) (sym e)

-- Appending the bytes of a route, the first of those with the whole address.

pub taken : (size : ℕ) (fields : List ℕ) (field : ℕ) (route : VpnRoute) → size ≡ 12 + octets route.prefix.length →
    fields ≡ (88 + route.prefix.length) ∷ big_bytes 3 field ++ big_bytes 8 route.rd.0 ++ big_bytes 4 route.prefix.address →
    take size fields ≡ nlri_of field route
unfolding nlri_of
taken size fields field route few are =
    let front = (88 + route.prefix.length) ∷ big_bytes 3 field ++ big_bytes 8 route.rd.0 in
    ap (λ (n : ℕ). take n fields) few
    ∙ ap (λ (xs : List ℕ). take (12 + octets route.prefix.length) xs) are
    ∙ take-append-add front (big_bytes 4 route.prefix.address) (octets route.prefix.length)

pub appended : {T E : Type 0} (answer : Result T E) (new old : List ℕ) (size : ℕ) (fields : List ℕ) (route : VpnRoute) (withdrawn : Bool) →
    size ≡ 12 + octets route.prefix.length →
    fields ≡ (88 + route.prefix.length) ∷ big_bytes 3 (written_field route withdrawn) ++ big_bytes 8 route.rd.0 ++ big_bytes 4 route.prefix.address →
    new ≡ (if is_ok answer then old ++ take size fields else old) → OnOk answer (new ≡ old ++ written route withdrawn)
appended (Ok x) new old size fields route withdrawn few are is =
    is ∙ ap (λ (xs : List ℕ). old ++ xs) (taken size fields (written_field route withdrawn) route few are)
appended (Err e) new old size fields route withdrawn few are is = tt
