-- The values of ORIGINATOR_ID and CLUSTER_LIST, as they are read and as they are spelled.
use Rattle.std.proofs.Common.{◌≡◌, ◌≢◌, ◌≤◌, ◌<◌, ◌+◌, ◌*◌, ◌%◌, ◌^◌, ◌==◌, ◌||◌, not, ℕ, Bool, true, false, cond, List, [], ◌∷◌, ◌++◌, length, take, drop}
use Rattle.std.proofs.Common.{◌⊎◌, inl, inr, Option, Some, None, Result, Ok, Err, refl, ap, sym, ◌∙◌, subst, append_assoc, arith}
use Rattle.std.specs.List.{flat_map, AllByRecursion}
use Rattle.std.proofs.lemmas.Bool.{eqb-true, eq-eqb}
use Rattle.std.proofs.lemmas.Bool.Decides.{nat_tests}
use Rattle.std.proofs.lemmas.List.{append-nil, take_all}
use Rattle.byteorder.specs.Endian.{big_number}
use Rattle.byteorder.specs.Numbers.{big_from-lt}
use Rattle.mn_vpn_nlri.specs.Reading.{IsBytes}
use Rattle.mn_base.proofs.Bytes.{IsBytes-drop, IsBytes-take}
use Rattle.mn_base.proofs.Bools.{or_off}
use Rattle.mn_bgp_wire.proofs.Bytes.{number_back, four_of}
use Rattle.mn_bgp_wire.specs.Grammar.{attribute_bytes}
use Rattle.mn_bgp_reflected.specs.Written.{written_clusters}
use Rattle.mn_bgp_reflected.specs.Grammar.{address_bytes, SayOriginator, SayClusters}
use Rattle.mn_bgp_reflected.specs.Reading.{originator_of, addresses_of, clusters_of}
use Rattle.mn_bgp_reflected.specs.declared.refusal.ReflectedBad.{ReflectedBad}
use Rattle.mn_bgp_reflected.specs.declared.refusal.ReflectedBad.TheVariants.{BadOriginator, BadClusters}

abbrev pub done : {X : Type 0} → X → Result X ReflectedBad
done x = Ok x

pub done_is : {X : Type 0} (x y : X) → done x ≡ done y → x ≡ y
done_is x y e = cc

-- a test that isn't refused
unrefused : {X : Type 0} (b : Bool) (bad : ReflectedBad) (x y : X) → cond b (Err bad) (done x) ≡ Ok y → (b ≡ false) × (x ≡ y)
unrefused true bad x y e = absurd cc
unrefused false bad x y e = (refl, cc)

allowed : {X : Type 0} (b : Bool) (bad : ReflectedBad) (x y : X) → cond b (done x) (Err bad) ≡ Ok y → (b ≡ true) × (x ≡ y)
allowed false bad x y e = absurd cc
allowed true bad x y e = (refl, cc)

-- 1. ORIGINATOR_ID

pub originator_again : (value : Option (List ℕ)) (originator : Option ℕ) → SayOriginator value originator → originator_of value ≡ Ok originator
unfolding originator_of
originator_again None originator is = ap done (sym is)
originator_again (Some value) None is = absurd is
originator_again (Some value) (Some originator) is =
    let four : (length value == 4) ≡ true = eq-eqb _ _ (ap length is.whole) in
    let number : big_number 4 value ≡ originator = ap (big_number 4) (is.whole ∙ sym (append-nil (address_bytes originator)))
    ∙ number_back 4 originator [] (let fits = is.fits in omega arith) in
    rw four (ap (λ (n : ℕ). done (Some n)) number)

four_bytes : (value : List ℕ) → length value ≡ 4 → IsBytes value → value ≡ address_bytes (big_number 4 value)
four_bytes (a ∷ b ∷ c ∷ d ∷ []) four fits = sym (four_of a b c d [] (fits.below 0) (fits.below 1) (fits.below 2) (fits.below 3))
four_bytes _ four fits = absurd (omega arith)

number_fits : (value : List ℕ) → IsBytes value → big_number 4 value < 2 ^ 32
number_fits value fits = let less : big_number 4 value < 256 ^ 4 = big_from-lt 0 4 value (λ k. fits.below k) in omega arith

pub originator_takes : (value : Option (List ℕ)) (originator : Option ℕ) → ((bytes : List ℕ) → value ≡ Some bytes → IsBytes bytes) →
    originator_of value ≡ Ok originator → SayOriginator value originator
unfolding originator_of
originator_takes None originator fits e = sym (done_is None originator e)
originator_takes (Some value) originator fits e =
    let a = allowed (length value == 4) BadOriginator (Some (big_number 4 value)) originator e in
    subst (λ (o : Option ℕ). SayOriginator (Some value) o) a.1
    (record { fits = number_fits value (fits value refl); whole = four_bytes value (eqb-true _ _ a.0) (fits value refl) })

pub originator_refused : (value : List ℕ) → length value ≢ 4 → originator_of (Some value) ≡ Err BadOriginator
unfolding originator_of
originator_refused value other = let four : (length value == 4) ≡ false = grind (arith, nat_tests) in rw four refl

-- 2. CLUSTER_LIST

pub addresses_first : (bytes : List ℕ) → 4 ≤ length bytes → addresses_of bytes ≡ big_number 4 bytes ∷ addresses_of (drop 4 bytes)
unfolding addresses_of
addresses_first (a ∷ b ∷ c ∷ d ∷ rest) long = refl
addresses_first _ long = absurd (omega arith)

pub no_addresses : (bytes : List ℕ) → length bytes < 4 → addresses_of bytes ≡ []
unfolding addresses_of
no_addresses (a ∷ b ∷ c ∷ d ∷ rest) short = absurd (omega arith)
no_addresses _ short = refl

pub addresses_length : (addresses : List ℕ) → length (flat_map address_bytes addresses) ≡ 4 * length addresses
addresses_length [] = refl
addresses_length (one ∷ more) = let l = addresses_length more in omega arith

addresses_again : (addresses : List ℕ) → AllByRecursion (λ (address : ℕ). address < 2 ^ 32) addresses →
    addresses_of (flat_map address_bytes addresses) ≡ addresses
unfolding addresses_of
addresses_again [] fit = refl
addresses_again (one ∷ more) fit =
    let bytes = address_bytes one ++ flat_map address_bytes more in
    let number : big_number 4 bytes ≡ one = number_back 4 one (flat_map address_bytes more) (let less = fit.0 in omega arith) in
    addresses_first bytes (omega arith)
    ∙ ap (λ (n : ℕ). n ∷ addresses_of (flat_map address_bytes more)) number
    ∙ ap (λ (ns : List ℕ). one ∷ ns) (addresses_again more fit.1)

pub clusters_again : (value : Option (List ℕ)) (clusters : List ℕ) → SayClusters value clusters → clusters_of value ≡ Ok clusters
unfolding clusters_of
clusters_again None clusters is = ap done (sym is)
clusters_again (Some value) clusters is =
    let some = is.some in
    let size : length value ≡ 4 * length clusters = ap length is.whole ∙ addresses_length clusters in
    let there : (length value == 0) ≡ false = grind (arith, nat_tests) in
    let whole : (length value % 4 == 0) ≡ true = grind (arith, nat_tests) in
    rw (there, whole) (ap done (ap addresses_of is.whole ∙ addresses_again clusters is.fit))

addresses_are : (bytes : List ℕ) → IsBytes bytes → length bytes % 4 ≡ 0 → bytes ≡ flat_map address_bytes (addresses_of bytes)
unfolding addresses_of
addresses_are [] fits whole = refl
addresses_are (a ∷ b ∷ c ∷ d ∷ rest) fits whole =
    let others = IsBytes-drop 4 (a ∷ b ∷ c ∷ d ∷ rest) fits in
    ap (λ (xs : List ℕ). a ∷ b ∷ c ∷ d ∷ xs) (addresses_are rest others (omega arith))
    ∙ ap (λ (xs : List ℕ). xs ++ flat_map address_bytes (addresses_of rest))
    (sym (four_of a b c d [] (fits.below 0) (fits.below 1) (fits.below 2) (fits.below 3)))
addresses_are _ fits whole = absurd (omega arith)

addresses_fit : (bytes : List ℕ) → IsBytes bytes → AllByRecursion (λ (address : ℕ). address < 2 ^ 32) (addresses_of bytes)
unfolding addresses_of
addresses_fit (a ∷ b ∷ c ∷ d ∷ rest) fits =
    (number_fits (a ∷ b ∷ c ∷ d ∷ []) (IsBytes-take 4 (a ∷ b ∷ c ∷ d ∷ rest) fits), addresses_fit rest (IsBytes-drop 4 (a ∷ b ∷ c ∷ d ∷ rest) fits))
addresses_fit _ fits = tt

some_address : (bytes : List ℕ) → (length bytes == 0) ≡ false → length bytes % 4 ≡ 0 → 0 < length (addresses_of bytes)
unfolding addresses_of
some_address [] there whole = absurd cc
some_address (a ∷ b ∷ c ∷ d ∷ rest) there whole = omega arith
some_address _ there whole = absurd (omega arith)

pub clusters_takes : (value : Option (List ℕ)) (clusters : List ℕ) → ((bytes : List ℕ) → value ≡ Some bytes → IsBytes bytes) →
    clusters_of value ≡ Ok clusters → SayClusters value clusters
unfolding clusters_of
clusters_takes None clusters fits e = sym (done_is [] clusters e)
clusters_takes (Some value) clusters fits e =
    let u = unrefused ((length value == 0) || not (length value % 4 == 0)) BadClusters (addresses_of value) clusters e in
    let o = or_off (length value == 0) (not (length value % 4 == 0)) u.0 in
    let test = o.1 in
    let whole : length value % 4 ≡ 0 = grind (arith, nat_tests) in
    subst (λ (cs : List ℕ). SayClusters (Some value) cs) u.1
    (record {
      some = some_address value o.0 whole;
      fit = addresses_fit value (fits value refl);
      whole = addresses_are value (fits value refl) whole;
    })

pub clusters_refused : (value : List ℕ) → (length value ≡ 0) ⊎ (length value % 4 ≢ 0) → clusters_of (Some value) ≡ Err BadClusters
unfolding clusters_of
clusters_refused value wrong = by (length value == 0) (length value % 4 == 0) refl refl
  where
    by : (b c : Bool) → (length value == 0) ≡ b → (length value % 4 == 0) ≡ c →
        cond (b || not c) (Err BadClusters) (done (addresses_of value)) ≡ Err BadClusters
    by true c p q = refl
    by false false p q = refl
    by false true p q = absurd (elim wrong [
      | inl none ↦ grind (arith, nat_tests)
      | inr broken ↦ grind (arith, nat_tests)
    ])

-- 3. A loop over addresses: those that were read, and then those behind them

four_more : (rest : List ℕ) → 4 ≤ length rest → addresses_of rest ≡ big_number 4 (take 4 rest) ∷ addresses_of (drop 4 rest)
unfolding addresses_of
four_more (a ∷ b ∷ c ∷ d ∷ rest) long = refl
four_more _ long = absurd (omega arith)

pub one_more : (all rest found octets behind new : List ℕ) (n : ℕ) → octets ≡ take 4 rest → behind ≡ drop 4 rest → length behind + 4 ≡ length rest →
    n ≡ big_number 4 octets → new ≡ found ++ n ∷ [] → found ++ addresses_of rest ≡ all → new ++ addresses_of behind ≡ all
one_more all rest found octets behind new n front back long is pushed so_far =
    let one : addresses_of rest ≡ n ∷ addresses_of behind = four_more rest (omega arith) ∙ rw (is, front, back) refl in
    ap (λ (xs : List ℕ). xs ++ addresses_of behind) pushed ∙ append_assoc found (n ∷ []) (addresses_of behind)
    ∙ ap (λ (xs : List ℕ). found ++ xs) (sym one) ∙ so_far

pub all_read : (all rest found : List ℕ) → length rest < 4 → found ++ addresses_of rest ≡ all → all ≡ found
all_read all rest found short so_far = sym so_far ∙ ap (λ (xs : List ℕ). found ++ xs) (no_addresses rest short) ∙ append-nil found

-- The clusters that were put, and their length
pub all_put : (out old clusters : List ℕ) (k : ℕ) → length clusters ≤ k →
    out ≡ (old ++ 0x80 ∷ 10 ∷ 4 * length clusters ∷ []) ++ flat_map address_bytes (take k clusters) → out ≡ old ++ attribute_bytes (written_clusters clusters)
all_put out old clusters k all is =
    is ∙ append_assoc old (0x80 ∷ 10 ∷ 4 * length clusters ∷ []) (flat_map address_bytes (take k clusters))
    ∙ ap (λ (xs : List ℕ). old ++ 0x80 ∷ 10 ∷ 4 * length clusters ∷ flat_map address_bytes xs) (take_all k clusters all)
    ∙ ap (λ (n : ℕ). old ++ 0x80 ∷ 10 ∷ n ∷ flat_map address_bytes clusters) (sym (addresses_length clusters))
