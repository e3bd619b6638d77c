-- The attributes of an UPDATE as a list: from the bytes and back, each type once, each lawful, none missing.
use Rattle.std.proofs.Common.{◌≡◌, ◌≢◌, ◌≤◌, ◌<◌, ◌/◌, ◌%◌, ◌^◌, ◌==◌, ◌&&◌, ◌||◌, not, ℕ, suc, Bool, true, false, cond, List, [], ◌∷◌, ◌++◌, length}
use Rattle.std.proofs.Common.{Option, Some, None, refl, ap, sym, ◌∙◌, subst, arith, length-append}
use Rattle.std.specs.Prelude.{slice_index_or}
use Rattle.std.specs.Option.{option_map}
use Rattle.std.specs.List.{list_all, find, AllByRecursion, AllPairs}
use Rattle.std.proofs.lemmas.Bool.{eqb-true, eq-eqb}
use Rattle.std.proofs.lemmas.Bool.Decides.{nat_tests}
use Rattle.std.proofs.lemmas.List.Elements.{All-from_recursion}
use Rattle.std.proofs.lemmas.List.Kept.{AllPairs-cons}
use Rattle.byteorder.specs.Endian.{big_number, big_bytes}
use Rattle.mn_vpn_nlri.specs.Reading.{IsBytes}
use Rattle.mn_bgp_wire.specs.Grammar.{PathAttribute, attribute_bytes, attributes_bytes, length_bytes, is_extended, is_optional, is_known_attribute, has}
use Rattle.mn_bgp_wire.specs.Grammar.{value_of}
use Rattle.mn_bgp_wire.specs.Grammar.{update_body, IsLawful, HasAllWanted, origin_kind, local_pref_kind, as_path_kind, mp_reach_kind, mp_unreach_kind}
use Rattle.mn_bgp_wire.specs.Grammar.{extended_communities_kind}
use Rattle.mn_bgp_wire.specs.Reading.{attribute_at, attributes_of, attributes_in, has_twice, is_lawful, is_missing}
use Rattle.mn_bgp_wire.proofs.Bytes.{bytes-rest, bytes-front, number_back, two_of}
use Rattle.mn_bgp_wire.proofs.InTurn.{items_again, items_take}
use Rattle.mn_bgp_wire.proofs.Parts.{attributes_shorten, attributes_read, attributes_take, IsShort}
use Rattle.mn_bgp_wire.proofs.Results.{both_true, and_true, or_no}

-- From the bytes and back.

all_short : (attributes : List PathAttribute) → length (attributes_bytes attributes) < 2 ^ 16 → AllByRecursion IsShort attributes
all_short [] h = tt
all_short (a ∷ others) h =
    let whole = length-append (attribute_bytes a) (attributes_bytes others) in
    let one = length-append (a.flags ∷ a.kind ∷ length_bytes (is_extended a.flags) (length a.value)) a.value in
    (omega arith, all_short others (omega arith))

listed : (c d : ℕ) (rest : List ℕ) → (big_number 2 (c ∷ d ∷ rest) == length rest) ≡ true → attributes_in (0 ∷ 0 ∷ c ∷ d ∷ rest) ≡ attributes_of rest
unfolding attributes_in
listed c d rest h = rw h refl

pub list_again : (attributes : List PathAttribute) → length (attributes_bytes attributes) < 2 ^ 16 →
    attributes_in (update_body (attributes_bytes attributes)) ≡ Some attributes
list_again attributes h =
    let bytes = attributes_bytes attributes in
    listed (length bytes / 256 % 256) (length bytes % 256) bytes (eq-eqb _ _ (number_back 2 (length bytes) bytes h))
    ∙ items_again attribute_at attribute_bytes IsShort attributes_shorten attributes_read attributes (all_short attributes h)

none_guard : {A : Type 0} (b : Bool) (o : Option A) (y : A) → cond b None o ≡ Some y → (b ≡ false) × (o ≡ Some y)
none_guard true o y e = absurd cc
none_guard false o y e = (refl, e)

respelled : (a b c d : ℕ) (rest x bytes : List ℕ) → a ≡ 0 → b ≡ 0 → x ≡ c ∷ d ∷ [] → rest ≡ bytes → a ∷ b ∷ c ∷ d ∷ rest ≡ (0 ∷ 0 ∷ []) ++ x ++ bytes
respelled a b c d rest x bytes p q r s =
    let first : a ∷ b ∷ c ∷ d ∷ rest ≡ 0 ∷ 0 ∷ c ∷ d ∷ rest = cc in
    first ∙ ap (λ (y : List ℕ). (0 ∷ 0 ∷ []) ++ y ++ rest) (sym r) ∙ ap (λ (y : List ℕ). ((0 ∷ 0 ∷ []) ++ x) ++ y) s

listed_takes : (a b c d : ℕ) (rest : List ℕ) (attributes : List PathAttribute) → IsBytes (a ∷ b ∷ c ∷ d ∷ rest) →
    attributes_in (a ∷ b ∷ c ∷ d ∷ rest) ≡ Some attributes → a ∷ b ∷ c ∷ d ∷ rest ≡ update_body (attributes_bytes attributes)
unfolding attributes_in
listed_takes a b c d rest attributes fits e =
    let q = none_guard (not (big_number 2 (a ∷ b ∷ c ∷ d ∷ rest) == 0) || not (big_number 2 (c ∷ d ∷ rest) == length rest)) (attributes_of rest) attributes e in
    let t = both_true (big_number 2 (a ∷ b ∷ c ∷ d ∷ rest) == 0) (big_number 2 (c ∷ d ∷ rest) == length rest) q.0 in
    let withdrawn : big_number 2 (a ∷ b ∷ c ∷ d ∷ rest) ≡ 0 = eqb-true _ _ t.0 in
    let len : big_number 2 (c ∷ d ∷ rest) ≡ length rest = eqb-true _ _ t.1 in
    let rest_fits = bytes-rest (a ∷ b ∷ c ∷ d ∷ []) rest fits in
    let spelled : rest ≡ attributes_bytes attributes = items_take attribute_at attribute_bytes attributes_take (length rest) rest attributes rest_fits q.1 in
    let two : big_bytes 2 (length (attributes_bytes attributes)) ≡ c ∷ d ∷ [] =
    ap (big_bytes 2) (sym (len ∙ ap length spelled)) ∙ two_of c d rest (fits.below 2) (fits.below 3) in
    respelled a b c d rest (big_bytes 2 (length (attributes_bytes attributes))) (attributes_bytes attributes) (omega arith) (omega arith) two spelled

pub list_takes : (body : List ℕ) (attributes : List PathAttribute) → IsBytes body → 4 ≤ length body → attributes_in body ≡ Some attributes →
    body ≡ update_body (attributes_bytes attributes)
list_takes (a ∷ b ∷ c ∷ d ∷ rest) attributes fits long e = listed_takes a b c d rest attributes fits e
list_takes _ attributes fits long e = absurd (omega arith)

-- Each type once.

Differ : PathAttribute → PathAttribute → Type 0
Differ earlier later = earlier.kind ≢ later.kind

has_none : (kind : ℕ) (attributes : List PathAttribute) →
    ((j : ℕ) (d : PathAttribute) → j < length attributes → kind ≢ (slice_index_or attributes j d).kind) → has kind attributes ≡ false
has_none kind [] h = refl
has_none kind (a ∷ others) h =
    let other = h 0 a (omega arith) in
    let here : (a.kind == kind) ≡ false = grind (arith, nat_tests) in
    rw here (has_none kind others (λ j d lt. h (suc j) d (omega arith)))

pub once_again : (attributes : List PathAttribute) → AllPairs (λ earlier later. earlier.kind ≢ later.kind) attributes → has_twice attributes ≡ false
once_again [] h = refl
once_again (a ∷ others) h =
    let here : has a.kind others ≡ false = has_none a.kind others (λ j d lt. h 0 (suc j) d (omega arith) (omega arith)) in
    rw here (once_again others (λ i j d lt within. h (suc i) (suc j) d (omega arith) (omega arith)))

differs : (a : PathAttribute) (attributes : List PathAttribute) → has a.kind attributes ≡ false → AllByRecursion (λ later. a.kind ≢ later.kind) attributes
differs a [] h = tt
differs a (b ∷ bs) h =
    let o = or_no (b.kind == a.kind) (has a.kind bs) h in
    let test = o.0 in
    ((λ same. let equal : (b.kind == a.kind) ≡ true = grind (arith, nat_tests) in absurd cc), differs a bs o.1)

pub once_takes : (attributes : List PathAttribute) → has_twice attributes ≡ false → AllPairs (λ earlier later. earlier.kind ≢ later.kind) attributes
once_takes [] h = λ i j d lt within. absurd (omega arith)
once_takes (a ∷ others) h =
    let o = or_no (has a.kind others) (has_twice others) h in
    AllPairs-cons (λ (earlier later : PathAttribute). earlier.kind ≢ later.kind) a others
    (All-from_recursion (λ (later : PathAttribute). a.kind ≢ later.kind) others (differs a others o.0)) (once_takes others o.1)

-- Each lawful.

lawful_by : (o l known optional one four : Bool) → (o ≡ true → one ≡ true) → (l ≡ true → four ≡ true) →
    (known ≡ false → optional ≡ true) → cond o one (cond l four (known || optional)) ≡ true
lawful_by true l known optional one four p q r = p refl
lawful_by false true known optional one four p q r = q refl
lawful_by false false true optional one four p q r = refl
lawful_by false false false optional one four p q r = r refl

lawful_takes_by : (o l known optional one four : Bool) → cond o one (cond l four (known || optional)) ≡ true
    → (o ≡ true → one ≡ true) × (o ≡ false → l ≡ true → four ≡ true) × (o ≡ false → l ≡ false → known ≡ false → optional ≡ true)
lawful_takes_by true l known optional one four e = (λ p. e, λ p q. absurd cc, λ p q r. absurd cc)
lawful_takes_by false true known optional one four e = (λ p. absurd cc, λ p q. e, λ p q r. absurd cc)
lawful_takes_by false false true optional one four e = (λ p. absurd cc, λ p q. absurd cc, λ p q r. absurd cc)
lawful_takes_by false false false optional one four e = (λ p. absurd cc, λ p q. absurd cc, λ p q r. e)

-- what isn't known is none of the known types
is_other : (type kind : ℕ) → is_known_attribute type ≡ true → is_known_attribute kind ≡ false → (kind == type) ≡ false
is_other type kind known unknown = not_equal (kind == type) refl
  where
    not_equal : (b : Bool) → (kind == type) ≡ b → b ≡ false
    not_equal true is = let same = ap is_known_attribute (eqb-true kind type is) in absurd cc
    not_equal false is = refl

lawful_again : (a : PathAttribute) → IsLawful a → is_lawful a ≡ true
unfolding is_lawful
lawful_again a is =
    lawful_by (a.kind == origin_kind) (a.kind == local_pref_kind) (is_known_attribute a.kind) (is_optional a.flags) (length a.value == 1) (length a.value == 4)
    (λ t. eq-eqb _ _ (is.of_origin (eqb-true _ _ t))) (λ t. eq-eqb _ _ (is.of_local_pref (eqb-true _ _ t))) is.of_unknown

lawful_takes : (a : PathAttribute) → is_lawful a ≡ true → IsLawful a
unfolding is_lawful
lawful_takes a e =
    let t = lawful_takes_by (a.kind == origin_kind) (a.kind == local_pref_kind) (is_known_attribute a.kind) (is_optional a.flags) (length a.value == 1)
    (length a.value == 4) e in
    record {
      of_origin = λ is. eqb-true _ _ (t.0 (eq-eqb _ _ is));
      of_local_pref = λ is. let other : (a.kind == origin_kind) ≡ false = grind (arith, nat_tests) in eqb-true _ _ (t.1 other (eq-eqb _ _ is));
      of_unknown = λ is. t.2 (is_other origin_kind a.kind refl is) (is_other local_pref_kind a.kind refl is) is;
    }

pub all_lawful_again : (attributes : List PathAttribute) → AllByRecursion IsLawful attributes → list_all is_lawful attributes ≡ true
all_lawful_again [] h = refl
all_lawful_again (a ∷ others) h = let one = lawful_again a h.0 in rw one (all_lawful_again others h.1)

pub all_lawful_take : (attributes : List PathAttribute) → list_all is_lawful attributes ≡ true → AllByRecursion IsLawful attributes
all_lawful_take [] h = tt
all_lawful_take (a ∷ others) h = let t = and_true (is_lawful a) (list_all is_lawful others) h in (lawful_takes a t.0, all_lawful_take others t.1)

-- None missing.

wanted_by : (reach unreach beside : Bool) → (reach || unreach) ≡ true → (reach ≡ true → beside ≡ true) → cond reach (not beside) (not unreach) ≡ false
wanted_by true unreach beside some h = ap not (h refl)
wanted_by false true beside some h = refl
wanted_by false false beside some h = absurd cc

wanted_takes_by : (reach unreach beside : Bool) → cond reach (not beside) (not unreach) ≡ false → ((reach || unreach) ≡ true) × (reach ≡ true → beside ≡ true)
wanted_takes_by true unreach true e = (refl, λ h. refl)
wanted_takes_by true unreach false e = absurd cc
wanted_takes_by false true beside e = (refl, λ h. absurd cc)
wanted_takes_by false false beside e = absurd cc

pub wanted_again : (attributes : List PathAttribute) → HasAllWanted attributes → is_missing attributes ≡ false
unfolding is_missing
wanted_again others w =
    wanted_by (has mp_reach_kind others) (has mp_unreach_kind others)
    (has origin_kind others && has as_path_kind others && has local_pref_kind others && has extended_communities_kind others) w.some w.beside

pub wanted_take : (attributes : List PathAttribute) → is_missing attributes ≡ false → HasAllWanted attributes
unfolding is_missing
wanted_take others e = let w =
    wanted_takes_by (has mp_reach_kind others) (has mp_unreach_kind others)
    (has origin_kind others && has as_path_kind others && has local_pref_kind others && has extended_communities_kind others) e in
    record { some = w.0; beside = w.1 }

-- The bytes of a value.

found_fits : (b : Bool) (a : PathAttribute) (more : Option PathAttribute) (value : List ℕ) → IsBytes a.value →
    ((v : List ℕ) → option_map (λ (attribute : PathAttribute). attribute.value) more ≡ Some v → IsBytes v)
    → option_map (λ (attribute : PathAttribute). attribute.value) (cond b (Some a) more) ≡ Some value → IsBytes value
found_fits true a more value here later e = let same : a.value ≡ value = cc in subst IsBytes same here
found_fits false a more value here later e = later value e

pub value_fits : (kind : ℕ) (attributes : List PathAttribute) (value : List ℕ) → IsBytes (attributes_bytes attributes) →
    value_of kind attributes ≡ Some value → IsBytes value
value_fits kind [] value fits e = absurd cc
value_fits kind (a ∷ others) value fits e =
    let one = bytes-front (attribute_bytes a) (attributes_bytes others) fits in
    let rest = bytes-rest (attribute_bytes a) (attributes_bytes others) fits in
    let here = bytes-rest (a.flags ∷ a.kind ∷ length_bytes (is_extended a.flags) (length a.value)) a.value one in
    found_fits (a.kind == kind) a (find (λ (attribute : PathAttribute). attribute.kind == kind) others) value here (λ v. value_fits kind others v rest) e
