-- The front of a list of parameters, capabilities or attributes.
use Rattle.std.proofs.Common.{◌≡◌, ◌≤◌, ◌<◌, ◌+◌, ◌*◌, ◌^◌, ℕ, Bool, true, false, cond, ltb, List, [], ◌∷◌, ◌++◌, length, take, drop, Option, Some, None}
use Rattle.std.proofs.Common.{refl, ap, sym, ◌∙◌, subst, append_assoc, arith, length-append, length-drop}
use Rattle.std.proofs.lemmas.Bool.{ltb-false, le-ltb}
use Rattle.std.proofs.lemmas.List.{take_at, drop_at, take-append-drop, length-take}
use Rattle.byteorder.specs.Endian.{big_bytes}
use Rattle.mn_vpn_nlri.specs.Reading.{IsBytes}
use Rattle.mn_bgp_wire.specs.Items.{◌>>=◌}
use Rattle.mn_bgp_wire.specs.Grammar.{Field, field_bytes, PathAttribute, is_extended, length_bytes, attribute_bytes}
use Rattle.mn_bgp_wire.specs.Reading.{sized, cut, field_at, attribute_at}
use Rattle.mn_bgp_wire.proofs.Bytes.{bytes-cons, two_again, two_back}
use Rattle.mn_bgp_wire.proofs.InTurn.{Shortens, Reads, Takes}

-- the value of a step that didn't fail
pub then_some : {A B : Type 0} (o : Option A) (f : A → Option B) (y : B) → (o >>= f) ≡ Some y → (x : A) × (o ≡ Some x) × (f x ≡ Some y)
then_some None f y e = absurd cc
then_some (Some x) f y e = (x, refl, e)

-- a test that didn't fail
pub else_some : {A : Type 0} (b : Bool) (x y : A) → cond b None (Some x) ≡ Some y → (b ≡ false) × (x ≡ y)
else_some true x y e = absurd cc
else_some false x y e = (refl, cc)

abbrev some : {A : Type 0} → A → Option A
some x = Some x

pub some_is : {A : Type 0} (x y : A) → some x ≡ some y → x ≡ y
some_is x y e = cc

-- a value, and what is left, of bytes that have a length in front
pub record IsCut (found : ℕ × List ℕ) (parts : List ℕ × List ℕ) : Type 0 where
  pub whole : found.0 ≤ length found.1
  pub value_is : take found.0 found.1 ≡ parts.0
  pub rest_is : drop found.0 found.1 ≡ parts.1

pub cut_is : (found : ℕ × List ℕ) (parts : List ℕ × List ℕ) → cut found ≡ Some parts → IsCut found parts
cut_is found parts e =
    let g = else_some (ltb (length found.1) found.0) (take found.0 found.1, drop found.0 found.1) parts e in
    record {
      whole = ltb-false _ _ g.0;
      value_is = ap (λ (p : List ℕ × List ℕ). p.0) g.1;
      rest_is = ap (λ (p : List ℕ × List ℕ). p.1) g.1;
    }

sized_shortens : (extended : Bool) (rest : List ℕ) (found : ℕ × List ℕ) → sized extended rest ≡ Some found → length found.1 < length rest
sized_shortens true [] found e = absurd cc
sized_shortens true (a ∷ []) found e = absurd cc
sized_shortens true (a ∷ b ∷ rest) found e = subst (λ (f : ℕ × List ℕ). length f.1 < length (a ∷ b ∷ rest)) (some_is (a * 256 + b, rest) found e) (omega arith)
sized_shortens false [] found e = absurd cc
sized_shortens false (a ∷ rest) found e = subst (λ (f : ℕ × List ℕ). length f.1 < length (a ∷ rest)) (some_is (a, rest) found e) (omega arith)

parts_shorten : (extended : Bool) (rest : List ℕ) (parts : List ℕ × List ℕ) → (sized extended rest >>= cut) ≡ Some parts → length parts.1 < length rest
parts_shorten extended rest parts e =
    let s = then_some (sized extended rest) cut parts e in
    let l = sized_shortens extended rest s.0 s.1 in
    let c = cut_is s.0 parts s.2 in
    let left : length (drop s.0.0 s.0.1) ≡ length parts.1 = ap length c.rest_is in
    let less = length-drop s.0.0 s.0.1 in
    omega arith

pub field_shortens : (bytes : List ℕ) (found : Field × List ℕ) → field_at bytes ≡ Some found → length found.1 < length bytes
unfolding field_at
field_shortens [] found e = absurd cc
field_shortens (kind ∷ rest) found e =
    let s = then_some (sized false rest >>= cut) (λ parts. Some (record { kind = kind; value = parts.0 }, parts.1)) found e in
    let l = parts_shorten false rest s.0 s.1 in
    let same : s.0.1 ≡ found.1 = ap (λ (f : Field × List ℕ). f.1) (some_is (record { kind = kind; value = s.0.0 }, s.0.1) found s.2) in
    let len = ap length same in
    omega arith

pub fields_shorten : Shortens field_at
fields_shorten = record { shorter = field_shortens }

pub attribute_shortens : (bytes : List ℕ) (found : PathAttribute × List ℕ) → attribute_at bytes ≡ Some found → length found.1 < length bytes
unfolding attribute_at
attribute_shortens [] found e = absurd cc
attribute_shortens (flags ∷ []) found e = absurd cc
attribute_shortens (flags ∷ kind ∷ rest) found e =
    let s = then_some (sized (is_extended flags) rest >>= cut) (λ parts. Some (record { flags = flags; kind = kind; value = parts.0 }, parts.1)) found e in
    let l = parts_shorten (is_extended flags) rest s.0 s.1 in
    let same : s.0.1 ≡ found.1 = ap (λ (f : PathAttribute × List ℕ). f.1) (some_is (record { flags = flags; kind = kind; value = s.0.0 }, s.0.1) found s.2) in
    let len = ap length same in
    omega arith

pub attributes_shorten : Shortens attribute_at
attributes_shorten = record { shorter = attribute_shortens }

-- What is spelled so is read.

cut_again : (value rest : List ℕ) → cut (length value, value ++ rest) ≡ Some (value, rest)
cut_again value rest =
    let whole : ltb (length (value ++ rest)) (length value) ≡ false = le-ltb _ _ (let l = length-append value rest in omega arith) in
    rw (whole, take_at value rest (length value) refl, drop_at value rest (length value) refl) refl

sized_again : (extended : Bool) (n : ℕ) (rest : List ℕ) → n < 2 ^ 16 → sized extended (length_bytes extended n ++ rest) ≡ Some (n, rest)
sized_again true n rest h = ap (λ (m : ℕ). some (m, rest)) (two_back n h)
sized_again false n rest h = refl

field_again : (field : Field) (rest : List ℕ) → field_at (field_bytes field ++ rest) ≡ Some (field, rest)
unfolding field_at
field_again field rest = rw (cut_again field.value rest) refl

abbrev pub AnyField : Field → Type 0
AnyField field = Unit {0}

pub fields_read : Reads field_at field_bytes AnyField
fields_read = record { again = λ field rest fits. field_again field rest }

abbrev pub IsShort : PathAttribute → Type 0
IsShort attribute = length attribute.value < 2 ^ 16

attribute_again : (attribute : PathAttribute) (rest : List ℕ) → IsShort attribute → attribute_at (attribute_bytes attribute ++ rest) ≡ Some (attribute, rest)
unfolding attribute_at
attribute_again attribute rest h =
    let extended = is_extended attribute.flags in
    let split : (length_bytes extended (length attribute.value) ++ attribute.value) ++ rest ≡ length_bytes extended (length attribute.value) ++
    (attribute.value ++ rest) = append_assoc (length_bytes extended (length attribute.value)) attribute.value rest in
    ap (λ (xs : List ℕ). attribute_at (attribute.flags ∷ attribute.kind ∷ xs)) split
    ∙ rw (sized_again extended (length attribute.value) (attribute.value ++ rest) h, cut_again attribute.value rest) refl

pub attributes_read : Reads attribute_at attribute_bytes IsShort
attributes_read = record { again = attribute_again }

-- What is read is spelled so.

cut_takes : (n : ℕ) (rest : List ℕ) (parts : List ℕ × List ℕ) → cut (n, rest) ≡ Some parts → (n ≡ length parts.0) × (rest ≡ parts.0 ++ parts.1)
cut_takes n rest parts e =
    let c = cut_is (n, rest) parts e in
    let whole = c.whole in
    let len : length (take n rest) ≡ n = omega (arith, length-take n rest) in (
      sym len ∙ ap length c.value_is,
      sym (take-append-drop n rest) ∙ ap (λ (xs : List ℕ). xs ++ drop n rest) c.value_is
          ∙ ap (λ (xs : List ℕ). parts.0 ++ xs) c.rest_is,
    )

sized_takes : (extended : Bool) (rest : List ℕ) (found : ℕ × List ℕ) → IsBytes rest → sized extended rest ≡ Some found →
    rest ≡ length_bytes extended found.0 ++ found.1
sized_takes true [] found fits e = absurd cc
sized_takes true (a ∷ []) found fits e = absurd cc
sized_takes true (a ∷ b ∷ rest) found fits e =
    let spelled : a ∷ b ∷ rest ≡ big_bytes 2 (a * 256 + b) ++ rest = ap (λ (xs : List ℕ). xs ++ rest) (sym (two_again a b (fits.below 0) (fits.below 1))) in
    spelled ∙ ap (λ (f : ℕ × List ℕ). big_bytes 2 f.0 ++ f.1) (some_is (a * 256 + b, rest) found e)
sized_takes false [] found fits e = absurd cc
sized_takes false (a ∷ rest) found fits e = ap (λ (f : ℕ × List ℕ). f.0 ∷ f.1) (some_is (a, rest) found e)

parts_take : (extended : Bool) (rest : List ℕ) (parts : List ℕ × List ℕ) → IsBytes rest →
    (sized extended rest >>= cut) ≡ Some parts → rest ≡ (length_bytes extended (length parts.0) ++ parts.0) ++ parts.1
parts_take extended rest parts fits e =
    let s = then_some (sized extended rest) cut parts e in
    let c = cut_takes s.0.0 s.0.1 parts s.2 in
    sized_takes extended rest s.0 fits s.1 ∙ ap (λ (n : ℕ). length_bytes extended n ++ s.0.1) c.0
    ∙ ap (λ (xs : List ℕ). length_bytes extended (length parts.0) ++ xs) c.1
    ∙ sym (append_assoc (length_bytes extended (length parts.0)) parts.0 parts.1)

field_takes : (bytes : List ℕ) (found : Field × List ℕ) → IsBytes bytes → field_at bytes ≡ Some found → bytes ≡ field_bytes found.0 ++ found.1
unfolding field_at
field_takes [] found fits e = absurd cc
field_takes (kind ∷ rest) found fits e =
    let s = then_some (sized false rest >>= cut) (λ parts. Some (record { kind = kind; value = parts.0 }, parts.1)) found e in
    ap (λ (xs : List ℕ). kind ∷ xs) (parts_take false rest s.0 (bytes-cons kind rest fits) s.1)
    ∙ ap (λ (f : Field × List ℕ). field_bytes f.0 ++ f.1) (some_is (record { kind = kind; value = s.0.0 }, s.0.1) found s.2)

pub fields_take : Takes field_at field_bytes
fields_take = record { parts = field_takes }

attribute_takes : (bytes : List ℕ) (found : PathAttribute × List ℕ) → IsBytes bytes → attribute_at bytes ≡ Some found →
    bytes ≡ attribute_bytes found.0 ++ found.1
unfolding attribute_at
attribute_takes [] found fits e = absurd cc
attribute_takes (flags ∷ []) found fits e = absurd cc
attribute_takes (flags ∷ kind ∷ rest) found fits e =
    let s = then_some (sized (is_extended flags) rest >>= cut) (λ parts. Some (record { flags = flags; kind = kind; value = parts.0 }, parts.1)) found e in
    ap (λ (xs : List ℕ). flags ∷ kind ∷ xs) (parts_take (is_extended flags) rest s.0 (bytes-cons kind rest (bytes-cons flags (kind ∷ rest) fits)) s.1)
    ∙ ap (λ (f : PathAttribute × List ℕ). attribute_bytes f.0 ++ f.1) (some_is (record { flags = flags; kind = kind; value = s.0.0 }, s.0.1) found s.2)

pub attributes_take : Takes attribute_at attribute_bytes
attributes_take = record { parts = attribute_takes }
