-- The attributes of an UPDATE, looked through one after another for one of a type.
use Rattle.std.proofs.Common.{◌≡◌, ◌≢◌, ◌<◌, ◌==◌, ℕ, Bool, false, cond, List, [], ◌∷◌, length, Some, None, refl, ap, sym, ◌∙◌, arith}
use Rattle.std.proofs.lemmas.Bool.{eq-eqb}
use Rattle.std.proofs.lemmas.Bool.Decides.{nat_tests}
use Rattle.std.specs.Option.{option_map}
use Rattle.std.specs.List.{find}
use Rattle.mn_bgp_wire.specs.Grammar.{PathAttribute, value_of}
use Rattle.mn_bgp_wire.specs.Reading.{attribute_at, attributes_of}
use Rattle.mn_bgp_wire.proofs.InTurn.{items_first, items_end, items_none}
use Rattle.mn_bgp_wire.proofs.Parts.{attributes_shorten, then_some, some_is}

-- what is left of the attributes has the one that is looked for, if all have it
pub record IsLeft (kind : ℕ) (all : List PathAttribute) (rest : List ℕ) : Type 0 where
  pub attributes : List PathAttribute
  pub are : attributes_of rest ≡ Some attributes
  pub same : value_of kind attributes ≡ value_of kind all

pub begins : (kind : ℕ) (all : List PathAttribute) (bytes : List ℕ) → attributes_of bytes ≡ Some all → IsLeft kind all bytes
begins kind all bytes e = record { attributes = all; are = e; same = refl }

-- the first of what is left, and the others
record IsSplit (all : List PathAttribute) (attribute : PathAttribute) (others : List ℕ) : Type 0 where
  more : List PathAttribute
  are : attributes_of others ≡ Some more
  whole : attribute ∷ more ≡ all

split : (rest : List ℕ) (attribute : PathAttribute) (others : List ℕ) (all : List PathAttribute) → attribute_at rest ≡ Some (attribute, others) →
    attributes_of rest ≡ Some all → IsSplit all attribute others
split rest attribute others all at e =
    let t = then_some (attributes_of others) (λ more. Some (attribute ∷ more)) all
    (sym (items_first attribute_at attributes_shorten rest (attribute, others) at) ∙ e) in
    record { more = t.0; are = t.1; whole = some_is (attribute ∷ t.0) all t.2 }

passed : (kind : ℕ) (attribute : PathAttribute) (more : List PathAttribute) → attribute.kind ≢ kind →
    value_of kind (attribute ∷ more) ≡ value_of kind more
passed kind attribute more other =
    let test : (attribute.kind == kind) ≡ false = grind (arith, nat_tests) in
    ap (λ (b : Bool). option_map (λ (a : PathAttribute). a.value) (cond b (Some attribute) (find (λ (a : PathAttribute). a.kind == kind) more))) test

met : (kind : ℕ) (attribute : PathAttribute) (more : List PathAttribute) → attribute.kind ≡ kind →
    value_of kind (attribute ∷ more) ≡ Some attribute.value
met kind attribute more is =
    ap (λ (b : Bool). option_map (λ (a : PathAttribute). a.value) (cond b (Some attribute) (find (λ (a : PathAttribute). a.kind == kind) more))) (eq-eqb _ _ is)

pub goes_on : (kind : ℕ) (all : List PathAttribute) (rest : List ℕ) (attribute : PathAttribute) (others : List ℕ) →
    attribute_at rest ≡ Some (attribute, others) → attribute.kind ≢ kind → IsLeft kind all rest → IsLeft kind all others
goes_on kind all rest attribute others at other left =
    let s = split rest attribute others left.attributes at left.are in
    record {
      attributes = s.more;
      are = s.are;
      same = sym (passed kind attribute s.more other) ∙ ap (value_of kind) s.whole ∙ left.same;
    }

pub finds : (kind : ℕ) (all : List PathAttribute) (rest : List ℕ) (attribute : PathAttribute) (others : List ℕ) →
    attribute_at rest ≡ Some (attribute, others) → attribute.kind ≡ kind → IsLeft kind all rest → Some attribute.value ≡ value_of kind all
finds kind all rest attribute others at is left =
    let s = split rest attribute others left.attributes at left.are in
    sym (met kind attribute s.more is) ∙ ap (value_of kind) s.whole ∙ left.same

none_left : (rest : List ℕ) (attributes : List PathAttribute) → attribute_at rest ≡ None → attributes_of rest ≡ Some attributes → attributes ≡ []
none_left [] attributes at e = some_is attributes [] (sym e ∙ items_end attribute_at [] refl)
none_left (byte ∷ bytes) attributes at e = absurd (some_none (sym (items_none attribute_at (byte ∷ bytes) (omega arith) at) ∙ e))
  where
    some_none : None ≡ Some attributes → ⊥
    some_none q = cc

pub ends : (kind : ℕ) (all : List PathAttribute) (rest : List ℕ) → attribute_at rest ≡ None → IsLeft kind all rest → None ≡ value_of kind all
ends kind all rest at left = ap (value_of kind) (sym (none_left rest left.attributes at left.are)) ∙ left.same

pub falls : (rest : List ℕ) (attribute : PathAttribute) (others : List ℕ) → attribute_at rest ≡ Some (attribute, others) → length others < length rest
falls rest attribute others at = let s = attributes_shorten in s.shorter rest (attribute, others) at
