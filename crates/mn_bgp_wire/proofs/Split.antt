-- The attributes of an UPDATE, split off one after another.
use Rattle.std.proofs.Common.{◌≡◌, ◌==◌, ℕ, true, false, List, [], ◌∷◌, ◌++◌, length, Option, Some, None, refl, ap, sym, ◌∙◌, append_assoc}
use Rattle.std.proofs.lemmas.List.{append-nil}
use Rattle.mn_bgp_wire.specs.Items.{◌>>=◌, items_of}
use Rattle.mn_bgp_wire.specs.Grammar.{PathAttribute}
use Rattle.mn_bgp_wire.specs.Reading.{attribute_at, attributes_of}
use Rattle.mn_bgp_wire.proofs.InTurn.{items_first, items_end, items_none}
use Rattle.mn_bgp_wire.proofs.Parts.{attributes_shorten}
use Rattle.mn_bgp_wire.proofs.Offered.{there, gone}

-- attributes that were split off before, and those that are still split off
abbrev pub behind : List PathAttribute → Option (List PathAttribute) → Option (List PathAttribute)
behind front more = more >>= λ attributes. Some (front ++ attributes)

regroup : (front : List PathAttribute) (attribute : PathAttribute) (more : Option (List PathAttribute)) →
    behind front (more >>= λ attributes. Some (attribute ∷ attributes)) ≡ behind (front ++ attribute ∷ []) more
regroup front attribute None = refl
regroup front attribute (Some attributes) = ap Some (sym (append_assoc front (attribute ∷ []) attributes))

pub split_goes_on : (front longer : List PathAttribute) (rest : List ℕ) (attribute : PathAttribute) (others : List ℕ)
    (whole : Option (List PathAttribute)) → attribute_at rest ≡ Some (attribute, others) → longer ≡ front ++ attribute ∷ []
    → behind front (attributes_of rest) ≡ whole → behind longer (attributes_of others) ≡ whole
split_goes_on front longer rest attribute others whole at is so_far =
    ap (λ (f : List PathAttribute). behind f (attributes_of others)) is
    ∙ sym (ap (behind front) (items_first attribute_at attributes_shorten rest (attribute, others) at)
    ∙ regroup front attribute (items_of attribute_at others)) ∙ so_far

pub split_fails : (front : List PathAttribute) (rest : List ℕ) (whole : Option (List PathAttribute)) →
    (length rest == 0) ≡ false → attribute_at rest ≡ None → behind front (attributes_of rest) ≡ whole → whole ≡ None
split_fails front rest whole h at so_far = sym so_far ∙ ap (behind front) (items_none attribute_at rest (there rest h) at)

pub split_ends : (front : List PathAttribute) (rest : List ℕ) (whole : Option (List PathAttribute)) →
    (length rest == 0) ≡ true → behind front (attributes_of rest) ≡ whole → whole ≡ Some front
split_ends front rest whole h so_far = sym so_far ∙ ap (behind front) (items_end attribute_at rest (gone rest h)) ∙ ap Some (append-nil front)
