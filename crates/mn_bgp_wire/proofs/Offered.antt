-- The parameters of an OPEN and the capabilities in one, looked through one after another.
use Rattle.std.proofs.Common.{◌≡◌, ◌<◌, ◌==◌, ◌||◌, ℕ, Bool, true, false, List, ◌∷◌, length, Option, Some, None, refl, ap, sym, ◌∙◌, arith}
use Rattle.std.proofs.lemmas.Bool.Decides.{nat_tests}
use Rattle.std.specs.Option.{option_map}
use Rattle.std.specs.List.{list_any}
use Rattle.mn_bgp_wire.specs.Items.{◌>>=◌, items_of}
use Rattle.mn_bgp_wire.specs.Grammar.{Field, is_vpn}
use Rattle.mn_bgp_wire.specs.Reading.{field_at, vpn_among, vpn_in, vpn_in_some, vpn_offered}
use Rattle.mn_bgp_wire.proofs.InTurn.{items_first, items_end, items_none}
use Rattle.mn_bgp_wire.proofs.Parts.{fields_shorten}

-- what was found before, and what is still found
abbrev pub or_found : Bool → Option Bool → Option Bool
or_found found more = option_map (λ b. found || b) more

pub there : (rest : List ℕ) → (length rest == 0) ≡ false → 0 < length rest
there rest h = grind (arith, nat_tests)

pub gone : (rest : List ℕ) → (length rest == 0) ≡ true → length rest ≡ 0
gone rest h = grind (arith, nat_tests)

or_none : (b : Bool) → (b || false) ≡ b
or_none true = refl
or_none false = refl

regroup : (a b c : Bool) → (a || (b || c)) ≡ ((a || b) || c)
regroup true b c = refl
regroup false b c = refl

among_more : (found first : Bool) (capability : Field) (more : Option (List Field)) → is_vpn capability ≡ first
    → or_found found (option_map (list_any is_vpn) (more >>= λ fields. Some (capability ∷ fields))) ≡ or_found (found || first)
    (option_map (list_any is_vpn) more)
among_more found first capability None is = refl
among_more found first capability (Some fields) is =
    ap (λ (b : Bool). Some (found || (b || list_any is_vpn fields))) is ∙ ap Some (regroup found first (list_any is_vpn fields))

pub among_goes_on : (found first : Bool) (rest : List ℕ) (capability : Field) (others : List ℕ) (whole : Option Bool) →
    field_at rest ≡ Some (capability, others) → is_vpn capability ≡ first
    → or_found found (vpn_among rest) ≡ whole → or_found (found || first) (vpn_among others) ≡ whole
among_goes_on found first rest capability others whole at is so_far =
    sym (ap (λ (o : Option (List Field)). or_found found (option_map (list_any is_vpn) o))
    (items_first field_at fields_shorten rest (capability, others) at) ∙ among_more found first capability (items_of field_at others) is) ∙ so_far

pub among_fails : (found : Bool) (rest : List ℕ) (whole : Option Bool) →
    (length rest == 0) ≡ false → field_at rest ≡ None → or_found found (vpn_among rest) ≡ whole → whole ≡ None
among_fails found rest whole h at so_far =
    sym so_far ∙ ap (λ (o : Option (List Field)). or_found found (option_map (list_any is_vpn) o)) (items_none field_at rest (there rest h) at)

pub among_ends : (found : Bool) (rest : List ℕ) (whole : Option Bool) → (length rest == 0) ≡ true → or_found found (vpn_among rest) ≡ whole → whole ≡ Some found
among_ends found rest whole h so_far =
    sym so_far ∙ ap (λ (o : Option (List Field)). or_found found (option_map (list_any is_vpn) o)) (items_end field_at rest (gone rest h))
    ∙ ap Some (or_none found)

offered_more : (found first : Bool) (parameter : Field) (more : Option (List Field)) → vpn_in parameter ≡ Some first
    → or_found found ((more >>= λ fields. Some (parameter ∷ fields)) >>= vpn_in_some) ≡ or_found (found || first) (more >>= vpn_in_some)
offered_more found first parameter None is = refl
offered_more found first parameter (Some fields) is =
    ap (λ (o : Option Bool). or_found found (o >>= λ b. vpn_in_some fields >>= λ others. Some (b || others))) is
    ∙ offered_both found first (vpn_in_some fields)
  where
    offered_both : (found first : Bool) (more : Option Bool) → or_found found (more >>= λ others. Some (first || others)) ≡ or_found (found || first) more
    offered_both found first None = refl
    offered_both found first (Some b) = ap Some (regroup found first b)

pub offered_goes_on : (found first : Bool) (rest : List ℕ) (parameter : Field) (others : List ℕ) (whole : Option Bool) →
    field_at rest ≡ Some (parameter, others) → vpn_in parameter ≡ Some first
    → or_found found (vpn_offered rest) ≡ whole → or_found (found || first) (vpn_offered others) ≡ whole
offered_goes_on found first rest parameter others whole at is so_far =
    sym (ap (λ (o : Option (List Field)). or_found found (o >>= vpn_in_some)) (items_first field_at fields_shorten rest (parameter, others) at)
    ∙ offered_more found first parameter (items_of field_at others) is) ∙ so_far

pub offered_fails : (found : Bool) (rest : List ℕ) (whole : Option Bool) →
    (length rest == 0) ≡ false → field_at rest ≡ None → or_found found (vpn_offered rest) ≡ whole → whole ≡ None
offered_fails found rest whole h at so_far =
    sym so_far ∙ ap (λ (o : Option (List Field)). or_found found (o >>= vpn_in_some)) (items_none field_at rest (there rest h) at)

none_in : (found : Bool) (parameter : Field) (more : Option (List Field)) → vpn_in parameter ≡ None →
    or_found found ((more >>= λ fields. Some (parameter ∷ fields)) >>= vpn_in_some) ≡ None
none_in found parameter None is = refl
none_in found parameter (Some fields) is = ap (λ (o : Option Bool). or_found found (o >>= λ b. vpn_in_some fields >>= λ others. Some (b || others))) is

pub offered_fails_in : (found : Bool) (rest : List ℕ) (parameter : Field) (others : List ℕ) (whole : Option Bool) →
    field_at rest ≡ Some (parameter, others) → vpn_in parameter ≡ None
    → or_found found (vpn_offered rest) ≡ whole → whole ≡ None
offered_fails_in found rest parameter others whole at is so_far =
    sym so_far ∙ ap (λ (o : Option (List Field)). or_found found (o >>= vpn_in_some)) (items_first field_at fields_shorten rest (parameter, others) at)
    ∙ none_in found parameter (items_of field_at others) is

pub offered_ends : (found : Bool) (rest : List ℕ) (whole : Option Bool) →
    (length rest == 0) ≡ true → or_found found (vpn_offered rest) ≡ whole → whole ≡ Some found
offered_ends found rest whole h so_far =
    sym so_far ∙ ap (λ (o : Option (List Field)). or_found found (o >>= vpn_in_some)) (items_end field_at rest (gone rest h)) ∙ ap Some (or_none found)
