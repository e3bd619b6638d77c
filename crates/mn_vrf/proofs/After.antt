-- The prefix after a held one.
use Rattle.std.proofs.Common.{ℕ, zero, suc, ◌≡◌, ◌+◌, Bool, true, false, cond, List, [], ◌∷◌, filter, Option, Some, None, refl, arith, sym, ◌∙◌, ap, subst}
use Rattle.std.specs.Prelude.{◌&&◌, not, slice_get}
use Rattle.std.specs.Option.{option_map, unwrap_or}
use Rattle.std.specs.Ordering.{is_lt}
use Rattle.std.specs.List.{AllByRecursion}
use Rattle.std.proofs.lemmas.Bool.Decides.{nat_tests}
use Rattle.std.proofs.lemmas.Option.{same_Some}
use Rattle.mn_base.specs.Ordered.{Ascends}
use Rattle.mn_prefix.specs.Prefix.{AddressBlock, by_address_then_length, prefix_before}
use Rattle.mn_vrf.specs.declared.source.Source.{Source}
use Rattle.mn_vrf.specs.Vrf.{heads, IsHeldAt}
use Rattle.mn_vrf.specs.Kept.{those, in_order, IsKept}
use Rattle.mn_prefix.specs.Table.{first_of, value_at}
use Rattle.mn_vrf.proofs.Finding.{head_none, head_some, shown_none, shown_some}

later : (p q : AddressBlock) → prefix_before p q ≡ true → is_lt (by_address_then_length p q) ≡ true
later p q h = grind (arith, nat_tests, h)

sooner : (p q : AddressBlock) → prefix_before q p ≡ true → is_lt (by_address_then_length p q) ≡ false
sooner p q h = grind (arith, nat_tests, h)

itself : (p : AddressBlock) → is_lt (by_address_then_length p p) ≡ false
itself p = grind (arith, nat_tests)

abbrev pub is_after : AddressBlock → AddressBlock → Bool
is_after p q = is_lt (by_address_then_length p q) && not false

after_all : (p : AddressBlock) (qs : List AddressBlock) → AllByRecursion (λ q. prefix_before p q ≡ true) qs → filter (is_after p) qs ≡ qs
after_all p [] h = refl
after_all p (q ∷ qs) h = ap (λ b. cond (b && not false) (q ∷ filter (is_after p) qs) (filter (is_after p) qs)) (later p q h.0)
    ∙ ap (λ l. q ∷ l) (after_all p qs h.1)

at_all : (P : AddressBlock → Type 0) (qs : List AddressBlock) (k : ℕ) (p : AddressBlock) → AllByRecursion P qs → slice_get qs k ≡ Some p → P p
at_all P [] k p h e = cc
at_all P (q ∷ qs) zero p h e = subst P (same_Some q p e) h.0
at_all P (q ∷ qs) (suc k) p h e = at_all P qs k p h.1 e

-- the first of those after the one at a place is at the next place
pub first_after : (ks : List AddressBlock) (k : ℕ) (p : AddressBlock) → Ascends prefix_before ks → slice_get ks k ≡ Some p →
    slice_get (filter (is_after p) ks) 0 ≡ slice_get ks (suc k)
first_after [] k p up e = cc
first_after (q ∷ ks) zero p up e =
    let here : q ≡ p = same_Some q p e in
    ap (λ b. slice_get (cond (b && not false) (q ∷ filter (is_after p) ks) (filter (is_after p) ks)) 0)
    (subst (λ r. is_lt (by_address_then_length p r) ≡ false) (sym here) (itself p))
    ∙ ap (λ l. slice_get l 0) (after_all p ks (subst (λ r. AllByRecursion (λ s. prefix_before r s ≡ true) ks) here up.0))
first_after (q ∷ ks) (suc k) p up e =
    ap (λ b. slice_get (cond (b && not false) (q ∷ filter (is_after p) ks) (filter (is_after p) ks)) 0)
    (sooner p q (at_all (λ r. prefix_before q r ≡ true) ks k p up.0 e))
    ∙ first_after ks k p up.1 e

-- the held one at a place is of the prefix there
module _ (table : List (AddressBlock × List Source)) (ks : List AddressBlock) (kept : IsKept table ks) (routes : List (AddressBlock × Source))
    (shown : in_order table ks ≡ routes) (k : ℕ) (last : AddressBlock) (is : IsHeldAt last (slice_get (heads routes) k)) where
  here : IsHeldAt last (slice_get (heads (in_order table ks)) k)
  here = subst (λ rs. IsHeldAt last (slice_get (heads rs) k)) (sym shown) is

  place : slice_get ks k ≡ Some last
  place = by (slice_get ks k) refl
    where
      named : (p : AddressBlock) (o : Option Source) → option_map (λ (r : AddressBlock × Source). r.0) (option_map (λ s. (p, s)) o) ≡ Some last → p ≡ last
      named p None e = cc
      named p (Some s) e = same_Some p last e

      by : (o : Option AddressBlock) → slice_get ks k ≡ o → slice_get ks k ≡ Some last
      by None e = absurd (clash (sym (ap (option_map (λ (r : AddressBlock × Source). r.0)) (head_none table ks k kept e)) ∙ here))
        where
          clash : (let o : Option AddressBlock = None in o) ≡ Some last → ⊥
          clash h = cc
      by (Some p) e =
          e ∙ ap (λ q. let o : Option AddressBlock = Some q in o)
          (named p (first_of (those p table)) (sym (ap (option_map (λ (r : AddressBlock × Source). r.0)) (head_some table ks k p kept e)) ∙ here))

  module _ (rest : List AddressBlock) (rest_is : rest ≡ filter (is_after last) ks) where
    next : slice_get ks (k + 1) ≡ slice_get rest 0
    next =
        ap (slice_get ks) (let one : k + 1 ≡ suc k = omega arith in one) ∙ sym (first_after ks k last kept.ascend place)
        ∙ ap (λ l. slice_get l 0) (sym rest_is)

    pub none_after : slice_get rest 0 ≡ None → None ≡ slice_get (heads routes) (k + 1)
    none_after e = shown_none table ks routes (k + 1) kept shown (next ∙ e)

    pub some_after : (p : AddressBlock) (found : Option (List Source)) → slice_get rest 0 ≡ Some p → found ≡ value_at p table →
        option_map (λ (s : Source). (p, s)) (first_of (unwrap_or found [])) ≡ slice_get (heads routes) (k + 1)
    some_after p found e found_is = shown_some table ks routes (k + 1) p found kept shown (next ∙ e) found_is
