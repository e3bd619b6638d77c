-- Routes come and go one after another: what is kept then, in order, is what is to be kept.
use Rattle.std.proofs.Common.{◌≡◌, ◌⊎◌, inl, inr, List, [], ◌∷◌, refl, ap, subst}
use Rattle.std.specs.Prelude.{◌||◌}
use Rattle.mn_base.proofs.Bools.{or_ways}
use Rattle.mn_base.proofs.Members.{In, in_filter, filter_in}
use Rattle.mn_base.proofs.Kept.{with_in, in_with, in_with_new, ascending_unique}
use Rattle.mn_base.proofs.Places.{ascends_with, ascends_without}
use Rattle.mn_base.specs.Ordered.{Ascends, with_one, without_one}
use Rattle.mn_prefix.specs.Prefix.{AddressBlock}
use Rattle.mn_vrf.specs.declared.source.Source.{Source}
use Rattle.mn_vrf.specs.Routes.{route_before}
use Rattle.mn_vrf.proofs.Orders.{route_order}
use Rattle.mn_pe.specs.Held.{in_order}
use Rattle.mn_pe.specs.Changes.{Change, Comes, Goes, changed}
use Rattle.mn_pe.proofs.Offers.{AreApart, HasOnePlaces, order_up, order_keeps, from_order}

abbrev route_of : Change → AddressBlock × Source
route_of (Comes r) = r
route_of (Goes r) = r

same_route : (c d : Change) → c ≡ d → route_of c ≡ route_of d
same_route c d e = ap route_of e

not_apart_itself : (z : AddressBlock × Source) → AreApart z z → ⊥
not_apart_itself z h = elim (or_ways (route_before z z) (route_before z z) h) [ inl e ↦ route_order.one_way z z e e | inr e ↦ route_order.one_way z z e e ]

from_changed : (cs : List Change) (ks : List (AddressBlock × Source)) (z : AddressBlock × Source) → In (changed cs ks) z → In ks z ⊎ In cs (Comes z)
from_changed [] ks z i = inl i
from_changed (Comes r ∷ cs) ks z i = elim (from_changed cs (with_one route_before r ks) z i) [
  | inl j ↦ elim (with_in route_before r ks z j) [ inl e ↦ inr (inl (ap Comes e)) | inr k ↦ inl k.0 ]
  | inr j ↦ inr (inr j)
]
from_changed (Goes r ∷ cs) ks z i = elim (from_changed cs (without_one route_before r ks) z i) [
  | inl j ↦ inl (in_filter (λ y. route_before y r || route_before r y) ks z j).0
  | inr j ↦ inr (inr j)
]

-- what went and is there came again
gone_came : (cs : List Change) (ks : List (AddressBlock × Source)) (z : AddressBlock × Source) → In (changed cs ks) z → In cs (Goes z) → In cs (Comes z)
gone_came [] ks z i j = absurd j
gone_came (Comes r ∷ cs) ks z i j = elim j [
  | inl e ↦ absurd (let no : Comes r ≡ Goes z → ⊥ = (λ q. cc) in no e)
  | inr k ↦ inr (gone_came cs (with_one route_before r ks) z i k)
]
gone_came (Goes r ∷ cs) ks z i j = elim j [
  | inr k ↦ inr (gone_came cs (without_one route_before r ks) z i k)
  | inl e ↦ elim (from_changed cs (without_one route_before r ks) z i) [
    | inr k ↦ inr k
    | inl k ↦ absurd (not_apart_itself z (subst (AreApart z) (same_route (Goes r) (Goes z) e) (in_filter (λ y. route_before y r || route_before r y) ks z k).1))
  ]
]

to_changed : (cs : List Change) (ks : List (AddressBlock × Source)) (z : AddressBlock × Source) → In ks z ⊎ In cs (Comes z)
    → ((r : AddressBlock × Source) → In cs (Comes r) → AreApart z r ⊎ (r ≡ z)) → ((r : AddressBlock × Source) → In cs (Goes r) → AreApart z r) →
    In (changed cs ks) z
to_changed [] ks z i a b = elim i [ inl j ↦ j | inr n ↦ absurd n ]
to_changed (Comes r ∷ cs) ks z i a b = to_changed cs (with_one route_before r ks) z now (λ s j. a s (inr j)) (λ s j. b s (inr j))
  where
    here : r ≡ z → In (with_one route_before r ks) z
    here e = subst (In (with_one route_before r ks)) e (in_with_new route_before r ks)

    now : In (with_one route_before r ks) z ⊎ In cs (Comes z)
    now = elim i [
      | inl j ↦ elim (a r (inl refl)) [ inl apart ↦ inl (in_with route_before r ks z j apart) | inr e ↦ inl (here e) ]
      | inr j ↦ elim j [ inl e ↦ inl (here (same_route (Comes r) (Comes z) e)) | inr k ↦ inr k ]
    ]
to_changed (Goes r ∷ cs) ks z i a b = to_changed cs (without_one route_before r ks) z now (λ s j. a s (inr j)) (λ s j. b s (inr j))
  where
    now : In (without_one route_before r ks) z ⊎ In cs (Comes z)
    now = elim i [
      | inl j ↦ inl (filter_in (λ y. route_before y r || route_before r y) ks z j (b r (inl refl)))
      | inr j ↦ elim j [ inl e ↦ absurd (let no : Goes r ≡ Comes z → ⊥ = (λ q. cc) in no e) | inr k ↦ inr k ]
    ]

changed_ascends : (cs : List Change) (ks : List (AddressBlock × Source)) → Ascends route_before ks → Ascends route_before (changed cs ks)
changed_ascends [] ks up = up
changed_ascends (Comes r ∷ cs) ks up = changed_ascends cs (with_one route_before r ks) (ascends_with route_before r ks route_order up)
changed_ascends (Goes r ∷ cs) ks up = changed_ascends cs (without_one route_before r ks) (ascends_without route_before r ks up)

-- What comes is to be held, what goes is apart from all that is, and all else stays: so the changes make what is to be held.
pub record AreChanges (raw new : List (AddressBlock × Source)) (cs : List Change) : Type 0 where
  pub comes : (r : AddressBlock × Source) → In cs (Comes r) → In new r
  pub gone : (z r : AddressBlock × Source) → In new z → In cs (Goes r) → AreApart z r
  pub only : (z : AddressBlock × Source) → In new z → In raw z ⊎ In cs (Comes z)
  pub left : (z : AddressBlock × Source) → In raw z → In new z ⊎ In cs (Goes z)

module _ (raw new : List (AddressBlock × Source)) (cs : List Change) (one : HasOnePlaces raw) (one_new : HasOnePlaces new) (are : AreChanges raw new cs) where
  to : (z : AddressBlock × Source) → In (in_order new) z → In (changed cs (in_order raw)) z
  to z i =
      let n : In new z = from_order new z i in
      to_changed cs (in_order raw) z (elim (are.only z n) [ inl j ↦ inl (order_keeps raw one z j) | inr j ↦ inr j ])
      (λ r j. one_new z r n (are.comes r j)) (λ r j. are.gone z r n j)

  back : (z : AddressBlock × Source) → In (changed cs (in_order raw)) z → In (in_order new) z
  back z i = order_keeps new one_new z (elim (from_changed cs (in_order raw) z i) [
    | inr j ↦ are.comes z j
    | inl j ↦ elim (are.left z (from_order raw z j)) [ inl n ↦ n | inr g ↦ are.comes z (gone_came cs (in_order raw) z i g) ]
  ])

  pub changed_held : in_order new ≡ changed cs (in_order raw)
  changed_held = ascending_unique route_before route_order (in_order new) (changed cs (in_order raw)) (order_up new)
      (changed_ascends cs (in_order raw) (order_up raw)) to back
