-- The first node of the ring by due tick holds the earliest item.
use Rattle.std.proofs.Common.{◌≡◌, ◌<◌, ◌≤◌, ◌⊎◌, inl, inr, ℕ, true, nat_lt, nat_le, List, [], ◌∷◌, length, Some, None, refl, sym, ap, ◌∙◌, subst, arith}
use Rattle.std.specs.Prelude.{◌==◌, ◌&&◌, ◌||◌, slice_index_or}
use Rattle.std.proofs.lemmas.Bool.Decides.{nat_tests}
use Rattle.std.proofs.lemmas.Option.{same_Some}
use Rattle.mn_flight.specs.declared.Item.{Item}
use Rattle.mn_flight.specs.Flying.{IsFlight}
use Rattle.mn_flight.specs.Earliest.{earliest, goes_before}
use Rattle.mn_flight.proofs.Members as members
use Rattle.mn_flight.proofs.First.{earliest_is, law_none}
use Rattle.mn_flight_pool.specs.Rings.{IsIn, item_at, next_of}
use Rattle.mn_flight_pool.specs.ByDue.{IsByDue}
use Rattle.mn_flight_pool.specs.Pool.{items_in}
use Rattle.mn_flight_pool.specs.Nodes.{Node}
use Rattle.mn_flight_pool.specs.declared.node.Pair.TheVariants.{Due}
use Rattle.mn_flight_pool.specs.declared.tick.Tick.{Tick}
use Rattle.mn_flight_pool.proofs.Items.{item_member, member_node}
use Rattle.mn_flight_pool.proofs.Sooner.{all_in, as_items, no_later}

goes_of : (d n e m : ℕ) → (d < e) ⊎ ((d ≡ e) × (n < m)) → (nat_lt d e || ((d == e) && nat_le n m)) ≡ true
goes_of d n e m (inl h) = grind (arith, nat_tests, h)
goes_of d n e m (inr h) = let p : d ≡ e = h.0 in let q : n < m = h.1 in grind (arith, nat_tests, p, q)

goes_self : (d n : ℕ) → (nat_lt d d || ((d == d) && nat_le n n)) ≡ true
goes_self d n = grind (arith, nat_tests)

module _ {T : Type 0} (head : ℕ) (order : List ℕ) (channels : ℕ) (ticks : List Tick) (cells : List (Node T))
    (flight : IsFlight channels (items_in cells order)) where
  abbrev items : List (Item T)
  items = items_in cells order

  -- while there is one, the first of the ring is sooner than any other
  pub soonest : (dues : List ℕ) → IsByDue head order dues ticks cells → 0 < length order →
      (IsIn (next_of Due cells head) order) × ((x y : Item T) (q : ℕ) → item_at cells (next_of Due cells head) ≡ Some x → IsIn q order →
      item_at cells q ≡ Some y → (q ≡ next_of Due cells head) ⊎ ((x.due < y.due) ⊎ ((x.due ≡ y.due) × (x.number < y.number))))
  soonest [] due some = absurd (omega (arith, some, due.many))
  soonest (p ∷ ps) due some =
      let first : next_of Due cells head ≡ p = due.ring.round.0 in (
        subst (λ r. IsIn r order) (sym first) (due.flies p (inl refl)),
        λ x y q e i f. elim (due.stands q i) [
          | inl s ↦ inl (s ∙ sym first)
          | inr j ↦ inr (as_items (item_at cells p) (item_at cells q) x y (ap (item_at cells) (sym first) ∙ e) f (all_in _ ps q due.sooner.0 j))
        ],
      )

  module _ (dues : List ℕ) (due : IsByDue head order dues ticks cells) (some : 0 < length order) (limit : ℕ) (x : Item T)
      (holds : item_at cells (next_of Due cells head) ≡ Some x) where
    abbrev p : ℕ
    p = next_of Due cells head

    pub p_in : IsIn p order
    p_in = (soonest dues due some).0

    pub earliest_first : x.due ≤ limit → earliest limit items ≡ Some x
    earliest_first h = earliest_is channels limit items x flight (record {
      flies = members.contains_of_in items x (item_member cells order p x p_in holds);
      due = h;
      first = λ y c k.
          let at = member_node cells order y (members.in_of_contains items y c) in
          elim ((soonest dues due some).1 x y at.0 holds at.1 at.2) [
            | inl s ↦ let same : x ≡ y = same_Some x y (sym holds ∙ ap (item_at cells) (sym s) ∙ at.2) in
                subst (λ (z : Item T). goes_before x z ≡ true) same (goes_self x.due x.number)
            | inr b ↦ goes_of x.due x.number y.due y.number b
          ];
    })

    pub earliest_none : limit < x.due → earliest limit items ≡ None
    earliest_none h = (law_none channels limit items flight).1 (λ k d below.
        let at = member_node cells order (slice_index_or items k d) (members.in_of_place items k d below) in
        elim ((soonest dues due some).1 x (slice_index_or items k d) at.0 holds at.1 at.2) [
          | inl s ↦ let same : x ≡ slice_index_or items k d = same_Some x (slice_index_or items k d) (sym holds ∙ ap (item_at cells) (sym s) ∙ at.2) in
              subst (λ (z : Item T). limit < z.due) same h
          | inr b ↦ let later : x.due ≤ (slice_index_or items k d).due = no_later x (slice_index_or items k d) b in omega (arith, later, h)
        ])
