-- A walk from the node that is due last back finds the item of a number.
use Rattle.std.proofs.Common.{◌≡◌, ◌<◌, ◌+◌, ℕ, suc, Bool, true, false, List, [], ◌∷◌, ◌++◌, length, Option, Some, None, IsSome, inl, inr, refl, sym, ap}
use Rattle.std.proofs.Common.{◌∙◌, subst, arith, append_assoc, append-nil, length-append}
use Rattle.std.specs.Prelude.{◌≤◌, ◌==◌, find}
use Rattle.std.proofs.lemmas.Bool.Decides.{nat_tests}
use Rattle.std.proofs.lemmas.Option.{same_Some}
use Rattle.mn_flight.specs.declared.Item.{Item}
use Rattle.mn_flight.proofs.Members as members
use Rattle.mn_flight_pool.specs.Cells.{value_at}
use Rattle.mn_flight_pool.specs.Rings.{IsIn, IsRing, item_at, room_at, next_of, prev_of}
use Rattle.mn_flight_pool.specs.Pool.{dues_of, steps_of}
use Rattle.mn_flight_pool.specs.Whole.{order_in, items_of, IsWhole}
use Rattle.mn_flight_pool.specs.Newest.{IsPassed}
use Rattle.mn_flight_pool.specs.declared.pool.Pool.{Pool}
use Rattle.mn_flight_pool.specs.declared.node.Pair.TheVariants.{Due}
use Rattle.mn_flight_pool.proofs.Neighbours.{last_of_cons}
use Rattle.mn_flight_pool.proofs.Items.{item_member, member_node, one_item, find_none}
use Rattle.mn_flight_pool.proofs.Sooner.{in_middle}
use Rattle.mn_flight_pool.proofs.Held.{length-trace}
use Rattle.mn_flight_pool.proofs.Walks.{back_at}
use Rattle.mn_flight_pool.proofs.Whole.{rooms, flight, node_there, node_holds}

module _ {T : Type 0} (pool : Pool T) (whole : IsWhole pool) (number : ℕ) where
  abbrev dues : List ℕ
  dues = dues_of pool.head.index pool.count pool.store

  dues_length : length dues ≡ pool.count
  dues_length = length-trace (next_of Due pool.store) pool.head.index pool.count

  -- no item has a greater number than the last
  pub none_greater : pool.latest < number → find (λ (item : Item T). item.number == number) (items_of pool) ≡ None
  none_greater h = find_none (λ (item : Item T). item.number == number) (items_of pool) (λ y i.
      let at = members.contains_of_in (items_of pool) y i in
      let most : y.number ≤ pool.latest = subst (λ (z : Item T). z.number ≤ pool.latest) at.2 (whole.latest at.0 y at.1) in
      grind (arith, nat_tests, most, h))

  pub none_passed : IsPassed pool number 0 pool.head.index
  none_passed = record { front = dues; passed = []; cut = sym (append-nil dues); count = refl; node = refl; other = λ q y i e. absurd i }

  -- a node of the order whose item has the number
  pub found_at : (node : ℕ) → IsIn node (order_in pool) → (x : Item T) → Some x ≡ item_at pool.store node → x.number ≡ number →
      IsIn node (order_in pool) × (item_at pool.store node ≡ find (λ (item : Item T). item.number == number) (items_of pool))
  found_at node on x holds h =
      let member = item_member pool.store (order_in pool) node x on (sym holds) in (
        on,
        sym holds ∙ sym (members.find_only (λ (item : Item T). item.number == number) x (items_of pool) member (grind (arith, nat_tests, h)) (λ y i t.
            let same : y.number ≡ x.number = grind (arith, nat_tests, t, h) in
            one_item (items_of pool) (flight pool whole).ascending y x i member same)),
      )

  -- one more node back
  pub record Next (k : ℕ) (node : ℕ) : Type 0 where
    pub front : List ℕ
    pub passed : List ℕ
    pub cut : dues ≡ front ++ node ∷ passed
    pub count : length passed ≡ k
    pub other : (q : ℕ) (y : Item T) → IsIn q passed → item_at pool.store q ≡ Some y → y.number ≡ number → ⊥

  pub next : (k : ℕ) (at node : ℕ) → IsPassed pool number k at → k < pool.count → node ≡ prev_of Due pool.store at → Next k node
  next k at node is below e = by is.front is.cut
    where
      by : (us : List ℕ) → dues ≡ us ++ is.passed → Next k node
      by [] cut = absurd (omega (arith, below, is.count, dues_length, ap length cut))
      by (u ∷ us) cut =
          let last = last_of_cons u us in let ws = last.0 in let p = last.1 in
          let new : dues ≡ ws ++ p ∷ is.passed = cut ∙ ap (λ l. l ++ is.passed) last.2 ∙ append_assoc ws (p ∷ []) is.passed in
          let steps : steps_of (prev_of Due pool.store) pool.head.index (suc k) ≡ p =
          ap (λ n. steps_of (prev_of Due pool.store) pool.head.index (suc n)) (sym is.count)
          ∙ back_at Due pool.store pool.head.index is.passed ws p (subst (λ l. IsRing Due pool.store pool.head.index l) new whole.by_due.ring)
          in
          let here : node ≡ p = e ∙ ap (prev_of Due pool.store) is.node ∙ steps in
          record {
            front = ws;
            passed = is.passed;
            cut = subst (λ r. dues ≡ ws ++ r ∷ is.passed) (sym here) new;
            count = is.count;
            other = is.other;
          }

  pub at_there : (k : ℕ) (at : ℕ) → IsPassed pool number k at → k < pool.count → room_at pool.store at ≡ true
  at_there k at is below = by is.passed is.cut is.count is.node
    where
      by : (vs : List ℕ) → dues ≡ is.front ++ vs → length vs ≡ k → at ≡ steps_of (prev_of Due pool.store) pool.head.index k →
          room_at pool.store at ≡ true
      by [] cut count node = rooms pool whole at (inl (node ∙ ap (steps_of (prev_of Due pool.store) pool.head.index) (sym count)))
      by (v ∷ vs) cut count node =
          let steps : steps_of (prev_of Due pool.store) pool.head.index k ≡ v =
          ap (steps_of (prev_of Due pool.store) pool.head.index) (sym count)
          ∙ back_at Due pool.store pool.head.index vs is.front v (subst (λ l. IsRing Due pool.store pool.head.index l) cut whole.by_due.ring)
          in
          let in_dues : IsIn v dues = subst (λ l. IsIn v l) (sym cut) (in_middle is.front v vs) in
          rooms pool whole at (inr (subst (λ q. IsIn q (order_in pool)) (sym (node ∙ steps)) (whole.by_due.flies v in_dues)))

  module _ (k : ℕ) (node : ℕ) (n : Next k node) where
    pub in_order : IsIn node (order_in pool)
    in_order = whole.by_due.flies node (subst (λ l. IsIn node l) (sym n.cut) (in_middle n.front node n.passed))

    pub next_there : IsSome (value_at node pool.store)
    next_there = node_there pool whole node in_order

    pub next_holds : None ≡ item_at pool.store node → ⊥
    next_holds e = none (item_at pool.store node) (sym e) (node_holds pool whole node in_order)
      where
        none : (o : Option (Item T)) → o ≡ None → IsSome o → ⊥
        none None h s = cc
        none (Some y) h s = cc

    module _ (x : Item T) (holds : Some x ≡ item_at pool.store node) where
      -- it is another too
      pub passes : (x.number ≡ number → ⊥) → IsPassed pool number (k + 1) node
      passes h =
          let steps : k + 1 ≡ suc k = omega arith in
          record {
            front = n.front;
            passed = node ∷ n.passed;
            cut = n.cut;
            count = ap suc n.count ∙ sym steps;
            node = sym (ap (steps_of (prev_of Due pool.store) pool.head.index) steps
                ∙ ap (λ m. steps_of (prev_of Due pool.store) pool.head.index (suc m)) (sym n.count)
                ∙ back_at Due pool.store pool.head.index n.passed n.front node
                (subst (λ l. IsRing Due pool.store pool.head.index l) n.cut whole.by_due.ring));
            other = λ q y i e f. elim i [
              | inl s ↦ let same : x ≡ y = same_Some x y (holds ∙ ap (item_at pool.store) (sym s) ∙ e) in h (ap (λ (z : Item T). z.number) same ∙ f)
              | inr j ↦ n.other q y j e f
            ];
          }

      -- it is the one
      pub found : x.number ≡ number → IsIn node (order_in pool) × (item_at pool.store node ≡ find (λ (item : Item T). item.number == number) (items_of pool))
      found h = found_at node in_order x holds h

  -- all were others
  pub all_others : (at : ℕ) → IsPassed pool number pool.count at → find (λ (item : Item T). item.number == number) (items_of pool) ≡ None
  all_others at is = find_none (λ (item : Item T). item.number == number) (items_of pool) (λ y i.
      let on = member_node pool.store (order_in pool) y i in
      by y.number (λ f. is.other on.0 y (all_in_passed on.0 (whole.by_due.stands on.0 on.1)) on.2 f))
    where
      by : (m : ℕ) → (m ≡ number → ⊥) → (m == number) ≡ false
      by m u = split (m == number) refl
        where
          split : (b : Bool) → (m == number) ≡ b → (m == number) ≡ false
          split true t = absurd (u (grind (arith, nat_tests, t)))
          split false t = t

      all_in_passed : (q : ℕ) → IsIn q dues → IsIn q is.passed
      all_in_passed q i = empty is.front is.cut
        where
          empty : (us : List ℕ) → dues ≡ us ++ is.passed → IsIn q is.passed
          empty [] cut = subst (λ l. IsIn q l) cut i
          empty (u ∷ us) cut = absurd (omega (arith, is.count, dues_length, ap length cut, length-append us is.passed))
