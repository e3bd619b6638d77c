-- A node that takes an item comes to stand in the ring by due tick, behind all that are due no later.
use Rattle.std.proofs.Common.{◌≡◌, ◌<◌, ◌≤◌, ◌⊎◌, inl, inr, ℕ, Bool, true, false, List, [], ◌∷◌, ◌++◌, length, Some, None, IsSome, refl, sym, ap, ◌∙◌}
use Rattle.std.proofs.Common.{subst, arith, append_assoc, length-append}
use Rattle.std.specs.Prelude.{nat_lt, slice_get}
use Rattle.std.proofs.lemmas.Option.{same_Some}
use Rattle.std.proofs.lemmas.Bool.Decides.{nat_tests}
use Rattle.mn_flight.specs.declared.Item.{Item}
use Rattle.mn_flight_pool.specs.Cells.{value_at}
use Rattle.mn_flight_pool.specs.Rings.{IsFree, IsIn, IsRing, item_at, with_item, prev_of, link_behind}
use Rattle.mn_flight_pool.specs.Ticks.{tick_at, last_by, put_tick}
use Rattle.mn_flight_pool.specs.ByDue.{IsSooner, AreSooner, IsTick, HasTick, IsByDue}
use Rattle.mn_flight_pool.specs.Pool.{IsLinked, entered}
use Rattle.mn_flight_pool.specs.declared.tick.Tick.{Tick}
use Rattle.mn_flight_pool.specs.declared.node.Pair.TheVariants.{Channel, Due}
use Rattle.mn_flight_pool.specs.Nodes.{Node}
use Rattle.mn_flight_pool.proofs.Changed.{some_value}
use Rattle.mn_flight_pool.proofs.Neighbours.{free_from, free_at}
use Rattle.mn_flight_pool.proofs.Rings.{ring_front, ring_behind, ring_past_link, ring_past_item, item_past_link, item_else}
use Rattle.mn_flight_pool.proofs.Entered.{old_item, new_item, alone_heads, alone_order, p_there, two_there}
use Rattle.mn_flight_pool.proofs.Sooner.{in_cut, in_front, in_back, in_either, in_with, in_middle, all_in, sooner_same, sooner_with, sooner_before}
use Rattle.mn_flight_pool.proofs.Sooner.{sooner_after, as_items, of_items, no_later, not_before, tick_item, item_tick, last_by_is, asc_put, all_put}
use Rattle.mn_flight_pool.proofs.Sooner.{has_new, has_put}

pub channel_due : Channel ≡ Due → ⊥
channel_due e = cc

strictly : (a b : ℕ) → (b ≤ a → ⊥) → a < b
strictly a b n = by (nat_lt a b) refl
  where
    by : (v : Bool) → nat_lt a b ≡ v → a < b
    by true t = grind (arith, nat_tests, t)
    by false f = absurd (n (grind (arith, nat_tests, f)))

-- the last of a list with s in front
abbrev pub IsEnd : ℕ → List ℕ → ℕ → Type 0
IsEnd s us a = ((us ≡ []) × (a ≡ s)) ⊎ ((ws : List ℕ) × (us ≡ ws ++ a ∷ []))

module _ {T : Type 0} where
  -- where an item of a due tick comes to stand
  pub record Stand (head : ℕ) (dues : List ℕ) (due : ℕ) (a : ℕ) (cells : List (Node T)) : Type 0 where
    pub front : List ℕ
    pub behind : List ℕ
    pub cut : dues ≡ front ++ behind
    pub end : IsEnd head front a
    pub by_then : (q : ℕ) (y : Item T) → IsIn q front → item_at cells q ≡ Some y → y.due ≤ due
    pub later : (q : ℕ) (y : Item T) → IsIn q behind → item_at cells q ≡ Some y → due < y.due

  module _ (head : ℕ) (order dues : List ℕ) (ticks : List Tick) (cells : List (Node T)) (due : IsByDue head order dues ticks cells) (at : ℕ) where
    pub place : Stand head dues at (last_by at head ticks) cells
    place = elim (last_by_is (IsTick cells order) at head ticks due.ascending due.lasts) [
      | inl none ↦ record {
        front = [];
        behind = dues;
        cut = refl;
        end = inl (refl, none.0);
        by_then = λ q y i e. absurd i;
        later = λ q y i e. none.1 y.due (due.each q y (due.flies q i) e);
      }
      | inr some ↦ some_place some.0 some.1 some.2 some.3 some.4
    ]
      where
        some_place : (t : Tick) → IsTick cells order t → t.due ≤ at → last_by at head ticks ≡ t.last.index →
            ((e : ℕ) → HasTick e ticks → e ≤ at → e ≤ t.due) → Stand head dues at (last_by at head ticks) cells
        some_place t is below a_is greatest =
            let a = t.last.index in
            let c = in_cut a dues (due.stands a is.there) in
            let us = c.0 in let vs = c.1 in
            let sooner = subst (λ l. AreSooner cells l) c.2 due.sooner in
            let last = tick_item cells order t.due (item_at cells a) is.last in
            subst (λ p. Stand head dues at p cells) (sym a_is) (record {
              front = us ++ a ∷ [];
              behind = vs;
              cut = c.2 ∙ sym (append_assoc us (a ∷ []) vs);
              end = inr (us, refl);
              by_then = λ q y i e. elim (in_either q us (a ∷ []) i) [
                | inl k ↦ omega (
                  arith,
                  no_later y last.0 (as_items (item_at cells q) (item_at cells a) y last.0 e last.1 (sooner_before cells us a vs sooner q k)),
                  last.2,
                  below,
                )
                | inr k ↦ elim k [
                  | inl s ↦ omega (arith, ap (λ (z : Item T). z.due) (same_Some y last.0 (sym e ∙ ap (item_at cells) s ∙ last.1)), last.2, below)
                  | inr j
                      ↦ absurd j
                ]
              ];
              later = λ q y i e.
                  let flies : IsIn q order = due.flies q (subst (λ l. IsIn q l) (sym c.2) (in_back q us (a ∷ vs) (inr i))) in
                  let before = as_items (item_at cells a) (item_at cells q) last.0 y last.1 e (sooner_after cells us a vs sooner q i) in
                  strictly at y.due (λ k.
                  let most : y.due ≤ t.due = greatest y.due (due.each q y flies e) k in
                  let least : last.0.due ≤ y.due = no_later last.0 y before in
                  let same : y.due ≡ t.due = omega (arith, most, least, last.2) in
                  not_before last.0 y before (omega (arith, same, last.2)) (last.3 q y flies e same));
            })

  -- linking in at the end of a front part
  linked_at : (p s a : ℕ) (cells : List (Node T)) → IsSome (value_at p cells) →
      (us vs : List ℕ) → IsEnd s us a → IsRing Due cells s (us ++ vs) → IsFree p (s ∷ (us ++ vs)) →
      IsRing Due (link_behind Due p a cells) s (us ++ p ∷ vs)
  linked_at p s a cells there us vs (inl e) ring free =
      subst (λ b. IsRing Due (link_behind Due p b cells) s (us ++ p ∷ vs)) (sym e.1)
      (subst (λ l. IsRing Due (link_behind Due p s cells) s (l ++ p ∷ vs)) (sym e.0)
      (ring_front Due p s cells there vs (subst (λ l. IsRing Due cells s (l ++ vs)) e.0 ring) (subst (λ l. IsFree p (s ∷ (l ++ vs))) e.0 free)))
  linked_at p s a cells there us vs (inr e) ring free =
      let old : us ++ vs ≡ e.0 ++ a ∷ vs = ap (λ l. l ++ vs) e.1 ∙ append_assoc e.0 (a ∷ []) vs in
      let new : us ++ p ∷ vs ≡ e.0 ++ a ∷ p ∷ vs = ap (λ l. l ++ p ∷ vs) e.1 ∙ append_assoc e.0 (a ∷ []) (p ∷ vs) in
      subst (λ l. IsRing Due (link_behind Due p a cells) s l) (sym new)
      (ring_behind Due p s cells there e.0 a vs (subst (λ l. IsRing Due cells s l) old ring) (subst (λ l. IsFree p (s ∷ l)) old free))

  module _ (head : ℕ) (heads free order : List ℕ) (p : ℕ) (cells : List (Node T)) (linked : IsLinked head heads (free ++ p ∷ []) order cells)
      (x : Item T) (first : ℕ) (at : slice_get heads x.channel ≡ Some first)
      (dues : List ℕ) (ticks : List Tick) (due : IsByDue head order dues ticks cells) (greatest : (q : ℕ) (y : Item T) → IsIn q order →
      item_at cells q ≡ Some y → y.number < x.number) where
    abbrev pub three : List (Node T)
    three = entered first p x cells

    abbrev pub a : ℕ
    a = last_by x.due head ticks

    abbrev pub four : List (Node T)
    four = link_behind Due p a three

    pub stand : Stand head dues x.due a cells
    stand = place head order dues ticks cells due x.due

    abbrev pub then : List ℕ
    then = stand.front ++ p ∷ stand.behind

    old_four : (q : ℕ) → IsIn q order → item_at four q ≡ item_at cells q
    old_four q i = item_past_link Due p a q three ∙ old_item head heads free order p cells linked x first at q i

    new_four : item_at four p ≡ Some x
    new_four = item_past_link Due p a p three ∙ new_item head heads free order p cells linked x first at

    pub due_three : IsRing Due three head dues
    due_three =
        let one = with_item p (Some x) cells in
        ring_past_link Channel Due channel_due p (prev_of Channel one first) one head dues (ring_past_item Due p (Some x) cells head dues due.ring)

    fresh : IsFree p (head ∷ dues)
    fresh = (
      (alone_heads head heads free order p cells linked x first at).0,
      free_from p dues (λ q i. free_at p order q (alone_order head heads free order p cells linked x first at) (due.flies q i)),
    )

    in_dues : (q : ℕ) → IsIn q (stand.front ++ stand.behind) → IsIn q order
    in_dues q i = due.flies q (subst (λ l. IsIn q l) (sym stand.cut) i)

    -- what the two tests of a ring's order ask of the new node
    before_it : (u : ℕ) → IsIn u stand.front → IsSooner (item_at four u) (item_at four p)
    before_it u i =
        let flies = in_dues u (in_front u stand.front stand.behind i) in
        let y = some_value (item_at cells u) (all_in (λ q. IsSome (item_at cells q)) order u linked.held flies) in
        of_items (item_at four u) (item_at four p) y.0 x (old_four u flies ∙ y.1) new_four
        (by y.0 (nat_lt y.0.due x.due) refl (stand.by_then u y.0 i y.1) (greatest u y.0 flies y.1))
      where
        by : (y : Item T) (v : Bool) → nat_lt y.due x.due ≡ v → y.due ≤ x.due → y.number < x.number →
            (y.due < x.due) ⊎ ((y.due ≡ x.due) × (y.number < x.number))
        by y true t le lt = inl (grind (arith, nat_tests, t))
        by y false f le lt = inr (grind (arith, nat_tests, f, le), lt)

    behind_it : (v : ℕ) → IsIn v stand.behind → IsSooner (item_at four p) (item_at four v)
    behind_it v i =
        let flies = in_dues v (in_back v stand.front stand.behind i) in
        let y = some_value (item_at cells v) (all_in (λ q. IsSome (item_at cells q)) order v linked.held flies) in
        of_items (item_at four p) (item_at four v) x y.0 new_four (old_four v flies ∙ y.1) (inl (stand.later v y.0 i y.1))

    -- ticks of other due ticks stay
    kept : (t : Tick) → (t.due ≡ x.due → ⊥) → IsTick cells order t → IsTick four (order ++ p ∷ []) t
    kept t other is =
        let last = tick_item cells order t.due (item_at cells t.last.index) is.last in
        record {
          there = in_front t.last.index order (p ∷ []) is.there;
          last = item_tick four (order ++ p ∷ []) t.due (item_at four t.last.index) last.0 (old_four t.last.index is.there ∙ last.1) last.2
              (λ q y i e f. elim (in_either q order (p ∷ []) i) [
                | inl k ↦ last.3 q y k (sym (old_four q k) ∙ e) f
                | inr k ↦ elim k [
                  | inl s ↦ absurd (other (sym f ∙ ap (λ (z : Item T). z.due) (same_Some y x (sym e ∙ ap (item_at four) s ∙ new_four))))
                  | inr j
                      ↦ absurd j
                ]
              ]);
        }

    put : IsTick four (order ++ p ∷ []) (tick_at x.due p)
    put = record {
      there = in_back p order (p ∷ []) (inl refl);
      last = item_tick four (order ++ p ∷ []) x.due (item_at four p) x new_four refl (λ q y i e f. elim (in_either q order (p ∷ []) i) [
        | inl k ↦ let less : y.number < x.number = greatest q y k (sym (old_four q k) ∙ e) in omega (arith, less)
        | inr k ↦ elim k [ inl s ↦ omega (arith, ap (λ (z : Item T). z.number) (same_Some y x (sym e ∙ ap (item_at four) s ∙ new_four))) | inr j ↦ absurd j ]
      ]);
    }

    pub due_entered : IsByDue head (order ++ p ∷ []) then (put_tick x.due p ticks) four
    due_entered = record {
      ring = linked_at p head a three
          (two_there head heads free order p cells linked x first at p (p_there head heads free order p cells linked x first at)) stand.front stand.behind
          stand.end (subst (λ l. IsRing Due three head l) stand.cut due_three) (subst (λ l. IsFree p (head ∷ l)) stand.cut fresh);
      vacant = item_past_link Due p a head three ∙ vacant_three;
      sooner = sooner_with four stand.front p stand.behind before_it behind_it
          (subst (λ l. AreSooner four l) stand.cut (sooner_same cells four dues (λ q i. old_four q (due.flies q i)) due.sooner));
      flies = λ q i. elim (in_either q stand.front (p ∷ stand.behind) i) [
        | inl k ↦ in_front q order (p ∷ []) (in_dues q (in_front q stand.front stand.behind k))
        | inr k ↦ elim k [ inl s ↦ in_back q order (p ∷ []) (inl s) | inr j ↦ in_front q order (p ∷ []) (in_dues q (in_back q stand.front stand.behind j)) ]
      ];
      stands = λ q i. elim (in_either q order (p ∷ []) i) [
        | inl k ↦ in_with q stand.front p stand.behind (subst (λ l. IsIn q l) stand.cut (due.stands q k))
        | inr k ↦ elim k [ inl s ↦ subst (λ r. IsIn r then) (sym s) (in_middle stand.front p stand.behind) | inr j ↦ absurd j ]
      ];
      many = omega (
        arith,
        length-append order (p ∷ []),
        length-append stand.front (p ∷ stand.behind),
        length-append stand.front stand.behind,
        ap length stand.cut,
        due.many,
      );
      ascending = asc_put x.due p ticks due.ascending;
      lasts = all_put (IsTick cells order) (IsTick four (order ++ p ∷ [])) x.due p ticks kept put due.ascending due.lasts;
      each = λ q y i e. elim (in_either q order (p ∷ []) i) [
        | inl k ↦ has_put y.due x.due p ticks (due.each q y k (sym (old_four q k) ∙ e))
        | inr k ↦ elim k [
          | inl s ↦ subst (λ d. HasTick d (put_tick x.due p ticks))
              (sym (ap (λ (z : Item T). z.due) (same_Some y x (sym e ∙ ap (item_at four) s ∙ new_four)))) (has_new x.due p ticks)
          | inr j ↦ absurd j
        ]
      ];
    }
      where
        vacant_three : item_at three head ≡ None
        vacant_three =
            let one = with_item p (Some x) cells in
            item_past_link Channel p (prev_of Channel one first) head one ∙ item_else p head (Some x) cells fresh.0 ∙ due.vacant
