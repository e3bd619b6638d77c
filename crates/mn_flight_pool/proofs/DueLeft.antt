-- A node leaves the ring by due tick, and another is the last of its tick, or none.
use Rattle.std.proofs.Common.{◌≡◌, ◌<◌, ◌≤◌, ◌⊎◌, inl, inr, ℕ, Bool, true, false, cond, List, [], ◌∷◌, ◌++◌, length, Option, Some, None, IsSome, refl, sym}
use Rattle.std.proofs.Common.{ap, ◌∙◌, subst, arith, append_assoc, length-append, eq-eqb}
use Rattle.std.specs.List.{AllByRecursion, IsDistinct}
use Rattle.std.proofs.lemmas.Bool.{eqb-true}
use Rattle.std.proofs.lemmas.Option.{same_Some}
use Rattle.mn_base.proofs.Bools.{not_both_ways}
use Rattle.mn_flight.specs.declared.Item.{Item}
use Rattle.mn_flight_pool.specs.Cells.{same_place}
use Rattle.mn_flight_pool.specs.Rings.{AreNeighbours, IsIn, IsRing, item_at, next_of, prev_of, unlink}
use Rattle.mn_flight_pool.specs.Ticks.{AreAscending, set_tick, drop_tick}
use Rattle.mn_flight_pool.specs.ByDue.{is_due, IsSooner, AreSooner, IsTick, HasTick, IsByDue, ticks_left}
use Rattle.mn_flight_pool.specs.Pool.{IsLinked, left}
use Rattle.mn_flight_pool.specs.declared.tick.Tick.{Tick}
use Rattle.mn_flight_pool.specs.declared.node.Pair.{Pair}
use Rattle.mn_flight_pool.specs.declared.node.Pair.TheVariants.{Channel, Due}
use Rattle.mn_flight_pool.specs.Nodes.{Node}
use Rattle.mn_flight_pool.proofs.Changed.{some_value, same_place_eq, same_place_refl}
use Rattle.mn_flight_pool.proofs.Linked.{order_apart}
use Rattle.mn_flight_pool.proofs.Neighbours.{neighbour, last_of_cons, free_at, others_free}
use Rattle.mn_flight_pool.proofs.Rings.{ring_unlinked, ring_past_unlink, ring_past_item, item_past_unlink, item_else}
use Rattle.mn_flight_pool.proofs.Sooner.{in_cut, in_front, in_back, in_either, in_with, in_without, in_middle, all_in, sooner_same, sooner_without}
use Rattle.mn_flight_pool.proofs.Sooner.{sooner_before, sooner_after, as_items, no_later, not_before, number_before, tick_item, item_tick, asc_set}
use Rattle.mn_flight_pool.proofs.Sooner.{asc_drop, all_set, all_drop, all_kept, has_set, has_drop}
use Rattle.mn_flight_pool.proofs.DueEntered.{IsEnd, channel_due}

abbrev IsStart : ℕ → List ℕ → ℕ → Type 0
IsStart s vs b = ((vs ≡ []) × (b ≡ s)) ⊎ ((ws : List ℕ) × (vs ≡ b ∷ ws))

tail_apart : (s : ℕ) (ps : List ℕ) → IsDistinct same_place (s ∷ ps) → IsDistinct same_place ps
unfolding IsDistinct
tail_apart s ps d = d.1

module _ {T : Type 0} where
  -- what stands before and after a node of a ring
  ring_before : (pair : Pair) (cells : List (Node T)) (s : ℕ) (us : List ℕ) (p : ℕ) (vs : List ℕ) → IsRing pair cells s (us ++ p ∷ vs) →
      IsEnd s us (prev_of pair cells p)
  ring_before pair cells s [] p vs ring = inl (refl, ring.round.1)
  ring_before pair cells s (u ∷ us) p vs ring =
      let N = next_of pair cells in let P = prev_of pair cells in
      let last = last_of_cons u us in let ws = last.0 in let b = last.1 in
      let sources : s ∷ ((u ∷ us) ++ p ∷ vs) ≡ (s ∷ ws) ++ b ∷ p ∷ vs =
      ap (λ l. s ∷ (l ++ p ∷ vs)) last.2 ∙ ap (λ l. s ∷ l) (append_assoc ws (b ∷ []) (p ∷ vs)) in
      let targets : ((u ∷ us) ++ p ∷ vs) ++ s ∷ [] ≡ (ws ++ b ∷ []) ++ p ∷ (vs ++ s ∷ []) =
      ap (λ l. (l ++ p ∷ vs) ++ s ∷ []) last.2 ∙ append_assoc (ws ++ b ∷ []) (p ∷ vs) (s ∷ []) in
      let split : (ws ++ b ∷ []) ++ p ∷ (vs ++ s ∷ []) ≡ ws ++ b ∷ p ∷ (vs ++ s ∷ []) = append_assoc ws (b ∷ []) (p ∷ (vs ++ s ∷ [])) in
      let e : length (s ∷ ws) ≡ length (ws ++ b ∷ []) = omega (arith, length-append ws (b ∷ [])) in
      let round =
      subst (λ l. AreNeighbours N P l ((ws ++ b ∷ []) ++ p ∷ (vs ++ s ∷ []))) sources
      (subst (λ l. AreNeighbours N P (s ∷ ((u ∷ us) ++ p ∷ vs)) l) targets ring.round) in
      let prev_is : P p ≡ b = (neighbour N P (s ∷ ws) b (p ∷ vs) (ws ++ b ∷ []) p (vs ++ s ∷ []) e round).1 in
      inr (ws, subst (λ c. u ∷ us ≡ ws ++ c ∷ []) (sym prev_is) last.2)

  ring_after : (pair : Pair) (cells : List (Node T)) (s : ℕ) (us : List ℕ) (p : ℕ) (vs : List ℕ) → IsRing pair cells s (us ++ p ∷ vs) →
      IsStart s vs (next_of pair cells p)
  ring_after pair cells s us p [] ring =
      let e : length (s ∷ us) ≡ length (us ++ p ∷ []) = omega (arith, length-append us (p ∷ [])) in
      inl (refl, (neighbour (next_of pair cells) (prev_of pair cells) (s ∷ us) p [] (us ++ p ∷ []) s [] e ring.round).0)
  ring_after pair cells s us p (v ∷ vs) ring =
      let e : length (s ∷ us) ≡ length (us ++ p ∷ []) = omega (arith, length-append us (p ∷ [])) in
      let targets : (us ++ p ∷ v ∷ vs) ++ s ∷ [] ≡ (us ++ p ∷ []) ++ v ∷ (vs ++ s ∷ []) =
      append_assoc us (p ∷ v ∷ vs) (s ∷ []) ∙ sym (append_assoc us (p ∷ []) (v ∷ (vs ++ s ∷ []))) in
      let round = subst (λ l. AreNeighbours (next_of pair cells) (prev_of pair cells) (s ∷ (us ++ p ∷ v ∷ vs)) l) targets ring.round in
      let next_is = (neighbour (next_of pair cells) (prev_of pair cells) (s ∷ us) p (v ∷ vs) (us ++ p ∷ []) v (vs ++ s ∷ []) e round).0 in
      inr (vs, subst (λ c. v ∷ vs ≡ c ∷ vs) (sym next_is) refl)

  due_item : (d : ℕ) (o : Option (Item T)) → is_due d o ≡ true → (y : Item T) × (o ≡ Some y) × (y.due ≡ d)
  due_item d None h = cc
  due_item d (Some y) h = (y, refl, eqb-true y.due d h)

  item_due : (d : ℕ) (o : Option (Item T)) (y : Item T) → o ≡ Some y → y.due ≡ d → is_due d o ≡ true
  item_due d o y e f = ap (is_due d) e ∙ eq-eqb y.due d f

  no_item : (o : Option (Item T)) (y : Item T) → o ≡ None → o ≡ Some y → ⊥
  no_item o y e f = cc

  module _ (head : ℕ) (heads free us₀ : List ℕ) (p : ℕ) (vs₀ : List ℕ) (cells : List (Node T))
      (linked : IsLinked head heads free (us₀ ++ p ∷ vs₀) cells) (x : Item T) (holds : item_at cells p ≡ Some x)
      (dues : List ℕ) (ticks : List Tick) (due : IsByDue head (us₀ ++ p ∷ vs₀) dues ticks cells) where
    abbrev pub order : List ℕ
    order = us₀ ++ p ∷ vs₀

    abbrev pub rest : List ℕ
    rest = us₀ ++ vs₀

    abbrev pub one : List (Node T)
    one = unlink Due p cells

    abbrev pub three : List (Node T)
    three = left p one

    pub cut : (us : List ℕ) × (vs : List ℕ) × (dues ≡ us ++ p ∷ vs)
    cut = in_cut p dues (due.stands p (in_middle us₀ p vs₀))

    abbrev pub us : List ℕ
    us = cut.0

    abbrev pub vs : List ℕ
    vs = cut.1

    abbrev pub then : List ℕ
    then = us ++ vs

    ring : IsRing Due cells head (us ++ p ∷ vs)
    ring = subst (λ l. IsRing Due cells head l) cut.2 due.ring

    sooner : AreSooner cells (us ++ p ∷ vs)
    sooner = subst (λ l. AreSooner cells l) cut.2 due.sooner

    -- 1. The node is none of the others
    other_rest : (q : ℕ) → IsIn q rest → q ≡ p → ⊥
    other_rest q i e =
        not_both_ways (same_place p q) (subst (λ r. same_place p r ≡ true) (sym e) (same_place_refl p))
        (free_at p rest q (others_free us₀ p vs₀ (tail_apart head order (order_apart head heads free order cells linked))) i)

    other_then : (q : ℕ) → IsIn q then → q ≡ p → ⊥
    other_then q i e =
        not_both_ways (same_place p q) (subst (λ r. same_place p r ≡ true) (sym e) (same_place_refl p))
        (free_at p then q (others_free us p vs (tail_apart head (us ++ p ∷ vs) ring.apart)) i)

    flies : (q : ℕ) → IsIn q then → IsIn q order
    flies q i = due.flies q (subst (λ l. IsIn q l) (sym cut.2) (in_with q us p vs i))

    rests : (q : ℕ) → IsIn q then → IsIn q rest
    rests q i = in_without q us₀ p vs₀ (flies q i) (other_then q i)

    stands : (q : ℕ) → IsIn q rest → IsIn q then
    stands q i = in_without q us p vs (subst (λ l. IsIn q l) cut.2 (due.stands q (in_with q us₀ p vs₀ i))) (other_rest q i)

    item_kept : (q : ℕ) → (q ≡ p → ⊥) → item_at three q ≡ item_at cells q
    item_kept q n =
        item_else p q None (unlink Channel p one) (apart (same_place p q) refl) ∙ item_past_unlink Channel p q one ∙ item_past_unlink Due p q cells
      where
        apart : (b : Bool) → same_place p q ≡ b → same_place p q ≡ false
        apart true t = absurd (n (sym (same_place_eq p q t)))
        apart false t = t

    item_rest : (q : ℕ) → IsIn q rest → item_at three q ≡ item_at cells q
    item_rest q i = item_kept q (other_rest q i)

    item_then : (q : ℕ) → IsIn q then → item_at three q ≡ item_at cells q
    item_then q i = item_kept q (other_then q i)

    -- 2. The ring, and the order in it
    ring_then : IsRing Due three head then
    ring_then =
        ring_past_item Due p None (unlink Channel p one) head then
        (ring_past_unlink Channel Due channel_due p one head then (ring_unlinked Due head cells us p vs ring))

    sooner_then : AreSooner three then
    sooner_then = sooner_same cells three then item_then (sooner_without cells us p vs sooner)

    vacant_then : item_at three head ≡ None
    vacant_then = item_kept head (λ e. no_item (item_at cells p) x (ap (item_at cells) (sym e) ∙ due.vacant) holds) ∙ due.vacant

    many_then : length then ≡ length rest
    many_then = omega (arith, due.many, ap length cut.2, length-append us vs, length-append us (p ∷ vs), length-append us₀ vs₀, length-append us₀ (p ∷ vs₀))

    -- 3. Ticks
    before_x : (u : ℕ) (y : Item T) → IsIn u us → item_at cells u ≡ Some y → (y.due < x.due) ⊎ ((y.due ≡ x.due) × (y.number < x.number))
    before_x u y i e = as_items (item_at cells u) (item_at cells p) y x e holds (sooner_before cells us p vs sooner u i)

    after_x : (v : ℕ) (y : Item T) → IsIn v vs → item_at cells v ≡ Some y → (x.due < y.due) ⊎ ((x.due ≡ y.due) × (x.number < y.number))
    after_x v y i e = as_items (item_at cells p) (item_at cells v) x y holds e (sooner_after cells us p vs sooner v i)

    -- a tick whose last node is another keeps it
    keep : (t : Tick) → (t.last.index ≡ p → ⊥) → IsTick cells order t → IsTick three rest t
    keep t n is =
        let last = tick_item cells order t.due (item_at cells t.last.index) is.last in
        record {
          there = in_without t.last.index us₀ p vs₀ is.there n;
          last = item_tick three rest t.due (item_at three t.last.index) last.0 (item_kept t.last.index n ∙ last.1) last.2
              (λ q y i e f. last.3 q y (in_with q us₀ p vs₀ i) (sym (item_rest q i) ∙ e) f);
        }

    keep_other : (t : Tick) → (t.due ≡ x.due → ⊥) → IsTick cells order t → IsTick three rest t
    keep_other t n is =
        let last = tick_item cells order t.due (item_at cells t.last.index) is.last in
        keep t (λ e. n (sym last.2 ∙ ap (λ (z : Item T). z.due) (same_Some last.0 x (sym last.1 ∙ ap (item_at cells) e ∙ holds)))) is

    has_each : (q : ℕ) (y : Item T) → IsIn q rest → item_at three q ≡ Some y → HasTick y.due ticks
    has_each q y i e = due.each q y (in_with q us₀ p vs₀ i) (sym (item_rest q i) ∙ e)

    -- the parts that depend on the ticks
    record Ticked (new : List Tick) : Type 0 where
      pub ascending : AreAscending new
      pub lasts : AllByRecursion (IsTick three rest) new
      pub each : (q : ℕ) (y : Item T) → IsIn q rest → item_at three q ≡ Some y → HasTick y.due new

    abbrev pub before : ℕ
    before = prev_of Due cells p

    abbrev pub after : ℕ
    after = next_of Due cells p

    -- one of its tick follows
    goes_on : is_due x.due (item_at cells after) ≡ true → Ticked ticks
    goes_on h =
        let y = due_item x.due (item_at cells after) h in
        let at = elim (ring_after Due cells head us p vs ring) as (λ _. IsIn after vs) [
          | inl s ↦ absurd (no_item (item_at cells after) y.0 (ap (item_at cells) s.1 ∙ due.vacant) y.1)
          | inr s ↦ subst (λ l. IsIn after l) (sym s.1) (inl refl)
        ] in
        record {
          ascending = due.ascending;
          lasts = all_kept (IsTick cells order) (IsTick three rest) ticks (λ t is.
              let last = tick_item cells order t.due (item_at cells t.last.index) is.last in
              keep t (λ e.
              let same : last.0 ≡ x = same_Some last.0 x (sym last.1 ∙ ap (item_at cells) e ∙ holds) in
              let dues_same : x.due ≡ t.due = ap (λ (z : Item T). z.due) (sym same) ∙ last.2 in
              let most : y.0.number ≤ last.0.number = last.3 after y.0 (flies after (in_back after us vs at)) y.1 (y.2 ∙ dues_same) in
              not_before x y.0 (after_x after y.0 at y.1) (sym y.2) (subst (λ (z : Item T). y.0.number ≤ z.number) same most)) is) due.lasts;
          each = has_each;
        }

    -- those that follow are due later
    all_later : is_due x.due (item_at cells after) ≡ false → (v : ℕ) (y : Item T) → IsIn v vs → item_at cells v ≡ Some y → x.due < y.due
    all_later h v y i e = elim (ring_after Due cells head us p vs ring) [
      | inl s ↦ absurd (subst (λ l. IsIn v l) s.0 i)
      | inr s ↦ started s.0 s.1
    ]
      where
        later : (w : ℕ) (z : Item T) → w ≡ after → IsIn w vs → item_at cells w ≡ Some z → x.due < z.due
        later w z s j f = elim (after_x w z j f) [
          | inl k ↦ k
          | inr k ↦ absurd
              (not_both_ways (is_due x.due (item_at cells after)) (item_due x.due (item_at cells after) z (ap (item_at cells) (sym s) ∙ f) (sym k.0)) h)
        ]

        started : (ws : List ℕ) → vs ≡ after ∷ ws → x.due < y.due
        started ws s = elim (subst (λ l. IsIn v l) s i) [
          | inl same ↦ later v y same i e
          | inr j ↦
              let first_in : IsIn after vs = subst (λ l. IsIn after l) (sym s) (inl refl) in
              let z = some_value (item_at cells after)
              (all_in (λ q. IsSome (item_at cells q)) order after linked.held (flies after (in_back after us vs first_in))) in
              let behind : AreSooner cells (after ∷ ws) = subst (λ l. AreSooner cells l) s (sooner_tail us vs sooner) in
              let follows =
              as_items (item_at cells after) (item_at cells v) z.0 y z.1 e
              (all_in (λ r. IsSooner (item_at cells after) (item_at cells r)) ws v behind.0 j) in
              omega (arith, later after z.0 refl first_in z.1, no_later z.0 y follows)
        ]
          where
            sooner_tail : (fs bs : List ℕ) → AreSooner cells (fs ++ p ∷ bs) → AreSooner cells bs
            sooner_tail [] bs k = k.1
            sooner_tail (g ∷ fs) bs k = sooner_tail fs bs k.1

    -- one of its tick is before it, and comes to be the last
    passes_on : is_due x.due (item_at cells after) ≡ false → is_due x.due (item_at cells before) ≡ true → Ticked (set_tick x.due before ticks)
    passes_on h k =
        let z = due_item x.due (item_at cells before) k in
        elim (ring_before Due cells head us p vs ring) [
          | inl s ↦ absurd (no_item (item_at cells before) z.0 (ap (item_at cells) s.1 ∙ due.vacant) z.1)
          | inr s ↦ ended s.0 s.1
        ]
      where
        ended : (ws : List ℕ) → us ≡ ws ++ before ∷ [] → Ticked (set_tick x.due before ticks)
        ended ws s =
            let z = due_item x.due (item_at cells before) k in
            let at : IsIn before us = subst (λ l. IsIn before l) (sym s) (in_middle ws before []) in
            let front : AreSooner cells (ws ++ before ∷ (p ∷ vs)) =
            subst (λ l. AreSooner cells l) (ap (λ l. l ++ p ∷ vs) s ∙ append_assoc ws (before ∷ []) (p ∷ vs)) sooner in
            record {
              ascending = asc_set x.due before ticks due.ascending;
              lasts = all_set (IsTick cells order) (IsTick three rest) x.due before ticks keep_other (record {
                there = rests before (in_front before us vs at);
                last = item_tick three rest x.due (item_at three before) z.0 (item_then before (in_front before us vs at) ∙ z.1) z.2 (λ q y i e f.
                    let old : item_at cells q ≡ Some y = sym (item_rest q i) ∙ e in
                    elim (in_either q us vs (stands q i)) [
                      | inl j ↦ elim (in_either q ws (before ∷ []) (subst (λ l. IsIn q l) s j)) [
                        | inl m ↦ number_before y z.0
                            (as_items (item_at cells q) (item_at cells before) y z.0 old z.1 (sooner_before cells ws before (p ∷ vs) front q m))
                            (f ∙ sym z.2)
                        | inr m ↦ elim m [
                          | inl same ↦ omega (arith, ap (λ (w : Item T). w.number) (same_Some y z.0 (sym old ∙ ap (item_at cells) same ∙ z.1)))
                          | inr n ↦
                              absurd n
                        ]
                      ]
                      | inr j ↦ absurd (omega (arith, all_later h q y j old, f))
                    ]);
              }) due.ascending due.lasts;
              each = λ q y i e. has_set y.due x.due before ticks (has_each q y i e);
            }

    -- those in front are due before
    all_sooner : is_due x.due (item_at cells before) ≡ false → (u : ℕ) (y : Item T) → IsIn u us → item_at cells u ≡ Some y → y.due < x.due
    all_sooner h u y i e = elim (ring_before Due cells head us p vs ring) [
      | inl s ↦ absurd (subst (λ l. IsIn u l) s.0 i)
      | inr s ↦ ended s.0 s.1
    ]
      where
        earlier : (w : ℕ) (z : Item T) → w ≡ before → IsIn w us → item_at cells w ≡ Some z → z.due < x.due
        earlier w z s j f = elim (before_x w z j f) [
          | inl k ↦ k
          | inr k ↦ absurd
              (not_both_ways (is_due x.due (item_at cells before)) (item_due x.due (item_at cells before) z (ap (item_at cells) (sym s) ∙ f) k.0) h)
        ]

        ended : (ws : List ℕ) → us ≡ ws ++ before ∷ [] → y.due < x.due
        ended ws s = elim (in_either u ws (before ∷ []) (subst (λ l. IsIn u l) s i)) [
          | inl m ↦
              let at : IsIn before us = subst (λ l. IsIn before l) (sym s) (in_middle ws before []) in
              let front : AreSooner cells (ws ++ before ∷ (p ∷ vs)) =
              subst (λ l. AreSooner cells l) (ap (λ l. l ++ p ∷ vs) s ∙ append_assoc ws (before ∷ []) (p ∷ vs)) sooner in
              let z = some_value (item_at cells before)
              (all_in (λ q. IsSome (item_at cells q)) order before linked.held (flies before (in_front before us vs at))) in
              omega (
                arith,
                no_later y z.0
                    (as_items (item_at cells u) (item_at cells before) y z.0 e z.1 (sooner_before cells ws before (p ∷ vs) front u m)),
                earlier before z.0
                    refl at z.1,
              )
          | inr m ↦ elim m [ inl same ↦ earlier u y same i e | inr n ↦ absurd n ]
        ]

    -- it was the only one of its tick
    ends : is_due x.due (item_at cells after) ≡ false → is_due x.due (item_at cells before) ≡ false → Ticked (drop_tick x.due ticks)
    ends h k = record {
      ascending = asc_drop x.due ticks due.ascending;
      lasts = all_drop (IsTick cells order) (IsTick three rest) x.due ticks keep_other due.ascending due.lasts;
      each = λ q y i e.
          let old : item_at cells q ≡ Some y = sym (item_rest q i) ∙ e in
          has_drop y.due x.due ticks (λ f. elim (in_either q us vs (stands q i)) [
            | inl j ↦ omega (arith, all_sooner k q y j old, f)
            | inr j ↦ omega (arith, all_later h q y j old, f)
          ]) (has_each q y i e);
    }

    abbrev pub ticks_then : List Tick
    ticks_then = ticks_left x.due before (item_at cells before) (item_at cells after) ticks

    ticked : Ticked ticks_then
    ticked = by (is_due x.due (item_at cells after)) refl
      where
        by : (b : Bool) → is_due x.due (item_at cells after) ≡ b →
            Ticked (cond b ticks (cond (is_due x.due (item_at cells before)) (set_tick x.due before ticks) (drop_tick x.due ticks)))
        by true h = goes_on h
        by false h = further (is_due x.due (item_at cells before)) refl
          where
            further : (b : Bool) → is_due x.due (item_at cells before) ≡ b → Ticked (cond b (set_tick x.due before ticks) (drop_tick x.due ticks))
            further true k = passes_on h k
            further false k = ends h k

    pub due_left : IsByDue head rest then ticks_then three
    due_left = assumption (ring_then, vacant_then, sooner_then, rests, stands, many_then, ticked)
