-- Linking and unlinking a node keeps the rings.
use Rattle.std.proofs.Common.{ℕ, ◌≡◌, false, List, [], ◌∷◌, ◌++◌, length, Option, Some, None, IsSome, option_map, inl, inr, refl, sym, ap, ◌∙◌, subst, arith}
use Rattle.std.proofs.Common.{append_assoc, length-append}
use Rattle.std.specs.List.{AllByRecursion, IsDistinct}
use Rattle.mn_flight_pool.specs.Cells.{same_place, value_at}
use Rattle.mn_flight_pool.specs.Rings.{AreNeighbours, IsFree, item_in, item_at, with_item, link_of, with_link, next_in, prev_in, next_of, prev_of, set_next}
use Rattle.mn_flight_pool.specs.Rings.{set_prev, link_behind, unlink, lone, room_in, room_at, IsRing, IsIn}
use Rattle.mn_flight.specs.declared.Item.{Item}
use Rattle.mn_flight_pool.specs.declared.node.Pair.{Pair}
use Rattle.mn_flight_pool.specs.declared.node.Pair.TheVariants.{Channel, Due}
use Rattle.mn_flight_pool.specs.declared.node.Link.{Link}
use Rattle.mn_flight_pool.specs.Nodes.{Node}
use Rattle.mn_flight_pool.proofs.Changed.{same_place_symm, stays, value_same, value_other, next_stays, prev_stays, keeps}
use Rattle.mn_flight_pool.proofs.Neighbours.{free_left, free_right, free_both, others_free, distinct_with, distinct_without, distinct_turned}
use Rattle.mn_flight_pool.proofs.Neighbours.{same_neighbours, between, beside, neighbour, first_of_push, last_of_cons, all_turned, all_at, all_with}
use Rattle.mn_flight_pool.proofs.Neighbours.{all_without}

-- a pair's pointers are no other pair's
abbrev pub Unlike : Pair → Pair → Type 0
Unlike pair other = pair ≡ other → ⊥

module _ {T : Type 0} where
  -- 1. One pointer
  linked : (pair : Pair) (link : Link) (node : Node T) → link_of pair (with_link pair link node) ≡ link
  linked Channel link node = refl
  linked Due link node = refl

  next_same : (pair : Pair) (q : ℕ) (o : Option (Node T)) → IsSome o →
      next_in pair (option_map (λ node. with_link pair (record (link_of pair node) { next = record { index = q } }) node) o) ≡ q
  next_same pair q None h = cc
  next_same pair q (Some node) h = ap (λ (l : Link). l.next.index) (linked pair (record (link_of pair node) { next = record { index = q } }) node)

  prev_same : (pair : Pair) (q : ℕ) (o : Option (Node T)) → IsSome o →
      prev_in pair (option_map (λ node. with_link pair (record (link_of pair node) { prev = record { index = q } }) node) o) ≡ q
  prev_same pair q None h = cc
  prev_same pair q (Some node) h = ap (λ (l : Link). l.prev.index) (linked pair (record (link_of pair node) { prev = record { index = q } }) node)

  next_kept : (pair : Pair) (q : ℕ) (o : Option (Node T)) →
      next_in pair (option_map (λ node. with_link pair (record (link_of pair node) { prev = record { index = q } }) node) o) ≡ next_in pair o
  next_kept pair q None = refl
  next_kept pair q (Some node) = ap (λ (l : Link). l.next.index) (linked pair (record (link_of pair node) { prev = record { index = q } }) node)

  prev_kept : (pair : Pair) (q : ℕ) (o : Option (Node T)) →
      prev_in pair (option_map (λ node. with_link pair (record (link_of pair node) { next = record { index = q } }) node) o) ≡ prev_in pair o
  prev_kept pair q None = refl
  prev_kept pair q (Some node) = ap (λ (l : Link). l.prev.index) (linked pair (record (link_of pair node) { next = record { index = q } }) node)

  module _ (pair : Pair) where
    pub next_at : (p q : ℕ) (cells : List (Node T)) → IsSome (value_at p cells) → next_of pair (set_next pair p q cells) p ≡ q
    next_at p q cells h =
        ap (next_in pair) (value_same p (λ node. with_link pair (record (link_of pair node) { next = record { index = q } }) node) cells)
        ∙ next_same pair q (value_at p cells) h

    pub prev_at : (p q : ℕ) (cells : List (Node T)) → IsSome (value_at p cells) → prev_of pair (set_prev pair p q cells) p ≡ q
    prev_at p q cells h =
        ap (prev_in pair) (value_same p (λ node. with_link pair (record (link_of pair node) { prev = record { index = q } }) node) cells)
        ∙ prev_same pair q (value_at p cells) h

    pub next_else : (p q x : ℕ) (cells : List (Node T)) → same_place p x ≡ false → next_of pair (set_next pair p q cells) x ≡ next_of pair cells x
    next_else p q x cells h =
        ap (next_in pair) (value_other p x (λ node. with_link pair (record (link_of pair node) { next = record { index = q } }) node) cells h)

    prev_else : (p q x : ℕ) (cells : List (Node T)) → same_place p x ≡ false → prev_of pair (set_prev pair p q cells) x ≡ prev_of pair cells x
    prev_else p q x cells h =
        ap (prev_in pair) (value_other p x (λ node. with_link pair (record (link_of pair node) { prev = record { index = q } }) node) cells h)

    pub next_past : (p q x : ℕ) (cells : List (Node T)) → next_of pair (set_prev pair p q cells) x ≡ next_of pair cells x
    next_past p q x cells =
        keeps (next_in pair) p x (λ node. with_link pair (record (link_of pair node) { prev = record { index = q } }) node) cells (next_kept pair q)

    pub prev_past : (p q x : ℕ) (cells : List (Node T)) → prev_of pair (set_next pair p q cells) x ≡ prev_of pair cells x
    prev_past p q x cells =
        keeps (prev_in pair) p x (λ node. with_link pair (record (link_of pair node) { next = record { index = q } }) node) cells (prev_kept pair q)

    -- 2. A node between a and b, which is not at either
    module _ (p a b : ℕ) (cells : List (Node T)) (there : IsSome (value_at p cells)) (there_a : IsSome (value_at a cells))
        (there_b : IsSome (value_at b cells)) (not_a : same_place p a ≡ false) (not_b : same_place p b ≡ false) where
      abbrev one : List (Node T)
      one = set_next pair p b cells

      abbrev two : List (Node T)
      two = set_prev pair p a one

      abbrev three : List (Node T)
      three = set_next pair a p two

      abbrev four : List (Node T)
      four = set_prev pair b p three

      in_one : (x : ℕ) → IsSome (value_at x cells) → IsSome (value_at x one)
      in_one x h = next_stays pair p b x cells one refl h

      in_two : (x : ℕ) → IsSome (value_at x cells) → IsSome (value_at x two)
      in_two x h = prev_stays pair p a x one two refl (in_one x h)

      in_three : (x : ℕ) → IsSome (value_at x cells) → IsSome (value_at x three)
      in_three x h = next_stays pair a p x two three refl (in_two x h)

      in_four : (x : ℕ) → IsSome (value_at x cells) → IsSome (value_at x four)
      in_four x h = prev_stays pair b p x three four refl (in_three x h)

      next_a : next_of pair four a ≡ p
      next_a = next_past b p a three ∙ next_at a p two (in_two a there_a)

      next_p : next_of pair four p ≡ b
      next_p = next_past b p p three ∙ next_else a p p two (same_place_symm a p ∙ not_a) ∙ next_past p a p one ∙ next_at p b cells there

      next_x : (x : ℕ) → same_place a x ≡ false → same_place p x ≡ false → next_of pair four x ≡ next_of pair cells x
      next_x x f g = next_past b p x three ∙ next_else a p x two f ∙ next_past p a x one ∙ next_else p b x cells g

      prev_b : prev_of pair four b ≡ p
      prev_b = prev_at b p three (in_three b there_b)

      prev_p : prev_of pair four p ≡ a
      prev_p = prev_else b p p three (same_place_symm b p ∙ not_b) ∙ prev_past a p p two ∙ prev_at p a one (in_one p there)

      prev_x : (x : ℕ) → same_place b x ≡ false → same_place p x ≡ false → prev_of pair four x ≡ prev_of pair cells x
      prev_x x f g = prev_else b p x three f ∙ prev_past a p x two ∙ prev_else p a x one g ∙ prev_past p b x cells

      all_next : (xs : List ℕ) → IsFree a xs → IsFree p xs → AllByRecursion (λ x. next_of pair four x ≡ next_of pair cells x) xs
      all_next [] f g = tt
      all_next (x ∷ xs) f g = (next_x x f.0 g.0, all_next xs f.1 g.1)

      all_prev : (xs : List ℕ) → IsFree b xs → IsFree p xs → AllByRecursion (λ x. prev_of pair four x ≡ prev_of pair cells x) xs
      all_prev [] f g = tt
      all_prev (x ∷ xs) f g = (prev_x x f.0 g.0, all_prev xs f.1 g.1)

      all_there : (xs : List ℕ) → AllByRecursion (λ x. IsSome (value_at x cells)) xs → AllByRecursion (λ x. IsSome (value_at x four)) xs
      all_there [] h = tt
      all_there (x ∷ xs) h = (in_four x h.0, all_there xs h.1)

      gone : (us vs : List ℕ) (x : ℕ) → IsFree p (us ++ x ∷ vs) → IsFree p (us ++ vs)
      gone us vs x h = free_both p us vs (free_left p us (x ∷ vs) h) (free_right p us (x ∷ vs) h).1

      -- p comes to stand between a and b in the lists of neighbours
      round : (us vs us' vs' : List ℕ) → length us ≡ length us' → IsDistinct same_place (us ++ a ∷ vs) → IsDistinct same_place (us' ++ b ∷ vs') →
          IsFree p (us ++ a ∷ vs) → IsFree p (us' ++ b ∷ vs')
          → AreNeighbours (next_of pair cells) (prev_of pair cells) (us ++ a ∷ vs) (us' ++ b ∷ vs') →
          AreNeighbours (next_of pair four) (prev_of pair four) (us ++ a ∷ p ∷ vs) (us' ++ p ∷ b ∷ vs')
      round us vs us' vs' e d d' f f' h =
          between (next_of pair cells) (prev_of pair cells) (next_of pair four) (prev_of pair four) us a vs us' b vs' p e h next_a prev_p next_p prev_b
          (all_next (us ++ vs) (others_free us a vs d) (gone us vs a f)) (all_prev (us' ++ vs') (others_free us' b vs' d') (gone us' vs' b f'))

    -- 3. Rings
    module _ (p s : ℕ) (cells : List (Node T)) (there : IsSome (value_at p cells)) where
      -- from the ring's lists of neighbours, cut at the node a and its neighbour b
      cut_ring : (ps us : List ℕ) (a : ℕ) (vs us' : List ℕ) (b : ℕ) (vs' qs : List ℕ) → IsRing pair cells s ps → IsFree p (s ∷ ps)
          → s ∷ ps ≡ us ++ a ∷ vs → ps ++ s ∷ [] ≡ us' ++ b ∷ vs' → length us ≡ length us'
          → s ∷ qs ≡ us ++ a ∷ p ∷ vs → qs ++ s ∷ [] ≡ us' ++ p ∷ b ∷ vs' → IsRing pair (link_behind pair p a cells) s qs
      cut_ring ps us a vs us' b vs' qs ring free es et e fs ft =
          let Here : ℕ → Type 0 = λ x. IsSome (value_at x cells) in
          let sources = subst (λ l. AllByRecursion Here l) es ring.there in
          let targets = subst (λ l. AllByRecursion Here l) et (all_turned Here s ps ring.there) in
          let there_a = all_at Here us a vs sources in
          let there_b = all_at Here us' b vs' targets in
          let free_s = subst (λ l. IsFree p l) es free in
          let free_t = subst (λ l. IsFree p l) et (all_turned (λ q. same_place p q ≡ false) s ps free) in
          let not_a : same_place p a ≡ false = all_at (λ q. same_place p q ≡ false) us a vs free_s in
          let not_b : same_place p b ≡ false = all_at (λ q. same_place p q ≡ false) us' b vs' free_t in
          let apart_s = subst (λ l. IsDistinct same_place l) es ring.apart in
          let apart_t = subst (λ l. IsDistinct same_place l) et (distinct_turned s ps ring.apart) in
          let h = subst (λ l. AreNeighbours (next_of pair cells) (prev_of pair cells) l (us' ++ b ∷ vs')) es
          (subst (λ l. AreNeighbours (next_of pair cells) (prev_of pair cells) (s ∷ ps) l) et ring.round) in
          let next_is : next_of pair cells a ≡ b = (neighbour (next_of pair cells) (prev_of pair cells) us a vs us' b vs' e h).0 in
          let four_is : four p a b cells there there_a there_b not_a not_b ≡ link_behind pair p a cells =
          ap (λ c. set_prev pair c p (set_next pair a p (set_prev pair p a (set_next pair p c cells)))) (sym next_is) in
          let at_a_p : us ++ a ∷ p ∷ vs ≡ (us ++ a ∷ []) ++ p ∷ vs = sym (append_assoc us (a ∷ []) (p ∷ vs)) in
          let at_a : us ++ a ∷ vs ≡ (us ++ a ∷ []) ++ vs = sym (append_assoc us (a ∷ []) vs) in
          subst (λ c. IsRing pair c s qs) four_is (record {
            apart = subst (λ l. IsDistinct same_place l) (sym (fs ∙ at_a_p))
                (distinct_with (us ++ a ∷ []) p vs (subst (λ l. IsFree p l) at_a free_s) (subst (λ l. IsDistinct same_place l) at_a apart_s));
            there =
                subst (λ l. AllByRecursion (λ x. IsSome (value_at x (four p a b cells there there_a there_b not_a not_b))) l) (sym (fs ∙ at_a_p))
                (all_there p a b cells there there_a there_b not_a not_b ((us ++ a ∷ []) ++ p ∷ vs)
                (all_with Here (us ++ a ∷ []) p vs there (subst (λ l. AllByRecursion Here l) at_a sources)));
            round =
                subst (λ l. AreNeighbours (next_of pair (four p a b cells there there_a there_b not_a not_b))
                (prev_of pair (four p a b cells there there_a there_b not_a not_b)) l (qs ++ s ∷ [])) (sym fs)
                (subst (λ l. AreNeighbours (next_of pair (four p a b cells there there_a there_b not_a not_b))
                (prev_of pair (four p a b cells there there_a there_b not_a not_b)) (us ++ a ∷ p ∷ vs) l) (sym ft)
                (round p a b cells there there_a there_b not_a not_b us vs us' vs' e apart_s apart_t free_s free_t h));
          })

      -- a node is linked in behind the ring's first
      pub ring_front : (ps : List ℕ) → IsRing pair cells s ps → IsFree p (s ∷ ps) → IsRing pair (link_behind pair p s cells) s (p ∷ ps)
      ring_front ps ring free =
          let on = first_of_push ps s in
          cut_ring ps [] s ps [] on.0 on.1 (p ∷ ps) ring free refl on.2 refl refl (ap (λ l. p ∷ l) on.2)

      -- or behind another of its nodes
      pub ring_behind : (us : List ℕ) (a : ℕ) (vs : List ℕ) → IsRing pair cells s (us ++ a ∷ vs) → IsFree p (s ∷ (us ++ a ∷ vs)) →
          IsRing pair (link_behind pair p a cells) s (us ++ a ∷ p ∷ vs)
      ring_behind us a vs ring free =
          let on = first_of_push vs s in
          let targets : (us ++ a ∷ vs) ++ s ∷ [] ≡ (us ++ a ∷ []) ++ on.0 ∷ on.1 =
          append_assoc us (a ∷ vs) (s ∷ []) ∙ ap (λ l. us ++ a ∷ l) on.2 ∙ sym (append_assoc us (a ∷ []) (on.0 ∷ on.1)) in
          let later : (us ++ a ∷ p ∷ vs) ++ s ∷ [] ≡ (us ++ a ∷ []) ++ p ∷ on.0 ∷ on.1 =
          append_assoc us (a ∷ p ∷ vs) (s ∷ []) ∙ ap (λ l. us ++ a ∷ p ∷ l) on.2 ∙ sym (append_assoc us (a ∷ []) (p ∷ on.0 ∷ on.1)) in
          cut_ring (us ++ a ∷ vs) (s ∷ us) a vs (us ++ a ∷ []) on.0 on.1 (us ++ a ∷ p ∷ vs) ring free refl targets
          (omega (arith, length-append us (a ∷ []))) refl later

    -- a node leaves its ring
    module _ (s : ℕ) (cells : List (Node T)) where
      pub ring_unlinked : (us : List ℕ) (p : ℕ) (vs : List ℕ) → IsRing pair cells s (us ++ p ∷ vs) → IsRing pair (unlink pair p cells) s (us ++ vs)
      ring_unlinked us p vs ring =
          let Here : ℕ → Type 0 = λ x. IsSome (value_at x cells) in
          let N = next_of pair cells in let P = prev_of pair cells in
          let last = last_of_cons s us in let us₁ = last.0 in let a = last.1 in
          let first = first_of_push vs s in let b = first.0 in let vs' = first.1 in
          let sources : s ∷ (us ++ p ∷ vs) ≡ us₁ ++ a ∷ p ∷ vs = ap (λ l. l ++ p ∷ vs) last.2 ∙ append_assoc us₁ (a ∷ []) (p ∷ vs) in
          let targets : (us ++ p ∷ vs) ++ s ∷ [] ≡ us ++ p ∷ b ∷ vs' = append_assoc us (p ∷ vs) (s ∷ []) ∙ ap (λ l. us ++ p ∷ l) first.2 in
          let sources' : s ∷ (us ++ vs) ≡ us₁ ++ a ∷ vs = ap (λ l. l ++ vs) last.2 ∙ append_assoc us₁ (a ∷ []) vs in
          let targets' : (us ++ vs) ++ s ∷ [] ≡ us ++ b ∷ vs' = append_assoc us vs (s ∷ []) ∙ ap (λ l. us ++ l) first.2 in
          let e : length us₁ ≡ length us = omega (arith, ap length last.2, length-append us₁ (a ∷ [])) in
          let h = subst (λ l. AreNeighbours N P l (us ++ p ∷ b ∷ vs')) sources (subst (λ l. AreNeighbours N P (s ∷ (us ++ p ∷ vs)) l) targets ring.round) in
          let prev_is : P p ≡ a = (neighbour N P us₁ a (p ∷ vs) us p (b ∷ vs') e h).1 in
          let second : us₁ ++ a ∷ p ∷ vs ≡ (us₁ ++ a ∷ []) ++ p ∷ vs = sym (append_assoc us₁ (a ∷ []) (p ∷ vs)) in
          let third : us ++ p ∷ b ∷ vs' ≡ (us ++ p ∷ []) ++ b ∷ vs' = sym (append_assoc us (p ∷ []) (b ∷ vs')) in
          let next_is : N p ≡ b =
          (neighbour N P (us₁ ++ a ∷ []) p vs (us ++ p ∷ []) b vs' (omega (arith, e, length-append us₁ (a ∷ []), length-append us (p ∷ [])))
          (subst (λ l. AreNeighbours N P l ((us ++ p ∷ []) ++ b ∷ vs')) second (subst (λ l. AreNeighbours N P (us₁ ++ a ∷ p ∷ vs) l) third h))).0 in
          let apart' : IsDistinct same_place (s ∷ (us ++ vs)) = distinct_without (s ∷ us) p vs ring.apart in
          let there' : AllByRecursion Here (s ∷ (us ++ vs)) = all_without Here (s ∷ us) p vs ring.there in
          let there_a : Here a = all_at Here us₁ a vs (subst (λ l. AllByRecursion Here l) sources' there') in
          let there_b : Here b = all_at Here us b vs' (subst (λ l. AllByRecursion Here l) targets' (all_turned Here s (us ++ vs) there')) in
          let one = set_next pair a b cells in let two = set_prev pair b a one in
          let stay : (x : ℕ) → Here x → IsSome (value_at x two) = λ x k. prev_stays pair b a x one two refl (next_stays pair a b x cells one refl k) in
          let two_is : two ≡ unlink pair p cells = (λ i. set_prev pair (sym next_is i) (sym prev_is i) (set_next pair (sym prev_is i) (sym next_is i) cells)) in
          subst (λ c. IsRing pair c s (us ++ vs)) two_is (record {
            apart = apart';
            there = all_stay (λ x. Here x) (λ x. IsSome (value_at x two)) stay (s ∷ (us ++ vs)) there';
            round =
                subst (λ l. AreNeighbours (next_of pair two) (prev_of pair two) l ((us ++ vs) ++ s ∷ [])) (sym sources')
                (subst (λ l. AreNeighbours (next_of pair two) (prev_of pair two) (us₁ ++ a ∷ vs) l) (sym targets')
                (beside N P (next_of pair two) (prev_of pair two) us₁ a vs us b vs' p e h
                (next_past b a a one ∙ next_at a b cells there_a) (prev_at b a one (next_stays pair a b b cells one refl there_b))
                (every_next a b (us₁ ++ vs) (others_free us₁ a vs (subst (λ l. IsDistinct same_place l) sources' apart')))
                (every_prev a b (us ++ vs') (others_free us b vs' (subst (λ l. IsDistinct same_place l) targets' (distinct_turned s (us ++ vs) apart'))))));
          })
        where
          all_stay : (P Q : ℕ → Type 0) → ((x : ℕ) → P x → Q x) → (xs : List ℕ) → AllByRecursion P xs → AllByRecursion Q xs
          all_stay P Q f [] h = tt
          all_stay P Q f (x ∷ xs) h = (f x h.0, all_stay P Q f xs h.1)

          every_next : (a b : ℕ) (xs : List ℕ) → IsFree a xs →
              AllByRecursion (λ x. next_of pair (set_prev pair b a (set_next pair a b cells)) x ≡ next_of pair cells x) xs
          every_next a b [] f = tt
          every_next a b (x ∷ xs) f = (next_past b a x (set_next pair a b cells) ∙ next_else a b x cells f.0, every_next a b xs f.1)

          every_prev : (a b : ℕ) (xs : List ℕ) → IsFree b xs →
              AllByRecursion (λ x. prev_of pair (set_prev pair b a (set_next pair a b cells)) x ≡ prev_of pair cells x) xs
          every_prev a b [] f = tt
          every_prev a b (x ∷ xs) f = (prev_else b a x (set_next pair a b cells) f.0 ∙ prev_past a b x cells, every_prev a b xs f.1)

    -- a node is linked in behind the last, which the first leads back to
    module _ (p s : ℕ) (cells : List (Node T)) (there : IsSome (value_at p cells)) where
      pub last_node : (us : List ℕ) (a : ℕ) → IsRing pair cells s (us ++ a ∷ []) → prev_of pair cells s ≡ a
      last_node us a ring =
          let e : length (s ∷ us) ≡ length (us ++ a ∷ []) = omega (arith, length-append us (a ∷ [])) in
          (neighbour (next_of pair cells) (prev_of pair cells) (s ∷ us) a [] (us ++ a ∷ []) s [] e ring.round).1

      pub ring_back : (ps : List ℕ) → IsRing pair cells s ps → IsFree p (s ∷ ps) →
          IsRing pair (link_behind pair p (prev_of pair cells s) cells) s (ps ++ p ∷ [])
      ring_back [] ring free = subst (λ a. IsRing pair (link_behind pair p a cells) s (p ∷ [])) (sym ring.round.1) (ring_front p s cells there [] ring free)
      ring_back (x ∷ xs) ring free =
          let last = last_of_cons x xs in let us = last.0 in let a = last.1 in
          let ring' : IsRing pair cells s (us ++ a ∷ []) = subst (λ l. IsRing pair cells s l) last.2 ring in
          subst (λ b. IsRing pair (link_behind pair p b cells) s ((x ∷ xs) ++ p ∷ [])) (sym (last_node us a ring'))
          (subst (λ l. IsRing pair (link_behind pair p a cells) s l) (sym (ap (λ l. l ++ p ∷ []) last.2 ∙ append_assoc us (a ∷ []) (p ∷ [])))
          (ring_behind p s cells there us a [] ring' (subst (λ l. IsFree p (s ∷ l)) last.2 free)))

  -- 4. What a change leaves alone
  module _ (old new : List (Node T)) (stay : (x : ℕ) → IsSome (value_at x old) → IsSome (value_at x new)) (pair : Pair) where
    pub ring_same : ((x : ℕ) → IsSome (value_at x old) → next_of pair new x ≡ next_of pair old x) →
        ((x : ℕ) → IsSome (value_at x old) → prev_of pair new x ≡ prev_of pair old x)
        → (s : ℕ) (ps : List ℕ) → IsRing pair old s ps → IsRing pair new s ps
    ring_same n p s ps ring =
        let Here : ℕ → Type 0 = λ x. IsSome (value_at x old) in
        record {
          apart = ring.apart;
          there = each Here (λ x. IsSome (value_at x new)) stay (s ∷ ps) ring.there;
          round =
              same_neighbours (next_of pair old) (prev_of pair old) (next_of pair new) (prev_of pair new) (s ∷ ps) (ps ++ s ∷ [])
              (each Here (λ x. next_of pair new x ≡ next_of pair old x) n (s ∷ ps) ring.there)
              (each Here (λ x. prev_of pair new x ≡ prev_of pair old x) p (ps ++ s ∷ []) (all_turned Here s ps ring.there)) ring.round;
        }
      where
        each : (P Q : ℕ → Type 0) → ((x : ℕ) → P x → Q x) → (xs : List ℕ) → AllByRecursion P xs → AllByRecursion Q xs
        each P Q f [] h = tt
        each P Q f (x ∷ xs) h = (f x h.0, each P Q f xs h.1)

  pub link_unlike : (pair other : Pair) → Unlike pair other → (link : Link) (node : Node T) → link_of other (with_link pair link node) ≡ link_of other node
  link_unlike Channel Channel u link node = absurd (u refl)
  link_unlike Channel Due u link node = refl
  link_unlike Due Channel u link node = refl
  link_unlike Due Due u link node = absurd (u refl)

  pub item_kept : (pair : Pair) (link : Link) (node : Node T) → item_in (Some (with_link pair link node)) ≡ item_in (Some node)
  item_kept pair link node = refl

  pub room_kept : (pair : Pair) (link : Link) (node : Node T) → room_in (Some (with_link pair link node)) ≡ room_in (Some node)
  room_kept pair link node = refl

  -- what is seen of a node without one pair of its pointers
  abbrev pub Sees : {X : Type 0} → Pair → (Option (Node T) → X) → Type 0
  Sees pair see = (link : Link) (node : Node T) → see (Some (with_link pair link node)) ≡ see (Some node)

  module _ {X : Type 0} (pair : Pair) (see : Option (Node T) → X) (sees : Sees pair see) where
    mapped : (f : Node T → Node T) → ((node : Node T) → see (Some (f node)) ≡ see (Some node)) → (o : Option (Node T)) → see (option_map f o) ≡ see o
    mapped f k None = refl
    mapped f k (Some node) = k node

    pub set_next_leaves : (p q x : ℕ) (cells : List (Node T)) → see (value_at x (set_next pair p q cells)) ≡ see (value_at x cells)
    set_next_leaves p q x cells =
        keeps see p x (λ node. with_link pair (record (link_of pair node) { next = record { index = q } }) node) cells
        (mapped (λ node. with_link pair (record (link_of pair node) { next = record { index = q } }) node)
        (λ node. sees (record (link_of pair node) { next = record { index = q } }) node))

    pub set_prev_leaves : (p q x : ℕ) (cells : List (Node T)) → see (value_at x (set_prev pair p q cells)) ≡ see (value_at x cells)
    set_prev_leaves p q x cells =
        keeps see p x (λ node. with_link pair (record (link_of pair node) { prev = record { index = q } }) node) cells
        (mapped (λ node. with_link pair (record (link_of pair node) { prev = record { index = q } }) node)
        (λ node. sees (record (link_of pair node) { prev = record { index = q } }) node))

    pub link_leaves : (p a x : ℕ) (cells : List (Node T)) → see (value_at x (link_behind pair p a cells)) ≡ see (value_at x cells)
    link_leaves p a x cells =
        let b = next_of pair cells a in
        set_prev_leaves b p x (set_next pair a p (set_prev pair p a (set_next pair p b cells)))
        ∙ set_next_leaves a p x (set_prev pair p a (set_next pair p b cells)) ∙ set_prev_leaves p a x (set_next pair p b cells)
        ∙ set_next_leaves p b x cells

    pub unlink_leaves : (p x : ℕ) (cells : List (Node T)) → see (value_at x (unlink pair p cells)) ≡ see (value_at x cells)
    unlink_leaves p x cells =
        let a = prev_of pair cells p in let b = next_of pair cells p in
        set_prev_leaves b a x (set_next pair a b cells) ∙ set_next_leaves a b x cells

  pub link_stays : (pair : Pair) (p a x : ℕ) (cells : List (Node T)) → IsSome (value_at x cells) → IsSome (value_at x (link_behind pair p a cells))
  link_stays pair p a x cells h =
      let b = next_of pair cells a in
      let one = set_next pair p b cells in let two = set_prev pair p a one in let three = set_next pair a p two in
      prev_stays pair b p x three (set_prev pair b p three) refl
      (next_stays pair a p x two three refl (prev_stays pair p a x one two refl (next_stays pair p b x cells one refl h)))

  pub unlink_stays : (pair : Pair) (p x : ℕ) (cells : List (Node T)) → IsSome (value_at x cells) → IsSome (value_at x (unlink pair p cells))
  unlink_stays pair p x cells h =
      let a = prev_of pair cells p in let b = next_of pair cells p in
      prev_stays pair b a x (set_next pair a b cells) (set_prev pair b a (set_next pair a b cells)) refl
      (next_stays pair a b x cells (set_next pair a b cells) refl h)

  -- a ring of another pair stays as it is
  pub ring_past_link : (pair other : Pair) → Unlike pair other →
      (p a : ℕ) (cells : List (Node T)) (s : ℕ) (ps : List ℕ) → IsRing other cells s ps → IsRing other (link_behind pair p a cells) s ps
  ring_past_link pair other u p a cells =
      ring_same cells (link_behind pair p a cells) (λ x. link_stays pair p a x cells) other
      (λ x h. link_leaves pair (next_in other) (λ link node. ap (λ (l : Link). l.next.index) (link_unlike pair other u link node)) p a x cells)
      (λ x h. link_leaves pair (prev_in other) (λ link node. ap (λ (l : Link). l.prev.index) (link_unlike pair other u link node)) p a x cells)

  pub ring_past_unlink : (pair other : Pair) → Unlike pair other →
      (p : ℕ) (cells : List (Node T)) (s : ℕ) (ps : List ℕ) → IsRing other cells s ps → IsRing other (unlink pair p cells) s ps
  ring_past_unlink pair other u p cells =
      ring_same cells (unlink pair p cells) (λ x. unlink_stays pair p x cells) other
      (λ x h. unlink_leaves pair (next_in other) (λ link node. ap (λ (l : Link). l.next.index) (link_unlike pair other u link node)) p x cells)
      (λ x h. unlink_leaves pair (prev_in other) (λ link node. ap (λ (l : Link). l.prev.index) (link_unlike pair other u link node)) p x cells)

  -- linking and unlinking keep the items
  pub item_past_link : (pair : Pair) (p a x : ℕ) (cells : List (Node T)) → item_at (link_behind pair p a cells) x ≡ item_at cells x
  item_past_link pair p a x cells = link_leaves pair item_in (item_kept pair) p a x cells

  pub item_past_unlink : (pair : Pair) (p x : ℕ) (cells : List (Node T)) → item_at (unlink pair p cells) x ≡ item_at cells x
  item_past_unlink pair p x cells = unlink_leaves pair item_in (item_kept pair) p x cells

  -- and where there is room
  pub room_past_link : (pair : Pair) (p a x : ℕ) (cells : List (Node T)) → room_at (link_behind pair p a cells) x ≡ room_at cells x
  room_past_link pair p a x cells = link_leaves pair room_in (room_kept pair) p a x cells

  pub room_past_unlink : (pair : Pair) (p x : ℕ) (cells : List (Node T)) → room_at (unlink pair p cells) x ≡ room_at cells x
  room_past_unlink pair p x cells = unlink_leaves pair room_in (room_kept pair) p x cells

  pub room_lone : (pair : Pair) (p x : ℕ) (cells : List (Node T)) → room_at (lone pair p cells) x ≡ room_at cells x
  room_lone pair p x cells =
      set_prev_leaves pair room_in (room_kept pair) p p x (set_next pair p p cells) ∙ set_next_leaves pair room_in (room_kept pair) p p x cells

  pub room_past_item : (p x : ℕ) (item : Option (Item T)) (cells : List (Node T)) → room_at (with_item p item cells) x ≡ room_at cells x
  room_past_item p x item cells = keeps room_in p x (λ (node : Node T). record node { item = item }) cells kept
    where
      kept : (o : Option (Node T)) → room_in (option_map (λ (node : Node T). record node { item = item }) o) ≡ room_in o
      kept None = refl
      kept (Some node) = refl

  -- a change of items keeps the rings
  pub item_next : (pair : Pair) (item : Option (Item T)) (o : Option (Node T)) →
      next_in pair (option_map (λ (node : Node T). record node { item = item }) o) ≡ next_in pair o
  item_next pair item None = refl
  item_next Channel item (Some node) = refl
  item_next Due item (Some node) = refl

  item_prev : (pair : Pair) (item : Option (Item T)) (o : Option (Node T)) →
      prev_in pair (option_map (λ (node : Node T). record node { item = item }) o) ≡ prev_in pair o
  item_prev pair item None = refl
  item_prev Channel item (Some node) = refl
  item_prev Due item (Some node) = refl

  pub ring_past_item : (pair : Pair) (p : ℕ) (item : Option (Item T)) (cells : List (Node T)) (s : ℕ) (ps : List ℕ) → IsRing pair cells s ps →
      IsRing pair (with_item p item cells) s ps
  ring_past_item pair p item cells =
      ring_same cells (with_item p item cells) (λ x. stays p x (λ (node : Node T). record node { item = item }) cells) pair
      (λ x h. keeps (next_in pair) p x (λ (node : Node T). record node { item = item }) cells (item_next pair item))
      (λ x h. keeps (prev_in pair) p x (λ (node : Node T). record node { item = item }) cells (item_prev pair item))

  pub item_put : (p : ℕ) (item : Option (Item T)) (cells : List (Node T)) → IsSome (value_at p cells) → item_at (with_item p item cells) p ≡ item
  item_put p item cells h = ap item_in (value_same p (λ (node : Node T). record node { item = item }) cells) ∙ put (value_at p cells) h
    where
      put : (o : Option (Node T)) → IsSome o → item_in (option_map (λ (node : Node T). record node { item = item }) o) ≡ item
      put None h = cc
      put (Some node) h = refl

  pub item_else : (p x : ℕ) (item : Option (Item T)) (cells : List (Node T)) → same_place p x ≡ false →
      item_at (with_item p item cells) x ≡ item_at cells x
  item_else p x item cells h = ap item_in (value_other p x (λ (node : Node T). record node { item = item }) cells h)

  -- another ring of the pair, in which none of the linked nodes stands, stays as it is
  pub ring_aside_link : (pair : Pair) (p a : ℕ) (cells : List (Node T)) (s : ℕ) (ps : List ℕ) → IsFree p (s ∷ ps) → IsFree a (s ∷ ps) →
      IsFree (next_of pair cells a) (s ∷ ps) → IsRing pair cells s ps → IsRing pair (link_behind pair p a cells) s ps
  ring_aside_link pair p a cells s ps fp fa fb ring =
      let b = next_of pair cells a in
      let one = set_next pair p b cells in let two = set_prev pair p a one in let three = set_next pair a p two in
      record {
        apart = ring.apart;
        there = each (λ x. IsSome (value_at x cells)) (λ x. IsSome (value_at x (link_behind pair p a cells))) (λ x. link_stays pair p a x cells)
            (s ∷ ps) ring.there;
        round =
            same_neighbours (next_of pair cells) (prev_of pair cells) (next_of pair (link_behind pair p a cells))
            (prev_of pair (link_behind pair p a cells)) (s ∷ ps) (ps ++ s ∷ [])
            (nexts (s ∷ ps) fp fa) (prevs (ps ++ s ∷ []) (all_turned (λ q. same_place p q ≡ false) s ps fp) (all_turned (λ q. same_place b q ≡ false) s ps fb))
            ring.round;
      }
    where
      each : (P Q : ℕ → Type 0) → ((x : ℕ) → P x → Q x) → (xs : List ℕ) → AllByRecursion P xs → AllByRecursion Q xs
      each P Q f [] h = tt
      each P Q f (x ∷ xs) h = (f x h.0, each P Q f xs h.1)

      nexts : (xs : List ℕ) → IsFree p xs → IsFree a xs → AllByRecursion (λ x. next_of pair (link_behind pair p a cells) x ≡ next_of pair cells x) xs
      nexts [] f g = tt
      nexts (x ∷ xs) f g =
          let b = next_of pair cells a in
          let one = set_next pair p b cells in let two = set_prev pair p a one in let three = set_next pair a p two in
          (next_past pair b p x three ∙ next_else pair a p x two g.0 ∙ next_past pair p a x one ∙ next_else pair p b x cells f.0, nexts xs f.1 g.1)

      prevs : (xs : List ℕ) → IsFree p xs → IsFree (next_of pair cells a) xs →
          AllByRecursion (λ x. prev_of pair (link_behind pair p a cells) x ≡ prev_of pair cells x) xs
      prevs [] f g = tt
      prevs (x ∷ xs) f g =
          let b = next_of pair cells a in
          let one = set_next pair p b cells in let two = set_prev pair p a one in let three = set_next pair a p two in
          (prev_else pair b p x three g.0 ∙ prev_past pair a p x two ∙ prev_else pair p a x one f.0 ∙ prev_past pair p b x cells, prevs xs f.1 g.1)

  -- what leads to a ring's first node is the first itself or one of its others, and leads on to the first
  pub ring_last : (pair : Pair) (cells : List (Node T)) (s : ℕ) (ps : List ℕ) → IsRing pair cells s ps →
      IsIn (prev_of pair cells s) (s ∷ ps) × (next_of pair cells (prev_of pair cells s) ≡ s)
  ring_last pair cells s [] ring = (inl ring.round.1, ap (next_of pair cells) ring.round.1 ∙ ring.round.0)
  ring_last pair cells s (x ∷ xs) ring =
      let last = last_of_cons x xs in let us = last.0 in let a = last.1 in
      let e : length (s ∷ us) ≡ length (us ++ a ∷ []) = omega (arith, length-append us (a ∷ [])) in
      let round = subst (λ l. AreNeighbours (next_of pair cells) (prev_of pair cells) (s ∷ l) (l ++ s ∷ [])) last.2 ring.round in
      let both = neighbour (next_of pair cells) (prev_of pair cells) (s ∷ us) a [] (us ++ a ∷ []) s [] e round in
      (inr (subst (λ l. IsIn (prev_of pair cells s) l) (sym last.2) (in_push us (prev_of pair cells s) a both.1)), ap (next_of pair cells) both.1 ∙ both.0)
    where
      in_push : (us : List ℕ) (x a : ℕ) → x ≡ a → IsIn x (us ++ a ∷ [])
      in_push [] x a h = inl h
      in_push (u ∷ us) x a h = inr (in_push us x a h)

  -- the neighbours of a node are its ring's
  pub ring_sides : (pair : Pair) (cells : List (Node T)) (s : ℕ) (us : List ℕ) (p : ℕ) (vs : List ℕ) → IsRing pair cells s (us ++ p ∷ vs)
      → IsIn (prev_of pair cells p) (s ∷ (us ++ p ∷ vs)) × IsIn (next_of pair cells p) (s ∷ (us ++ p ∷ vs))
  ring_sides pair cells s us p vs ring =
      let N = next_of pair cells in let P = prev_of pair cells in
      let last = last_of_cons s us in let us₁ = last.0 in let a = last.1 in
      let first = first_of_push vs s in let b = first.0 in let vs' = first.1 in
      let sources : s ∷ (us ++ p ∷ vs) ≡ us₁ ++ a ∷ p ∷ vs = ap (λ l. l ++ p ∷ vs) last.2 ∙ append_assoc us₁ (a ∷ []) (p ∷ vs) in
      let targets : (us ++ p ∷ vs) ++ s ∷ [] ≡ us ++ p ∷ b ∷ vs' = append_assoc us (p ∷ vs) (s ∷ []) ∙ ap (λ l. us ++ p ∷ l) first.2 in
      let e : length us₁ ≡ length us = omega (arith, ap length last.2, length-append us₁ (a ∷ [])) in
      let h = subst (λ l. AreNeighbours N P l (us ++ p ∷ b ∷ vs')) sources (subst (λ l. AreNeighbours N P (s ∷ (us ++ p ∷ vs)) l) targets ring.round) in
      let prev_is : P p ≡ a = (neighbour N P us₁ a (p ∷ vs) us p (b ∷ vs') e h).1 in
      let second : us₁ ++ a ∷ p ∷ vs ≡ (us₁ ++ a ∷ []) ++ p ∷ vs = sym (append_assoc us₁ (a ∷ []) (p ∷ vs)) in
      let third : us ++ p ∷ b ∷ vs' ≡ (us ++ p ∷ []) ++ b ∷ vs' = sym (append_assoc us (p ∷ []) (b ∷ vs')) in
      let next_is : N p ≡ b = (neighbour N P (us₁ ++ a ∷ []) p vs (us ++ p ∷ []) b vs' (omega (arith, e, length-append us₁ (a ∷ []), length-append us (p ∷ [])))
      (subst (λ l. AreNeighbours N P l ((us ++ p ∷ []) ++ b ∷ vs')) second (subst (λ l. AreNeighbours N P (us₁ ++ a ∷ p ∷ vs) l) third h))).0 in (
        subst (λ l. IsIn (P p) l) (sym sources) (in_middle us₁ (P p) a (p ∷ vs) prev_is),
        in_turned (N p) s (us ++ p ∷ vs) (subst (λ l. IsIn (N p) l) (sym (targets ∙ third)) (in_middle (us ++ p ∷ []) (N p) b vs' next_is)),
      )
    where
      in_middle : (xs : List ℕ) (x a : ℕ) (ys : List ℕ) → x ≡ a → IsIn x (xs ++ a ∷ ys)
      in_middle [] x a ys h = inl h
      in_middle (z ∷ zs) x a ys h = inr (in_middle zs x a ys h)

      in_turned : (x s : ℕ) (ps : List ℕ) → IsIn x (ps ++ s ∷ []) → IsIn x (s ∷ ps)
      in_turned x s [] i = i
      in_turned x s (q ∷ qs) i = elim i [ inl e ↦ inr (inl e) | inr j ↦ elim (in_turned x s qs j) [ inl e ↦ inl e | inr k ↦ inr (inr k) ] ]

  -- another ring of the pair, in which none of the unlinked node's neighbours stands, stays as it is
  pub ring_aside_unlink : (pair : Pair) (p : ℕ) (cells : List (Node T)) (s : ℕ) (ps : List ℕ) → IsFree (prev_of pair cells p) (s ∷ ps) →
      IsFree (next_of pair cells p) (s ∷ ps) → IsRing pair cells s ps → IsRing pair (unlink pair p cells) s ps
  ring_aside_unlink pair p cells s ps fa fb ring = record {
    apart = ring.apart;
    there = each (λ x. IsSome (value_at x cells)) (λ x. IsSome (value_at x (unlink pair p cells))) (λ x. unlink_stays pair p x cells) (s ∷ ps) ring.there;
    round =
        same_neighbours (next_of pair cells) (prev_of pair cells) (next_of pair (unlink pair p cells)) (prev_of pair (unlink pair p cells)) (s ∷ ps)
        (ps ++ s ∷ [])
        (nexts (s ∷ ps) fa) (prevs (ps ++ s ∷ []) (all_turned (λ q. same_place (next_of pair cells p) q ≡ false) s ps fb)) ring.round;
  }
    where
      each : (P Q : ℕ → Type 0) → ((x : ℕ) → P x → Q x) → (xs : List ℕ) → AllByRecursion P xs → AllByRecursion Q xs
      each P Q f [] h = tt
      each P Q f (x ∷ xs) h = (f x h.0, each P Q f xs h.1)

      nexts : (xs : List ℕ) → IsFree (prev_of pair cells p) xs → AllByRecursion (λ x. next_of pair (unlink pair p cells) x ≡ next_of pair cells x) xs
      nexts [] f = tt
      nexts (x ∷ xs) f =
          let a = prev_of pair cells p in let b = next_of pair cells p in
          (next_past pair b a x (set_next pair a b cells) ∙ next_else pair a b x cells f.0, nexts xs f.1)

      prevs : (xs : List ℕ) → IsFree (next_of pair cells p) xs → AllByRecursion (λ x. prev_of pair (unlink pair p cells) x ≡ prev_of pair cells x) xs
      prevs [] f = tt
      prevs (x ∷ xs) f =
          let a = prev_of pair cells p in let b = next_of pair cells p in
          (prev_else pair b a x (set_next pair a b cells) f.0 ∙ prev_past pair a b x cells, prevs xs f.1)
