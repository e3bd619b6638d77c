-- What a ring says of the nodes that linking and unlinking reach.
use Rattle.std.proofs.Common.{ℕ, ◌≡◌, true, List, [], ◌∷◌, ◌++◌, Some, IsSome, inr, sym, ap, ◌∙◌, subst}
use Rattle.std.specs.List.{AllByRecursion}
use Rattle.mn_flight.specs.declared.Item.{Item}
use Rattle.mn_flight_pool.specs.Cells.{value_at}
use Rattle.mn_flight_pool.specs.Rings.{IsRing, HaveRoom, item_at, room_at, with_item, next_of, prev_of, link_behind, unlink}
use Rattle.mn_flight_pool.specs.Pool.{entered}
use Rattle.mn_flight_pool.specs.declared.node.Pair.{Pair}
use Rattle.mn_flight_pool.specs.declared.node.Pair.TheVariants.{Channel}
use Rattle.mn_flight_pool.specs.Nodes.{Node}
use Rattle.mn_flight_pool.proofs.Changed.{stays}
use Rattle.mn_flight_pool.proofs.Rings.{ring_last, ring_sides, ring_past_item, item_past_unlink}
use Rattle.mn_flight_pool.proofs.Rings.{room_past_unlink}
use Rattle.mn_flight_pool.proofs.Sooner.{all_in, in_middle}

module _ {T : Type 0} where
  -- a node in a ring, and its neighbours
  pub node_there : (pair : Pair) (cells : List (Node T)) (s : ℕ) (us : List ℕ) (p : ℕ) (vs : List ℕ) → IsRing pair cells s (us ++ p ∷ vs) →
      IsSome (value_at p cells)
  node_there pair cells s us p vs ring = at us ring.there.1
    where
      at : (xs : List ℕ) → AllByRecursion (λ q. IsSome (value_at q cells)) (xs ++ p ∷ vs) → IsSome (value_at p cells)
      at [] h = h.0
      at (z ∷ zs) h = at zs h.1

  pub prev_there : (pair : Pair) (cells : List (Node T)) (s : ℕ) (us : List ℕ) (p : ℕ) (vs : List ℕ) → IsRing pair cells s (us ++ p ∷ vs) →
      IsSome (value_at (prev_of pair cells p) cells)
  prev_there pair cells s us p vs ring =
      all_in (λ q. IsSome (value_at q cells)) (s ∷ (us ++ p ∷ vs)) (prev_of pair cells p) ring.there (ring_sides pair cells s us p vs ring).0

  pub next_there : (pair : Pair) (cells : List (Node T)) (s : ℕ) (us : List ℕ) (p : ℕ) (vs : List ℕ) → IsRing pair cells s (us ++ p ∷ vs) →
      IsSome (value_at (next_of pair cells p) cells)
  next_there pair cells s us p vs ring =
      all_in (λ q. IsSome (value_at q cells)) (s ∷ (us ++ p ∷ vs)) (next_of pair cells p) ring.there (ring_sides pair cells s us p vs ring).1

  -- they have room for an item where the ring's nodes have
  module _ (pair : Pair) (cells : List (Node T)) (s : ℕ) where
    module _ (us : List ℕ) (p : ℕ) (vs : List ℕ) (ring : IsRing pair cells s (us ++ p ∷ vs)) (rooms : HaveRoom cells (s ∷ (us ++ p ∷ vs))) where
      pub node_room : room_at cells p ≡ true
      node_room = rooms p (inr (in_middle us p vs))

      pub prev_room : room_at cells (prev_of pair cells p) ≡ true
      prev_room = rooms (prev_of pair cells p) (ring_sides pair cells s us p vs ring).0

      pub next_room : room_at cells (next_of pair cells p) ≡ true
      next_room = rooms (next_of pair cells p) (ring_sides pair cells s us p vs ring).1

  -- as `enter` and `leave` come upon them
  ring_put : (pair : Pair) (p : ℕ) (item : Item T) (old new : List (Node T)) (s : ℕ) (ps : List ℕ) → new ≡ with_item p (Some item) old →
      IsRing pair old s ps → IsRing pair new s ps
  ring_put pair p item old new s ps e ring = subst (λ c. IsRing pair c s ps) (sym e) (ring_past_item pair p (Some item) old s ps ring)

  -- then the ring's first node is there, what leads to it, and where that leads
  pub record AreSides (pair : Pair) (cells : List (Node T)) (s : ℕ) : Type 0 where
    pub first : IsSome (value_at s cells)
    pub last : IsSome (value_at (prev_of pair cells s) cells)
    pub after : IsSome (value_at (next_of pair cells (prev_of pair cells s)) cells)

  pub sides_put : (pair : Pair) (p : ℕ) (item : Item T) (old new : List (Node T)) (s : ℕ) (ps : List ℕ) → new ≡ with_item p (Some item) old →
      IsRing pair old s ps → AreSides pair new s
  sides_put pair p item old new s ps e old_ring =
      let ring = ring_put pair p item old new s ps e old_ring in
      let last = ring_last pair new s ps ring in
      record {
        first = ring.there.0;
        last = all_in (λ q. IsSome (value_at q new)) (s ∷ ps) (prev_of pair new s) ring.there last.0;
        after = subst (λ q. IsSome (value_at q new)) (sym last.1) ring.there.0;
      }

  pub put_there : (p : ℕ) (item : Item T) (old new : List (Node T)) → new ≡ with_item p (Some item) old → IsSome (value_at p old) →
      IsSome (value_at p new)
  put_there p item old new e h = subst (λ c. IsSome (value_at p c)) (sym e) (stays p p (λ (node : Node T). record node { item = Some item }) old h)

  pub left_room : (p : ℕ) (old new : List (Node T)) → new ≡ unlink Channel p old → room_at new p ≡ room_at old p
  left_room p old new e = ap (λ c. room_at c p) e ∙ room_past_unlink Channel p p old

  pub entered_is : (first p b : ℕ) (item : Item T) (old one two : List (Node T)) → one ≡ with_item p (Some item) old →
      b ≡ prev_of Channel one first → two ≡ link_behind Channel p b one → two ≡ entered first p item old
  entered_is first p b item old one two e1 eb e2 =
      e2 ∙ ap (λ c. link_behind Channel p c one) eb ∙ ap (λ t. link_behind Channel p (prev_of Channel t first) t) e1

  pub left_item : (p : ℕ) (old new : List (Node T)) → new ≡ unlink Channel p old → item_at new p ≡ item_at old p
  left_item p old new e = ap (λ c. item_at c p) e ∙ item_past_unlink Channel p p old
