-- The nodes as contracts see them, beside the lists in which a store keeps them.
use Rattle.std.proofs.Common.{◌≡◌, ◌<◌, ◌≤◌, ◌+◌, ℕ, zero, suc, true, List, [], ◌∷◌, ◌++◌, length, Option, Some, None, IsSome, refl, sym, ap}
use Rattle.std.proofs.Common.{◌∙◌, subst, arith, get_or}
use Rattle.std.specs.Prelude.{slice_get, slice_set}
use Rattle.std.proofs.lemmas.Option.{same_Some, slice_get_read}
use Rattle.mn_flight.specs.declared.Item.{Item}
use Rattle.mn_flight_pool.specs.Cells.{value_at, put_at}
use Rattle.mn_flight_pool.specs.Nodes.{Node, first_node, roomy_node, roomy_nodes, nodes_of}
use Rattle.mn_flight_pool.specs.Rings.{change_at, item_at, room_in, room_at, next_in, prev_in, next_of, prev_of, set_next, set_prev, link_of, link_seen}
use Rattle.mn_flight_pool.specs.Rings.{link_at, with_link, with_item}
use Rattle.mn_flight_pool.specs.declared.node.Place.{Place}
use Rattle.mn_flight_pool.specs.declared.node.Pair.{Pair}
use Rattle.mn_flight_pool.specs.declared.node.Pair.TheVariants.{Channel, Due}
use Rattle.mn_flight_pool.specs.declared.node.Link.{Link}
use Rattle.mn_flight_pool.proofs.Changed.{value_last}
use Rattle.mn_flight_pool.proofs.Changed as changed

pub below : (a b : ℕ) → (b ≤ a → ⊥) → a < b
below a b h = omega (arith, h)

module _ {T : Type 0} where
  roomy_many : (cs : List Link) (ls : List Link) (is : List (Option (Item T))) → length (roomy_nodes cs ls is) ≡ length cs
  roomy_many [] ls is = refl
  roomy_many (c ∷ cs) [] is = ap suc (roomy_many cs [] is)
  roomy_many (c ∷ cs) (l ∷ ls) [] = ap suc (roomy_many cs ls [])
  roomy_many (c ∷ cs) (l ∷ ls) (i ∷ is) = ap suc (roomy_many cs ls is)

  pub many : (n : ℕ) (cs : List Link) (ls : List Link) (is : List (Option (Item T))) → length (nodes_of n cs ls is) ≡ length cs
  many zero cs ls is = roomy_many cs ls is
  many (suc n) [] ls is = refl
  many (suc n) (c ∷ cs) ls is = ap suc (many n cs ls is)

  -- 1. Which have room
  roomy_in : (cs : List Link) (ls : List Link) (is : List (Option (Item T))) (p : ℕ) → room_at (roomy_nodes cs ls is) p ≡ true →
      (p < length ls) × (p < length is)
  roomy_in [] ls is p h = cc
  roomy_in (c ∷ cs) [] is zero h = cc
  roomy_in (c ∷ cs) [] is (suc p) h = let r = roomy_in cs [] is p h in absurd (omega (arith, r.0))
  roomy_in (c ∷ cs) (l ∷ ls) [] zero h = cc
  roomy_in (c ∷ cs) (l ∷ ls) [] (suc p) h = let r = roomy_in cs ls [] p h in absurd (omega (arith, r.1))
  roomy_in (c ∷ cs) (l ∷ ls) (i ∷ is) zero h = (omega arith, omega arith)
  roomy_in (c ∷ cs) (l ∷ ls) (i ∷ is) (suc p) h = let r = roomy_in cs ls is p h in (omega (arith, r.0), omega (arith, r.1))

  -- a node that has room is behind those that have none
  pub roomy : (n : ℕ) (cs : List Link) (ls : List Link) (is : List (Option (Item T))) (p : ℕ) → room_at (nodes_of n cs ls is) p ≡ true →
      (n ≤ p) × (p < n + length is)
  roomy zero cs ls is p h = let r = roomy_in cs ls is p h in (omega arith, omega (arith, r.1))
  roomy (suc n) [] ls is p h = cc
  roomy (suc n) (c ∷ cs) ls is zero h = cc
  roomy (suc n) (c ∷ cs) ls is (suc p) h = let r = roomy n cs ls is p h in (omega (arith, r.0), omega (arith, r.1))

  there : (o : Option (Node T)) → room_in o ≡ true → IsSome o
  there None h = cc
  there (Some node) h = refl

  pub room_there : (cells : List (Node T)) (p : ℕ) → room_at cells p ≡ true → IsSome (value_at p cells)
  room_there cells p h = there (value_at p cells) h

  -- 2. Neighbours
  roomy_channel : (cs : List Link) (ls : List Link) (is : List (Option (Item T))) (p : ℕ) (c : Link) → slice_get cs p ≡ Some c →
      link_at Channel (roomy_nodes cs ls is) p ≡ c
  roomy_channel [] ls is p c h = cc
  roomy_channel (d ∷ cs) [] is zero c h = same_Some d c h
  roomy_channel (d ∷ cs) [] is (suc p) c h = roomy_channel cs [] is p c h
  roomy_channel (d ∷ cs) (l ∷ ls) [] zero c h = same_Some d c h
  roomy_channel (d ∷ cs) (l ∷ ls) [] (suc p) c h = roomy_channel cs ls [] p c h
  roomy_channel (d ∷ cs) (l ∷ ls) (i ∷ is) zero c h = same_Some d c h
  roomy_channel (d ∷ cs) (l ∷ ls) (i ∷ is) (suc p) c h = roomy_channel cs ls is p c h

  on_channel : (n : ℕ) (cs : List Link) (ls : List Link) (is : List (Option (Item T))) (p : ℕ) (c : Link) → slice_get cs p ≡ Some c →
      link_at Channel (nodes_of n cs ls is) p ≡ c
  on_channel zero cs ls is p c h = roomy_channel cs ls is p c h
  on_channel (suc n) [] ls is p c h = cc
  on_channel (suc n) (d ∷ cs) ls is zero c h = same_Some d c h
  on_channel (suc n) (d ∷ cs) ls is (suc p) c h = on_channel n cs ls is p c h

  roomy_due : (cs : List Link) (ls : List Link) (is : List (Option (Item T))) (k : ℕ) (l : Link) →
      room_at (roomy_nodes cs ls is) k ≡ true → slice_get ls k ≡ Some l →
      link_at Due (roomy_nodes cs ls is) k ≡ l
  roomy_due [] ls is k l r h = cc
  roomy_due (c ∷ cs) [] is k l r h = cc
  roomy_due (c ∷ cs) (m ∷ ls) [] k l r h = let w = roomy_in (c ∷ cs) (m ∷ ls) [] k r in absurd (omega (arith, w.1))
  roomy_due (c ∷ cs) (m ∷ ls) (i ∷ is) zero l r h =
      same_Some m l h
  roomy_due (c ∷ cs) (m ∷ ls) (i ∷ is) (suc k) l r h = roomy_due cs ls is k l r h

  in_due : (n : ℕ) (cs : List Link) (ls : List Link) (is : List (Option (Item T))) (p k : ℕ) (l : Link) →
      room_at (nodes_of n cs ls is) p ≡ true → p ≡ n + k → slice_get ls k ≡ Some l →
      link_at Due (nodes_of n cs ls is) p ≡ l
  in_due zero cs ls is p k l r at h =
      let same : k ≡ p = omega (arith, at) in roomy_due cs ls is p l r (subst (λ q. slice_get ls q ≡ Some l) same h)
  in_due (suc n) [] ls is p k l r at h = cc
  in_due (suc n) (c ∷ cs) ls is zero k l r at h = cc
  in_due (suc n) (c ∷ cs) ls is (suc p) k l r at h = in_due n cs ls is p k l r (omega (arith, at)) h

  next_is : (pair : Pair) (cells : List (Node T)) (p : ℕ) → (link_at pair cells p).next.index ≡ next_of pair cells p
  next_is pair cells p = by (value_at p cells)
    where
      by : (o : Option (Node T)) → (link_seen pair o).next.index ≡ next_in pair o
      by None = refl
      by (Some node) = refl

  prev_is : (pair : Pair) (cells : List (Node T)) (p : ℕ) → (link_at pair cells p).prev.index ≡ prev_of pair cells p
  prev_is pair cells p = by (value_at p cells)
    where
      by : (o : Option (Node T)) → (link_seen pair o).prev.index ≡ prev_in pair o
      by None = refl
      by (Some node) = refl

  next_read : (pair : Pair) (cells now : List (Node T)) (p : ℕ) (link : Link) → cells ≡ now → link_at pair cells p ≡ link →
      link.next.index ≡ next_of pair now p
  next_read pair cells now p link same e =
      ap (λ (l : Link). l.next.index) (sym e) ∙ next_is pair cells p ∙ ap (λ s. next_of pair s p) same

  prev_read : (pair : Pair) (cells now : List (Node T)) (p : ℕ) (link : Link) → cells ≡ now → link_at pair cells p ≡ link →
      link.prev.index ≡ prev_of pair now p
  prev_read pair cells now p link same e =
      ap (λ (l : Link). l.prev.index) (sym e) ∙ prev_is pair cells p ∙ ap (λ s. prev_of pair s p) same

  -- a change of a node's neighbours in its channel's ring
  module _ (g : Link → Link) (f : Node T → Node T) (bare : (c : Link) → f (first_node c) ≡ first_node (g c))
      (full : (c : Link) (l : Link) (i : Option (Item T)) → f (roomy_node c l i) ≡ roomy_node (g c) l i) where
    roomy_put : (cs : List Link) (ls : List Link) (is : List (Option (Item T))) (p : ℕ) (c : Link) → slice_get cs p ≡ Some c →
        roomy_nodes (put_at p (g c) cs) ls is ≡ change_at p f (roomy_nodes cs ls is)
    roomy_put [] ls is p c h = cc
    roomy_put (d ∷ cs) [] is zero c h =
        ap (λ n. n ∷ roomy_nodes cs [] is) (ap (λ (e : Link). first_node (g e)) (sym (same_Some d c h)) ∙ sym (bare d))
    roomy_put (d ∷ cs) [] is (suc p) c h = ap (λ n. first_node d ∷ n) (roomy_put cs [] is p c h)
    roomy_put (d ∷ cs) (l ∷ ls) [] zero c h =
        ap (λ n. n ∷ roomy_nodes cs ls []) (ap (λ (e : Link). first_node (g e)) (sym (same_Some d c h)) ∙ sym (bare d))
    roomy_put (d ∷ cs) (l ∷ ls) [] (suc p) c h = ap (λ n. first_node d ∷ n) (roomy_put cs ls [] p c h)
    roomy_put (d ∷ cs) (l ∷ ls) (i ∷ is) zero c h =
        ap (λ n. n ∷ roomy_nodes cs ls is) (ap (λ (e : Link). roomy_node (g e) l i) (sym (same_Some d c h)) ∙ sym (full d l i))
    roomy_put (d ∷ cs) (l ∷ ls) (i ∷ is) (suc p) c h = ap (λ n. roomy_node d l i ∷ n) (roomy_put cs ls is p c h)

    channel_put : (n : ℕ) (cs : List Link) (ls : List Link) (is : List (Option (Item T))) (p : ℕ) (c : Link) → slice_get cs p ≡ Some c →
        nodes_of n (put_at p (g c) cs) ls is ≡ change_at p f (nodes_of n cs ls is)
    channel_put zero cs ls is p c h = roomy_put cs ls is p c h
    channel_put (suc n) [] ls is p c h = cc
    channel_put (suc n) (d ∷ cs) ls is zero c h =
        ap (λ m. m ∷ nodes_of n cs ls is) (ap (λ (e : Link). first_node (g e)) (sym (same_Some d c h)) ∙ sym (bare d))
    channel_put (suc n) (d ∷ cs) ls is (suc p) c h = ap (λ m. first_node d ∷ m) (channel_put n cs ls is p c h)

  -- and in the ring by due tick
  module _ (g : Link → Link) (f : Node T → Node T)
      (full : (c : Link) (l : Link) (i : Option (Item T)) → f (roomy_node c l i) ≡ roomy_node c (g l) i) where
    own_put : (cs : List Link) (ls : List Link) (is : List (Option (Item T))) (k : ℕ) (l : Link) →
        room_at (roomy_nodes cs ls is) k ≡ true → slice_get ls k ≡ Some l →
        roomy_nodes cs (put_at k (g l) ls) is ≡ change_at k f (roomy_nodes cs ls is)
    own_put [] ls is k l r h = cc
    own_put (c ∷ cs) [] is k l r h = cc
    own_put (c ∷ cs) (m ∷ ls) [] k l r h = let w = roomy_in (c ∷ cs) (m ∷ ls) [] k r in absurd (omega (arith, w.1))
    own_put (c ∷ cs) (m ∷ ls) (i ∷ is) zero l r h =
        ap (λ n. n ∷ roomy_nodes cs ls is) (ap (λ (j : Link). roomy_node c (g j) i) (sym (same_Some m l h)) ∙ sym (full c m i))
    own_put (c ∷ cs) (m ∷ ls) (i ∷ is) (suc k) l r h = ap (λ n. roomy_node c m i ∷ n) (own_put cs ls is k l r h)

    due_put : (n : ℕ) (cs : List Link) (ls : List Link) (is : List (Option (Item T))) (p k : ℕ) (l : Link) →
        room_at (nodes_of n cs ls is) p ≡ true → p ≡ n + k → slice_get ls k ≡ Some l →
        nodes_of n cs (put_at k (g l) ls) is ≡ change_at p f (nodes_of n cs ls is)
    due_put zero cs ls is p k l r at h =
        let same : k ≡ p = omega (arith, at) in
        own_put cs ls is k l (subst (λ q. room_at (roomy_nodes cs ls is) q ≡ true) (sym same) r) h ∙ ap (λ q. change_at q f (roomy_nodes cs ls is)) same
    due_put (suc n) [] ls is p k l r at h = cc
    due_put (suc n) (c ∷ cs) ls is zero k l r at h = cc
    due_put (suc n) (c ∷ cs) ls is (suc p) k l r at h = ap (λ m. first_node c ∷ m) (due_put n cs ls is p k l r (omega (arith, at)) h)

  -- 3. Items
  pub no_item : (n : ℕ) (cs : List Link) (ls : List Link) (is : List (Option (Item T))) (p : ℕ) → p < n → item_at (nodes_of n cs ls is) p ≡ None
  no_item zero cs ls is p h = absurd (omega (arith, h))
  no_item (suc n) [] ls is p h = refl
  no_item (suc n) (c ∷ cs) ls is zero h = refl
  no_item (suc n) (c ∷ cs) ls is (suc p) h = no_item n cs ls is p (omega (arith, h))

  own_item : (cs : List Link) (ls : List Link) (is : List (Option (Item T))) (p : ℕ) (i : Option (Item T)) → length cs ≡ length ls →
      length ls ≡ length is → slice_get is p ≡ Some i → item_at (roomy_nodes cs ls is) p ≡ i
  own_item [] [] [] p i d e h = cc
  own_item [] [] (j ∷ is) p i d e h = absurd (omega (arith, e))
  own_item [] (l ∷ ls) is p i d e h = absurd (omega (arith, d))
  own_item (c ∷ cs) [] is p i d e h = absurd (omega (arith, d))
  own_item (c ∷ cs) (l ∷ ls) [] p i d e h = cc
  own_item (c ∷ cs) (l ∷ ls) (j ∷ is) zero i d e h = same_Some j i h
  own_item (c ∷ cs) (l ∷ ls) (j ∷ is) (suc p) i d e h = own_item cs ls is p i (omega (arith, d)) (omega (arith, e)) h

  its_item : (n : ℕ) (cs : List Link) (ls : List Link) (is : List (Option (Item T))) (p q : ℕ) (i : Option (Item T)) →
      length cs ≡ n + length ls → length ls ≡ length is → q ≡ n + p → slice_get is p ≡ Some i → item_at (nodes_of n cs ls is) q ≡ i
  its_item zero cs ls is p q i d e at h =
      let same : q ≡ p = omega (arith, at) in ap (λ r. item_at (roomy_nodes cs ls is) r) same ∙ own_item cs ls is p i (omega (arith, d)) e h
  its_item (suc n) [] ls is p q i d e at h = absurd (omega (arith, d))
  its_item (suc n) (c ∷ cs) ls is p zero i d e at h = absurd (omega (arith, at))
  its_item (suc n) (c ∷ cs) ls is p (suc q) i d e at h = its_item n cs ls is p q i (omega (arith, d)) e (omega (arith, at)) h

  own_item_put : (cs : List Link) (ls : List Link) (is : List (Option (Item T))) (p : ℕ) (i : Option (Item T)) → length cs ≡ length ls →
      length ls ≡ length is → p < length is → roomy_nodes cs ls (slice_set is p i) ≡ with_item p i (roomy_nodes cs ls is)
  own_item_put cs ls [] p i d e h = absurd (omega (arith, h))
  own_item_put cs [] (j ∷ is) p i d e h = absurd (omega (arith, e))
  own_item_put [] (l ∷ ls) (j ∷ is) p i d e h = absurd (omega (arith, d))
  own_item_put (c ∷ cs) (l ∷ ls) (j ∷ is) zero i d e h = refl
  own_item_put (c ∷ cs) (l ∷ ls) (j ∷ is) (suc p) i d e h =
      ap (λ n. roomy_node c l j ∷ n) (own_item_put cs ls is p i (omega (arith, d)) (omega (arith, e)) (omega (arith, h)))

  item_put : (n : ℕ) (cs : List Link) (ls : List Link) (is : List (Option (Item T))) (p q : ℕ) (i : Option (Item T)) →
      length cs ≡ n + length ls → length ls ≡ length is → q ≡ n + p → p < length is →
      nodes_of n cs ls (slice_set is p i) ≡ with_item q i (nodes_of n cs ls is)
  item_put zero cs ls is p q i d e at h =
      let same : p ≡ q = omega (arith, at) in
      own_item_put cs ls is p i (omega (arith, d)) e h ∙ ap (λ r. with_item r i (roomy_nodes cs ls is)) same
  item_put (suc n) [] ls is p q i d e at h = absurd (omega (arith, d))
  item_put (suc n) (c ∷ cs) ls is p zero i d e at h = absurd (omega (arith, at))
  item_put (suc n) (c ∷ cs) ls is p (suc q) i d e at h = ap (λ m. first_node c ∷ m) (item_put n cs ls is p q i (omega (arith, d)) e (omega (arith, at)) h)

  -- 4. One more node
  roomy_added : (cs : List Link) (ls : List Link) (is : List (Option (Item T))) (c : Link) (l : Link) (i : Option (Item T)) →
      length cs ≡ length ls → length ls ≡ length is →
      roomy_nodes (cs ++ c ∷ []) (ls ++ l ∷ []) (is ++ i ∷ []) ≡ roomy_nodes cs ls is ++ roomy_node c l i ∷ []
  roomy_added [] [] [] c l i d e = refl
  roomy_added [] [] (j ∷ is) c l i d e = absurd (omega (arith, e))
  roomy_added [] (m ∷ ls) is c l i d e = absurd (omega (arith, d))
  roomy_added (b ∷ cs) [] is c l i d e = absurd (omega (arith, d))
  roomy_added (b ∷ cs) (m ∷ ls) [] c l i d e = absurd (omega (arith, e))
  roomy_added (b ∷ cs) (m ∷ ls) (j ∷ is) c l i d e =
      ap (λ n. roomy_node b m j ∷ n) (roomy_added cs ls is c l i (omega (arith, d)) (omega (arith, e)))

  added : (n : ℕ) (cs : List Link) (ls : List Link) (is : List (Option (Item T))) (c : Link) (l : Link) (i : Option (Item T)) →
      length cs ≡ n + length ls → length ls ≡ length is →
      nodes_of n (cs ++ c ∷ []) (ls ++ l ∷ []) (is ++ i ∷ []) ≡ nodes_of n cs ls is ++ roomy_node c l i ∷ []
  added zero cs ls is c l i d e = roomy_added cs ls is c l i (omega (arith, d)) e
  added (suc n) [] ls is c l i d e = absurd (omega (arith, d))
  added (suc n) (b ∷ cs) ls is c l i d e = ap (λ m. first_node b ∷ m) (added n cs ls is c l i (omega (arith, d)) e)

  -- 5. The same, as a store comes upon them
  module _ (n : ℕ) (cs : List Link) (ls : List Link) (is : List (Option (Item T))) (now : List (Node T)) (same : nodes_of n cs ls is ≡ now) where
    pub within_now : (p : ℕ) → IsSome (value_at p now) → p < length cs
    within_now p h = omega (arith, changed.within p (nodes_of n cs ls is) (subst (λ l. IsSome (value_at p l)) (sym same) h), many n cs ls is)

    room_same : (p : ℕ) → room_at now p ≡ true → room_at (nodes_of n cs ls is) p ≡ true
    room_same p h = subst (λ l. room_at l p ≡ true) (sym same) h

    pub roomy_now : (p : ℕ) → room_at now p ≡ true → (n ≤ p) × (p < n + length is)
    roomy_now p h = roomy n cs ls is p (room_same p h)

    pub channel_next : (p : ℕ) (c : Link) → slice_get cs p ≡ Some c → c.next.index ≡ next_of Channel now p
    channel_next p c h = next_read Channel (nodes_of n cs ls is) now p c same (on_channel n cs ls is p c h)

    pub channel_prev : (p : ℕ) (c : Link) → slice_get cs p ≡ Some c → c.prev.index ≡ prev_of Channel now p
    channel_prev p c h = prev_read Channel (nodes_of n cs ls is) now p c same (on_channel n cs ls is p c h)

    pub put_channel_next : (p : ℕ) (c : Link) (to : Place) → slice_get cs p ≡ Some c →
        nodes_of n (put_at p (record c { next = to }) cs) ls is ≡ set_next Channel p to.index now
    put_channel_next p c to h =
        channel_put (λ (d : Link). record d { next = to })
        (λ node. with_link Channel (record (link_of Channel node) { next = record { index = to.index } }) node) (λ d. refl) (λ d l i. refl) n cs ls is p c h
        ∙ ap (λ s. set_next Channel p to.index s) same

    pub put_channel_prev : (p : ℕ) (c : Link) (to : Place) → slice_get cs p ≡ Some c →
        nodes_of n (put_at p (record c { prev = to }) cs) ls is ≡ set_prev Channel p to.index now
    put_channel_prev p c to h =
        channel_put (λ (d : Link). record d { prev = to })
        (λ node. with_link Channel (record (link_of Channel node) { prev = record { index = to.index } }) node) (λ d. refl) (λ d l i. refl) n cs ls is p c h
        ∙ ap (λ s. set_prev Channel p to.index s) same

    module _ (p k : ℕ) (l : Link) (room : room_at now p ≡ true) (at : p ≡ n + k) (h : slice_get ls k ≡ Some l) where
      pub due_next : l.next.index ≡ next_of Due now p
      due_next = next_read Due (nodes_of n cs ls is) now p l same (in_due n cs ls is p k l (room_same p room) at h)

      pub due_prev : l.prev.index ≡ prev_of Due now p
      due_prev = prev_read Due (nodes_of n cs ls is) now p l same (in_due n cs ls is p k l (room_same p room) at h)

      pub put_due_next : (to : Place) → nodes_of n cs (put_at k (record l { next = to }) ls) is ≡ set_next Due p to.index now
      put_due_next to =
          due_put (λ (m : Link). record m { next = to })
          (λ node. with_link Due (record (link_of Due node) { next = record { index = to.index } }) node) (λ c m i. refl) n cs ls is p k l
          (room_same p room) at h
          ∙ ap (λ s. set_next Due p to.index s) same

      pub put_due_prev : (to : Place) → nodes_of n cs (put_at k (record l { prev = to }) ls) is ≡ set_prev Due p to.index now
      put_due_prev to =
          due_put (λ (m : Link). record m { prev = to })
          (λ node. with_link Due (record (link_of Due node) { prev = record { index = to.index } }) node) (λ c m i. refl) n cs ls is p k l
          (room_same p room) at h
          ∙ ap (λ s. set_prev Due p to.index s) same

    module _ (d : length cs ≡ n + length ls) (e : length ls ≡ length is) where
      pub item_put_now : (p k : ℕ) (i : Option (Item T)) → room_at now p ≡ true → p ≡ n + k → nodes_of n cs ls (slice_set is k i) ≡ with_item p i now
      item_put_now p k i room at =
          let r = roomy_now p room in
          item_put n cs ls is k p i d e at (omega (arith, at, r.0, r.1)) ∙ ap (λ s. with_item p i s) same

      pub added_now : (ds : List Link) (ks : List Link) (js : List (Option (Item T))) (c : Link) (l : Link) (i : Option (Item T)) →
          ds ≡ cs ++ c ∷ [] → ks ≡ ls ++ l ∷ [] → js ≡ is ++ i ∷ [] → nodes_of n ds ks js ≡ now ++ roomy_node c l i ∷ []
      added_now ds ks js c l i dc k j =
          ap (λ m. nodes_of n m ks js) dc ∙ ap (λ m. nodes_of n (cs ++ c ∷ []) m js) k ∙ ap (λ m. nodes_of n (cs ++ c ∷ []) (ls ++ l ∷ []) m) j
          ∙ added n cs ls is c l i d e ∙ ap (λ m. m ++ roomy_node c l i ∷ []) same

      -- an item that was read
      pub item_read : (p k : ℕ) (i : Option (Item T)) → p ≡ n + k → k < length is → i ≡ get_or is k i → i ≡ item_at now p
      item_read p k i at inside read =
          sym (its_item n cs ls is k p i d e at (slice_get_read is (length is) k i refl inside read)) ∙ ap (λ s. item_at s p) same

  -- the place past the last is none
  pub past_last : (cells : List (Node T)) (p : ℕ) → p ≡ length cells → value_at p cells ≡ None
  past_last [] p e = refl
  past_last (c ∷ cells) zero e = absurd (omega (arith, e))
  past_last (c ∷ cells) (suc p) e = past_last cells p (omega (arith, e))

  pub room_last : (old new : List (Node T)) (p : ℕ) (node : Node T) → node.room ≡ true → new ≡ old ++ node ∷ [] → p ≡ length old → room_at new p ≡ true
  room_last old new p node own e at =
      ap (λ l. room_at l p) e ∙ ap (λ q. room_at (old ++ node ∷ []) q) at ∙ ap room_in (value_last old node) ∙ own

-- what was read at a place
pub value_read : {X : Type 0} (p : ℕ) (x : X) (xs : List X) → p < length xs → x ≡ get_or xs p x → slice_get xs p ≡ Some x
value_read p x xs h e = slice_get_read xs (length xs) p x refl h e
