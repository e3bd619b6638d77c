-- What a whole pool says of its finger.
use Rattle.std.proofs.Common.{◌≡◌, ◌<◌, ◌≤◌, ◌+◌, ◌-◌, ℕ, suc, List, ◌∷◌, length, Option, Some, None, IsSome, MatchOption, inl, inr, sym, ap, ◌∙◌, subst, arith}
use Rattle.std.specs.Prelude.{⊤, slice_get}
use Rattle.std.proofs.lemmas.Bool.Decides.{leb_tells}
use Rattle.std.proofs.lemmas.Option.{same_Some, slice_get_within}
use Rattle.mn_flight.specs.declared.Item.{Item}
use Rattle.mn_flight.specs.Flying.{on_channel}
use Rattle.mn_flight_pool.specs.Rings.{IsIn, IsRing, item_at, next_of, prev_of}
use Rattle.mn_flight_pool.specs.Pool.{nodes_on, steps_of}
use Rattle.mn_flight_pool.specs.Nodes.{firsts}
use Rattle.mn_flight_pool.specs.Whole.{order_in, items_of, IsPlaced, IsWhole}
use Rattle.mn_flight_pool.specs.declared.pool.Pool.{Pool}
use Rattle.mn_flight_pool.specs.declared.pool.Finger.{Finger}
use Rattle.mn_flight_pool.specs.declared.node.Pair.TheVariants.{Channel}
use Rattle.mn_flight_pool.proofs.Neighbours.{in_at}
use Rattle.mn_flight_pool.proofs.Finger.{some_there, prev_placed, forth_from, back_from}
use Rattle.mn_flight_pool.proofs.Firsts.{firsts_length}
use Rattle.mn_flight_pool.proofs.Whole.{on_length, placed, no_channel, node_holds}

module _ {T : Type 0} (pool : Pool T) (whole : IsWhole pool) where
  ring_on : (c : ℕ) → c < pool.channels → (s : ℕ) × IsRing Channel pool.store s (nodes_on pool.store c (order_in pool))
  ring_on c low =
      let f = some_there (firsts pool.channels) c (omega (arith, low, firsts_length pool.channels)) in (f.0, whole.held.linked.channel c f.0 f.1)

  -- a channel on which a node stands is there
  channel_there : (c n v : ℕ) → IsPlaced pool c n v → c < pool.channels
  channel_there c n v at = elim (leb_tells pool.channels c) [
    | inl over ↦ let p = placed pool whole c n v at in
        absurd (none (item_at pool.store v) (p.1 ∙ no_channel pool whole c n over.1) (node_holds pool whole v p.0))
    | inr under ↦ under.1
  ]
    where
      none : (o : Option (Item T)) → o ≡ None → IsSome o → ⊥
      none None e s = cc
      none (Some y) e s = cc

  -- the node before one on its channel
  pub before_placed : (c n v p : ℕ) → IsPlaced pool c n v → 0 < n → p ≡ prev_of Channel pool.store v → IsPlaced pool c (n - 1) p
  before_placed c n v p at some e =
      let nodes = nodes_on pool.store c (order_in pool) in
      let ring = ring_on c (channel_there c n v at) in
      let same : suc (n - 1) ≡ n = omega (arith, some) in
      let within = slice_get_within nodes n v at in
      prev_placed Channel pool.store ring.0 nodes ring.1 (n - 1) v (ap (slice_get nodes) same ∙ at) (omega (arith, within, some)) ∙ ap (λ q. Some q) (sym e)

  module _ (c : ℕ) (low : c < pool.channels) (f : Finger) (is : pool.finger ≡ Some f) (same : f.channel ≡ c) (place : ℕ)
      (there : place < length (on_channel c (items_of pool))) where
    abbrev nodes : List ℕ
    nodes = nodes_on pool.store c (order_in pool)

    at : slice_get nodes f.place ≡ Some f.node.index
    at = subst (λ k. IsPlaced pool k f.place f.node.index) same (stands pool.finger is whole.finger)
      where
        stands : (o : Option Finger) → o ≡ Some f → MatchOption o ⊤ (λ g. IsPlaced pool g.channel g.place g.node.index) →
            IsPlaced pool f.channel f.place f.node.index
        stands None e h = cc
        stands (Some g) e h = subst (λ (k : Finger). IsPlaced pool k.channel k.place k.node.index) (same_Some g f e) h

    pub from_finger : (s : ℕ) × (ps : List ℕ) × IsRing Channel pool.store s ps × IsIn f.node.index (s ∷ ps)
    from_finger = let r = ring_on c low in (r.0, nodes, r.1, inr (in_at nodes f.place f.node.index at))

    pub back_by : (p : ℕ) → place < f.place → p ≡ steps_of (prev_of Channel pool.store) f.node.index (f.place - place) → IsPlaced pool c place p
    back_by p less e =
        let r = ring_on c low in
        let sum : place + (f.place - place) ≡ f.place = omega (arith, less) in
        let within = slice_get_within nodes f.place f.node.index at in
        back_from Channel pool.store r.0 nodes r.1 (f.place - place) place f.node.index (ap (slice_get nodes) sum ∙ at) (omega (arith, sum, within))
        ∙ ap (λ q. Some q) (sym e)

    pub forth_by : (p : ℕ) → f.place ≤ place → p ≡ steps_of (next_of Channel pool.store) f.node.index (place - f.place) → IsPlaced pool c place p
    forth_by p more e =
        let r = ring_on c low in
        let sum : f.place + (place - f.place) ≡ place = omega (arith, more) in
        let many = on_length pool whole c in
        ap (slice_get nodes) (sym sum)
        ∙ forth_from Channel pool.store r.0 nodes r.1 f.place (place - f.place) f.node.index at (omega (arith, sum, there, many)) ∙ ap (λ q. Some q) (sym e)
