-- What links of the ring by due tick leave as it is.
use Rattle.std.proofs.Common.{◌≡◌, ℕ, List, [], ◌∷◌, IsSome, sym, ◌∙◌, subst}
use Rattle.std.specs.List.{AllByRecursion}
use Rattle.mn_flight_pool.specs.Cells.{value_at}
use Rattle.mn_flight_pool.specs.Rings.{IsRing, item_at, room_at, link_behind, unlink}
use Rattle.mn_flight_pool.specs.Pool.{items_in, nodes_on, IsLinked}
use Rattle.mn_flight_pool.specs.declared.node.Pair.TheVariants.{Channel, Due}
use Rattle.mn_flight_pool.specs.Nodes.{Node}
use Rattle.mn_flight_pool.proofs.Rings.{ring_past_link, ring_past_unlink, link_stays, unlink_stays, item_past_link, item_past_unlink}
use Rattle.mn_flight_pool.proofs.Rings.{room_past_link, room_past_unlink}
use Rattle.mn_flight_pool.proofs.Entered.{same_nodes_on, same_items}

pub due_channel : Due ≡ Channel → ⊥
due_channel e = cc

module _ {T : Type 0} (old new : List (Node T)) where
  -- nodes with the same items in the same rings of channels
  pub record Alike : Type 0 where
    pub stay : (q : ℕ) → IsSome (value_at q old) → IsSome (value_at q new)
    pub items : (q : ℕ) → item_at new q ≡ item_at old q
    pub rooms : (q : ℕ) → room_at new q ≡ room_at old q
    pub channel : (s : ℕ) (ps : List ℕ) → IsRing Channel old s ps → IsRing Channel new s ps

  module _ (alike : Alike) where
    pub nodes_alike : (c : ℕ) (ps : List ℕ) → nodes_on new c ps ≡ nodes_on old c ps
    nodes_alike c ps = same_nodes_on old new c ps (λ q i. alike.items q)

    pub items_alike : (ps : List ℕ) → items_in new ps ≡ items_in old ps
    items_alike ps = same_items old new ps (λ q i. alike.items q)

    all_alike : (P Q : ℕ → Type 0) (ps : List ℕ) → ((q : ℕ) → P q → Q q) → AllByRecursion P ps → AllByRecursion Q ps
    all_alike P Q [] f h = tt
    all_alike P Q (p ∷ ps) f h = (f p h.0, all_alike P Q ps f h.1)

    pub linked_alike : (head : ℕ) (heads free order : List ℕ) → IsLinked head heads free order old → IsLinked head heads free order new
    linked_alike head heads free order linked = record {
      channel =
          λ c first e. subst (λ l. IsRing Channel new first l) (sym (nodes_alike c order))
          (alike.channel first (nodes_on old c order) (linked.channel c first e));
      apart = linked.apart;
      held = all_alike (λ q. IsSome (item_at old q)) (λ q. IsSome (item_at new q)) order (λ q h. subst (λ o. IsSome o) (sym (alike.items q)) h) linked.held;
      there = all_alike (λ q. IsSome (value_at q old)) (λ q. IsSome (value_at q new)) free alike.stay linked.there;
      head_room = alike.rooms head ∙ linked.head_room;
      order_room = λ q i. alike.rooms q ∙ linked.order_room q i;
      free_room = λ q i. alike.rooms q ∙ linked.free_room q i;
    }

module _ {T : Type 0} where
  pub alike_link : (p a : ℕ) (cells : List (Node T)) → Alike cells (link_behind Due p a cells)
  alike_link p a cells = record {
    stay = λ q h. link_stays Due p a q cells h;
    items = λ q. item_past_link Due p a q cells;
    rooms = λ q. room_past_link Due p a q cells;
    channel = λ s ps r. ring_past_link Due Channel due_channel p a cells s ps r;
  }

  pub alike_unlink : (p : ℕ) (cells : List (Node T)) → Alike cells (unlink Due p cells)
  alike_unlink p cells = record {
    stay = λ q h. unlink_stays Due p q cells h;
    items = λ q. item_past_unlink Due p q cells;
    rooms = λ q. room_past_unlink Due p q cells;
    channel = λ s ps r. ring_past_unlink Due Channel due_channel p cells s ps r;
  }
