-- Which nodes can stand in a ring doesn't change as others are linked.
use Rattle.std.proofs.Common.{◌≡◌, ℕ, List, ap, ◌∙◌}
use Rattle.mn_flight_pool.specs.Rings.{room_in, room_at, set_next, set_prev, CanStand}
use Rattle.mn_flight_pool.specs.Nodes.{Node}
use Rattle.mn_flight_pool.specs.declared.node.Pair.{Pair}
use Rattle.mn_flight_pool.specs.declared.node.Pair.TheVariants.{Channel, Due}
use Rattle.mn_flight_pool.proofs.Changed.{next_stays, prev_stays}
use Rattle.mn_flight_pool.proofs.Rings.{set_next_leaves, set_prev_leaves, room_kept}

module _ {T : Type 0} where
  pub can_next : (pair : Pair) (p q x : ℕ) (old new : List (Node T)) → new ≡ set_next pair p q old → CanStand pair old x → CanStand pair new x
  can_next Channel p q x old new e h = next_stays Channel p q x old new e h
  can_next Due p q x old new e h = ap (λ c. room_at c x) e ∙ set_next_leaves Due room_in (room_kept Due) p q x old ∙ h

  pub can_prev : (pair : Pair) (p q x : ℕ) (old new : List (Node T)) → new ≡ set_prev pair p q old → CanStand pair old x → CanStand pair new x
  can_prev Channel p q x old new e h = prev_stays Channel p q x old new e h
  can_prev Due p q x old new e h = ap (λ c. room_at c x) e ∙ set_prev_leaves Due room_in (room_kept Due) p q x old ∙ h
