-- The next hop is nearer than the node itself.
use Rattle.std.specs.Prelude.{◌<◌, ℕ}
use Rattle.mn_topo.specs.Wiring.{Wiring, View}
use Rattle.mn_topo.specs.Paths.{IsLeast}

-- the least cost from a node is less than this one
pub record IsNearer (wiring : Wiring) (view : View) (from to cost : ℕ) : Type 0 where
  pub rest : ℕ
  pub is_least : IsLeast wiring view from to rest
  pub is_less : rest < cost
