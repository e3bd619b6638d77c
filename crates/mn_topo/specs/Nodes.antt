-- Nodes in order.
use Rattle.std.specs.Prelude.{ℕ, ◌/◌, ◌*◌, ◌^◌, Bool, not, ◌&&◌, ◌||◌, nat_lt, ◌==◌, List, []}
use Rattle.std.specs.List.{list_any}

-- nodes in order: their names and their loopbacks
pub record NodeTable : Type 0 where
  pub names : List (List ℕ)
  pub loopbacks : List ℕ

abbrev pub no_nodes : NodeTable
no_nodes = record { names = []; loopbacks = [] }

-- an address outside 0.0.0.0/8, 127.0.0.0/8, 224.0.0.0/4 and 240.0.0.0/4
abbrev pub is_loopback : ℕ → Bool
is_loopback address = not (address / 2 ^ 24 == 0 || address / 2 ^ 24 == 127) && nat_lt address (224 * 2 ^ 24)

-- one of the nodes has the loopback
abbrev pub has_loopback : NodeTable → ℕ → Bool
has_loopback nodes loopback = list_any (λ other. loopback == other) nodes.loopbacks
