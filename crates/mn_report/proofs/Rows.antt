-- Tables, line by line.
use Rattle.std.proofs.Common.{◌≡◌, ℕ, Bool, true, false, List, [], ◌∷◌, length, refl, ap, sym, ◌∙◌}
use Rattle.mn_lines.specs.Lines.{text}
use Rattle.std.specs.Prelude.{codes, decimal, ◌==◌, ◌&&◌, not, nat_lt, if◌then◌else◌}
use Rattle.std.specs.List.{flat_map, range_with_len}
use Rattle.mn_wiring.specs.Wiring.{nodes_of}
use Rattle.mn_topo.specs.Network.{Network, wiring_of}
use Rattle.mn_topo.specs.VrfTable.{is_edge}
use Rattle.mn_ledger.specs.World.{World}
use Rattle.mn_ledger.specs.Transport.{view_of}
use Rattle.mn_ledger.specs.Places.{edges}
use Rattle.mn_output_laws.specs.Tables.{tree_line, tree_lines, bgp_line, bgp_lines}
use Rattle.mn_tables.proofs.Telling.{flat_filter}
use Rattle.mn_report.specs.Rows.{walk_row, pair_row, edge_rows}

pub tree_rows : (topology : Network) (world : World) (node : ℕ)
    → flat_map (walk_row topology world node) (nodes_of (wiring_of topology)) ≡ tree_lines topology world node
tree_rows topology world node =
    flat_filter (tree_line topology (view_of (wiring_of topology) world.views node) node) (λ to. not (to == node)) (nodes_of (wiring_of topology))

-- the node itself has no line
itself : (b : Bool) (line : List ℕ) → b ≡ true → [] ≡ (if not b then line else [])
itself true line is = refl
itself false line is = cc

other : (b : Bool) (line : List ℕ) → b ≡ false → line ≡ (if not b then line else [])
other true line is = cc
other false line is = refl

pub no_walk_row : (topology : Network) (world : World) (node to : ℕ) → (to == node) ≡ true → [] ≡ walk_row topology world node to
no_walk_row topology world node to is = itself (to == node) (tree_line topology (view_of (wiring_of topology) world.views node) node to) is

pub one_walk_row : (topology : Network) (world : World) (node to : ℕ) → (to == node) ≡ false
    → tree_line topology (view_of (wiring_of topology) world.views node) node to ≡ walk_row topology world node to
one_walk_row topology world node to is = other (to == node) (tree_line topology (view_of (wiring_of topology) world.views node) node to) is

none_of : (q p : Bool) (line : List ℕ) → (q && p) ≡ false → [] ≡ (if q then (if p then line else []) else [])
none_of true true line none = cc
none_of true false line none = refl
none_of false p line none = refl

one_of : (q p : Bool) (line : List ℕ) → (q && p) ≡ true → line ≡ (if q then (if p then line else []) else [])
one_of true true line one = refl
one_of true false line one = cc
one_of false p line one = cc

pub no_pair_row : (topology : Network) (world : World) (a b : ℕ) → (is_edge topology.vrfs b && nat_lt a b) ≡ false → [] ≡ pair_row topology world a b
no_pair_row topology world a b none = none_of (is_edge topology.vrfs b) (nat_lt a b) (bgp_line topology world a b) none

pub one_pair_row : (topology : Network) (world : World) (a b : ℕ) →
    (is_edge topology.vrfs b && nat_lt a b) ≡ true → bgp_line topology world a b ≡ pair_row topology world a b
one_pair_row topology world a b one = one_of (is_edge topology.vrfs b) (nat_lt a b) (bgp_line topology world a b) one

pub no_edge_rows : (topology : Network) (world : World) (a : ℕ) → is_edge topology.vrfs a ≡ false → [] ≡ edge_rows topology world a
no_edge_rows topology world a none = rw none refl

pub pair_rows : (topology : Network) (world : World) (a : ℕ) → is_edge topology.vrfs a ≡ true
    → flat_map (pair_row topology world a) (range_with_len 0 (length topology.loopbacks)) ≡ edge_rows topology world a
pair_rows topology world a edge =
    flat_filter (λ b. if nat_lt a b then bgp_line topology world a b else []) (λ b. is_edge topology.vrfs b) (range_with_len 0 (length topology.loopbacks))
    ∙ flat_filter (bgp_line topology world a) (nat_lt a) (edges topology)
    ∙ ap (λ b. if b then bgp_lines topology world a else []) (sym edge)

pub all_edge_rows : (topology : Network) (world : World)
    → flat_map (edge_rows topology world) (range_with_len 0 (length topology.loopbacks)) ≡ flat_map (bgp_lines topology world) (edges topology)
all_edge_rows topology world = flat_filter (bgp_lines topology world) (λ a. is_edge topology.vrfs a) (range_with_len 0 (length topology.loopbacks))

pub counts_as : (notices messages told said : ℕ) → told ≡ notices → said ≡ messages
    → text (codes "notices " ∷ decimal told ∷ codes "\nmessages " ∷ decimal said ∷ codes "\n" ∷ [])
    ≡ text (codes "notices " ∷ decimal notices ∷ codes "\nmessages " ∷ decimal messages ∷ codes "\n" ∷ [])
counts_as notices messages told said is_told is_said = rw (is_told, is_said) refl
