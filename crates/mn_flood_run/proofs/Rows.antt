-- The rows of a tree, and lines from their pieces.
use Rattle.std.proofs.Common.{◌≡◌, ℕ, Bool, true, false, List, [], ◌∷◌, refl}
use Rattle.std.specs.Prelude.{◌==◌, not, if◌then◌else◌, codes, decimal}
use Rattle.std.specs.List.{flat_map}
use Rattle.mn_wiring.specs.Wiring.{View, nodes_of}
use Rattle.mn_topo.specs.Network.{Network, wiring_of}
use Rattle.mn_lines.specs.Lines.{text, refused_line}
use Rattle.mn_output_laws.specs.Tables.{tree_line}
use Rattle.mn_tables.proofs.Telling.{flat_filter}
use Rattle.mn_flood_run.specs.Report.{tree_text, total_line}
use Rattle.mn_flood_run.specs.Playing.{walk_row}

pub tree_rows : (topology : Network) (view : View) (node : ℕ) →
    flat_map (walk_row topology view node) (nodes_of (wiring_of topology)) ≡ tree_text topology view node
tree_rows topology view node = flat_filter (tree_line topology view node) (λ to. not (to == node)) (nodes_of (wiring_of topology))

-- the node itself has no line
itself : (b : Bool) (line : List ℕ) → b ≡ true → [] ≡ (if not b then line else [])
itself true line is = refl
itself false line is = cc

other : (b : Bool) (line : List ℕ) → b ≡ false → line ≡ (if not b then line else [])
other true line is = cc
other false line is = refl

pub no_walk_row : (topology : Network) (view : View) (node to : ℕ) → (to == node) ≡ true → [] ≡ walk_row topology view node to
no_walk_row topology view node to is = itself (to == node) (tree_line topology view node to) is

pub one_walk_row : (topology : Network) (view : View) (node to : ℕ) → (to == node) ≡ false → tree_line topology view node to ≡ walk_row topology view node to
one_walk_row topology view node to is = other (to == node) (tree_line topology view node to) is

-- a refused line, and the last one
pub refused_row : (number : ℕ) (cause a b : List ℕ) → a ≡ decimal number → b ≡ cause →
    text (codes "line " ∷ a ∷ codes " refused " ∷ b ∷ codes "\n" ∷ []) ≡ refused_line number cause
unfolding refused_line
refused_row number cause a b is_a is_b = rw (is_a, is_b) refl

pub total_row : (steps refused flying : ℕ) (a b d : List ℕ) → a ≡ decimal steps → b ≡ decimal refused → d ≡ decimal flying →
    text (codes "total steps " ∷ a ∷ codes " refused " ∷ b ∷ codes " flying " ∷ d ∷ codes "\n" ∷ []) ≡ total_line steps refused flying
unfolding total_line
total_row steps refused flying a b d is_a is_b is_d = rw (is_a, is_b, is_d) refl
