-- The report of a flood.
use Rattle.std.specs.Prelude.{ℕ, ◌==◌, not, cond, List, [], ◌∷◌, ◌++◌, filter, length, codes}
use Rattle.std.specs.List.{flat_map}
use Rattle.std.specs.Fmt.{decimal}
use Rattle.mn_wiring.specs.Wiring.{View, nodes_of}
use Rattle.mn_topo.specs.Network.{Network, wiring_of}
use Rattle.mn_flood_laws.specs.Flood.{FloodWorld, flooded}
use Rattle.mn_flood_laws.specs.Course.{FloodRefused, Unchanged, FloodFull, Empty, RefusedLine, FloodRun, run_of}
use Rattle.mn_lines.specs.Lines.{text, refused_line}
use Rattle.mn_output_laws.specs.Tables.{tree_line}
use Rattle.mn_flood_run.specs.declared.command.FloodLine.{FloodLine}
use Rattle.mn_flood_run.specs.Language.{orders_of}

-- a cause by its name
abbrev pub cause_name : FloodRefused → List ℕ
cause_name Unchanged = codes "Unchanged"
cause_name FloodFull = codes "FloodFull"
cause_name Empty = codes "Empty"

-- a line for each that was refused, in their order
abbrev pub refused_text : RefusedLine → List ℕ
refused_text refused = refused_line refused.line (cause_name refused.cause)

-- the least walks from a node to each other, over a view
abbrev pub tree_text : Network → View → ℕ → List ℕ
tree_text topology view node = flat_map (tree_line topology view node) (filter (λ to. not (to == node)) (nodes_of (wiring_of topology)))

-- the tree of each node over the links that it takes for up
abbrev pub trees_text : Network → FloodWorld → List ℕ
trees_text topology world = flat_map (λ node. tree_text topology (flooded (wiring_of topology) world node) node) (nodes_of (wiring_of topology))

-- the last line
unfoldable pub total_line : ℕ → ℕ → ℕ → List ℕ
total_line steps refused flying =
    text (codes "total steps " ∷ decimal steps ∷ codes " refused " ∷ decimal refused ∷ codes " flying " ∷ decimal flying ∷ codes "\n" ∷ [])

-- a run that was stopped tells of the lines before, and says so
abbrev pub report : Network → FloodRun → List ℕ
report topology run =
    flat_map refused_text run.refused
    ++ cond run.is_stopped (codes "too large steps\n")
    (trees_text topology run.world ++ total_line run.steps (length run.refused) (length run.world.flying))

-- the course of a script over a topology
abbrev pub course_of : Network → List FloodLine → FloodRun
course_of topology lines = run_of (wiring_of topology) (orders_of lines)

-- where nothing flies at the end: the tree of each node over the links that are up
abbrev pub settled_text : Network → View → List ℕ
settled_text topology up = flat_map (λ node. tree_text topology up node) (nodes_of (wiring_of topology))
