-- The beginning of the line of a frame.
use Rattle.std.specs.Prelude.{ℕ, List, [], ◌∷◌, codes}
use Rattle.std.specs.Fmt.{decimal}
use Rattle.mn_topo.specs.Network.{Network}
use Rattle.mn_lines.specs.Lines.{text}
use Rattle.mn_output_laws.specs.Files.{node_name}

-- the node and the record
abbrev pub head_text : Network → ℕ → ℕ → List ℕ
head_text topology node number = text (codes "frame " ∷ node_name topology node ∷ codes " " ∷ decimal number ∷ codes " " ∷ [])
