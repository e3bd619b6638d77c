-- How far the files of a shelf were told of.
use Rattle.std.specs.Prelude.{ℕ, List}
use Rattle.mn_edge_real.specs.declared.reads.Reads.{Reads}
use Rattle.mn_edge_real.specs.Reached.{end_told}

-- the end of the bytes that reads told of the file of this name, or 0
abbrev pub end_of : Reads → List ℕ → ℕ
end_of reads name = end_told reads.told name
