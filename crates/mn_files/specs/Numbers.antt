-- The number of a file of a run: its place, from 0, in the order in which the files are begun.
use Rattle.std.specs.Prelude.{◌≡◌, ◌≢◌, ◌<◌, ◌+◌, ℕ, List, length, map, filter, slice_index_or, Option, Some, None}
use Rattle.std.specs.List.{range_with_len}
use Rattle.mn_topo.specs.VrfTable.{is_edge}
use Rattle.mn_topo.specs.Network.{Network}
use Rattle.mn_output_laws.specs.Files.{OutputFile, Journal, files_of}

-- the file of a number
abbrev pub file_at : Network → ℕ → OutputFile
file_at topology number = slice_index_or (files_of topology) number Journal

pub record IsNumber (topology : Network) (number : ℕ) (out : OutputFile) : Type 0 where
  pub within : number < length (files_of topology)
  pub is : file_at topology number ≡ out

-- the number of a file, or that there is no such file
abbrev pub IsPlace : Network → OutputFile → Option ℕ → Type 0
IsPlace topology out None = (number : ℕ) → number < length (files_of topology) → file_at topology number ≢ out
IsPlace topology out (Some number) = IsNumber topology number out

-- how many edges come before a node
abbrev pub edges_before : Network → ℕ → ℕ
edges_before topology node = length (filter (λ edge. is_edge topology.vrfs edge) (range_with_len 0 node))

-- the same for each node in order, and at the end for one past the last: how many edges there are
abbrev pub edge_places : Network → List ℕ
edge_places topology = map (edges_before topology) (range_with_len 0 (length topology.loopbacks + 1))
