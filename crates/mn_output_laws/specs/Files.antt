-- The files of a run: their order and their names.
use Rattle.std.specs.Prelude.{ℕ, ◌==◌, not, List, [], ◌∷◌, ◌++◌, map, filter, slice_index_or, codes}
use Rattle.std.specs.List.{flat_map}
use Rattle.mn_wiring.specs.Wiring.{links_of, sender, receiver}
use Rattle.mn_wiring.specs.declared.links.Dir.{Dir}
use Rattle.mn_wiring.specs.declared.links.Dir.TheVariants.{Forth, Back}
use Rattle.mn_topo.specs.Network.{Network, wiring_of}
use Rattle.mn_ledger.specs.Places.{edges}

pub data OutputFile : Type 0 where
  Journal : OutputFile  -- each step that was done
  Labels : OutputFile  -- each label that was given
  Deliveries : OutputFile  -- each packet that was delivered
  Frames : (l : ℕ) → OutputFile  -- each frame that a link was given
  Said : (l : ℕ) → (dir : Dir) → OutputFile  -- what LDP sent over a link in a direction
  Told : (edge : ℕ) → (peer : ℕ) → OutputFile  -- what an edge sent a peer by BGP

-- the ordered pairs of different edges
abbrev pub told_files : Network → ℕ → List OutputFile
told_files topology edge = map (λ peer. Told edge peer) (filter (λ peer. not (edge == peer)) (edges topology))

-- in the order in which they are begun
abbrev pub files_of : Network → List OutputFile
files_of topology =
    Journal ∷ Labels ∷ Deliveries ∷ []
    ++ (map (λ l. Frames l) (links_of (wiring_of topology))
    ++ (flat_map (λ l. Said l Forth ∷ Said l Back ∷ []) (links_of (wiring_of topology))
    ++ flat_map (told_files topology) (edges topology)))

abbrev pub node_name : Network → ℕ → List ℕ
node_name topology node = slice_index_or topology.node_names node []

abbrev pub vrf_name : Network → ℕ → List ℕ
vrf_name topology v = slice_index_or topology.vrf_names v []

abbrev pub site_name : Network → ℕ → List ℕ
site_name topology s = slice_index_or topology.site_names s []

-- A+B and an ending
abbrev pub pair_name : Network → ℕ → ℕ → List ℕ → List ℕ
pair_name topology a b ending = node_name topology a ++ (codes "+" ++ (node_name topology b ++ ending))

abbrev pub link_name : Network → ℕ → Dir → List ℕ → List ℕ
link_name topology l dir ending = pair_name topology (sender (wiring_of topology) l dir) (receiver (wiring_of topology) l dir) ending

abbrev pub base_name : Network → OutputFile → List ℕ
base_name topology Journal = codes "journal.txt"
base_name topology Labels = codes "labels.txt"
base_name topology Deliveries = codes "delivered.pcap"
base_name topology (Frames l) = link_name topology l Forth (codes ".pcap")
base_name topology (Said l dir) = link_name topology l dir (codes ".ldp")
base_name topology (Told edge peer) = pair_name topology edge peer (codes ".bgp")

-- in the folder
abbrev pub file_name : List ℕ → Network → OutputFile → List ℕ
file_name folder topology out = folder ++ (codes "/" ++ base_name topology out)
