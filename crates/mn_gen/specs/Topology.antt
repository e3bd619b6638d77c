-- The topology of a number, as text.
use Rattle.std.specs.Prelude.{ℕ, ◌+◌, ◌*◌, ◌%◌, List, [], ◌∷◌, ◌++◌, codes}
use Rattle.std.specs.List.{flat_map}
use Rattle.std.specs.Fmt.{decimal}
use Rattle.mn_gen.specs.Shape.{text, nodes, after, half, chords, edges}

-- a node, and its loopback from 172.16.0.1 on
unfoldable pub node_text : ℕ → List ℕ
node_text node = text (codes "[[node]]\nname = \"n" ∷ decimal node ∷ codes "\"\nloopback = \"172.16.0." ∷ decimal (node + 1) ∷ codes "\"\n" ∷ [])

unfoldable pub link_text : ℕ → ℕ → ℕ → ℕ → List ℕ
link_text a b cost delay =
    text (codes "[[link]]\na = \"n" ∷ decimal a ∷ codes "\"\nb = \"n" ∷ decimal b ∷ codes "\"\ncost = " ∷ decimal cost ∷ codes "\ndelay = " ∷ decimal delay
    ∷ codes "\n" ∷ [])

-- a link of the ring, and a chord
abbrev pub ring_text : ℕ → ℕ → List ℕ
ring_text number node = link_text node (after number node) 10 (1 + node % 3)

abbrev pub chord_text : ℕ → ℕ → List ℕ
chord_text number node = link_text node (node + half number) 15 1

-- a VRF of an edge, which exports and imports its VPN's target: 1 red, 2 blue
unfoldable pub vrf_text : List ℕ → ℕ → ℕ → List ℕ
vrf_text colour edge vpn =
    text (codes "[[vrf]]\nname = \"" ∷ colour ∷ decimal edge ∷ codes "\"\nnode = \"n" ∷ decimal edge ∷ codes "\"\nrd = \"65000:" ∷ decimal (2 * edge + vpn)
    ∷ codes "\"\nimport = [\"65000:" ∷ decimal vpn ∷ codes "\"]\nexport = [\"65000:" ∷ decimal vpn ∷ codes "\"]\n" ∷ [])

abbrev pub vrfs_text : ℕ → List ℕ
vrfs_text edge = vrf_text (codes "red") edge 1 ++ vrf_text (codes "blue") edge 2

-- a site of an edge, with the edge's prefix
unfoldable pub site_text : List ℕ → List ℕ → ℕ → List ℕ
site_text letter colour edge =
    text (codes
    "[[site]]\nname = \"" ∷ letter ∷ decimal edge ∷ codes "\"\nvrf = \"" ∷ colour ∷ decimal edge ∷ codes "\"\nprefixes = [\"10." ∷ decimal edge
    ∷ codes ".0.0/16\"]\n" ∷ [])

abbrev pub sites_text : ℕ → List ℕ
sites_text edge = site_text (codes "r") (codes "red") edge ++ site_text (codes "b") (codes "blue") edge

unfoldable pub topology_text : ℕ → List ℕ
topology_text number =
    flat_map node_text (nodes number) ++
    (flat_map (ring_text number) (nodes number) ++
    (flat_map (chord_text number) (chords number) ++ (flat_map vrfs_text (edges number) ++ flat_map sites_text (edges number))))
