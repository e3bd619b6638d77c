-- The script of a number: all links up, all pairs of edges in session, settled, a thousand packets, and none left in flight.
use Rattle.std.specs.Prelude.{ℕ, ◌+◌, ◌*◌, ◌%◌, ◌==◌, nat_lt, if◌then◌else◌, List, [], ◌∷◌, ◌++◌, filter, codes}
use Rattle.std.specs.List.{flat_map, range_with_len}
use Rattle.std.specs.Fmt.{decimal}
use Rattle.mn_gen.specs.Shape.{text, nodes, after, half, chords, edges, edge_count}

unfoldable pub link_up : ℕ → ℕ → List ℕ
link_up a b = text (codes "link up n" ∷ decimal a ∷ codes " n" ∷ decimal b ∷ codes "\n" ∷ [])

abbrev pub ring_up : ℕ → ℕ → List ℕ
ring_up number node = link_up node (after number node)

abbrev pub chord_up : ℕ → ℕ → List ℕ
chord_up number node = link_up node (node + half number)

unfoldable pub bgp_up : ℕ → ℕ → List ℕ
bgp_up edge peer = text (codes "bgp up n" ∷ decimal edge ∷ codes " n" ∷ decimal peer ∷ codes "\n" ∷ [])

-- a session with each later edge
abbrev pub sessions_up : List ℕ → ℕ → List ℕ
sessions_up all edge = flat_map (bgp_up edge) (filter (λ peer. nat_lt edge peer) all)

-- a packet enters at the red site of an edge, or at the blue one, by turns
unfoldable pub inject : List ℕ → ℕ → ℕ → List ℕ
inject letter edge record_number = text (codes "inject " ∷ letter ∷ decimal edge ∷ codes " " ∷ decimal record_number ∷ codes "\n" ∷ [])

abbrev pub sending : ℕ → ℕ → List ℕ
sending number turn =
    inject (if turn % 2 == 0 then codes "r" else codes "b") (4 * (turn % edge_count number)) ((7 * turn + 1) % edge_count number + 1)

-- how many packets are sent
unfoldable pub turns : ℕ
turns = 1000

abbrev pub links_up : ℕ → List ℕ
links_up number = flat_map (ring_up number) (nodes number) ++ flat_map (chord_up number) (chords number)

-- links, sessions, and what follows from them
abbrev pub brought_up : ℕ → List ℕ
brought_up number = links_up number ++ (flat_map (sessions_up (edges number)) (edges number) ++ codes "drain 4000000\n")

unfoldable pub script_text : ℕ → List ℕ
script_text number = brought_up number ++ (flat_map (sending number) (range_with_len 0 turns) ++ codes "flush\n")
