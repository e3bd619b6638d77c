-- Which file a name is of, read from the name: no name has a `+`, and the endings differ in the letter before the last.
use Rattle.std.proofs.Common.{ℕ, zero, suc, ◌≡◌, ◌+◌, ◌-◌, ◌<◌, inl, inr, true, false, cond, List, [], ◌∷◌, ◌++◌, length, take, refl, arith, sym, ◌∙◌, ap}
use Rattle.std.specs.Prelude.{◌==◌, ◌&&◌, nat_le, codes, slice_index_or, reverse, unwrap_or}
use Rattle.std.specs.List.{list_all}
use Rattle.std.proofs.lemmas.List.{reverse-append, length-append}
use Rattle.mn_base.proofs.Bools.{no, two_ways, and_parts, and_right, same_numbers}
use Rattle.mn_wiring.specs.Wiring.{sender, receiver}
use Rattle.mn_wiring.specs.declared.links.Dir.{Dir}
use Rattle.mn_wiring.specs.declared.links.Dir.TheVariants.{Forth, Back}
use Rattle.mn_base.specs.declared.numbers.LinkNo.{LinkNo}
use Rattle.mn_topo.specs.Tables.{is_name, is_name_byte}
use Rattle.mn_topo.specs.Names.{number_of}
use Rattle.mn_topo.specs.Network.{Network, wiring_of, link_of}
use Rattle.mn_topo.specs.Lawful.{IsLawful}
use Rattle.mn_topo.proofs.Ends.{name_again, link_again}
use Rattle.mn_output_laws.specs.Files.{OutputFile, Journal, Labels, Deliveries, Frames, Said, Told, base_name, node_name, pair_name}

-- 1. Around the first `+`

abbrev front : List ℕ → List ℕ
front [] = []
front (c ∷ cs) = cond (c == 43) [] (c ∷ front cs)

abbrev back : List ℕ → List ℕ
back [] = []
back (c ∷ cs) = cond (c == 43) cs (back cs)

not_plus : (c : ℕ) → is_name_byte c ≡ true → (c == 43) ≡ false
not_plus c h = elim (two_ways (c == 43)) [
  | inl q ↦ absurd (no (sym (ap is_name_byte (same_numbers c 43 q)) ∙ h))
  | inr q ↦ q
]

front-is : (name rest : List ℕ) → list_all is_name_byte name ≡ true → front (name ++ 43 ∷ rest) ≡ name
front-is [] rest h = refl
front-is (c ∷ cs) rest h =
    let parts = and_parts (is_name_byte c) (list_all is_name_byte cs) h in
    ap (λ b. cond b [] (c ∷ front (cs ++ 43 ∷ rest))) (not_plus c parts.0) ∙ ap (λ xs. c ∷ xs) (front-is cs rest parts.1)

back-is : (name rest : List ℕ) → list_all is_name_byte name ≡ true → back (name ++ 43 ∷ rest) ≡ rest
back-is [] rest h = refl
back-is (c ∷ cs) rest h =
    let parts = and_parts (is_name_byte c) (list_all is_name_byte cs) h in
    ap (λ b. cond b (cs ++ 43 ∷ rest) (back (cs ++ 43 ∷ rest))) (not_plus c parts.0) ∙ back-is cs rest parts.1

-- 2. Names

formed_at : (names : List (List ℕ)) (n : ℕ) → list_all is_name names ≡ true → n < length names → is_name (slice_index_or names n []) ≡ true
formed_at [] n h below = absurd (omega arith)
formed_at (name ∷ names) zero h below = (and_parts (is_name name) (list_all is_name names) h).0
formed_at (name ∷ names) (suc n) h below = formed_at names n (and_parts (is_name name) (list_all is_name names) h).1 (omega (arith, below))

named_below : (t : Network) (n : ℕ) → IsLawful t → n < length t.loopbacks → n < length t.node_names
named_below t n lawful below = let each : length t.loopbacks ≡ length t.node_names = lawful.nodes.each in omega (arith, below, each)

bytes_at : (t : Network) (n : ℕ) → IsLawful t → n < length t.loopbacks → list_all is_name_byte (node_name t n) ≡ true
bytes_at t n lawful below =
    and_right (nat_le 1 (length (node_name t n)) && nat_le (length (node_name t n)) 32) (list_all is_name_byte (node_name t n))
    (formed_at t.node_names n lawful.nodes.named.formed (named_below t n lawful below))

pub named : Network → List ℕ → ℕ
named t name = unwrap_or (number_of t.node_names name) 0

named-is : (t : Network) (n : ℕ) → IsLawful t → n < length t.loopbacks → named t (node_name t n) ≡ n
unfolding named
named-is t n lawful below = ap (λ found. unwrap_or found 0) (name_again t.node_names n [] lawful.nodes.named (named_below t n lawful below))

-- 3. The file of a name

pub joined : Network → ℕ → ℕ → LinkNo × Dir
joined t a b = unwrap_or (link_of t a b) (record { 0 = 0 }, Forth)

joined-is : (t : Network) (l : ℕ) (dir : Dir) → IsLawful t → l < length t.links →
    joined t (sender (wiring_of t) l dir) (receiver (wiring_of t) l dir) ≡ (record { 0 = l }, dir)
unfolding joined
joined-is t l dir lawful below = ap (λ found. unwrap_or found (record { 0 = 0 }, Forth)) (link_again t l dir lawful below)

-- the letter before the last one behind the `+`
abbrev letter : List ℕ → ℕ
letter s = slice_index_or (reverse (back s)) 1 0

-- how long the ending is
abbrev size : ℕ → ℕ
size c = cond (c == 97) 5 4

abbrev lone : List ℕ → OutputFile
lone s = cond (slice_index_or s 0 0 == 106) Journal (cond (slice_index_or s 0 0 == 108) Labels Deliveries)

abbrev chosen : Network → ℕ → ℕ → ℕ → List ℕ → OutputFile
chosen t c a b s =
    cond (c == 97) (Frames (joined t a b).0.0)
    (cond (c == 100) (Said (joined t a b).0.0 (joined t a b).1)
    (cond (c == 103) (Told a b) (lone s)))

abbrev stem : ℕ → List ℕ → List ℕ
stem c s = take (length (back s) - size c) (back s)

abbrev pub read : Network → List ℕ → OutputFile
read t s = chosen t (letter s) (named t (front s)) (named t (stem (letter s) s)) s

-- a name of two nodes and an ending
read_pair : (t : Network) (a b c : ℕ) (ending : List ℕ) → IsLawful t → a < length t.loopbacks → b < length t.loopbacks
    → ((name : List ℕ) → slice_index_or (reverse (name ++ ending)) 1 0 ≡ c) → length ending ≡ size c
    → read t (pair_name t a b ending) ≡ chosen t c a b (pair_name t a b ending)
read_pair t a b c ending lawful a_node b_node told long =
    let s : List ℕ = pair_name t a b ending in
    let before : front s ≡ node_name t a = front-is (node_name t a) (node_name t b ++ ending) (bytes_at t a lawful a_node) in
    let behind : back s ≡ node_name t b ++ ending = back-is (node_name t a) (node_name t b ++ ending) (bytes_at t a lawful a_node) in
    let its : letter s ≡ c = ap (λ xs. slice_index_or (reverse xs) 1 0) behind ∙ told (node_name t b) in
    let count : length (node_name t b ++ ending) - size c ≡ length (node_name t b) =
    (let sum : length (node_name t b ++ ending) ≡ length (node_name t b) + length ending = length-append (node_name t b) ending in
    omega (arith, sum, long)) in
    let rest : stem (letter s) s ≡ node_name t b =
    ap (λ k. stem k s) its
    ∙ ap (λ xs. take (length xs - size c) xs) behind
    ∙ ap (λ n. take n (node_name t b ++ ending)) count
    ∙ whole (node_name t b) ending
    in
    ap (λ k. chosen t k (named t (front s)) (named t (stem (letter s) s)) s) its
    ∙ ap (λ m. chosen t c m (named t (stem (letter s) s)) s) (ap (named t) before ∙ named-is t a lawful a_node)
    ∙ ap (λ m. chosen t c a m s) (ap (named t) rest ∙ named-is t b lawful b_node)
  where
    whole : (xs ys : List ℕ) → take (length xs) (xs ++ ys) ≡ xs
    whole [] ys = refl
    whole (x ∷ xs) ys = ap (λ zs. x ∷ zs) (whole xs ys)

ends_in : (name : List ℕ) (x y : ℕ) (start : List ℕ) → slice_index_or (reverse (name ++ (start ++ y ∷ x ∷ []))) 1 0 ≡ y
ends_in name x y start =
    ap (λ xs. slice_index_or xs 1 0)
    (reverse-append name (start ++ y ∷ x ∷ []) ∙ ap (λ xs. xs ++ reverse name) (reverse-append start (y ∷ x ∷ [])))

-- the files of a topology
abbrev pub IsFile : Network → OutputFile → Type 0
IsFile t (Frames l) = l < length t.links
IsFile t (Said l dir) = l < length t.links
IsFile t (Told edge peer) = (edge < length t.loopbacks) × (peer < length t.loopbacks)
IsFile t out = Unit {0}

-- a link's two ends, in a direction
ends_below : (t : Network) (l : ℕ) (dir : Dir) → IsLawful t → l < length t.links →
    (sender (wiring_of t) l dir < length t.loopbacks) × (receiver (wiring_of t) l dir < length t.loopbacks)
ends_below t l Forth lawful h = lawful.joins_nodes l h
ends_below t l Back lawful h = let ends = lawful.joins_nodes l h in (ends.1, ends.0)

-- each name is read as the file that it is of
pub read-is : (t : Network) (out : OutputFile) → IsLawful t → IsFile t out → read t (base_name t out) ≡ out
read-is t Journal lawful h = refl
read-is t Labels lawful h = refl
read-is t Deliveries lawful h = refl
read-is t (Frames l) lawful h =
    let ends = ends_below t l Forth lawful h in
    read_pair t (sender (wiring_of t) l Forth) (receiver (wiring_of t) l Forth) 97 (codes ".pcap") lawful ends.0 ends.1
    (λ name. ends_in name 112 97 (codes ".pc")) refl
    ∙ ap (λ found. Frames found.0.0) (joined-is t l Forth lawful h)
read-is t (Said l dir) lawful h =
    let ends = ends_below t l dir lawful h in
    read_pair t (sender (wiring_of t) l dir) (receiver (wiring_of t) l dir) 100 (codes ".ldp") lawful ends.0 ends.1
    (λ name. ends_in name 112 100 (codes ".l")) refl
    ∙ ap (λ found. Said found.0.0 found.1) (joined-is t l dir lawful h)
read-is t (Told edge peer) lawful h =
    read_pair t edge peer 103 (codes ".bgp") lawful h.0 h.1 (λ name. ends_in name 112 103 (codes ".b")) refl
