-- The place of each file among all.
use Rattle.std.proofs.Common.{ℕ, zero, suc, ◌≡◌, ◌+◌, ◌-◌, ◌*◌, ◌<◌, ◌≤◌, inl, inr, Bool, true, List, [], ◌∷◌, ◌++◌, map, length, refl, arith, sym, ◌∙◌, ap}
use Rattle.std.proofs.Common.{subst, Some, cond}
use Rattle.std.specs.Prelude.{◌≢◌, ◌==◌, nat_lt, not, slice_get, slice_index_or}
use Rattle.std.specs.List.{flat_map, list_all, range_with_len}
use Rattle.std.proofs.lemmas.List.{length-map}
use Rattle.std.proofs.lemmas.List.FromFn.{length-range_with_len, length-map-range_with_len, get_or-map-range_with_len, map-range_with_len_more}
use Rattle.std.proofs.lemmas.Bool.{ltb-true}
use Rattle.std.proofs.lemmas.Option.{slice_get-get_or, get_or_from_slice_get}
use Rattle.mn_base.proofs.Bools.{no, and_parts, or_ways, same_numbers, other_test}
use Rattle.mn_base.proofs.Members.{In, in_front, in_rest, map_in, filter_in, flat_map_in, range_in}
use Rattle.mn_base.specs.Numbers.{has_rd_form}
use Rattle.mn_wiring.specs.Wiring.{links_of}
use Rattle.mn_wiring.specs.declared.links.Dir.{Dir}
use Rattle.mn_wiring.specs.declared.links.Dir.TheVariants.{Forth, Back}
use Rattle.mn_topo.specs.declared.vrfs.VrfDef.{VrfDef}
use Rattle.mn_topo.specs.declared.nodes.Node.{Node}
use Rattle.mn_topo.specs.Network.{Network, wiring_of, nodes_with}
use Rattle.mn_topo.specs.VrfTable.{is_edge}
use Rattle.mn_topo.specs.Lawful.{IsLawful, is_vrf_of}
use Rattle.mn_ledger.specs.Places.{edges}
use Rattle.mn_output_laws.specs.Files.{OutputFile, Journal, Labels, Deliveries, Frames, Said, Told, files_of, told_files}
use Rattle.mn_files.specs.Numbers.{IsNumber, edges_before, edge_places}
use Rattle.mn_files.proofs.Numbered.{Numbered, numbered-append, number_at, place_of, numbered-map, numbered-twice, numbered-passing, passing-more, skipping}
use Rattle.mn_files.proofs.Numbered.{others, others-of-each}

-- 1. Edges are nodes

pub edge_below : (t : Network) (edge : ℕ) → IsLawful t → is_edge t.vrfs edge ≡ true → edge < length t.loopbacks
edge_below t edge lawful h = below t.vrfs lawful.vrfs.formed h
  where
    below : (vs : List VrfDef) → list_all (is_vrf_of (length t.loopbacks)) vs ≡ true → is_edge vs edge ≡ true → edge < length t.loopbacks
    below [] all h = absurd (no h)
    below (v ∷ vs) all h =
        let parts = and_parts (is_vrf_of (length t.loopbacks) v) (list_all (is_vrf_of (length t.loopbacks)) vs) all in
        elim (or_ways (edge == v.node.0) (is_edge vs edge) h) [
          | inl q ↦ subst (λ n. n < length t.loopbacks) (sym (same_numbers edge v.node.0 q))
              (ltb-true _ _ (and_parts (nat_lt v.node.0 (length t.loopbacks)) (has_rd_form v.rd.0) parts.0).0)
          | inr q ↦ below vs parts.1 q
        ]

pub edge_in : (t : Network) (edge : ℕ) → IsLawful t → is_edge t.vrfs edge ≡ true → In (edges t) edge
edge_in t edge lawful h =
    filter_in (λ node. is_edge t.vrfs node) (range_with_len 0 (length t.loopbacks)) edge
    (range_in 0 (length t.loopbacks) edge (omega arith) (let below : edge < length t.loopbacks = edge_below t edge lawful h in omega (arith, below))) h

-- 2. The number of a file

abbrev pub first_said : Network → ℕ
first_said t = 3 + length t.links

abbrev pub first_told : Network → ℕ
first_told t = 3 + 3 * length t.links

-- each edge tells all others
abbrev pub number : Network → OutputFile → ℕ
number t Journal = 0
number t Labels = 1
number t Deliveries = 2
number t (Frames l) = 3 + l
number t (Said l Forth) = first_said t + 2 * l
number t (Said l Back) = first_said t + 2 * l + 1
number t (Told edge peer) = first_told t + (length (edges t) - 1) * edges_before t edge + skipping (edges_before t) edge peer

all_numbered : (t : Network) → Numbered (number t) 0 (files_of t)
all_numbered t =
    let links : List ℕ = links_of (wiring_of t) in
    let frames : List OutputFile = map (λ l. Frames l) links in
    let said : List OutputFile = flat_map (λ l. Said l Forth ∷ Said l Back ∷ []) links in
    let told : List OutputFile = flat_map (told_files t) (edges t) in
    let frames_are : Numbered (number t) 3 frames = numbered-map (number t) (λ l. Frames l) 3 0 (length t.links) (λ x le. omega arith) in
    let said_are : Numbered (number t) (first_said t) said =
    numbered-twice (number t) (λ l. Said l Forth) (λ l. Said l Back) (first_said t) 0 (length t.links) (λ x le. omega arith) (λ x le. omega arith)
    in
    let so_many : length frames ≡ length t.links = length-map links (λ l. Frames l) ∙ length-range_with_len 0 (length t.links) in
    let twice : length said ≡ 2 * length t.links = two (length t.links) 0 in
    let rest : Numbered (number t) (first_said t) (said ++ told) =
    numbered-append (number t) (first_said t) (first_told t) said told (omega (arith, twice)) said_are (told_are (edges t) refl)
    in
    (refl, (refl, (refl, numbered-append (number t) 3 (first_said t) frames (said ++ told) (omega (arith, so_many)) frames_are rest)))
  where
    two : (n b : ℕ) → length (flat_map (λ l. Said l Forth ∷ Said l Back ∷ []) (range_with_len b n)) ≡ 2 * n
    two zero b = refl
    two (suc n) b = let rest : length (flat_map (λ l. Said l Forth ∷ Said l Back ∷ []) (range_with_len (b + 1) n)) ≡ 2 * n = two n (b + 1) in
        omega (arith, rest)

    told_are : (es : List ℕ) → es ≡ edges t → Numbered (number t) (first_told t) (flat_map (told_files t) (edges t))
    told_are [] none = subst (λ xs. Numbered (number t) (first_told t) (flat_map (told_files t) xs)) none tt
    told_are (e ∷ es) some =
        let placed : Numbered (edges_before t) 0 (edges t) = numbered-passing (λ edge. is_edge t.vrfs edge) 0 (length t.loopbacks) in
        let many : length (edges t) - 1 + 1 ≡ length (edges t) = let count : suc (length es) ≡ length (edges t) = ap length some in omega (arith, count) in
        others-of-each (number t) (λ edge peer. Told edge peer) (edges_before t) (edges t) (first_told t) (length (edges t) - 1) 0 (first_told t) (edges t)
        (λ edge peer. refl) placed many (λ edge i. i) placed (omega arith)

-- 3. Its place

pub number_is : (t : Network) (k : ℕ) (out : OutputFile) → slice_get (files_of t) k ≡ Some out → number t out ≡ k
number_is t k out h = number_at (number t) 0 (files_of t) k out (all_numbered t) h ∙ omega arith

there : (t : Network) (k : ℕ) (out : OutputFile) → IsNumber t k out → slice_get (files_of t) k ≡ Some out
there t k out h = slice_get-get_or (files_of t) k Journal h.within ∙ ap Some h.is

-- no file has two numbers
pub one_number : (t : Network) (i j : ℕ) (out : OutputFile) → IsNumber t i out → IsNumber t j out → i ≡ j
one_number t i j out one other = sym (number_is t i out (there t i out one)) ∙ number_is t j out (there t j out other)

pub has_number : (t : Network) (out : OutputFile) → In (files_of t) out → IsNumber t (number t out) out
has_number t out i =
    let p = place_of (files_of t) out i in
    subst (λ k. IsNumber t k out) (sym (number_is t p.0 out p.2)) (record { within = p.1; is = get_or_from_slice_get (files_of t) p.0 out Journal p.2 })

-- 4. The files that there are

link_in : (t : Network) (l : ℕ) → l < length t.links → In (links_of (wiring_of t)) l
link_in t l h = range_in 0 (length t.links) l (omega arith) (omega (arith, h))

pub frames_in : (t : Network) (l : ℕ) → l < length t.links → In (files_of t) (Frames l)
frames_in t l h =
    inr (inr (inr (in_front (map (λ k. Frames k) (links_of (wiring_of t)))
    (flat_map (λ k. Said k Forth ∷ Said k Back ∷ []) (links_of (wiring_of t)) ++ flat_map (told_files t) (edges t)) (Frames l)
    (map_in (λ k. Frames k) (links_of (wiring_of t)) l (link_in t l h)))))

pub said_in : (t : Network) (l : ℕ) (dir : Dir) → l < length t.links → In (files_of t) (Said l dir)
said_in t l dir h =
    inr (inr (inr (in_rest (map (λ k. Frames k) (links_of (wiring_of t)))
    (flat_map (λ k. Said k Forth ∷ Said k Back ∷ []) (links_of (wiring_of t)) ++ flat_map (told_files t) (edges t)) (Said l dir)
    (in_front (flat_map (λ k. Said k Forth ∷ Said k Back ∷ []) (links_of (wiring_of t))) (flat_map (told_files t) (edges t)) (Said l dir)
    (flat_map_in (λ k. Said k Forth ∷ Said k Back ∷ []) (links_of (wiring_of t)) l (Said l dir) (link_in t l h) (either dir))))))
  where
    either : (d : Dir) → In (Said l Forth ∷ Said l Back ∷ []) (Said l d)
    either Forth = inl refl
    either Back = inr (inl refl)

pub told_in : (t : Network) (edge peer : ℕ) → IsLawful t → is_edge t.vrfs edge ≡ true → is_edge t.vrfs peer ≡ true → edge ≢ peer →
    In (files_of t) (Told edge peer)
told_in t edge peer lawful one other apart =
    inr (inr (inr (in_rest (map (λ k. Frames k) (links_of (wiring_of t)))
    (flat_map (λ k. Said k Forth ∷ Said k Back ∷ []) (links_of (wiring_of t)) ++ flat_map (told_files t) (edges t)) (Told edge peer)
    (in_rest (flat_map (λ k. Said k Forth ∷ Said k Back ∷ []) (links_of (wiring_of t))) (flat_map (told_files t) (edges t)) (Told edge peer)
    (flat_map_in (told_files t) (edges t) edge (Told edge peer) (edge_in t edge lawful one)
    (map_in (λ p. Told edge p) (others edge (edges t)) peer
    (filter_in (λ p. not (edge == p)) (edges t) peer (edge_in t peer lawful other) (ap not (other_test edge peer apart)))))))))

-- 5. The numbers

pub journal_is : (t : Network) → IsNumber t 0 Journal
journal_is t = has_number t Journal (inl refl)

pub labels_are : (t : Network) → IsNumber t 1 Labels
labels_are t = has_number t Labels (inr (inl refl))

pub deliveries_are : (t : Network) → IsNumber t 2 Deliveries
deliveries_are t = has_number t Deliveries (inr (inr (inl refl)))

pub frames_are : (t : Network) (l n : ℕ) → n ≡ 3 + l → l < length t.links → IsNumber t n (Frames l)
frames_are t l n e h = subst (λ k. IsNumber t k (Frames l)) (sym e) (has_number t (Frames l) (frames_in t l h))

pub said_is : (t : Network) (l : ℕ) (dir : Dir) (n : ℕ) → n ≡ number t (Said l dir) → l < length t.links → IsNumber t n (Said l dir)
said_is t l dir n e h = subst (λ k. IsNumber t k (Said l dir)) (sym e) (has_number t (Said l dir) (said_in t l dir h))

-- 6. The table of edges

pub table_length : (t : Network) (places : List ℕ) → places ≡ edge_places t → length places ≡ length t.loopbacks + 1
table_length t places e = ap length e ∙ length-map-range_with_len (edges_before t) 0 (length t.loopbacks + 1)

pub nodes_length : (t : Network) (nodes : List Node) → nodes ≡ nodes_with t.loopbacks → length nodes ≡ length t.loopbacks
nodes_length t nodes e = ap length e ∙ length-map t.loopbacks (λ loopback. record { loopback = loopback })

pub table_at : (t : Network) (places : List ℕ) (n v : ℕ) → places ≡ edge_places t → n < length t.loopbacks + 1 → v ≡ slice_index_or places n 0 →
    v ≡ edges_before t n
table_at t places n v e h at =
    at ∙ ap (λ ps. slice_index_or ps n 0) e ∙ get_or-map-range_with_len (edges_before t) 0 (length t.loopbacks + 1) n n 0 h (omega arith)

-- as many edges come before an edge as the table says
pub edge_at : (t : Network) (places : List ℕ) (edge v : ℕ) → places ≡ edge_places t → IsLawful t → is_edge t.vrfs edge ≡ true →
    v ≡ slice_index_or places edge 0 →
    v ≡ edges_before t edge
edge_at t places edge v e lawful is =
    table_at t places edge v e (let below : edge < length t.loopbacks = edge_below t edge lawful is in omega (arith, below))

pub all_at : (t : Network) (nodes : List Node) (places : List ℕ) (v : ℕ) → nodes ≡ nodes_with t.loopbacks → places ≡ edge_places t →
    v ≡ slice_index_or places (length nodes) 0 → v ≡ edges_before t (length t.loopbacks)
all_at t nodes places v nodes_are e at =
    table_at t places (length t.loopbacks) v e (omega arith) (at ∙ ap (λ n. slice_index_or places n 0) (nodes_length t nodes nodes_are))

-- one row more, and the last
pub table_more : (t : Network) (items new : List ℕ) (n count : ℕ) → items ≡ map (edges_before t) (range_with_len 0 n) → count ≡ edges_before t n →
    new ≡ items ++ count ∷ [] → new ≡ map (edges_before t) (range_with_len 0 (n + 1))
table_more t items new n count before is e =
    e ∙ ap (λ row. items ++ row ∷ []) is ∙ ap (λ rows. rows ++ edges_before t n ∷ []) before
    ∙ sym (map-range_with_len_more (edges_before t) 0 n n (omega arith))

pub table_whole : (t : Network) (nodes : List Node) (items new : List ℕ) (n count : ℕ) → nodes ≡ nodes_with t.loopbacks → length nodes ≤ n →
    n ≤ length nodes → items ≡ map (edges_before t) (range_with_len 0 n) → count ≡ edges_before t n → new ≡ items ++ count ∷ [] → new ≡ edge_places t
table_whole t nodes items new n count nodes_are low high before is e =
    let many : length nodes ≡ length t.loopbacks = nodes_length t nodes nodes_are in
    let end : n + 1 ≡ length t.loopbacks + 1 = omega (arith, many, low, high) in
    table_more t items new n count before is e ∙ ap (λ k. map (edges_before t) (range_with_len 0 k)) end

pub count_more : (t : Network) (n count new : ℕ) (b : Bool) → is_edge t.vrfs n ≡ b → count ≡ edges_before t n → new ≡ count + cond b 1 0 →
    new ≡ edges_before t (n + 1)
count_more t n count new b h is e = e ∙ ap (λ k. k + cond b 1 0) is ∙ sym (passing-more (λ node. is_edge t.vrfs node) n b h)

-- there is one
pub some_edge : (t : Network) (edge : ℕ) → IsLawful t → is_edge t.vrfs edge ≡ true → 1 ≤ edges_before t (length t.loopbacks)
some_edge t edge lawful h = let p = place_of (edges t) edge (edge_in t edge lawful h) in let w : p.0 < length (edges t) = p.1 in omega (arith, w)

-- two edges have two places
pub places_apart : (t : Network) (edge peer : ℕ) → IsLawful t → is_edge t.vrfs edge ≡ true → is_edge t.vrfs peer ≡ true → edge ≢ peer →
    edges_before t peer ≢ edges_before t edge
places_apart t edge peer lawful one other apart same =
    let placed : Numbered (edges_before t) 0 (edges t) = numbered-passing (λ node. is_edge t.vrfs node) 0 (length t.loopbacks) in
    let p = place_of (edges t) edge (edge_in t edge lawful one) in
    let q = place_of (edges t) peer (edge_in t peer lawful other) in
    let at : edges_before t edge ≡ 0 + p.0 = number_at (edges_before t) 0 (edges t) p.0 edge placed p.2 in
    let other_at : edges_before t peer ≡ 0 + q.0 = number_at (edges_before t) 0 (edges t) q.0 peer placed q.2 in
    let alike : p.0 ≡ q.0 = omega (arith, at, other_at, same) in
    let both : Some edge ≡ Some peer = sym p.2 ∙ ap (slice_get (edges t)) alike ∙ q.2 in
    apart cc

pub told_is : (t : Network) (edge peer n links all place peer_place rest : ℕ) → IsLawful t → is_edge t.vrfs edge ≡ true → is_edge t.vrfs peer ≡ true →
    edge ≢ peer
    → links ≡ length t.links → all ≡ edges_before t (length t.loopbacks) → place ≡ edges_before t edge → peer_place ≡ edges_before t peer
    → rest ≡ cond (nat_lt peer_place place) peer_place (peer_place - 1)
    → n ≡ 3 + 3 * links + (all - 1) * place + rest → IsNumber t n (Told edge peer)
told_is t edge peer n links all place peer_place rest lawful one other apart links_are all_are place_is peer_is rest_is sum =
    let all' : n ≡ number t (Told edge peer) =
    sum ∙ ap (λ k. 3 + 3 * k + (all - 1) * place + rest) links_are ∙ ap (λ k. first_told t + (k - 1) * place + rest) all_are
    ∙ ap (λ k. first_told t + (length (edges t) - 1) * k + rest) place_is
    ∙ ap (λ k. first_told t + (length (edges t) - 1) * edges_before t edge + k)
    (rest_is ∙ ap (λ k. cond (nat_lt k place) k (k - 1)) peer_is
    ∙ ap (λ k. cond (nat_lt (edges_before t peer) k) (edges_before t peer) (edges_before t peer - 1)) place_is)
    in
    subst (λ k. IsNumber t k (Told edge peer)) (sym all') (has_number t (Told edge peer) (told_in t edge peer lawful one other apart))
