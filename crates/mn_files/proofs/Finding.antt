-- Which files there are not.
use Rattle.std.proofs.Common.{◌≡◌, ◌≢◌, ℕ, zero, suc, ◌+◌, ◌<◌, ◌≤◌, ◌⊎◌, inl, inr, ◌==◌, ◌&&◌, not, Bool, true, false, List, [], ◌∷◌, ◌++◌, map, filter}
use Rattle.std.proofs.Common.{length, slice_index_or, refl, sym, ◌∙◌, ap, subst, arith}
use Rattle.std.specs.List.{flat_map, range_with_len}
use Rattle.mn_base.proofs.Bools.{same_test, other_numbers}
use Rattle.mn_base.proofs.Members.{In, in_append, in_map, in_filter, in_flat_map, in_range}
use Rattle.mn_wiring.specs.Wiring.{links_of}
use Rattle.mn_wiring.specs.declared.links.Dir.{Dir}
use Rattle.mn_wiring.specs.declared.links.Dir.TheVariants.{Forth, Back}
use Rattle.mn_topo.specs.Network.{Network, wiring_of}
use Rattle.mn_topo.specs.VrfTable.{is_edge}
use Rattle.mn_ledger.specs.Places.{edges}
use Rattle.mn_output_laws.specs.Files.{OutputFile, Journal, Labels, Deliveries, Frames, Said, Told, files_of, told_files}
use Rattle.mn_files.specs.Numbers.{file_at}

-- each number has a file
member : (outs : List OutputFile) (k : ℕ) → k < length outs → In outs (slice_index_or outs k Journal)
member [] k within = absurd (omega arith)
member (out ∷ outs) zero within = inl refl
member (out ∷ outs) (suc k) within = inr (member outs k (omega arith))

pub is_there : (t : Network) (k : ℕ) (out : OutputFile) → k < length (files_of t) → file_at t k ≡ out → In (files_of t) out
is_there t k out within is = subst (In (files_of t)) is (member (files_of t) k within)

abbrev links_in : Network → List ℕ
links_in t = links_of (wiring_of t)

abbrev saids : ℕ → List OutputFile
saids k = Said k Forth ∷ Said k Back ∷ []

-- it is one of three, or of a link, or of an edge
by_kind : (P : Type 0) (t : Network) (out : OutputFile) → (Journal ≡ out → P) → (Labels ≡ out → P) → (Deliveries ≡ out → P) →
    (In (map (λ k. Frames k) (links_in t)) out → P) → (In (flat_map saids (links_in t)) out → P) → (In (flat_map (told_files t) (edges t)) out → P) →
    In (files_of t) out → P
by_kind P t out journal labels deliveries frames said told (inl e) = journal e
by_kind P t out journal labels deliveries frames said told (inr (inl e)) = labels e
by_kind P t out journal labels deliveries frames said told (inr (inr (inl e))) = deliveries e
by_kind P t out journal labels deliveries frames said told (inr (inr (inr i))) =
    on (in_append (map (λ k. Frames k) (links_in t)) (flat_map saids (links_in t) ++ flat_map (told_files t) (edges t)) out i)
  where
    rest : In (flat_map saids (links_in t)) out ⊎ In (flat_map (told_files t) (edges t)) out → P
    rest (inl m) = said m
    rest (inr m) = told m

    on : In (map (λ k. Frames k) (links_in t)) out ⊎ In (flat_map saids (links_in t) ++ flat_map (told_files t) (edges t)) out → P
    on (inl m) = frames m
    on (inr m) = rest (in_append (flat_map saids (links_in t)) (flat_map (told_files t) (edges t)) out m)

-- 1. A link's frames

frames_in_saids : (k l : ℕ) → In (saids k) (Frames l) → ⊥
frames_in_saids k l (inl e) = let f : Said k Forth ≡ Frames l = e in cc
frames_in_saids k l (inr (inl e)) = let f : Said k Back ≡ Frames l = e in cc
frames_in_saids k l (inr (inr e)) = e

frames_in_told : (t : Network) (l edge : ℕ) → In (told_files t edge) (Frames l) → ⊥
frames_in_told t l edge m =
    let x = in_map (λ peer. Told edge peer) (filter (λ peer. not (edge == peer)) (edges t)) (Frames l) m in
    let f : Told edge x.0 ≡ Frames l = x.2 in cc

linked : (t : Network) (k : ℕ) → In (links_in t) k → k < length t.links
linked t k m = let b : k < 0 + length t.links = (in_range 0 (length t.links) k m).1 in omega (arith, b)

pub frames_there : (t : Network) (l : ℕ) → In (files_of t) (Frames l) → l < length t.links
frames_there t l = by_kind (l < length t.links) t (Frames l)
    (λ e. absurd (let f : Journal ≡ Frames l = e in cc))
    (λ e. absurd (let f : Labels ≡ Frames l = e in cc))
    (λ e. absurd (let f : Deliveries ≡ Frames l = e in cc))
    (λ m.
    let x = in_map (λ k. Frames k) (links_in t) (Frames l) m in
    let e : x.0 ≡ l = (let f : Frames x.0 ≡ Frames l = x.2 in cc) in
    subst (λ n. n < length t.links) e (linked t x.0 x.1))
    (λ m. let x = in_flat_map saids (links_in t) (Frames l) m in absurd (frames_in_saids x.0 l x.2))
    (λ m. let x = in_flat_map (told_files t) (edges t) (Frames l) m in absurd (frames_in_told t l x.0 x.2))

-- 2. What LDP sent over a link

said_in_saids : (k l : ℕ) (dir : Dir) → In (saids k) (Said l dir) → k ≡ l
said_in_saids k l dir (inl e) = let f : Said k Forth ≡ Said l dir = e in cc
said_in_saids k l dir (inr (inl e)) = let f : Said k Back ≡ Said l dir = e in cc
said_in_saids k l dir (inr (inr e)) = absurd e

said_in_told : (t : Network) (l edge : ℕ) (dir : Dir) → In (told_files t edge) (Said l dir) → ⊥
said_in_told t l edge dir m =
    let x = in_map (λ peer. Told edge peer) (filter (λ peer. not (edge == peer)) (edges t)) (Said l dir) m in
    let f : Told edge x.0 ≡ Said l dir = x.2 in cc

pub said_there : (t : Network) (l : ℕ) (dir : Dir) → In (files_of t) (Said l dir) → l < length t.links
said_there t l dir = by_kind (l < length t.links) t (Said l dir)
    (λ e. absurd (let f : Journal ≡ Said l dir = e in cc))
    (λ e. absurd (let f : Labels ≡ Said l dir = e in cc))
    (λ e. absurd (let f : Deliveries ≡ Said l dir = e in cc))
    (λ m. let x = in_map (λ k. Frames k) (links_in t) (Said l dir) m in absurd (let f : Frames x.0 ≡ Said l dir = x.2 in cc))
    (λ m.
    let x = in_flat_map saids (links_in t) (Said l dir) m in
    subst (λ n. n < length t.links) (said_in_saids x.0 l dir x.2) (linked t x.0 x.1))
    (λ m. let x = in_flat_map (told_files t) (edges t) (Said l dir) m in absurd (said_in_told t l x.0 dir x.2))

-- 3. What an edge told a peer

pub record AreTwo (t : Network) (edge peer : ℕ) : Type 0 where
  pub one : is_edge t.vrfs edge ≡ true
  pub other : is_edge t.vrfs peer ≡ true
  pub apart : (edge == peer) ≡ false

told_in_saids : (k edge peer : ℕ) → In (saids k) (Told edge peer) → ⊥
told_in_saids k edge peer (inl e) = let f : Said k Forth ≡ Told edge peer = e in cc
told_in_saids k edge peer (inr (inl e)) = let f : Said k Back ≡ Told edge peer = e in cc
told_in_saids k edge peer (inr (inr e)) = e

edge_is : (t : Network) (edge : ℕ) → In (edges t) edge → is_edge t.vrfs edge ≡ true
edge_is t edge m = (in_filter (λ node. is_edge t.vrfs node) (range_with_len 0 (length t.loopbacks)) edge m).1

not_true : (b : Bool) → not b ≡ true → b ≡ false
not_true false h = refl
not_true true h = absurd (let f : false ≡ true = h in cc)

told_in_told : (t : Network) (from edge peer : ℕ) → In (edges t) from → In (told_files t from) (Told edge peer) → AreTwo t edge peer
told_in_told t from edge peer there m =
    let x = in_map (λ other. Told from other) (filter (λ other. not (from == other)) (edges t)) (Told edge peer) m in
    let told : Told from x.0 ≡ Told edge peer = x.2 in
    let one : from ≡ edge = cc in
    let two : x.0 ≡ peer = cc in
    let other = in_filter (λ other. not (from == other)) (edges t) x.0 x.1 in
    record {
      one = ap (is_edge t.vrfs) (sym one) ∙ edge_is t from there;
      other = ap (is_edge t.vrfs) (sym two) ∙ edge_is t x.0 other.0;
      apart = ap (λ n. n == peer) (sym one) ∙ ap (λ n. from == n) (sym two) ∙ not_true (from == x.0) other.1;
    }

pub told_there : (t : Network) (edge peer : ℕ) → In (files_of t) (Told edge peer) → AreTwo t edge peer
told_there t edge peer = by_kind (AreTwo t edge peer) t (Told edge peer)
    (λ e. absurd (let f : Journal ≡ Told edge peer = e in cc))
    (λ e. absurd (let f : Labels ≡ Told edge peer = e in cc))
    (λ e. absurd (let f : Deliveries ≡ Told edge peer = e in cc))
    (λ m. let x = in_map (λ k. Frames k) (links_in t) (Told edge peer) m in absurd (let f : Frames x.0 ≡ Told edge peer = x.2 in cc))
    (λ m. let x = in_flat_map saids (links_in t) (Told edge peer) m in absurd (told_in_saids x.0 edge peer x.2))
    (λ m. let x = in_flat_map (told_files t) (edges t) (Told edge peer) m in told_in_told t x.0 edge peer x.1 x.2)

-- 4. The test

two_of : (one other same : Bool) → ((one && other) && not same) ≡ true → (one ≡ true) × (other ≡ true) × (same ≡ false)
two_of true true false h = (refl, refl, refl)
two_of true true true h = absurd (let f : false ≡ true = h in cc)
two_of true false same h = absurd (let f : false ≡ true = h in cc)
two_of false other same h = absurd (let f : false ≡ true = h in cc)

pub are_two : (t : Network) (edge peer : ℕ) → ((is_edge t.vrfs edge && is_edge t.vrfs peer) && not (edge == peer)) ≡ true → AreTwo t edge peer
are_two t edge peer h =
    let x = two_of (is_edge t.vrfs edge) (is_edge t.vrfs peer) (edge == peer) h in
    record { one = x.0; other = x.1; apart = x.2 }

not_two : (one other same : Bool) → ((one && other) && not same) ≡ false → one ≡ true → other ≡ true → same ≡ false → ⊥
not_two true true false h a b c = let f : true ≡ false = h in cc
not_two true true true h a b c = let f : true ≡ false = c in cc
not_two true false same h a b c = let f : false ≡ true = b in cc
not_two false other same h a b c = let f : false ≡ true = a in cc

pub no_two : (t : Network) (edge peer : ℕ) → ((is_edge t.vrfs edge && is_edge t.vrfs peer) && not (edge == peer)) ≡ false → In (files_of t) (Told edge peer) → ⊥
no_two t edge peer h there =
    let x = told_there t edge peer there in
    not_two (is_edge t.vrfs edge) (is_edge t.vrfs peer) (edge == peer) h x.one x.other x.apart
