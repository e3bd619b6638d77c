-- A run has few files.
use Rattle.std.proofs.Common.{ℕ, suc, ◌≡◌, ◌+◌, ◌*◌, ◌≤◌, Bool, List, [], ◌∷◌, ◌++◌, map, filter, length, arith, length-append}
use Rattle.std.specs.Prelude.{◌==◌, not}
use Rattle.std.specs.List.{flat_map, range_with_len}
use Rattle.std.proofs.Math.Nat.{mul-suc}
use Rattle.std.proofs.lemmas.List.{length-map}
use Rattle.std.proofs.lemmas.List.FromFn.{length-range_with_len}
use Rattle.std.proofs.lemmas.List.Sums.{length-filter, count_by-le-length}
use Rattle.mn_wiring.specs.Wiring.{links_of}
use Rattle.mn_wiring.specs.declared.links.Dir.TheVariants.{Forth, Back}
use Rattle.mn_topo.specs.Network.{Network, wiring_of}
use Rattle.mn_topo.specs.Lawful.{IsLawful}
use Rattle.mn_topo.specs.VrfTable.{is_edge}
use Rattle.mn_ledger.specs.Places.{edges}
use Rattle.mn_output_laws.specs.Files.{OutputFile, Frames, Said, Told, told_files, files_of}

each : {A B : Type 0} (f : A → List B) (k : ℕ) → ((x : A) → length (f x) ≤ k) → (xs : List A) → length (flat_map f xs) ≤ k * length xs
each f k h [] = omega arith
each f k h (x ∷ xs) = omega (arith, length-append (f x) (flat_map f xs), h x, each f k h xs, mul-suc k (length xs))

fewer : {A : Type 0} (p : A → Bool) (xs : List A) → length (filter p xs) ≤ length xs
fewer p xs = omega (arith, length-filter p xs, count_by-le-length p xs)

few_edges : (t : Network) → length t.loopbacks ≤ 256 → length (edges t) ≤ 256
few_edges t few = omega (arith, fewer (λ node. is_edge t.vrfs node) (range_with_len 0 (length t.loopbacks)), length-range_with_len 0 (length t.loopbacks), few)

few_told : (t : Network) (edge : ℕ) → length t.loopbacks ≤ 256 → length (told_files t edge) ≤ 256
few_told t edge few = omega (
  arith,
  length-map (filter (λ peer. not (edge == peer)) (edges t)) (λ peer. Told edge peer),
  fewer (λ peer. not (edge == peer)) (edges t),
  few_edges t few,
)

-- at most 1,024 for the links, 2,048 for their ends, and 65,536 for the edges
pub few_files : (t : Network) → IsLawful t → length (files_of t) ≤ 100000
few_files t lawful =
    let frames : List OutputFile = map (λ l. Frames l) (links_of (wiring_of t)) in
    let said : List OutputFile = flat_map (λ l. Said l Forth ∷ Said l Back ∷ []) (links_of (wiring_of t)) in
    let told : List OutputFile = flat_map (told_files t) (edges t) in
    all (length frames) (length said) (length told) (length (edges t)) (length t.links) (length (frames ++ (said ++ told))) (length (said ++ told))
    (length-append frames (said ++ told)) (length-append said told)
    (let n = length-map (links_of (wiring_of t)) (λ l. Frames l) in omega (arith, n, length-range_with_len 0 (length t.links)))
    (let n = each (λ l. Said l Forth ∷ Said l Back ∷ []) 2 (λ l. omega arith) (links_of (wiring_of t)) in omega (
      arith,
      n,
      length-range_with_len 0 (length t.links),
    ))
    (each (told_files t) 256 (λ edge. few_told t edge lawful.few_nodes) (edges t)) (few_edges t lawful.few_nodes) lawful.few_links
  where
    all : (a b c e l x y : ℕ) → x ≡ a + y → y ≡ b + c → a ≤ l → b ≤ 2 * l → c ≤ 256 * e → e ≤ 256 → l ≤ 1024 → suc (suc (suc x)) ≤ 100000
    all a b c e l x y h g i j k m n = omega (arith, h, g, i, j, k, m, n)
