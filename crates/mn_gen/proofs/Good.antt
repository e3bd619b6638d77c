-- Each packet of a capture is a good one: its header's words add up to sixteen one bits.
use Rattle.std.proofs.Common.{ℕ, ◌≡◌, ◌+◌, ◌*◌, ◌<◌, ◌≤◌, true, List, [], ◌∷◌, map, length, get_or, refl, ap, ◌∙◌, arith}
use Rattle.std.specs.Prelude.{not, ◌==◌, All}
use Rattle.std.proofs.lemmas.List.Elements.{All-map}
use Rattle.std.proofs.lemmas.List.FromFn.{length-map-range_with_len, get_or-map-range_with_len}
use Rattle.mn_ipv4.specs.Checksum.{words, ones_complement_add, ones_complement_sum}
use Rattle.mn_ipv4.specs.Header.{good, is_not_ipv4, is_malformed, is_truncated, has_bad_checksum, header_bytes}
use Rattle.mn_gen.specs.Capture.{packet_to}
use Rattle.mn_gen.specs.Shape.{edges, edge_count}

no_carry : (a b : ℕ) → a + b < 65536 → ones_complement_add a b ≡ a + b
no_carry a b p = omega (arith, p)

abbrev sum_of : List ℕ → ℕ
sum_of [] = 0
sum_of (w ∷ ws) = w + sum_of ws

sum_without_carry : (ws : List ℕ) → sum_of ws < 65536 → ones_complement_sum ws ≡ sum_of ws
sum_without_carry [] p = refl
sum_without_carry (w ∷ ws) p =
    let all : w + sum_of ws < 65536 = p in
    ap (ones_complement_add w) (sum_without_carry ws (omega (arith, all))) ∙ no_carry w (sum_of ws) all

total : (edge : ℕ) → edge < 256 → ones_complement_sum (words (header_bytes (packet_to edge))) ≡ 65535
total edge p = sum_without_carry (words (header_bytes (packet_to edge))) (omega (arith, p)) ∙ omega (arith, p)

each_good : (edge : ℕ) → edge < 256 → good (packet_to edge) ≡ true
unfolding good is_not_ipv4 is_malformed is_truncated has_bad_checksum
each_good edge p = ap (λ n. not (not (n == 65535))) (total edge p)

edge_below : (number i d : ℕ) → number ≤ 99 → i < length (edges number) → get_or (edges number) i d < 256
edge_below number i d small below =
    omega (
      arith,
      small,
      below,
      length-map-range_with_len (λ k. 4 * k) 0 (edge_count number),
      get_or-map-range_with_len (λ k. 4 * k) 0 (edge_count number) i i d
          (omega (arith, below, length-map-range_with_len (λ k. 4 * k) 0 (edge_count number))) (omega arith),
    )

pub packets_are_good : (number : ℕ) → number ≤ 99 → All (λ packet. good packet ≡ true) (map packet_to (edges number))
packets_are_good number small =
    All-map (λ (packet : List ℕ). good packet ≡ true) packet_to (edges number)
    (λ i d below. each_good (get_or (edges number) i d) (edge_below number i d small below))
