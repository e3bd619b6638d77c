-- No least cost is great: no least walk has as many links as there are nodes.
use Rattle.std.proofs.Common.{ℕ, zero, suc, ◌+◌, ◌*◌, ◌≤◌, Bool, true, false, cond, List, [], ◌∷◌, length, map, arith, Option, None, Some}
use Rattle.std.specs.Prelude.{◌==◌, nat_lt, ⊤}
use Rattle.mn_wiring.specs.Wiring.{Wiring, View, is_up, link, across, links_at, nodes_of}
use Rattle.mn_wiring.specs.Paths.{dist_in, dists_to, rounds, here, lesser, plus, least_over}

abbrev pub AtMost : Option ℕ → ℕ → Type 0
AtMost None most = ⊤
AtMost (Some cost) most = cost ≤ most

lesser-most : (a b : Option ℕ) (most : ℕ) → AtMost a most → AtMost b most → AtMost (lesser a b) most
lesser-most None b most h g = g
lesser-most (Some a) None most h g = h
lesser-most (Some a) (Some b) most h g = by (nat_lt b a)
  where
    by : (k : Bool) → cond k b a ≤ most
    by true = g
    by false = h

weaker : (a : Option ℕ) (most more : ℕ) → most ≤ more → AtMost a most → AtMost a more
weaker None most more h g = tt
weaker (Some a) most more h g = omega (arith, h, g)

plus-most : (cost : ℕ) (a : Option ℕ) (most : ℕ) → cost ≤ 65535 → AtMost a most → AtMost (plus cost a) (most + 65535)
plus-most cost None most h g = tt
plus-most cost (Some a) most h g = omega (arith, h, g)

in-map : (f : ℕ → Option ℕ) (most : ℕ) → ((x : ℕ) → AtMost (f x) most) → (xs : List ℕ) (n : ℕ) → AtMost (dist_in (map f xs) n) most
in-map f most h [] n = tt
in-map f most h (x ∷ xs) zero = h x
in-map f most h (x ∷ xs) (suc n) = in-map f most h xs n

module _ (w : Wiring) (v : View) (to : ℕ) (small : (l : ℕ) → (link w l).cost ≤ 65535) where
  over-most : (ds : List (Option ℕ)) (n : ℕ) (most : ℕ) → ((x : ℕ) → AtMost (dist_in ds x) most) → (ls : List ℕ) →
      AtMost (least_over w v ds n ls) (most + 65535)
  over-most ds n most h [] = tt
  over-most ds n most h (l ∷ ls) =
      lesser-most (elim (is_up v l) [ true ↦ plus (link w l).cost (dist_in ds (across w l n)) | false ↦ None ]) (least_over w v ds n ls) (most + 65535)
      (by (is_up v l)) (over-most ds n most h ls)
    where
      by : (k : Bool) → AtMost (elim k [ true ↦ plus (link w l).cost (dist_in ds (across w l n)) | false ↦ None ]) (most + 65535)
      by true = plus-most (link w l).cost (dist_in ds (across w l n)) most (small l) (h (across w l n))
      by false = tt

  here-most : (n most : ℕ) → AtMost (here to n) most
  here-most n most = by (n == to)
    where
      by : (k : Bool) → AtMost (cond k (Some 0) None) most
      by true = none
        where
          none : 0 ≤ most
          none = omega arith
      by false = tt

  rounds-most : (k n : ℕ) → AtMost (dist_in (rounds k w v to) n) (65535 * k)
  rounds-most zero n = in-map (here to) (65535 * 0) (λ x. here-most x (65535 * 0)) (nodes_of w) n
  rounds-most (suc k) n =
      in-map (λ node. lesser (here to node) (least_over w v (rounds k w v to) node (links_at w node))) (65535 * suc k)
      (λ x. lesser-most (here to x) (least_over w v (rounds k w v to) x (links_at w x)) (65535 * suc k) (here-most x (65535 * suc k))
      (weaker (least_over w v (rounds k w v to) x (links_at w x)) (65535 * k + 65535) (65535 * suc k) (one_more k)
      (over-most (rounds k w v to) x (65535 * k) (rounds-most k) (links_at w x))))
      (nodes_of w) n
    where
      one_more : (k : ℕ) → 65535 * k + 65535 ≤ 65535 * suc k
      one_more k = omega arith

  pub dist-most : (n : ℕ) → AtMost (dist_in (dists_to w v to) n) (65535 * length w.loopbacks)
  dist-most n = rounds-most (length w.loopbacks) n
