-- One number more.
use Rattle.std.proofs.Common.{ℕ, zero, suc, ◌≡◌, ◌+◌, ◌*◌, [], ◌∷◌, ◌++◌, map, arith, ap, ◌∙◌}
use Rattle.std.specs.List.{range_with_len}
use Rattle.std.proofs.lemmas.List.{map-append}

further : (n a : ℕ) → range_with_len a (suc n) ≡ range_with_len a n ++ (a + n) ∷ []
further zero a = ap (λ m. m ∷ []) (omega arith)
further (suc n) a = ap (λ ms. a ∷ ms) (further n (a + 1) ∙ ap (λ m. range_with_len (a + 1) n ++ m ∷ []) (omega arith))

pub one_more : (n : ℕ) → range_with_len 0 (n + 1) ≡ range_with_len 0 n ++ n ∷ []
one_more n = ap (range_with_len 0) next ∙ further n 0 ∙ ap (λ m. range_with_len 0 n ++ m ∷ []) (omega arith)
  where
    next : n + 1 ≡ suc n
    next = omega arith

pub one_edge_more : (n : ℕ) → map (λ k. 4 * k) (range_with_len 0 (n + 1)) ≡ map (λ k. 4 * k) (range_with_len 0 n) ++ (4 * n) ∷ []
one_edge_more n = ap (map (λ k. 4 * k)) (one_more n) ∙ map-append (λ k. 4 * k) (range_with_len 0 n) (n ∷ [])
