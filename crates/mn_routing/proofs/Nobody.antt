-- What is told to nobody.
use Rattle.std.proofs.Common.{◌≡◌, ℕ, suc, true, List, [], ◌∷◌, arith, length, refl, sym, subst}
use Rattle.std.specs.Prelude.{◌==◌}
use Rattle.mn_base.proofs.Bools.{same_numbers}
use Rattle.mn_base.specs.declared.numbers.NodeNo.{NodeNo}
use Rattle.mn_routing_laws.specs.Sending.{to_all}

some : (n : ℕ) → suc n ≡ 0 → ⊥
some n h = omega (arith, h)

none : {A : Type 0} (xs : List A) → (length xs == 0) ≡ true → xs ≡ []
none [] h = refl
none (x ∷ xs) h = absurd (some (length xs) (same_numbers (length (x ∷ xs)) 0 h))

pub to_nobody : (first : ℕ) (peers : List NodeNo) (messages : List (List ℕ)) → (length peers == 0) ≡ true → to_all first peers messages ≡ []
to_nobody first peers messages h = subst (λ ps. to_all first ps messages ≡ []) (sym (none peers h)) (go messages)
  where
    go : (ms : List (List ℕ)) → to_all first [] ms ≡ []
    go [] = refl
    go (m ∷ ms) = go ms
