-- Texts that are put one behind the other.
use Rattle.std.proofs.Common.{◌≡◌, ℕ, List, ◌++◌, ap, ◌∙◌, append_assoc}

pub chain_two : (old a b x y : List ℕ) → x ≡ old ++ a → y ≡ x ++ b → y ≡ old ++ (a ++ b)
chain_two old a b x y first second = second ∙ ap (λ z. z ++ b) first ∙ append_assoc old a b

pub chain_three : (old a b d x y z : List ℕ) → x ≡ old ++ a → y ≡ x ++ b → z ≡ y ++ d → z ≡ old ++ (a ++ (b ++ d))
chain_three old a b d x y z first second third =
    chain_two old (a ++ b) d y z (chain_two old a b x y first second) third ∙ ap (λ t. old ++ t) (append_assoc a b d)
