-- Bytes from a place on, and up to a place.
use Rattle.std.proofs.Common.{◌<◌, ℕ, zero, suc, List, [], ◌∷◌, take, drop, get_or, arith}
use Rattle.mn_base.specs.Bytes.{IsBytes}

pub IsBytes-drop : (n : ℕ) (bytes : List ℕ) → IsBytes bytes → IsBytes (drop n bytes)
IsBytes-drop zero bytes h = h
IsBytes-drop (suc n) [] h = h
IsBytes-drop (suc n) (b ∷ bytes) h = IsBytes-drop n bytes (record { below = λ i. h.below (suc i) })

below-take : (n : ℕ) (bytes : List ℕ) → ((i : ℕ) → get_or bytes i 0 < 256) → (i : ℕ) → get_or (take n bytes) i 0 < 256
below-take zero bytes h i = omega arith
below-take (suc n) [] h i = h i
below-take (suc n) (b ∷ bytes) h zero = h 0
below-take (suc n) (b ∷ bytes) h (suc i) = below-take n bytes (λ k. h (suc k)) i

pub IsBytes-take : (n : ℕ) (bytes : List ℕ) → IsBytes bytes → IsBytes (take n bytes)
IsBytes-take n bytes h = record { below = below-take n bytes (λ i. h.below i) }
