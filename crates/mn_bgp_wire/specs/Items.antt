-- Things that stand one after another in bytes, each read from the front, to the end of the bytes.
use Rattle.std.specs.Prelude.{ℕ, zero, suc, ◌==◌, List, [], ◌∷◌, length, Option, Some, None, if◌then◌else◌}
pub use Rattle.mn_base.specs.Found.{◌>>=◌}

-- at most so many; none where what is left doesn't begin with one
unfoldable pub items_from : {A : Type 0} → (List ℕ → Option (A × List ℕ)) → ℕ → List ℕ → Option (List A)
items_from first zero bytes = if length bytes == 0 then Some [] else None
items_from first (suc most) bytes =
    if length bytes == 0 then Some [] else (first bytes >>= λ found. items_from first most found.1 >>= λ more. Some (found.0 ∷ more))

-- Each has at least a byte, so there are no more of them than bytes.
abbrev pub items_of : {A : Type 0} → (List ℕ → Option (A × List ℕ)) → List ℕ → Option (List A)
items_of first bytes = items_from first (length bytes) bytes
