-- What reading a whole file tells of it.
use Rattle.std.specs.Prelude.{◌≡◌, ℕ, ◌<◌, ◌≤◌, List, Some, length, ⊤}
use Rattle.mn_edge.specs.Files.{Files, file}
use Rattle.mn_edge.specs.declared.read.Content.{Content}
use Rattle.mn_edge.specs.declared.read.Content.TheVariants.{Whole, TooLarge}

-- no more than so many bytes were taken, also from a shelf that tells no content
abbrev pub IsWithin : ℕ → Content → Type 0
IsWithin limit (Whole bytes) = length bytes.items ≤ limit
IsWithin limit TooLarge = ⊤

-- these are the file's bytes and within the limit, or the file has more
abbrev pub IsRead : Files → List ℕ → ℕ → Content → Type 0
IsRead m name limit (Whole bytes) = (file m name ≡ Some bytes.items) × (length bytes.items ≤ limit)
IsRead m name limit TooLarge = (bytes : List ℕ) × (file m name ≡ Some bytes) × (limit < length bytes)
