-- A table has a value for each number, or for each pair of numbers.
use Rattle.std.specs.Prelude.{ℕ, ◌==◌, cond}

-- the same value everywhere
abbrev pub everywhere : {A : Type 0} → A → ℕ → A
everywhere value key = value

-- the table with another value at one number
abbrev pub put : {A : Type 0} → (ℕ → A) → ℕ → A → ℕ → A
put table key value other = cond (other == key) value (table other)

-- the table with another value at one pair
abbrev pub put_pair : {A : Type 0} → (ℕ → ℕ → A) → ℕ → ℕ → A → ℕ → ℕ → A
put_pair table one two value = put table one (put (table one) two value)
