-- Four items in flight on channels 0 and 2 of three, as the crate's first page draws them.
use Rattle.std.specs.Prelude.{ℕ, List, [], ◌∷◌}
use Rattle.mn_flight.specs.declared.Item.{Item}

-- an item that carries its own number
abbrev flying : ℕ → ℕ → ℕ → Item ℕ
flying channel due number = record { channel = channel; due = due; number = number; item = number }

abbrev pub seventh : Item ℕ
seventh = flying 2 10 7

abbrev pub twelfth : Item ℕ
twelfth = flying 2 10 12

abbrev pub four : List (Item ℕ)
four = flying 0 11 4 ∷ seventh ∷ flying 0 11 9 ∷ twelfth ∷ []
