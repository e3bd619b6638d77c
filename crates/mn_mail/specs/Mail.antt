-- Messages between any two of so many nodes, in the order of sending.
use Rattle.std.specs.Prelude.{ℕ, ◌==◌, ◌&&◌, ◌+◌, Bool, true, not, cond, List, [], ◌∷◌, ◌++◌, filter, Option, Some, None}

pub record Letter : Type 0 where
  pub from : ℕ
  pub to : ℕ
  pub bytes : List ℕ

-- between so many nodes: what flies, and how many letters were sent so far
pub record Mail : Type 0 where
  pub nodes : ℕ
  pub letters : List Letter
  pub sent : ℕ

abbrev pub is_from_to : ℕ → ℕ → Letter → Bool
is_from_to from to letter = (letter.from == from) && (letter.to == to)

abbrev pub is_between : ℕ → ℕ → Letter → Bool
is_between a b letter = cond (is_from_to a b letter) true (is_from_to b a letter)

-- what was sent first of what flies from the one node to the other
abbrev pub first_from_to : ℕ → ℕ → List Letter → Option Letter
first_from_to from to [] = None
first_from_to from to (letter ∷ letters) = cond (is_from_to from to letter) (Some letter) (first_from_to from to letters)

abbrev pub without_first : ℕ → ℕ → List Letter → List Letter
without_first from to [] = []
without_first from to (letter ∷ letters) = cond (is_from_to from to letter) letters (letter ∷ without_first from to letters)

-- one is sent besides
abbrev pub with_letter : Letter → Mail → Mail
with_letter letter mail = record mail { letters = mail.letters ++ letter ∷ []; sent = mail.sent + 1 }

abbrev pub with_letters : List Letter → Mail → Mail
with_letters letters mail = record mail { letters = letters }

-- nothing flies between these two
abbrev pub cut : ℕ → ℕ → Mail → Mail
cut a b mail = with_letters (filter (λ letter. not (is_between a b letter)) mail.letters) mail
