-- `do` over answers: the first refusal is handed on.
use Rattle.std.specs.Prelude.{Result}
use Rattle.mn_base.specs.Rules.{after}

infixl 10 ◌>>=◌
abbrev pub ◌>>=◌ : {R A B : Type 0} → Result A R → (A → Result B R) → Result B R
answer >>= next = after answer next
