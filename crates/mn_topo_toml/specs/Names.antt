-- The names that entries refer to.
use Rattle.std.specs.Prelude.{ℕ, List, Option, option_and_then, unwrap_or}
use Rattle.toml.specs.Data.{Members}
use Rattle.mn_topo.specs.Names.{number_of}
use Rattle.mn_topo_toml.specs.Tables.{text_at}

-- the number of the name at the key
abbrev pub named_at : List (List ℕ) → List ℕ → Members → Option ℕ
named_at names key entry = option_and_then (number_of names) (text_at key entry)

abbrev pub number_named : List (List ℕ) → List ℕ → Members → ℕ
number_named names key entry = unwrap_or (named_at names key entry) 0
