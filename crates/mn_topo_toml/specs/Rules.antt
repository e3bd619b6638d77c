-- Which rule refuses a table, and what a reader answers.
use Rattle.std.specs.Prelude.{◌≡◌, Option, Some, None, Result, Ok, Err, ⊤}
use Rattle.mn_topo_toml.specs.declared.refusal.TopoRule.{TopoRule}
use Rattle.mn_topo_toml.specs.declared.refusal.Place.{Place}
use Rattle.mn_topo_toml.specs.declared.refusal.TopoBad.{TopoBad}
use Rattle.mn_topo_toml.specs.declared.refusal.TopoBad.TheVariants.{Refused, NoMemory}
pub use Rattle.mn_base.specs.Rules.{when as broken, first_broken}

-- what the rest gives, unless the entry at the place breaks a rule
abbrev pub unless_broken : {A : Type 0} → Option TopoRule → Place → Result A (TopoRule × Place) → Result A (TopoRule × Place)
unless_broken None place rest = rest
unless_broken (Some rule) place rest = Err (rule, place)

-- what a reader answers of the value that is defined, or of the rule that refuses it and the place: it may run out of memory
abbrev pub Reads : {A : Type 0} → Result A TopoBad → Result A (TopoRule × Place) → Type 0
Reads (Ok value) defined = defined ≡ Ok value
Reads (Err (Refused rule place)) defined = defined ≡ Err (rule, place)
Reads (Err NoMemory) defined = ⊤
