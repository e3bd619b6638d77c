-- Which rule refuses a line, and what a reader answers.
use Rattle.std.specs.Prelude.{◌≡◌, ℕ, List, Option, Some, None, Result, Ok, Err, Vec, ⊤}
use Rattle.std.specs.declared.alloc.Global.{Global}
use Rattle.mn_script.specs.declared.refusal.ScriptRule.{ScriptRule}
use Rattle.mn_script.specs.declared.refusal.ScriptBad.{ScriptBad}
use Rattle.mn_script.specs.declared.refusal.ScriptBad.TheVariants.{Refused, NoMemory}
pub use Rattle.mn_base.specs.Refusals.{◌>>=◌}

-- what is there, or else the rule
abbrev pub or_rule : {A : Type 0} → ScriptRule → Option A → Result A ScriptRule
or_rule rule None = Err rule
or_rule rule (Some x) = Ok x

-- what a reader answers of the list that is defined, or of the rule that refuses it and the line: it may run out of memory
abbrev pub Reads : {A : Type 0} → Result (Vec A Global) ScriptBad → Result (List A) (ScriptRule × ℕ) → Type 0
Reads (Ok read) defined = defined ≡ Ok read.items
Reads (Err (Refused rule line)) defined = defined ≡ Err (rule, line)
Reads (Err NoMemory) defined = ⊤
