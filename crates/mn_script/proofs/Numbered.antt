-- A line that is said again has the same command, with its own number.
use Rattle.std.specs.Prelude.{◌≡◌, ℕ, Option, Some, None, Result, Ok, Err}
use Rattle.mn_script.specs.declared.refusal.ScriptRule.{ScriptRule}
use Rattle.mn_script.specs.declared.command.Command.{Command}
use Rattle.mn_script.specs.declared.command.Line.{Line}
use Rattle.mn_script.specs.Rules.{◌>>=◌}
use Rattle.mn_script.specs.Script.{numbered}

pub says_again : (said : Result (Option Command) ScriptRule) (earlier number : ℕ) (line : Line) → (said >>= (λ it. Ok (numbered earlier it))) ≡ Ok (Some line) →
    (said >>= (λ it. Ok (numbered number it))) ≡ Ok (Some (record line { number = number }))
says_again (Err rule) earlier number line is = cc
says_again (Ok None) earlier number line is = cc
says_again (Ok (Some command)) earlier number line is = cc
