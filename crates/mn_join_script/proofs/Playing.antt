-- A line other than `run` and `show` is one that two networks play.
use Rattle.std.proofs.Common.{◌≡◌, ℕ, Bool, true, false, ◌==◌, if◌then◌else◌, List, length, refl}
use Rattle.std.specs.Prelude.{Some, None, Result, Ok, Err, IfOk, IfSome, codes}
use Rattle.mn_topo.specs.Network.{Network}
use Rattle.mn_script.specs.declared.refusal.ScriptRule.{ScriptRule}
use Rattle.mn_script.specs.declared.command.Command.{Command}
use Rattle.mn_script.specs.declared.command.Command.TheVariants.{Drain}
use Rattle.mn_script.specs.Rules.{◌>>=◌}
use Rattle.mn_script.specs.Words.{is_word, counted, word_at}
use Rattle.mn_script.specs.Operands.{number_in}
use Rattle.mn_script.specs.Steps.{step_line}
use Rattle.mn_script.specs.Damages.{damage_line}
use Rattle.mn_script.specs.Lines.{run_line, bounded_drain, drain_line, flush_line, table_line, do_line, damaged_line, command_line, line_says}
use Rattle.mn_join_script.specs.Language.{is_played}

abbrev IsPlayed : Command → Type 0
IsPlayed command = is_played command ≡ true

-- what follows an answer, where it holds of each
then_so : {A : Type 0} (answer : Result A ScriptRule) (next : A → Result Command ScriptRule) → ((x : A) → IfOk (next x) IsPlayed) →
    IfOk (answer >>= next) IsPlayed
then_so (Ok x) next h = h x
then_so (Err rule) next h = tt

bounded : (ws : List (List ℕ)) → IfOk (bounded_drain ws) IsPlayed
unfolding bounded_drain
bounded ws = then_so (counted ws 2) _ (λ full. then_so (number_in (word_at ws 1) 0 4000000) _ (λ steps. refl))

drains : (ws : List (List ℕ)) → IfOk (drain_line ws) IsPlayed
unfolding drain_line
drains ws = by (length ws == 1) where
  by : (b : Bool) → IfOk (if b then Ok (Drain None) else bounded_drain ws) IsPlayed
  by true = refl
  by false = bounded ws

flushes : (ws : List (List ℕ)) → IfOk (flush_line ws) IsPlayed
unfolding flush_line
flushes ws = then_so (counted ws 1) _ (λ full. refl)

damages : (network : Network) (ws : List (List ℕ)) → IfOk (damaged_line network ws) IsPlayed
unfolding damaged_line
damages network ws = then_so (damage_line network ws) _ (λ damage. refl)

does : (network : Network) (ws : List (List ℕ)) → IfOk (do_line network ws) IsPlayed
unfolding do_line
does network ws = then_so (step_line network ws) _ (λ step. refl)

commands : (network : Network) (ws : List (List ℕ)) → is_word ws 0 (codes "run") ≡ false → is_word ws 0 (codes "show") ≡ false →
    IfOk (command_line network ws) IsPlayed
unfolding command_line
commands network ws = by (is_word ws 0 (codes "run")) (is_word ws 0 (codes "drain")) (is_word ws 0 (codes "flush")) (is_word ws 0 (codes "show"))
    (is_word ws 0 (codes "damage")) where
      by : (r d f s m : Bool) → r ≡ false → s ≡ false →
          IfOk (if r then run_line ws else if d then drain_line ws else if f then flush_line ws else if s then table_line network ws else if m then damaged_line
          network ws else do_line network ws) IsPlayed
      by true d f s m run show = absurd (let e : true ≡ false = run in cc)
      by false true f s m run show = drains ws
      by false false true s m run show = flushes ws
      by false false false true m run show = absurd (let e : true ≡ false = show in cc)
      by false false false false true run show = damages network ws
      by false false false false false run show = does network ws

found : (answer : Result Command ScriptRule) → IfOk answer IsPlayed → IfOk (answer >>= (λ command. Ok (Some command))) (λ said. IfSome said IsPlayed)
found (Ok command) h = h
found (Err rule) h = tt

pub says_what_is_played : (network : Network) (ws : List (List ℕ)) → is_word ws 0 (codes "run") ≡ false → is_word ws 0 (codes "show") ≡ false →
    IfOk (line_says network ws) (λ said. IfSome said (λ command. is_played command ≡ true))
unfolding line_says
says_what_is_played network ws run show = by (length ws == 0) where
  by : (b : Bool) → IfOk (if b then Ok None else command_line network ws >>= (λ command. Ok (Some command))) (λ said. IfSome said IsPlayed)
  by true = tt
  by false = found (command_line network ws) (commands network ws run show)
