-- A line behind those that were read.
use Rattle.std.proofs.Common.{◌≡◌, ℕ, List, ◌∷◌, ◌++◌, ap, sym, ◌∙◌}
use Rattle.std.specs.Prelude.{Option, Result, Ok, Err}
use Rattle.mn_script.specs.declared.refusal.ScriptRule.{ScriptRule}
use Rattle.mn_script.specs.declared.refusal.ScriptBad.{ScriptBad}
use Rattle.mn_script.specs.declared.refusal.ScriptBad.TheVariants.{Refused, NoMemory}
use Rattle.mn_script.specs.Rules.{Reads}
use Rattle.mn_script.specs.Words.{line_words}
use Rattle.mn_script.specs.Reading.{Says, line_of, before, begun_by, number_after, gathered}
use Rattle.mn_script.proofs.Gathering.{before_both}
use Rattle.mn_join_script.specs.Language.{ReadsLine}

-- what a line says stands behind the lines before it
pub line_joins : {L : Type 0} (says : Says L) (script new : List L) (said : Option L) (number : ℕ) (text : List ℕ) (more texts : List (List ℕ))
    (whole : Result (List L) (ScriptRule × ℕ)) → texts ≡ text ∷ more → new ≡ script ++ line_of said → says number (line_words text) ≡ Ok said →
    before script (gathered says number texts) ≡ whole → before new (gathered says (number_after number) more) ≡ whole
line_joins says script new said number text more texts whole split pushed line all =
    ap (λ s. before s (gathered says (number_after number) more)) pushed
    ∙ before_both script (line_of said) (gathered says (number_after number) more)
    ∙ ap (λ r. before script (begun_by number r (gathered says (number_after number) more))) (sym line)
    ∙ ap (λ ts. before script (gathered says number ts)) (sym split)
    ∙ all

-- a refused line ends the script
pub line_ends : {L : Type 0} (says : Says L) (script : List L) (bad : ScriptBad) (number : ℕ) (text : List ℕ) (more texts : List (List ℕ))
    (whole : Result (List L) (ScriptRule × ℕ)) → texts ≡ text ∷ more → ReadsLine number (Err bad) (says number (line_words text)) →
    before script (gathered says number texts) ≡ whole → Reads {A = L} (Err bad) whole
line_ends says script (Refused rule line) number text more texts whole split (refused, is) all =
    sym all
    ∙ ap (λ ts. before script (gathered says number ts)) split
    ∙ ap (λ r. before script (begun_by number r (gathered says (number_after number) more))) refused
    ∙ ap (λ n. Err (rule, n)) (sym is)
line_ends says script NoMemory number text more texts whole split reads all = tt
