-- Parts behind those that were read, and lines behind those that were.
use Rattle.std.proofs.Common.{◌≡◌, ◌≤◌, ◌+◌, ℕ, List, [], ◌∷◌, ◌++◌, length, ap, sym, ◌∙◌, subst, arith, length-append}
use Rattle.std.specs.Prelude.{All, Option, Some, None, Result, Ok, Err, IfSome}
use Rattle.std.proofs.lemmas.List.Elements.{All-append, All-nil, All-cons}
use Rattle.mn_script.specs.declared.refusal.ScriptRule.{ScriptRule}
use Rattle.mn_script.specs.Words.{line_words}
use Rattle.mn_script.specs.Reading.{Says, line_of, begun_by, number_after, gathered}
use Rattle.mn_script.specs.Reading as script
use Rattle.mn_script.proofs.Gathering.{before_both}
use Rattle.mn_failures.specs.declared.command.Part.{Part}

-- parts before others, unless one of those is refused
abbrev pub before : List Part → Result (List Part) ScriptRule → Result (List Part) ScriptRule
before front (Ok parts) = Ok (front ++ parts)
before front (Err rule) = Err rule

-- what a line says stands behind the lines before it
pub line_joins : {L : Type 0} (says : Says L) (front new : List L) (said : Option L) (number : ℕ) (text : List ℕ) (more texts : List (List ℕ))
    (whole : Result (List L) (ScriptRule × ℕ)) → texts ≡ text ∷ more → new ≡ front ++ line_of said → Ok said ≡ says number (line_words text) →
    script.before front (gathered says number texts) ≡ whole → script.before new (gathered says (number_after number) more) ≡ whole
line_joins says front new said number text more texts whole split pushed line all =
    ap (λ s. script.before s (gathered says (number_after number) more)) pushed
    ∙ before_both front (line_of said) (gathered says (number_after number) more)
    ∙ ap (λ r. script.before front (begun_by number r (gathered says (number_after number) more))) line
    ∙ ap (λ ts. script.before front (gathered says number ts)) (sym split)
    ∙ all

-- what holds of lines, and of what one more asks for, holds of all
pub holds_more : {L : Type 0} (P : L → Type 0) (front new : List L) (said : Option L) → new ≡ front ++ line_of said → All P front → IfSome said P → All P new
holds_more P front new None is all one = subst (All P) (sym is) (All-append P front [] all (All-nil P))
holds_more P front new (Some line) is all one = subst (All P) (sym is) (All-append P front (line ∷ []) all (All-cons P line [] one (All-nil P)))

-- a line asks for one thing at most
pub few_more : {L : Type 0} (front : List L) (said : Option L) → length (front ++ line_of said) ≤ length front + 1
few_more front None = omega (arith, length-append front [])
few_more front (Some line) = omega (arith, length-append front (line ∷ []))
