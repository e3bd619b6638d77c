-- The lines of a file, in some language of lines: what each line asks for, and the first that is refused.
use Rattle.std.specs.Prelude.{◌≡◌, ◌<◌, ℕ, ◌+◌, min, List, [], ◌∷◌, ◌++◌, length, slice_get, Option, Some, None, IfSome, Result, Ok, Err}
use Rattle.std.specs.Borrow.{Bor}
use Rattle.std.specs.Str.Lines.{lines}
use Rattle.mn_script.specs.declared.refusal.ScriptRule.{ScriptRule}
use Rattle.mn_script.specs.Words.{line_words}

-- what a line says, by its number and its words: what it asks for, nothing, or the rule that refuses it
abbrev pub Says : Type 0 → Type 0
Says L = ℕ → List (List ℕ) → Result (Option L) ScriptRule

-- the number of the line after the one of this number; numbers stand still at the greatest of 32 bits
abbrev pub number_after : ℕ → ℕ
number_after number = min (number + 1) 4294967295

-- what is said, none where nothing is
abbrev pub line_of : {L : Type 0} → Option L → List L
line_of None = []
line_of (Some line) = line ∷ []

-- lines before the others, unless one of those is refused
abbrev pub before : {L : Type 0} → List L → Result (List L) (ScriptRule × ℕ) → Result (List L) (ScriptRule × ℕ)
before front (Ok script) = Ok (front ++ script)
before front (Err refused) = Err refused

-- what the line of this number says before the others, unless a rule refuses it
abbrev pub begun_by : {L : Type 0} → ℕ → Result (Option L) ScriptRule → Result (List L) (ScriptRule × ℕ) → Result (List L) (ScriptRule × ℕ)
begun_by number (Ok said) rest = before (line_of said) rest
begun_by number (Err rule) rest = Err (rule, number)

-- what the lines ask for, from the one of this number on, or the first rule with its line
abbrev pub gathered : {L : Type 0} → Says L → ℕ → List (List ℕ) → Result (List L) (ScriptRule × ℕ)
gathered says number [] = Ok []
gathered says number (text ∷ more) = begun_by number (says number (line_words text)) (gathered says (number_after number) more)

-- the lines of a file, of which the first has this number
abbrev pub lines_of : {L : Type 0} → Says L → ℕ → List ℕ → Result (List L) (ScriptRule × ℕ)
lines_of says first bytes = gathered says first (lines bytes)

-- words that say a line at any number say another one at this number
abbrev pub SaysAgain : {L : Type 0} → Says L → L → ℕ → L → Type 0
SaysAgain says line number again = (earlier : ℕ) (words : List (List ℕ)) → says earlier words ≡ Ok (Some line) → says number words ≡ Ok (Some again)

-- a text says the line at a place of some lines, at some number
abbrev pub IsSaidAt : {L : Type 0} → Says L → List L → List ℕ → ℕ → Type 0
IsSaidAt says script text place = (place < length script)
    × ((line : _) → slice_get script place ≡ Some line → (number : ℕ) × (says number (line_words text) ≡ Ok (Some line)))

-- what is remembered, if anything is, is a text that says the line at its place
abbrev pub IsKnown : {L : Type 0} → Says L → List L → Option (Bor (List ℕ) × ℕ) → Type 0
IsKnown says script known = IfSome known (λ it. IsSaidAt says script it.0.now it.1)
