-- The words of a line, and how many there are: S1 of the second word, and S2.
use Rattle.std.specs.Prelude.{ℕ, Bool, true, false, not, ◌==◌, ◌&&◌, nat_lt, if◌then◌else◌, List, [], length, map, slice_index, slice_index_or, take_while}
use Rattle.std.specs.Prelude.{Result, Ok, Err}
use Rattle.std.specs.Borrow.{Bor}
use Rattle.std.specs.Str.{bytes_eq}
use Rattle.mn_text.specs.Words.{words}
use Rattle.mn_script.specs.declared.refusal.ScriptRule.{ScriptRule}
use Rattle.mn_script.specs.declared.refusal.ScriptRule.TheVariants.{UnknownWord, WrongCount}

-- the texts that are borrowed
abbrev pub texts : List (Bor (List ℕ)) → List (List ℕ)
texts borrowed = map (λ word. word.now) borrowed

-- the word begins with `#`
abbrev pub is_comment : List ℕ → Bool
is_comment word = nat_lt 0 (length word) && slice_index word 0 == 35

-- the words of a line before the first comment
abbrev pub line_words : List ℕ → List (List ℕ)
line_words line = take_while (λ word. not (is_comment word)) (words line)

-- the word at a place, from 0, or the empty text
abbrev pub word_at : List (List ℕ) → ℕ → List ℕ
word_at ws k = slice_index_or ws k []

abbrev pub is_word : List (List ℕ) → ℕ → List ℕ → Bool
is_word ws k text = bytes_eq (word_at ws k) text

-- whether the second word is the one of two or the other: it may be absent, and it may be neither
abbrev pub choice : List (List ℕ) → List ℕ → List ℕ → Result Bool ScriptRule
choice ws one other =
    if length ws == 1 then Err WrongCount
    else if is_word ws 1 one then Ok true
    else if is_word ws 1 other then Ok false
    else Err UnknownWord

-- the line has so many words
abbrev pub counted : List (List ℕ) → ℕ → Result (Unit {0}) ScriptRule
counted ws count = if length ws == count then Ok tt else Err WrongCount
