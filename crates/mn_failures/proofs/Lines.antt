-- What the pieces of a text say, as a line.
use Rattle.std.proofs.Common.{◌≡◌, ◌<◌, ◌≤◌, ◌==◌, ℕ, Bool, true, false, List, [], ◌∷◌, map, length, take, refl, ap, sym, ◌∙◌, arith}
use Rattle.std.specs.Prelude.{◌&&◌, ◌||◌, not, nat_le, nat_lt, is_some, if◌then◌else◌, Option, Some, None, Result, Ok, Err}
use Rattle.std.specs.Borrow.{Bor}
use Rattle.std.specs.List.{slice_split, list_all}
use Rattle.std.proofs.lemmas.List.Splits.{length-slice_split}
use Rattle.std.proofs.lemmas.Bool.{le-leb}
use Rattle.std.proofs.lemmas.Bool.Decides.{nat_tests}
use Rattle.mn_text.specs.Words.{words}
use Rattle.mn_topo.specs.Network.{Network}
use Rattle.mn_script.specs.declared.refusal.ScriptRule.{ScriptRule}
use Rattle.mn_script.specs.Rules.{◌>>=◌}
use Rattle.mn_script.specs.Words.{line_words}
use Rattle.mn_failures.specs.declared.command.Part.{Part}
use Rattle.mn_failures.specs.declared.command.FailureCommand.{FailureCommand}
use Rattle.mn_failures.specs.declared.command.FailureCommand.TheVariants as command
use Rattle.mn_failures.specs.Cutting.{is_comma, pieces, pieces_after, parts_of}
use Rattle.mn_failures.specs.Language.{part_says, parts_say, is_twice, are_refused, fail_says, is_lone, lone_line, command_says, numbered, failure_says}
use Rattle.mn_failures.specs.Meaning.{part_fits, command_fits}
use Rattle.mn_failures.proofs.Front.{lone_says_by_eight, is_lone_by_eight}
use Rattle.mn_failures.proofs.Pieces.{pieces_are_parts}

-- 1. Parts that are told are one at least

one_told : (first : Result Part ScriptRule) (more : Result (List Part) ScriptRule) (parts : List Part) →
    Ok parts ≡ (first >>= (λ part. more >>= (λ others. Ok (part ∷ others)))) → 1 ≤ length parts
one_told (Err rule) more parts is = cc
one_told (Ok part) (Err rule) parts is = cc
one_told (Ok part) (Ok others) parts is =
    let all : parts ≡ part ∷ others = cc in
    omega (arith, ap length all)

told : (network : Network) (texts : List (List ℕ)) (parts : List Part) → 0 < length texts → Ok parts ≡ parts_say network (map words texts) → 1 ≤ length parts
told network [] parts some is = absurd (omega (arith, some))
told network (text ∷ texts) parts some is = one_told (part_says network (words text)) (parts_say network (map words texts)) parts is

some_pieces : (text : List ℕ) → 0 < length (slice_split is_comma text)
some_pieces text = omega (arith, length-slice_split is_comma text)

few_and_once : (parts : List Part) → are_refused parts ≡ false → (length parts ≤ 1024) × (is_twice parts ≡ false)
few_and_once parts not = both (nat_lt 1024 (length parts)) (is_twice parts) refl refl not where
  both : (many twice : Bool) → nat_lt 1024 (length parts) ≡ many → is_twice parts ≡ twice → (many || twice) ≡ false →
      (length parts ≤ 1024) × (is_twice parts ≡ false)
  both true twice many is off = cc
  both false true many is off = cc
  both false false many is off = (grind (arith, nat_tests, many), is)

-- parts that aren't refused fit where each does
pub parts_fit : (network : Network) (text : List ℕ) (parts : List Part) → Ok parts ≡ parts_say network (pieces text) →
    list_all (part_fits network) parts ≡ true →
    are_refused parts ≡ false → command_fits network (command.Fail parts) ≡ true
parts_fit network text parts is each taken =
    let some : 1 ≤ length parts = told network (slice_split is_comma text) parts (some_pieces text) is in
    let found = few_and_once parts taken in
    let first = le-leb 1 (length parts) some in
    let second = le-leb (length parts) 1024 found.0 in
    let third = found.1 in
    ap (λ b. b && ((nat_le 1 (length parts) && nat_le (length parts) 1024) && not (is_twice parts))) each
    ∙ ap (λ b. (b && nat_le (length parts) 1024) && not (is_twice parts)) first
    ∙ ap (λ b. b && not (is_twice parts)) second
    ∙ ap not third

-- 2. A line with a comma, and one without

-- of one piece a line may be no failure of its own
alone : (network : Network) (text piece : List ℕ) → slice_split is_comma text ≡ piece ∷ [] →
    command_says network (pieces text) ≡ (if is_lone (words piece) then lone_line (words piece) else fail_says network (words piece ∷ []))
alone network text piece split = ap (λ texts. command_says network (map words texts)) split

pub lone_says : (network : Network) (text piece : List ℕ) (next : Option (Bor (List ℕ))) (first : List (List ℕ)) →
    slice_split is_comma text ≡ piece ∷ pieces_after next → is_some next ≡ false → first ≡ take 8 (words piece) → is_lone first ≡ true →
    lone_line first ≡ command_says network (pieces text)
lone_says network text piece (Some rest) first split none is lone = cc
lone_says network text piece None first split none is lone =
    lone_says_by_eight first (words piece) is
    ∙ ap (λ b. if b then lone_line (words piece) else fail_says network (words piece ∷ [])) (sym lone ∙ is_lone_by_eight first (words piece) is)
    ∙ sym (alone network text piece split)

-- of one piece that isn't such a line it is a failure
pub no_lone_says : (network : Network) (text piece : List ℕ) (next : Option (Bor (List ℕ))) (first : List (List ℕ)) →
    slice_split is_comma text ≡ piece ∷ pieces_after next → is_some next ≡ false → first ≡ take 8 (words piece) → is_lone first ≡ false →
    fail_says network (pieces text) ≡ command_says network (pieces text)
no_lone_says network text piece (Some rest) first split none is lone = cc
no_lone_says network text piece None first split none is lone =
    ap (λ texts. fail_says network (map words texts)) split
    ∙ ap (λ b. if b then lone_line (words piece) else fail_says network (words piece ∷ [])) (sym lone ∙ is_lone_by_eight first (words piece) is)
    ∙ sym (alone network text piece split)

several : (network : Network) (piece : List ℕ) (texts : List (List ℕ)) → 0 < length texts →
    fail_says network (map words (piece ∷ texts)) ≡ command_says network (map words (piece ∷ texts))
several network piece [] some = absurd (omega (arith, some))
several network piece (text ∷ texts) some = refl

-- and so of several
pub several_say : (network : Network) (text piece : List ℕ) (next : Option (Bor (List ℕ))) → slice_split is_comma text ≡ piece ∷ pieces_after next →
    is_some next ≡ true → fail_says network (pieces text) ≡ command_says network (pieces text)
several_say network text piece None split some = cc
several_say network text piece (Some rest) split some =
    ap (λ texts. fail_says network (map words texts)) split
    ∙ several network piece (slice_split is_comma rest.now) (some_pieces rest.now)
    ∙ ap (λ texts. command_says network (map words texts)) (sym split)

-- 3. A line of some words

some_words : (word : List ℕ) (ws : List (List ℕ)) → (length (word ∷ ws) == 0) ≡ false
some_words word ws = grind arith

-- the command of a text is that of its line, with its number
pub line_is : (network : Network) (number : ℕ) (text line word : List ℕ) (ws : List (List ℕ)) (found : Result FailureCommand ScriptRule) →
    words text ≡ line_words line → words text ≡ word ∷ ws → found ≡ command_says network (pieces text) →
    (found >>= (λ it. Ok (numbered number it))) ≡ failure_says network number (line_words line)
line_is network number text line word ws found same some is =
    ap (λ it. it >>= (λ command. Ok (numbered number command))) (is ∙ ap (command_says network) (pieces_are_parts text))
    ∙ ap (λ b. if b then Ok None else command_says network (parts_of (words text)) >>= (λ command. Ok (numbered number command)))
    (sym (ap (λ all. length all == 0) some ∙ some_words word ws))
    ∙ ap (failure_says network number) same
