-- Lines after those that are there.
use Rattle.std.proofs.Common.{◌≡◌, ◌≤◌, ◌<◌, ◌+◌, ℕ, zero, suc, true, List, [], ◌∷◌, ◌++◌, length, refl, ap, sym, ◌∙◌, subst, set, append_assoc, arith}
use Rattle.std.proofs.Common.{length-append}
use Rattle.std.specs.Prelude.{All, Option, Some, None, Result, Ok, Err, IfSome, is_some, slice_get}
use Rattle.std.specs.Borrow.{Bor}
use Rattle.std.proofs.lemmas.Option.{same_Some}
use Rattle.std.proofs.lemmas.List.Elements.{All-append, All-nil, All-cons, All-weaker, All-set}
use Rattle.mn_script.specs.declared.refusal.ScriptRule.{ScriptRule}
use Rattle.mn_script.specs.Words.{line_words}
use Rattle.mn_script.specs.Reading.{Says, SaysAgain, IsSaidAt, IsKnown, before, line_of}

-- lines before others, and those before the rest
pub before_both : {L : Type 0} (front more : List L) (rest : Result (List L) (ScriptRule × ℕ)) → before (front ++ more) rest ≡ before front (before more rest)
before_both front more (Ok script) = ap Ok (append_assoc front more script)
before_both front more (Err refused) = refl

-- a line of which something holds after others of which it does
pub holds_more : {L : Type 0} (P : L → Type 0) (script new : List L) (said : Option L) → new ≡ script ++ line_of said → All P script → IfSome said P →
    All P new
holds_more P script new None is all one = subst (All P) (sym is) (All-append P script [] all (All-nil P))
holds_more P script new (Some line) is all one = subst (All P) (sym is) (All-append P script (line ∷ []) all (All-cons P line [] one (All-nil P)))

-- a line asks for one thing at most
pub few_more : {L : Type 0} (script : List L) (said : Option L) → length (script ++ line_of said) ≤ length script + 1
few_more script None = omega (arith, length-append script [])
few_more script (Some line) = omega (arith, length-append script (line ∷ []))

pushed_last : {L : Type 0} (script : List L) (line : L) → slice_get (script ++ line ∷ []) (length script) ≡ Some line
pushed_last [] line = refl
pushed_last (known ∷ script) line = pushed_last script line

-- what stood at a place stands there with more lines behind
stands : {L : Type 0} (script more : List L) (place : ℕ) → place < length script → slice_get (script ++ more) place ≡ slice_get script place
stands [] more place below = absurd (omega (arith, below))
stands (known ∷ script) more zero below = refl
stands (known ∷ script) more (suc place) below = stands script more place (omega (arith, below))

-- what is remembered stays so with more lines behind
pub known_stays : {L : Type 0} (says : Says L) (script more : List L) (known : Option (Bor (List ℕ) × ℕ)) →
    IsKnown says script known → IsKnown says (script ++ more) known
known_stays says script more None is = tt
known_stays says script more (Some it) is =
    (omega (arith, is.0, length-append script more), λ line got. is.1 line (sym (stands script more it.1 is.0) ∙ got))

-- a line that was said is remembered with its place
pub known_said : {L : Type 0} (says : Says L) (script new : List L) (said : Option L) (number : ℕ) (text : Bor (List ℕ)) → new ≡ script ++ line_of said →
    Ok said ≡ says number (line_words text.now) → is_some said ≡ true → IsKnown says new (Some (text, length script))
known_said says script new None number text is value some = cc
known_said says script new (Some line) number text is value some =
    let there : slice_get new (length script) ≡ Some line = ap (λ l. slice_get l (length script)) is ∙ pushed_last script line in (
      omega (arith, ap length is, length-append script (line ∷ [])),
      λ last got. (number, sym value ∙ ap (λ l. Ok (Some l)) (same_Some line last (sym there ∙ got))),
    )

-- what is remembered of some lines stays so with what is said behind them
pub all_stay : {L : Type 0} (says : Says L) (script new : List L) (said : Option L) (known : List (Option (Bor (List ℕ) × ℕ))) → new ≡ script ++ line_of said →
    All (IsKnown says script) known → All (IsKnown says new) known
all_stay says script new said known is all =
    All-weaker (IsKnown says script) (IsKnown says new) (λ it h. subst (λ l. IsKnown says l it) (sym is) (known_stays says script (line_of said) it h)) known
    all

-- and so does a line that was said, in any slot
pub all_said : {L : Type 0} (says : Says L) (script new : List L) (said : Option L) (known : List (Option (Bor (List ℕ) × ℕ))) (slot number : ℕ)
    (text : Bor (List ℕ)) →
    new ≡ script ++ line_of said → Ok said ≡ says number (line_words text.now) → is_some said ≡ true → All (IsKnown says script) known →
    All (IsKnown says new) (set known slot (Some (text, length script)))
all_said says script new said known slot number text is value some all =
    All-set (IsKnown says new) known slot (Some (text, length script)) (known_said says script new said number text is value some)
    (all_stay says script new said known is all)

-- the remembered text says again what it said
pub said_again : {L : Type 0} (says : Says L) (script : List L) (text line : List ℕ) (place number : ℕ) (stored : L) (again : Option L) →
    IsSaidAt says script text place → slice_get script place ≡ Some stored → line ≡ text → IfSome again (λ it. SaysAgain says stored number it) →
    IfSome again (λ it. says number (line_words line) ≡ Ok (Some it))
said_again says script text line place number stored None known got same again = tt
said_again says script text line place number stored (Some it) known got same again =
    let first = known.1 stored got in again first.0 (line_words line) (ap (λ l. says first.0 (line_words l)) same ∙ first.1)
