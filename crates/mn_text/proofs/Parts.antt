-- The first part of a list that is cut, and the first line of a text.
use Rattle.std.proofs.Common.{◌≡◌, ℕ, suc, ◌+◌, ◌-◌, ◌<◌, ◌≤◌, Bool, true, false, not, cond, nat_lt, ◌==◌, List, [], ◌∷◌, length, take, drop, Some, None}
use Rattle.std.proofs.Common.{position, refl, ap, ◌∙◌, arith}
use Rattle.std.proofs.lemmas.Grind.{common_steps}
use Rattle.std.proofs.lemmas.Bool.{ltb-true}
use Rattle.std.proofs.lemmas.Bool.Decides.{nat_tests}
use Rattle.std.proofs.lemmas.Option.{same_Some}
use Rattle.std.proofs.lemmas.List.Splits.{slice_split_first, length-slice_split}
use Rattle.std.specs.List.{slice_split, onto_first, position_or_len}
use Rattle.std.specs.Str.Lines.{lines, lines_of_parts, strip_carriage_return}

some_from : (b : Bool) (x i : ℕ) → cond b (Some x) None ≡ Some i → (b ≡ true) × (x ≡ i)
some_from true x i h = (refl, same_Some x i h)
some_from false x i h = cc

none_from : (b : Bool) (x : ℕ) → cond b (Some x) None ≡ None → b ≡ false
none_from true x h = cc
none_from false x h = refl

rest_all : (bs : List ℕ) (i : ℕ) → take (length bs - (i + 1)) (drop (i + 1) bs) ≡ drop (i + 1) bs
rest_all bs i = grind (arith, common_steps)

pub split_some : (p : ℕ → Bool) (bs : List ℕ) (i : ℕ) → position p bs ≡ Some i →
    slice_split p bs ≡ take i bs ∷ slice_split p (take (length bs - (i + 1)) (drop (i + 1) bs))
split_some p bs i h =
    let found = some_from _ _ _ h in
    let before : position_or_len p bs < length bs = ltb-true _ _ found.0 in
    rw (rest_all bs i, ← found.1) (slice_split_first p bs 0 before)

unsplit : (p : ℕ → Bool) (bs : List ℕ) → length bs ≤ position_or_len p bs → slice_split p bs ≡ bs ∷ []
unsplit p [] h = refl
unsplit p (x ∷ xs) h =
    elim (p x) as (λ b. suc (length xs) ≤ cond (not b) (1 + position_or_len p xs) 0 →
    cond b ([] ∷ slice_split p xs) (onto_first x (slice_split p xs)) ≡ (x ∷ xs) ∷ []) [
      | true ↦ λ k. absurd (omega arith)
      | false ↦ λ k. rw (unsplit p xs (omega arith)) refl
    ] h

pub split_none : (p : ℕ → Bool) (bs : List ℕ) → position p bs ≡ None → slice_split p bs ≡ bs ∷ []
split_none p bs h =
    let past : nat_lt (position_or_len p bs) (length bs) ≡ false = none_from _ (position_or_len p bs) h in
    unsplit p bs (grind (arith, nat_tests, past))

pub feed_step : (front : List ℕ) (parts : List (List ℕ)) → 0 < length parts →
    lines_of_parts (front ∷ parts) ≡ strip_carriage_return front ∷ lines_of_parts parts
feed_step front [] h = absurd (omega arith)
feed_step front (y ∷ more) h = refl

some_parts : (p : ℕ → Bool) (bs : List ℕ) → 0 < length (slice_split p bs)
some_parts p bs = grind (arith, length-slice_split)

pub line_some : (bs : List ℕ) (i : ℕ) → position (λ b. b == 10) bs ≡ Some i →
    lines bs ≡ strip_carriage_return (take i bs) ∷ lines (take (length bs - (i + 1)) (drop (i + 1) bs))
line_some bs i h =
    ap lines_of_parts (split_some (λ b. b == 10) bs i h) ∙ feed_step (take i bs) (slice_split (λ b. b == 10) (take (length bs - (i + 1)) (drop (i + 1) bs)))
    (some_parts (λ b. b == 10) (take (length bs - (i + 1)) (drop (i + 1) bs)))

pub line_none : (bs : List ℕ) → 0 < length bs → position (λ b. b == 10) bs ≡ None → lines bs ≡ bs ∷ []
line_none bs some h = ap lines_of_parts (split_none (λ b. b == 10) bs h) ∙ grind (arith, nat_tests)
