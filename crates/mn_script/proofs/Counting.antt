-- How many lines a text has.
use Rattle.std.proofs.Common.{◌≡◌, ℕ, suc, ◌+◌, ◌-◌, ◌<◌, true, false, not, cond, nat_lt, ◌==◌, ◌&&◌, List, [], ◌∷◌, length, get_or, refl, ap, ◌∙◌, sym, arith}
use Rattle.std.proofs.lemmas.Bool.Decides.{nat_tests}
use Rattle.std.proofs.lemmas.List.Splits.{length-slice_split}
use Rattle.std.specs.List.{slice_split, onto_first}
use Rattle.std.specs.Str.Lines.{lines, lines_of_parts}
use Rattle.mn_script.specs.Counting.{ends_open, line_count}

-- the parts between line feeds
parts : List ℕ → List (List ℕ)
parts text = slice_split (λ byte. byte == 10) text

-- something stands before the end: a byte, or a line feed
HasSome : List (List ℕ) → Type 0
HasSome [] = 0 < 0
HasSome (front ∷ []) = 0 < length front
HasSome (front ∷ next ∷ more) = 0 < 1

-- the first of several parts is a line
part_counts : (front : List ℕ) (more : List (List ℕ)) → 0 < length more → length (lines_of_parts (front ∷ more)) ≡ length (lines_of_parts more) + 1
part_counts front [] h = absurd (omega arith)
part_counts front (next ∷ more) h = omega arith

some_parts : (text : List ℕ) → 0 < length (parts text)
unfolding parts
some_parts text = grind (arith, length-slice_split)

some_after : (front : List ℕ) (more : List (List ℕ)) → 0 < length more → HasSome (front ∷ more)
unfolding HasSome
some_after front [] h = absurd (omega arith)
some_after front (next ∷ more) h = omega arith

some_onto : (byte : ℕ) (more : List (List ℕ)) → HasSome (onto_first byte more)
unfolding HasSome
some_onto byte [] = omega arith
some_onto byte (front ∷ []) = omega arith
some_onto byte (front ∷ next ∷ more) = omega arith

-- the parts of a text with a byte
some_split : (byte : ℕ) (text : List ℕ) → HasSome (parts (byte ∷ text))
unfolding parts
some_split byte text =
    elim (byte == 10) as (λ b. HasSome (cond b ([] ∷ slice_split (λ x. x == 10) text) (onto_first byte (slice_split (λ x. x == 10) text)))) [
      | true ↦ some_after [] (slice_split (λ x. x == 10) text) (some_parts text)
      | false ↦ some_onto byte (slice_split (λ x. x == 10) text)
    ]

never_zero : (n : ℕ) → (suc n == 0) ≡ false
never_zero n = grind (arith, nat_tests)

-- a part with a byte is a line, also without a line feed after it
one_line : (byte : ℕ) (front : List ℕ) → length (lines_of_parts ((byte ∷ front) ∷ [])) ≡ 1
one_line byte front = ap (λ b. length (cond b [] ((byte ∷ front) ∷ []))) (never_zero (length front))

-- a byte before the first part makes no line where something stands after it
onto_keeps : (byte : ℕ) (more : List (List ℕ)) → HasSome more → length (lines_of_parts (onto_first byte more)) ≡ length (lines_of_parts more)
unfolding HasSome
onto_keeps byte [] h = absurd (omega arith)
onto_keeps byte ([] ∷ []) h = absurd (omega arith)
onto_keeps byte ((x ∷ front) ∷ []) h = one_line byte (x ∷ front) ∙ sym (one_line x front)
onto_keeps byte (front ∷ next ∷ more) h = refl

length_onto : (byte : ℕ) (more : List (List ℕ)) → HasSome more → length (onto_first byte more) ≡ length more
unfolding HasSome
length_onto byte [] h = absurd (omega arith)
length_onto byte (front ∷ more) h = refl

is_some_length : (n : ℕ) → nat_lt 0 (suc n) ≡ true
is_some_length n = grind (arith, nat_tests)

-- a text ends as its rest does
open_later : (byte next : ℕ) (more : List ℕ) → ends_open (byte ∷ next ∷ more) ≡ ends_open (next ∷ more)
open_later byte next more =
    let last : length (byte ∷ next ∷ more) - 1 ≡ suc (length more) = omega arith in
    let last_of_rest : length (next ∷ more) - 1 ≡ length more = omega arith in
    ap (λ k. nat_lt 0 (length (byte ∷ next ∷ more)) && not (get_or (byte ∷ next ∷ more) k 0 == 10)) last
    ∙ ap (λ b. b && not (get_or (next ∷ more) (length more) 0 == 10)) (is_some_length (suc (length more)) ∙ sym (is_some_length (length more)))
    ∙ ap (λ k. nat_lt 0 (length (next ∷ more)) && not (get_or (next ∷ more) k 0 == 10)) (sym last_of_rest)

lines_of_split : (text : List ℕ) → length (lines_of_parts (parts text)) + 1 ≡ length (parts text) + cond (ends_open text) 1 0
unfolding parts
lines_of_split [] = refl
lines_of_split (byte ∷ []) =
    elim (byte == 10) as
    (λ b. length (lines_of_parts (cond b ([] ∷ [] ∷ []) ((byte ∷ []) ∷ []))) + 1 ≡ length (cond b ([] ∷ [] ∷ []) ((byte ∷ []) ∷ [])) + cond (not b) 1 0) [
      | true ↦ refl
      | false ↦ refl
    ]
lines_of_split (byte ∷ next ∷ more) =
    let rest = slice_split (λ x. x == 10) (next ∷ more) in
    let later : length (lines_of_parts rest) + 1 ≡ length rest + cond {A = ℕ} (ends_open (next ∷ more)) 1 0 = lines_of_split (next ∷ more) in
    let filled : HasSome rest = some_split next more in
    let opens : cond {A = ℕ} (ends_open (byte ∷ next ∷ more)) 1 0 ≡ cond (ends_open (next ∷ more)) 1 0 = ap (λ b. cond b 1 0) (open_later byte next more) in
    elim (byte == 10) as
    (λ b. length (lines_of_parts (cond b ([] ∷ rest) (onto_first byte rest))) + 1 ≡ length (cond b ([] ∷ rest) (onto_first byte rest)) + cond
    (ends_open (byte ∷ next ∷ more)) 1 0) [
      | true ↦ omega (arith, part_counts [] rest (some_parts (next ∷ more)), later, opens)
      | false ↦ omega (arith, onto_keeps byte rest filled, length_onto byte rest filled, later, opens)
    ]

pub lines_counted : (text : List ℕ) → length (lines text) ≡ line_count text
unfolding parts
lines_counted text = omega (arith, lines_of_split text, length-slice_split (λ byte. byte == 10) text)
