-- The words of a line, one after another.
use Rattle.std.proofs.Common.{◌≡◌, ◌≤◌, ◌<◌, ◌+◌, ℕ, true, false, not, cond, List, [], ◌∷◌, ◌++◌, length, take, set, ap, sym, ◌∙◌, Bor, append_assoc}
use Rattle.std.proofs.Common.{append-nil, add-one, arith}
use Rattle.std.proofs.Math.Seq.{take-suc-set}
use Rattle.std.proofs.lemmas.List.{map-append, length-map, length-take-le, take_all, take-append-le}
use Rattle.std.proofs.lemmas.List.Sums.{take_while-cons}
use Rattle.std.specs.Prelude.{take_while}
use Rattle.mn_text.specs.Words.{words}
use Rattle.mn_script.specs.Words.{texts, is_comment, line_words}

-- a word that is no comment goes before the others
word_kept : (word next rest : List ℕ) → words rest ≡ word ∷ words next → is_comment word ≡ false → line_words rest ≡ word ∷ line_words next
word_kept word next rest e h =
    ap (take_while (λ w. not (is_comment w))) e
    ∙ take_while-cons (λ w. not (is_comment w)) word (words next)
    ∙ ap (λ b. cond (not b) (word ∷ line_words next) []) h

-- a word that is found stands after those before it
pub word_joins : (found new : List (Bor (List ℕ))) (word : Bor (List ℕ)) (next rest line : List ℕ) → new ≡ found ++ word ∷ [] →
    words rest ≡ word.now ∷ words next → is_comment word.now ≡ false → texts found ++ line_words rest ≡ line_words line →
    texts new ++ line_words next ≡ line_words line
word_joins found new word next rest line pushed first plain before =
    ap (λ ws. texts ws ++ line_words next) pushed
    ∙ ap (λ ws. ws ++ line_words next) (map-append (λ (w : Bor (List ℕ)). w.now) found (word ∷ []))
    ∙ append_assoc (texts found) (word.now ∷ []) (line_words next)
    ∙ ap (λ ws. texts found ++ ws) (sym (word_kept word.now next rest first plain))
    ∙ before

-- a word that is stored stands behind those before it
pub stored : (found : List (Bor (List ℕ))) (count : ℕ) (word : Bor (List ℕ)) → count < length found →
    take (count + 1) (set found count word) ≡ take count found ++ word ∷ []
stored found count word there = ap (λ n. take n (set found count word)) (add-one count) ∙ take-suc-set found count word there

-- a comment ends the words
comment_ends : (word next rest : List ℕ) → words rest ≡ word ∷ words next → is_comment word ≡ true → line_words rest ≡ []
comment_ends word next rest e h =
    ap (take_while (λ w. not (is_comment w))) e
    ∙ take_while-cons (λ w. not (is_comment w)) word (words next)
    ∙ ap (λ b. cond (not b) (word ∷ line_words next) []) h

-- few words that are all of them
few_are_all : (front all : List (List ℕ)) → front ++ [] ≡ all → length front ≤ 6 → front ≡ take 6 all
few_are_all front all e few = sym (take_all 6 front few) ∙ ap (take 6) (sym (append-nil front) ∙ e)

-- six words before others
six_are_first : (front more all : List (List ℕ)) → front ++ more ≡ all → length front ≡ 6 → front ≡ take 6 all
six_are_first front more all e six =
    sym (take_all 6 front (omega arith)) ∙ sym (take-append-le 6 front more (omega arith)) ∙ ap (take 6) e

-- as many texts as words that were stored
as_many : (found : List (Bor (List ℕ))) (count : ℕ) → count ≤ length found → length (texts (take count found)) ≡ count
as_many found count there = length-map (take count found) (λ (w : Bor (List ℕ)). w.now) ∙ length-take-le count found there

-- the words before a comment, of which there are few
pub before_comment : (found : List (Bor (List ℕ))) (count : ℕ) (word next rest line : List ℕ)
    → words rest ≡ word ∷ words next → is_comment word ≡ true
    → length found ≡ 6 → count ≤ 6 → texts (take count found) ++ line_words rest ≡ line_words line
    → texts (take count found) ≡ take 6 (line_words line)
before_comment found count word next rest line first comment room few before =
    let none = ap (λ ws. texts (take count found) ++ ws) (sym (comment_ends word next rest first comment)) in
    few_are_all (texts (take count found)) (line_words line) (none ∙ before) (omega (arith, few, as_many found count (omega (arith, room, few))))

-- six words that were found before others
pub first_six : (found : List (Bor (List ℕ))) (count : ℕ) (rest line : List ℕ) → length found ≡ 6 → count ≡ 6
    → texts (take count found) ++ line_words rest ≡ line_words line → texts (take count found) ≡ take 6 (line_words line)
first_six found count rest line room six before =
    six_are_first (texts (take count found)) (line_words rest) (line_words line) before (as_many found count (omega (arith, room, six)) ∙ six)
