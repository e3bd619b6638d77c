-- The first words of a piece.
use Rattle.std.proofs.Common.{◌≡◌, ◌≤◌, ◌++◌, List, [], ℕ, length, take, ap, sym, ◌∙◌, Bor, append-nil, arith}
use Rattle.std.proofs.lemmas.List.{length-map, length-take-le, take_all}
use Rattle.mn_text.specs.Words.{words}
use Rattle.mn_script.specs.Words.{texts}

-- few words before none are all of them
pub few_are_all : (found : List (Bor (List ℕ))) (count : ℕ) (rest piece : List ℕ) → length found ≡ 8 → count ≤ 8 → words rest ≡ [] →
    texts (take count found) ++ words rest ≡ words piece → texts (take count found) ≡ take 8 (words piece)
few_are_all found count rest piece room few none before =
    let front = texts (take count found) in
    let all : front ≡ words piece = sym (append-nil front) ∙ ap (λ ws. front ++ ws) (sym none) ∙ before in
    let as_many : length front ≡ count = length-map (take count found) (λ (w : Bor (List ℕ)). w.now) ∙ length-take-le count found (omega arith) in
    sym (take_all 8 front (omega arith)) ∙ ap (take 8) all
