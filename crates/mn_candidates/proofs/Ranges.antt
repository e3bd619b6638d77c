-- Lists that are gone through from the front.
use Rattle.std.proofs.Common.{ℕ, ◌≡◌, ◌+◌, ◌<◌, ◌≤◌, List, [], ◌∷◌, ◌++◌, length, get_or, take, drop, arith, sym, ◌∙◌, ap}
use Rattle.std.specs.List.{flat_map, range_with_len}
use Rattle.std.proofs.lemmas.List.{append-nil, take_all, take_more, take-append-drop}
use Rattle.std.proofs.lemmas.List.FromFn.{length-range_with_len, get_or-range_with_len}
use Rattle.std.proofs.lemmas.Grind.{flat_map-append}

-- one more
pub more_of : {X Y : Type 0} (f : X → List Y) (xs : List X) (i : ℕ) (d : X) → i < length xs →
    flat_map f (take (i + 1) xs) ≡ flat_map f (take i xs) ++ f (get_or xs i d)
more_of f xs i d below =
    ap (flat_map f) (take_more xs i d below) ∙ flat_map-append f (take i xs) (get_or xs i d ∷ [])
    ∙ ap (λ ys. flat_map f (take i xs) ++ ys) (append-nil (f (get_or xs i d)))

numbered : (n i : ℕ) → i < n → get_or (range_with_len 0 n) i 0 ≡ i
numbered n i below = get_or-range_with_len 0 n i 0 below ∙ (omega arith)

-- over the numbers below another
pub more_number : {Y : Type 0} (f : ℕ → List Y) (n i : ℕ) → i < n
    → flat_map f (take (i + 1) (range_with_len 0 n)) ≡ flat_map f (take i (range_with_len 0 n)) ++ f i
more_number f n i below =
    more_of f (range_with_len 0 n) i 0 (rw length-range_with_len below) ∙ ap (λ k. flat_map f (take i (range_with_len 0 n)) ++ f k) (numbered n i below)

pub all_numbers : (n i : ℕ) → n ≤ i → take i (range_with_len 0 n) ≡ range_with_len 0 n
all_numbers n i past = take_all i (range_with_len 0 n) (rw length-range_with_len past)

-- with those after it all
pub and_the_rest : {Y : Type 0} (f : ℕ → List Y) (n i : ℕ) →
    flat_map f (take i (range_with_len 0 n)) ++ flat_map f (drop i (range_with_len 0 n)) ≡ flat_map f (range_with_len 0 n)
and_the_rest f n i = sym (flat_map-append f (take i (range_with_len 0 n)) (drop i (range_with_len 0 n)))
    ∙ ap (flat_map f) (take-append-drop i (range_with_len 0 n))
