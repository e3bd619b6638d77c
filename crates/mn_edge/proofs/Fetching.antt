-- A file that is fetched piece by piece.
use Rattle.std.proofs.Common.{◌≡◌, ℕ, ◌+◌, ◌-◌, ◌<◌, ◌≤◌, List, ◌++◌, length, take, drop, Some, sym, ◌∙◌, ap, arith, length-append, length-drop}
use Rattle.std.proofs.lemmas.List.{take-append-drop, take-take, drop-take, take_all, length-take-le}
use Rattle.mn_edge.specs.Files.{Files, file, Fetched}

-- all that was fetched is a first part of the file
abbrev pub IsFront : Files → List ℕ → List ℕ → Type 0
IsFront m name items = (b : List ℕ) → file m name ≡ Some b → items ≡ take (length items) b

take_sum : (n k : ℕ) (xs : List ℕ) → take n xs ++ take k (drop n xs) ≡ take (n + k) xs
take_sum n k xs =
    ap (λ l. l ++ take k (drop n xs)) (sym (take-take n (n + k) xs (omega arith)))
    ∙ ap (λ l. take n (take (n + k) xs) ++ l) (sym (drop-take n k xs))
    ∙ take-append-drop n (take (n + k) xs)

pub whole : (m : Files) (name items buf : List ℕ) (at count : ℕ) → at ≡ length items → Fetched m name at count buf → 0 < length buf → count ≡ 0 →
    IsFront m name items → file m name ≡ Some items
whole m name items buf at count here has room none front =
    has.there
    ∙ ap Some (sym (front has.bytes has.there ∙ take_all (length items) has.bytes (let e : length has.bytes ≤ at = has.none_at_end room none in
    omega arith)))

pub past : (m : Files) (name items buf : List ℕ) (at count limit : ℕ) → at ≡ length items → Fetched m name at count buf → at ≤ limit → limit - at < count →
    (b : List ℕ) × (file m name ≡ Some b) × (limit < length b)
past m name items buf at count limit here has within over =
    (has.bytes, has.there, let w : count ≤ length (drop at has.bytes) = has.within in omega (arith, length-drop at has.bytes))

pub more : (m : Files) (name items buf : List ℕ) (at count : ℕ) → at ≡ length items → Fetched m name at count buf → count ≤ length buf →
    IsFront m name items → IsFront m name (items ++ take count buf)
more m name items buf at count here has room front b is =
    let e : Some has.bytes ≡ Some b = sym has.there ∙ is in
    let same : has.bytes ≡ b = cc in
    let len : length (items ++ take count buf) ≡ length items + count =
    length-append items (take count buf) ∙ ap (λ k. length items + k) (length-take-le count buf room) in
    ap (λ l. l ++ take count buf) (front b is)
    ∙ ap (λ l. take (length items) b ++ l) (has.front ∙ ap (λ l. take count (drop at l)) same ∙ ap (λ k. take count (drop k b)) here)
    ∙ take_sum (length items) count b
    ∙ ap (λ k. take k b) (sym len)
