-- Things that are read one after another from the front of bytes.
use Rattle.std.proofs.Common.{◌≡◌, ◌≤◌, ◌<◌, ◌==◌, ℕ, zero, suc, false, List, [], ◌∷◌, ◌++◌, length, Option, Some, None, refl, ap, sym, ◌∙◌, subst, arith}
use Rattle.std.proofs.lemmas.Bool.Decides.{nat_tests}
use Rattle.std.specs.List.{flat_map, AllByRecursion}
use Rattle.mn_vpn_nlri.specs.Reading.{IsBytes}
use Rattle.mn_bgp_wire.specs.Items.{◌>>=◌, items_from, items_of}
use Rattle.mn_bgp_wire.proofs.Bytes.{bytes-rest}

-- what is left is shorter
pub record Shortens {A : Type 0} (first : List ℕ → Option (A × List ℕ)) : Type 0 where
  pub shorter : (bytes : List ℕ) (found : A × List ℕ) → first bytes ≡ Some found → length found.1 < length bytes

at_end : {A : Type 0} (first : List ℕ → Option (A × List ℕ)) (most : ℕ) → items_from first most [] ≡ Some []
unfolding items_from
at_end first zero = refl
at_end first (suc most) = refl

next : {A : Type 0} (first : List ℕ → Option (A × List ℕ)) (most : ℕ) (bytes : List ℕ) (found : A × List ℕ) → 0 < length bytes → first bytes ≡ Some found →
    items_from first (suc most) bytes ≡ (items_from first most found.1 >>= λ more. Some (found.0 ∷ more))
unfolding items_from
next first most bytes found h is = let open_ : (length bytes == 0) ≡ false = grind (arith, nat_tests) in rw (open_, is) refl

nothing : {A : Type 0} (first : List ℕ → Option (A × List ℕ)) (most : ℕ) (bytes : List ℕ) → 0 < length bytes → first bytes ≡ None →
    items_from first most bytes ≡ None
unfolding items_from
nothing first zero bytes h is = let open_ : (length bytes == 0) ≡ false = grind (arith, nat_tests) in rw open_ refl
nothing first (suc most) bytes h is = let open_ : (length bytes == 0) ≡ false = grind (arith, nat_tests) in rw (open_, is) refl

either : {A : Type 0} (first : List ℕ → Option (A × List ℕ)) (m n : ℕ) (bytes : List ℕ) (o : Option (A × List ℕ)) → 0 < length bytes → first bytes ≡ o
    → ((found : A × List ℕ) → first bytes ≡ Some found → items_from first m found.1 ≡ items_from first n found.1) →
    items_from first (suc m) bytes ≡ items_from first (suc n) bytes
either first m n bytes None h is same = nothing first (suc m) bytes h is ∙ sym (nothing first (suc n) bytes h is)
either {A = A} first m n bytes (Some found) h is same =
    next first m bytes found h is ∙ ap (λ (o : Option (List A)). o >>= λ more. Some (found.0 ∷ more)) (same found is) ∙ sym (next first n bytes found h is)

-- any number that is at least that of the bytes will do
enough : {A : Type 0} (first : List ℕ → Option (A × List ℕ)) → Shortens first →
    (m n : ℕ) (bytes : List ℕ) → length bytes ≤ m → length bytes ≤ n → items_from first m bytes ≡ items_from first n bytes
enough first s m n [] h k = at_end first m ∙ sym (at_end first n)
enough first s zero n (b ∷ bs) h k = absurd (omega arith)
enough first s (suc m) zero (b ∷ bs) h k = absurd (omega arith)
enough first s (suc m) (suc n) (b ∷ bs) h k =
    either first m n (b ∷ bs) (first (b ∷ bs)) (omega arith) refl (λ found is. let l = s.shorter (b ∷ bs) found is in
    enough first s m n found.1 (omega arith) (omega arith))

pub items_end : {A : Type 0} (first : List ℕ → Option (A × List ℕ)) (bytes : List ℕ) → length bytes ≡ 0 → items_of first bytes ≡ Some []
items_end first [] h = at_end first 0
items_end first (b ∷ bs) h = absurd (omega arith)

-- the first of them, and then the others
pub items_first : {A : Type 0} (first : List ℕ → Option (A × List ℕ)) → Shortens first →
    (bytes : List ℕ) (found : A × List ℕ) → first bytes ≡ Some found → items_of first bytes ≡ (items_of first found.1 >>= λ more. Some (found.0 ∷ more))
items_first first s [] found is = let l = s.shorter [] found is in absurd (omega arith)
items_first {A = A} first s (b ∷ bs) found is =
    let l = s.shorter (b ∷ bs) found is in
    next first (length bs) (b ∷ bs) found (omega arith) is
    ∙ ap (λ (o : Option (List A)). o >>= λ more. Some (found.0 ∷ more))
    (enough first s (length bs) (length found.1) found.1 (omega arith) (omega arith))

pub items_none : {A : Type 0} (first : List ℕ → Option (A × List ℕ)) (bytes : List ℕ) → 0 < length bytes → first bytes ≡ None → items_of first bytes ≡ None
items_none first bytes h is = nothing first (length bytes) bytes h is

-- what is spelled so is read from the front, whatever follows it
pub record Reads {A : Type 0} (first : List ℕ → Option (A × List ℕ)) (spelling : A → List ℕ) (Fits : A → Type 0) : Type 0 where
  pub again : (a : A) (rest : List ℕ) → Fits a → first (spelling a ++ rest) ≡ Some (a, rest)

-- and what is read is spelled so
pub record Takes {A : Type 0} (first : List ℕ → Option (A × List ℕ)) (spelling : A → List ℕ) : Type 0 where
  pub parts : (bytes : List ℕ) (found : A × List ℕ) → IsBytes bytes → first bytes ≡ Some found → bytes ≡ spelling found.0 ++ found.1

pub items_again : {A : Type 0} (first : List ℕ → Option (A × List ℕ)) (spelling : A → List ℕ) (Fits : A → Type 0) → Shortens first →
    Reads first spelling Fits → (items : List A) → AllByRecursion Fits items → items_of first (flat_map spelling items) ≡ Some items
items_again first spelling Fits s r [] fits = at_end first 0
items_again {A = A} first spelling Fits s r (a ∷ items) fits =
    items_first first s (spelling a ++ flat_map spelling items) (a, flat_map spelling items) (r.again a (flat_map spelling items) fits.0)
    ∙ ap (λ (o : Option (List A)). o >>= λ more. Some (a ∷ more)) (items_again first spelling Fits s r items fits.1)

some_of : {A : Type 0} (o : Option (List A)) (a : A) (items : List A) → (o >>= λ more. Some (a ∷ more)) ≡ Some items →
    (more : List A) × (o ≡ Some more) × (a ∷ more ≡ items)
some_of None a items e = absurd cc
some_of (Some more) a items e = (more, refl, cc)

some_list : {A : Type 0} (x y : List A) (o : Option (List A)) → o ≡ Some x → o ≡ Some y → x ≡ y
some_list x y o p q = cc

take_step : {A : Type 0} (first : List ℕ → Option (A × List ℕ)) (spelling : A → List ℕ) → Takes first spelling →
    (most : ℕ) (bytes : List ℕ) (items : List A) → IsBytes bytes → 0 < length bytes
    → (o : Option (A × List ℕ)) → first bytes ≡ o →
    ((rest : List ℕ) (more : List A) → IsBytes rest → items_from first most rest ≡ Some more → rest ≡ flat_map spelling more)
    → items_from first (suc most) bytes ≡ Some items → bytes ≡ flat_map spelling items
take_step first spelling t most bytes items fits h None is later e = let n = nothing first (suc most) bytes h is in absurd cc
take_step {A = A} first spelling t most bytes items fits h (Some found) is later e =
    let s = some_of (items_from first most found.1) found.0 items (sym (next first most bytes found h is) ∙ e) in
    let parts = t.parts bytes found fits is in
    let rest_fits = bytes-rest (spelling found.0) found.1 (subst IsBytes parts fits) in
    parts ∙ ap (λ (r : List ℕ). spelling found.0 ++ r) (later found.1 s.0 rest_fits s.1) ∙ ap (flat_map spelling) s.2

none_left : {A : Type 0} (first : List ℕ → Option (A × List ℕ)) (bytes : List ℕ) → 0 < length bytes → items_from first zero bytes ≡ None
unfolding items_from
none_left first bytes h = let open_ : (length bytes == 0) ≡ false = grind (arith, nat_tests) in rw open_ refl

pub items_take : {A : Type 0} (first : List ℕ → Option (A × List ℕ)) (spelling : A → List ℕ) → Takes first spelling →
    (most : ℕ) (bytes : List ℕ) (items : List A) → IsBytes bytes → items_from first most bytes ≡ Some items → bytes ≡ flat_map spelling items
items_take first spelling t most [] items fits e = ap (flat_map spelling) (some_list [] items (items_from first most []) (at_end first most) e)
items_take first spelling t zero (b ∷ bs) items fits e = let n = none_left first (b ∷ bs) (omega arith) in absurd cc
items_take first spelling t (suc most) (b ∷ bs) items fits e =
    take_step first spelling t most (b ∷ bs) items fits (omega arith) (first (b ∷ bs)) refl (λ rest more. items_take first spelling t most rest more) e
