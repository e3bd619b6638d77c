-- Names as the keys of a set.
use Rattle.std.proofs.Common.{◌≡◌, ℕ, suc, length, Bool, false, ◌||◌, if◌then◌else◌, List, [], ◌∷◌, ◌++◌, map, Vec, Global, refl}
use Rattle.std.proofs.Common.{ap, ◌∙◌, sym}
use Rattle.std.specs.List.{list_any}
use Rattle.std.specs.Str.{bytes_eq}
use Rattle.std.proofs.lemmas.List.{map-append}

abbrev pub bytes_of : Vec ℕ Global → List ℕ
bytes_of v = v.items

-- a look-up among the keys is one among their bytes
pub has_mapped : (name : List ℕ) (ks : List (Vec ℕ Global)) → list_any (bytes_eq name) (map bytes_of ks) ≡ list_any (λ k. bytes_eq name k.items) ks
has_mapped name [] = refl
has_mapped name (k ∷ ks) = ap (λ rest. bytes_eq name k.items || rest) (has_mapped name ks)

-- a new key goes last
pub put_last : {A : Type 0} (b : Bool) (ks new : List A) (k : A) → b ≡ false → new ≡ (if b then ks else ks ++ k ∷ []) → new ≡ ks ++ k ∷ []
put_last b ks new k h e = e ∙ ap (λ t. if t then ks else ks ++ k ∷ []) h

pub put_name : (name : List ℕ) (copy : Vec ℕ Global) (ks new : List (Vec ℕ Global)) → copy.items ≡ name
    → list_any (bytes_eq name) (map bytes_of ks) ≡ false
    → new ≡ (if list_any (λ y. bytes_eq copy.items y.items) ks then ks else ks ++ copy ∷ [])
    → map bytes_of new ≡ map bytes_of ks ++ name ∷ []
put_name name copy ks new same absent e =
    let free : list_any (λ y. bytes_eq copy.items y.items) ks ≡ false = rw same (sym (has_mapped name ks) ∙ absent) in
    ap (map bytes_of) (put_last _ ks new copy free e) ∙ map-append bytes_of ks (copy ∷ []) ∙ ap (λ n. map bytes_of ks ++ n ∷ []) same

pub count_mapped : (ks : List (Vec ℕ Global)) → length (map bytes_of ks) ≡ length ks
count_mapped [] = refl
count_mapped (k ∷ ks) = ap (λ n. suc n) (count_mapped ks)
