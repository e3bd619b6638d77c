-- Laws of names and files.
use Rattle.std.proofs.Common.{◌≡◌, ℕ, Bool, true, false, cond, ◌||◌, List, [], ◌∷◌, Some, refl, sym, ◌∙◌, ap}
use Rattle.std.specs.Ordering.{nat_cmp, is_eq, ordering_then}
use Rattle.std.specs.Cmp.{nat_cmp_is}
use Rattle.std.specs.Cmp.Lexicographic.{slice_cmp, nat_list_cmp_total}
use Rattle.std.specs.declared.cmp.Ordering.{Ordering}
use Rattle.std.specs.declared.cmp.Ordering.TheVariants.{Less, Equal, Greater}
use Rattle.std.specs.FinMap.{get-insert, same_map, slice_cmp-IsAntisymmetric, nat_cmp-IsAntisymmetric}
use Rattle.mn_edge.specs.Files.{Files, file, with_file}
use Rattle.mn_edge.specs.Written.{same_name, is_known, each, laid}

-- the same name is the same bytes
pub same_name-eq : (a b : List ℕ) → same_name a b ≡ true → a ≡ b
same_name-eq a b h = slice_cmp-IsAntisymmetric nat_cmp-IsAntisymmetric a b (equal (slice_cmp nat_cmp a b) h)
  where
    equal : (r : Ordering) → is_eq r ≡ true → r ≡ Equal
    equal Less h = cc
    equal Equal h = refl
    equal Greater h = cc

-- a name is the same as itself
slice-same : (a : List ℕ) → slice_cmp nat_cmp a a ≡ Equal
slice-same [] = refl
slice-same (x ∷ xs) = ap (λ r. ordering_then r (slice_cmp nat_cmp xs xs)) (sym (nat_cmp_is x x Equal refl)) ∙ slice-same xs

pub same_name-refl : (a : List ℕ) → same_name a a ≡ true
same_name-refl a = ap is_eq (slice-same a)

-- two maps with the same bytes under every name are one
pub same_files : (a b : Files) → ((q : List ℕ) → file a q ≡ file b q) → a ≡ b
same_files a b h = same_map nat_list_cmp_total (slice_cmp-IsAntisymmetric nat_cmp-IsAntisymmetric) a b h

-- what a name has after one file is made anew
pub file-with_file : (m : Files) (name bytes q : List ℕ) → file (with_file m name bytes) q ≡ cond (same_name q name) (Some bytes) (file m q)
file-with_file m name bytes q = get-insert nat_list_cmp_total m name bytes q

-- what a name has once files are laid over
pub file-laid : (f : List ℕ → List ℕ) (names : List (List ℕ)) (m : Files) (q : List ℕ) →
    file (laid (each f names) m) q ≡ cond (is_known names q) (Some (f q)) (file m q)
file-laid f [] m q = refl
file-laid f (n ∷ ns) m q = file-with_file (laid (each f ns) m) n (f n) q ∙ step (file-laid f ns m q) (same_name q n) refl
  where
    step : file (laid (each f ns) m) q ≡ cond (is_known ns q) (Some (f q)) (file m q) →
        (b : Bool) → same_name q n ≡ b → cond b (Some (f n)) (file (laid (each f ns) m) q) ≡ cond (b || is_known ns q) (Some (f q)) (file m q)
    step rest true h = ap (λ x. Some (f x)) (sym (same_name-eq q n h))
    step rest false h = rest

pub file-laid_there : (f : List ℕ → List ℕ) (names : List (List ℕ)) (m : Files) (q : List ℕ) → is_known names q ≡ true →
    file (laid (each f names) m) q ≡ Some (f q)
file-laid_there f names m q h = file-laid f names m q ∙ ap (λ b. cond b (Some (f q)) (file m q)) h
