-- A list of named files, and the map that it stands for.
use Rattle.std.proofs.Common.{◌≡◌, ℕ, ◌<◌, Bool, true, false, cond, nat_eq, List, [], ◌∷◌, ◌++◌, length, take, slice_set, get_or, Option, Some, None, zero}
use Rattle.std.proofs.Common.{suc, refl, sym, ◌∙◌, ap, arith, String, Vec, string_bytes}
use Rattle.std.proofs.lemmas.List.{get_or-map, map-set, length-map, append-nil}
use Rattle.std.specs.declared.alloc.Global.{Global}
use Rattle.std.specs.Option.{option_map_or}
use Rattle.std.specs.Cmp.Lexicographic.{nat_list_cmp_total, texts_ties}
use Rattle.std.specs.FinMap.{get-from_entries, from_entries, from_entries_push, slice_cmp-IsAntisymmetric, nat_cmp-IsAntisymmetric}
use lib.Pointwise.{pointwise}
use Rattle.mn_edge.specs.Files.{Files, file, with_file}
use Rattle.mn_edge.specs.Memory.{extended, files_of}
use Rattle.mn_edge.specs.Place.{bytes_at, entry, IsAt}
use Rattle.mn_edge.specs.Written.{same_name, pairs}
use Rattle.mn_edge.specs.FileLaws.{same_name-eq, same_name-refl, same_files, file-with_file}

-- equal texts are the same name
pub text-eq : (a b : List ℕ) → pointwise nat_eq a b ≡ true → a ≡ b
text-eq a b h = same_name-eq a b (sym (texts_ties a b) ∙ h)

-- the entry of a file as it is held
pub entry-pairs : (fs : List (String Global × Vec ℕ Global)) (i : ℕ) (f : String Global × Vec ℕ Global) → i < length fs → f ≡ get_or fs i f →
    entry (pairs fs) i ≡ (string_bytes f.0, f.1.items)
entry-pairs fs i f within is = get_or-map (λ e. (string_bytes e.0, e.1.items)) fs i f ([], []) within ∙ ap (λ e. (string_bytes e.0, e.1.items)) (sym is)

-- what a name has once the first entry of some name holds other bytes
find-set : (es : List (List ℕ × List ℕ)) (i : ℕ) (k v q : List ℕ) → i < length es →
    (entry es i).0 ≡ k → bytes_at (take i es) k ≡ None → bytes_at (slice_set es i (k, v)) q ≡ cond (same_name q k) (Some v) (bytes_at es q)
find-set [] i k v q within named first = absurd (omega arith)
find-set (x ∷ es) zero k v q within named first = step (same_name q k) refl
  where
    step : (b : Bool) → same_name q k ≡ b → cond b (Some v) (bytes_at es q) ≡ cond b (Some v) (cond (same_name q x.0) (Some x.1) (bytes_at es q))
    step true h = refl
    step false h = sym (ap (λ b. cond b (Some x.1) (bytes_at es q)) (ap (same_name q) named ∙ h))
find-set (x ∷ es) (suc i) k v q within named first =
    ap (λ r. cond (same_name q x.0) (Some x.1) r) (find-set es i k v q (omega arith) named (rest (same_name k x.0) first))
    ∙ step (same_name q x.0) (same_name q k) refl refl
  where
    rest : (b : Bool) → cond b (Some x.1) (bytes_at (take i es) k) ≡ None → bytes_at (take i es) k ≡ None
    rest true h = cc
    rest false h = h

    other : (b : Bool) → cond b (Some x.1) (bytes_at (take i es) k) ≡ None → b ≡ false
    other true h = cc
    other false h = refl

    step : (a b : Bool) → same_name q x.0 ≡ a → same_name q k ≡ b →
        cond a (Some x.1) (cond b (Some v) (bytes_at es q)) ≡ cond b (Some v) (cond a (Some x.1) (bytes_at es q))
    step true true e f =
        let ka : same_name k x.0 ≡ true = ap (λ n. same_name n x.0) (sym (same_name-eq q k f)) ∙ e in
        let kf : same_name k x.0 ≡ false = other (same_name k x.0) first in
        cc
    step true false e f = refl
    step false b e f = refl

-- so the map has these bytes under that name
pub from_entries-set : (es : List (List ℕ × List ℕ)) (i : ℕ) (k v : List ℕ) → IsAt es k i →
    from_entries (slice_set es i (k, v)) ≡ with_file (from_entries es) k v
from_entries-set es i k v at = same_files _ _ (λ q.
    get-from_entries nat_list_cmp_total (slice_set es i (k, v)) q ∙ find-set es i k v q at.within at.named at.first
    ∙ ap (cond (same_name q k) (Some v)) (sym (get-from_entries nat_list_cmp_total es q))
    ∙ sym (file-with_file (from_entries es) k v q))

-- the bytes of the first entry are the file's
find-at : (es : List (List ℕ × List ℕ)) (i : ℕ) (k : List ℕ) → i < length es →
    (entry es i).0 ≡ k → bytes_at (take i es) k ≡ None → bytes_at es k ≡ Some (entry es i).1
find-at [] i k within named first = absurd (omega arith)
find-at (x ∷ es) zero k within named first = ap (λ b. cond b (Some x.1) (bytes_at es k)) (ap (same_name k) named ∙ same_name-refl k)
find-at (x ∷ es) (suc i) k within named first = step (same_name k x.0) first (λ f. find-at es i k (omega arith) named f)
  where
    step : (b : Bool) → cond b (Some x.1) (bytes_at (take i es) k) ≡ None →
        (bytes_at (take i es) k ≡ None → bytes_at es k ≡ Some (entry es i).1) → cond b (Some x.1) (bytes_at es k) ≡ Some (entry es i).1
    step true h f = cc
    step false h f = f h

pub file-at : (es : List (List ℕ × List ℕ)) (i : ℕ) (k : List ℕ) → IsAt es k i → file (from_entries es) k ≡ Some (entry es i).1
file-at es i k at = get-from_entries nat_list_cmp_total es k ∙ find-at es i k at.within at.named at.first

-- a name that no entry has is no file's
pub file-missing : (es : List (List ℕ × List ℕ)) (k : List ℕ) → bytes_at es k ≡ None → file (from_entries es) k ≡ None
file-missing es k none = get-from_entries nat_list_cmp_total es k ∙ none

-- nor with an entry of another name behind
pub find-push_other : (es : List (List ℕ × List ℕ)) (e : List ℕ × List ℕ) (k : List ℕ) → bytes_at es k ≡ None → same_name k e.0 ≡ false →
    bytes_at (es ++ e ∷ []) k ≡ None
find-push_other [] e k none other = ap (λ b. cond b (Some e.1) None) other
find-push_other (x ∷ es) e k none other = step (same_name k x.0) none (λ h. find-push_other es e k h other)
  where
    step : (b : Bool) → cond b (Some x.1) (bytes_at es k) ≡ None →
        (bytes_at es k ≡ None → bytes_at (es ++ e ∷ []) k ≡ None) → cond b (Some x.1) (bytes_at (es ++ e ∷ []) k) ≡ None
    step true h f = cc
    step false h f = f h

-- an entry behind all others, of a name that none of them has
pub from_entries-push : (es : List (List ℕ × List ℕ)) (k v : List ℕ) → bytes_at es k ≡ None → from_entries (es ++ (k, v) ∷ []) ≡ with_file (from_entries es) k v
from_entries-push es k v none = from_entries_push nat_list_cmp_total (slice_cmp-IsAntisymmetric nat_cmp-IsAntisymmetric) es k v none

-- the bytes of a held file, and what the map is once it holds others
pub files_of-at : (fs : List (String Global × Vec ℕ Global)) (i : ℕ) (f : String Global × Vec ℕ Global) (name : List ℕ) → IsAt (pairs fs) name i →
    f ≡ get_or fs i f → file (files_of fs) name ≡ Some f.1.items
files_of-at fs i f name at is =
    let within : i < length fs = rw length-map at at.within in
    file-at (pairs fs) i name at ∙ ap (λ e. Some e.1) (entry-pairs fs i f within is)

pub files_of-set : (fs : List (String Global × Vec ℕ Global)) (i : ℕ) (f g : String Global × Vec ℕ Global) (name bytes : List ℕ) → IsAt (pairs fs) name i →
    f ≡ get_or fs i f → string_bytes g.0 ≡ string_bytes f.0 → g.1.items ≡ bytes → files_of (slice_set fs i g) ≡ with_file (files_of fs) name bytes
files_of-set fs i f g name bytes at is named held =
    let within : i < length fs = rw length-map at at.within in
    let same_named : string_bytes g.0 ≡ name = named ∙ sym (ap (λ e. e.0) (entry-pairs fs i f within is)) ∙ at.named in
    let set : pairs (slice_set fs i g) ≡ slice_set (pairs fs) i (name, bytes) =
    map-set (λ e. (string_bytes e.0, e.1.items)) fs i g ∙ ap (slice_set (pairs fs) i) (λ j. (same_named j, held j)) in
    ap from_entries set ∙ from_entries-set (pairs fs) i name bytes at

-- a file made anew with its own bytes
pub with_file-same : (m : Files) (k bytes : List ℕ) → file m k ≡ Some bytes → with_file m k bytes ≡ m
with_file-same m k bytes there = same_files _ _ (λ q. file-with_file m k bytes q ∙ at q (same_name q k) refl)
  where
    at : (q : List ℕ) (b : Bool) → same_name q k ≡ b → cond b (Some bytes) (file m q) ≡ file m q
    at q true is = sym there ∙ ap (file m) (sym (same_name-eq q k is))
    at q false is = refl

-- a file that is there grows; one that isn't there, or that gets nothing, stays
pub extended-there : (m : Files) (k bytes piece : List ℕ) → file m k ≡ Some bytes → extended m k piece ≡ with_file m k (bytes ++ piece)
extended-there m k bytes piece there = ap (λ f. option_map_or (λ b. with_file m k (b ++ piece)) f m) there

pub extended-missing : (m : Files) (k piece : List ℕ) → file m k ≡ None → extended m k piece ≡ m
extended-missing m k piece none = ap (λ f. option_map_or (λ b. with_file m k (b ++ piece)) f m) none

pub extended-nil : (m : Files) (k : List ℕ) → extended m k [] ≡ m
extended-nil m k = step (file m k) refl
  where
    step : (f : Option (List ℕ)) → file m k ≡ f → extended m k [] ≡ m
    step None h = extended-missing m k [] h
    step (Some bytes) h = extended-there m k bytes [] h ∙ ap (with_file m k) (append-nil bytes) ∙ with_file-same m k bytes h
