-- From files that grow to files that are laid over those of before: what stands after a run, and after a cut.
use Rattle.std.proofs.Common.{◌≡◌, ℕ, zero, suc, ◌<◌, Bool, true, false, cond, ◌||◌, List, [], ◌∷◌, ◌++◌, map, take, length, Option, Some, None, refl, sym}
use Rattle.std.proofs.Common.{◌∙◌, ap, subst, arith}
use Rattle.std.proofs.lemmas.List.{append-nil}
use Rattle.mn_edge.specs.Files.{Files, file}
use Rattle.mn_edge.specs.Written.{same_name, is_known, each, written, laid, IsPrefix, IsPart, PartWritten, AllBegun, Stands}
use Rattle.mn_edge.specs.FileLaws.{same_name-eq, same_files, file-with_file}
use Rattle.mn_edge.specs.Kept.{name_of, held_for, HoldsOn, BeginsOn, Framed}
use Rattle.mn_edge.specs.KeptLaws.{same_some}

-- the names with their contents, in order
abbrev pub named : List (List ℕ) → (ℕ → List ℕ) → List (List ℕ × List ℕ)
named [] contents = []
named (name ∷ names) contents = (name, contents 0) ∷ named names (λ k. contents (suc k))

-- their names are the names
pub names-named : (names : List (List ℕ)) (contents : ℕ → List ℕ) → map (λ f. f.0) (named names contents) ≡ names
names-named [] contents = refl
names-named (name ∷ names) contents = ap (λ l. name ∷ l) (names-named names (λ k. contents (suc k)))

pub names-each : (names : List (List ℕ)) (f : List ℕ → List ℕ) → map (λ f. f.0) (each f names) ≡ names
names-each [] f = refl
names-each (name ∷ names) f = ap (λ l. name ∷ l) (names-each names f)

-- under each name stands what was laid under it, and else what stood before
file_is : (names : List (List ℕ)) (contents : ℕ → List ℕ) (m now : Files) (q : List ℕ) →
    ((k : ℕ) → k < length names → file now (name_of names k) ≡ Some (contents k)) →
    (is_known names q ≡ false → file now q ≡ file m q) → file (laid (named names contents) m) q ≡ file now q
file_is [] contents m now q here others = sym (others refl)
file_is (name ∷ names) contents m now q here others =
    file-with_file (laid (named names (λ k. contents (suc k))) m) name (contents 0) q
    ∙ by (same_name q name) refl
    (λ e. file_is names (λ k. contents (suc k)) m now q (λ k within. here (suc k) (omega (arith, within)))
    (λ h. others (ap (λ b. b || is_known names q) e ∙ h)))
  where
    by : (b : Bool) → same_name q name ≡ b → (same_name q name ≡ false → file (laid (named names (λ k. contents (suc k))) m) q ≡ file now q)
        → cond b (Some (contents 0)) (file (laid (named names (λ k. contents (suc k))) m) q) ≡ file now q
    by true e rest = sym (ap (file now) (same_name-eq q name e) ∙ here 0 (omega arith))
    by false e rest = rest e

-- all files are whole: the shelf is that of before with them laid over
pub all_laid : (names : List (List ℕ)) (contents : ℕ → List ℕ) (m now : Files) → ((k : ℕ) → k < length names → file now (name_of names k) ≡ Some (contents k))
    → ((q : List ℕ) → is_known names q ≡ false → file now q ≡ file m q) → now ≡ laid (named names contents) m
all_laid names contents m now here others = sym (same_files _ _ (λ q. file_is names contents m now q here (others q)))

abbrev or_nothing : Option (List ℕ) → List ℕ
or_nothing None = []
or_nothing (Some bytes) = bytes

parts : (names : List (List ℕ)) (some contents : ℕ → List ℕ) →
    ((k : ℕ) → k < length names → IsPrefix (some k) (contents k)) → IsPart (named names some) (named names contents)
parts [] some contents h = tt
parts (name ∷ names) some contents h =
    (refl, h 0 (omega arith), parts names (λ k. some (suc k)) (λ k. contents (suc k)) (λ k within. h (suc k) (omega (arith, within))))

-- files of which each holds a first part were all begun
pub all_begun : (names : List (List ℕ)) (contents : ℕ → List ℕ) (m : Files) (after : Option Files) → Framed names (Some m) after →
    BeginsOn names contents after → AllBegun (named names contents) m after
all_begun names contents m after framed begins =
    let front : ℕ → List ℕ = λ k. or_nothing (file begins.now (name_of names k)) in
    let x = framed.others m refl in
    record {
      stands = named names front;
      names = names-named names front ∙ sym (names-named names contents);
      is_part =
          parts names front contents (λ k within. let b = begins.begins k within in
          subst (λ l. IsPrefix l (contents k)) (sym (ap or_nothing b.there)) b.part);
      after_is = x.1 ∙ ap Some (all_laid names front m x.0
          (λ k within. let b = begins.begins k within in
          ap (λ f. file f (name_of names k)) (same_some x.0 begins.now after x.1 begins.told) ∙ b.there ∙ ap Some (sym (ap or_nothing b.there)))
          x.2);
    }

-- the call was cut off there: the files stand in part
pub part_written : (names : List (List ℕ)) (contents : ℕ → List ℕ) (m : Files) (after : Option Files) → Framed names (Some m) after →
    BeginsOn names contents after → PartWritten (named names contents) m after
part_written names contents m after framed begins =
    let b = all_begun names contents m after framed begins in record { stands = b.stands; is_part = b.is_part; after_is = b.after_is }

all_part : (fs : List (List ℕ × List ℕ)) → IsPart fs fs
all_part [] = tt
all_part (f ∷ fs) = (refl, ([], append-nil f.1), all_part fs)

-- whole files are also a first part of themselves
pub whole_part : (fs : List (List ℕ × List ℕ)) (m : Files) (after : Option Files) → after ≡ Some (laid fs m) → PartWritten fs m after
whole_part fs m after e = record { stands = fs; is_part = all_part fs; after_is = e }

-- nothing is held any more: all is written
pub all_written : (names : List (List ℕ)) (contents : ℕ → List ℕ) (held : List (List ℕ)) (m : Files) (after : Option Files) → Framed names (Some m) after
    → ((k : ℕ) → held_for held k ≡ []) → HoldsOn names contents held after → after ≡ Some (laid (named names contents) m)
all_written names contents held m after framed none holds =
    let x = framed.others m refl in
    x.1 ∙ ap Some (all_laid names contents m x.0
    (λ k within. let h = holds.holds k within in
    ap (λ f. file f (name_of names k)) (same_some x.0 holds.now after x.1 holds.told) ∙ h.there
    ∙ ap Some (sym (append-nil h.shelved) ∙ ap (λ l. h.shelved ++ l) (sym (none k)) ∙ h.whole))
    x.2)

-- the first few files were begun, and no more: the call was cut off
pub begun_part : (names : List (List ℕ)) (files : List (List ℕ × List ℕ)) (m : Files) (after : Option Files) (n : ℕ) → map (λ f. f.0) files ≡ names →
    Stands (take n names) [] m after → PartWritten files m after
begun_part names files m after n are stands = record { stands = written (take n names) []; is_part = few n names files are; after_is = stands }
  where
    few : (n : ℕ) (names : List (List ℕ)) (files : List (List ℕ × List ℕ)) → map (λ f. f.0) files ≡ names → IsPart (written (take n names) []) files
    few zero names files are = tt
    few (suc n) [] files are = tt
    few (suc n) (name ∷ names) [] are = let e : ◌≡◌ {A = List (List ℕ)} [] (name ∷ names) = are in
        absurd (let f : ◌≡◌ {A = List (List ℕ)} [] (name ∷ names) = e in cc)
    few (suc n) (name ∷ names) (f ∷ fs) are = let same : f.0 ≡ name = cc in let rest : map (λ f. f.0) fs ≡ names = cc in
        (sym same, (f.1, refl), few n names fs rest)
