-- The one file that grows.
use Rattle.std.proofs.Common.{◌≡◌, ◌<◌, ◌+◌, ℕ, zero, suc, true, List, [], ◌∷◌, ◌++◌, length, take, drop, Option, Some, None, refl, sym, ◌∙◌, ap, subst, arith}
use Rattle.std.proofs.Common.{append_assoc, append-nil}
use Rattle.std.specs.Prelude.{slice_get}
use Rattle.std.specs.List.{flat_map}
use Rattle.std.proofs.lemmas.List.{take-append-drop}
use Rattle.std.proofs.lemmas.List.Concat.{flat_map-append}
use Rattle.mn_edge.specs.Files.{Files}
use Rattle.mn_edge.specs.Kept.{HoldsOn, BeginsOn, Framed, grown, none_held}
use Rattle.mn_edge.specs.KeptLaws.{begins_on_more, framed_both, begun-holds, begun-framed}
use Rattle.mn_edge.specs.Laid.{named, part_written}
use Rattle.mn_edge.specs.Memory.{all_differ}
use Rattle.mn_edge.specs.Written.{laid, Stands, PartWritten}
use Rattle.mn_pcap.specs.Format.{header}
use Rattle.mn_perform.proofs.Adding.{holds_as, begins_as}
use Rattle.mn_perform.proofs.Closing.{all_is_laid}
use Rattle.mn_join_laws.specs.Course.{Exit}
use Rattle.mn_join_run.specs.Report.{exit_record, exits_file}
use Rattle.mn_join_run.specs.Outside.{FileNow, Holding, Beginning}

-- one name differs from all others
pub one_differs : (names : List (List ℕ)) → length names ≡ 1 → all_differ names ≡ true
one_differs [] e = absurd (let f : 0 ≡ 1 = e in omega (arith, f))
one_differs (n ∷ []) e = refl
one_differs (n ∷ m ∷ names) e = absurd (let f : suc (suc (length names)) ≡ 1 = e in omega (arith, f))

-- the only file is the first
only : (bytes piece : List ℕ) (k : ℕ) → k < 1 → grown (λ _. bytes) 0 piece k ≡ bytes ++ piece
only bytes piece zero within = refl
only bytes piece (suc k) within = absurd (omega (arith, within))

pub holds_grown : (names held : List (List ℕ)) (bytes piece : List ℕ) (files : Option Files) → length names ≡ 1 →
    HoldsOn names (grown (λ _. bytes) 0 piece) held files → Holding names (bytes ++ piece) held files
holds_grown names held bytes piece files one h =
    holds_as names (grown (λ _. bytes) 0 piece) (λ _. bytes ++ piece) held files (λ k within. only bytes piece k (subst (λ n. k < n) one within)) h

pub begins_grown : (names : List (List ℕ)) (bytes piece : List ℕ) (files : Option Files) → length names ≡ 1 →
    BeginsOn names (grown (λ _. bytes) 0 piece) files → Beginning names (bytes ++ piece) files
begins_grown names bytes piece files one h =
    begins_as names (grown (λ _. bytes) 0 piece) (λ _. bytes ++ piece) files (λ k within. only bytes piece k (subst (λ n. k < n) one within)) h

-- a first part of the first of two pieces is one of both
pub begins_both : (names : List (List ℕ)) (bytes one other : List ℕ) (files : Option Files) → Beginning names (bytes ++ one) files →
    Beginning names (bytes ++ (one ++ other)) files
begins_both names bytes one other files h =
    begins_on_more names (λ _. bytes ++ one) (λ _. bytes ++ (one ++ other)) files (λ k. (other, append_assoc bytes one other)) h

-- the names and what waits, as they are seen from inside
module _ (names other held later : List (List ℕ)) (a : FileNow) (piece : List ℕ) (f g : Option Files) (same : names ≡ other)
    (is : record { names = other; held = held } ≡ a) (one : length other ≡ 1) where
  pub grows : ((contents : ℕ → List ℕ) → HoldsOn names contents held f → HoldsOn names (grown contents 0 piece) later g) →
      (bytes : List ℕ) → Holding a.names bytes a.held f → Holding a.names (bytes ++ piece) later g
  grows put bytes =
      subst (λ (x : FileNow). Holding x.names bytes x.held f → Holding x.names (bytes ++ piece) later g) is
      (λ h. subst (λ n. Holding n (bytes ++ piece) later g) same
      (holds_grown names later bytes piece g (ap length same ∙ one) (put (λ _. bytes) (subst (λ n. Holding n bytes held f) (sym same) h))))

  pub grows_in_part : ((contents : ℕ → List ℕ) → HoldsOn names contents held f → BeginsOn names (grown contents 0 piece) g) →
      (bytes : List ℕ) → Holding a.names bytes a.held f → Beginning a.names (bytes ++ piece) g
  grows_in_part put bytes =
      subst (λ (x : FileNow). Holding x.names bytes x.held f → Beginning x.names (bytes ++ piece) g) is
      (λ h. subst (λ n. Beginning n (bytes ++ piece) g) same
      (begins_grown names bytes piece g (ap length same ∙ one) (put (λ _. bytes) (subst (λ n. Holding n bytes held f) (sym same) h))))

  pub ends_whole : (m : Files) → later ≡ none_held held → ((contents : ℕ → List ℕ) → HoldsOn names contents held f → HoldsOn names contents later g) →
      Framed names f g → (bytes : List ℕ) → Framed a.names (Some m) f → Holding a.names bytes a.held f → g ≡ Some (laid (named a.names (λ _. bytes)) m)
  ends_whole m none kept framed bytes =
      subst (λ (x : FileNow). Framed x.names (Some m) f → Holding x.names bytes x.held f → g ≡ Some (laid (named x.names (λ _. bytes)) m)) is
      (λ before h. all_is_laid other (λ _. bytes) held later m g none (framed_both other (Some m) f g before (subst (λ n. Framed n f g) same framed))
      (subst (λ n. Holding n bytes later g) same (kept (λ _. bytes) (subst (λ n. Holding n bytes held f) (sym same) h))))

  pub ends_in_part : ((contents : ℕ → List ℕ) → HoldsOn names contents held f → BeginsOn names contents g) →
      (bytes : List ℕ) → Holding a.names bytes a.held f → Beginning a.names bytes g
  ends_in_part part bytes =
      subst (λ (x : FileNow). Holding x.names bytes x.held f → Beginning x.names bytes g) is
      (λ h. subst (λ n. Beginning n bytes g) same (part (λ _. bytes) (subst (λ n. Holding n bytes held f) (sym same) h)))

-- 2. A piece and another

module _ (names other : List (List ℕ)) (bytes one more piece : List ℕ) (held later : List (List ℕ)) (f g : Option Files) (same : other ≡ names)
    (both : one ++ more ≡ piece) where
  pub both_grow : ((bytes : List ℕ) → Holding other bytes held f → Holding other (bytes ++ more) later g) → Holding names (bytes ++ one) held f →
      Holding names (bytes ++ piece) later g
  both_grow grows h =
      subst (λ n. Holding n (bytes ++ piece) later g) same
      (subst (λ b. Holding other b later g) (append_assoc bytes one more ∙ ap (λ l. bytes ++ l) both)
      (grows (bytes ++ one) (subst (λ n. Holding n (bytes ++ one) held f) (sym same) h)))

  pub second_grows : ((bytes : List ℕ) → Holding other bytes held f → Beginning other (bytes ++ more) g) → Holding names (bytes ++ one) held f →
      Beginning names (bytes ++ piece) g
  second_grows grows h =
      subst (λ n. Beginning n (bytes ++ piece) g) same
      (subst (λ b. Beginning other b g) (append_assoc bytes one more ∙ ap (λ l. bytes ++ l) both)
      (grows (bytes ++ one) (subst (λ n. Holding n (bytes ++ one) held f) (sym same) h)))

pub first_grows : (names : List (List ℕ)) (bytes one more piece : List ℕ) (f : Option Files) → one ++ more ≡ piece → Beginning names (bytes ++ one) f →
    Beginning names (bytes ++ piece) f
first_grows names bytes one more piece f both h =
    subst (λ p. Beginning names (bytes ++ p) f) both (begins_both names bytes one more f h)

-- 3. One exit after another

pub exit_more : (exits : List Exit) (k : ℕ) (exit : Exit) → slice_get exits k ≡ Some exit → take (k + 1) exits ≡ take k exits ++ exit ∷ []
exit_more [] k exit is = absurd (let e : None ≡ Some exit = is in cc)
exit_more (x ∷ exits) zero exit is = ap (λ y. y ∷ []) (let e : Some x ≡ Some exit = is in cc)
exit_more (x ∷ exits) (suc k) exit is =
    ap (λ n. take n (x ∷ exits)) (let e : suc k + 1 ≡ suc (k + 1) = omega arith in e) ∙ ap (λ l. x ∷ l) (exit_more exits k exit is)

pub exit_within : (exits : List Exit) (k : ℕ) (exit : Exit) → slice_get exits k ≡ Some exit → k < length exits
exit_within [] k exit is = absurd (let e : None ≡ Some exit = is in cc)
exit_within (x ∷ exits) zero exit is = omega arith
exit_within (x ∷ exits) (suc k) exit is = let h = exit_within exits k exit is in omega (arith, h)

pub no_exit_more : (exits : List Exit) (k : ℕ) → slice_get exits k ≡ None → take k exits ≡ exits
no_exit_more [] zero is = refl
no_exit_more [] (suc k) is = refl
no_exit_more (x ∷ exits) zero is = absurd (let e : Some x ≡ None = is in cc)
no_exit_more (x ∷ exits) (suc k) is = ap (λ l. x ∷ l) (no_exit_more exits k is)

-- the records of some exits are a first part of those of all
pub exits_begin : (exits : List Exit) (k : ℕ) → (rest : List ℕ) × (flat_map exit_record (take k exits) ++ rest ≡ flat_map exit_record exits)
exits_begin exits k = (
  flat_map exit_record (drop k exits),
  sym (flat_map-append exit_record (take k exits) (drop k exits))
      ∙ ap (flat_map exit_record) (take-append-drop k exits),
)

pub exits_more : (exits : List Exit) (k : ℕ) (exit : Exit) → slice_get exits k ≡ Some exit →
    flat_map exit_record (take k exits) ++ exit_record exit ≡ flat_map exit_record (take (k + 1) exits)
exits_more exits k exit is =
    sym (ap (flat_map exit_record) (exit_more exits k exit is) ∙ flat_map-append exit_record (take k exits) (exit ∷ [])
    ∙ ap (λ l. flat_map exit_record (take k exits) ++ l) (append-nil (exit_record exit)))

-- 4. The file is begun

module _ (seen : List (List ℕ)) (old : FileNow) (m : Files) (f g : Option Files) (piece : List ℕ) (are : seen ≡ old.names) (none : old.held ≡ [] ∷ [])
    (is : piece ≡ header 228) (stands : Stands seen [] m f) where
  empty : Holding old.names [] old.held f
  empty = subst (λ h. Holding old.names [] h f) (sym none) (subst (λ n. Holding n [] ([] ∷ []) f) are (begun-holds seen m f 1 stands))

  pub opened : (new later : List (List ℕ)) → new ≡ old.names →
      ((bytes : List ℕ) → Holding old.names bytes old.held f → Holding old.names (bytes ++ piece) later g) → Holding new (exits_file []) later g
  opened new later same grows =
      subst (λ n. Holding n (exits_file []) later g) (sym same)
      (subst (λ bytes. Holding old.names bytes later g) (is ∙ sym (append-nil (header 228))) (grows [] empty))

  pub open_fails : (name : List ℕ) (exits : List Exit) → old.names ≡ name ∷ [] → Framed old.names f g →
      ((bytes : List ℕ) → Holding old.names bytes old.held f → Beginning old.names (bytes ++ piece) g) → PartWritten ((name, exits_file exits) ∷ []) m g
  open_fails name exits named_so framed part =
      let standing : Stands old.names [] m f = subst (λ n. Stands n [] m f) are stands in
      let longer : Beginning old.names (exits_file exits) g = first_grows old.names [] piece (flat_map exit_record exits) (exits_file exits) g
      (ap (λ head. head ++ flat_map exit_record exits) is) (part [] empty) in
      subst (λ n. PartWritten (named n (λ _. exits_file exits)) m g) named_so
      (part_written old.names (λ _. exits_file exits) m g (framed_both old.names (Some m) f g (begun-framed old.names m f standing) framed) longer)
