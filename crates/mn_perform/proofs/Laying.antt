-- The files of a run, laid over those of before.
use Rattle.std.proofs.Common.{◌≡◌, ℕ, ◌<◌, Bool, true, false, ◌&&◌, nat_lt, nat_eq, ◌==◌, List, [], ◌∷◌, ◌++◌, map, length, length-append}
use Rattle.std.proofs.Common.{append_assoc, take, Option, Some, refl, sym, ◌∙◌, ap, subst, arith}
use Rattle.std.specs.Prelude.{slice_index_or, ◌||◌}
use Rattle.std.proofs.lemmas.Bool.Decides.{nat_tests}
use lib.Pointwise.{pointwise}
use Rattle.mn_edge.specs.Files.{Files, file}
use Rattle.mn_edge.specs.Kept.{BeginsOn, Framed}
use Rattle.mn_edge.specs.KeptLaws.{begins_on_more}
use Rattle.mn_edge.specs.Laid.{named, part_written}
use Rattle.mn_edge.specs.FileLaws.{same_name-eq}
use Rattle.mn_edge.specs.Written.{PartWritten, same_name, is_known}
use Rattle.mn_capture.specs.Packets.{CaptureView, packets_in}
use Rattle.mn_topo.specs.Network.{Network}
use Rattle.mn_topo.specs.declared.steps.JournalEntry.{JournalEntry}
use Rattle.mn_output_laws.specs.Files.{OutputFile, Journal, files_of, file_name, base_name}
use Rattle.mn_output_laws.specs.Contents.{contents, whole, tail_of, output}
use Rattle.mn_perform.specs.Recorded.{contents_at, whole_at, packets_there, told_packets}
use Rattle.mn_sched.specs.Playing.{IsFirstPart}
use Rattle.mn_perform.specs.Inside.{is_inside}
use Rattle.mn_perform.specs.Whole.{running}
use Rattle.mn_perform.proofs.Growing.{contents_first}

named_each : {A : Type 0} (f g : A → List ℕ) (xs : List A) (d : A) → named (map f xs) (λ k. g (slice_index_or xs k d)) ≡ map (λ x. (f x, g x)) xs
named_each f g [] d = refl
named_each f g (x ∷ xs) d = ap (λ l. (f x, g x) ∷ l) (named_each f g xs d)

pub named_output : (folder : List ℕ) (t : Network) (all : List (List ℕ)) (entries : List JournalEntry) →
    named (map (file_name folder t) (files_of t)) (whole_at t all entries) ≡ output folder t all entries
named_output folder t all entries = named_each (file_name folder t) (whole t all entries) (files_of t) Journal

pub named_running : (folder : List ℕ) (t : Network) (all : List (List ℕ)) (entries : List JournalEntry) →
    named (map (file_name folder t) (files_of t)) (contents_at t all entries) ≡ running folder t all entries
named_running folder t all entries = named_each (file_name folder t) (contents t all entries) (files_of t) Journal

-- files that begin as a first part of the journal makes them
pub cut_off : (folder : List ℕ) (t : Network) (all : List (List ℕ)) (front entries : List JournalEntry) (names : List (List ℕ)) (m : Files)
    (after : Option Files) →
    names ≡ map (file_name folder t) (files_of t) → IsFirstPart front entries → Framed names (Some m) after → BeginsOn names (contents_at t all front) after
    → PartWritten (output folder t all entries) m after
cut_off folder t all front entries names m after are first framed begins =
    subst (λ f. PartWritten f m after) (ap (λ n. named n (whole_at t all entries)) are ∙ named_output folder t all entries)
    (part_written names (whole_at t all entries) m after framed
    (begins_on_more names (contents_at t all front) (whole_at t all entries) after
    (λ k. let c = contents_first t all front entries (slice_index_or (files_of t) k Journal) first in (
      c.0 ++ tail_of t entries (slice_index_or (files_of t) k Journal),
      more (contents t all front (slice_index_or (files_of t) k Journal)) c.0
          (tail_of t entries (slice_index_or (files_of t) k Journal)) c.1,
    )) begins))
  where
    more : (a b c : List ℕ) {d : List ℕ} → (a ++ b) ≡ d → (a ++ (b ++ c)) ≡ d ++ c
    more a b c e = sym (append_assoc a b c) ∙ ap (λ l. l ++ c) e

-- 2. A name outside the folder

longer : (folder base : List ℕ) → length folder < length (folder ++ 47 ∷ base)
longer folder base = let e = length-append folder (47 ∷ base) in omega (arith, e)

less_is : (a b : ℕ) → a < b → nat_lt a b ≡ true
less_is a b h = grind (arith, nat_tests, h)

front_same : (folder rest : List ℕ) → pointwise nat_eq (take (length folder) (folder ++ rest)) folder ≡ true
front_same [] rest = refl
front_same (c ∷ folder) rest = ap (λ b. b && pointwise nat_eq (take (length folder) (folder ++ rest)) folder) (same c) ∙ front_same folder rest
  where
    same : (n : ℕ) → nat_eq n n ≡ true
    same n = grind (arith, nat_tests)

slash_there : (folder base : List ℕ) → slice_index_or (folder ++ 47 ∷ base) (length folder) 0 ≡ 47
slash_there [] base = refl
slash_there (c ∷ folder) base = slash_there folder base

inside : (folder base : List ℕ) → is_inside (folder ++ 47 ∷ base) folder ≡ true
inside folder base =
    ap (λ b. b && (pointwise nat_eq (take (length folder) (folder ++ 47 ∷ base)) folder && (slice_index_or (folder ++ 47 ∷ base) (length folder) 0 == 47)))
    (less_is (length folder) (length (folder ++ 47 ∷ base)) (longer folder base))
    ∙ ap (λ b. b && (slice_index_or (folder ++ 47 ∷ base) (length folder) 0 == 47)) (front_same folder (47 ∷ base))
    ∙ ap (λ n. n == 47) (slash_there folder base)

pub outside : (folder : List ℕ) (t : Network) (files : List OutputFile) (name : List ℕ) → is_inside name folder ≡ false →
    is_known (map (file_name folder t) files) name ≡ false
outside folder t [] name h = refl
outside folder t (f ∷ fs) name h =
    ap (λ b. b || is_known (map (file_name folder t) fs) name) (by (same_name name (file_name folder t f)) refl) ∙ outside folder t fs name h
  where
    by : (b : Bool) → same_name name (file_name folder t f) ≡ b → same_name name (file_name folder t f) ≡ false
    by false e = e
    by true e =
        absurd (let x : false ≡ true = sym h ∙ ap (λ n. is_inside n folder) (same_name-eq name (file_name folder t f) e) ∙ inside folder (base_name t f) in
        cc)

-- 3. The packets of the capture's file, which no file of the run is

pub told_is : (names : List (List ℕ)) (capture : CaptureView) (m : Files) (after : Option Files) (bytes : List ℕ) → is_known names capture.name ≡ false
    → Framed names (Some m) after → file m capture.name ≡ Some bytes → told_packets after names capture ≡ Some (packets_in capture bytes)
told_is names capture m after bytes unknown framed there =
    let x = framed.others m refl in
    ap (λ o. told_packets o names capture) x.1
    ∙ ap (λ b. packets_there b capture (file x.0 capture.name)) unknown
    ∙ ap (packets_there false capture) (x.2 capture.name unknown ∙ there)
