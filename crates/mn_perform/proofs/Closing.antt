-- Files that are begun, and files that are whole.
use Rattle.std.proofs.Common.{◌≡◌, ℕ, zero, suc, ◌<◌, List, [], ◌∷◌, ◌++◌, map, length, replicate, Option, Some, None, Result, refl, sym, ◌∙◌, ap, subst}
use Rattle.std.proofs.Common.{append_assoc}
use Rattle.std.specs.Option.{ForSome}
use Rattle.std.specs.List.{flat_map}
use Rattle.mn_wiring.specs.Wiring.{nodes_of}
use Rattle.mn_edge.specs.declared.device.DeviceBad.{DeviceBad}
use Rattle.mn_edge.specs.Faults.{CountedUnless}
use Rattle.mn_edge.specs.Files.{Files}
use Rattle.mn_edge.specs.Kept.{HoldsOn, BeginsOn, Framed, Lacking, held_for, none_held}
use Rattle.mn_edge.specs.KeptLaws.{begins_on_more, framed_both, begun-holds, begun-framed, begun-there}
use Rattle.mn_edge.specs.Laid.{named, all_written, part_written}
use Rattle.mn_edge.specs.Written.{laid, PartWritten, Stands}
use Rattle.mn_topo.specs.Network.{Network, wiring_of}
use Rattle.mn_topo.specs.declared.steps.JournalEntry.{JournalEntry}
use Rattle.mn_frame_laws.specs.Given.{given}
use Rattle.mn_output_laws.specs.Moments.{moments_of}
use Rattle.mn_output_laws.specs.Files.{OutputFile, Labels, files_of, file_name}
use Rattle.mn_output_laws.specs.Contents.{output, head_of, tail_of, adds, label_lines, whole}
use Rattle.mn_files.specs.Numbers.{file_at}
use Rattle.mn_files.proofs.Places.{labels_are}
use Rattle.mn_perform.specs.Recorded.{BooksNow, IsFor, Records, contents_at, whole_at}
use Rattle.mn_perform.specs.Adding.{Adds, MayAdd, with_part, only_in}
use Rattle.mn_perform.specs.Parts.{by_number}
use Rattle.mn_perform.proofs.Adding.{holds_as, begins_as, writes_then}
use Rattle.mn_perform.proofs.Same.{in_place}
use Rattle.mn_perform.proofs.Opening.{named_output, labels_tail, begun_contents}

-- 1. Files that are begun

output_names : (folder : List ℕ) (t : Network) (capture : List (List ℕ)) (entries : List JournalEntry) (outs : List OutputFile) (f : OutputFile → List ℕ) →
    map (λ (x : List ℕ × List ℕ). x.0) (map (λ out. (file_name folder t out, f out)) outs) ≡ map (file_name folder t) outs
output_names folder t capture entries [] f = refl
output_names folder t capture entries (out ∷ outs) f = ap (λ l. file_name folder t out ∷ l) (output_names folder t capture entries outs f)

pub names_of_output : (folder : List ℕ) (t : Network) (capture : List (List ℕ)) (entries : List JournalEntry) →
    map (λ (x : List ℕ × List ℕ). x.0) (output folder t capture entries) ≡ map (file_name folder t) (files_of t)
names_of_output folder t capture entries = output_names folder t capture entries (files_of t) (whole t capture entries)

pub framed_begun : (names : List (List ℕ)) (old new : Option Files) →
    (old ≡ None → new ≡ None) → ForSome old (λ m. Stands names [] m new) → Framed names old new
framed_begun names old new silent begun = record {
  silent = silent;
  stays = λ all. begun-there names all.now new (begun all.now all.told);
  others = λ before is. (begun-framed names before new (begun before is)).others before refl;
}

-- with their headers they hold what no step has added to
pub heads_hold : (t : Network) (capture : List (List ℕ)) (a b : BooksNow) (m : Files) (f g : Option Files) (n : ℕ) → a.held ≡ replicate n [] →
    Stands a.names [] m f → Adds (by_number t head_of) a b f g → Records t [] capture b g
heads_hold t capture a b m f g n held stands adds =
    holds_as b.names (with_part (λ _. []) (by_number t head_of)) (contents_at t capture []) b.held g
    (λ k within. begun_contents t capture (file_at t k))
    (adds (λ _. []) (subst (λ h. HoldsOn a.names (λ _. []) h f) (sym held) (begun-holds a.names m f n stands)))

heads_begin : (t : Network) (capture : List (List ℕ)) (entries : List JournalEntry) (k : ℕ) →
    (rest : List ℕ) × (with_part (λ _. []) (by_number t head_of) k ++ rest ≡ whole_at t capture entries k)
heads_begin t capture entries k = (
  flat_map (adds t capture (file_at t k)) (moments_of entries) ++ tail_of t entries (file_at t k),
  sym (append_assoc (head_of (file_at t k)) (flat_map (adds t capture (file_at t k)) (moments_of entries)) (tail_of t entries (file_at t k))),
)

-- a fault leaves a part of the output of every run
pub heads_part : (folder : List ℕ) (t : Network) (capture : List (List ℕ)) (entries : List JournalEntry) (a b : BooksNow) (m : Files) (f g : Option Files)
    (n : ℕ) →
    a.names ≡ map (file_name folder t) (files_of t) → b.names ≡ a.names → a.held ≡ replicate n [] → Stands a.names [] m f → Framed a.names f g →
    MayAdd (by_number t head_of) a b f g → PartWritten (output folder t capture entries) m g
heads_part folder t capture entries a b m f g n named_so same held stands framed may =
    subst (λ files. PartWritten files m g) (ap (λ names. named names (whole_at t capture entries)) (same ∙ named_so) ∙ named_output folder t capture entries)
    (part_written b.names (whole_at t capture entries) m g
    (subst (λ names. Framed names (Some m) g) (sym same) (framed_both a.names (Some m) f g (begun-framed a.names m f stands) framed))
    (begins_on_more b.names (with_part (λ _. []) (by_number t head_of)) (whole_at t capture entries) g (heads_begin t capture entries)
    (may (λ _. []) (subst (λ h. HoldsOn a.names (λ _. []) h f) (sym held) (begun-holds a.names m f n stands)))))

-- 2. Files that are whole

abbrev pub all_labels : Network → List JournalEntry → List ℕ
all_labels t entries = flat_map (λ node. label_lines t node (given t entries node).given) (nodes_of (wiring_of t))

whole_is : (t : Network) (capture : List (List ℕ)) (entries : List JournalEntry) (k : ℕ) → k < length (files_of t) →
    with_part (contents_at t capture entries) (only_in 1 (all_labels t entries)) k ≡ whole_at t capture entries k
whole_is t capture entries k within =
    ap (λ l. contents_at t capture entries k ++ l) (in_place t Labels 1 k (all_labels t entries) (labels_are t) within)
    ∙ labels_tail t capture entries (file_at t k)

pub holds_whole : (t : Network) (capture : List (List ℕ)) (entries : List JournalEntry) (a b : BooksNow) (f g : Option Files) → IsFor a t → b.names ≡ a.names →
    Adds (only_in 1 (all_labels t entries)) a b f g → Records t entries capture a f → HoldsOn b.names (whole_at t capture entries) b.held g
holds_whole t capture entries a b f g is same adds records =
    holds_as b.names (with_part (contents_at t capture entries) (only_in 1 (all_labels t entries))) (whole_at t capture entries) b.held g
    (λ k within. whole_is t capture entries k (subst (λ n. k < n) (ap length same ∙ is.files) within)) (adds (contents_at t capture entries) records)

pub begins_whole : (t : Network) (capture : List (List ℕ)) (entries : List JournalEntry) (a b : BooksNow) (f g : Option Files) → IsFor a t → b.names ≡ a.names →
    MayAdd (only_in 1 (all_labels t entries)) a b f g → Records t entries capture a f → BeginsOn b.names (whole_at t capture entries) g
begins_whole t capture entries a b f g is same may records =
    begins_as b.names (with_part (contents_at t capture entries) (only_in 1 (all_labels t entries))) (whole_at t capture entries) g
    (λ k within. whole_is t capture entries k (subst (λ n. k < n) (ap length same ∙ is.files) within)) (may (contents_at t capture entries) records)

none_for : (held : List (List ℕ)) (k : ℕ) → held_for (none_held held) k ≡ []
none_for [] k = refl
none_for (h ∷ held) zero = refl
none_for (h ∷ held) (suc k) = none_for held k

-- once nothing waits any more
pub all_is_laid : (names : List (List ℕ)) (contents : ℕ → List ℕ) (held now : List (List ℕ)) (base : Files) (after : Option Files) → now ≡ none_held held →
    Framed names (Some base) after → HoldsOn names contents now after → after ≡ Some (laid (named names contents) base)
all_is_laid names contents held now base after is framed holds =
    all_written names contents now base after framed (λ k. ap (λ h. held_for h k) is ∙ none_for held k) holds

-- 3. Files that are ended; `a` is what stood as it was seen

-- where a label can't be put
pub labels_part : (t : Network) (capture : List (List ℕ)) (entries : List JournalEntry) (seen a b : BooksNow) (base : Files) (f g : Option Files) → seen ≡ a →
    b.names ≡ seen.names → Framed seen.names f g → MayAdd (only_in 1 (all_labels t entries)) seen b f g → IsFor a t → Framed a.names (Some base) f →
    Records t entries capture a f → PartWritten (named a.names (whole_at t capture entries)) base g
labels_part t capture entries seen a b base f g same names framed may =
    subst (λ x. IsFor x t → Framed x.names (Some base) f → Records t entries capture x f → PartWritten (named x.names (whole_at t capture entries)) base g) same
    (λ is before records.
    part_written seen.names (whole_at t capture entries) base g (framed_both seen.names (Some base) f g before framed)
    (subst (λ n. BeginsOn n (whole_at t capture entries) g) names (begins_whole t capture entries seen b f g is names may records)))

-- where what waits can't be appended
pub end_part : (t : Network) (capture : List (List ℕ)) (entries : List JournalEntry) (seen a b : BooksNow) (base : Files) (f g h : Option Files) → seen ≡ a →
    b.names ≡ seen.names → Framed seen.names f g → Framed b.names g h → Adds (only_in 1 (all_labels t entries)) seen b f g →
    ((contents : ℕ → List ℕ) → HoldsOn b.names contents b.held g → BeginsOn b.names contents h) → IsFor a t → Framed a.names (Some base) f →
    Records t entries capture a f → PartWritten (named a.names (whole_at t capture entries)) base h
end_part t capture entries seen a b base f g h same names framed after adds part =
    subst (λ x. IsFor x t → Framed x.names (Some base) f → Records t entries capture x f → PartWritten (named x.names (whole_at t capture entries)) base h) same
    (λ is before records.
    part_written seen.names (whole_at t capture entries) base h
    (framed_both seen.names (Some base) f h before (framed_both seen.names f g h framed (subst (λ n. Framed n g h) names after)))
    (subst (λ n. BeginsOn n (whole_at t capture entries) h) names
    (part (whole_at t capture entries) (holds_whole t capture entries seen b f g is names adds records))))

-- and where it is
pub end_whole : (t : Network) (capture : List (List ℕ)) (entries : List JournalEntry) (seen a b : BooksNow) (left : List (List ℕ)) (base : Files)
    (f g h : Option Files) →
    seen ≡ a → b.names ≡ seen.names → Framed seen.names f g → Framed b.names g h → Adds (only_in 1 (all_labels t entries)) seen b f g →
    left ≡ none_held b.held →
    ((contents : ℕ → List ℕ) → HoldsOn b.names contents b.held g → HoldsOn b.names contents left h) → IsFor a t → Framed a.names (Some base) f →
    Records t entries capture a f → h ≡ Some (laid (named a.names (whole_at t capture entries)) base)
end_whole t capture entries seen a b left base f g h same names framed after adds none kept =
    subst (λ x. IsFor x t → Framed x.names (Some base) f → Records t entries capture x f →
    h ≡ Some (laid (named x.names (whole_at t capture entries)) base)) same
    (λ is before records.
    all_is_laid seen.names (whole_at t capture entries) b.held left base h none
    (framed_both seen.names (Some base) f h before (framed_both seen.names f g h framed (subst (λ n. Framed n g h) names after)))
    (subst (λ n. HoldsOn n (whole_at t capture entries) left h) names
    (kept (whole_at t capture entries) (holds_whole t capture entries seen b f g is names adds records))))

pub end_framed : (seen a b : BooksNow) (f g h : Option Files) → seen ≡ a → b.names ≡ seen.names → Framed seen.names f g → Framed b.names g h →
    Framed a.names f h
end_framed seen a b f g h same names framed after =
    subst (λ x. Framed x.names f h) same (framed_both seen.names f g h framed (subst (λ n. Framed n g h) names after))

pub end_writes : {T : Type 0} (seen a b : BooksNow) (f g : Option Files) (first before now : Option ℕ) (result : Result T DeviceBad) → seen ≡ a →
    b.names ≡ seen.names → Framed seen.names f g → before ≡ first → CountedUnless (Lacking b.names g) before now result →
    CountedUnless (Lacking a.names f) first now result
end_writes seen a b f g first before now result same names framed left counted =
    subst (λ x. CountedUnless (Lacking x.names f) first now result) same
    (writes_then seen.names b.names f g first before now result names framed left counted)
