-- A file of a longer journal, and the journal's own file.
use Rattle.std.proofs.Common.{◌≡◌, ℕ, List, [], ◌∷◌, ◌++◌, ap, refl, sym, ◌∙◌, append_assoc, append-nil}
use Rattle.std.specs.List.{flat_map}
use Rattle.std.proofs.lemmas.List.Concat.{flat_map-append}
use Rattle.mn_topo.specs.Network.{Network}
use Rattle.mn_topo.specs.declared.steps.JournalEntry.{JournalEntry}
use Rattle.mn_journal.specs.Lines.{line_of}
use Rattle.mn_output_laws.specs.Moments.{Moment, moments_from, moments_of}
use Rattle.mn_output_laws.specs.Files.{OutputFile, Journal}
use Rattle.mn_output_laws.specs.Contents.{contents, adds, head_of, whole}

abbrev pub at : List JournalEntry → JournalEntry → Moment
at before entry = record { before = before; entry = entry }

pub longer : (before entries : List JournalEntry) (last : JournalEntry) →
    moments_from before (entries ++ last ∷ []) ≡ moments_from before entries ++ at (before ++ entries) last ∷ []
longer before [] last = ap (λ b. at b last ∷ []) (sym (append-nil before))
longer before (entry ∷ entries) last =
    ap (λ moments. at before entry ∷ moments)
    (longer (before ++ entry ∷ []) entries last
    ∙ ap (λ b. moments_from (before ++ entry ∷ []) entries ++ at b last ∷ []) (append_assoc before (entry ∷ []) entries))

pub adding : (topology : Network) (capture : List (List ℕ)) (entries : List JournalEntry) (entry : JournalEntry) (out : OutputFile) →
    contents topology capture (entries ++ entry ∷ []) out
    ≡ contents topology capture entries out ++ adds topology capture out (at entries entry)
adding topology capture entries entry out =
    let each : Moment → List ℕ = adds topology capture out in
    let before : List ℕ = flat_map each (moments_of entries) in
    ap (λ moments. head_of out ++ flat_map each moments) (longer [] entries entry)
    ∙ (ap (λ bytes. head_of out ++ bytes)
    (flat_map-append each (moments_of entries) (at entries entry ∷ []) ∙ ap (λ l. before ++ l) (append-nil (each (at entries entry))))
    ∙ sym (append_assoc (head_of out) before (each (at entries entry))))

lines : (topology : Network) (capture : List (List ℕ)) (before entries : List JournalEntry) →
    flat_map (adds topology capture Journal) (moments_from before entries) ≡ flat_map (line_of topology) entries
lines topology capture before [] = refl
lines topology capture before (entry ∷ entries) =
    ap (λ bytes. line_of topology entry ++ bytes) (lines topology capture (before ++ entry ∷ []) entries)

pub steps_are_written : (topology : Network) (capture : List (List ℕ)) (entries : List JournalEntry) →
    whole topology capture entries Journal ≡ flat_map (line_of topology) entries
steps_are_written topology capture entries = append-nil (contents topology capture entries Journal) ∙ lines topology capture [] entries
