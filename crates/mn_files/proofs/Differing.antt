-- No two files of a run have the same name.
use Rattle.std.proofs.Common.{ℕ, zero, suc, ◌≡◌, ◌+◌, ◌<◌, inl, inr, true, List, [], ◌∷◌, ◌++◌, map, length, refl, arith, sym, ◌∙◌, ap, subst, Some}
use Rattle.std.specs.Prelude.{◌==◌, not, slice_get, slice_index_or, codes}
use Rattle.std.specs.List.{flat_map, range_with_len}
use Rattle.std.proofs.lemmas.List.{append_cancel_left}
use Rattle.mn_base.proofs.Members.{In, in_append, in_map, in_filter, in_flat_map, in_range}
use Rattle.mn_wiring.specs.Wiring.{links_of}
use Rattle.mn_wiring.specs.declared.links.Dir.TheVariants.{Forth, Back}
use Rattle.mn_edge.specs.Memory.{all_differ}
use Rattle.mn_edge.specs.KeptLaws.{all_differ-from}
use Rattle.mn_topo.specs.Network.{Network, wiring_of}
use Rattle.mn_topo.specs.VrfTable.{is_edge}
use Rattle.mn_topo.specs.Lawful.{IsLawful}
use Rattle.mn_ledger.specs.Places.{edges}
use Rattle.mn_output_laws.specs.Files.{OutputFile, Frames, Said, Told, files_of, told_files, base_name, file_name}
use Rattle.mn_files.proofs.Numbered.{in_at, others}
use Rattle.mn_files.proofs.Places.{number, number_is}
use Rattle.mn_files.proofs.Reading.{IsFile, read, read-is}

-- 1. Of what kind each is

link_below : (t : Network) (l : ℕ) → In (links_of (wiring_of t)) l → l < length t.links
link_below t l i = let r = in_range 0 (length t.links) l i in let up : l < 0 + length t.links = r.1 in omega (arith, up)

edge_below : (t : Network) (e : ℕ) → In (edges t) e → e < length t.loopbacks
edge_below t e i =
    let r = in_range 0 (length t.loopbacks) e (in_filter (λ node. is_edge t.vrfs node) (range_with_len 0 (length t.loopbacks)) e i).0 in
    let up : e < 0 + length t.loopbacks = r.1 in
    omega (arith, up)

told_file : (t : Network) (out : OutputFile) → In (flat_map (told_files t) (edges t)) out → IsFile t out
told_file t out i =
    let from = in_flat_map (told_files t) (edges t) out i in
    let to = in_map (λ peer. Told from.0 peer) (others from.0 (edges t)) out from.2 in
    let peer = in_filter (λ p. not (from.0 == p)) (edges t) to.0 to.1 in
    subst (IsFile t) to.2 (edge_below t from.0 from.1, edge_below t to.0 peer.0)

said_file : (t : Network) (out : OutputFile) → In (flat_map (λ l. Said l Forth ∷ Said l Back ∷ []) (links_of (wiring_of t))) out → IsFile t out
said_file t out i =
    let from = in_flat_map (λ l. Said l Forth ∷ Said l Back ∷ []) (links_of (wiring_of t)) out i in
    let below : from.0 < length t.links = link_below t from.0 from.1 in
    elim from.2 [
      | inl e ↦ subst (IsFile t) e below
      | inr j ↦ elim j [ inl e ↦ subst (IsFile t) e below | inr k ↦ absurd k ]
    ]

frames_file : (t : Network) (out : OutputFile) → In (map (λ l. Frames l) (links_of (wiring_of t))) out → IsFile t out
frames_file t out i =
    let from = in_map (λ l. Frames l) (links_of (wiring_of t)) out i in
    subst (IsFile t) from.2 (link_below t from.0 from.1)

is_file : (t : Network) (out : OutputFile) → In (files_of t) out → IsFile t out
is_file t out i = elim i [
  | inl e ↦ subst (IsFile t) e tt
  | inr j ↦ elim j [
    | inl e ↦ subst (IsFile t) e tt
    | inr k ↦ elim k [
      | inl e ↦ subst (IsFile t) e tt
      | inr rest ↦ elim
          (in_append (map (λ l. Frames l) (links_of (wiring_of t)))
          (flat_map (λ l. Said l Forth ∷ Said l Back ∷ []) (links_of (wiring_of t)) ++ flat_map (told_files t) (edges t)) out rest) [
            | inl f ↦ frames_file t out f
            | inr more ↦ elim
                (in_append (flat_map (λ l. Said l Forth ∷ Said l Back ∷ []) (links_of (wiring_of t))) (flat_map (told_files t) (edges t)) out more) [
                  | inl s ↦ said_file t out s
                  | inr b ↦ told_file t out b
                ]
          ]
    ]
  ]
]

-- 2. Names

-- what stands at a place of a list that was made from another
at_mapped : (g : OutputFile → List ℕ) (outs : List OutputFile) (k : ℕ) → k < length (map g outs) →
    (out : OutputFile) × (slice_get outs k ≡ Some out) × (slice_index_or (map g outs) k [] ≡ g out)
at_mapped g [] k h = absurd (omega arith)
at_mapped g (out ∷ outs) zero h = (out, refl, refl)
at_mapped g (out ∷ outs) (suc k) h = at_mapped g outs k (omega (arith, h))

-- the same name is of the same file
one_name : (folder : List ℕ) (t : Network) (a b : OutputFile) → IsLawful t → IsFile t a → IsFile t b → file_name folder t a ≡ file_name folder t b → a ≡ b
one_name folder t a b lawful a_is b_is same =
    let base : base_name t a ≡ base_name t b =
    append_cancel_left (codes "/") (base_name t a) (base_name t b)
    (append_cancel_left folder (codes "/" ++ base_name t a) (codes "/" ++ base_name t b) same) in
    sym (read-is t a lawful a_is) ∙ ap (read t) base ∙ read-is t b lawful b_is

pub names_differ : (folder : List ℕ) (t : Network) → IsLawful t → all_differ (map (file_name folder t) (files_of t)) ≡ true
names_differ folder t lawful =
    all_differ-from (map (file_name folder t) (files_of t)) (λ i j wi wj e.
    let one = at_mapped (file_name folder t) (files_of t) i wi in
    let other = at_mapped (file_name folder t) (files_of t) j wj in
    let names : file_name folder t one.0 ≡ file_name folder t other.0 = sym one.2 ∙ e ∙ other.2 in
    let same : one.0 ≡ other.0 =
    one_name folder t one.0 other.0 lawful (is_file t one.0 (in_at (files_of t) i one.0 one.1))
    (is_file t other.0 (in_at (files_of t) j other.0 other.1)) names in
    sym (number_is t i one.0 one.1) ∙ ap (number t) same ∙ number_is t j other.0 other.1)
