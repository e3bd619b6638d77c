-- With what files begin, and what they are in the end.
use Rattle.std.proofs.Common.{◌≡◌, ◌≢◌, ℕ, zero, suc, ◌+◌, ◌-◌, ◌<◌, ◌≤◌, ◌==◌, nat_lt, take, subst, Bool, true, false}
use Rattle.std.proofs.Common.{if◌then◌else◌, List, [], ◌∷◌, ◌++◌, map, length, slice_index_or, get_or, Some, refl, sym, ◌∙◌, ap, arith, append_assoc}
use Rattle.std.proofs.lemmas.List.{append-nil, take_more}
use Rattle.std.proofs.lemmas.Grind.{flat_map-append}
use Rattle.std.specs.List.{flat_map, range_with_len}
use Rattle.mn_base.proofs.Bools.{other_test, other_numbers, same_numbers, less_is, not_less, less_tells, not_less_tells}
use Rattle.mn_wiring.specs.Wiring.{nodes_of}
use Rattle.mn_labels.specs.declared.meaning.Given.{Given}
use Rattle.mn_frame_laws.specs.Given.{given}
use Rattle.mn_pcap.specs.Format.{header}
use Rattle.mn_edge.specs.Laid.{named}
use Rattle.mn_topo.specs.Network.{Network, wiring_of}
use Rattle.mn_topo.specs.declared.steps.JournalEntry.{JournalEntry}
use Rattle.mn_output_laws.specs.Files.{OutputFile, Journal, Labels, Deliveries, Frames, Said, files_of, file_name}
use Rattle.mn_output_laws.specs.Files as file
use Rattle.mn_output_laws.specs.Contents.{contents, whole, output, head_of, label_line, label_lines, raw_ipv4, ppp}
use Rattle.mn_files.specs.Numbers.{IsNumber, file_at}
use Rattle.mn_files.proofs.Finding.{is_there, frames_there}
use Rattle.mn_perform.specs.Recorded.{whole_at}
use Rattle.mn_perform.specs.Heads.{frame_heads}
use Rattle.mn_perform.specs.Adding.{only_in}
use Rattle.mn_perform.specs.Parts.{in_file, by_number}
use Rattle.mn_perform.proofs.Same.{by_test, in_place}

-- 1. The files by their names

all_named : (f g : OutputFile → List ℕ) (outs : List OutputFile) →
    named (map f outs) (λ k. g (slice_index_or outs k Journal)) ≡ map (λ out. (f out, g out)) outs
all_named f g [] = refl
all_named f g (out ∷ outs) = ap (λ l. (f out, g out) ∷ l) (all_named f g outs)

-- each file whole is the output of a run
pub named_output : (folder : List ℕ) (t : Network) (capture : List (List ℕ)) (entries : List JournalEntry) →
    named (map (file_name folder t) (files_of t)) (whole_at t capture entries) ≡ output folder t capture entries
named_output folder t capture entries = all_named (file_name folder t) (whole t capture entries) (files_of t)

-- 2. Headers

frame_header : (links l : ℕ) → (if nat_lt l (links + 1) then header ppp else [])
    ≡ (if nat_lt l links then header ppp else []) ++ (if links == l then header ppp else [])
frame_header links l = by_test (nat_lt l links) below (λ h. by_test (links == l) (here h) (above h))
  where
    below : nat_lt l links ≡ true → (if nat_lt l (links + 1) then header ppp else [])
        ≡ (if nat_lt l links then header ppp else []) ++ (if links == l then header ppp else [])
    below h =
        let less : l < links = less_tells l links h in
        ap (λ b. if b then header ppp else []) (less_is l (links + 1) (omega (arith, less)))
        ∙ sym (ap (λ b. (if b then header ppp else []) ++ (if links == l then header ppp else [])) h
        ∙ ap (λ b. header ppp ++ (if b then header ppp else [])) (other_test links l (omega (arith, less))) ∙ append-nil (header ppp))

    here : nat_lt l links ≡ false → (links == l) ≡ true → (if nat_lt l (links + 1) then header ppp else [])
        ≡ (if nat_lt l links then header ppp else []) ++ (if links == l then header ppp else [])
    here h e =
        let same : links ≡ l = same_numbers links l e in
        ap (λ b. if b then header ppp else []) (less_is l (links + 1) (omega (arith, same)))
        ∙ sym (ap (λ b. (if b then header ppp else []) ++ (if links == l then header ppp else [])) h ∙ ap (λ b. if b then header ppp else []) e)

    above : nat_lt l links ≡ false → (links == l) ≡ false → (if nat_lt l (links + 1) then header ppp else [])
        ≡ (if nat_lt l links then header ppp else []) ++ (if links == l then header ppp else [])
    above h e =
        let at_least : links ≤ l = not_less_tells l links h in
        let apart : links ≢ l = other_numbers links l e in
        ap (λ b. if b then header ppp else []) (not_less l (links + 1) (omega (arith, at_least, apart)))
        ∙ sym (ap (λ b. (if b then header ppp else []) ++ (if links == l then header ppp else [])) h ∙ ap (λ b. if b then header ppp else []) e)

-- with one link more
pub one_head_more : (links : ℕ) (out : OutputFile) → frame_heads (links + 1) out ≡ frame_heads links out ++ in_file (Some (Frames links)) (header ppp) out
one_head_more links Journal = refl
one_head_more links Labels = refl
one_head_more links Deliveries = refl
one_head_more links (Frames l) = frame_header links l
one_head_more links (Said l dir) = refl
one_head_more links (file.Told edge peer) = refl

no_head : (l : ℕ) (f : Bool) → nat_lt l 0 ≡ f → (if nat_lt l 0 then header ppp else []) ≡ []
no_head l f e = ap (λ b. if b then header ppp else []) (not_less l 0 (omega arith))

pub no_heads : (out : OutputFile) → frame_heads 0 out ≡ []
no_heads Journal = refl
no_heads Labels = refl
no_heads Deliveries = refl
no_heads (Frames l) = no_head l (nat_lt l 0) refl
no_heads (Said l dir) = refl
no_heads (file.Told edge peer) = refl

-- the header of deliveries, and those of links, are what files begin with
pub heads_are : (t : Network) (out : OutputFile) → ((l : ℕ) → out ≡ Frames l → l < length t.links) →
    in_file (Some Deliveries) (header raw_ipv4) out ++ frame_heads (length t.links) out ≡ head_of out
heads_are t Journal within = refl
heads_are t Labels within = refl
heads_are t Deliveries within = append-nil (header raw_ipv4)
heads_are t (Frames l) within = ap (λ b. if b then header ppp else []) (less_is l (length t.links) (within l refl))
heads_are t (Said l dir) within = refl
heads_are t (file.Told edge peer) within = refl

-- files that have their headers have the contents of no step
pub begun_contents : (t : Network) (capture : List (List ℕ)) (out : OutputFile) → head_of out ≡ contents t capture [] out
begun_contents t capture out = sym (append-nil (head_of out))

-- the headers of fewer links come first
pub heads_more : (fewer more : ℕ) (out : OutputFile) → fewer ≤ more → (rest : List ℕ) × (frame_heads fewer out ++ rest ≡ frame_heads more out)
heads_more fewer more Journal le = ([], refl)
heads_more fewer more Labels le = ([], refl)
heads_more fewer more Deliveries le = ([], refl)
heads_more fewer more (Frames l) le = by_test (nat_lt l fewer)
    (λ h. (
      [],
      append-nil (frame_heads fewer (Frames l)) ∙ ap (λ b. if b then header ppp else []) h
          ∙ sym (ap (λ b. if b then header ppp else []) (less_is l more (let less : l < fewer = less_tells l fewer h in omega (arith, less, le)))),
    ))
    (λ h. (frame_heads more (Frames l), ap (λ b. (if b then header ppp else []) ++ frame_heads more (Frames l)) h))
heads_more fewer more (Said l dir) le = ([], refl)
heads_more fewer more (file.Told edge peer) le = ([], refl)

-- the captures of links that there are
pub frames_within : (t : Network) (k l : ℕ) → k < length (files_of t) → file_at t k ≡ Frames l → l < length t.links
frames_within t k l within is = frames_there t l (is_there t k (Frames l) within is)

-- what the files begin with is their contents before the first step
head_parts : (t : Network) (k : ℕ) → k < length (files_of t) →
    in_file (Some Deliveries) (header raw_ipv4) (file_at t k) ++ frame_heads (length t.links) (file_at t k) ≡ head_of (file_at t k)
head_parts t k within = heads_are t (file_at t k) (λ l is. frames_within t k l within is)

-- the header of deliveries, which is put by its file's number, and those of links
pub heads_in : (t : Network) (number k : ℕ) → IsNumber t number Deliveries → k < length (files_of t) →
    only_in number (header raw_ipv4) k ++ by_number t (frame_heads (length t.links)) k ≡ by_number t head_of k
heads_in t number k is within =
    ap (λ l. l ++ frame_heads (length t.links) (file_at t k)) (in_place t Deliveries number k (header raw_ipv4) is within) ∙ head_parts t k within

-- 3. Labels

-- the lines of the first few givings, and of the next
pub next_label : (t : Network) (node n : ℕ) (givings : List Given) (d : Given) → n < length givings →
    label_lines t node (take n givings) ++ label_line t node (get_or givings n d) ≡ label_lines t node (take (n + 1) givings)
next_label t node n givings d within =
    ap (λ l. label_lines t node (take n givings) ++ l) (sym (append-nil (label_line t node (get_or givings n d))))
    ∙ sym (flat_map-append (label_line t node) (take n givings) (get_or givings n d ∷ []))
    ∙ ap (label_lines t node) (sym (take_more givings n d within))

-- lines of fewer come first
pub labels_more : (t : Network) (node n : ℕ) (givings : List Given) →
    (rest : List ℕ) × (label_lines t node (take n givings) ++ rest ≡ label_lines t node givings)
labels_more t node zero givings = (label_lines t node givings, refl)
labels_more t node (suc n) [] = ([], refl)
labels_more t node (suc n) (giving ∷ givings) =
    let x = labels_more t node n givings in (
      x.0,
      append_assoc (label_line t node giving) (label_lines t node (take n givings)) x.0 ∙ ap (λ l. label_line t node giving ++ l) x.1,
    )

-- numbers one after another
range_next : (from n : ℕ) → range_with_len from (n + 1) ≡ range_with_len from n ++ (from + n) ∷ []
range_next from n = subst (λ m. range_with_len from m ≡ range_with_len from n ++ (from + n) ∷ []) (let e : suc n ≡ n + 1 = omega arith in e) (on from n)
  where
    on : (from n : ℕ) → range_with_len from (suc n) ≡ range_with_len from n ++ (from + n) ∷ []
    on from zero = ap (λ m. m ∷ []) (let e : from ≡ from + 0 = omega arith in e)
    on from (suc n) =
        ap (λ l. from ∷ l) (on (from + 1) n ∙ ap (λ m. range_with_len (from + 1) n ++ m ∷ []) (let e : (from + 1) + n ≡ from + suc n = omega arith in e))

pub one_node_more : (f : ℕ → List ℕ) (n : ℕ) → flat_map f (range_with_len 0 n) ++ f n ≡ flat_map f (range_with_len 0 (n + 1))
one_node_more f n =
    ap (λ l. flat_map f (range_with_len 0 n) ++ l) (ap f (let e : n ≡ 0 + n = omega arith in e) ∙ sym (append-nil (f (0 + n))))
    ∙ sym (flat_map-append f (range_with_len 0 n) ((0 + n) ∷ []))
    ∙ ap (flat_map f) (sym (range_next 0 n))

pub nodes_more : (f : ℕ → List ℕ) (fewer more : ℕ) → fewer ≤ more →
    (rest : List ℕ) × (flat_map f (range_with_len 0 fewer) ++ rest ≡ flat_map f (range_with_len 0 more))
nodes_more f fewer more le =
    subst (λ n. (rest : List ℕ) × (flat_map f (range_with_len 0 fewer) ++ rest ≡ flat_map f (range_with_len 0 n)))
    (let e : fewer + (more - fewer) ≡ more = omega arith in e) (on (more - fewer))
  where
    on : (n : ℕ) → (rest : List ℕ) × (flat_map f (range_with_len 0 fewer) ++ rest ≡ flat_map f (range_with_len 0 (fewer + n)))
    on zero = ([], append-nil (flat_map f (range_with_len 0 fewer)) ∙ ap (λ n. flat_map f (range_with_len 0 n)) (let e : fewer ≡ fewer + 0 = omega arith in e))
    on (suc n) =
        let x = on n in (
          x.0 ++ f (fewer + n),
          sym (append_assoc (flat_map f (range_with_len 0 fewer)) x.0 (f (fewer + n)))
              ∙ ap (λ l. l ++ f (fewer + n)) x.1
              ∙ one_node_more f (fewer + n)
              ∙ ap (λ m. flat_map f (range_with_len 0 m)) (let e : fewer + n + 1 ≡ fewer + suc n = omega arith in e),
        )

-- whole files have the labels behind their contents
pub labels_tail : (t : Network) (capture : List (List ℕ)) (entries : List JournalEntry) (out : OutputFile) →
    contents t capture entries out ++ in_file (Some Labels) (flat_map (λ node. label_lines t node (given t entries node).given) (nodes_of (wiring_of t))) out
    ≡ whole t capture entries out
labels_tail t capture entries Journal = refl
labels_tail t capture entries Labels = refl
labels_tail t capture entries Deliveries = refl
labels_tail t capture entries (Frames l) = refl
labels_tail t capture entries (Said l dir) = refl
labels_tail t capture entries (file.Told edge peer) = refl
