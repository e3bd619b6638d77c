-- The names, one after another.
use Rattle.std.proofs.Common.{ℕ, zero, suc, ◌≡◌, ◌+◌, ◌<◌, Bool, true, false, cond, List, [], ◌∷◌, ◌++◌, map, filter, refl, arith, sym, ◌∙◌, ap}
use Rattle.std.proofs.Common.{append_assoc, Some, String, Global, string_bytes}
use Rattle.std.specs.Prelude.{◌==◌, ◌&&◌, not, slice_get}
use Rattle.std.specs.List.{flat_map, list_all, range_with_len}
use Rattle.std.specs.Str.{IsAscii, IsUtf8}
use Rattle.std.proofs.lemmas.Bool.Decides.{nat_tests}
use Rattle.std.proofs.lemmas.List.{map-append, append-nil}
use Rattle.std.proofs.lemmas.List.Concat.{flat_map-append}
use Rattle.std.proofs.lemmas.List.Elements.{filter-append}
use Rattle.std.proofs.lemmas.List.FromFn.{map-range_with_len_more}
use Rattle.std.proofs.lemmas.Option.{get_or_from_slice_get}
use Rattle.std.proofs.lemmas.Str.{IsUtf8-from_ascii}
use Rattle.mn_base.proofs.Bools.{and_left, and_right}
use Rattle.mn_wiring.specs.declared.links.Dir.TheVariants.{Forth, Back}
use Rattle.mn_edge.specs.Written.{texts}
use Rattle.mn_topo.specs.Tables.{is_name, is_name_byte}
use Rattle.mn_topo.specs.VrfTable.{is_edge}
use Rattle.mn_topo.specs.Network.{Network}
use Rattle.mn_topo.specs.Lawful.{IsLawful}
use Rattle.mn_output_laws.specs.Files.{OutputFile, Frames, Said, Told, told_files, node_name}
use Rattle.mn_files.proofs.Numbered.{range-more}

-- 1. A name is a text

small : (byte : ℕ) → is_name_byte byte ≡ true → byte < 128
small byte h = grind (arith, nat_tests)

ascii : (bytes : List ℕ) → list_all is_name_byte bytes ≡ true → IsAscii bytes
ascii [] h i = omega arith
ascii (b ∷ bs) h zero = small b (and_left _ _ h)
ascii (b ∷ bs) h (suc i) = ascii bs (and_right _ _ h) i

name_at : (names : List (List ℕ)) (i : ℕ) (name : List ℕ) → list_all is_name names ≡ true → slice_get names i ≡ Some name → is_name name ≡ true
name_at [] i name all at = absurd cc
name_at (n ∷ ns) zero name all at = let same : n ≡ name = cc in ap is_name (sym same) ∙ and_left _ _ all
name_at (n ∷ ns) (suc i) name all at = name_at ns i name (and_right _ _ all) at

pub is_text : (t : Network) (i : ℕ) (name : List ℕ) → IsLawful t → slice_get t.node_names i ≡ Some name → IsUtf8 name
is_text t i name lawful at = IsUtf8-from_ascii name (ascii name (and_right _ _ (name_at t.node_names i name lawful.nodes.named.formed at)))

pub name_is : (t : Network) (i : ℕ) (name : List ℕ) → slice_get t.node_names i ≡ Some name → name ≡ node_name t i
name_is t i name at = sym (get_or_from_slice_get t.node_names i name [] at)

-- 2. One name more, and some

pub pushed : (old new : List (String Global)) (text : String Global) (name : List ℕ) → new ≡ old ++ text ∷ [] → string_bytes text ≡ name →
    texts new ≡ texts old ++ name ∷ []
pushed old new text name e is = ap texts e ∙ map-append string_bytes old (text ∷ []) ∙ ap (λ n. texts old ++ n ∷ []) is

pub pushed_twice : (old new newer : List (String Global)) (text other : String Global) (name next : List ℕ) → new ≡ old ++ text ∷ [] →
    newer ≡ new ++ other ∷ [] → string_bytes text ≡ name → string_bytes other ≡ next → texts newer ≡ texts old ++ name ∷ next ∷ []
pushed_twice old new newer text other name next e g is also =
    pushed new newer other next g also ∙ ap (λ names. names ++ next ∷ []) (pushed old new text name e is) ∙ append_assoc (texts old) (name ∷ []) (next ∷ [])

pub pushed_thrice : (old new newer newest : List (String Global)) (text other last : String Global) (name next final : List ℕ) → new ≡ old ++ text ∷ [] →
    newer ≡ new ++ other ∷ [] → newest ≡ newer ++ last ∷ []
    → string_bytes text ≡ name → string_bytes other ≡ next → string_bytes last ≡ final → texts newest ≡ texts old ++ name ∷ next ∷ final ∷ []
pushed_thrice old new newer newest text other last name next final e g h is also ends =
    pushed newer newest last final h ends ∙ ap (λ names. names ++ final ∷ []) (pushed_twice old new newer text other name next e g is also)
    ∙ append_assoc (texts old) (name ∷ next ∷ []) (final ∷ [])

pub grown : (f : OutputFile → List ℕ) (start olds news : List (List ℕ)) (xs ys zs : List OutputFile) → olds ≡ start ++ map f xs → news ≡ olds ++ map f ys →
    zs ≡ xs ++ ys → news ≡ start ++ map f zs
grown f start olds news xs ys zs before more all =
    more ∙ ap (λ names. names ++ map f ys) before ∙ append_assoc start (map f xs) (map f ys)
    ∙ ap (λ names. start ++ names) (sym (map-append f xs ys) ∙ ap (map f) (sym all))

pub none_yet : (f : OutputFile → List ℕ) (start : List (List ℕ)) → start ≡ start ++ map f []
none_yet f start = sym (append-nil start)

-- 3. The files of one number more

pub frames-more : (n : ℕ) → map (λ l. Frames l) (range_with_len 0 (n + 1)) ≡ map (λ l. Frames l) (range_with_len 0 n) ++ Frames n ∷ []
frames-more n = map-range_with_len_more (λ l. Frames l) 0 n n (omega arith)

pub said-more : (n : ℕ) →
    flat_map (λ l. Said l Forth ∷ Said l Back ∷ []) (range_with_len 0 (n + 1)) ≡ flat_map (λ l. Said l Forth ∷ Said l Back ∷ [])
    (range_with_len 0 n) ++ Said n Forth ∷ Said n Back ∷ []
said-more n =
    ap (flat_map (λ l. Said l Forth ∷ Said l Back ∷ [])) (range-more n)
    ∙ flat_map-append (λ l. Said l Forth ∷ Said l Back ∷ []) (range_with_len 0 n) (n ∷ [])

-- the nodes below a number that are edges
abbrev pub edges_below : Network → ℕ → List ℕ
edges_below t n = filter (λ node. is_edge t.vrfs node) (range_with_len 0 n)

edges-more : (t : Network) (n : ℕ) (b : Bool) → is_edge t.vrfs n ≡ b → edges_below t (n + 1) ≡ edges_below t n ++ cond b (n ∷ []) []
edges-more t n b h =
    ap (filter (λ node. is_edge t.vrfs node)) (range-more n) ∙ filter-append (λ node. is_edge t.vrfs node) (range_with_len 0 n) (n ∷ [])
    ∙ ap (λ c. edges_below t n ++ cond c (n ∷ []) []) h

pub told-more : (t : Network) (n : ℕ) → is_edge t.vrfs n ≡ true →
    flat_map (told_files t) (edges_below t (n + 1)) ≡ flat_map (told_files t) (edges_below t n) ++ told_files t n
told-more t n h =
    ap (flat_map (told_files t)) (edges-more t n true h) ∙ flat_map-append (told_files t) (edges_below t n) (n ∷ [])
    ∙ ap (λ files. flat_map (told_files t) (edges_below t n) ++ files) (append-nil (told_files t n))

pub told-same : (t : Network) (n : ℕ) → is_edge t.vrfs n ≡ false → flat_map (told_files t) (edges_below t (n + 1)) ≡ flat_map (told_files t) (edges_below t n)
told-same t n h = ap (flat_map (told_files t)) (edges-more t n false h ∙ append-nil (edges_below t n))

-- what an edge sends the edges below a number
abbrev pub told_below : Network → ℕ → ℕ → List OutputFile
told_below t edge n = map (λ peer. Told edge peer) (filter (λ peer. not (edge == peer)) (edges_below t n))

told-below : (t : Network) (edge n : ℕ) (b : Bool) →
    (is_edge t.vrfs n && not (edge == n)) ≡ b → told_below t edge (n + 1) ≡ told_below t edge n ++ map (λ peer. Told edge peer) (cond b (n ∷ []) [])
told-below t edge n b h =
    ap (λ es. map (λ peer. Told edge peer) (filter (λ peer. not (edge == peer)) es)) (edges-more t n (is_edge t.vrfs n) refl)
    ∙ ap (map (λ peer. Told edge peer)) (filter-append (λ peer. not (edge == peer)) (edges_below t n) (cond (is_edge t.vrfs n) (n ∷ []) [])
    ∙ ap (λ es. filter (λ peer. not (edge == peer)) (edges_below t n) ++ es) (last (is_edge t.vrfs n) h))
    ∙ map-append (λ peer. Told edge peer) (filter (λ peer. not (edge == peer)) (edges_below t n)) (cond b (n ∷ []) [])
  where
    last : (d : Bool) → (d && not (edge == n)) ≡ b → filter (λ peer. not (edge == peer)) (cond d (n ∷ []) []) ≡ cond b (n ∷ []) []
    last true g = ap (λ k. cond k (n ∷ []) []) g
    last false g = ap (λ k. cond k (n ∷ []) []) g

pub told_to : (t : Network) (edge n : ℕ) → (is_edge t.vrfs n && not (edge == n)) ≡ true → told_below t edge (n + 1) ≡ told_below t edge n ++ Told edge n ∷ []
told_to t edge n h = told-below t edge n true h

pub not_told : (t : Network) (edge n : ℕ) → (is_edge t.vrfs n && not (edge == n)) ≡ false → told_below t edge (n + 1) ≡ told_below t edge n
not_told t edge n h = told-below t edge n false h ∙ append-nil (told_below t edge n)

-- 4. All

pub all_names : (f : OutputFile → List ℕ) (lone links said told : List OutputFile) (a b c d : List (List ℕ)) → a ≡ map f lone → b ≡ a ++ map f links →
    c ≡ b ++ map f said → d ≡ c ++ map f told → d ≡ map f (lone ++ (links ++ (said ++ told)))
all_names f lone links said told a b c d is more after last =
    last ∙ ap (λ names. names ++ map f told) after ∙ append_assoc b (map f said) (map f told)
    ∙ ap (λ names. b ++ names) (sym (map-append f said told)) ∙ ap (λ names. names ++ map f (said ++ told)) more
    ∙ append_assoc a (map f links) (map f (said ++ told))
    ∙ ap (λ names. a ++ names) (sym (map-append f links (said ++ told))) ∙ ap (λ names. names ++ map f (links ++ (said ++ told))) is
    ∙ sym (map-append f lone (links ++ (said ++ told)))
