-- Files laid over those of before, and what a begin and an append make of them.
use Rattle.std.proofs.Common.{◌≡◌, ℕ, ◌+◌, ◌<◌, Bool, true, false, cond, ◌||◌, ◌&&◌, List, [], ◌∷◌, ◌++◌, take, drop, length, Option, Some, refl, sym, ◌∙◌}
use Rattle.std.proofs.Common.{ap, subst, inl, inr, get_or, zero, suc, String, Vec, string_bytes, arith, append_assoc, if◌then◌else◌}
use Rattle.std.proofs.lemmas.Bool.{and_parts}
use Rattle.std.proofs.lemmas.Grind.{flat_map-append}
use Rattle.std.proofs.lemmas.List.{take-append-drop, append-nil, take_more, get_or-map, get_or_read, length-map}
use Rattle.std.specs.Prelude.{is_some, IsTrue}
use Rattle.std.specs.declared.alloc.Global.{Global}
use Rattle.mn_edge.specs.Files.{Files, file, with_file, Grows, MayBegin, MayGrow}
use Rattle.mn_edge.specs.FileLaws.{same_name-eq, same_files, file-with_file, file-laid, file-laid_there}
use Rattle.mn_edge.specs.Kept.{AllThere, name_of}
use Rattle.mn_edge.specs.Memory.{names_of}
use Rattle.mn_edge.specs.Written.{same_name, is_known, all_known, bytes_for, each, written, laid, IsPrefix, IsPart, PartWritten, Stands, texts, pairs}

is_known-push : (names : List (List ℕ)) (n q : List ℕ) → is_known (names ++ n ∷ []) q ≡ (same_name q n || is_known names q)
is_known-push [] n q = refl
is_known-push (x ∷ ns) n q = ap (λ b. same_name q x || b) (is_known-push ns n q) ∙ swapped (same_name q x) (same_name q n) (is_known ns q)
  where
    swapped : (a b c : Bool) → (a || (b || c)) ≡ (b || (a || c))
    swapped true true c = refl
    swapped true false c = refl
    swapped false b c = refl

-- one more file is begun
pub laid-push : (f : List ℕ → List ℕ) (names : List (List ℕ)) (m : Files) (n : List ℕ) →
    with_file (laid (each f names) m) n (f n) ≡ laid (each f (names ++ n ∷ [])) m
laid-push f names m n = same_files _ _ (λ q.
    file-with_file (laid (each f names) m) n (f n) q
    ∙ step q (same_name q n) refl
    ∙ ap (λ b. cond b (Some (f q)) (file m q)) (sym (is_known-push names n q))
    ∙ sym (file-laid f (names ++ n ∷ []) m q))
  where
    step : (q : List ℕ) (b : Bool) → same_name q n ≡ b →
        cond b (Some (f n)) (file (laid (each f names) m) q) ≡ cond (b || is_known names q) (Some (f q)) (file m q)
    step q true h = ap (λ x. Some (f x)) (sym (same_name-eq q n h))
    step q false h = file-laid f names m q

-- one of the files grows
pub laid-grown : (f g : List ℕ → List ℕ) (names : List (List ℕ)) (m : Files) (n piece : List ℕ) → is_known names n ≡ true →
    ((q : List ℕ) → g q ≡ f q ++ (if same_name q n then piece else [])) → with_file (laid (each f names) m) n (f n ++ piece) ≡ laid (each g names) m
laid-grown f g names m n piece known more = same_files _ _ (λ q.
    file-with_file (laid (each f names) m) n (f n ++ piece) q
    ∙ step q (same_name q n) refl
    ∙ sym (file-laid g names m q))
  where
    known_at : (q : List ℕ) → same_name q n ≡ true → is_known names q ≡ true
    known_at q h = ap (is_known names) (same_name-eq q n h) ∙ known

    step : (q : List ℕ) (b : Bool) → same_name q n ≡ b →
        cond b (Some (f n ++ piece)) (file (laid (each f names) m) q) ≡ cond (is_known names q) (Some (g q)) (file m q)
    step q true h =
        ap (λ x. Some (f x ++ piece)) (sym (same_name-eq q n h))
        ∙ sym (ap (λ b. cond b (Some (g q)) (file m q)) (known_at q h) ∙ ap Some (more q ∙ ap (λ b. f q ++ (if b then piece else [])) h))
    step q false h =
        file-laid f names m q
        ∙ ap (λ l. cond (is_known names q) (Some l) (file m q)) (sym (more q ∙ ap (λ b. f q ++ (if b then piece else [])) h ∙ append-nil (f q)))

-- the bytes for a name, with one more piece
pub bytes_for-push : (done : List (List ℕ × List ℕ)) (p : List ℕ × List ℕ) (q : List ℕ) →
    bytes_for (done ++ p ∷ []) q ≡ bytes_for done q ++ (if same_name q p.0 then p.1 else [])
bytes_for-push done p q =
    flat_map-append (λ p. if same_name q p.0 then p.1 else []) done (p ∷ [])
    ∙ ap (λ l. bytes_for done q ++ l) (append-nil (if same_name q p.0 then p.1 else []))

-- and with all that come later
bytes_for-more : (done later : List (List ℕ × List ℕ)) (q : List ℕ) → IsPrefix (bytes_for done q) (bytes_for (done ++ later) q)
bytes_for-more done later q = (bytes_for later q, sym (flat_map-append (λ p. if same_name q p.0 then p.1 else []) done later))

prefix_trans : (a b c : List ℕ) → IsPrefix a b → IsPrefix b c → IsPrefix a c
prefix_trans a b c (r, e) (s, f) = (r ++ s, sym (append_assoc a r s) ∙ ap (λ l. l ++ s) e ∙ f)

prefix_if : (a piece : List ℕ) (n : ℕ) (b : Bool) → IsPrefix (a ++ (if b then take n piece else [])) (a ++ (if b then piece else []))
prefix_if a piece n true = (drop n piece, append_assoc a (take n piece) (drop n piece) ∙ ap (λ l. a ++ l) (take-append-drop n piece))
prefix_if a piece n false = ([], append-nil (a ++ []))

part_all : (f g : List ℕ → List ℕ) (names : List (List ℕ)) → ((q : List ℕ) → IsPrefix (f q) (g q)) → IsPart (each f names) (each g names)
part_all f g [] h = tt
part_all f g (n ∷ ns) h = (refl, h n, part_all f g ns h)

part_trans : (us vs ws : List (List ℕ × List ℕ)) → IsPart us vs → IsPart vs ws → IsPart us ws
part_trans [] vs ws p q = tt
part_trans (u ∷ us) [] ws p q = absurd p
part_trans (u ∷ us) (v ∷ vs) [] p q = absurd q
part_trans (u ∷ us) (v ∷ vs) (w ∷ ws) p q = (p.0 ∙ q.0, prefix_trans _ _ _ p.1 q.1, part_trans us vs ws p.2 q.2)

-- a begin that was done
pub begun : (names : List (List ℕ)) (m : Files) (i : ℕ) (name : List ℕ) (after : Option Files) → i < length names → name ≡ get_or names i name →
    after ≡ Some (with_file (laid (written (take i names) []) m) name []) → after ≡ Some (laid (written (take (i + 1) names) []) m)
begun names m i name after within is done =
    done ∙ ap Some (laid-push (bytes_for []) (take i names) m name
    ∙ ap (λ l. laid (written l []) m) (ap (λ n. take i names ++ n ∷ []) is ∙ sym (take_more names i name within)))

-- a begin that was refused
pub few_begun : (names : List (List ℕ)) (m : Files) (i : ℕ) (name : List ℕ) (after : Option Files) → i < length names → name ≡ get_or names i name →
    MayBegin (laid (written (take i names) []) m) name after → (n : ℕ) × Stands (take n names) [] m after
few_begun names m i name after within is (inl same) = (i, same)
few_begun names m i name after within is (inr done) = (i + 1, begun names m i name after within is done)

-- an append of any piece to one of the files
grown_by : (names : List (List ℕ)) (done : List (List ℕ × List ℕ)) (m : Files) (name piece : List ℕ) (after : Option Files) → is_known names name ≡ true →
    Grows (laid (written names done) m) name piece after →
    after ≡ Some (laid (each (λ q. bytes_for done q ++ (if same_name q name then piece else [])) names) m)
grown_by names done m name piece after known grows =
    let e : Some grows.bytes ≡ Some (bytes_for done name) = sym grows.there ∙ file-laid_there (bytes_for done) names m name known in
    let same : grows.bytes ≡ bytes_for done name = cc in
    grows.grown ∙ ap (λ b. Some (with_file (laid (written names done) m) name (b ++ piece))) same
    ∙ ap Some (laid-grown (bytes_for done) (λ q. bytes_for done q ++ (if same_name q name then piece else [])) names m name piece known (λ q. refl))

each-same : (f g : List ℕ → List ℕ) (names : List (List ℕ)) → ((q : List ℕ) → f q ≡ g q) → each f names ≡ each g names
each-same f g [] h = refl
each-same f g (n ∷ ns) h = ap (λ b. (n, b) ∷ each f ns) (h n) ∙ ap (λ l. (n, g n) ∷ l) (each-same f g ns h)

-- an append that was done
pub step_whole : (names : List (List ℕ)) (done : List (List ℕ × List ℕ)) (m : Files) (p : List ℕ × List ℕ) (after : Option Files) →
    is_known names p.0 ≡ true → Grows (laid (written names done) m) p.0 p.1 after → after ≡ Some (laid (written names (done ++ p ∷ [])) m)
step_whole names done m p after known grows =
    grown_by names done m p.0 p.1 after known grows ∙ ap (λ l. Some (laid l m)) (each-same _ _ names (λ q. sym (bytes_for-push done p q)))

-- what stands whole so far is a part of what is to come
pub part_so_far : (names : List (List ℕ)) (done later : List (List ℕ × List ℕ)) (m : Files) (after : Option Files) →
    after ≡ Some (laid (written names done) m) → PartWritten (written names (done ++ later)) m after
part_so_far names done later m after e =
    record { stands = written names done; is_part = part_all (bytes_for done) (bytes_for (done ++ later)) names (bytes_for-more done later); after_is = e }

-- an append that was refused
pub step_part : (names : List (List ℕ)) (done : List (List ℕ × List ℕ)) (m : Files) (p : List ℕ × List ℕ) (after : Option Files) →
    is_known names p.0 ≡ true → MayGrow (laid (written names done) m) p.0 p.1 after → PartWritten (written names (done ++ p ∷ [])) m after
step_part names done m p after known (inl same) = part_so_far names done (p ∷ []) m after same
step_part names done m p after known (inr (n, grows)) = record {
  stands = each (λ q. bytes_for done q ++ (if same_name q p.0 then take n p.1 else [])) names;
  is_part =
      part_all _ (bytes_for (done ++ p ∷ [])) names
      (λ q. subst (λ l. IsPrefix (bytes_for done q ++ (if same_name q p.0 then take n p.1 else [])) l) (sym (bytes_for-push done p q))
      (prefix_if (bytes_for done q) p.1 n (same_name q p.0)));
  after_is = grown_by names done m p.0 (take n p.1) after known grows;
}

-- what is cut short is cut short of all that would have come later too
pub part_more : (names : List (List ℕ)) (done later : List (List ℕ × List ℕ)) (m : Files) (after : Option Files) →
    PartWritten (written names done) m after → PartWritten (written names (done ++ later)) m after
part_more names done later m after w = record {
  stands = w.stands;
  is_part =
      part_trans w.stands (written names done) (written names (done ++ later)) w.is_part
      (part_all (bytes_for done) (bytes_for (done ++ later)) names (bytes_for-more done later));
  after_is = w.after_is;
}

-- each piece of a list whose pieces are all known is for one of the names
known_at : (names : List (List ℕ)) (pieces : List (List ℕ × List ℕ)) (j : ℕ) (p : List ℕ × List ℕ) → all_known names pieces ≡ true → j < length pieces →
    is_known names (get_or pieces j p).0 ≡ true
known_at names [] j p known h = absurd (omega arith)
known_at names (x ∷ ps) zero p known h = first (is_known names x.0) (all_known names ps) known
  where
    first : (a b : Bool) → (a && b) ≡ true → a ≡ true
    first true b h = refl
    first false b h = cc
known_at names (x ∷ ps) (suc j) p known h = known_at names ps j p (second (is_known names x.0) (all_known names ps) known) (omega arith)
  where
    second : (a b : Bool) → (a && b) ≡ true → b ≡ true
    second true b h = h
    second false b h = cc

pub known_of : (names : List (List ℕ)) (pieces : List (List ℕ × List ℕ)) (j : ℕ) (p : List ℕ × List ℕ) → all_known names pieces ≡ true → j < length pieces →
    p ≡ get_or pieces j p → is_known names p.0 ≡ true
known_of names pieces j p known within is = ap (λ x. is_known names x.0) is ∙ known_at names pieces j p known within

-- a name and a piece of the code's lists, as the bytes that they are
pub name_at : (names : List (String Global)) (i : ℕ) (s : String Global) (name : List ℕ) → i < length names → s ≡ get_or names i s → name ≡ string_bytes s →
    name ≡ get_or (texts names) i name
name_at names i s name within is text = text ∙ ap string_bytes is ∙ sym (get_or-map string_bytes names i s name within)

-- a file's name stands among the names, at its number
pub name_there : (names : List (String Global)) (i : ℕ) (s : String Global) (name : List ℕ) → i < length names → s ≡ get_or names i s →
    name ≡ string_bytes s → (i < length (texts names)) × (name ≡ name_of (texts names) i)
name_there names i s name within is text =
    let here : i < length (texts names) = rw length-map within in
    (here, get_or_read (texts names) i name here (name_at names i s name within is text) [])

pub pair_at : (pieces : List (String Global × Vec ℕ Global)) (i : ℕ) (e : String Global × Vec ℕ Global) (p : List ℕ × List ℕ) → i < length pieces →
    e ≡ get_or pieces i e → p.0 ≡ string_bytes e.0 → p.1 ≡ e.1.items → p ≡ get_or (pairs pieces) i p
pair_at pieces i e p within is text bytes =
    (λ k. (text k, bytes k)) ∙ ap (λ e. (string_bytes e.0, e.1.items)) is ∙ sym (get_or-map (λ e. (string_bytes e.0, e.1.items)) pieces i e p within)

-- each piece is for one of the files that were just begun, so its file is there
pub pieces_there : (names : List (List ℕ)) (pieces : List (String Global × Vec ℕ Global)) (m : Files) (now : Option Files) →
    IsTrue (all_known names (pairs pieces)) → Stands names [] m now → AllThere (names_of pieces) now
pieces_there names pieces m now known stands = record {
  now = laid (written names []) m;
  told = stands;
  there = λ k within. ap is_some (file-laid_there (bytes_for []) names m (name_of (names_of pieces) k) (known_name names pieces k known within));
}
  where
    known_name : (names : List (List ℕ)) (pieces : List (String Global × Vec ℕ Global)) (k : ℕ) → IsTrue (all_known names (pairs pieces)) →
        k < length (names_of pieces) → is_known names (name_of (names_of pieces) k) ≡ true
    known_name names [] k known within = absurd (let h : k < 0 = within in omega (arith, h))
    known_name names (p ∷ ps) zero known within = (and_parts (is_known names (string_bytes p.0)) (all_known names (pairs ps)) known).0
    known_name names (p ∷ ps) (suc k) known within =
        known_name names ps k (and_parts (is_known names (string_bytes p.0)) (all_known names (pairs ps)) known).1
        (let h : suc k < suc (length (names_of ps)) = within in omega (arith, h))
