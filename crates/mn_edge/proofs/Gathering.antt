-- Files that grow: a piece more is held, what is held is appended, and an append is refused.
use Rattle.std.proofs.Common.{◌≡◌, ◌⊎◌, inl, inr, ℕ, zero, suc, ◌+◌, ◌<◌, ◌≤◌, ◌==◌, Bool, true, false, cond, List, [], ◌∷◌, ◌++◌, length, map, take, drop}
use Rattle.std.proofs.Common.{get_or}
use Rattle.std.proofs.Common.{replicate, slice_set, Option, Some, None, refl, sym, ◌∙◌, ap, subst, arith, append_assoc, length-append}
use Rattle.std.proofs.lemmas.Bool.{cases_eq, cases_lt, ne_eqb, eq-eqb}
use Rattle.std.proofs.lemmas.List.{append-nil, get_or-set_same, get_or-set_other, take-append-drop, take_all, length-map, length-set, map-set, get_or-map}
use Rattle.std.proofs.lemmas.List.{nil_from_length}
use Rattle.std.proofs.lemmas.List.Sums.{sum_by-set, get_or-le-sum_by}
use Rattle.std.specs.Prelude.{nat_le}
use Rattle.mn_edge.specs.Files.{Files, file, with_file, Grows, MayGrow}
use Rattle.mn_edge.specs.FileLaws.{same_name-refl, file-with_file}
use Rattle.mn_edge.specs.Written.{same_name, is_known}
use Rattle.std.specs.Option.{option_map}
use Rattle.mn_edge.specs.Memory.{after_calls, all_differ, next_call}
use Rattle.mn_edge.specs.Kept.{filled}
use Rattle.mn_edge.specs.Kept.{name_of, held_for, AllThere, held_bytes, most_held, with_piece, none_held, IsHeld, HasBegun, Framed, HoldsOn, BeginsOn, grown}
use Rattle.mn_edge.specs.KeptLaws.{same_some, there_grown, begins_on, begins_on_more, unknown-apart, places_apart, held_for-replicate}

pub none_held_is : (held : List (List ℕ)) → none_held held ≡ replicate (length held) []
none_held_is [] = refl
none_held_is (x ∷ held) = ap (λ l. [] ∷ l) (none_held_is held)

pub no_bytes : (files : ℕ) → held_bytes (replicate files []) ≡ 0
no_bytes zero = refl
no_bytes (suc files) = no_bytes files

-- what is held, but nothing for the first few files
abbrev pub emptied : ℕ → List (List ℕ) → List (List ℕ)
emptied zero held = held
emptied (suc k) [] = []
emptied (suc k) (x ∷ held) = [] ∷ emptied k held

emptied-before : (k : ℕ) (held : List (List ℕ)) (j : ℕ) → j < k → held_for (emptied k held) j ≡ []
emptied-before zero held j below = absurd (omega arith)
emptied-before (suc k) [] j below = refl
emptied-before (suc k) (x ∷ held) zero below = refl
emptied-before (suc k) (x ∷ held) (suc j) below = emptied-before k held j (omega arith)

emptied-from : (k : ℕ) (held : List (List ℕ)) (j : ℕ) → k ≤ j → held_for (emptied k held) j ≡ held_for held j
emptied-from zero held j from = refl
emptied-from (suc k) [] j from = refl
emptied-from (suc k) (x ∷ held) zero from = absurd (omega arith)
emptied-from (suc k) (x ∷ held) (suc j) from = emptied-from k held j (omega arith)

emptied-other : (k : ℕ) (held : List (List ℕ)) (j : ℕ) → (j ≡ k → ⊥) → held_for (emptied (k + 1) held) j ≡ held_for (emptied k held) j
emptied-other k held j ne = by (cases_lt j k)
  where
    by : (j < k) ⊎ (k ≤ j) → held_for (emptied (k + 1) held) j ≡ held_for (emptied k held) j
    by (inl below) = emptied-before (k + 1) held j (omega arith) ∙ sym (emptied-before k held j below)
    by (inr from) = emptied-from (k + 1) held j (omega arith) ∙ sym (emptied-from k held j from)

-- one file more is emptied
pub emptied-next : (k : ℕ) (held : List (List ℕ)) → k < length held → slice_set (emptied k held) k [] ≡ emptied (suc k) held
emptied-next zero [] within = absurd (omega arith)
emptied-next zero (x ∷ held) within = refl
emptied-next (suc k) [] within = absurd (omega arith)
emptied-next (suc k) (x ∷ held) within = ap (λ l. [] ∷ l) (emptied-next k held (omega (arith, within)))

-- all are
pub emptied-all : (k : ℕ) (held : List (List ℕ)) → length held ≤ k → emptied k held ≡ none_held held
emptied-all zero [] over = refl
emptied-all zero (x ∷ held) over = absurd (omega (arith, over))
emptied-all (suc k) [] over = refl
emptied-all (suc k) (x ∷ held) over = ap (λ l. [] ∷ l) (emptied-all k held (omega (arith, over)))

none_held-at : (held : List (List ℕ)) (j : ℕ) → held_for (none_held held) j ≡ []
none_held-at held j = ap (λ h. held_for h j) (none_held_is held) ∙ held_for-replicate (length held) j

-- what is held goes by what is held for each file
holds_by : (names : List (List ℕ)) (contents : ℕ → List ℕ) (held other : List (List ℕ)) (files : Option Files) →
    ((j : ℕ) → j < length names → held_for other j ≡ held_for held j) → HoldsOn names contents held files → HoldsOn names contents other files
holds_by names contents held other files same h = record {
  now = h.now;
  told = h.told;
  holds = λ j within. let x = h.holds j within in record { shelved = x.shelved; there = x.there; whole = ap (λ l. x.shelved ++ l) (same j within) ∙ x.whole };
}

-- all files have been seen: nothing is held
pub all_appended : (names : List (List ℕ)) (contents : ℕ → List ℕ) (held : List (List ℕ)) (files : Option Files) (k : ℕ) → length names ≤ k →
    HoldsOn names contents (emptied k held) files → HoldsOn names contents (none_held held) files
all_appended names contents held files k over =
    holds_by names contents (emptied k held) (none_held held) files (λ j within. none_held-at held j ∙ sym (emptied-before k held j (omega arith)))

-- nothing is held for this file
pub passed_over : (names : List (List ℕ)) (contents : ℕ → List ℕ) (held : List (List ℕ)) (files : Option Files) (k : ℕ) → held_for held k ≡ [] →
    HoldsOn names contents (emptied k held) files → HoldsOn names contents (emptied (k + 1) held) files
passed_over names contents held files k none = holds_by names contents (emptied k held) (emptied (k + 1) held) files (λ j within. by j (cases_eq j k))
  where
    by : (j : ℕ) → (j ≡ k) ⊎ (j ≡ k → ⊥) → held_for (emptied (k + 1) held) j ≡ held_for (emptied k held) j
    by j (inl e) = emptied-before (k + 1) held j (omega arith) ∙ sym (ap (held_for (emptied k held)) e ∙ emptied-from k held k (omega arith) ∙ none)
    by j (inr ne) = emptied-other k held j ne

-- one file of the names grew
grown_there : (m : Files) (name bytes q : List ℕ) → q ≡ name → file (with_file m name bytes) q ≡ Some bytes
grown_there m name bytes q same =
    file-with_file m name bytes q ∙ ap (λ b. cond b (Some bytes) (file m q)) (ap (λ n. same_name n name) same ∙ same_name-refl name)

stays_there : (m : Files) (name bytes q : List ℕ) → same_name q name ≡ false → file (with_file m name bytes) q ≡ file m q
stays_there m name bytes q other = file-with_file m name bytes q ∙ ap (λ b. cond b (Some bytes) (file m q)) other

-- what is held for this file was appended
pub appended : (names : List (List ℕ)) (contents : ℕ → List ℕ) (held : List (List ℕ)) (k : ℕ) (name piece : List ℕ) (old new : Option Files) →
    all_differ names ≡ true → k < length names → name ≡ name_of names k → piece ≡ held_for held k
    → ((m : Files) → old ≡ Some m → Grows m name piece new) → HoldsOn names contents (emptied k held) old → HoldsOn names contents (emptied (k + 1) held) new
appended names contents held k name piece old new differ here named is grows h =
    let g = grows h.now h.told in
    record { now = with_file h.now name (g.bytes ++ piece); told = g.grown; holds = λ j within. by g j within (cases_eq j k) }
  where
    by : (g : Grows h.now name piece new) (j : ℕ) → j < length names →
        (j ≡ k) ⊎ (j ≡ k → ⊥) → IsHeld names contents (emptied (k + 1) held) (with_file h.now name (g.bytes ++ piece)) j
    by g j within (inl e) =
        let x = h.holds j within in
        let at : name_of names j ≡ name = ap (name_of names) e ∙ sym named in
        let same : g.bytes ≡ x.shelved = same_some g.bytes x.shelved (file h.now name) g.there (ap (file h.now) (sym at) ∙ x.there) in
        record {
          shelved = g.bytes ++ piece;
          there = grown_there h.now name (g.bytes ++ piece) (name_of names j) at;
          whole = ap (λ l. (g.bytes ++ piece) ++ l) (emptied-before (k + 1) held j (omega arith)) ∙ append-nil (g.bytes ++ piece)
              ∙ (λ i. same i ++ (is ∙ sym (ap (held_for (emptied k held)) e ∙ emptied-from k held k (omega arith))) i) ∙ x.whole;
        }
    by g j within (inr ne) =
        let x = h.holds j within in
        record {
          shelved = x.shelved;
          there = stays_there h.now name (g.bytes ++ piece) (name_of names j)
              (ap (same_name (name_of names j)) named ∙ places_apart names j k differ within here ne) ∙ x.there;
          whole = ap (λ l. x.shelved ++ l) (emptied-other k held j ne) ∙ x.whole;
        }

-- the append was refused: each file is a first part of its contents
pub refused : (names : List (List ℕ)) (contents : ℕ → List ℕ) (held : List (List ℕ)) (k : ℕ) (name piece : List ℕ) (old new : Option Files) →
    all_differ names ≡ true → k < length names → name ≡ name_of names k → piece ≡ held_for held k
    → ((m : Files) → old ≡ Some m → MayGrow m name piece new) → HoldsOn names contents (emptied k held) old → BeginsOn names contents new
refused names contents held k name piece old new differ here named is may h = by (may h.now h.told)
  where
    one : (n : ℕ) (g : Grows h.now name (take n piece) new) (j : ℕ) → j < length names →
        (j ≡ k) ⊎ (j ≡ k → ⊥) → HasBegun names contents (with_file h.now name (g.bytes ++ take n piece)) j
    one n g j within (inl e) =
        let x = h.holds j within in
        let at : name_of names j ≡ name = ap (name_of names) e ∙ sym named in
        let same : g.bytes ≡ x.shelved = same_some g.bytes x.shelved (file h.now name) g.there (ap (file h.now) (sym at) ∙ x.there) in
        record {
          shelved = g.bytes ++ take n piece;
          there = grown_there h.now name (g.bytes ++ take n piece) (name_of names j) at;
          part = (
            drop n piece,
            append_assoc g.bytes (take n piece) (drop n piece) ∙ ap (λ l. g.bytes ++ l) (take-append-drop n piece)
                ∙ (λ i. same i ++ (is ∙ sym (ap (held_for (emptied k held)) e ∙ emptied-from k held k (omega arith))) i) ∙ x.whole,
          );
        }
    one n g j within (inr ne) =
        let x = h.holds j within in
        record {
          shelved = x.shelved;
          there = stays_there h.now name (g.bytes ++ take n piece) (name_of names j)
              (ap (same_name (name_of names j)) named ∙ places_apart names j k differ within here ne) ∙ x.there;
          part = (held_for (emptied k held) j, x.whole);
        }

    by : MayGrow h.now name piece new → BeginsOn names contents new
    by (inl same) = let b = begins_on names contents (emptied k held) old h in
        record {
          now = h.now;
          told = same;
          begins =
              subst (λ m. (j : ℕ) → j < length names → HasBegun names contents m j) (same_some b.now h.now old b.told h.told) b.begins;
        }
    by (inr (n, g)) = record { now = with_file h.now name (g.bytes ++ take n piece); told = g.grown; begins = λ j within. one n g j within (cases_eq j k) }

-- an append, done or refused, changes this file alone
pub framed_append : (names : List (List ℕ)) (k : ℕ) (name piece : List ℕ) (old new : Option Files) → k < length names → name ≡ name_of names k →
    (old ≡ None → new ≡ None) → ((m : Files) → old ≡ Some m → MayGrow m name piece new) → Framed names old new
framed_append names k name piece old new here named silent may = record {
  silent = silent;
  stays = λ all. still all (may all.now all.told);
  others = λ m is. by m (may m is);
}
  where
    grown_at : (all : AllThere names old) (n : ℕ) → Grows all.now name (take n piece) new → (m : Files) → old ≡ Some m → Grows m name (take n piece) new
    grown_at all n g m is = subst (λ f. Grows f name (take n piece) new) (same_some all.now m old all.told is) g

    still : (all : AllThere names old) → MayGrow all.now name piece new → AllThere names new
    still all (inl same) = record { now = all.now; told = same; there = all.there }
    still all (inr (n, g)) = there_grown names name (take n piece) old new (grown_at all n g) all

    by : (m : Files) → MayGrow m name piece new → (now : Files) × (new ≡ Some now) × ((q : List ℕ) → is_known names q ≡ false → file now q ≡ file m q)
    by m (inl same) = (m, same, λ q unknown. refl)
    by m (inr (n, g)) = (
      with_file m name (g.bytes ++ take n piece),
      g.grown,
      λ q unknown. stays_there m name (g.bytes ++ take n piece) q
          (ap (same_name q) named ∙ unknown-apart names k q here unknown),
    )

pub may_grow : (m : Files) (name piece : List ℕ) (new : Option Files) → Grows m name piece new → MayGrow m name piece new
may_grow m name piece new g =
    inr (
      length piece,
      record {
        bytes = g.bytes;
        there = g.there;
        grown =
            g.grown ∙ ap (λ l. Some (with_file m name (g.bytes ++ l))) (sym (take_all (length piece) piece (omega arith)));
      },
    )

-- nothing is held at all, so nothing for this file
pub none_for : (held : List (List ℕ)) (k : ℕ) → k < length held → held_bytes held ≡ 0 → held_for held k ≡ []
none_for held k within none = nil_from_length (held_for held k) (let le = get_or-le-sum_by length held k [] within in omega (arith, le, none))

-- a piece is held for a file: its contents grow by it
pub more_held : (names : List (List ℕ)) (contents : ℕ → List ℕ) (held : List (List ℕ)) (k : ℕ) (piece : List ℕ) (files : Option Files) → k < length held →
    HoldsOn names contents held files → HoldsOn names (grown contents k piece) (with_piece held k piece) files
more_held names contents held k piece files here h = record {
  now = h.now;
  told = h.told;
  holds = λ j within. let x = h.holds j within in record { shelved = x.shelved; there = x.there; whole = by j x.shelved x.whole (cases_eq j k) };
}
  where
    by : (j : ℕ) (shelved : List ℕ) → shelved ++ held_for held j ≡ contents j →
        (j ≡ k) ⊎ (j ≡ k → ⊥) → shelved ++ held_for (with_piece held k piece) j ≡ grown contents k piece j
    by j shelved whole (inl e) =
        ap (λ l. shelved ++ l) (ap (held_for (with_piece held k piece)) e ∙ get_or-set_same held k (held_for held k ++ piece) [] here
        ∙ ap (λ i. held_for held i ++ piece) (sym e))
        ∙ sym (append_assoc shelved (held_for held j) piece) ∙ ap (λ l. l ++ piece) whole ∙ ap (λ b. contents j ++ cond b piece []) (sym (eq-eqb k j (sym e)))
    by j shelved whole (inr ne) =
        ap (λ l. shelved ++ l) (get_or-set_other held k j (held_for held k ++ piece) [] ne) ∙ whole ∙ sym (append-nil (contents j))
        ∙ ap (λ b. contents j ++ cond b piece []) (sym (ne_eqb k j (λ e. ne (sym e))))

-- the buffer of a file has grown by a piece
pub pushed : {V : Type 0} (f : V → List ℕ) (files : List V) (file : ℕ) (old new : V) (piece : List ℕ) (held : List (List ℕ)) → map f files ≡ held →
    file < length held → old ≡ get_or files file old → f new ≡ f old ++ piece → map f (slice_set files file new) ≡ with_piece held file piece
pushed f files file old new piece held is within there grew =
    let w : file < length files = let l = length-map files f in let e = ap length is in omega (arith, within, l, e) in
    let at : f old ≡ held_for held file = ap f there ∙ sym (get_or-map f files file old [] w) ∙ ap (λ h. held_for h file) is in
    map-set f files file new ∙ (λ i. slice_set (is i) file ((grew ∙ ap (λ l. l ++ piece) at) i))

-- a piece of no bytes is nothing
pub with_none : (held : List (List ℕ)) (file : ℕ) → file < length held → with_piece held file [] ≡ held
with_none [] file within = absurd (omega (arith, within))
with_none (x ∷ held) zero within = ap (λ l. l ∷ held) (append-nil x)
with_none (x ∷ held) (suc file) within = ap (λ l. x ∷ l) (with_none held file (omega (arith, within)))

-- there is room for something
pub room_some : (files : ℕ) → 0 < most_held files
room_some files = by (nat_le files 64)
  where
    by : (few : Bool) → 0 < cond few 65536 1048576
    by true = omega arith
    by false = omega arith

-- so many bytes more are held, for as many files
pub bytes_more : (held : List (List ℕ)) (k : ℕ) (piece : List ℕ) → k < length held → held_bytes (with_piece held k piece) ≡ held_bytes held + length piece
bytes_more held k piece here =
    let sum = sum_by-set length held k (held_for held k ++ piece) [] here in
    let l = length-append (held_for held k) piece in
    omega (arith, sum, l)

pub files_same : (held : List (List ℕ)) (k : ℕ) (piece : List ℕ) → length (with_piece held k piece) ≡ length held
files_same held k piece = length-set held k (held_for held k ++ piece)

pub none_held-files : (held : List (List ℕ)) → length (none_held held) ≡ length held
none_held-files held = length-map held (λ _. [])

pub none_held-bytes : (held : List (List ℕ)) → held_bytes (none_held held) ≡ 0
none_held-bytes [] = refl
none_held-bytes (x ∷ held) = none_held-bytes held

pub none_held-same : (held other : List (List ℕ)) → length held ≡ length other → none_held held ≡ none_held other
none_held-same held other same = none_held_is held ∙ ap (λ n. replicate n []) same ∙ sym (none_held_is other)

-- contents that grow by one piece after the other
pub grown_twice : (contents : ℕ → List ℕ) (k : ℕ) (a b : List ℕ) → grown (grown contents k a) k b ≡ grown contents k (a ++ b)
grown_twice contents k a b = λ i j. at j (k == j) i
  where
    at : (j : ℕ) (t : Bool) → (contents j ++ cond t a []) ++ cond t b [] ≡ contents j ++ cond t (a ++ b) []
    at j true = append_assoc (contents j) a b
    at j false = append-nil (contents j ++ [])

pub grown_none : (contents : ℕ → List ℕ) (k : ℕ) → grown contents k [] ≡ contents
grown_none contents k = λ i j. at j (k == j) i
  where
    at : (j : ℕ) (t : Bool) → contents j ++ cond t [] [] ≡ contents j
    at j true = append-nil (contents j)
    at j false = append-nil (contents j)

pub grown_part : (contents : ℕ → List ℕ) (k : ℕ) (a b : List ℕ) (files : Option Files) (names : List (List ℕ)) → BeginsOn names (grown contents k a) files →
    BeginsOn names (grown contents k (a ++ b)) files
grown_part contents k a b files names begins =
    begins_on_more names (grown contents k a) (grown contents k (a ++ b)) files
    (λ j. (cond (k == j) b [], ap (λ f. f j) (grown_twice contents k a b))) begins

-- what has begun of contents has begun of them with a piece behind
pub begins_grown : (names : List (List ℕ)) (contents : ℕ → List ℕ) (k : ℕ) (piece : List ℕ) (files : Option Files) → BeginsOn names contents files →
    BeginsOn names (grown contents k piece) files
begins_grown names contents k piece files = begins_on_more names contents (grown contents k piece) files (λ j. (cond (k == j) piece [], refl))

one_filled : (k : ℕ) (held : List (List ℕ)) → k < length held → (held_for held k ≡ [] → ⊥) → filled (take (suc k) held) ≡ suc (filled (take k held))
one_filled k [] within some = absurd (omega (arith, within))
one_filled zero ([] ∷ held) within some = absurd (some refl)
one_filled zero ((x ∷ xs) ∷ held) within some = refl
one_filled (suc k) ([] ∷ held) within some = one_filled k held (omega (arith, within)) some
one_filled (suc k) ((x ∷ xs) ∷ held) within some = ap suc (one_filled k held (omega (arith, within)) some)

none_filled : (k : ℕ) (held : List (List ℕ)) → held_for held k ≡ [] → filled (take (suc k) held) ≡ filled (take k held)
none_filled zero [] none = refl
none_filled (suc k) [] none = refl
none_filled zero ([] ∷ held) none = refl
none_filled zero ((x ∷ xs) ∷ held) none = absurd (let e : ◌≡◌ {A = List ℕ} (x ∷ xs) [] = none in cc)
none_filled (suc k) ([] ∷ held) none = none_filled k held none
none_filled (suc k) ((x ∷ xs) ∷ held) none = ap suc (none_filled k held none)

-- the next file counts where anything is held for it
pub filled_next : (k : ℕ) (held : List (List ℕ)) → k < length held → (held_for held k ≡ [] → ⊥) → filled (take (k + 1) held) ≡ suc (filled (take k held))
filled_next k held within some = let e : k + 1 ≡ suc k = omega arith in ap (λ n. filled (take n held)) e ∙ one_filled k held within some

pub filled_same : (k : ℕ) (held : List (List ℕ)) → held_for held k ≡ [] → filled (take (k + 1) held) ≡ filled (take k held)
filled_same k held none = let e : k + 1 ≡ suc k = omega arith in ap (λ n. filled (take n held)) e ∙ none_filled k held none

-- one call more
pub one_more : (more : ℕ) (calls : Option ℕ) → option_map next_call (option_map (after_calls more) calls) ≡ option_map (after_calls (suc more)) calls
one_more more None = refl
one_more more (Some calls) = refl

pub no_more : (calls : Option ℕ) → calls ≡ option_map (after_calls 0) calls
no_more None = refl
no_more (Some calls) = refl
