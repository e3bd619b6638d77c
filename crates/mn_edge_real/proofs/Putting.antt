-- A piece that is put behind a file's bytes part by part, and bytes of files that grow.
use Rattle.std.proofs.Common.{◌≡◌, ◌⊎◌, ◌≤◌, ◌<◌, ◌+◌, ◌-◌, ℕ, Bool, true, false, cond, List, [], ◌++◌, Option, Some, None, take, drop, length, refl, ap, sym}
use Rattle.std.proofs.Common.{◌∙◌, subst, inl, inr, arith, length-drop}
use Rattle.std.specs.Option.{ForSome}
use Rattle.std.specs.Prelude.{string_bytes, option_map}
use Rattle.std.proofs.Math.Seq.{take-add}
use Rattle.std.proofs.lemmas.List.{append_assoc, take_all, drop-append-le, take-append-le, length-take}
use Rattle.mn_edge.specs.Files.{Files, file, with_file, Fetched, Grows, MayGrow}
use Rattle.mn_edge.specs.FileLaws.{same_files, same_name-eq, same_name-refl, file-with_file}
use Rattle.mn_edge.specs.Written.{same_name}
use Rattle.mn_edge_real.specs.declared.last_read.LastRead.{LastRead}
use Rattle.mn_edge_real.specs.Reached.{IsKept}

-- 1. A file that is made twice

with_file-twice : (m : Files) (name a b : List ℕ) → with_file (with_file m name a) name b ≡ with_file m name b
with_file-twice m name a b = same_files _ _ (λ q.
    file-with_file (with_file m name a) name b q ∙ at q (same_name q name) refl ∙ sym (file-with_file m name b q))
  where
    at : (q : List ℕ) (s : Bool) → same_name q name ≡ s → cond s (Some b) (file (with_file m name a) q) ≡ cond s (Some b) (file m q)
    at q true is = refl
    at q false is = file-with_file m name a q ∙ ap (λ s. cond s (Some a) (file m q)) is

file-made : (m : Files) (name bytes : List ℕ) → file (with_file m name bytes) name ≡ Some bytes
file-made m name bytes = file-with_file m name bytes name ∙ ap (λ s. cond s (Some bytes) (file m name)) (same_name-refl name)

-- 2. A piece, part by part

-- where the disk tells its files: nothing was put yet, or so much of the piece stands behind the file's bytes
abbrev pub Put : Option Files → Option Files → List ℕ → List ℕ → ℕ → Type 0
Put first now name piece done = ForSome first (λ m. ((done ≡ 0) × (now ≡ Some m)) ⊎ Grows m name (take done piece) now)

pub nothing_put : (first : Option Files) (name piece : List ℕ) → Put first first name piece 0
nothing_put first name piece m is = inl (refl, is)

pub put_more : (first now new : Option Files) (name piece : List ℕ) (done more : ℕ) → Put first now name piece done →
    ForSome now (λ m. Grows m name (take more (drop done piece)) new) → ForSome first (λ m. Grows m name (take (done + more) piece) new)
put_more first now new name piece done more so_far grew m is = elim (so_far m is) [
  | inl p ↦ let e : take (done + more) piece ≡ take more (drop done piece) =
      take-add done more piece ∙ ap (λ n. take n piece ++ take more (drop done piece)) p.0 in
      subst (λ l. Grows m name l new) (sym e) (grew m p.1)
  | inr g ↦
      let then : Files = with_file m name (g.bytes ++ take done piece) in
      let h : Grows then name (take more (drop done piece)) new = grew then g.grown in
      let was : h.bytes ≡ g.bytes ++ take done piece = same_some h.bytes (g.bytes ++ take done piece) (sym h.there
      ∙ file-made m name (g.bytes ++ take done piece)) in
      record {
        bytes = g.bytes;
        there = g.there;
        grown = h.grown ∙ ap Some (with_file-twice m name (g.bytes ++ take done piece) (h.bytes ++ take more (drop done piece))
            ∙ ap (with_file m name) (ap (λ l. l ++ take more (drop done piece)) was ∙ append_assoc g.bytes (take done piece) (take more (drop done piece))
            ∙ ap (λ l. g.bytes ++ l) (sym (take-add done more piece))));
      }
]
  where
    same_some : (a b : List ℕ) → Some a ≡ Some b → a ≡ b
    same_some a b e = cc

pub put_on : (first new : Option Files) (name piece : List ℕ) (done : ℕ) → ForSome first (λ m. Grows m name (take done piece) new) →
    Put first new name piece done
put_on first new name piece done grew m is = inr (grew m is)

pub put_same : (first now new : Option Files) (name piece : List ℕ) (done : ℕ) → new ≡ now → Put first now name piece done → Put first new name piece done
put_same first now new name piece done same so_far m is = elim (so_far m is) [
  | inl p ↦ inl (p.0, same ∙ p.1)
  | inr g ↦ inr (record { bytes = g.bytes; there = g.there; grown = same ∙ g.grown })
]

-- all of it was put, or a part of it
pub put_whole : (first new : Option Files) (name piece : List ℕ) (done : ℕ) → done ≡ length piece →
    ForSome first (λ m. Grows m name (take done piece) new) → ForSome first (λ m. Grows m name piece new)
put_whole first new name piece done all grew m is =
    subst (λ l. Grows m name l new) (take_all done piece (omega (arith, all))) (grew m is)

pub put_part : (first new : Option Files) (name piece : List ℕ) (done : ℕ) → Put first new name piece done → ForSome first (λ m. MayGrow m name piece new)
put_part first new name piece done so_far m is = elim (so_far m is) [ inl p ↦ inl p.1 | inr g ↦ inr (done, g) ]

pub grew_may : (m : Files) (name piece : List ℕ) (new : Option Files) → Grows m name piece new → MayGrow m name piece new
grew_may m name piece new g =
    inr (length piece, subst (λ l. Grows m name l new) (sym (take_all (length piece) piece (omega arith))) g)

-- 3. Bytes that are kept while files grow

-- so much of the file's bytes from that place on
abbrev piece_at : ℕ → ℕ → Option (List ℕ) → Option (List ℕ)
piece_at count at bytes = option_map (λ bs. take count (drop at bs)) bytes

same_some : (a b : List ℕ) → Some a ≡ Some b → a ≡ b
same_some a b e = cc

none_some : (a : List ℕ) → None ≡ Some a → ⊥
none_some a e = cc

-- what a read gave that filled the buffer
pub fetched_is : (m : Files) (name : List ℕ) (at count : ℕ) (buf : List ℕ) → length buf ≡ count → Fetched m name at count buf →
    piece_at (length buf) at (file m name) ≡ Some buf
fetched_is m name at count buf full f =
    ap (piece_at (length buf) at) f.there ∙ ap Some (sym (subst (λ n. take n buf ≡ take n (drop at f.bytes)) (sym full) f.front)
    ∙ take_all (length buf) buf (omega arith))

-- and what is kept so can be given again
pub is_fetched : (m : Files) (name : List ℕ) (at : ℕ) (kept : List ℕ) → 0 < length kept → piece_at (length kept) at (file m name) ≡ Some kept →
    Fetched m name at (length kept) kept
is_fetched m name at kept some is = by (file m name) refl is
  where
    by : (o : Option (List ℕ)) → file m name ≡ o → piece_at (length kept) at o ≡ Some kept → Fetched m name at (length kept) kept
    by None e h = absurd (none_some kept h)
    by (Some bytes) e h =
        let same : take (length kept) (drop at bytes) ≡ kept = same_some (take (length kept) (drop at bytes)) kept h in
        let long = length-take (length kept) (drop at bytes) in
        let size : length (take (length kept) (drop at bytes)) ≡ length kept = ap length same in
        record {
          bytes = bytes;
          there = e;
          front = take_all (length kept) kept (omega arith) ∙ sym same;
          within = omega (arith, long, size);
          none_at_end = λ room none. absurd (omega (arith, some, none));
        }

grown_piece : (m : Files) (name old piece other : List ℕ) (at : ℕ) (kept : List ℕ) → file m name ≡ Some old → 0 < length kept →
    piece_at (length kept) at (file m other) ≡ Some kept → piece_at (length kept) at (file (with_file m name (old ++ piece)) other) ≡ Some kept
grown_piece m name old piece other at kept there some is = by (same_name other name) refl
  where
    by : (s : Bool) → same_name other name ≡ s → piece_at (length kept) at (file (with_file m name (old ++ piece)) other) ≡ Some kept
    by true same =
        let f : Fetched m other at (length kept) kept = is_fetched m other at kept some is in
        let was : f.bytes ≡ old = same_some f.bytes old (sym f.there ∙ ap (file m) (same_name-eq other name same) ∙ there) in
        let within : length kept ≤ length (drop at old) = subst (λ l. length kept ≤ length (drop at l)) was f.within in
        let d = length-drop at old in
        let seam : drop at (old ++ piece) ≡ drop at old ++ piece = drop-append-le at old piece (omega (arith, within, d, some)) in
        ap (piece_at (length kept) at) (file-with_file m name (old ++ piece) other ∙ ap (λ s. cond s (Some (old ++ piece)) (file m other)) same)
        ∙ ap Some (ap (take (length kept)) seam ∙ take-append-le (length kept) (drop at old) piece within
        ∙ same_some (take (length kept) (drop at old)) kept (ap (piece_at (length kept) at) (sym there)
        ∙ ap (λ n. piece_at (length kept) at (file m n)) (sym (same_name-eq other name same)) ∙ is))
    by false apart =
        ap (piece_at (length kept) at) (file-with_file m name (old ++ piece) other ∙ ap (λ s. cond s (Some (old ++ piece)) (file m other)) apart) ∙ is

-- what is kept of a read stays the file's while files grow
pub kept_on : (files after : Option Files) (name piece : List ℕ) (last : LastRead) → (files ≡ None → after ≡ None) →
    ForSome files (λ m. MayGrow m name piece after) → IsKept files last → IsKept after last
kept_on None after name piece last silent grew kept some m is = absurd (let e : ◌≡◌ {A = Option Files} None (Some m) = sym (silent refl) ∙ is in cc)
kept_on (Some before) after name piece last silent grew kept some m is = elim (grew before refl) [
  | inl same ↦ subst (λ n. piece_at (length last.bytes.items) last.at (file n (string_bytes last.name)) ≡ Some last.bytes.items)
      (one before m (sym same ∙ is)) (kept some before refl)
  | inr g ↦ subst (λ n. piece_at (length last.bytes.items) last.at (file n (string_bytes last.name)) ≡ Some last.bytes.items)
      (one (with_file before name (g.1.bytes ++ take g.0 piece)) m (sym g.1.grown ∙ is))
      (grown_piece before name g.1.bytes (take g.0 piece) (string_bytes last.name) last.at last.bytes.items g.1.there some (kept some before refl))
]
  where
    one : (a b : Files) → Some a ≡ Some b → a ≡ b
    one a b e = cc

-- what is given again is what was kept
pub repeated : (files : Option Files) (name : List ℕ) (at : ℕ) (buf : List ℕ) (last : LastRead) → IsKept files last → buf ≡ last.bytes.items →
    last.at ≡ at → string_bytes last.name ≡ name → 0 < length buf → ForSome files (λ m. Fetched m name at (length buf) buf)
repeated files name at buf last kept bytes place named some m is =
    let here : 0 < length last.bytes.items = subst (λ (b : List ℕ). 0 < length b) bytes some in
    subst (λ b. Fetched m name at (length b) b) (sym bytes)
    (subst (λ n. Fetched m n at (length last.bytes.items) last.bytes.items) named
    (subst (λ a. Fetched m (string_bytes last.name) a (length last.bytes.items) last.bytes.items) place
    (is_fetched m (string_bytes last.name) last.at last.bytes.items here (kept here m is))))

-- what was read is kept, or nothing
pub noted : (files : Option Files) (name : List ℕ) (at count : ℕ) (buf : List ℕ) (last : LastRead) →
    (0 < length last.bytes.items → (last.bytes.items ≡ buf) × (length buf ≡ count) × (last.at ≡ at) × (string_bytes last.name ≡ name)) →
    ForSome files (λ m. Fetched m name at count buf) → IsKept files last
noted files name at count buf last is fetched some m e =
    let h = is some in
    subst (λ b. piece_at (length b) last.at (file m (string_bytes last.name)) ≡ Some b) (sym h.0)
    (subst (λ n. piece_at (length buf) last.at (file m n) ≡ Some buf) (sym h.3)
    (subst (λ a. piece_at (length buf) a (file m name) ≡ Some buf) (sym h.2) (fetched_is m name at count buf h.1 (fetched m e))))
