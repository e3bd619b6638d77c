-- What follows of files that grow, and of their names.
use Rattle.std.proofs.Common.{◌≡◌, ◌≢◌, ◌<◌, ℕ, zero, suc, Bool, true, false, not, ◌&&◌, ◌||◌, cond, List, [], ◌∷◌, ◌++◌, length, replicate, Option, Some}
use Rattle.std.proofs.Common.{None, Result, refl, sym, ◌∙◌, ap, subst, append_assoc, arith}
use Rattle.std.specs.Prelude.{is_some, IsSome}
use Rattle.std.specs.Option.{ForSome}
use Rattle.mn_edge.specs.declared.device.DeviceBad.{DeviceBad}
use Rattle.mn_edge.specs.Faults.{CountedUnless}
use Rattle.mn_edge.specs.FaultLaws.{excused_by}
use Rattle.mn_edge.specs.Files.{Absent, Files, Grows, file, with_file}
use Rattle.mn_edge.specs.Written.{same_name, is_known, written, laid, IsPrefix, Stands, bytes_for}
use Rattle.mn_edge.specs.FileLaws.{same_name-eq, same_name-refl, file-with_file, file-laid, file-laid_there}
use Rattle.mn_edge.specs.Memory.{all_differ}
use Rattle.mn_edge.specs.Kept.{name_of, held_for, AllThere, Holds, Begins, Framed, HoldsOn, BeginsOn, Lacking}

pub same_some : {A : Type 0} (a b : A) (o : Option A) → o ≡ Some a → o ≡ Some b → a ≡ b
same_some a b o p q = let e : Some a ≡ Some b = sym p ∙ q in cc

-- what is held begins
pub held_begins : (names : List (List ℕ)) (contents : ℕ → List ℕ) (held : List (List ℕ)) (now : Files) → Holds names contents held now →
    Begins names contents now
held_begins names contents held now h = λ k within. let x = h k within in record { shelved = x.shelved; there = x.there; part = (held_for held k, x.whole) }

-- a first part of contents is one of longer contents
pub begins_more : (names : List (List ℕ)) (contents longer : ℕ → List ℕ) (now : Files) →
    ((k : ℕ) → IsPrefix (contents k) (longer k)) → Begins names contents now → Begins names longer now
begins_more names contents longer now more b = λ k within.
    let x = b k within in
    record {
      shelved = x.shelved;
      there = x.there;
      part =
          (x.part.0 ++ (more k).0, sym (append_assoc x.shelved x.part.0 (more k).0) ∙ ap (λ l. l ++ (more k).0) x.part.1 ∙ (more k).1);
    }

pub begins_on : (names : List (List ℕ)) (contents : ℕ → List ℕ) (held : List (List ℕ)) (files : Option Files) → HoldsOn names contents held files →
    BeginsOn names contents files
begins_on names contents held files h = record { now = h.now; told = h.told; begins = held_begins names contents held h.now h.holds }

pub begins_on_more : (names : List (List ℕ)) (contents longer : ℕ → List ℕ) (files : Option Files) →
    ((k : ℕ) → IsPrefix (contents k) (longer k)) → BeginsOn names contents files → BeginsOn names longer files
begins_on_more names contents longer files more b = record { now = b.now; told = b.told; begins = begins_more names contents longer b.now more b.begins }

pub framed_same : (names : List (List ℕ)) (files : Option Files) → Framed names files files
framed_same names files = record { silent = λ n. n; stays = λ all. all; others = λ before is. (before, is, λ name h. refl) }

pub framed_both : (names : List (List ℕ)) (a b c : Option Files) → Framed names a b → Framed names b c → Framed names a c
framed_both names a b c one other = record {
  silent = λ n. other.silent (one.silent n);
  stays = λ all. other.stays (one.stays all);
  others = λ before is.
      let x = one.others before is in
      let y = other.others x.0 x.1 in
      (y.0, y.1, λ name h. y.2 name h ∙ x.2 name h);
}

-- each of the names is known
pub is_known-name_of : (names : List (List ℕ)) (k : ℕ) → k < length names → is_known names (name_of names k) ≡ true
is_known-name_of [] k within = absurd (omega arith)
is_known-name_of (n ∷ ns) zero within = ap (λ b. b || is_known ns n) (same_name-refl n)
is_known-name_of (n ∷ ns) (suc k) within = ap (λ b. same_name (name_of ns k) n || b) (is_known-name_of ns k (omega arith)) ∙ last (same_name (name_of ns k) n)
  where
    last : (b : Bool) → (b || true) ≡ true
    last true = refl
    last false = refl

-- a name that isn't known is none of them
pub unknown-apart : (names : List (List ℕ)) (k : ℕ) (q : List ℕ) → k < length names → is_known names q ≡ false → same_name q (name_of names k) ≡ false
unknown-apart names k q within unknown = by (same_name q (name_of names k)) refl
  where
    by : (b : Bool) → same_name q (name_of names k) ≡ b → same_name q (name_of names k) ≡ false
    by true h = let e : false ≡ true = sym unknown ∙ ap (is_known names) (same_name-eq q (name_of names k) h) ∙ is_known-name_of names k within in cc
    by false h = h

both_hold : (a b : Bool) → (a && b) ≡ true → (a ≡ true) × (b ≡ true)
both_hold true true h = (refl, refl)
both_hold true false h = cc
both_hold false b h = cc

not_known : (n : List ℕ) (ns : List (List ℕ)) (j : ℕ) → not (is_known ns n) ≡ true → j < length ns → n ≡ name_of ns j → ⊥
not_known n ns j new within e = let known : is_known ns n ≡ true = ap (is_known ns) e ∙ is_known-name_of ns j within in let h : not true ≡ true =
    sym (ap not known) ∙ new in cc

-- where the names differ, one name stands at one place
pub one_place : (names : List (List ℕ)) (i j : ℕ) → all_differ names ≡ true → i < length names → j < length names → name_of names i ≡ name_of names j → i ≡ j
one_place [] i j differ wi wj e = absurd (omega arith)
one_place (n ∷ ns) zero zero differ wi wj e = refl
one_place (n ∷ ns) zero (suc j) differ wi wj e = absurd (not_known n ns j (both_hold (not (is_known ns n)) (all_differ ns) differ).0 (omega arith) e)
one_place (n ∷ ns) (suc i) zero differ wi wj e = absurd (not_known n ns i (both_hold (not (is_known ns n)) (all_differ ns) differ).0 (omega arith) (sym e))
one_place (n ∷ ns) (suc i) (suc j) differ wi wj e =
    ap suc (one_place ns i j (both_hold (not (is_known ns n)) (all_differ ns) differ).1 (omega arith) (omega arith) e)

-- and names at two places are told apart
pub places_apart : (names : List (List ℕ)) (i j : ℕ) → all_differ names ≡ true → i < length names → j < length names → i ≢ j →
    same_name (name_of names i) (name_of names j) ≡ false
places_apart names i j differ wi wj apart = by (same_name (name_of names i) (name_of names j)) refl
  where
    by : (b : Bool) → same_name (name_of names i) (name_of names j) ≡ b → same_name (name_of names i) (name_of names j) ≡ false
    by true h = absurd (apart (one_place names i j differ wi wj (same_name-eq (name_of names i) (name_of names j) h)))
    by false h = h

-- a known name stands at a place
pub known_place : (names : List (List ℕ)) (q : List ℕ) → is_known names q ≡ true → (k : ℕ) × (k < length names) × (q ≡ name_of names k)
known_place [] q known = let e : false ≡ true = known in cc
known_place (n ∷ ns) q known = by (same_name q n) refl (λ h. known_place ns q h)
  where
    later : (k : ℕ) × (k < length ns) × (q ≡ name_of ns k) → (k : ℕ) × (k < length (n ∷ ns)) × (q ≡ name_of (n ∷ ns) k)
    later x = (suc x.0, let h : x.0 < length ns = x.1 in omega (arith, h), x.2)

    by : (b : Bool) → same_name q n ≡ b → (is_known ns q ≡ true → (k : ℕ) × (k < length ns) × (q ≡ name_of ns k)) →
        (k : ℕ) × (k < length (n ∷ ns)) × (q ≡ name_of (n ∷ ns) k)
    by true h rest = (0, omega arith, same_name-eq q n h)
    by false h rest = later (rest (sym (ap (λ b. b || is_known ns q) h) ∙ known))

-- names of which each stands at one place differ
pub all_differ-from : (names : List (List ℕ)) → ((i j : ℕ) → i < length names → j < length names → name_of names i ≡ name_of names j → i ≡ j) →
    all_differ names ≡ true
all_differ-from [] one = refl
all_differ-from (n ∷ ns) one =
    ap (λ b. not b && all_differ ns) (new (is_known ns n) refl)
    ∙ all_differ-from ns (λ i j wi wj e. let s : suc i ≡ suc j = one (suc i) (suc j) (omega (arith, wi)) (omega (arith, wj)) e in omega (arith, s))
  where
    new : (b : Bool) → is_known ns n ≡ b → is_known ns n ≡ false
    new true h = let x = known_place ns n h in let w : x.0 < length ns = x.1 in let z : 0 ≡ suc x.0 =
        one 0 (suc x.0) (omega arith) (omega (arith, w)) x.2 in absurd (omega (arith, z))
    new false h = h

-- for none of any number of files something is held
pub held_for-replicate : (n k : ℕ) → held_for (replicate n []) k ≡ []
held_for-replicate zero k = refl
held_for-replicate (suc n) zero = refl
held_for-replicate (suc n) (suc k) = held_for-replicate n k

-- files that were just begun hold nothing, and nothing is held for them
pub begun-holds : (names : List (List ℕ)) (m : Files) (files : Option Files) (n : ℕ) → Stands names [] m files → HoldsOn names (λ _. []) (replicate n []) files
begun-holds names m files n stands = record {
  now = laid (written names []) m;
  told = stands;
  holds = λ k within. record {
    shelved = [];
    there = file-laid_there (bytes_for []) names m (name_of names k) (is_known-name_of names k within);
    whole = held_for-replicate n k;
  };
}

-- they are all there
pub begun-there : (names : List (List ℕ)) (m : Files) (files : Option Files) → Stands names [] m files → AllThere names files
begun-there names m files stands = record {
  now = laid (written names []) m;
  told = stands;
  there = λ k within. ap is_some (file-laid_there (bytes_for []) names m (name_of names k) (is_known-name_of names k within));
}

-- and other files are as they were
pub begun-framed : (names : List (List ℕ)) (m : Files) (files : Option Files) → Stands names [] m files → Framed names (Some m) files
begun-framed names m files stands = record {
  silent = λ n. let e : Some m ≡ None = n in cc;
  stays = λ all. begun-there names m files stands;
  others = λ before is. (
    laid (written names []) m,
    stands,
    λ name unknown.
        file-laid (bytes_for []) names m name ∙ ap (λ b. cond b (Some []) (file m name)) unknown ∙ ap (λ f. file f name) (same_some m before (Some m) refl is),
  );
}

-- files that are told of are told of as much after a call that changed none
pub absent_same : (old now : Option Files) (name : List ℕ) → now ≡ old → Absent now name → Absent old name
absent_same old now name same absent = λ m is. absent m (same ∙ is)

-- files that hold contents are all there
pub holds_there : (names : List (List ℕ)) (contents : ℕ → List ℕ) (held : List (List ℕ)) (files : Option Files) → HoldsOn names contents held files →
    AllThere names files
holds_there names contents held files h = record { now = h.now; told = h.told; there = λ k within. ap is_some (h.holds k within).there }

-- files that are all there are so after an append
pub there_grown : (names : List (List ℕ)) (name piece : List ℕ) (old now : Option Files) → ForSome old (λ m. Grows m name piece now) → AllThere names old →
    AllThere names now
there_grown names name piece old now grows all =
    let g = grows all.now all.told in
    record {
      now = with_file all.now name (g.bytes ++ piece);
      told = g.grown;
      there = λ k within.
          ap is_some (file-with_file all.now name (g.bytes ++ piece) (name_of names k))
          ∙ by (g.bytes ++ piece) (file all.now (name_of names k)) (same_name (name_of names k) name) (all.there k within);
    }
  where
    by : (bytes : List ℕ) (o : Option (List ℕ)) (b : Bool) → IsSome o → IsSome (cond b (Some bytes) o)
    by bytes o true h = refl
    by bytes o false h = h

-- a file that is absent later was among those that weren't all there
pub lacking_at : (names : List (List ℕ)) (k : ℕ) (name : List ℕ) (old now : Option Files) → k < length names → name ≡ name_of names k →
    (AllThere names old → AllThere names now) → Absent now name → Lacking names old
lacking_at names k name old now within named still absent = λ all.
    let later : AllThere names now = still all in
    let e : true ≡ false = sym (later.there k within) ∙ ap is_some (ap (file later.now) (sym named) ∙ absent later.now later.told) in cc

-- a call comes after others that left the count, and of these files all that were there
pub counted_framed : {T : Type 0} (names : List (List ℕ)) (old between : Option Files) (first before now : Option ℕ) (result : Result T DeviceBad) →
    Framed names old between → before ≡ first → CountedUnless (Lacking names between) before now result → CountedUnless (Lacking names old) first now result
counted_framed names old between first before now result framed same counted =
    excused_by (Lacking names between) (Lacking names old) first now result (λ lacking all. lacking (framed.stays all))
    (subst (λ n. CountedUnless (Lacking names between) n now result) same counted)
