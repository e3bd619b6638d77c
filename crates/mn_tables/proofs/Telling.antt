-- Text that is put piece by piece.
use Rattle.std.proofs.Common.{◌≡◌, ◌+◌, ◌<◌, ◌≤◌, ℕ, List, [], ◌∷◌, ◌++◌, length, get_or, take, drop, Option, Result, Ok, Err, IsErr, refl, ap, sym}
use Rattle.std.proofs.Common.{◌∙◌, subst, append_assoc, arith, Bool, true, false}
use Rattle.std.specs.Prelude.{filter, if◌then◌else◌}
use Rattle.std.specs.Result.{IsErrAnd}
use Rattle.std.proofs.lemmas.List.{append-nil, take_all, take_more, take-append-drop}
use Rattle.std.proofs.lemmas.List.FromFn.{length-range_with_len, get_or-range_with_len}
use Rattle.std.proofs.lemmas.Grind.{flat_map-append}
use Rattle.std.specs.List.{flat_map, range_with_len}
use Rattle.std.specs.Borrow.{Bor}
use Rattle.mn_edge.specs.declared.device.DeviceBad.{DeviceBad}
use Rattle.mn_edge.specs.declared.device.DeviceBad.TheVariants.{Failed, NoMemory}
use Rattle.mn_edge.specs.Faults.{Counted}
use Rattle.mn_lines.specs.Lines.{pieces_of, text}
use Rattle.mn_lines.specs.Putting.{PutsPart}
use Rattle.mn_lines.proofs.Pieces.{text-cons}
use Rattle.mn_lines.proofs.Putting.{puts_nothing, puts_then, cut_in_first, cut_in_second}
use Rattle.mn_tables.specs.Telling.{Stand, Tells, Told}

-- what a call answers
abbrev pub Answer : Type 0
Answer = Result (Unit {0}) DeviceBad

-- an error that a `?` hands on as it is
abbrev pub IsErrOnly : Answer → DeviceBad → Type 0
IsErrOnly r e = IsErr r × IsErrAnd r (λ y. y ≡ e)

-- 1. Nothing, one text after another, and a text that is cut

pub told_nothing : (s : Stand) → Told [] s s
told_nothing s = record { puts = puts_nothing s.waits s.written; faults = refl }

pub told_by : (a : List ℕ) (s t : Stand) → Tells {T = Unit {0}} a s t (Ok tt) → Told a s t
told_by a s t x = record { puts = x.put; faults = x.cause }

pub told_more : (a b : List ℕ) (s t u : Stand) → Told a s t → Told b t u → Told (a ++ b) s u
told_more a b s t u x y = record {
  puts = puts_then a b s.waits t.waits u.waits s.written t.written u.written x.puts y.puts;
  faults = y.faults ∙ x.faults;
}

part_more : (a b more : List ℕ) (s t u : Stand) → Told a s t → PutsPart b t.waits t.written u.written → PutsPart (a ++ (b ++ more)) s.waits s.written u.written
part_more a b more s t u x y =
    cut_in_second a (b ++ more) s.waits t.waits s.written t.written u.written x.puts (cut_in_first b more t.waits t.written u.written y)

counted_as : (before other now : Option ℕ) (e : DeviceBad) → before ≡ other → Counted {T = Unit {0}} before now (Err e) →
    Counted {T = Unit {0}} other now (Err e)
counted_as before other now Failed is h = subst (λ n. Counted {T = Unit {0}} n now (Err Failed)) is h
counted_as before other now NoMemory is h = h ∙ is

-- 2. What is answered

pub tells_err : (a : List ℕ) (s t : Stand) (e : DeviceBad) (r : Answer) → IsErrOnly r e → Tells {T = Unit {0}} a s t (Err e) → Tells a s t r
tells_err a s t e (Ok x) from this = absurd from.1
tells_err a s t e (Err other) from this = subst (λ y. Tells {T = Unit {0}} a s t (Err y)) (sym from.1) this

-- the same text in other words
pub tells_as : (a b : List ℕ) (s t : Stand) (r : Answer) → Tells a s t r → a ≡ b → Tells b s t r
tells_as a b s t r x e = subst (λ words. Tells words s t r) e x

pub tells_nothing : (s : Stand) → Tells {T = Unit {0}} [] s s (Ok tt)
tells_nothing s = record { put = puts_nothing s.waits s.written; part = tt; cause = refl }

-- one text, and then the other
pub tells_then : (a b : List ℕ) (s t u : Stand) (r : Answer) → Told a s t → Tells b t u r → Tells (a ++ b) s u r
tells_then a b s t u (Ok x) before this =
    let both : Told (a ++ b) s u = told_more a b s t u before (record { puts = this.put; faults = this.cause }) in
    record { put = both.puts; part = tt; cause = both.faults }
tells_then a b s t u (Err e) before this = record {
  put = tt;
  part = subst (λ words. PutsPart (a ++ words) s.waits s.written u.written) (append-nil b) (part_more a b [] s t u before this.part);
  cause = counted_as t.faults s.faults u.faults e before.faults this.cause;
}

-- the first text is cut
pub tells_first : (a b : List ℕ) (s t : Stand) (e : DeviceBad) (r : Answer) → IsErrOnly r e → Tells {T = Unit {0}} a s t (Err e) → Tells (a ++ b) s t r
tells_first a b s t e r from this = tells_err (a ++ b) s t e r from (record {
  put = tt;
  part = part_more [] a b s s t (told_nothing s) this.part;
  cause = this.cause;
})

-- the second of three texts is cut
pub tells_within : (a b more whole : List ℕ) (s t u : Stand) (e : DeviceBad) (r : Answer) → IsErrOnly r e → Told a s t → Tells {T = Unit {0}} b t u (Err e)
    → a ++ (b ++ more) ≡ whole → Tells whole s u r
tells_within a b more whole s t u e r from before this is = tells_err whole s u e r from (record {
  put = tt;
  part = subst (λ words. PutsPart words s.waits s.written u.written) is (part_more a b more s t u before this.part);
  cause = counted_as t.faults s.faults u.faults e before.faults this.cause;
})

-- the counts of faults alone
pub counted_err : (before mid now : Option ℕ) (e : DeviceBad) (r : Answer) → IsErrOnly r e → mid ≡ before → Counted {T = Unit {0}} mid now (Err e) →
    Counted before now r
counted_err before mid now e (Ok x) from same this = absurd from.1
counted_err before mid now e (Err other) from same this =
    subst (λ y. Counted {T = Unit {0}} before now (Err y)) (sym from.1) (counted_as mid before now e same this)

pub counted_then : (before mid now : Option ℕ) (r : Answer) → mid ≡ before → Counted {T = Unit {0}} mid now r → Counted {T = Unit {0}} before now r
counted_then before mid now r same this = subst (λ n. Counted {T = Unit {0}} n now r) same this

-- memory was wanted before anything was put
pub tells_want : (a : List ℕ) (s : Stand) → Tells {T = Unit {0}} a s s (Err NoMemory)
tells_want a s = record {
  put = tt;
  part = λ before so_far on. (on.part, (s.waits ++ a, sym (append_assoc on.part s.waits a) ∙ ap (λ xs. xs ++ a) on.whole), on.told);
  cause = refl;
}

-- 3. One text after another, over a list

more_of : {X : Type 0} (f : X → List ℕ) (xs : List X) (i : ℕ) (d : X) → i < length xs →
    flat_map f (take (i + 1) xs) ≡ flat_map f (take i xs) ++ f (get_or xs i d)
more_of f xs i d below =
    ap (flat_map f) (take_more xs i d below) ∙ flat_map-append f (take i xs) (get_or xs i d ∷ [])
    ∙ ap (λ ys. flat_map f (take i xs) ++ ys) (append-nil (f (get_or xs i d)))

all_of : {X : Type 0} (f : X → List ℕ) (xs : List X) (i : ℕ) (d : X) → i < length xs
    → flat_map f (take i xs) ++ (f (get_or xs i d) ++ flat_map f (drop (i + 1) xs)) ≡ flat_map f xs
all_of f xs i d below =
    sym (append_assoc (flat_map f (take i xs)) (f (get_or xs i d)) (flat_map f (drop (i + 1) xs)))
    ∙ ap (λ ys. ys ++ flat_map f (drop (i + 1) xs)) (sym (more_of f xs i d below))
    ∙ sym (flat_map-append f (take (i + 1) xs) (drop (i + 1) xs))
    ∙ ap (flat_map f) (take-append-drop (i + 1) xs)

-- one more
pub told_next : {X : Type 0} (f : X → List ℕ) (xs : List X) (i : ℕ) (d : X) (s t u : Stand) → i < length xs
    → Told (flat_map f (take i xs)) s t → Tells {T = Unit {0}} (f (get_or xs i d)) t u (Ok tt) → Told (flat_map f (take (i + 1) xs)) s u
told_next f xs i d s t u below before this =
    subst (λ words. Told words s u) (sym (more_of f xs i d below))
    (told_more (flat_map f (take i xs)) (f (get_or xs i d)) s t u before (told_by (f (get_or xs i d)) t u this))

-- one is cut, and so all
pub tells_cut : {X : Type 0} (f : X → List ℕ) (xs : List X) (i : ℕ) (d : X) (s t u : Stand) (e : DeviceBad) (r : Answer) → IsErrOnly r e → i < length xs
    → Told (flat_map f (take i xs)) s t → Tells {T = Unit {0}} (f (get_or xs i d)) t u (Err e) → Tells (flat_map f xs) s u r
tells_cut f xs i d s t u e r from below before this =
    tells_within (flat_map f (take i xs)) (f (get_or xs i d)) (flat_map f (drop (i + 1) xs)) (flat_map f xs) s t u e r from before this (all_of f xs i d below)

-- none is left
pub tells_all : {X : Type 0} (f : X → List ℕ) (xs : List X) (i : ℕ) (s t : Stand) → length xs ≤ i → Told (flat_map f (take i xs)) s t →
    Tells {T = Unit {0}} (flat_map f xs) s t (Ok tt)
tells_all f xs i s t past before =
    let whole : Told (flat_map f xs) s t = subst (λ words. Told (flat_map f words) s t) (take_all i xs past) before in
    record { put = whole.puts; part = tt; cause = whole.faults }

-- memory was wanted after some of the texts
pub tells_want_after : {X : Type 0} (f : X → List ℕ) (xs : List X) (i : ℕ) (s t : Stand) → Told (flat_map f (take i xs)) s t →
    Tells {T = Unit {0}} (flat_map f xs) s t (Err NoMemory)
tells_want_after f xs i s t before = record {
  put = tt;
  part = subst (λ words. PutsPart words s.waits s.written t.written) (sym (flat_map-append f (take i xs) (drop i xs)) ∙ ap (flat_map f) (take-append-drop i xs))
      (part_more (flat_map f (take i xs)) [] (flat_map f (drop i xs)) s t t before (tells_want [] t).part);
  cause = before.faults;
}

-- 4. Over the numbers below another

numbered : (n i : ℕ) → i < n → get_or (range_with_len 0 n) i 0 ≡ i
numbered n i below = get_or-range_with_len 0 n i 0 below ∙ (omega arith)

pub told_next_number : (f : ℕ → List ℕ) (n i : ℕ) (s t u : Stand) → i < n
    → Told (flat_map f (take i (range_with_len 0 n))) s t → Tells {T = Unit {0}} (f i) t u (Ok tt) → Told (flat_map f (take (i + 1) (range_with_len 0 n))) s u
told_next_number f n i s t u below before this =
    told_next f (range_with_len 0 n) i 0 s t u (rw length-range_with_len below) before
    (tells_as (f i) (f (get_or (range_with_len 0 n) i 0)) t u (Ok tt) this (sym (ap f (numbered n i below))))

pub tells_cut_number : (f : ℕ → List ℕ) (n i : ℕ) (s t u : Stand) (e : DeviceBad) (r : Answer) → IsErrOnly r e → i < n
    → Told (flat_map f (take i (range_with_len 0 n))) s t → Tells {T = Unit {0}} (f i) t u (Err e) → Tells (flat_map f (range_with_len 0 n)) s u r
tells_cut_number f n i s t u e r from below before this =
    tells_cut f (range_with_len 0 n) i 0 s t u e r from (rw length-range_with_len below) before
    (tells_as (f i) (f (get_or (range_with_len 0 n) i 0)) t u (Err e) this (sym (ap f (numbered n i below))))

pub tells_all_numbers : (f : ℕ → List ℕ) (n i : ℕ) (s t : Stand) → n ≤ i → Told (flat_map f (take i (range_with_len 0 n))) s t
    → Tells {T = Unit {0}} (flat_map f (range_with_len 0 n)) s t (Ok tt)
tells_all_numbers f n i s t past before = tells_all f (range_with_len 0 n) i s t (rw length-range_with_len past) before

-- the others leave nothing
pub flat_filter : {X : Type 0} (f : X → List ℕ) (p : X → Bool) (xs : List X) → flat_map (λ x. if p x then f x else []) xs ≡ flat_map f (filter p xs)
flat_filter f p [] = refl
flat_filter f p (x ∷ xs) =
    elim (p x) as (λ b. (if b then f x else []) ++ flat_map (λ y. if p y then f y else []) xs ≡ flat_map f (if b then x ∷ filter p xs else filter p xs)) [
      | true ↦ ap (λ ys. f x ++ ys) (flat_filter f p xs)
      | false ↦ flat_filter f p xs
    ]

-- 5. Pieces

pub text_flat : (pieces : List (Bor (List ℕ))) → flat_map (λ piece. piece.now) pieces ≡ text (pieces_of pieces)
text_flat [] = refl
text_flat (piece ∷ pieces) = ap (λ xs. piece.now ++ xs) (text_flat pieces) ∙ sym (text-cons piece.now (pieces_of pieces))
