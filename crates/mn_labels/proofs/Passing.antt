-- Labels that are passed once in the search for a vacant one needn't be looked at again, as long as none is given up.
use Rattle.std.proofs.Common.{ℕ, zero, suc, ◌≡◌, ◌+◌, ◌<◌, Bool, true, false, cond, List, [], ◌∷◌, ◌++◌, filter, length, get_or, set, drop, refl, arith, sym}
use Rattle.std.proofs.Common.{◌∙◌, ap}
use Rattle.std.specs.Prelude.{Option, Some, None, is_some, not, ◌-◌, slice_get}
use Rattle.mn_labels.specs.declared.meaning.Bind.{Bind}
use Rattle.mn_labels.specs.Kept.{is_vacant}
use Rattle.mn_labels.proofs.Lists.{filter_twice, grown_end}

-- where fewer are vacant
narrower : (narrow wide : ℕ → Bool) (xs : List ℕ) (n : ℕ) → ((x : ℕ) → narrow x ≡ true → wide x ≡ true) →
    filter wide (drop n xs) ≡ filter wide xs → filter narrow (drop n xs) ≡ filter narrow xs
narrower narrow wide xs n h e = sym (filter_twice narrow wide (drop n xs) h) ∙ ap (filter narrow) e ∙ filter_twice narrow wide xs h

none_before_taken : (meanings : List (Option Bind)) (at k : ℕ) (what : Bind) → not (is_some (get_or (set meanings at (Some what)) k None)) ≡ true →
    not (is_some (get_or meanings k None)) ≡ true
none_before_taken [] at k what h = h
none_before_taken (m ∷ ms) zero zero what h = cc
none_before_taken (m ∷ ms) zero (suc k) what h = h
none_before_taken (m ∷ ms) (suc at) zero what h = h
none_before_taken (m ∷ ms) (suc at) (suc k) what h = none_before_taken ms at k what h

none_before_more : (meanings : List (Option Bind)) (k : ℕ) (what : Bind) → not (is_some (get_or (meanings ++ Some what ∷ []) k None)) ≡ true →
    not (is_some (get_or meanings k None)) ≡ true
none_before_more [] k what h = refl
none_before_more (m ∷ ms) zero what h = h
none_before_more (m ∷ ms) (suc k) what h = none_before_more ms k what h

-- a label is taken that nothing had
pub passed_taken : (meanings : List (Option Bind)) (reusable : List ℕ) (passed at : ℕ) (what : Bind) →
    filter (is_vacant meanings) (drop passed reusable) ≡ filter (is_vacant meanings) reusable →
    filter (is_vacant (set meanings at (Some what))) (drop passed reusable) ≡ filter (is_vacant (set meanings at (Some what))) reusable
passed_taken meanings reusable passed at what e =
    narrower (is_vacant (set meanings at (Some what))) (is_vacant meanings) reusable passed (λ x h. none_before_taken meanings at (x - 16) what h) e

-- a new label is an attachment's
pub passed_attached : (meanings : List (Option Bind)) (reusable : List ℕ) (passed : ℕ) (what : Bind) →
    filter (is_vacant meanings) (drop passed reusable) ≡ filter (is_vacant meanings) reusable →
    filter (is_vacant (meanings ++ Some what ∷ [])) (drop passed reusable) ≡ filter (is_vacant (meanings ++ Some what ∷ [])) reusable
passed_attached meanings reusable passed what e =
    narrower (is_vacant (meanings ++ Some what ∷ [])) (is_vacant meanings) reusable passed (λ x h. none_before_more meanings (x - 16) what h) e

drop_none : (n : ℕ) → drop n (let none : List ℕ = [] in none) ≡ []
drop_none zero = refl
drop_none (suc n) = refl

-- the last one isn't vacant
but_the_last : (p : ℕ → Bool) (xs : List ℕ) (n last : ℕ) → p last ≡ false → filter p (drop n (xs ++ last ∷ [])) ≡ filter p (drop n xs)
but_the_last p [] zero last h = ap (λ b. cond b (last ∷ []) []) h
but_the_last p [] (suc n) last h = ap (filter p) (drop_none n)
but_the_last p (x ∷ xs) zero last h = ap (λ ys. cond (p x) (x ∷ ys) ys) (but_the_last p xs zero last h)
but_the_last p (x ∷ xs) (suc n) last h = but_the_last p xs n last h

had_at_the_end : (meanings : List (Option Bind)) (what : Bind) → is_vacant (meanings ++ Some what ∷ []) (16 + length meanings) ≡ false
had_at_the_end meanings what = ap (λ v. not (is_some v)) (grown_end meanings (Some what) (16 + length meanings - 16) plain)
  where
    plain : 16 + length meanings - 16 ≡ length meanings
    plain = omega arith

-- a new label is a FEC's
pub passed_made : (meanings : List (Option Bind)) (reusable : List ℕ) (passed count : ℕ) (what : Bind) → count ≡ length meanings →
    filter (is_vacant meanings) (drop passed reusable) ≡ filter (is_vacant meanings) reusable →
    filter (is_vacant (meanings ++ Some what ∷ [])) (drop passed (reusable ++ (16 + count) ∷ []))
    ≡ filter (is_vacant (meanings ++ Some what ∷ [])) (reusable ++ (16 + count) ∷ [])
passed_made meanings reusable passed count what n e =
    let p : ℕ → Bool = is_vacant (meanings ++ Some what ∷ []) in
    let last : p (16 + count) ≡ false = ap (λ k. p (16 + k)) n ∙ had_at_the_end meanings what in
    but_the_last p reusable passed (16 + count) last
    ∙ passed_attached meanings reusable passed what e
    ∙ sym (but_the_last p reusable 0 (16 + count) last)

-- what the search finds

found_first : (p : ℕ → Bool) (x : ℕ) (xs : List ℕ) → p x ≡ true → slice_get (filter p (x ∷ xs)) 0 ≡ Some x
found_first p x xs h = ap (λ b. slice_get (cond b (x ∷ filter p xs) (filter p xs)) 0) h

first_of : (p : ℕ → Bool) (xs : List ℕ) (place : ℕ) → (place < length xs → p (get_or xs place 0) ≡ true) →
    slice_get (filter p (drop place xs)) 0 ≡ slice_get xs place
first_of p [] zero h = refl
first_of p [] (suc place) h = refl
first_of p (x ∷ xs) zero h = found_first p x xs (h (omega arith))
first_of p (x ∷ xs) (suc place) h = first_of p xs place (λ q. h (omega (arith, q)))

pub found : (meanings : List (Option Bind)) (reusable : List ℕ) (place : ℕ) →
    filter (is_vacant meanings) (drop place reusable) ≡ filter (is_vacant meanings) reusable →
    (place < length reusable → is_vacant meanings (get_or reusable place 0) ≡ true) →
    slice_get (filter (is_vacant meanings) reusable) 0 ≡ slice_get reusable place
found meanings reusable place e h = ap (λ xs. slice_get xs 0) (sym e) ∙ first_of (is_vacant meanings) reusable place h
