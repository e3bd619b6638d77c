-- The place of the first that passes.
use Rattle.std.proofs.Common.{◌≡◌, ◌<◌, suc, ◌+◌, not, cond, length, length-append, position, arith, Bool, true, false, true≢false, ◌||◌, List, [], ◌∷◌, ◌++◌}
use Rattle.std.proofs.Common.{Some, is_some, IfSome, refl, ◌∙◌, sym}
use Rattle.std.specs.List.{list_any, position_or_len}
use Rattle.std.proofs.lemmas.Bool.{lt-ltb}
use Rattle.std.proofs.lemmas.Bool.Decides.{nat_tests}
use Rattle.std.proofs.lemmas.List.Folds.{position_or_len_push}

module _ {A : Type 0} (p : A → Bool) where
  none_place : (xs : List A) → list_any p xs ≡ false → position_or_len p xs ≡ length xs
  none_place [] h = refl
  none_place (x ∷ xs) h = by (none_place xs) (p x) h
    where
      by : (list_any p xs ≡ false → position_or_len p xs ≡ length xs) →
          (b : Bool) → (b || list_any p xs) ≡ false → cond (not b) (1 + position_or_len p xs) 0 ≡ suc (length xs)
      by rest true k = absurd (true≢false k)
      by rest false k = let at : position_or_len p xs ≡ length xs = rest k in omega arith

  some_place : (xs : List A) → list_any p xs ≡ true → position_or_len p xs < length xs
  some_place [] h = absurd (true≢false (sym h))
  some_place (x ∷ xs) h = by (some_place xs) (p x) h
    where
      by : (list_any p xs ≡ true → position_or_len p xs < length xs) →
          (b : Bool) → (b || list_any p xs) ≡ true → cond (not b) (1 + position_or_len p xs) 0 < suc (length xs)
      by rest true k = omega arith
      by rest false k = let below = rest k in omega arith

  -- one is found where one passes
  pub is_found : (xs : List A) → is_some (position p xs) ≡ list_any p xs
  is_found xs = by (list_any p xs) refl
    where
      by : (b : Bool) → list_any p xs ≡ b → is_some (position p xs) ≡ list_any p xs
      by true h = rw (lt-ltb _ _ (some_place xs h), h) refl
      by false h = grind (arith, nat_tests, none_place xs h, h)

  -- what is found is a place
  pub is_within : (xs : List A) → IfSome (position p xs) (λ n. n < length xs)
  is_within xs = by (list_any p xs) refl
    where
      by : (b : Bool) → list_any p xs ≡ b → IfSome (position p xs) (λ n. n < length xs)
      by true h = rw (lt-ltb _ _ (some_place xs h)) (some_place xs h)
      by false h = grind (arith, nat_tests, none_place xs h)

  -- one more, at whose end of the list nothing before passes where it does
  pub place_after : (xs : List A) (y : A) → (p y ≡ true → list_any p xs ≡ false)
      → position p (xs ++ y ∷ []) ≡ cond (p y) (Some (length xs)) (position p xs)
  place_after xs y apart = by (list_any p xs) refl (p y) refl
    where
      longer : length (xs ++ y ∷ []) ≡ length xs + 1
      longer = length-append xs (y ∷ [])

      by : (b : Bool) → list_any p xs ≡ b → (d : Bool) → p y ≡ d → position p (xs ++ y ∷ []) ≡ cond (p y) (Some (length xs)) (position p xs)
      by true h true k = absurd (true≢false (sym h ∙ apart k))
      by true h false k = grind (arith, nat_tests, position_or_len_push p xs y, longer, some_place xs h, k)
      by false h true k = grind (arith, nat_tests, position_or_len_push p xs y, longer, none_place xs h, k)
      by false h false k = grind (arith, nat_tests, position_or_len_push p xs y, longer, none_place xs h, k)
