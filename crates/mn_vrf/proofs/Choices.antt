-- What is chosen route by route is the first of those of the longest prefix.
use Rattle.std.proofs.Common.{ℕ, ◌≡◌, Bool, true, false, cond, List, [], ◌∷◌, filter, refl, arith, sym, ◌∙◌, ap, Option, Some, None}
use Rattle.std.specs.Prelude.{◌&&◌, nat_lt, nat_le, fold, if◌then◌else◌}
use Rattle.std.specs.List.{list_all}
use Rattle.std.proofs.lemmas.Bool.Decides.{nat_tests}
use Rattle.mn_base.proofs.Bools.{and_left, and_right, no}
use Rattle.mn_prefix.specs.Prefix.{AddressBlock, contains}
use Rattle.mn_prefix.specs.Longest.{is_longest}
use Rattle.mn_prefix.specs.Table.{first_of, longest_match}
use Rattle.mn_vrf.specs.declared.source.Source.{Source}

-- of the routes so far and one more, the first of the longest prefix that contains the address
abbrev pub chosen : ℕ → Option (AddressBlock × Source) → AddressBlock × Source → Option (AddressBlock × Source)
chosen address None route = if contains route.0 address then Some route else None
chosen address (Some best) route = if contains route.0 address && nat_lt best.0.length route.0.length then Some route else Some best

pub Route : Type 0
Route = AddressBlock × Source

-- the first of the longest
first_longest : List (AddressBlock × Source) → Option (AddressBlock × Source)
first_longest found = first_of (filter (is_longest (λ (pair : AddressBlock × Source). pair.0) found) found)

-- the longer of two, or the first
longer : AddressBlock × Source → AddressBlock × Source → AddressBlock × Source
longer best route = if nat_lt best.0.length route.0.length then route else best

picked : AddressBlock × Source → List (AddressBlock × Source) → AddressBlock × Source
picked best [] = best
picked best (route ∷ routes) = picked (longer best route) routes

filter_alike : {A : Type 0} (p q : A → Bool) (xs : List A) → ((x : A) → p x ≡ q x) → filter p xs ≡ filter q xs
filter_alike p q [] h = refl
filter_alike p q (x ∷ xs) h = ap (λ b. cond b (x ∷ filter p xs) (filter p xs)) (h x) ∙ ap (λ ys. cond (q x) (x ∷ ys) ys) (filter_alike p q xs h)

and_wider : (a b : Bool) → (b ≡ true → a ≡ true) → (a && b) ≡ b
and_wider true b h = refl
and_wider false true h = h refl
and_wider false false h = refl

less_then : (a b x : ℕ) → nat_lt a b ≡ true → nat_le b x ≡ true → nat_le a x ≡ true
less_then a b x h g = grind (arith, nat_tests, h, g)

not_less_then : (a b x : ℕ) → nat_lt a b ≡ false → nat_le a x ≡ true → nat_le b x ≡ true
not_less_then a b x h g = grind (arith, nat_tests, h, g)

not_longest : (a b : ℕ) → nat_lt a b ≡ true → nat_le b a ≡ false
not_longest a b h = grind (arith, nat_tests, h)

itself : (a : ℕ) → nat_le a a ≡ true
itself a = grind (arith, nat_tests)

and_off : (a b c : Bool) → b ≡ false → (a && (b && c)) ≡ false
and_off true b c h = ap (λ d. d && c) h
and_off false b c h = refl

is_picked : (best : AddressBlock × Source) (found : List (AddressBlock × Source)) → first_longest (best ∷ found) ≡ Some (picked best found)
unfolding first_longest picked longer
is_picked best [] = ap (λ b. first_of (cond (b && true) (best ∷ []) [])) (itself best.0.length)
is_picked best (route ∷ found) = split (nat_lt best.0.length route.0.length) refl (is_picked best found) (is_picked route found)
  where
    all_of : (AddressBlock × Source) → Bool
    all_of x = list_all (λ (other : AddressBlock × Source). nat_le other.0.length x.0.length) found

    with_three : (x : AddressBlock × Source) → Bool
    with_three x = nat_le best.0.length x.0.length && (nat_le route.0.length x.0.length && all_of x)

    split : (b : Bool) → nat_lt best.0.length route.0.length ≡ b → first_longest (best ∷ found) ≡ Some (picked best found) →
        first_longest (route ∷ found) ≡ Some (picked route found)
        → first_longest (best ∷ route ∷ found) ≡ Some (picked (if b then route else best) found)
    split true e _ more =
        ap (λ b. first_of (cond b (best ∷ filter with_three (route ∷ found)) (filter with_three (route ∷ found))))
        (and_off (nat_le best.0.length best.0.length) (nat_le route.0.length best.0.length) (all_of best) (not_longest best.0.length route.0.length e))
        ∙ ap first_of
        (filter_alike with_three (λ x. nat_le route.0.length x.0.length && all_of x) (route ∷ found)
        (λ x. and_wider (nat_le best.0.length x.0.length) (nat_le route.0.length x.0.length && all_of x)
        (λ h. less_then best.0.length route.0.length x.0.length e (and_left (nat_le route.0.length x.0.length) (all_of x) h))))
        ∙ more
    split false e more _ =
        ap first_of (filter_alike with_three two (best ∷ route ∷ found) alike)
        ∙ without_middle (two best) (two route) refl refl
        ∙ more
      where
        two : (x : AddressBlock × Source) → Bool
        two x = nat_le best.0.length x.0.length && all_of x

        alike : (x : AddressBlock × Source) → with_three x ≡ two x
        alike x = by_best (nat_le best.0.length x.0.length) refl
          where
            by_best : (b : Bool) → nat_le best.0.length x.0.length ≡ b → (b && (nat_le route.0.length x.0.length && all_of x)) ≡ (b && all_of x)
            by_best true f = ap (λ c. c && all_of x) (not_less_then best.0.length route.0.length x.0.length e f)
            by_best false f = refl

        without_middle : (b r : Bool) → two best ≡ b → two route ≡ r →
            first_of (cond b (best ∷ cond r (route ∷ filter two found) (filter two found)) (cond r (route ∷ filter two found) (filter two found))) ≡
            first_of (cond b (best ∷ filter two found) (filter two found))
        without_middle true r f g = refl
        without_middle false false f g = refl
        without_middle false true f g = absurd (no (sym f ∙ ap (λ c. c && all_of best) (itself best.0.length) ∙ every_one))
          where
            every_one : all_of best ≡ true
            every_one = shorter found (and_right (nat_le best.0.length route.0.length) (all_of route) g)
              where
                shorter : (xs : List (AddressBlock × Source)) →
                    list_all (λ (other : AddressBlock × Source). nat_le other.0.length route.0.length) xs ≡ true →
                    list_all (λ (other : AddressBlock × Source). nat_le other.0.length best.0.length) xs ≡ true
                shorter [] h = refl
                shorter (y ∷ ys) h =
                    ap (λ c. c && list_all (λ (other : AddressBlock × Source). nat_le other.0.length best.0.length) ys)
                    (not_above (and_left (nat_le y.0.length route.0.length) _ h)) ∙ shorter ys (and_right (nat_le y.0.length route.0.length) _ h)
                  where
                    not_above : nat_le y.0.length route.0.length ≡ true → nat_le y.0.length best.0.length ≡ true
                    not_above k = grind (arith, nat_tests, e, k)

chosen_on : (address : ℕ) (best : AddressBlock × Source) (routes : List (AddressBlock × Source)) →
    fold (chosen address) (Some best) routes ≡ Some (picked best (filter (λ (pair : AddressBlock × Source). contains pair.0 address) routes))
unfolding picked longer
chosen_on address best [] = refl
chosen_on address best (route ∷ routes) =
    split (contains route.0 address) (nat_lt best.0.length route.0.length) refl (chosen_on address best routes) (chosen_on address route routes)
  where
    rest : List (AddressBlock × Source)
    rest = filter (λ (pair : AddressBlock × Source). contains pair.0 address) routes

    split : (b c : Bool) → nat_lt best.0.length route.0.length ≡ c → fold (chosen address) (Some best) routes ≡ Some (picked best rest) →
        fold (chosen address) (Some route) routes ≡ Some (picked route rest)
        → fold (chosen address) (if b && c then Some route else Some best) routes ≡ Some (picked best (cond b (route ∷ rest) rest))
    split false c e same other = same
    split true true e same other = other ∙ ap (λ b. Some (picked (if b then route else best) rest)) (sym e)
    split true false e same other = same ∙ ap (λ b. Some (picked (if b then route else best) rest)) (sym e)

pub chosen_is : (address : ℕ) (routes : List (AddressBlock × Source)) → fold (chosen address) None routes ≡ longest_match address routes
unfolding first_longest
chosen_is address [] = refl
chosen_is address (route ∷ routes) = split (contains route.0 address) (chosen_is address routes)
  where
    rest : List (AddressBlock × Source)
    rest = filter (λ (pair : AddressBlock × Source). contains pair.0 address) routes

    split : (b : Bool) → fold (chosen address) None routes ≡ first_longest rest →
        fold (chosen address) (if b then Some route else None) routes ≡ first_longest (cond b (route ∷ rest) rest)
    split true more = chosen_on address route routes ∙ sym (is_picked route rest)
    split false more = more
