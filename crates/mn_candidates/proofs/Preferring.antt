-- Which of two routes is preferred is an order, and a route that is put in its place leaves routes in that order.
use Rattle.std.proofs.Common.{ℕ, suc, ◌≡◌, ◌+◌, ◌<◌, ◌≤◌, ◌⊎◌, inl, inr, Bool, true, false, cond, List, [], ◌∷◌, map, length, refl, arith, sym, ◌∙◌, ap, Some}
use Rattle.std.proofs.Common.{None}
use Rattle.std.specs.Prelude.{◌==◌, ◌&&◌, ◌||◌, nat_lt, not, position, unwrap_or}
use Rattle.std.specs.List.{AllByRecursion, insert, position_or_len}
use Rattle.std.proofs.lemmas.Bool.Decides.{eqb_tells, leb_tells, nat_tests}
use Rattle.mn_base.proofs.Bools.{less_is, less_tells, no, less_itself}
use Rattle.mn_ledger.proofs.Members.{In}
use Rattle.mn_reach_laws.specs.Candidates.{AreInPreference}
use Rattle.mn_candidates.specs.declared.route.Route.{Route}
use Rattle.mn_candidates.specs.Routes.{held_as}
use Rattle.mn_ledger.specs.Held.{Source, Own, Near, Far, HeldRoute, is_preferred, is_better}

-- 1. A number first, and then something else

lex : ℕ → ℕ → Bool → Bool
lex m n later = nat_lt m n || ((m == n) && later)

lex_tells : (m n : ℕ) (later : Bool) → lex m n later ≡ true → (m < n) ⊎ ((m ≡ n) × (later ≡ true))
unfolding lex
lex_tells m n later h = elim (leb_tells (suc m) n) [
  | inl p ↦ inl p.1
  | inr p ↦ elim (eqb_tells m n) [
    | inl q ↦ inr (q.1, sym (ap (λ b. b || ((m == n) && later)) p.0 ∙ ap (λ b. b && later) q.0) ∙ h)
    | inr q ↦ absurd (no (sym (ap (λ b. b || ((m == n) && later)) p.0 ∙ ap (λ b. b && later) q.0) ∙ h))
  ]
]

lex_less : (m n : ℕ) (later : Bool) → m < n → lex m n later ≡ true
unfolding lex
lex_less m n later h = ap (λ b. b || ((m == n) && later)) (less h)
  where
    less : m < n → nat_lt m n ≡ true
    less h = grind (arith, nat_tests, h)

lex_same : (m n : ℕ) (later : Bool) → m ≡ n → lex m n later ≡ later
unfolding lex
lex_same m n later h = ap (λ b. b || ((m == n) && later)) (not_less h) ∙ ap (λ b. b && later) (same h)
  where
    not_less : m ≡ n → nat_lt m n ≡ false
    not_less h = grind (arith, nat_tests, h)

    same : m ≡ n → (m == n) ≡ true
    same h = grind (arith, nat_tests, h)

-- 2. The order of sources is strict, and total

pref_itself : (s : Source) → is_preferred s s ≡ false
unfolding lex
pref_itself Own = refl
pref_itself (Near v) = less_itself v
pref_itself (Far a r) = lex_same a a (nat_lt r r) refl ∙ less_itself r

far_on : (a b c : ℕ) (r s u : ℕ) → lex a b (nat_lt r s) ≡ true → lex b c (nat_lt s u) ≡ true → lex a c (nat_lt r u) ≡ true
far_on a b c r s u h g = elim (lex_tells a b (nat_lt r s) h) [
  | inl p ↦ elim (lex_tells b c (nat_lt s u) g) [
    | inl q ↦ lex_less a c (nat_lt r u) (omega (arith, p, q))
    | inr q ↦ lex_less a c (nat_lt r u) (omega (arith, p, q.0))
  ]
  | inr p ↦ elim (lex_tells b c (nat_lt s u) g) [
    | inl q ↦ lex_less a c (nat_lt r u) (omega (arith, p.0, q))
    | inr q ↦ lex_same a c (nat_lt r u) (p.0 ∙ q.0) ∙ less_is r u (omega (arith, less_tells r s p.1, less_tells s u q.1))
  ]
]

pref_on : (x y z : Source) → is_preferred x y ≡ true → is_preferred y z ≡ true → is_preferred x z ≡ true
unfolding lex
pref_on Own Own z h g = absurd (no h)
pref_on Own (Near v) Own h g = absurd (no g)
pref_on Own (Near v) (Near w) h g = refl
pref_on Own (Near v) (Far a r) h g = refl
pref_on Own (Far a r) Own h g = absurd (no g)
pref_on Own (Far a r) (Near w) h g = absurd (no g)
pref_on Own (Far a r) (Far b s) h g = refl
pref_on (Near u) Own z h g = absurd (no h)
pref_on (Near u) (Near v) Own h g = absurd (no g)
pref_on (Near u) (Near v) (Near w) h g = less_is u w (omega (arith, less_tells u v h, less_tells v w g))
pref_on (Near u) (Near v) (Far a r) h g = refl
pref_on (Near u) (Far a r) Own h g = absurd (no g)
pref_on (Near u) (Far a r) (Near w) h g = absurd (no g)
pref_on (Near u) (Far a r) (Far b s) h g = refl
pref_on (Far a r) Own z h g = absurd (no h)
pref_on (Far a r) (Near v) z h g = absurd (no h)
pref_on (Far a r) (Far b s) Own h g = absurd (no g)
pref_on (Far a r) (Far b s) (Near w) h g = absurd (no g)
pref_on (Far a r) (Far b s) (Far c u) h g = far_on a b c r s u h g

-- 3. The order of routes

better_itself : (x : HeldRoute) → is_better x x ≡ false
unfolding lex
better_itself x = lex_same x.prefix.length x.prefix.length (is_preferred x.source x.source) refl ∙ pref_itself x.source

-- as the longer prefix first
better_is : (x y : HeldRoute) → is_better x y ≡ true →
    (y.prefix.length < x.prefix.length) ⊎ ((x.prefix.length ≡ y.prefix.length) × (is_preferred x.source y.source ≡ true))
better_is x y h = elim (leb_tells (suc y.prefix.length) x.prefix.length) [
  | inl p ↦ inl p.1
  | inr p ↦ elim (eqb_tells x.prefix.length y.prefix.length) [
    | inl q ↦ inr (
      q.1,
      sym (ap (λ b. b || ((x.prefix.length == y.prefix.length) && is_preferred x.source y.source)) p.0
          ∙ ap (λ b. b && is_preferred x.source y.source) q.0) ∙ h,
    )
    | inr q ↦ absurd
        (no (sym (ap (λ b. b || ((x.prefix.length == y.prefix.length) && is_preferred x.source y.source)) p.0
        ∙ ap (λ b. b && is_preferred x.source y.source) q.0) ∙ h))
  ]
]

longer_is : (x y : HeldRoute) → y.prefix.length < x.prefix.length → is_better x y ≡ true
longer_is x y h = ap (λ b. b || ((x.prefix.length == y.prefix.length) && is_preferred x.source y.source)) (less_is y.prefix.length x.prefix.length h)

as_long : (x y : HeldRoute) → x.prefix.length ≡ y.prefix.length → is_better x y ≡ is_preferred x.source y.source
as_long x y e =
    ap (λ b. b || ((x.prefix.length == y.prefix.length) && is_preferred x.source y.source)) (not_less e)
    ∙ ap (λ b. b && is_preferred x.source y.source) (same e)
  where
    not_less : x.prefix.length ≡ y.prefix.length → nat_lt y.prefix.length x.prefix.length ≡ false
    not_less h = grind (arith, nat_tests, h)

    same : x.prefix.length ≡ y.prefix.length → (x.prefix.length == y.prefix.length) ≡ true
    same h = grind (arith, nat_tests, h)

better_on : (x y z : HeldRoute) → is_better x y ≡ true → is_better y z ≡ true → is_better x z ≡ true
better_on x y z h g = elim (better_is x y h) [
  | inl p ↦ elim (better_is y z g) [
    | inl q ↦ longer_is x z (omega (arith, p, q))
    | inr q ↦ longer_is x z (omega (arith, p, q.0))
  ]
  | inr p ↦ elim (better_is y z g) [
    | inl q ↦ longer_is x z (omega (arith, p.0, q))
    | inr q ↦ as_long x z (p.0 ∙ q.0) ∙ pref_on x.source y.source z.source p.1 q.1
  ]
]

-- 4. A route in its place

better_back : (x y : HeldRoute) → is_better x y ≡ true → is_better y x ≡ false
better_back x y h = by (is_better y x) refl
  where
    by : (b : Bool) → is_better y x ≡ b → is_better y x ≡ false
    by false e = e
    by true e = absurd (no (sym (better_itself x) ∙ better_on x y x h e))

-- what isn't better than the one isn't better than another that is better
no_better : (x y z : HeldRoute) → is_better x y ≡ true → is_better z y ≡ false → is_better z x ≡ false
no_better x y z h g = by (is_better z x) refl
  where
    by : (b : Bool) → is_better z x ≡ b → is_better z x ≡ false
    by false e = e
    by true e = absurd (no (sym g ∙ better_on z x y e h))

module _ (route : HeldRoute) where
  -- in front of the first that it is better than
  abbrev pub put : List HeldRoute → List HeldRoute
  put [] = route ∷ []
  put (other ∷ others) = cond (is_better route other) (route ∷ other ∷ others) (other ∷ put others)

  pub length_put : (xs : List HeldRoute) → length (put xs) ≡ length xs + 1
  length_put [] = refl
  length_put (x ∷ xs) = by (length_put xs) (is_better route x)
    where
      by : length (put xs) ≡ length xs + 1 → (b : Bool) → length (cond b (route ∷ x ∷ xs) (x ∷ put xs)) ≡ length (x ∷ xs) + 1
      by more true = omega arith
      by more false = omega (arith, more)

  all_behind : (x : HeldRoute) → is_better route x ≡ true → (xs : List HeldRoute) → AllByRecursion (λ later. is_better later x ≡ false) xs
      → AllByRecursion (λ later. is_better later route ≡ false) xs
  all_behind x h [] a = tt
  all_behind x h (y ∷ ys) a = (no_better route x y h a.0, all_behind x h ys a.1)

  all_put : (x : HeldRoute) → is_better route x ≡ false → (xs : List HeldRoute) → AllByRecursion (λ later. is_better later x ≡ false) xs
      → AllByRecursion (λ later. is_better later x ≡ false) (put xs)
  all_put x h [] a = (h, tt)
  all_put x h (y ∷ ys) a = by (all_put x h ys a.1) (is_better route y)
    where
      by : AllByRecursion (λ later. is_better later x ≡ false) (put ys) → (b : Bool)
          → AllByRecursion (λ later. is_better later x ≡ false) (cond b (route ∷ y ∷ ys) (y ∷ put ys))
      by more true = (h, a)
      by more false = (a.0, more)

  pub put_ordered : (xs : List HeldRoute) → AreInPreference xs → AreInPreference (put xs)
  put_ordered [] o = (tt, tt)
  put_ordered (x ∷ xs) o = by (put_ordered xs o.1) (is_better route x) refl
    where
      by : AreInPreference (put xs) → (b : Bool) → is_better route x ≡ b → AreInPreference (cond b (route ∷ x ∷ xs) (x ∷ put xs))
      by more true e = ((better_back route x e, all_behind x e xs o.0), o)
      by more false e = (all_put x e xs o.0, more)

  pub put_in : (xs : List HeldRoute) (r : HeldRoute) → In (put xs) r → In (route ∷ xs) r
  put_in [] r i = i
  put_in (x ∷ xs) r i = by (put_in xs r) (is_better route x) i
    where
      by : (In (put xs) r → In (route ∷ xs) r) → (b : Bool) → In (cond b (route ∷ x ∷ xs) (x ∷ put xs)) r → In (route ∷ x ∷ xs) r
      by more true i = i
      by more false (inl e) = inr (inl e)
      by more false (inr j) = elim (more j) [ inl e ↦ inl e | inr k ↦ inr (inr k) ]

  pub in_put : (xs : List HeldRoute) (r : HeldRoute) → In (route ∷ xs) r → In (put xs) r
  in_put [] r i = i
  in_put (x ∷ xs) r i = by (in_put xs r) (is_better route x)
    where
      by : (In (route ∷ xs) r → In (put xs) r) → (b : Bool) → In (cond b (route ∷ x ∷ xs) (x ∷ put xs)) r
      by more true = i
      by more false = elim i [ inl e ↦ inr (more (inl e)) | inr j ↦ elim j [ inl e ↦ inl e | inr k ↦ inr (more (inr k)) ] ]

-- as a list of routes has it
module _ (route : Route) where
  abbrev is_worse : Route → Bool
  is_worse other = is_better (held_as route) (held_as other)

  pub few : (routes : List Route) → position_or_len is_worse routes ≤ length routes
  few [] = omega arith
  few (x ∷ xs) = by (few xs) (is_worse x)
    where
      by : position_or_len is_worse xs ≤ length xs → (b : Bool) → cond (not b) (1 + position_or_len is_worse xs) 0 ≤ suc (length xs)
      by h true = omega arith
      by h false = omega (arith, h)

  pub place_is : (routes : List Route) → unwrap_or (position is_worse routes) (length routes) ≡ position_or_len is_worse routes
  place_is routes = elim (leb_tells (suc (position_or_len is_worse routes)) (length routes)) [
    | inl p ↦ ap (λ b. unwrap_or (cond b (Some (position_or_len is_worse routes)) None) (length routes)) p.0
    | inr p ↦ ap (λ b. unwrap_or (cond b (Some (position_or_len is_worse routes)) None) (length routes)) p.0 ∙ all (few routes) p.1
  ]
    where
      all : position_or_len is_worse routes ≤ length routes → length routes < suc (position_or_len is_worse routes) →
          length routes ≡ position_or_len is_worse routes
      all h g = omega (arith, h, g)

  one_more : (n : ℕ) → 1 + n ≡ suc n
  one_more n = omega arith

  pub inserted : (routes : List Route) → map held_as (insert routes (position_or_len is_worse routes) route) ≡ put (held_as route) (map held_as routes)
  inserted [] = refl
  inserted (x ∷ xs) = by (inserted xs) (is_worse x)
    where
      by : map held_as (insert xs (position_or_len is_worse xs) route) ≡ put (held_as route) (map held_as xs) → (b : Bool)
          → map held_as (insert (x ∷ xs) (cond (not b) (1 + position_or_len is_worse xs) 0) route)
          ≡ cond b (held_as route ∷ held_as x ∷ map held_as xs) (held_as x ∷ put (held_as route) (map held_as xs))
      by more true = refl
      by more false = ap (λ k. map held_as (insert (x ∷ xs) k route)) (one_more (position_or_len is_worse xs)) ∙ ap (λ ys. held_as x ∷ ys) more
