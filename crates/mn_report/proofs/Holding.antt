-- Each prefix that a VRF holds has a best route.
use Rattle.std.proofs.Common.{◌≡◌, ◌<◌, ◌≤◌, ℕ, zero, suc, inl, inr, Bool, true, List, [], ◌∷◌, length, Some, None, refl, ap, sym, ◌∙◌}
use Rattle.std.proofs.Common.{subst, arith}
use Rattle.std.specs.Prelude.{◌==◌, not, map, filter, fold, slice_get, nat_le, if◌then◌else◌}
use Rattle.std.specs.List.{list_any}
use Rattle.std.proofs.lemmas.Option.{same_Some}
use Rattle.mn_base.specs.Ordered.{with_one}
use Rattle.mn_base.proofs.Bools.{two_ways, and_on, same_test, at_most_tells, not_at_most_tells}
use Rattle.mn_base.proofs.Members.{In, in_map, in_filter, filter_in}
use Rattle.mn_base.proofs.Kept.{fold_in}
use Rattle.mn_prefix.specs.Prefix.{AddressBlock, same_prefix, contains, first_bits}
use Rattle.mn_prefix.proofs.Tables.{same_exact}
use Rattle.mn_ledger.specs.Exports.{comes_before}
use Rattle.mn_ledger.specs.Held.{HeldRoute, matching, unbeaten, first_of, is_better}
use Rattle.mn_ledger.proofs.Choice.{none_matches}
use Rattle.mn_ledger.specs.Heads.{prefixes_of, best_for, best_at}

all_stay : {A : Type 0} (test : A → Bool) (xs : List A) → ((y : A) → In xs y → test y ≡ true) → filter test xs ≡ xs
all_stay test [] pass = refl
all_stay test (x ∷ xs) pass =
    ap (λ b. if b then x ∷ filter test xs else filter test xs) (pass x (inl refl))
    ∙ ap (λ ys. x ∷ ys) (all_stay test xs (λ y i. pass y (inr i)))

-- a prefix is one that a route has
folded : (kept : List AddressBlock) (routes : List HeldRoute)
    → fold (λ prefixes (route : HeldRoute). with_one comes_before route.prefix prefixes) kept routes
    ≡ fold (λ prefixes prefix. with_one comes_before prefix prefixes) kept (map (λ (route : HeldRoute). route.prefix) routes)
folded kept [] = refl
folded kept (route ∷ routes) = folded (with_one comes_before route.prefix kept) routes

prefix_in : (routes : List HeldRoute) (prefix : AddressBlock) → In (prefixes_of routes) prefix → In (map (λ (route : HeldRoute). route.prefix) routes) prefix
prefix_in routes prefix i =
    elim (fold_in comes_before [] (map (λ (route : HeldRoute). route.prefix) routes) prefix (subst (λ prefixes. In prefixes prefix) (folded [] routes) i)) [
      | inl none ↦ absurd none
      | inr there ↦ there
    ]

pub same_as_itself : (p q : AddressBlock) → p ≡ q → same_prefix p q ≡ true
same_as_itself p q is = ap (same_prefix p) (sym is) ∙ and_on (p.address == p.address) (p.length == p.length) (same_test p.address) (same_test p.length)

contains_itself : (p : AddressBlock) → contains p p.address ≡ true
contains_itself p = same_test (first_bits p.length p.address)

first_in : (xs : List HeldRoute) (x : HeldRoute) → first_of xs ≡ Some x → In xs x
first_in [] x is = absurd (let none : None ≡ Some x → ⊥ = (λ e. cc) in none is)
first_in (y ∷ ys) x is = inl (same_Some y x is)

-- the best route of a prefix is one of the routes, and has it
pub best_has : (routes : List HeldRoute) (prefix : AddressBlock) (x : HeldRoute) → best_for routes prefix ≡ Some x → In routes x × (x.prefix ≡ prefix)
best_has routes prefix x is =
    let ys : List HeldRoute = filter (λ (route : HeldRoute). same_prefix route.prefix prefix) routes in
    let its =
    in_filter (λ (route : HeldRoute). same_prefix route.prefix prefix) routes x
    (in_filter (λ route. not (list_any (λ other. is_better other route) ys)) ys x (first_in (unbeaten ys) x is)).0 in
    (its.0, same_exact x.prefix prefix its.1)

-- no prefix of a route is without a best route
pub none_best : (routes : List HeldRoute) (prefix : AddressBlock) → In (map (λ (route : HeldRoute). route.prefix) routes) prefix →
    best_for routes prefix ≡ None → ⊥
none_best routes prefix i none =
    let ys : List HeldRoute = filter (λ (route : HeldRoute). same_prefix route.prefix prefix) routes in
    let found = in_map (λ (route : HeldRoute). route.prefix) routes prefix i in
    let there : In ys found.0 =
    filter_in (λ (route : HeldRoute). same_prefix route.prefix prefix) routes found.0 found.1 (same_as_itself found.0.prefix prefix found.2) in
    let match : matching prefix.address ys ≡ ys = all_stay (λ (route : HeldRoute). contains route.prefix prefix.address) ys (λ y j.
    let its = in_filter (λ (route : HeldRoute). same_prefix route.prefix prefix) routes y j in
    subst (λ p. contains p prefix.address ≡ true) (sym (same_exact y.prefix prefix its.1)) (contains_itself prefix)) in
    none_matches ys prefix.address (ap (λ xs. first_of (unbeaten xs)) match ∙ none) found.0 (subst (λ xs. In xs found.0) (sym match) there)

at_place : {A : Type 0} (xs : List A) (i : ℕ) → i < length xs → (x : A) × (slice_get xs i ≡ Some x) × In xs x
at_place [] i below = absurd (omega arith)
at_place (x ∷ xs) zero below = (x, refl, inl refl)
at_place (x ∷ xs) (suc i) below = let rest = at_place xs i (omega arith) in (rest.0, rest.1, inr rest.2)

-- where nothing is held at a place, there is no such place
pub none_held : (routes : List HeldRoute) (place : ℕ) → best_at routes (slice_get (prefixes_of routes) place) ≡ None → length (prefixes_of routes) ≤ place
none_held routes place none = elim (two_ways (nat_le (length (prefixes_of routes)) place)) [
  | inl is ↦ at_most_tells (length (prefixes_of routes)) place is
  | inr isnt ↦
      let below : place < length (prefixes_of routes) = not_at_most_tells (length (prefixes_of routes)) place isnt in
      let there = at_place (prefixes_of routes) place below in
      absurd (none_best routes there.0 (prefix_in routes there.0 there.2) (sym (ap (best_at routes) there.1) ∙ none))
]
