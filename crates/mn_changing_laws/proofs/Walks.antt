-- Where no set of nodes that take the link for up makes a loop, a path by both next hops meets no node twice: of a walk from a node back to it
-- that meets no other one twice each node takes one of both, and just those that take the one may be those that take the link for up.
use Rattle.std.proofs.Common.{ℕ, ◌≡◌, ◌≢◌, ◌<◌, ◌≤◌, inl, inr, Bool, true, false, cond, eqb, List, [], ◌∷◌, ◌++◌, length, refl, sym, ap}
use Rattle.std.proofs.Common.{subst}
use Rattle.std.specs.Prelude.{◌==◌}
use Rattle.std.specs.List.{Contains, AllByRecursion, IsDistinct, list_any}
use Rattle.std.proofs.lemmas.Bool.Decides.{eqb_tells}
use Rattle.std.proofs.lemmas.Map.Steps.{length-le_from_distinct_below}
use Rattle.mn_wiring.specs.Wiring.{Wiring, View}
use Rattle.mn_wiring.specs.Paths.{next}
use Rattle.mn_base.proofs.Bools.{or_ways, same_numbers, other_test, no}
use Rattle.mn_base.proofs.Members.{In, in_contained, contained_in, in_append, in_front, in_rest}
use Rattle.mn_changing_laws.specs.BothNext.{neighbour_in, both_next, next_where, GoesBy, HasNoneTwice, HasNoLoop, HasNoCycle}

-- 1. Lists

-- what stands in a list stands between two parts of it
split : (xs : List ℕ) (x : ℕ) → In xs x → (front : List ℕ) × (back : List ℕ) × (xs ≡ front ++ x ∷ back)
split [] x i = absurd i
split (y ∷ ys) x i = elim i [
  | inl e ↦ ([], ys, ap (λ z. z ∷ ys) e)
  | inr j ↦ let h = split ys x j in (y ∷ h.0, h.1, ap (λ zs. y ∷ zs) h.2)
]

none-twice-front : (xs ys : List ℕ) → HasNoneTwice (xs ++ ys) → HasNoneTwice xs
none-twice-front [] ys h = tt
none-twice-front (x ∷ xs) ys h = (
  λ c. h.0 (contained_in (xs ++ ys) x (in_front xs ys x (in_contained xs x c))),
  none-twice-front xs ys h.1,
)

-- what stands before another is another
before-other : (xs : List ℕ) (x : ℕ) (ys : List ℕ) → HasNoneTwice (xs ++ x ∷ ys) → In xs x → ⊥
before-other [] x ys h i = i
before-other (y ∷ xs) x ys h i = elim i [
  | inl e ↦ h.0 (contained_in (xs ++ x ∷ ys) y (in_rest xs (x ∷ ys) y (inl (sym e))))
  | inr j ↦ before-other xs x ys h.1 j
]

-- of numbers below a bound there are at most so many
differs-all : (x : ℕ) (xs : List ℕ) → ((y : ℕ) → In xs y → x ≢ y) → AllByRecursion (λ y. eqb x y ≡ false) xs
differs-all x [] h = tt
differs-all x (y ∷ ys) h = (other_test x y (h y (inl refl)), differs-all x ys (λ z i. h z (inr i)))

distinct : (xs : List ℕ) → HasNoneTwice xs → IsDistinct eqb xs
unfolding IsDistinct
distinct [] h = tt
distinct (x ∷ xs) h = (
  differs-all x xs (λ y i e. h.0 (contained_in xs x (subst (In xs) (sym e) i))),
  distinct xs h.1,
)

any-in : (q : ℕ) (xs : List ℕ) → list_any (eqb q) xs ≡ true → In xs q
any-in q [] h = absurd (no h)
any-in q (x ∷ xs) h = elim (or_ways (eqb q x) (list_any (eqb q) xs) h) [
  | inl e ↦ inl (sym (same_numbers q x e))
  | inr e ↦ inr (any-in q xs e)
]

pub no-more-than : (xs : List ℕ) (n : ℕ) → HasNoneTwice xs → ((x : ℕ) → In xs x → x < n) → length xs ≤ n
no-more-than xs n once below = length-le_from_distinct_below xs n (distinct xs once) (λ q h. below q (any-in q xs h))

-- 2. Walks

goes-front : (hops : ℕ → List ℕ) (xs : List ℕ) (x : ℕ) (ys : List ℕ) → GoesBy hops (xs ++ x ∷ ys) → GoesBy hops (xs ++ x ∷ [])
goes-front hops [] x ys h = tt
goes-front hops (y ∷ []) x ys h = (h.0, tt)
goes-front hops (y ∷ z ∷ xs) x ys h = (h.0, goes-front hops (z ∷ xs) x ys h.1)

-- one hop more
pub goes-further : (hops : ℕ → List ℕ) (xs : List ℕ) (x y : ℕ) → GoesBy hops (xs ++ x ∷ []) → In (hops x) y → GoesBy hops ((xs ++ x ∷ []) ++ y ∷ [])
goes-further hops [] x y h i = (contained_in (hops x) y i, tt)
goes-further hops (z ∷ []) x y h i = (h.0, (contained_in (hops x) y i, tt))
goes-further hops (z ∷ u ∷ xs) x y h i = (h.0, goes-further hops (u ∷ xs) x y h.1 i)

module _ (wiring : Wiring) (down up : View) (edge : ℕ) where
  abbrev hops : (ℕ → Bool) → ℕ → List ℕ
  hops at node = next_where wiring down up at edge node

  abbrev both : ℕ → List ℕ
  both node = both_next wiring down up edge node

  -- what a node takes the link for matters only where it is left
  alike : (one other : ℕ → Bool) (xs : List ℕ) (z : ℕ) → ((n : ℕ) → In xs n → one n ≡ other n) → GoesBy (hops other) (xs ++ z ∷ [])
      → GoesBy (hops one) (xs ++ z ∷ [])
  alike one other [] z same h = tt
  alike one other (x ∷ []) z same h =
      (subst (λ b. Contains (neighbour_in (next wiring (cond b up down) x edge)) z) (sym (same x (inl refl))) h.0, tt)
  alike one other (x ∷ y ∷ xs) z same h = (
    subst (λ b. Contains (neighbour_in (next wiring (cond b up down) x edge)) y) (sym (same x (inl refl))) h.0,
    alike one other (y ∷ xs) z (λ n i. same n (inr i)) h.1,
  )

  -- by which of both it is
  which : (x y : ℕ) → Contains (both x) y → (b : Bool) × Contains (neighbour_in (next wiring (cond b up down) x edge)) y
  which x y c = elim (in_append (neighbour_in (next wiring down x edge)) (neighbour_in (next wiring up x edge)) y (in_contained (both x) y c)) [
    | inl i ↦ (false, contained_in (neighbour_in (next wiring down x edge)) y i)
    | inr i ↦ (true, contained_in (neighbour_in (next wiring up x edge)) y i)
  ]

  abbrev but : (ℕ → Bool) → ℕ → Bool → ℕ → Bool
  but up_at x b n = cond (n == x) b (up_at n)

  but-here : (up_at : ℕ → Bool) (x : ℕ) (b : Bool) → but up_at x b x ≡ b
  but-here up_at x b = elim (eqb_tells x x) [ inl q ↦ ap (λ c. cond c b (up_at x)) q.0 | inr q ↦ absurd (q.1 refl) ]

  but-off : (up_at : ℕ → Bool) (x : ℕ) (b : Bool) (n : ℕ) → n ≢ x → but up_at x b n ≡ up_at n
  but-off up_at x b n d = elim (eqb_tells n x) [ inl q ↦ absurd (d q.1) | inr q ↦ ap (λ c. cond c b (up_at n)) q.0 ]

  -- of a walk that leaves no node twice, some set of nodes that take the link for up makes each hop
  some-nodes : (xs : List ℕ) (z : ℕ) → HasNoneTwice xs → GoesBy both (xs ++ z ∷ []) → (up_at : ℕ → Bool) × GoesBy (hops up_at) (xs ++ z ∷ [])
  some-nodes [] z once h = (λ n. false, tt)
  some-nodes (x ∷ []) z once h = let w = which x z h.0 in (λ n. w.0, (w.1, tt))
  some-nodes (x ∷ y ∷ xs) z once h =
      let w = which x y h.0 in
      let rest = some-nodes (y ∷ xs) z once.1 h.1 in (
        but rest.0 x w.0,
        (
          subst (λ b. Contains (neighbour_in (next wiring (cond b up down) x edge)) y) (sym (but-here rest.0 x w.0)) w.1,
          alike (but rest.0 x w.0) rest.0 (y ∷ xs) z
              (λ n i. but-off rest.0 x w.0 n (λ e. once.0 (contained_in (y ∷ xs) x (subst (In (y ∷ xs)) e i)))) rest.1,
        ),
      )

  goes-tail : (x : ℕ) (xs : List ℕ) → GoesBy both (x ∷ xs) → GoesBy both xs
  goes-tail x [] h = tt
  goes-tail x (y ∷ xs) h = h.1

  -- a path that meets a node twice has a walk from that node back to it on which it meets each other one once
  cycle-free : HasNoCycle wiring down up edge → (path : List ℕ) → GoesBy both path → HasNoneTwice path
  cycle-free none [] h = tt
  cycle-free none (x ∷ xs) h =
      let once : HasNoneTwice xs = cycle-free none xs (goes-tail x xs h) in
      (λ c. back once (split xs x (in_contained xs x c)), once)
    where
      back : HasNoneTwice xs → (front : List ℕ) × (back : List ℕ) × (xs ≡ front ++ x ∷ back) → ⊥
      back once parts =
          let apart : HasNoneTwice (parts.0 ++ x ∷ parts.1) = subst HasNoneTwice parts.2 once in
          let goes : GoesBy both ((x ∷ parts.0) ++ x ∷ parts.1) = subst (λ ys. GoesBy both (x ∷ ys)) parts.2 h in
          none x parts.0
          (λ c. before-other parts.0 x parts.1 apart (in_contained parts.0 x c), none-twice-front parts.0 (x ∷ parts.1) apart)
          (goes-front both (x ∷ parts.0) x parts.1 goes)

  pub no-cycle : HasNoLoop wiring down up edge → HasNoCycle wiring down up edge
  no-cycle none node nodes once h = let way = some-nodes (node ∷ nodes) node once h in none way.0 node nodes way.1

  pub no_node_twice : HasNoLoop wiring down up edge → (path : List ℕ) → GoesBy both path → HasNoneTwice path
  no_node_twice none path h = cycle-free (no-cycle none) path h

  one-of-both : (at : ℕ → Bool) (x y : ℕ) → Contains (hops at x) y → Contains (both x) y
  one-of-both at x y c = by (at x) (in_contained (hops at x) y c)
    where
      by : (b : Bool) → In (neighbour_in (next wiring (cond b up down) x edge)) y → Contains (both x) y
      by false i =
          contained_in (both x) y (in_front (neighbour_in (next wiring down x edge)) (neighbour_in (next wiring up x edge)) y i)
      by true i =
          contained_in (both x) y (in_rest (neighbour_in (next wiring down x edge)) (neighbour_in (next wiring up x edge)) y i)

  goes-by-both : (at : ℕ → Bool) (xs : List ℕ) → GoesBy (hops at) xs → GoesBy both xs
  goes-by-both at [] h = tt
  goes-by-both at (x ∷ []) h = tt
  goes-by-both at (x ∷ y ∷ xs) h = (one-of-both at x y h.0, goes-by-both at (y ∷ xs) h.1)

  pub no-loop-of-any : HasNoCycle wiring down up edge → HasNoLoop wiring down up edge
  no-loop-of-any none at node nodes h =
      (cycle-free none (node ∷ nodes ++ node ∷ []) (goes-by-both at (node ∷ nodes ++ node ∷ []) h)).0
      (contained_in (nodes ++ node ∷ []) node (in_rest nodes (node ∷ []) node (inl refl)))

pub no_loop_where_no_cycle : (wiring : Wiring) (down up : View) (edge : ℕ)
    → (HasNoCycle wiring down up edge → HasNoLoop wiring down up edge) × (HasNoLoop wiring down up edge → HasNoCycle wiring down up edge)
no_loop_where_no_cycle wiring down up edge = (no-loop-of-any wiring down up edge, no-cycle wiring down up edge)
