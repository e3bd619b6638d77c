-- What is known of a node costs at most 65,535 for each node that costs less.
use Rattle.std.proofs.Common.{ℕ, zero, suc, ◌≡◌, ◌+◌, ◌*◌, ◌<◌, ◌≤◌, Bool, true, false, cond, List, [], ◌∷◌, length, get_or, refl, arith, sym, ◌∙◌, ap}
use Rattle.std.specs.Prelude.{Option, Some, None, nat_lt, count_by}
use Rattle.std.proofs.lemmas.Bool.{lt-ltb, ltb-true, le-ltb}
use Rattle.std.proofs.lemmas.List.Sums.{sum_by-cons}
use Rattle.mn_base.proofs.Bools.{none_below}
use Rattle.mn_base.specs.declared.numbers.NodeNo.{NodeNo}
use Rattle.mn_linkdb.specs.Network.{IsNetwork}
use Rattle.mn_linkdb.specs.Learned.{Learned}
use Rattle.mn_linkdb.specs.PathTable.{PathTable, IsTable, dist_at, next_at}
use Rattle.mn_spf.proofs.Walks.{link_is}
use Rattle.mn_spf_inc.specs.Mending.{IsFormed, is_blank, unknown}
use Rattle.mn_spf_inc.proofs.Entries.{none_some, some_is}
use Rattle.mn_spf_inc.proofs.Held.{IsFrom}

abbrev below : ℕ → Option ℕ → Bool
below most None = false
below most (Some cost) = nat_lt cost most

counts : (b c : Bool) → (b ≡ true → c ≡ true) → cond b 1 0 ≤ cond c 1 0
counts false c f = omega arith
counts true c f = rw (f refl) (omega arith)

count_cons : {X : Type 0} (p : X → Bool) (x : X) (xs : List X) → count_by p (x ∷ xs) ≡ cond (p x) 1 0 + count_by p xs
count_cons p x xs = sum_by-cons (λ y. cond (p y) 1 0) x xs

count_all : {X : Type 0} (p q : X → Bool) → ((x : X) → p x ≡ true → q x ≡ true) → (xs : List X) → count_by p xs ≤ count_by q xs
count_all p q f [] = omega arith
count_all p q f (x ∷ xs) = omega (arith, count_cons p x xs, count_cons q x xs, counts (p x) (q x) (f x), count_all p q f xs)

count_more : {X : Type 0} (p q : X → Bool) → ((x : X) → p x ≡ true → q x ≡ true) →
    (xs : List X) (i : ℕ) (d : X) → i < length xs → p (get_or xs i d) ≡ false → q (get_or xs i d) ≡ true → count_by p xs + 1 ≤ count_by q xs
count_more p q f [] i d less e g = absurd (none_below i less)
count_more p q f (x ∷ xs) zero d less e g =
    let a : ◌≡◌ {A = ℕ} (cond (p x) 1 0) 0 = ap (λ b. cond b 1 0) e in
    let b : ◌≡◌ {A = ℕ} (cond (q x) 1 0) 1 = ap (λ b. cond b 1 0) g in
    omega (arith, count_cons p x xs, count_cons q x xs, a, b, count_all p q f xs)
count_more p q f (x ∷ xs) (suc i) d less e g =
    omega (arith, count_cons p x xs, count_cons q x xs, counts (p x) (q x) (f x), count_more p q f xs i d (omega (arith, less)) e g)

below_more : (a b : ℕ) → a ≤ b → (o : Option ℕ) → below a o ≡ true → below b o ≡ true
below_more a b p None e = e
below_more a b p (Some c) e = lt-ltb c b (omega (arith, ltb-true c a e, p))

one_of : (a : ℕ) (o : Option ℕ) → cond (below a o) 1 0 + cond (is_blank o) 1 0 ≤ 1
one_of a None = omega arith
one_of a (Some c) = elim (nat_lt c a) as (λ b. cond b 1 0 + 0 ≤ 1) [ true ↦ omega arith | false ↦ omega arith ]

apart_counts : (a : ℕ) (ds : List (Option ℕ)) → count_by (below a) ds + count_by is_blank ds ≤ length ds
apart_counts a [] = omega arith
apart_counts a (o ∷ ds) = omega (arith, count_cons (below a) o ds, count_cons is_blank o ds, one_of a o, apart_counts a ds)

not_below : (a : ℕ) (o : Option ℕ) → o ≡ Some a → below a o ≡ false
not_below a None e = refl
not_below a (Some c) e = le-ltb c a (omega (arith, some_is e))

is_below : (a b : ℕ) (o : Option ℕ) → o ≡ Some a → a < b → below b o ≡ true
is_below a b None e p = absurd (none_some a e)
is_below a b (Some c) e p = lt-ltb c b (omega (arith, some_is e, p))

module _ (v : Learned) (root : ℕ) (net : IsNetwork v.nodes v.ends) (t : PathTable) (one_each : IsTable v.nodes t) (root_cost : dist_at t root ≡ Some 0)
    (formed : (node : ℕ) → node < v.nodes → IsFormed root node (dist_at t node) (next_at t node)) (from_where : (node cost : ℕ) (hop : NodeNo) →
    node < v.nodes → dist_at t node ≡ Some cost → next_at t node ≡ Some hop → IsFrom v root t node cost hop.0) where
  abbrev IsByLesser : ℕ → Type 0
  IsByLesser fuel = (node cost : ℕ) → cost < fuel → node < v.nodes → dist_at t node ≡ Some cost → cost ≤ 65535 * count_by (below cost) t.dists

  by_entry : (fuel node cost : ℕ) → IsByLesser fuel → (d : Option ℕ) (n : Option NodeNo) → cost < suc fuel → node < v.nodes → dist_at t node ≡ d →
      next_at t node ≡ n → IsFormed root node d n → d ≡ Some cost → cost ≤ 65535 * count_by (below cost) t.dists
  by_entry fuel node cost ih None n less p e f m q = absurd (none_some cost q)
  by_entry fuel node cost ih (Some c) None less p e f m q = let z : c ≡ 0 = some_is (sym e ∙ ap (dist_at t) m ∙ root_cost) in omega (arith, z, some_is q)
  by_entry fuel node cost ih (Some c) (Some hop) less p e f m q =
      let h = from_where node cost hop p (e ∙ q) f in
      let positive = (link_is v net h.from h.l h.goes_on).positive in
      let near : h.near ≤ 65535 * count_by (below h.near) t.dists = ih h.from h.near (omega (arith, less, h.sum, positive)) h.there h.is_near in
      let more : count_by (below h.near) t.dists + 1 ≤ count_by (below cost) t.dists =
      count_more (below h.near) (below cost) (below_more h.near cost (omega (arith, h.sum))) t.dists h.from None (omega (arith, h.there, one_each.dists))
      (not_below h.near _ h.is_near) (is_below h.near cost _ h.is_near (omega (arith, h.sum, positive))) in
      omega (arith, near, more, h.sum, (link_is v net h.from h.l h.goes_on).bounded)

  by_lesser : (fuel : ℕ) → IsByLesser fuel
  by_lesser zero node cost less p e = absurd (none_below cost less)
  by_lesser (suc fuel) node cost less p e = by_entry fuel node cost (by_lesser fuel) _ _ less p refl refl (formed node p) e

  pub bounded : (node cost : ℕ) → node < v.nodes → dist_at t node ≡ Some cost → cost + 65535 * unknown t ≤ 65535 * v.nodes
  bounded node cost p e = omega (arith, by_lesser (suc cost) node cost (omega arith) p e, apart_counts cost t.dists, one_each.dists)
