-- Where each next hop is of a lesser rank than its node there is no loop; and only a node of the network has a next hop.
use Rattle.std.proofs.Common.{ℕ, ◌≡◌, ◌<◌, inl, inr, Bool, true, false, cond, List, [], ◌∷◌, ◌++◌, length, filter, refl, arith, ap, subst, Option, Some, None}
use Rattle.std.specs.Prelude.{◌==◌, nat_lt}
use Rattle.mn_wiring.specs.Wiring.{Wiring, View, link, is_end, across, links_of, links_at, JoinsNodes}
use Rattle.mn_wiring.specs.Paths.{next, next_by, nearer, nearest, dists_to, is_on_least}
use Rattle.mn_base.proofs.Bools.{or_ways, same_numbers}
use Rattle.mn_base.proofs.Members.{In, in_contained, in_filter, in_range}
use Rattle.mn_changing_laws.specs.BothNext.{neighbour_in, next_where, GoesBy, HasNoLoop}

nearest-in : (w : Wiring) (node : ℕ) (xs : List ℕ) (hop : ℕ × ℕ) → nearest w node xs ≡ Some hop → In xs hop.1
nearest-in w node [] hop e = cc
nearest-in w node (x ∷ xs) hop e = by (nearest w node xs) (λ h f. nearest-in w node xs h f) e
  where
    same : (a b : ℕ × ℕ) → ◌≡◌ {A = Option (ℕ × ℕ)} (Some a) (Some b) → a ≡ b
    same a b e = cc

    chosen : (other : ℕ × ℕ) (b : Bool) → In xs other.1 → Some (cond b other (across w x node, x)) ≡ Some hop → In (x ∷ xs) hop.1
    chosen other true i e = inr (subst (In xs) (ap (λ h. h.1) (same other hop e)) i)
    chosen other false i e = inl (ap (λ h. h.1) (same (across w x node, x) hop e))

    by : (o : Option (ℕ × ℕ)) → ((h : ℕ × ℕ) → o ≡ Some h → In xs h.1) → nearer (across w x node, x) o ≡ Some hop → In (x ∷ xs) hop.1
    by None more e = inl (ap (λ h. h.1) (same (across w x node, x) hop e))
    by (Some other) more e = chosen other (nat_lt other.0 (across w x node)) (more other refl) e

-- only a node of the network has a next hop
pub node-below : (w : Wiring) (view : View) (node edge : ℕ) (hop : ℕ × ℕ) → JoinsNodes w → next w view node edge ≡ Some hop → node < length w.loopbacks
unfolding next
node-below w view node edge hop joins e = by (node == edge) e
  where
    at_end : (l : ℕ) → l < length w.ends → is_end w l node ≡ true → node < length w.loopbacks
    at_end l inside is = elim (or_ways ((link w l).a.0 == node) ((link w l).b.0 == node) is) [
      | inl q ↦ subst (λ n. n < length w.loopbacks) (same_numbers (link w l).a.0 node q) (joins l inside).0
      | inr q ↦ subst (λ n. n < length w.loopbacks) (same_numbers (link w l).b.0 node q) (joins l inside).1
    ]

    by : (b : Bool) → elim b as (λ _. Option (ℕ × ℕ)) [ true ↦ None | false ↦ next_by w view (dists_to w view edge) node ] ≡ Some hop →
        node < length w.loopbacks
    by true e = cc
    by false e =
        let i = nearest-in w node (filter (is_on_least w view (dists_to w view edge) node) (links_at w node)) hop e in
        let at = (in_filter (is_on_least w view (dists_to w view edge) node) (links_at w node) hop.1 i).0 in
        let both = in_filter (λ l. is_end w l node) (links_of w) hop.1 at in
        let r = in_range 0 (length w.ends) hop.1 both.0 in
        at_end hop.1 (omega (arith, r.1)) both.1

module _ (rank : ℕ → ℕ) (hops : ℕ → List ℕ) (falls : (x y : ℕ) → In (hops x) y → rank y < rank x) where
  descends : (xs : List ℕ) (x z : ℕ) → GoesBy hops (x ∷ xs ++ z ∷ []) → rank z < rank x
  descends [] x z h = falls x z (in_contained (hops x) z h.0)
  descends (y ∷ xs) x z h = further (rank z) (rank y) (rank x) (descends xs y z h.1) (falls x y (in_contained (hops x) y h.0))
    where
      further : (a b c : ℕ) → a < b → b < c → a < c
      further a b c f g = omega (arith, f, g)

  no-way-back : (node : ℕ) (nodes : List ℕ) → GoesBy hops (node ∷ nodes ++ node ∷ []) → ⊥
  no-way-back node nodes h = same (rank node) (descends nodes node node h)
    where
      same : (a : ℕ) → a < a → ⊥
      same a f = omega (arith, f)

pub no-loop : (w : Wiring) (down up : View) (edge : ℕ) (rank : ℕ → ℕ)
    → ((b : Bool) (x : ℕ) (hop : ℕ × ℕ) → next w (cond b up down) x edge ≡ Some hop → rank hop.0 < rank x) → HasNoLoop w down up edge
no-loop w down up edge rank falls is_up_at node nodes h =
    no-way-back rank (next_where w down up is_up_at edge) (λ x y i. by x y (next w (cond (is_up_at x) up down) x edge) refl i) node nodes h
  where
    by : (x y : ℕ) (o : Option (ℕ × ℕ)) → next w (cond (is_up_at x) up down) x edge ≡ o → In (neighbour_in o) y → rank y < rank x
    by x y None e i = absurd i
    by x y (Some hop) e i = elim i [ inl q ↦ subst (λ n. rank n < rank x) q (falls (is_up_at x) x hop e) | inr none ↦ absurd none ]
