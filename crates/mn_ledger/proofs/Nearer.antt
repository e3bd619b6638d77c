-- Along the next hops the distance falls.
use Rattle.std.proofs.Common.{ℕ, zero, suc, ◌≡◌, ◌≢◌, ◌+◌, ◌<◌, ◌≤◌, true, List, [], ◌∷◌, length, arith, sym, subst, Some}
use Rattle.std.specs.Prelude.{slice_index_or}
use Rattle.std.specs.List.{list_all}
use Rattle.mn_base.proofs.Bools.{and_left, and_right, at_most_tells}
use Rattle.mn_topo.specs.Wiring.{Wiring, View, link}
use Rattle.mn_topo.specs.Paths.{IsLeast, IsNext, next}
use Rattle.mn_topo.proofs.Next.{next_is}
use Rattle.mn_topo.specs.LinkEnds.{LinkEnds}
use Rattle.mn_topo.specs.Network.{Network, wiring_of}
use Rattle.mn_topo.specs.Lawful.{IsLawful, has_figures}
use Rattle.mn_ledger.specs.Nearer.{IsNearer}

positive : (links : List LinkEnds) (l : ℕ) (d : LinkEnds) → list_all has_figures links ≡ true → l < length links → 1 ≤ (slice_index_or links l d).cost
positive [] l d all h = absurd (none l h)
  where
    none : (l : ℕ) → l < 0 → ⊥
    none l h = omega (arith, h)
positive (x ∷ xs) zero d all h = at_most_tells 1 x.cost (and_left _ _ (and_left _ _ (and_left _ _ (and_left _ _ (and_left _ _ all)))))
positive (x ∷ xs) (suc l) d all h = positive xs l d (and_right _ _ all) (omega (arith, h))

-- two least costs between the same nodes are one
one_least : (w : Wiring) (view : View) (from to a b : ℕ) → IsLeast w view from to a → IsLeast w view from to b → a ≤ b
one_least w view from to a b x y = subst (λ n. a ≤ n) y.walk.2 (x.least y.walk.0 y.walk.1)

nearer_by : (w : Wiring) (view : View) (from to d : ℕ) (hop : ℕ × ℕ) →
    ((l : ℕ) → l < length w.ends → 1 ≤ (link w l).cost) → IsNext w view from to (Some hop) → IsLeast w view from to d → IsNearer w view hop.0 to d
nearer_by w view from to d hop costs n least =
    let whole : (link w hop.1).cost + n.1.rest ≤ d = one_least w view from to ((link w hop.1).cost + n.1.rest) d n.1.whole least in
    record {
      rest = n.1.rest;
      is_least = subst (λ x. IsLeast w view x to n.1.rest) (sym n.0) n.1.after;
      is_less = omega (arith, whole, costs hop.1 n.1.there);
    }

pub nearer : (t : Network) (view : View) (from to d : ℕ) (hop : ℕ × ℕ) → IsLawful t → from < length t.loopbacks → from ≢ to →
    next (wiring_of t) view from to ≡ Some hop → IsLeast (wiring_of t) view from to d → IsNearer (wiring_of t) view hop.0 to d
nearer t view from to d hop lawful h apart is least =
    nearer_by (wiring_of t) view from to d hop (λ l g. positive t.links l _ lawful.links.figures g)
    (subst (IsNext (wiring_of t) view from to) is (next_is (wiring_of t) view to lawful.joins_nodes from h apart)) least
