-- In a settled world the route is a least walk.
use Rattle.std.proofs.Common.{ℕ, ◌≡◌, ◌+◌, ◌<◌, ◌≤◌, true, cond, List, [], ◌∷◌, length, refl, arith, sym, ◌∙◌, ap, subst, None, Some}
use Rattle.std.specs.Prelude.{◌&&◌, nat_lt}
use Rattle.mn_wiring.specs.Wiring.{View, link, is_up, is_end, across}
use Rattle.mn_wiring.specs.Paths.{IsLeast, may_go, walk_end, cost_of}
use Rattle.mn_base.proofs.Bools.{less_is}
use Rattle.mn_topo.specs.Network.{Network, wiring_of}
use Rattle.mn_topo.specs.Lawful.{IsLawful}
use Rattle.mn_topo.specs.declared.steps.JournalEntry.{JournalEntry}
use Rattle.mn_ledger.specs.World.{World}
use Rattle.mn_ledger.specs.Ledger.{world_of}
use Rattle.mn_ledger.specs.Lawful.{IsLawfulJournal}
use Rattle.mn_ledger.specs.Settled.{IsSettled, route}
use Rattle.mn_settled_laws.specs.Ways.{links_up, Reaches, KnowTheWays}
use Rattle.mn_settled_laws.specs.Arrival.{GoesBy, nodes_over, IsLeastWay}
use Rattle.mn_settled_laws.proofs.Hops.{some-next, hop-below}
use Rattle.mn_settled_laws.proofs.Ways.{know_the_ways}
use Rattle.mn_settled_laws.proofs.Route.{route_is}

one-least : (t : Network) (v : View) (q p a b : ℕ) → IsLeast (wiring_of t) v q p a → IsLeast (wiring_of t) v q p b → a ≤ b
one-least t v q p a b x y = subst (λ n. a ≤ n) y.walk.2 (x.least y.walk.0 y.walk.1)

-- nothing costs less than to stay
stays : (t : Network) (v : View) (n p : ℕ) → n ≡ p → IsLeast (wiring_of t) v n p 0
stays t v n p e = record { walk = ([], ap (λ x. Some x) e, refl); least = λ ls w. omega arith }

module _ (t : Network) (w : World) (lawful : IsLawful t) (ways : KnowTheWays t w) (p : ℕ) (inside : p < length t.loopbacks) where
  least-way : (hops : List ℕ) (n : ℕ) → n < length t.loopbacks → GoesBy t w hops n p → IsLeastWay t w n p (n ∷ hops)
  least-way [] n below e = record { links = []; nodes_are = refl; ends = ap (λ x. Some x) e; least = stays t (links_up t w) n p e }
  least-way (hop ∷ hops) n below g =
      let l : ℕ = g.1 in
      let some = (some-next t (links_up t w) lawful p n (hop, l) below (sym (ways n p below inside).way_is ∙ g.2)).1 in
      let rest = least-way hops hop (hop-below t (links_up t w) lawful p n (hop, l) some) g.4 in
      let far : IsLeast (wiring_of t) (links_up t w) hop p some.1.rest = subst (λ j. IsLeast (wiring_of t) (links_up t w) j p some.1.rest)
      (sym some.0) some.1.after in
      let same : some.1.rest ≡ cost_of (wiring_of t) rest.links = both
      (one-least t (links_up t w) hop p some.1.rest (cost_of (wiring_of t) rest.links) far rest.least)
      (one-least t (links_up t w) hop p (cost_of (wiring_of t) rest.links) some.1.rest rest.least far) in
      record {
        links = l ∷ rest.links;
        nodes_are = ap (λ xs. n ∷ xs) (rest.nodes_are ∙ ap (λ j. nodes_over t j rest.links) g.3);
        ends =
            ap (λ b. cond b (walk_end (wiring_of t) (links_up t w) (across (wiring_of t) l n) rest.links) None) (goes some.1.up some.1.at_node some.1.there)
            ∙ ap (λ j. walk_end (wiring_of t) (links_up t w) j rest.links) (sym g.3) ∙ rest.ends;
        least = subst (λ c. IsLeast (wiring_of t) (links_up t w) n p ((link (wiring_of t) l).cost + c)) same some.1.whole;
      }
    where
      both : {a b : ℕ} → a ≤ b → b ≤ a → a ≡ b
      both h g = omega (arith, h, g)

      goes : {l : ℕ} → is_up (links_up t w) l ≡ true → is_end (wiring_of t) l n ≡ true → l < length t.links → may_go (wiring_of t) (links_up t w) n l ≡ true
      goes {l = l} u e h =
          ap (λ b. b && (is_end (wiring_of t) l n && nat_lt l (length t.links))) u ∙ ap (λ b. b && nat_lt l (length t.links)) e ∙ less_is l (length t.links) h

pub route_is_least : (t : Network) (es : List JournalEntry) (ps : List (List ℕ)) → IsLawful t → IsLawfulJournal t es ps → IsSettled t (world_of t es)
    → (from to : ℕ) → from < length t.loopbacks → to < length t.loopbacks → Reaches t (world_of t es) from to
    → IsLeastWay t (world_of t es) from to (route t (world_of t es) from to)
route_is_least t es ps lawful journal settled from to below inside reaches =
    let ways = know_the_ways t es ps lawful journal settled in
    let way_there = route_is t (world_of t es) lawful ways to inside from below reaches in
    subst (IsLeastWay t (world_of t es) from to) (sym way_there.1) (least-way t (world_of t es) lawful ways to inside way_there.0 from below way_there.2)
