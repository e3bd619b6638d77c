-- Walks over the links of a view, and walks that go on at their end.
use Rattle.std.proofs.Common.{ℕ, ◌≡◌, ◌+◌, ◌<◌, Bool, true, false, cond, List, [], ◌∷◌, ◌++◌, length, refl, arith, sym, ◌∙◌, ap, subst}
use Rattle.std.specs.Prelude.{◌&&◌, Option, Some, None, nat_lt}
use Rattle.std.proofs.lemmas.Bool.{and_parts, ltb-true}
use Rattle.mn_wiring.specs.Wiring.{is_up, link, is_end}
use Rattle.mn_wiring.specs.Paths.{walk_end, cost_of}
use Rattle.mn_wiring.proofs.Dist.{cond_below}
use Rattle.mn_linkdb.specs.Network.{IsLink, IsNetwork}
use Rattle.mn_linkdb.specs.Learned.{Learned, links_up}
use Rattle.mn_spf.specs.Ways.{wiring_of, goes, beyond, IsWalked}

-- where a test before a walk passed, the walk leads where the rest does
pub gone : {p : ℕ} (b : Bool) (o : Option ℕ) → cond b o None ≡ Some p → (b ≡ true) × (o ≡ Some p)
gone true o h = (refl, h)
gone false o h = cc

pub same_node : {x p : ℕ} → ◌≡◌ {A = Option ℕ} (Some x) (Some p) → x ≡ p
same_node h = cc

-- what a test of a link says
pub record IsAt (v : Learned) (node l : ℕ) : Type 0 where
  pub up : is_up (links_up v) l ≡ true
  pub at_node : is_end (wiring_of v) l node ≡ true
  pub there : l < length v.ends

pub goes_at : (v : Learned) (node l : ℕ) → goes v node l ≡ true → IsAt v node l
goes_at v node l h =
    let u : (is_up (links_up v) l ≡ true) × ((is_end (wiring_of v) l node && nat_lt l (length v.ends)) ≡ true) = and_parts _ _ h in
    let w : (is_end (wiring_of v) l node ≡ true) × (nat_lt l (length v.ends) ≡ true) = and_parts _ _ u.1 in
    record { up = u.0; at_node = w.0; there = ltb-true _ _ w.1 }

pub all_true : (a b c : Bool) → a ≡ true → b ≡ true → c ≡ true → (a && (b && c)) ≡ true
all_true a b c p q r = rw (p, q, r) refl

module _ (v : Learned) (net : IsNetwork v.nodes v.ends) where
  pub link_is : (node l : ℕ) → goes v node l ≡ true → IsLink v.nodes (link (wiring_of v) l)
  link_is node l g = net.links l _ (goes_at v node l g).there

  pub beyond_below : (node l : ℕ) → goes v node l ≡ true → beyond v node l < v.nodes
  beyond_below node l g = cond_below _ _ _ _ (link_is node l g).to (link_is node l g).from

module _ (v : Learned) where
  walk_on : (ls : List ℕ) (x u l : ℕ) → walk_end (wiring_of v) (links_up v) x ls ≡ Some u → goes v u l ≡ true →
      walk_end (wiring_of v) (links_up v) x (ls ++ l ∷ []) ≡ Some (beyond v u l)
  walk_on [] x u l w g =
      subst (λ y. cond (goes v y l) (Some (beyond v y l)) None ≡ Some (beyond v u l)) (sym (same_node w)) (rw g refl)
  walk_on (m ∷ ms) x u l w g =
      let p : (goes v x m ≡ true) × (walk_end (wiring_of v) (links_up v) (beyond v x m) ms ≡ Some u) = gone _ _ w in
      rw p.0 (walk_on ms (beyond v x m) u l p.1 g)

  cost_on : (ls : List ℕ) (l : ℕ) → cost_of (wiring_of v) (ls ++ l ∷ []) ≡ cost_of (wiring_of v) ls + (link (wiring_of v) l).cost
  cost_on [] l = omega arith
  cost_on (m ∷ ms) l = omega (arith, cost_on ms l)

  -- a walk goes on over a link at its end
  pub walked_on : (root u l cost hop : ℕ) → IsWalked v root u cost hop → goes v u l ≡ true →
      IsWalked v root (beyond v u l) (cost + (link (wiring_of v) l).cost) hop
  walked_on root u l cost hop h g =
      record {
        first = h.first;
        rest = h.rest ++ l ∷ [];
        leads = walk_on (h.first ∷ h.rest) root u l h.leads g;
        costs =
            cost_on (h.first ∷ h.rest) l ∙ ap (λ n. n + (link (wiring_of v) l).cost) h.costs;
        by_hop = h.by_hop;
      }

  -- a walk of one link
  pub walked_first : (root l cost : ℕ) → cost ≡ 0 → goes v root l ≡ true →
      IsWalked v root (beyond v root l) (cost + (link (wiring_of v) l).cost) (beyond v root l)
  walked_first root l cost z g = record { first = l; rest = []; leads = rw g refl; costs = omega (arith, z); by_hop = refl }

  -- loopbacks are of no account to walks
  pub walk_same : (loopbacks ls : List ℕ) (x : ℕ) →
      walk_end (record { loopbacks = loopbacks; ends = v.ends }) (links_up v) x ls ≡ walk_end (wiring_of v) (links_up v) x ls
  walk_same loopbacks [] x = refl
  walk_same loopbacks (l ∷ ls) x = ap (λ o. cond (goes v x l) o None) (walk_same loopbacks ls (beyond v x l))

  pub cost_same : (loopbacks ls : List ℕ) → cost_of (record { loopbacks = loopbacks; ends = v.ends }) ls ≡ cost_of (wiring_of v) ls
  cost_same loopbacks [] = refl
  cost_same loopbacks (l ∷ ls) = ap (λ n. (link (wiring_of v) l).cost + n) (cost_same loopbacks ls)
