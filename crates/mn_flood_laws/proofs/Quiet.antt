-- Where no advert flies: what each node knows of the links that it reaches, and its tree.
use Rattle.std.proofs.Common.{ℕ, ◌≡◌, ◌<◌, ◌≤◌, ◌+◌, inl, inr, Bool, true, false, cond, List, [], ◌∷◌, length, Some, None, Option, Contains}
use Rattle.std.proofs.Common.{refl, arith, sym, ◌∙◌, ap, subst}
use Rattle.std.specs.Prelude.{◌==◌, ◌&&◌, nat_lt}
use Rattle.std.specs.List.{list_any}
use Rattle.std.proofs.lemmas.List.FromFn.{get_or-map-range_with_len}
use Rattle.mn_base.proofs.Bools.{no, two_ways, and_left, and_right, and_on, and_off_left, less_tells, less_is, same_numbers, same_test, or_ways, never}
use Rattle.mn_base.proofs.Members.{in_contained, in_filter, filter_in, passes_none, none_passes}
use Rattle.mn_base.specs.declared.numbers.NodeNo.{NodeNo}
use Rattle.mn_wiring.specs.Wiring.{Wiring, View, is_up, link, is_end, across, links_at, sender, receiver, JoinsNodes, EndsDiffer}
use Rattle.mn_wiring.specs.declared.links.Dir.{Dir}
use Rattle.mn_wiring.specs.declared.links.Dir.TheVariants.{Forth, Back}
use Rattle.mn_wiring.specs.Paths.{may_go, walk_end, IsLeast, IsDist, IsOnLeast, IsNext}
use Rattle.mn_linkdb.specs.PathTable.{PathTable, dist_at, next_at}
use Rattle.mn_linkdb.specs.Trees.{IsTree, IsNextHop}
use Rattle.mn_flood_laws.specs.Flood.{Advert, FloodWorld, has, age, up_at, lists, is_flooded, flooded}
use Rattle.mn_flood_laws.specs.Laws.{FliesAsNew, IsFlood, KnowsTheTrees}
use Rattle.mn_flood_laws.proofs.Ends.{at_node}

-- 1. Two views that agree on all that a node reaches give it the same tree

pub record Agree (wiring : Wiring) (Reached : ℕ → Type 0) (one other : View) : Type 0 where
  pub same : (node l : ℕ) → Reached node → may_go wiring one node l ≡ may_go wiring other node l
  pub onward : (node l : ℕ) → Reached node → may_go wiring one node l ≡ true → Reached (across wiring l node)

module _ (wiring : Wiring) (Reached : ℕ → Type 0) (one other : View) (agree : Agree wiring Reached one other) where
  same_walks : (node : ℕ) → Reached node → (ls : List ℕ) → walk_end wiring one node ls ≡ walk_end wiring other node ls
  same_walks node r [] = refl
  same_walks node r (l ∷ ls) = by (λ q. same_walks (across wiring l node) q ls) (may_go wiring one node l) refl
    where
      by : (Reached (across wiring l node) → walk_end wiring one (across wiring l node) ls ≡ walk_end wiring other (across wiring l node) ls) → (b : Bool) →
          may_go wiring one node l ≡ b →
          cond (may_go wiring one node l) (walk_end wiring one (across wiring l node) ls) None ≡ cond (may_go wiring other node l)
          (walk_end wiring other (across wiring l node) ls) None
      by f true e =
          ap (λ c. cond c (walk_end wiring one (across wiring l node) ls) None) e
          ∙ f (agree.onward node l r e)
          ∙ sym (ap (λ c. cond c (walk_end wiring other (across wiring l node) ls) None) (sym (agree.same node l r) ∙ e))
      by f false e =
          ap (λ c. cond c (walk_end wiring one (across wiring l node) ls) None) e
          ∙ sym (ap (λ c. cond c (walk_end wiring other (across wiring l node) ls) None) (sym (agree.same node l r) ∙ e))

  least_on : (from to cost : ℕ) → Reached from → IsLeast wiring one from to cost → IsLeast wiring other from to cost
  least_on from to cost r h = record {
    walk = (h.walk.0, sym (same_walks from r h.walk.0) ∙ h.walk.1, h.walk.2);
    least = λ ls e. h.least ls (same_walks from r ls ∙ e);
  }

  dist_on : (from to : ℕ) (o : Option ℕ) → Reached from → IsDist wiring one from to o → IsDist wiring other from to o
  dist_on from to (Some cost) r h = least_on from to cost r h
  dist_on from to None r h = λ ls e. h ls (same_walks from r ls ∙ e)

  turned : Agree wiring Reached other one
  turned = record { same = λ node l r. sym (agree.same node l r); onward = λ node l r e. agree.onward node l r (agree.same node l r ∙ e) }

going : (wiring : Wiring) (view : View) (node l : ℕ) → is_up view l ≡ true → is_end wiring l node ≡ true → l < length wiring.ends →
    may_go wiring view node l ≡ true
going wiring view node l u e h =
    and_on (is_up view l) (is_end wiring l node && nat_lt l (length wiring.ends)) u
    (and_on (is_end wiring l node) (nat_lt l (length wiring.ends)) e (less_is l (length wiring.ends) h))

module _ (wiring : Wiring) (Reached : ℕ → Type 0) (one other : View) (agree : Agree wiring Reached one other) where
  on_least : (from to l : ℕ) → Reached from → IsOnLeast wiring one from to l → IsOnLeast wiring other from to l
  on_least from to l r h =
      let goes : may_go wiring one from l ≡ true = going wiring one from l h.up h.at_node h.there in
      record {
        there = h.there;
        at_node = h.at_node;
        up = and_left (is_up other l) (is_end wiring l from && nat_lt l (length wiring.ends)) (sym (agree.same from l r) ∙ goes);
        rest = h.rest;
        after = least_on wiring Reached one other agree (across wiring l from) to h.rest (agree.onward from l r goes) h.after;
        whole = least_on wiring Reached one other agree from to ((link wiring l).cost + h.rest) r h.whole;
      }

module _ (wiring : Wiring) (Reached : ℕ → Type 0) (one other : View) (agree : Agree wiring Reached one other) where
  next_on : (from to : ℕ) (o : Option (ℕ × ℕ)) → Reached from → IsNext wiring one from to o → IsNext wiring other from to o
  next_on from to None r h = λ ls e. h ls (same_walks wiring Reached one other agree from r ls ∙ e)
  next_on from to (Some hop) r h = (
    h.0,
    on_least wiring Reached one other agree from to hop.1 r h.1,
    λ l e. h.2 l (on_least wiring Reached other one (turned wiring Reached one other agree) from to l r e),
  )

  hop_on : (from to : ℕ) (o : Option NodeNo) → Reached from → IsNextHop wiring one from to o → IsNextHop wiring other from to o
  hop_on from to None r h = next_on from to None r h
  hop_on from to (Some hop) r h = (h.0, next_on from to (Some (hop.0, h.0)) r h.1)

  pub tree_on : (root : ℕ) (table : PathTable) → Reached root → IsTree wiring one root table → IsTree wiring other root table
  tree_on root table r h = record {
    one_each = h.one_each;
    dists = λ to g. dist_on wiring Reached one other agree root to (dist_at table to) r (h.dists to g);
    nexts = λ to g d. hop_on root to (next_at table to) r (h.nexts to g d);
    root_itself = h.root_itself;
  }

-- 2. Where none flies

module _ (wiring : Wiring) (joins : JoinsNodes wiring) (differ : EndsDiffer wiring) (world : FloodWorld) (flood : IsFlood wiring world)
    (quiet : world.flying ≡ [])
  where
    none_flies : (l : ℕ) (dir : Dir) (o least : ℕ) → FliesAsNew world l dir o least → ⊥
    none_flies l dir o least f = in_contained [] f.sent (subst (λ sents. Contains sents f.sent) quiet f.flies)

    settled : (l : ℕ) (dir : Dir) (o : ℕ) → l < length wiring.ends → is_up world.up l ≡ true → o < length wiring.loopbacks →
        age (has world (sender wiring l dir) o) ≤ age (has world (receiver wiring l dir) o)
    settled l dir o h u g = elim (flood.reaches l dir o h u g) [ inl e ↦ e | inr f ↦ absurd (none_flies l dir o _ f) ]

    -- the ends of a link that is up have all adverts as new
    alike : (l : ℕ) (node o : ℕ) → l < length wiring.ends → is_end wiring l node ≡ true → is_up world.up l ≡ true → o < length wiring.loopbacks →
        age (has world node o) ≡ age (has world (across wiring l node) o)
    alike l node o h e u g = by ((link wiring l).a.0 == node) refl
      where
        abbrev_other : Bool → ℕ
        abbrev_other b = cond b (link wiring l).b.0 (link wiring l).a.0

        both : age (has world (link wiring l).a.0 o) ≡ age (has world (link wiring l).b.0 o)
        both = omega (arith, settled l Forth o h u g, settled l Back o h u g)

        by : (b : Bool) → ((link wiring l).a.0 == node) ≡ b → age (has world node o) ≡ age (has world (across wiring l node) o)
        by true q =
            ap (λ x. age (has world x o)) (sym (same_numbers (link wiring l).a.0 node q)) ∙ both
            ∙ ap (λ b. age (has world (cond b (link wiring l).b.0 (link wiring l).a.0) o)) (sym q)
        by false q = elim (or_ways ((link wiring l).a.0 == node) ((link wiring l).b.0 == node) e) [
          | inl g ↦ absurd (no (sym q ∙ g))
          | inr g ↦
              ap (λ x. age (has world x o)) (sym (same_numbers (link wiring l).b.0 node g)) ∙ sym both
              ∙ ap (λ b. age (has world (cond b (link wiring l).b.0 (link wiring l).a.0) o)) (sym q)
        ]

    across_within : (l node : ℕ) → l < length wiring.ends → across wiring l node < length wiring.loopbacks
    across_within l node h = by ((link wiring l).a.0 == node)
      where
        by : (b : Bool) → cond b (link wiring l).b.0 (link wiring l).a.0 < length wiring.loopbacks
        by true = (joins l h).1
        by false = (joins l h).0

    module _ (root : ℕ) (there : root < length wiring.loopbacks) where
      -- the root has all adverts as new as this node
      abbrev pub Reached : ℕ → Type 0
      Reached node = (node < length wiring.loopbacks) × ((o : ℕ) → o < length wiring.loopbacks → age (has world root o) ≡ age (has world node o))

      reaches_on : (node l : ℕ) → Reached node → l < length wiring.ends → is_end wiring l node ≡ true → is_up world.up l ≡ true → Reached (across wiring l node)
      reaches_on node l r h e u = (across_within l node h, λ o g. r.1 o g ∙ alike l node o h e u g)

      -- the root has the present advert of a node that it reaches
      knows : (node : ℕ) → Reached node → (o : Option Advert) → has world root node ≡ o → has world root node ≡ has world node node
      knows node r (Some advert) e = e ∙ sym ((flood.copies root node advert there r.0 e).same (sym (ap age e) ∙ r.1 node r.0))
      knows node r None e = absurd (nothing (sym (ap age e) ∙ r.1 node r.0 ∙ ap age (flood.own node r.0).kept))
        where
          nothing : 0 ≡ (flood.own node r.0).advert.number + 1 → ⊥
          nothing q = omega (arith, q)

      listed : (node l : ℕ) → Reached node → l < length wiring.ends → is_end wiring l node ≡ true → lists (has world root node) l ≡ is_up world.up l
      listed node l r h e =
          ap (λ o. lists o l) (knows node r (has world root node) refl ∙ (flood.own node r.0).kept)
          ∙ ap (λ ls. list_any (λ other. other == l) ls) (flood.own node r.0).links
          ∙ by (is_up world.up l) refl
        where
          mine : List ℕ
          mine = up_at wiring world.up node

          by : (b : Bool) → is_up world.up l ≡ b → list_any (λ other. other == l) (up_at wiring world.up node) ≡ is_up world.up l
          by true u = present (list_any (λ other. other == l) (up_at wiring world.up node)) refl ∙ sym u
            where
              present : (c : Bool) → list_any (λ other. other == l) (up_at wiring world.up node) ≡ c →
                  list_any (λ other. other == l) (up_at wiring world.up node) ≡ true
              present true q = q
              present false q = absurd (no (sym (none_passes (λ other. other == l) (up_at wiring world.up node) l q
                  (filter_in (is_up world.up) (links_at wiring node) l (at_node wiring l node h e) u)) ∙ same_test l))
          by false u = passes_none (λ other. other == l) (up_at wiring world.up node)
              (λ k i. never (k == l) (λ q. no (sym u ∙ ap (is_up world.up) (sym (same_numbers k l q))
              ∙ (in_filter (is_up world.up) (links_at wiring node) k i).1))) ∙ sym u

      -- a link at a node that it reaches is up in its view where it is up
      sees : (node l : ℕ) → Reached node → l < length wiring.ends → is_end wiring l node ≡ true → is_up (flooded wiring world root) l ≡ is_up world.up l
      sees node l r h e =
          get_or-map-range_with_len (is_flooded wiring world root) 0 (length wiring.ends) l l false h (omega arith)
          ∙ elim (two_ways (is_up world.up l)) [
            | inl u ↦ both_list u ∙ sym u
            | inr u ↦ one_lacks u ∙ sym u
          ]
        where
          at_other : is_up world.up l ≡ true → is_end wiring l (across wiring l node) ≡ true
          at_other u = by ((link wiring l).a.0 == node)
            where
              by : (b : Bool) → is_end wiring l (cond b (link wiring l).b.0 (link wiring l).a.0) ≡ true
              by true = Rattle.mn_base.proofs.Bools.or_right ((link wiring l).a.0 == (link wiring l).b.0) ((link wiring l).b.0 == (link wiring l).b.0)
                  (same_test (link wiring l).b.0)
              by false = Rattle.mn_base.proofs.Bools.or_left ((link wiring l).a.0 == (link wiring l).a.0) ((link wiring l).b.0 == (link wiring l).a.0)
                  (same_test (link wiring l).a.0)

          -- the link's two ends are this node and the other
          ends_are : (P : ℕ → ℕ → Type 0) → P node (across wiring l node) → P (across wiring l node) node → P (link wiring l).a.0 (link wiring l).b.0
          ends_are P h g = by ((link wiring l).a.0 == node) refl
            where
              by : (b : Bool) → ((link wiring l).a.0 == node) ≡ b → P (link wiring l).a.0 (link wiring l).b.0
              by true q = subst (λ x. P x (link wiring l).b.0) (sym (same_numbers (link wiring l).a.0 node q))
                  (subst (λ b. P node (cond b (link wiring l).b.0 (link wiring l).a.0)) q h)
              by false q = elim (or_ways ((link wiring l).a.0 == node) ((link wiring l).b.0 == node) e) [
                | inl f ↦ absurd (no (sym q ∙ f))
                | inr f ↦ subst (λ x. P (link wiring l).a.0 x) (sym (same_numbers (link wiring l).b.0 node f))
                    (subst (λ b. P (cond b (link wiring l).b.0 (link wiring l).a.0) node) q g)
              ]

          mine : lists (has world root node) l ≡ is_up world.up l
          mine = listed node l r h e

          both_list : is_up world.up l ≡ true → is_flooded wiring world root l ≡ true
          both_list u =
              let theirs : lists (has world root (across wiring l node)) l ≡ true = listed (across wiring l node) l (reaches_on node l r h e u) h (at_other u)
              ∙ u in
              ends_are (λ a b. (lists (has world root a) l && lists (has world root b) l) ≡ true)
              (and_on (lists (has world root node) l) (lists (has world root (across wiring l node)) l) (mine ∙ u) theirs)
              (and_on (lists (has world root (across wiring l node)) l) (lists (has world root node) l) theirs (mine ∙ u))

          one_lacks : is_up world.up l ≡ false → is_flooded wiring world root l ≡ false
          one_lacks u = ends_are (λ a b. (lists (has world root a) l && lists (has world root b) l) ≡ false)
              (ap (λ c. c && lists (has world root (across wiring l node)) l) (mine ∙ u))
              (never (lists (has world root (across wiring l node)) l && lists (has world root node) l)
              (λ q. no (sym (mine ∙ u) ∙ and_right (lists (has world root (across wiring l node)) l) (lists (has world root node) l) q)))

      agree : Agree wiring Reached (flooded wiring world root) world.up
      agree = record {
        same = same_ways;
        onward = λ node l r q. let p = parts (flooded wiring world root) node l q in
            reaches_on node l r p.2 p.1 (sym (sees node l r p.2 p.1) ∙ p.0);
      }
        where
          parts : (view : View) (node l : ℕ) → may_go wiring view node l ≡ true →
              (is_up view l ≡ true) × (is_end wiring l node ≡ true) × (l < length wiring.ends)
          parts view node l q =
              let rest : (is_end wiring l node && nat_lt l (length wiring.ends)) ≡ true =
              and_right (is_up view l) (is_end wiring l node && nat_lt l (length wiring.ends)) q in (
                and_left (is_up view l) (is_end wiring l node && nat_lt l (length wiring.ends)) q,
                and_left (is_end wiring l node) (nat_lt l (length wiring.ends)) rest,
                less_tells l (length wiring.ends) (and_right (is_end wiring l node) (nat_lt l (length wiring.ends)) rest),
              )

          same_ways : (node l : ℕ) → Reached node → may_go wiring (flooded wiring world root) node l ≡ may_go wiring world.up node l
          same_ways node l r = by (is_end wiring l node && nat_lt l (length wiring.ends)) refl
            where
              by : (b : Bool) → (is_end wiring l node && nat_lt l (length wiring.ends)) ≡ b →
                  may_go wiring (flooded wiring world root) node l ≡ may_go wiring world.up node l
              by true q = ap (λ b. b && (is_end wiring l node && nat_lt l (length wiring.ends)))
                  (sees node l r (less_tells l (length wiring.ends) (and_right (is_end wiring l node) (nat_lt l (length wiring.ends)) q))
                  (and_left (is_end wiring l node) (nat_lt l (length wiring.ends)) q))
              by false q = off (is_up (flooded wiring world root) l) ∙ sym (off (is_up world.up l))
                where
                  off : (b : Bool) → (b && (is_end wiring l node && nat_lt l (length wiring.ends))) ≡ false
                  off b = ap (λ c. b && c) q ∙ Rattle.mn_base.proofs.Bools.and_false b

    pub trees : KnowsTheTrees wiring world
    trees root table there h = tree_on wiring (Reached root there) (flooded wiring world root) world.up (agree root there) root table (there, λ o g. refl) h
