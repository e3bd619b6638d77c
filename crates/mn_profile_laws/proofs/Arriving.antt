-- Along any choices the least cost falls at each link, so where LDP is on on all links that are up they end at the node that is meant.
use Rattle.std.proofs.Common.{ℕ, zero, suc, ◌≡◌, ◌≢◌, ◌+◌, ◌<◌, ◌≤◌, inl, inr, Bool, true, false, cond, List, [], ◌∷◌, filter, length, refl, arith, sym}
use Rattle.std.proofs.Common.{◌∙◌, ap, subst, Option, None, Some}
use Rattle.std.specs.Prelude.{◌==◌, ◌&&◌, ◌||◌, nat_lt, slice_index_or, if◌then◌else◌}
use Rattle.std.specs.List.{list_all}
use Rattle.std.proofs.lemmas.Bool.Decides.{eqb_tells}
use Rattle.std.proofs.lemmas.List.FromFn.{get_or-map-range_with_len, length-map-range_with_len}
use Rattle.mn_base.proofs.Bools.{no, less_is, and_on, and_parts, and_left, and_right, same_test, same_numbers, at_most_tells}
use Rattle.mn_base.proofs.Members.{In, in_contained, in_filter, filter_in, in_map, map_in, in_range, range_in}
use Rattle.mn_wiring.specs.declared.links.LinkEnds.{LinkEnds}
use Rattle.mn_wiring.specs.Wiring.{Wiring, View, JoinsNodes, is_up, is_end, link, across, links_of, links_at}
use Rattle.mn_wiring.specs.Paths.{IsLeast, IsDist, IsOnLeast, IsNext, may_go, walk_end, cost_of, plus, dist_in, dists_to, same_cost, is_on_least, next}
use Rattle.mn_wiring.proofs.Dist.{cond_below, dists_are_least}
use Rattle.mn_wiring.proofs.Next.{next_is}
use Rattle.mn_toward_laws.specs.Spared.{AllCost}
use Rattle.mn_topo.specs.Network.{Network, wiring_of}
use Rattle.mn_topo.specs.Lawful.{IsLawful, has_figures}
use Rattle.mn_ledger.specs.World.{Config}
use Rattle.mn_reach_laws.specs.Fates.{up_links, before, over_hop}
use Rattle.mn_profile.specs.declared.switches.EqualCost.{EqualCost}
use Rattle.mn_profile.specs.declared.switches.EqualCost.TheVariants as equal_cost
use Rattle.mn_profile.specs.declared.switches.Profile.{Profile}
use Rattle.mn_profile_laws.specs.Profiles.{with_ldp, synchronized, network_under}
use Rattle.mn_profile_laws.specs.Paths.{list_of, hop_over, equal_hops, hops_by, hops, has_some, leads_over, all_lead_within, all_lead_by, all_lead}
use Rattle.mn_profile_laws.specs.Choices.{Choice, IsAmong, Chooses, chosen_within, chosen_by, nodes_over, HasLdpWhereUp, ArrivesAtCost}

-- 1. The links of a profile are lawful as those of the topology are

positive : (links : List LinkEnds) (l : ℕ) (d : LinkEnds) → list_all has_figures links ≡ true → l < length links → 1 ≤ (slice_index_or links l d).cost
positive [] l d all h = absurd (none l h)
  where
    none : (l : ℕ) → l < 0 → ⊥
    none l h = omega (arith, h)
positive (x ∷ xs) zero d all h = at_most_tells 1 x.cost (and_left _ _ (and_left _ _ (and_left _ _ (and_left _ _ (and_left _ _ all)))))
positive (x ∷ xs) (suc l) d all h = positive xs l d (and_right _ _ all) (omega (arith, h))

abbrev no_link : LinkEnds
no_link = record { a = record { 0 = 0 }; b = record { 0 = 0 }; cost = 0; delay = 0; loss = 0; life = 0 }

-- with LDP or without, its ends stay, and it costs something
pub record IsLike (x y : LinkEnds) : Type 0 where
  pub a : y.a.0 ≡ x.a.0
  pub b : y.b.0 ≡ x.b.0
  pub cost : 1 ≤ x.cost → 1 ≤ y.cost

like : (on : Bool) (x : LinkEnds) → IsLike x (with_ldp on x)
like true x = record { a = refl; b = refl; cost = λ h. h }
like false x = record { a = refl; b = refl; cost = λ h. omega arith }

module _ (t : Network) (p : Profile) (c : Config) where
  abbrev costing : Bool → List LinkEnds
  costing b = if b then synchronized t c else t.links

  pub as_many : (b : Bool) → length (costing b) ≡ length t.links
  as_many true = length-map-range_with_len (λ l. with_ldp (c.ldp_on l) (link (wiring_of t) l)) 0 (length t.links)
  as_many false = refl

  pub each_like : (b : Bool) (l : ℕ) → l < length t.links → IsLike (link (wiring_of t) l) (slice_index_or (costing b) l no_link)
  each_like true l h =
      subst (IsLike (link (wiring_of t) l))
      (sym (get_or-map-range_with_len (λ k. with_ldp (c.ldp_on k) (link (wiring_of t) k)) 0 (length t.links) l l no_link h (omega arith)))
      (like (c.ldp_on l) (link (wiring_of t) l))
  each_like false l h = record { a = refl; b = refl; cost = λ h. h }

  pub there : (l : ℕ) → l < length (network_under t p c).links → l < length t.links
  there l h = omega (arith, h, as_many p.sync)

  pub joins : IsLawful t → JoinsNodes (wiring_of (network_under t p c))
  joins lawful l h =
      let same = each_like p.sync l (there l h) in
      let ends = lawful.joins_nodes l (there l h) in
      (subst (λ n. n < length t.loopbacks) (sym same.a) ends.0, subst (λ n. n < length t.loopbacks) (sym same.b) ends.1)

  pub cost-all : IsLawful t → AllCost (wiring_of (network_under t p c))
  cost-all lawful l h = (each_like p.sync l (there l h)).cost (positive t.links l no_link lawful.links.figures (there l h))

  pub labelled-too : HasLdpWhereUp t c → HasLdpWhereUp (network_under t p c) c
  labelled-too labelled l h up = labelled l (there l h) up

pub up-there : (t : Network) (c : Config) (l : ℕ) → l < length t.links → is_up (up_links t c) l ≡ true → c.is_up l ≡ true
up-there t c l h up = sym (get_or-map-range_with_len c.is_up 0 (length t.links) l l false h (omega arith)) ∙ up

-- 2. Next hops are on least walks

same_number : {a b : ℕ} → a ≤ b → b ≤ a → a ≡ b
same_number h g = omega (arith, h, g)

pub one-least : (w : Wiring) (v : View) (a b c d : ℕ) → IsLeast w v a b c → IsLeast w v a b d → c ≡ d
one-least w v a b c d h g =
    same_number (subst (λ n. c ≤ n) g.walk.2 (h.least g.walk.0 g.walk.1)) (subst (λ n. d ≤ n) h.walk.2 (g.least h.walk.0 h.walk.1))

pub none-less : (d : ℕ) → d < 0 → ⊥
none-less d h = omega (arith, h)

on_least : (a b : Option ℕ) (c : ℕ) → same_cost (plus c a) b ≡ true → (d : ℕ) × (a ≡ Some d) × (b ≡ Some (c + d))
on_least None b c h = cc
on_least (Some d) None c h = cc
on_least (Some d) (Some e) c h = (d, refl, ap (λ n. Some n) (sym (same_numbers _ _ h)))

same_on : (a b : Option ℕ) (c d : ℕ) → a ≡ Some d → b ≡ Some (c + d) → same_cost (plus c a) b ≡ true
same_on a b c d p q = ap (λ x. same_cost (plus c x) b) p ∙ ap (λ y. same_cost (Some (c + d)) y) q ∙ same_test (c + d)

known : (w : Wiring) (v : View) (n to d : ℕ) (o : Option ℕ) → IsDist w v n to o → IsLeast w v n to d → o ≡ Some d
known w v n to d None h k = absurd (h k.walk.0 k.walk.1)
known w v n to d (Some e) h k = ap (λ x. Some x) (one-least w v n to e d h k)

-- a next hop is over a link on which a least walk goes
pub record IsHop (w : Wiring) (v : View) (n to : ℕ) (hop : ℕ × ℕ) : Type 0 where
  pub at : hop.0 ≡ across w hop.1 n
  pub on : IsOnLeast w v n to hop.1

module _ (w : Wiring) (v : View) (to : ℕ) (ok : JoinsNodes w) where
  pub across-below : (n l : ℕ) → l < length w.ends → across w l n < length w.loopbacks
  across-below n l h = cond_below _ _ _ _ (ok l h).1 (ok l h).0

  pub dist-is : (n d : ℕ) → n < length w.loopbacks → IsLeast w v n to d → dist_in (dists_to w v to) n ≡ Some d
  dist-is n d below least = known w v n to d (dist_in (dists_to w v to) n) (dists_are_least w v to ok n below) least

  pub least-is : (n d : ℕ) → n < length w.loopbacks → dist_in (dists_to w v to) n ≡ Some d → IsLeast w v n to d
  least-is n d below e = subst (IsDist w v n to) e (dists_are_least w v to ok n below)

  -- a link that passes the test
  passes : (n l : ℕ) → n < length w.loopbacks → l < length w.ends → is_end w l n ≡ true → is_on_least w v (dists_to w v to) n l ≡ true → IsOnLeast w v n to l
  passes n l below there at h =
      let parts = and_parts (is_up v l) _ h in
      let s = on_least (dist_in (dists_to w v to) (across w l n)) (dist_in (dists_to w v to) n) (link w l).cost parts.1 in
      record {
        there = there;
        at_node = at;
        up = parts.0;
        rest = s.0;
        after = least-is (across w l n) s.0 (across-below n l there) s.1;
        whole = least-is n ((link w l).cost + s.0) below s.2;
      }

  abbrev tested : ℕ → List ℕ
  tested n = filter (is_on_least w v (dists_to w v to) n) (links_at w n)

  tested_on : (n l : ℕ) → n < length w.loopbacks → In (tested n) l → IsOnLeast w v n to l
  tested_on n l below i =
      let f = in_filter (is_on_least w v (dists_to w v to) n) (links_at w n) l i in
      let g = in_filter (λ k. is_end w k n) (links_of w) l f.0 in
      let r = in_range 0 (length w.ends) l g.0 in
      passes n l below (omega (arith, r.1)) g.1 f.1

  on_tested : (n l : ℕ) → n < length w.loopbacks → IsOnLeast w v n to l → In (tested n) l
  on_tested n l below on =
      filter_in (is_on_least w v (dists_to w v to) n) (links_at w n) l
      (filter_in (λ k. is_end w k n) (links_of w) l (range_in 0 (length w.ends) l (omega arith) (omega (arith, on.there))) on.at_node)
      (ap (λ b. b && same_cost (plus (link w l).cost (dist_in (dists_to w v to) (across w l n))) (dist_in (dists_to w v to) n)) on.up
      ∙ same_on (dist_in (dists_to w v to) (across w l n)) (dist_in (dists_to w v to) n) (link w l).cost on.rest
      (dist-is (across w l n) on.rest (across-below n l on.there) on.after) (dist-is n ((link w l).cost + on.rest) below on.whole))

  equal_is : (n : ℕ) (hop : ℕ × ℕ) → n < length w.loopbacks → In (equal_hops w v n to) hop → IsHop w v n to hop
  equal_is n hop below i =
      let m = in_map (hop_over w n) (tested n) hop i in
      subst (IsHop w v n to) m.2 (record { at = refl; on = tested_on n m.0 below m.1 })

  next_is_hop : (n : ℕ) (hop : ℕ × ℕ) (o : Option (ℕ × ℕ)) → IsNext w v n to o → In (list_of o) hop → IsHop w v n to hop
  next_is_hop n hop None h i = absurd i
  next_is_hop n hop (Some one) h i = elim i [
    | inl e ↦ subst (IsHop w v n to) e (record { at = h.0; on = h.1 })
    | inr j ↦ absurd j
  ]

  pub is_hop : (e : EqualCost) (n : ℕ) (hop : ℕ × ℕ) → n < length w.loopbacks → n ≢ to → In (hops_by e w v n to) hop → IsHop w v n to hop
  is_hop equal_cost.Least n hop below apart i = next_is_hop n hop (next w v n to) (next_is w v to ok n below apart) i
  is_hop equal_cost.All n hop below apart i = equal_is n hop below i
  is_hop equal_cost.Any n hop below apart i = equal_is n hop below i

  -- and there is one where a walk leads there
  next_some : (n d : ℕ) (o : Option (ℕ × ℕ)) → IsLeast w v n to d → IsNext w v n to o → has_some (list_of o) ≡ true
  next_some n d None least h = absurd (h least.walk.0 least.walk.1)
  next_some n d (Some hop) least h = refl

  first_on : (n d : ℕ) (o : Option (ℕ × ℕ)) → IsLeast w v n to d → IsNext w v n to o → (l : ℕ) × IsOnLeast w v n to l
  first_on n d None least h = absurd (h least.walk.0 least.walk.1)
  first_on n d (Some hop) least h = (hop.1, h.1)

  some_in : {A : Type 0} (xs : List A) (x : A) → In xs x → has_some xs ≡ true
  some_in [] x i = absurd i
  some_in (y ∷ ys) x i = refl

  equal_some : (n d : ℕ) → n < length w.loopbacks → n ≢ to → IsLeast w v n to d → has_some (equal_hops w v n to) ≡ true
  equal_some n d below apart least =
      let l = first_on n d (next w v n to) least (next_is w v to ok n below apart) in
      some_in (equal_hops w v n to) (hop_over w n l.0) (map_in (hop_over w n) (tested n) l.0 (on_tested n l.0 below l.1))

  pub has_hop : (e : EqualCost) (n d : ℕ) → n < length w.loopbacks → n ≢ to → IsLeast w v n to d → has_some (hops_by e w v n to) ≡ true
  has_hop equal_cost.Least n d below apart least = next_some n d (next w v n to) least (next_is w v to ok n below apart)
  has_hop equal_cost.All n d below apart least = equal_some n d below apart least
  has_hop equal_cost.Any n d below apart least = equal_some n d below apart least

-- from a hop on it costs less
pub record IsNearer (w : Wiring) (v : View) (to d : ℕ) (hop : ℕ × ℕ) : Type 0 where
  pub rest : ℕ
  pub below : hop.0 < length w.loopbacks
  pub least : IsLeast w v hop.0 to rest
  pub less : rest < d
  pub sum : (link w hop.1).cost + rest ≡ d

pub nearer : (w : Wiring) (v : View) (to n d : ℕ) (hop : ℕ × ℕ) → JoinsNodes w → AllCost w → IsLeast w v n to d → IsHop w v n to hop → IsNearer w v to d hop
nearer w v to n d hop ok costs least h =
    let sum : (link w hop.1).cost + h.on.rest ≡ d = one-least w v n to ((link w hop.1).cost + h.on.rest) d h.on.whole least in
    record {
      rest = h.on.rest;
      below = subst (λ m. m < length w.loopbacks) (sym h.at) (across-below w v to ok n hop.1 h.on.there);
      least = subst (λ m. IsLeast w v m to h.on.rest) (sym h.at) h.on.after;
      less = omega (arith, sum, costs hop.1 h.on.there);
      sum = sum;
    }

-- 3. With LDP on all links that are up

pub shorter : {x d fuel : ℕ} → x < d → d < suc fuel → x < fuel
shorter a b = omega (arith, a, b)

all-from : {A : Type 0} (test : A → Bool) (xs : List A) → ((x : A) → In xs x → test x ≡ true) → list_all test xs ≡ true
all-from test [] h = refl
all-from test (x ∷ xs) h = and_on (test x) (list_all test xs) (h x (inl refl)) (all-from test xs (λ y i. h y (inr i)))

module _ (t : Network) (p : Profile) (c : Config) (to : ℕ) (ok : JoinsNodes (wiring_of t)) (costs : AllCost (wiring_of t))
    (labelled : HasLdpWhereUp t c) where
  abbrev w : Wiring
  w = wiring_of t

  abbrev v : View
  v = up_links t c

  has-ldp : (n : ℕ) (hop : ℕ × ℕ) → IsHop w v n to hop → c.ldp_on hop.1 ≡ true
  has-ldp n hop h = labelled hop.1 h.on.there (up-there t c hop.1 h.on.there h.on.up)

  -- all lead
  pub all-lead-so : (fuel d n : ℕ) → d < fuel → n < length t.loopbacks → IsLeast w v n to d → all_lead_within t p c fuel n to ≡ true
  all-lead-so zero d n f below least = absurd (none-less d f)
  all-lead-so (suc fuel) d n f below least = elim (eqb_tells n to) [
    | inl e ↦ ap (λ b. b || (has_some (hops t p c n to) && list_all (leads_over c (λ hop. all_lead_within t p c fuel hop to)) (hops t p c n to))) e.0
    | inr e ↦
        ap (λ b. b || (has_some (hops t p c n to) && list_all (leads_over c (λ hop. all_lead_within t p c fuel hop to)) (hops t p c n to))) e.0
        ∙ and_on (has_some (hops t p c n to)) (list_all (leads_over c (λ hop. all_lead_within t p c fuel hop to)) (hops t p c n to))
        (has_hop w v to ok p.equal n d below e.1 least)
        (all-from (leads_over c (λ hop. all_lead_within t p c fuel hop to)) (hops t p c n to)
        (λ hop i. each (λ m x g b l. all-lead-so fuel x m g b l) hop (is_hop w v to ok p.equal n hop below e.1 i)))
  ]
    where
      each : ((m x : ℕ) → x < fuel → m < length t.loopbacks → IsLeast w v m to x → all_lead_within t p c fuel m to ≡ true)
          → (hop : ℕ × ℕ) → IsHop w v n to hop → leads_over c (λ m. all_lead_within t p c fuel m to) hop ≡ true
      each more hop h =
          let near = nearer w v to n d hop ok costs least h in
          and_on (c.ldp_on hop.1) (all_lead_within t p c fuel hop.0 to) (has-ldp n hop h)
          (more hop.0 near.rest (shorter near.less f) near.below near.least)

  pub all-lead-there : (n d : ℕ) → n < length t.loopbacks → IsLeast w v n to d → all_lead t p c n to ≡ true
  all-lead-there n d below least =
      ap (all_lead_by t p c n to) (dist-is w v to ok n d below least) ∙ all-lead-so (suc d) d n (omega arith) below least

-- 4. And the path of each choice is a least walk

no-hops : (xs : List (ℕ × ℕ)) → has_some xs ≡ true → xs ≡ [] → ⊥
no-hops xs h e = no (sym (ap has_some e) ∙ h)

module _ (t : Network) (p : Profile) (c : Config) (to : ℕ) (joined : JoinsNodes (wiring_of t)) (costly : AllCost (wiring_of t))
    (labelled : HasLdpWhereUp t c) (choice : Choice) (chooses : Chooses t p c to choice) where
  abbrev net : Wiring
  net = wiring_of t

  abbrev view : View
  view = up_links t c

  pub record Comes (fuel d n : ℕ) : Type 0 where
    pub nodes : List ℕ
    pub links : List ℕ
    pub path : chosen_within c choice fuel n to ≡ Some nodes
    pub over : nodes ≡ n ∷ nodes_over net n links
    pub walk : walk_end net view n links ≡ Some to
    pub costs : cost_of net links ≡ d

  free : {d : ℕ} → d ≤ 0 → 0 ≡ d
  free h = omega (arith, h)

  comes : (fuel d n : ℕ) → d < fuel → n < length t.loopbacks → IsLeast net view n to d → Comes fuel d n
  comes zero d n f below least = absurd (none-less d f)
  comes (suc fuel) d n f below least = elim (eqb_tells n to) [
    | inl e ↦ record {
      nodes = n ∷ [];
      links = [];
      path = ap (λ b. cond b (Some (n ∷ [])) (over_hop c n (λ hop. chosen_within c choice fuel hop to) (choice n))) e.0;
      over = refl;
      walk = ap (λ x. Some x) e.1;
      costs = free (least.least [] (ap (λ x. Some x) e.1));
    }
    | inr e ↦ by_hop (λ m x g b l. comes fuel x m g b l) e.0 e.1 (choice n) refl (chooses n e.1)
  ]
    where
      by_hop : ((m x : ℕ) → x < fuel → m < length t.loopbacks → IsLeast net view m to x → Comes fuel x m) → (n == to) ≡ false → n ≢ to →
          (o : Option (ℕ × ℕ)) → choice n ≡ o → IsAmong (hops t p c n to) o → Comes (suc fuel) d n
      by_hop more e apart None is among = absurd (no-hops (hops t p c n to) (has_hop net view to joined p.equal n d below apart least) among)
      by_hop more e apart (Some hop) is among =
          let h = is_hop net view to joined p.equal n hop below apart (in_contained (hops t p c n to) hop among) in
          let near = nearer net view to n d hop joined costly least h in
          let r = more hop.0 near.rest (shorter near.less f) near.below near.least in
          record {
            nodes = n ∷ r.nodes;
            links = hop.1 ∷ r.links;
            path =
                ap (λ b. cond b (Some (n ∷ [])) (over_hop c n (λ m. chosen_within c choice fuel m to) (choice n))) e
                ∙ ap (λ o. over_hop c n (λ m. chosen_within c choice fuel m to) o) is
                ∙ ap (λ b. cond b (before n (chosen_within c choice fuel hop.0 to)) None) (has-ldp t p c to joined costly labelled n hop h)
                ∙ ap (before n) r.path;
            over =
                ap (λ ns. n ∷ ns) r.over
                ∙ ap (λ m. n ∷ m ∷ nodes_over net m r.links) h.at;
            walk =
                ap (λ b. cond b (walk_end net view (across net hop.1 n) r.links) None) (goes h.on.up h.on.at_node h.on.there)
                ∙ ap (λ m. walk_end net view m r.links) (sym h.at) ∙ r.walk;
            costs = ap (λ k. (link net hop.1).cost + k) r.costs ∙ near.sum;
          }
        where
          goes : is_up view hop.1 ≡ true → is_end net hop.1 n ≡ true → hop.1 < length net.ends → may_go net view n hop.1 ≡ true
          goes up at there =
              ap (λ b. b && (is_end net hop.1 n && nat_lt hop.1 (length net.ends))) up ∙ ap (λ b. b && nat_lt hop.1 (length net.ends)) at
              ∙ less_is hop.1 (length net.ends) there

  pub arrives-at : (n d : ℕ) → n < length t.loopbacks → IsLeast net view n to d → ArrivesAtCost t c choice n to d
  arrives-at n d below least =
      let r = comes (suc d) d n (omega arith) below least in
      record {
        nodes = r.nodes;
        links = r.links;
        path = ap (chosen_by c choice n to) (dist-is net view to joined n d below least) ∙ r.path;
        over = r.over;
        walk = r.walk;
        costs = r.costs;
      }

-- 5. As laws

pub every_arrives : (t : Network) (p : Profile) (c : Config) (to : ℕ) (choice : Choice) → IsLawful t → HasLdpWhereUp t c
    → Chooses (network_under t p c) p c to choice → (n d : ℕ) → n < length t.loopbacks
    → IsLeast (wiring_of (network_under t p c)) (up_links (network_under t p c) c) n to d → ArrivesAtCost (network_under t p c) c choice n to d
every_arrives t p c to choice lawful labelled chooses =
    arrives-at (network_under t p c) p c to (joins t p c lawful) (cost-all t p c lawful) (labelled-too t p c labelled) choice chooses

pub all_lead_there : (t : Network) (p : Profile) (c : Config) (to : ℕ) → IsLawful t → HasLdpWhereUp t c → (n d : ℕ) → n < length t.loopbacks
    → IsLeast (wiring_of (network_under t p c)) (up_links (network_under t p c) c) n to d → all_lead (network_under t p c) p c n to ≡ true
all_lead_there t p c to lawful labelled =
    all-lead-there (network_under t p c) p c to (joins t p c lawful) (cost-all t p c lawful) (labelled-too t p c labelled)
