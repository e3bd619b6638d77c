-- Hop by hop the way goes as the label switched path does.
use Rattle.std.proofs.Common.{ℕ, zero, suc, ◌≡◌, ◌+◌, ◌<◌, ◌≤◌, inl, inr, Bool, true, false, cond, List, [], ◌∷◌, length, refl, arith, sym, ◌∙◌, ap}
use Rattle.std.proofs.Common.{subst, Option, None, Some, All}
use Rattle.std.specs.Prelude.{◌==◌, ◌&&◌, option_map, option_and_then, unwrap_or, slice_index_or}
use Rattle.std.specs.List.{list_all}
use Rattle.std.proofs.lemmas.Bool.Decides.{eqb_tells, leb_tells}
use Rattle.std.proofs.lemmas.List.FromFn.{fill_by_all, get_or-map-range_with_len, length-map-range_with_len}
use Rattle.std.proofs.lemmas.List.{get_or_past}
use Rattle.std.proofs.lemmas.List.Elements.{All-head, All-tail}
use Rattle.mn_base.proofs.Bools.{clash, and_left, and_right, at_most_tells}
use Rattle.mn_wiring.specs.declared.links.LinkEnds.{LinkEnds}
use Rattle.mn_wiring.specs.Wiring.{Wiring, View, is_up, link}
use Rattle.mn_wiring.specs.Paths.{IsLeast, IsDist, IsNext, dist_in, dists_to, next}
use Rattle.mn_wiring.proofs.Next.{next_is}
use Rattle.mn_wiring.proofs.Dist.{dists_are_least}
use Rattle.mn_topo.specs.Network.{Network, wiring_of}
use Rattle.mn_topo.specs.Lawful.{IsLawful, has_figures}
use Rattle.mn_ledger.specs.World.{Config}
use Rattle.mn_settled_laws.proofs.Hops.{hop-below}
use Rattle.mn_toward_laws.specs.Spared.{AllCost, HasNoMore}
use Rattle.mn_reach_laws.specs.Fates.{up_links, before, over_hop, lsp_within, lsp_by, lsp}
use Rattle.mn_way.specs.Switched.{Switched, IsOver}
use Rattle.mn_way.specs.Way.{Hop, onward, hops_within, has_ldp, links_on, nodes_on, labelled, label_path}
use Rattle.mn_way.proofs.Least.{none-here}
use Rattle.mn_way.proofs.Steps.{at-end}
use Rattle.mn_way_laws.specs.Paths.{AreSwitched, IsOf, ldp_links, way_of}
use Rattle.mn_way_laws.specs.Spared.{IsSparedPath, KeepsPath, KeepsWay, way_links}
use Rattle.mn_way_laws.proofs.Spared.{one-least, keeps, way-there}

-- 1. What links cost

positive : (links : List LinkEnds) (l : ℕ) (d : LinkEnds) → list_all has_figures links ≡ true → l < length links → 1 ≤ (slice_index_or links l d).cost
positive [] l d all h = absurd (none l h)
  where
    none : (l : ℕ) → l < 0 → ⊥
    none l h = omega (arith, h)
positive (x ∷ xs) zero d all h = at_most_tells 1 x.cost (and_left _ _ (and_left _ _ (and_left _ _ (and_left _ _ (and_left _ _ all)))))
positive (x ∷ xs) (suc l) d all h = positive xs l d (and_right _ _ all) (omega (arith, h))

pub all-cost : (t : Network) → IsLawful t → AllCost (wiring_of t)
all-cost t lawful l h = positive t.links l (record { a = record { 0 = 0 }; b = record { 0 = 0 }; cost = 0; delay = 0; loss = 0; life = 0 }) lawful.links.figures
    h

-- 2. One hop more

one-more : (b k : Bool) (n : ℕ) (nodes : List ℕ) → cond b (before n (cond k (Some nodes) None)) None ≡ cond (b && k) (Some (n ∷ nodes)) None
one-more true true n nodes = refl
one-more true false n nodes = refl
one-more false k n nodes = refl

module _ (t : Network) (c : Config) (to : ℕ) (lawful : IsLawful t) where
  abbrev w : Wiring
  w = wiring_of t

  abbrev v : View
  v = up_links t c

  abbrev ldp : List Bool
  ldp = ldp_links t c

  pub switch-is : (n l : ℕ) → l < length t.links → has_ldp ldp (n, l) ≡ c.ldp_on l
  switch-is n l h = get_or-map-range_with_len c.ldp_on 0 (length t.links) l l false h (omega arith)

  abbrev rest_of : ℕ → ℕ → Option (List ℕ)
  rest_of fuel hop = lsp_within t c fuel hop to

  at-root : (f n : ℕ) → n ≡ to → lsp_within t c (suc f) n to ≡ labelled ldp n (hops_within w v to f n)
  at-root f n same =
      ap (λ b. cond b (Some (n ∷ [])) (over_hop c n (rest_of f) (next w v n to))) (test same)
      ∙ sym (ap (labelled ldp n) (at-end w v to n f (none-here w v n to same)))
    where
      test : {x y : ℕ} → x ≡ y → (x == y) ≡ true
      test {x} {y} h = elim (eqb_tells x y) [ inl q ↦ q.0 | inr q ↦ absurd (q.1 h) ]

  same-path : (f n d : ℕ) → d ≤ f → n < length t.loopbacks → IsLeast w v n to d → lsp_within t c (suc f) n to ≡ labelled ldp n (hops_within w v to f n)
  same-path zero n d fits below least = elim (eqb_tells n to) [
    | inl e ↦ at-root zero n e.1
    | inr e ↦ absurd (by (next w v n to) (next_is w v to lawful.joins_nodes n below e.1))
  ]
    where
      by : (o : Option Hop) → IsNext w v n to o → ⊥
      by None h = h least.walk.0 least.walk.1
      by (Some hop) h = too_much (link w hop.1).cost h.1.rest (all-cost t lawful hop.1 h.1.there)
          (one-least w v n to ((link w hop.1).cost + h.1.rest) d h.1.whole least)
        where
          too_much : (c r : ℕ) → 1 ≤ c → c + r ≡ d → ⊥
          too_much c r a b = omega (arith, a, b, fits)
  same-path (suc f) n d fits below least = elim (eqb_tells n to) [
    | inl e ↦ at-root (suc f) n e.1
    | inr e ↦
        ap (λ b. cond b (Some (n ∷ [])) (over_hop c n (rest_of (suc f)) (next w v n to))) e.0
        ∙ by_hop (λ m r g i l. same-path f m r g i l) (next w v n to) (next_is w v to lawful.joins_nodes n below e.1)
  ]
    where
      by_hop : ((m r : ℕ) → r ≤ f → m < length t.loopbacks → IsLeast w v m to r → lsp_within t c (suc f) m to ≡ labelled ldp m (hops_within w v to f m))
          → (o : Option Hop) → IsNext w v n to o → over_hop c n (rest_of (suc f)) o ≡ labelled ldp n (onward (hops_within w v to f) o)
      by_hop more None none = absurd (none least.walk.0 least.walk.1)
      by_hop more (Some hop) some =
          let whole : (link w hop.1).cost + some.1.rest ≡ d = one-least w v n to ((link w hop.1).cost + some.1.rest) d some.1.whole least in
          let near : IsLeast w v hop.0 to some.1.rest = subst (λ k. IsLeast w v k to some.1.rest) (sym some.0) some.1.after in
          let hops : List Hop = hops_within w v to f hop.0 in
          ap (λ o. cond (c.ldp_on hop.1) (before n o) None)
          (more hop.0 some.1.rest (shorter (all-cost t lawful hop.1 some.1.there) whole) (hop-below t v lawful to n hop some) near)
          ∙ one-more (c.ldp_on hop.1) (list_all (has_ldp ldp) hops) n (nodes_on hop.0 hops)
          ∙ sym (ap (λ b. cond (b && list_all (has_ldp ldp) hops) (Some (nodes_on n (hop ∷ hops))) None) (switch-is hop.0 hop.1 some.1.there))
        where
          shorter : {c r : ℕ} → 1 ≤ c → c + r ≡ d → r ≤ f
          shorter a b = omega (arith, a, b, fits)

  pub path-is : (n : ℕ) → n < length t.loopbacks → label_path w v ldp n to ≡ lsp t c n to
  path-is n below = by (dist_in (dists_to w v to) n) (dists_are_least w v to lawful.joins_nodes n below)
    where
      by : (o : Option ℕ) → IsDist w v n to o → option_and_then (labelled ldp n) (option_map (λ cost. hops_within w v to cost n) o) ≡ lsp_by t c n to o
      by None none = refl
      by (Some d) least = sym (same-path d n d (omega arith) below least)

pub of-config : (t : Network) (c : Config) (s : Switched) (n to : ℕ) → IsLawful t → IsOf t c s → n < length t.loopbacks
    → label_path (wiring_of t) s.up s.ldp n to ≡ lsp t c n to
of-config t c s n to lawful is below =
    ap (λ up. label_path (wiring_of t) up s.ldp n to) is.up ∙ ap (λ ldp. label_path (wiring_of t) (up_links t c) ldp n to) is.ldp
    ∙ path-is t c to lawful n below

-- 3. Paths that are spared

same-tests : (one other : List Bool) (hops : List Hop) → All (λ l. slice_index_or one l false ≡ slice_index_or other l false) (links_on hops)
    → list_all (has_ldp one) hops ≡ list_all (has_ldp other) hops
same-tests one other [] same = refl
same-tests one other (hop ∷ hops) same =
    ap (λ b. b && list_all (has_ldp one) hops) (All-head (λ l. slice_index_or one l false ≡ slice_index_or other l false) hop.1 (links_on hops) same)
    ∙ ap (λ b. has_ldp other hop && b)
    (same-tests one other hops (All-tail (λ l. slice_index_or one l false ≡ slice_index_or other l false) hop.1 (links_on hops) same))

same-labels : (one other : List Bool) (n : ℕ) (o : Option (List Hop)) →
    All (λ l. slice_index_or one l false ≡ slice_index_or other l false) (links_on (unwrap_or o []))
    → option_and_then (labelled one n) o ≡ option_and_then (labelled other n) o
same-labels one other n None same = refl
same-labels one other n (Some hops) same = ap (λ b. cond b (Some (nodes_on n hops)) None) (same-tests one other hops same)

pub up-is : (t : Network) (c : Config) (l : ℕ) → l < length t.links → is_up (up_links t c) l ≡ c.is_up l
up-is t c l h = get_or-map-range_with_len c.is_up 0 (length t.links) l l false h (omega arith)

pub no-more-links : (t : Network) (one two : Config) → ((l : ℕ) → l < length t.links → two.is_up l ≡ true → one.is_up l ≡ true)
    → HasNoMore (up_links t two) (up_links t one)
no-more-links t one two less l up = elim (leb_tells (suc l) (length t.links)) [
  | inl p ↦ up-is t one l p.1 ∙ less l p.1 (sym (up-is t two l p.1) ∙ up)
  | inr p ↦ absurd (clash (sym up ∙ get_or_past (up_links t two) l false (past p.1)))
]
  where
    past : length t.links < suc l → length (up_links t two) ≤ l
    past h = omega (arith, h, length-map-range_with_len two.is_up 0 (length t.links))

module _ (t : Network) (one two : Config) (n to : ℕ) (lawful : IsLawful t) (below : n < length t.loopbacks) (spared : IsSparedPath t one two n to) where
  there : All (λ l. l < length t.links) (way_links (wiring_of t) (up_links t one) n to)
  there = way-there (wiring_of t) (up_links t one) n to lawful.joins_nodes below

  keeps-way : KeepsWay (wiring_of t) (up_links t one) (up_links t two) n to
  keeps-way =
      keeps (wiring_of t) (up_links t one) (up_links t two) n to lawful.joins_nodes lawful.joins_once (all-cost t lawful) below
      (record { no_more = no-more-links t one two spared.no_more; up = λ k d h. up-is t two _ (there k d h) ∙ spared.up k d h })

  same-switches : All (λ l. slice_index_or (ldp_links t two) l false ≡ slice_index_or (ldp_links t one) l false) (way_links (wiring_of t) (up_links t one) n to)
  same-switches = λ k d h. switch-is t two to lawful 0 _ (there k d h) ∙ spared.ldp k d h ∙ sym (switch-is t one to lawful 0 _ (there k d h))

  pub keeps-path : KeepsPath t one two n to
  keeps-path = record {
    same_way = keeps-way.same_way;
    same_cost = keeps-way.same_cost;
    same_path =
        sym (path-is t two to lawful n below) ∙ ap (option_and_then (labelled (ldp_links t two) n)) keeps-way.same_way
        ∙ same-labels (ldp_links t two) (ldp_links t one) n (way_of t one n to) same-switches ∙ path-is t one to lawful n below;
  }

-- 4. Link by link

pub link-by-link : (t : Network) (c : Config) (s : Switched) → IsOver (wiring_of t) s → AreSwitched t c s → IsOf t c s
link-by-link t c s over h = record {
  over = over;
  up = fill_by_all c.is_up s.up (length t.links) false h.ups h.up;
  ldp = fill_by_all c.ldp_on s.ldp (length t.links) false h.ldps h.ldp;
}
