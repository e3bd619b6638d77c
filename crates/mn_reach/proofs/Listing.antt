-- By link and by node the pairs are listed, one after another.
use Rattle.std.proofs.Common.{ℕ, suc, ◌≡◌, ◌≢◌, ◌+◌, ◌<◌, ◌≤◌, inl, inr, List, [], ◌∷◌, ◌++◌, length, get_or, set, take, refl, arith, sym, ◌∙◌, ap, subst}
use Rattle.std.proofs.Common.{length-set, get_or-set_other, All}
use Rattle.std.specs.List.{Contains}
use Rattle.std.proofs.lemmas.Bool.Decides.{eqb_tells, leb_tells}
use Rattle.std.proofs.lemmas.Grind.{get_or-set_at}
use Rattle.std.proofs.lemmas.List.{take_more, get_or_default, get_or_past}
use Rattle.std.proofs.lemmas.List.Elements.{All-contains, Contains-append_left, Contains-push, Contains-push_cases, Contains-get_or}
use Rattle.mn_base.proofs.Bools.{none_below}
use Rattle.mn_base.proofs.Members.{In, in_contained, contained_in, map_in, in_flat_map}
use Rattle.mn_base.specs.declared.numbers.LinkNo.{LinkNo}
use Rattle.mn_wiring.specs.Wiring.{Wiring, View, JoinsNodes}
use Rattle.mn_topo.specs.Network.{Network, wiring_of}
use Rattle.mn_topo.specs.Lawful.{IsLawful}
use Rattle.mn_ledger.specs.Places.{edges, home_of}
use Rattle.mn_ledger_laws.proofs.There.{home_there}
use Rattle.mn_way_laws.specs.Spared.{way_links}
use Rattle.mn_candidates.specs.declared.pairs.Pair.{Pair}
use Rattle.mn_reach.specs.declared.plan.Prospect.{Prospect}
use Rattle.mn_reach.specs.Plans.{IsFor, all_up, links_between, links_towards, no_pair, no_prospect, pairs_at}
use Rattle.mn_reach.specs.Finding.{AreFound, AreByHome, AreByLink, KeepMembers}

-- 1. One pair more

pub keeps_all : (lists : List (List ℕ)) → KeepMembers lists lists
keeps_all lists = record { each = refl; kept = λ at k h. h }

pub keeps_on : (a b d : List (List ℕ)) → KeepMembers a b → KeepMembers b d → KeepMembers a d
keeps_on a b d one two = record { each = two.each ∙ one.each; kept = λ at k h. two.kept at k (one.kept at k h) }

module _ (lists : List (List ℕ)) (at k : ℕ) (there : at < length lists) where
  pub keeps : KeepMembers lists (set lists at (pairs_at lists at ++ k ∷ []))
  keeps = record {
    each = length-set lists at (pairs_at lists at ++ k ∷ []);
    kept = λ a j h. elim (eqb_tells a at) [
      | inl e ↦ subst (λ (xs : List ℕ). Contains xs j) (sym (get_or-set_at lists at a (pairs_at lists at ++ k ∷ []) [] e.1 there))
          (Contains-append_left (pairs_at lists at) (k ∷ []) j (subst (λ n. Contains (pairs_at lists n) j) e.1 h))
      | inr e ↦ subst (λ (xs : List ℕ). Contains xs j) (sym (get_or-set_other lists at a (pairs_at lists at ++ k ∷ []) [] e.1)) h
    ];
  }

  pub has_it : Contains (pairs_at (set lists at (pairs_at lists at ++ k ∷ [])) at) k
  has_it = subst (λ (xs : List ℕ). Contains xs k) (sym (get_or-set_at lists at at (pairs_at lists at ++ k ∷ []) [] refl there))
      (Contains-push (pairs_at lists at) k)

-- what has a member is a list that is there
pub listed_below : (lists : List (List ℕ)) (at k : ℕ) → Contains (pairs_at lists at) k → at < length lists
listed_below lists at k h = elim (leb_tells (suc at) (length lists)) [
  | inl p ↦ below p.1
  | inr p ↦ absurd (in_contained [] k (subst (λ (xs : List ℕ). Contains xs k) (get_or_past lists at [] (past p.1)) h))
]
  where
    below : suc at ≤ length lists → at < length lists
    below h = omega (arith, h)

    past : length lists < suc at → length lists ≤ at
    past h = omega (arith, h)

-- 2. At each of its links

pub at_none : (links : List LinkNo) (lists : List (List ℕ)) (pair : ℕ) (link : LinkNo) → Contains (take 0 links) link → Contains (pairs_at lists link.0) pair
at_none links lists pair link h = absurd (in_contained [] link h)

pub at_one_more : (links : List LinkNo) (i : ℕ) (d : LinkNo) (lists new : List (List ℕ)) (at pair : ℕ) → i < length links → at ≡ (get_or links i d).0 →
    at < length lists → new ≡ set lists at (pairs_at lists at ++ pair ∷ []) →
    ((link : LinkNo) → Contains (take i links) link → Contains (pairs_at lists link.0) pair) →
    (link : LinkNo) → Contains (take (i + 1) links) link → Contains (pairs_at new link.0) pair
at_one_more links i d lists new at pair below from there e so_far link h =
    subst (λ (ls : List (List ℕ)). Contains (pairs_at ls link.0) pair) (sym e)
    (elim (Contains-push_cases (take i links) (get_or links i d) link (subst (λ (ls : List LinkNo). Contains ls link) (take_more links i d below) h)) [
      | inl j ↦ (keeps lists at pair there).kept link.0 pair (so_far link j)
      | inr s ↦
          subst (λ n. Contains (pairs_at (set lists at (pairs_at lists at ++ pair ∷ [])) n) pair) (from ∙ ap (λ (l : LinkNo). l.0) s)
          (has_it lists at pair there)
    ])

-- 3. Pair by pair

module _ (i k : ℕ) (h : k < i + 1) where
  pub earlier : k ≢ i → k < i
  earlier apart = omega (arith, h, apart)

pub by_link_none : (links : ℕ) (prospects : List Prospect) (lists : List (List ℕ)) → length lists ≡ links → AreByLink links prospects 0 lists
by_link_none links prospects lists each = record { each = each; at = λ k link h j. absurd (none_below k h) }

pub by_link_more : (links : ℕ) (prospects : List Prospect) (i : ℕ) (lists new : List (List ℕ)) → AreByLink links prospects i lists → KeepMembers lists new →
    ((link : LinkNo) → Contains (get_or prospects i no_prospect).links link → Contains (pairs_at new link.0) i) → AreByLink links prospects (i + 1) new
by_link_more links prospects i lists new so_far keep this = record {
  each = keep.each ∙ so_far.each;
  at = λ k link h j. elim (eqb_tells k i) [
    | inl e ↦ subst (λ n. Contains (pairs_at new link.0) n) (sym e.1) (this link (subst (λ n. Contains (get_or prospects n no_prospect).links link) e.1 j))
    | inr e ↦ keep.kept link.0 k (so_far.at k link (earlier i k h e.1) j)
  ];
}

pub by_home_none : (t : Network) (pairs : List Pair) (lists : List (List ℕ)) → length lists ≡ length t.loopbacks → AreByHome t pairs 0 lists
by_home_none t pairs lists each = record { each = each; at = λ k h. absurd (none_below k h) }

pub by_home_more : (t : Network) (pairs : List Pair) (i : ℕ) (lists new : List (List ℕ)) (at : ℕ) → at ≡ home_of t (get_or pairs i no_pair).site.0 →
    at < length lists → new ≡ set lists at (pairs_at lists at ++ i ∷ []) → AreByHome t pairs i lists → AreByHome t pairs (i + 1) new
by_home_more t pairs i lists new at is there e so_far = subst (AreByHome t pairs (i + 1)) (sym e) (record {
  each = (keeps lists at i there).each ∙ so_far.each;
  at = λ k h. elim (eqb_tells k i) [
    | inl q ↦
        subst (λ n. Contains (pairs_at (set lists at (pairs_at lists at ++ i ∷ [])) (home_of t (get_or pairs n no_pair).site.0)) n) (sym q.1)
        (subst (λ n. Contains (pairs_at (set lists at (pairs_at lists at ++ i ∷ [])) n) i) is (has_it lists at i there))
    | inr q ↦ (keeps lists at i there).kept (home_of t (get_or pairs k no_pair).site.0) k (so_far.at k (earlier i k h q.1))
  ];
})

-- 4. The links on the ways are those of the topology

abbrev pub AreThere : Type 0
AreThere = (wiring : Wiring) (view : View) (node to : ℕ) → JoinsNodes wiring → node < length wiring.loopbacks →
    All (λ l. l < length wiring.ends) (way_links wiring view node to)

pub links_there : (t : Network) (pairs : List Pair) (prospects : List Prospect) → AreThere → IsLawful t →
    All (λ (pair : Pair). pair.site.0 < length t.sites) pairs → AreFound t pairs (length pairs) prospects →
    All (λ (prospect : Prospect). All (λ (link : LinkNo). link.0 < length t.links) prospect.links) prospects
links_there t pairs prospects law lawful sites found = λ k d h.
    let below : k < length pairs = omega (arith, h, found.each) in
    subst (λ (prospect : Prospect). All (λ (link : LinkNo). link.0 < length t.links) prospect.links) (get_or_default prospects k no_prospect d h)
    (each (get_or pairs k no_pair) (get_or prospects k no_prospect) (sites k no_pair below) (found.at k below))
  where
    each : (pair : Pair) (prospect : Prospect) → pair.site.0 < length t.sites → IsFor t (edges t) pair prospect →
        All (λ (link : LinkNo). link.0 < length t.links) prospect.links
    each pair prospect site is = λ k d h.
        let link = get_or prospect.links k d in
        let i : In (links_between t (home_of t pair.site.0) prospect.candidates) link.0 =
        subst (λ (xs : List ℕ). In xs link.0) is.links
        (map_in (λ (l : LinkNo). l.0) prospect.links link (in_contained prospect.links link (Contains-get_or prospect.links k d h))) in
        let c = in_flat_map (links_towards t (home_of t pair.site.0)) prospect.candidates link.0 i in
        All-contains (λ l. l < length t.links) (links_towards t (home_of t pair.site.0) c.0) link.0
        (law (wiring_of t) (all_up t) (home_of t pair.site.0) c.0.route.edge.0 lawful.joins_nodes (home_there t pair.site.0 lawful site))
        (contained_in (links_towards t (home_of t pair.site.0) c.0) link.0 c.2)
