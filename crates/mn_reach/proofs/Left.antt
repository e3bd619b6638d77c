-- What is left of a topology, as the ways have it.
use Rattle.std.proofs.Common.{ℕ, ◌≡◌, ◌<◌, Bool, true, false, List, map, length, get_or, refl, arith, sym, ◌∙◌, ap, subst}
use Rattle.std.proofs.Common.{Option, None, Some}
use Rattle.std.specs.Prelude.{◌==◌, ◌&&◌, ◌||◌, not, is_some, option_map}
use Rattle.std.specs.List.{range_with_len}
use Rattle.std.proofs.lemmas.List.{get_or_default}
use Rattle.std.proofs.lemmas.List.FromFn.{fill_by_all}
use Rattle.mn_base.proofs.Members.{In, in_contained, in_filter, in_range}
use Rattle.mn_base.specs.declared.numbers.NodeNo.{NodeNo}
use Rattle.mn_wiring.specs.Wiring.{is_up}
use Rattle.mn_wiring.specs.Paths.{dist_in, dists_to}
use Rattle.mn_topo.specs.Network.{Network, wiring_of}
use Rattle.mn_topo.specs.Lawful.{IsLawful}
use Rattle.mn_topo.specs.VrfTable.{is_edge}
use Rattle.mn_ledger.specs.Places.{edges}
use Rattle.mn_ledger.specs.World.{Config}
use Rattle.mn_reach_laws.specs.Fates.{up_links, lsp, is_reached}
use Rattle.mn_reach_laws.specs.Candidates.{is_told}
use Rattle.mn_failure_laws.specs.Failures.{config_under, links_lead, have_session, is_session_off}
use Rattle.mn_failure_laws.proofs.Left.{left}
use Rattle.mn_candidates.specs.declared.pairs.Pair.{Pair}
use Rattle.mn_way.specs.Way.{label_path}
use Rattle.mn_way.specs.Switched.{Switched, IsOver, edge_at}
use Rattle.mn_way_laws.specs.Paths as paths
use Rattle.mn_way_laws.specs.Paths.{ldp_links}
use Rattle.mn_reach.specs.declared.plan.Candidate.{Candidate}
use Rattle.mn_reach.specs.declared.plan.Prospect.{Prospect}
use Rattle.mn_reach.specs.Plans.{IsOf, IsPlaced, held_in}
use Rattle.mn_reach.specs.Reaching.{Reaching, IsKept, failure_of}

-- 1. Switches

twice_not : (b : Bool) → not (not b) ≡ b
twice_not true = refl
twice_not false = refl

pub switches : (xs : List Bool) (n : ℕ) → length xs ≡ n → map (λ l. not (not (is_up xs l))) (range_with_len 0 n) ≡ xs
switches xs n e = sym (fill_by_all (λ l. not (not (is_up xs l))) xs n false e (λ k h. sym (twice_not (is_up xs k))))

-- the value goes by the ways
pub record Agrees (r : Reaching) (ways : Switched) : Type 0 where
  pub nodes : ways.nodes ≡ r.plan.nodes
  pub ends : ways.ends ≡ r.plan.links
  pub edges : ways.edges ≡ r.plan.edges
  pub up : ways.up ≡ r.up
  pub ldp : ways.ldp ≡ r.ldp
  pub sound : ways.failed ≡ r.failed
  pub up_each : length r.up ≡ length r.plan.links
  pub ldp_each : length r.ldp ≡ length r.plan.links

abbrev pub seen : Switched → List Pair → List Prospect → List (List ℕ) → List (List ℕ) → List Bool → List Bool → List (NodeNo × NodeNo) → Bool → Reaching
seen ways pairs prospects by_link by_home up ldp ended ends = record {
  plan = record {
    nodes = ways.nodes;
    links = ways.ends;
    edges = ways.edges;
    pairs = pairs;
    prospects = prospects;
    by_link = by_link;
    by_home = by_home;
  };
  up = up;
  ldp = ldp;
  ended = ended;
  ends = ends;
  failed = ways.failed;
}

pub agrees : (r : Reaching) (ways : Switched) (pairs : List Pair) (prospects : List Prospect) (by_link by_home : List (List ℕ)) (up ldp : List Bool)
    (ended : List (NodeNo × NodeNo)) (ends : Bool)
    → r ≡ seen ways pairs prospects by_link by_home up ldp ended ends → IsKept ways up ldp → Agrees r ways
agrees r ways pairs prospects by_link by_home up ldp ended ends e kept = subst (λ s. Agrees s ways) (sym e) (record {
  nodes = refl;
  ends = refl;
  edges = refl;
  up = sym kept.ups;
  ldp = sym kept.switches;
  sound = refl;
  up_each = kept.up_each;
  ldp_each = kept.ldp_each;
})

-- 2. Links and label switched paths under what has failed

abbrev pub Paths : Type 0
Paths = (topology : Network) (config : Config) (switched : Switched) (node to : ℕ) → IsLawful topology → paths.IsOf topology config switched →
    node < length topology.loopbacks → label_path (wiring_of topology) switched.up switched.ldp node to ≡ lsp topology config node to

pub edge_below : (t : Network) (edge : ℕ) → In (edges t) edge → edge < length t.loopbacks
edge_below t edge i =
    let r = in_range 0 (length t.loopbacks) edge (in_filter (λ node. is_edge t.vrfs node) (range_with_len 0 (length t.loopbacks)) edge i).0 in
    omega (arith, r.1)

pub placed_below : (t : Network) (es : List ℕ) (c : Candidate) → es ≡ edges t → IsPlaced es c → c.route.edge.0 < length t.loopbacks
placed_below t es c e placed =
    edge_below t c.route.edge.0 (subst (λ xs. In xs c.route.edge.0) e
    (in_contained es c.route.edge.0 (c.place, placed.place, default es c.place 0 c.route.edge.0 placed.place ∙ placed.edge)))
  where
    default : (xs : List ℕ) (k d e : ℕ) → k < length xs → get_or xs k e ≡ get_or xs k d
    default xs k d e h = get_or_default xs k e d h

module _ (t : Network) (r : Reaching) (of : IsOf t r.plan) where
  abbrev pub now : Config
  now = config_under t (failure_of r)

  module _ (up_each : length r.up ≡ length r.plan.links) (ldp_each : length r.ldp ≡ length r.plan.links) where
    pub same_up : up_links t now ≡ r.up
    same_up = switches r.up (length t.links) (up_each ∙ ap (λ ls. length ls) of.links)

    pub same_ldp : ldp_links t now ≡ r.ldp
    same_ldp = switches r.ldp (length t.links) (ldp_each ∙ ap (λ ls. length ls) of.links)

  module _ (ways : Switched) (a : Agrees r ways) where
    pub over : IsOver (wiring_of t) ways
    over = record { nodes = sym (a.nodes ∙ of.nodes); ends = sym (a.ends ∙ of.links) }

    is_of : paths.IsOf t now ways
    is_of = record {
      over = over;
      up = a.up ∙ sym (same_up a.up_each a.ldp_each);
      ldp = a.ldp ∙ sym (same_ldp a.up_each a.ldp_each);
    }

    module _ (home : ℕ) (here : home < r.plan.nodes) (c : Candidate) (placed : IsPlaced r.plan.edges c) where
      edge_is : edge_at ways c.place ≡ c.route.edge.0
      edge_is = ap (λ es. get_or es c.place 0) a.edges ∙ placed.edge

      home_below : home < length t.loopbacks
      home_below = subst (λ n. home < n) of.nodes here

      below : c.route.edge.0 < length t.loopbacks
      below = placed_below t r.plan.edges c of.edges placed

      pub path_is : Paths → label_path (wiring_of t) ways.up ways.ldp home (edge_at ways c.place) ≡ lsp t now home c.route.edge.0
      path_is law =
          ap (label_path (wiring_of t) ways.up ways.ldp home) edge_is ∙ law t now ways home c.route.edge.0 of.lawful is_of home_below

      joined_is : is_some (dist_in (dists_to (wiring_of t) ways.up (edge_at ways c.place)) home) ≡ links_lead t (failure_of r) home c.route.edge.0
      joined_is =
          ap (λ e. is_some (dist_in (dists_to (wiring_of t) ways.up e) home)) edge_is
          ∙ ap (λ view. is_some (dist_in (dists_to (wiring_of t) view c.route.edge.0) home)) is_of.up

      told_as : is_told now home (held_in c) ≡ ((c.route.edge.0 == home) || have_session t (failure_of r) home c.route.edge.0)
      told_as = (left t (failure_of r) of.lawful).told home (held_in c) home_below below

      -- where sessions end between edges that no links join
      pub told_joined : (off result : Bool) → (c.route.edge.0 == home) ≡ false → off ≡ is_session_off (failure_of r) home c.route.edge.0 → off ≡ false →
          r.ends ≡ true → result ≡ is_some (dist_in (dists_to (wiring_of t) ways.up (edge_at ways c.place)) home) → result ≡ is_told now home (held_in c)
      told_joined off result e is ended ends so = so ∙ joined_is ∙ sym
          (told_as ∙ ap (λ b. b || have_session t (failure_of r) home c.route.edge.0) e
          ∙ ap (λ b. not b && (not r.ends || links_lead t (failure_of r) home c.route.edge.0)) (sym is ∙ ended)
          ∙ ap (λ b. not b || links_lead t (failure_of r) home c.route.edge.0) ends)

      pub reached_is : Paths → is_some (option_map (λ (ns : List ℕ). length ns) (label_path (wiring_of t) ways.up ways.ldp home (edge_at ways c.place)))
          ≡ is_reached t now home (held_in c)
      reached_is law = counted (label_path (wiring_of t) ways.up ways.ldp home (edge_at ways c.place)) ∙ ap (λ (o : Option (List ℕ)). is_some o) (path_is law)
        where
          counted : (o : Option (List ℕ)) → is_some (option_map (λ (ns : List ℕ). length ns) o) ≡ is_some o
          counted None = refl
          counted (Some ns) = refl
