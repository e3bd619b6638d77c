-- The three networks are lawful.
use Rattle.std.proofs.Common.{ℕ, ◌≡◌, ◌≤◌, true, arith, List, [], ◌∷◌, length, refl}
use Rattle.std.specs.Prelude.{◌==◌, nat_lt, codes}
use Rattle.std.specs.List.{list_all, IsDistinct}
use Rattle.std.specs.Str.{bytes_eq}
use Rattle.mn_base.specs.declared.numbers.Rt.{Rt}
use Rattle.mn_wiring.specs.Wiring.{Wiring}
use Rattle.mn_wiring.specs.declared.links.LinkEnds.{LinkEnds}
use Rattle.mn_wiring.specs.Limits.{most_static_routes}
use Rattle.mn_topo.specs.Tables.{is_name}
use Rattle.mn_topo.specs.Nodes.{NodeTable, is_loopback}
use Rattle.mn_topo.specs.VrfTable.{VrfTable, edges_of}
use Rattle.mn_topo.specs.Lawful.{AreNodes, AreLinks, AreTargets, AreVrfs, AreSites, IsLawful, is_vrf_of, same_static}
use Rattle.mn_topo.proofs.Wirings.{joins_nodes, ends_differ, joins_once}
use Rattle.mn_topo.specs.SiteTable.{SiteTable, no_sites, statics_of, is_lawful_prefix}
use Rattle.mn_test_nets.specs.Entries.{target, vrf_with}
use Rattle.mn_test_nets.specs.Nets.{network_with, row_nodes, row_links, row_vrfs, row_sites, row_net, pair_nodes, pair_links, pair_vrfs, pair_sites, pair_net}
use Rattle.mn_test_nets.specs.Nets.{star_nodes, star_links, star_vrfs, star_net}

-- a few lawful tables make a lawful topology
lawful : (nodes : NodeTable) (links : List LinkEnds) (vrfs : VrfTable) (sites : SiteTable) → length nodes.loopbacks ≤ 4 → length links ≤ 4
    → length vrfs.vrfs ≤ 4 → length sites.sites ≤ 4 → AreNodes nodes → AreLinks (length nodes.loopbacks) links → AreVrfs (length nodes.loopbacks) vrfs
    → AreSites (length vrfs.vrfs) sites → IsLawful (network_with nodes links vrfs sites)
lawful nodes links vrfs sites few_nodes few_links few_vrfs few_sites are_nodes are_links are_vrfs are_sites =
    let wiring : Wiring = record { loopbacks = nodes.loopbacks; ends = links } in
    record {
      asn = refl;
      notice_delay = refl;
      bgp_delay = refl;
      few_nodes = omega (arith, few_nodes);
      few_links = omega (arith, few_links);
      few_vrfs = omega (arith, few_vrfs);
      few_sites = omega (arith, few_sites);
      nodes = are_nodes;
      links = are_links;
      vrfs = are_vrfs;
      sites = are_sites;
      joins_nodes = joins_nodes wiring are_links;
      ends_differ = ends_differ wiring are_links;
      joins_once = joins_once wiring are_links;
    }

-- nodes by what is computed of them, and by what tells their names and loopbacks apart
are_nodes : (nodes : NodeTable) → list_all is_name nodes.names ≡ true → length nodes.loopbacks ≡ length nodes.names
    → list_all is_loopback nodes.loopbacks ≡ true → IsDistinct bytes_eq nodes.names → IsDistinct (λ one other. one == other) nodes.loopbacks → AreNodes nodes
are_nodes nodes well_named each formed names loopbacks =
    record { named = record { formed = well_named; distinct = names }; each = each; formed = formed; distinct = loopbacks }

-- and sites, by what tells their names and prefixes apart
are_sites : (vrfs : ℕ) (sites : SiteTable) → list_all is_name sites.names ≡ true → length sites.sites ≡ length sites.names
    → list_all (λ site. nat_lt site.vrf.0 vrfs) sites.sites ≡ true → list_all (λ static. is_lawful_prefix static.1) (statics_of sites.sites) ≡ true
    → length (statics_of sites.sites) ≤ most_static_routes → IsDistinct bytes_eq sites.names → IsDistinct same_static (statics_of sites.sites) →
    AreSites vrfs sites
are_sites vrfs sites well_named each placed formed few names prefixes = record {
  named = record { formed = well_named; distinct = names };
  each = each;
  placed = placed;
  formed = formed;
  distinct = prefixes;
  few_prefixes = few;
}

-- the VRFs red1 and red2 at two nodes, with the same targets
reds : (nodes : ℕ) (targets : List Rt) (m n : ℕ) → AreTargets targets → list_all (is_vrf_of nodes) (vrf_with targets m 1 ∷ vrf_with targets n 2 ∷ []) ≡ true
    → length (edges_of (vrf_with targets m 1 ∷ vrf_with targets n 2 ∷ [])) ≤ 64
    → AreVrfs nodes (record { names = codes "red1" ∷ codes "red2" ∷ []; vrfs = vrf_with targets m 1 ∷ vrf_with targets n 2 ∷ [] })
unfolding IsDistinct
reds nodes targets m n are_targets formed few_edges = record {
  named = record { formed = refl; distinct = ((refl, tt), (tt, tt)) };
  each = refl;
  formed = formed;
  distinct = ((refl, tt), (tt, tt));
  targets = ((are_targets, are_targets), ((are_targets, are_targets), tt));
  few_edges = few_edges;
}

row_are_nodes : AreNodes row_nodes
unfolding IsDistinct
row_are_nodes = are_nodes row_nodes refl refl refl ((refl, (refl, tt)), ((refl, tt), (tt, tt))) ((refl, (refl, tt)), ((refl, tt), (tt, tt)))

row_are_links : AreLinks 3 row_links
unfolding IsDistinct
row_are_links = record { joining = refl; once = ((refl, tt), (tt, tt)); figures = refl }

one_target : AreTargets (target ∷ [])
unfolding IsDistinct
one_target = record { few = omega arith; formed = refl; distinct = (tt, tt) }

row_are_vrfs : AreVrfs 3 row_vrfs
row_are_vrfs = reds 3 (target ∷ []) 0 2 one_target refl (omega arith)

row_are_sites : AreSites 2 row_sites
unfolding IsDistinct
row_are_sites = are_sites 2 row_sites refl refl refl refl (omega arith) ((refl, tt), (tt, tt)) ((refl, tt), (tt, tt))

pub row_lawful : IsLawful row_net
row_lawful =
    lawful row_nodes row_links row_vrfs row_sites (omega arith) (omega arith) (omega arith) (omega arith) row_are_nodes row_are_links row_are_vrfs row_are_sites

pair_are_nodes : AreNodes pair_nodes
unfolding IsDistinct
pair_are_nodes = are_nodes pair_nodes refl refl refl ((refl, tt), (tt, tt)) ((refl, tt), (tt, tt))

pair_are_links : AreLinks 2 pair_links
unfolding IsDistinct
pair_are_links = record { joining = refl; once = (tt, tt); figures = refl }

no_target : AreTargets []
unfolding IsDistinct
no_target = record { few = omega arith; formed = refl; distinct = tt }

pair_are_vrfs : AreVrfs 2 pair_vrfs
pair_are_vrfs = reds 2 [] 0 1 no_target refl (omega arith)

pair_are_sites : AreSites 2 pair_sites
unfolding IsDistinct
pair_are_sites = are_sites 2 pair_sites refl refl refl refl (omega arith) ((refl, tt), (tt, tt)) tt

pub pair_lawful : IsLawful pair_net
pair_lawful =
    lawful pair_nodes pair_links pair_vrfs pair_sites (omega arith) (omega arith) (omega arith) (omega arith) pair_are_nodes pair_are_links pair_are_vrfs
    pair_are_sites

star_are_nodes : AreNodes star_nodes
unfolding IsDistinct
star_are_nodes =
    are_nodes star_nodes refl refl refl ((refl, (refl, (refl, tt))), ((refl, (refl, tt)), ((refl, tt), (tt, tt))))
    ((refl, (refl, (refl, tt))), ((refl, (refl, tt)), ((refl, tt), (tt, tt))))

star_are_links : AreLinks 4 star_links
unfolding IsDistinct
star_are_links = record { joining = refl; once = ((refl, (refl, tt)), ((refl, tt), (tt, tt))); figures = refl }

star_are_vrfs : AreVrfs 4 star_vrfs
unfolding IsDistinct
star_are_vrfs = record {
  named = record { formed = refl; distinct = ((refl, (refl, (refl, tt))), ((refl, (refl, tt)), ((refl, tt), (tt, tt)))) };
  each = refl;
  formed = refl;
  distinct = ((refl, (refl, (refl, tt))), ((refl, (refl, tt)), ((refl, tt), (tt, tt))));
  targets = ((no_target, no_target), ((no_target, no_target), ((no_target, no_target), ((no_target, no_target), tt))));
  few_edges = omega arith;
}

star_are_sites : AreSites 4 no_sites
unfolding IsDistinct
star_are_sites = are_sites 4 no_sites refl refl refl refl (omega arith) tt tt

pub star_lawful : IsLawful star_net
star_lawful =
    lawful star_nodes star_links star_vrfs no_sites (omega arith) (omega arith) (omega arith) (omega arith) star_are_nodes star_are_links star_are_vrfs
    star_are_sites
