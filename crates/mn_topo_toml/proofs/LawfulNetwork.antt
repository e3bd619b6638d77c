-- A topology that is read is lawful.
use Rattle.std.proofs.Common.{◌≡◌, ◌≤◌, ◌+◌, ℕ, arith, length, length-append, ◌||◌, List, [], ◌∷◌, None, is_none, codes, Result, Ok, Err, refl, sym, subst}
use Rattle.std.specs.List.{IsDistinct}
use Rattle.std.proofs.lemmas.Bool.{ltb-false, or_parts}
use Rattle.toml.specs.Data.{Members}
use Rattle.mn_wiring.specs.declared.links.LinkEnds.{LinkEnds}
use Rattle.mn_topo_toml.specs.declared.refusal.TopoRule.{TopoRule}
use Rattle.mn_topo_toml.specs.declared.refusal.TopoRule.TheVariants.{UnknownKey, WrongKind, TooMany}
use Rattle.mn_topo_toml.specs.declared.refusal.Place.{Place}
use Rattle.mn_topo_toml.specs.declared.refusal.Place.TheVariants.{Top}
use Rattle.mn_topo_toml.specs.Tables.{has_unknown_key, tables_at}
use Rattle.mn_topo_toml.specs.Rules.{broken}
use Rattle.mn_topo.specs.Nodes.{NodeTable, no_nodes}
use Rattle.mn_topo_toml.specs.Nodes.{nodes_from}
use Rattle.mn_topo_toml.specs.Links.{links_from}
use Rattle.mn_topo.specs.VrfTable.{VrfTable, no_vrfs}
use Rattle.mn_topo_toml.specs.Vrfs.{vrfs_from}
use Rattle.mn_topo.specs.SiteTable.{SiteTable, no_sites}
use Rattle.mn_topo_toml.specs.Sites.{sites_from}
use Rattle.mn_topo.specs.Network.{Network}
use Rattle.mn_topo_toml.specs.Topology.{top_keys, resolve_at, has_wrong_number, has_wrong_figure, has_wrong_array, has_too_many, top_rule, network_with, ◌>>=◌}
use Rattle.mn_topo_toml.specs.Topology.{arrays_of, network_of}
use Rattle.mn_topo.specs.Lawful.{AreNames, AreNodes, AreLinks, AreVrfs, AreSites, IsLawful}
use Rattle.mn_topo_toml.proofs.LawfulEntries.{all_kept, kept, reads_on, kept_in_turn, counted_in_turn, node_step, nodes_in_turn}
use Rattle.mn_topo_toml.proofs.LawfulLinks.{number_within, link_step, links_in_turn}
use Rattle.mn_topo_toml.proofs.LawfulVrfs.{vrf_step, vrfs_in_turn}
use Rattle.mn_topo_toml.proofs.LawfulSites.{site_step, sites_in_turn}
use Rattle.mn_topo.proofs.Wirings.{joins_nodes, ends_differ, joins_once}

no_names : AreNames []
unfolding IsDistinct
no_names = record { formed = refl; distinct = tt }

nodes_begin : AreNodes no_nodes
unfolding IsDistinct
nodes_begin = record { named = no_names; each = refl; formed = refl; distinct = tt }

links_begin : (nodes : ℕ) → AreLinks nodes []
unfolding IsDistinct
links_begin nodes = record { joining = refl; once = tt; figures = refl }

vrfs_begin : (nodes : ℕ) → AreVrfs nodes no_vrfs
unfolding IsDistinct
vrfs_begin nodes = record { named = no_names; each = refl; formed = refl; distinct = tt; targets = tt; few_edges = omega arith }

sites_begin : (vrfs : ℕ) → AreSites vrfs no_sites
unfolding IsDistinct
sites_begin vrfs = record { named = no_names; each = refl; placed = refl; formed = refl; distinct = tt; few_prefixes = omega arith }

-- what is read first, where the whole is read
first_read : {A B : Type 0} (read : Result A (TopoRule × Place)) (rest : A → Result B (TopoRule × Place)) (value : B) → (read >>= rest) ≡ Ok value →
    (x : A) × ((read ≡ Ok x) × (rest x ≡ Ok value))
first_read (Ok x) rest value h = (x, (refl, h))
first_read (Err refused) rest value h = cc

-- the arrays of a top table that breaks no rule
parts_lawful : (top : Members) (nodes : NodeTable) (links : List LinkEnds) (vrfs : VrfTable) (sites : SiteTable) → top_rule top ≡ None
    → nodes_from (tables_at (codes "node") top) no_nodes ≡ Ok nodes
    → links_from nodes.names (tables_at (codes "link") top) [] ≡ Ok links
    → vrfs_from nodes.names (tables_at (codes "vrf") top) no_vrfs ≡ Ok vrfs
    → sites_from vrfs.names (tables_at (codes "site") top) no_sites ≡ Ok sites
    → IsLawful (network_with top nodes links vrfs sites)
unfolding top_rule
parts_lawful top nodes links vrfs sites lawful n l v s =
    let all =
    all_kept (broken (has_unknown_key top_keys top) UnknownKey ∷ broken (has_wrong_figure top || has_wrong_array top) WrongKind
    ∷ broken (has_too_many top) TooMany ∷ []) lawful in
    let values = or_parts (has_wrong_figure top) (has_wrong_array top) (kept _ WrongKind all.1.0) in
    let numbers = or_parts _ _ (or_parts (has_wrong_number top) (is_none (resolve_at top)) values.0).0 in
    let delays = or_parts _ _ numbers.0 in
    let counts = or_parts _ _ (kept (has_too_many top) TooMany all.1.1.0) in
    let three = or_parts _ _ counts.0 in
    let two = or_parts _ _ three.0 in
    let are_nodes = kept_in_turn nodes_in_turn AreNodes node_step (tables_at (codes "node") top) no_nodes nodes n nodes_begin in
    let are_links = kept_in_turn (links_in_turn nodes.names) (AreLinks (length nodes.names)) (link_step nodes.names) (tables_at (codes "link") top) [] links l
    (links_begin (length nodes.names)) in
    let are_vrfs = kept_in_turn (vrfs_in_turn nodes.names) (AreVrfs (length nodes.names)) (vrf_step nodes.names) (tables_at (codes "vrf") top) no_vrfs vrfs v
    (vrfs_begin (length nodes.names)) in
    let are_sites = kept_in_turn (sites_in_turn vrfs.names) (AreSites (length vrfs.names)) (site_step vrfs.names) (tables_at (codes "site") top) no_sites sites
    s (sites_begin (length vrfs.names)) in
    let joined : AreLinks (length nodes.loopbacks) links = subst (λ (count : ℕ). AreLinks count links) (sym are_nodes.each) are_links in
    let node_most : length (tables_at (codes "node") top) ≤ 256 = ltb-false _ _ two.0 in
    let link_most : length (tables_at (codes "link") top) ≤ 1024 = ltb-false _ _ two.1 in
    let vrf_most : length (tables_at (codes "vrf") top) ≤ 512 = ltb-false _ _ three.1 in
    let site_most : length (tables_at (codes "site") top) ≤ 4096 = ltb-false _ _ counts.1 in
    let node_count : length nodes.names ≡ 0 + length (tables_at (codes "node") top) =
    counted_in_turn nodes_in_turn (λ earlier. length earlier.names) (λ earlier entry. rw length-append refl) _ no_nodes nodes n in
    let link_count : length links ≡ 0 + length (tables_at (codes "link") top) =
    counted_in_turn (links_in_turn nodes.names) (λ earlier. length earlier) (λ earlier entry. rw length-append refl) _ [] links l in
    let vrf_count : length vrfs.vrfs ≡ 0 + length (tables_at (codes "vrf") top) =
    counted_in_turn (vrfs_in_turn nodes.names) (λ earlier. length earlier.vrfs) (λ earlier entry. rw length-append refl) _ no_vrfs vrfs v in
    let site_count : length sites.sites ≡ 0 + length (tables_at (codes "site") top) =
    counted_in_turn (sites_in_turn vrfs.names) (λ earlier. length earlier.sites) (λ earlier entry. rw length-append refl) _ no_sites sites s in
    record {
      asn = number_within (codes "as") 1 65535 65000 top refl delays.0;
      notice_delay = number_within (codes "notice_delay") 1 1000 1 top refl delays.1;
      bgp_delay = number_within (codes "bgp_delay") 1 1000 1 top refl numbers.1;
      few_nodes = rw are_nodes.each (omega (arith, node_most, node_count));
      few_links = omega (arith, link_most, link_count);
      few_vrfs = omega (arith, vrf_most, vrf_count);
      few_sites = omega (arith, site_most, site_count);
      nodes = are_nodes;
      links = joined;
      vrfs = subst (λ (count : ℕ). AreVrfs count vrfs) (sym are_nodes.each) are_vrfs;
      sites = subst (λ (count : ℕ). AreSites count sites) (sym are_vrfs.each) are_sites;
      joins_nodes = joins_nodes (record { loopbacks = nodes.loopbacks; ends = links }) joined;
      ends_differ = ends_differ (record { loopbacks = nodes.loopbacks; ends = links }) joined;
      joins_once = joins_once (record { loopbacks = nodes.loopbacks; ends = links }) joined;
    }

pub network_lawful : (top : Members) (network : Network) → network_of top ≡ Ok network → IsLawful network
unfolding network_of
network_lawful top network h =
    let on = reads_on (top_rule top) Top (arrays_of top) network h in
    let n = first_read _ _ network on.1 in
    let l = first_read _ _ network n.1.1 in
    let v = first_read _ _ network l.1.1 in
    let s = first_read _ _ network v.1.1 in
    let same : network_with top n.0 l.0 v.0 s.0 ≡ network = cc (s.1.1) in
    subst IsLawful same (parts_lawful top n.0 l.0 v.0 s.0 on.0 n.1.0 l.1.0 v.1.0 s.1.0)
