-- What the ledger says of one edge, as that edge has it: with labels for attachments, and distinguishers for VRFs.
use Rattle.std.specs.Prelude.{ℕ, ◌==◌, if◌then◌else◌, List, [], map, filter, fold, length, Option, Some, None, option_map}
use Rattle.std.specs.List.{range_with_len}
use Rattle.mn_base.specs.Ordered.{with_one}
use Rattle.mn_wiring.specs.Wiring.{nodes_of}
use Rattle.mn_topo.specs.Network.{Network, wiring_of}
use Rattle.mn_topo.specs.declared.sites.SiteDef.{SiteDef}
use Rattle.mn_bgp_wire.specs.Says.{Says}
use Rattle.mn_bgp_wire.specs.Written.{says_announced, says_withdrawn}
use Rattle.mn_ledger.specs.Places.{loopback, vrf_at, vrf_of, vrfs_at, home_of}
use Rattle.mn_ledger.specs.World.{SiteRoute, Config, Telling, Announcement, Withdrawal, Peerings}
use Rattle.mn_ledger.specs.Bgp.{peers_live}
use Rattle.mn_ledger.specs.Held.{heard_of}
use Rattle.mn_bgp_spelling_laws.specs.Spelling.{Labels, as_targets, route_of}
use Rattle.mn_rib_in.specs.Heard.{Heard}
use Rattle.mn_vrf.specs.Vrf.{Static, VrfState, static_before}
use Rattle.mn_pe.specs.Edge.{Edge, heard_after}

abbrev pub static_of : SiteRoute → Static
static_of static = record { prefix = static.prefix; site = static.site }

abbrev pub in_order : List Static → List Static
in_order statics = fold (λ kept static. with_one static_before static kept) [] statics

abbrev pub statics_in : Network → Config → ℕ → List Static
statics_in topology config v = in_order (map static_of (filter (λ static. vrf_of topology static.site == v) config.statics))

abbrev pub vrf_in : Network → Config → ℕ → VrfState
vrf_in topology config v = record {
  number = v;
  rd = (vrf_at topology v).rd;
  statics = statics_in topology config v;
  imports = as_targets (config.imports v);
  exports = as_targets (config.exports v);
}

-- the label of the site's present attachment, at its edge
abbrev pub site_label_now : Network → Labels → Config → ℕ → ℕ → Option ℕ
site_label_now topology labels config edge site = if home_of topology site == edge then option_map (labels site) (config.attached site) else None

-- what the UPDATE of an edge says that tells this
abbrev pub says_of : Network → Labels → ℕ → Telling → Option Says
says_of topology labels teller (Announcement export) = Some (says_announced (loopback topology teller) (route_of topology labels export)
    (as_targets export.targets))
says_of topology labels teller (Withdrawal v prefix) = Some (says_withdrawn (vrf_at topology v).rd prefix)
says_of topology labels teller _ = None

abbrev pub heard_if : List Heard → Option Says → List Heard
heard_if heard None = heard
heard_if heard (Some says) = heard_after heard says

-- after these were received from a peer
abbrev pub heard_from : Network → Labels → ℕ → List Telling → List Heard
heard_from topology labels peer tellings = fold (λ heard telling. heard_if heard (says_of topology labels peer telling)) [] tellings

abbrev pub heard_live : Network → Labels → Config → Peerings → ℕ → ℕ → List Heard
heard_live topology labels config peerings edge peer = if peers_live config edge peer then heard_from topology labels peer (heard_of peerings edge peer) else []

-- what an edge has received from a peer in the session's present life; it is no peer of its own
abbrev pub heard_in : Network → Labels → Config → Peerings → ℕ → ℕ → List Heard
heard_in topology labels config peerings edge peer = if peer == edge then [] else heard_live topology labels config peerings edge peer

-- the edge
abbrev pub edge_in : Network → Labels → Config → Peerings → ℕ → Edge
edge_in topology labels config peerings edge = record {
  vrfs = map (vrf_in topology config) (vrfs_at topology edge);
  sites = map (λ (def : SiteDef). def.vrf) topology.sites;
  labels = map (site_label_now topology labels config edge) (range_with_len 0 (length topology.sites));
  loopbacks = topology.loopbacks;
  heard = map (heard_in topology labels config peerings edge) (nodes_of (wiring_of topology));
}
