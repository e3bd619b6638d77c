-- What the steps of one edge make of what is kept.
use Rattle.std.specs.Prelude.{◌≡◌, ◌<◌, ◌^◌, ◌+◌, ◌-◌, ℕ, Bool, true, false, List, length, slice_index_or, slice_set, None}
use Rattle.mn_base.specs.declared.numbers.Rt.{Rt}
use Rattle.mn_base.specs.declared.numbers.VrfNo.{VrfNo}
use Rattle.mn_base.specs.declared.numbers.SiteNo.{SiteNo}
use Rattle.mn_prefix.specs.Prefix.{AddressBlock}
use Rattle.mn_ledger.specs.Places.{edge_of, home_of}
use Rattle.mn_vrf.specs.Vrf.{VrfState, add_refused, del_refused, set_refused}
use Rattle.mn_pe.specs.Edge.{Edge, vrf_of_site, after_attach, after_detach}
use Rattle.mn_pe.specs.Held.{Exported}
use Rattle.mn_pe.specs.Pe.{found_in}
use Rattle.mn_pe.specs.Exports.{exports_at, exports_over, export_of}
use Rattle.mn_edges.specs.Changes.{those_of}
use Rattle.mn_edges.specs.Changes as edges
use Rattle.mn_edges.specs.Said.{AreSayable}
use Rattle.mn_reflect_world_laws.specs.Now.{ReflectNow}
use Rattle.mn_reflect_world_laws.specs.Letters.{edge_news}
use Rattle.mn_reflect_world_laws.specs.Goes.{steady_of, edge_of_node, either_news}
use Rattle.mn_reflect.specs.Doing.{with_letters, changed_edge, IsEdgeAt}

-- an edge tells its peers of exports that come or go
abbrev pub told_peers : ℕ → Bool → List Exported → ReflectNow → ReflectNow
told_peers node comes exports now = with_letters (edge_news now.topology node (steady_of now.sessions node) comes exports) now

-- 1. Targets

abbrev pub imports_changed : VrfNo → Rt → Bool → Edge → Edge
imports_changed v target on edge = edges.import_set edge v target on

abbrev pub exports_changed : VrfNo → Rt → Bool → Edge → Edge
exports_changed v target on edge = edges.export_set edge v target on

pub record MayImport (now : ReflectNow) (v : VrfNo) (target : Rt) (on : Bool) : Type 0 where
  pub vrf : v.0 < length now.topology.vrfs
  pub there : IsEdgeAt now (edge_of now.topology v.0)
  pub free : found_in v.0 (λ (vrf : VrfState). set_refused target on vrf.imports) (edge_of_node now.edges (edge_of now.topology v.0)).vrfs ≡ None

pub record MayExport (now : ReflectNow) (v : VrfNo) (target : Rt) (on : Bool) : Type 0 where
  pub vrf : v.0 < length now.topology.vrfs
  pub there : IsEdgeAt now (edge_of now.topology v.0)
  pub free : found_in v.0 (λ (vrf : VrfState). set_refused target on vrf.exports) (edge_of_node now.edges (edge_of now.topology v.0)).vrfs ≡ None
  pub came : AreSayable (exports_at (exports_changed v target on (edge_of_node now.edges (edge_of now.topology v.0))) v.0)
  pub went : AreSayable (exports_at (edge_of_node now.edges (edge_of now.topology v.0)) v.0)

abbrev pub import_set : VrfNo → Rt → Bool → ReflectNow → ReflectNow
import_set v target on now = changed_edge (edge_of now.topology v.0) (imports_changed v target on) now

abbrev pub export_set : VrfNo → Rt → Bool → ReflectNow → ReflectNow
export_set v target on now =
    let home : ℕ = edge_of now.topology v.0 in
    let was : Edge = edge_of_node now.edges home in
    with_letters (either_news now.topology home (steady_of now.sessions home) (exports_at (exports_changed v target on was) v.0) (exports_at was v.0))
    (changed_edge home (exports_changed v target on) now)

-- 2. Statics

abbrev pub with_route : SiteNo → AddressBlock → Edge → Edge
with_route site prefix edge = edges.static_added edge site prefix

abbrev pub without_route : SiteNo → AddressBlock → Edge → Edge
without_route site prefix edge = edges.static_deleted edge site prefix

pub record MayAdd (now : ReflectNow) (site : SiteNo) (prefix : AddressBlock) : Type 0 where
  pub within : site.0 < length now.topology.sites
  pub there : IsEdgeAt now (home_of now.topology site.0)
  pub few : now.statics < 65536
  pub free : found_in (vrf_of_site (edge_of_node now.edges (home_of now.topology site.0)) site.0) (λ (vrf : VrfState). add_refused prefix vrf)
      (edge_of_node now.edges (home_of now.topology site.0)).vrfs ≡ None
  pub came : AreSayable (those_of (export_of (with_route site prefix (edge_of_node now.edges (home_of now.topology site.0))) site.0 prefix))

pub record MayDel (now : ReflectNow) (site : SiteNo) (prefix : AddressBlock) : Type 0 where
  pub within : site.0 < length now.topology.sites
  pub there : IsEdgeAt now (home_of now.topology site.0)
  pub some : 0 < now.statics
  pub free : found_in (vrf_of_site (edge_of_node now.edges (home_of now.topology site.0)) site.0) (λ (vrf : VrfState). del_refused prefix site.0 vrf)
      (edge_of_node now.edges (home_of now.topology site.0)).vrfs ≡ None
  pub went : AreSayable (those_of (export_of (edge_of_node now.edges (home_of now.topology site.0)) site.0 prefix))

abbrev pub route_added : SiteNo → AddressBlock → ReflectNow → ReflectNow
route_added site prefix now =
    let home : ℕ = home_of now.topology site.0 in
    told_peers home true (those_of (export_of (with_route site prefix (edge_of_node now.edges home)) site.0 prefix))
    (record (changed_edge home (with_route site prefix) now) { statics = now.statics + 1 })

abbrev pub route_deleted : SiteNo → AddressBlock → ReflectNow → ReflectNow
route_deleted site prefix now =
    let home : ℕ = home_of now.topology site.0 in
    told_peers home false (those_of (export_of (edge_of_node now.edges home) site.0 prefix))
    (record (changed_edge home (without_route site prefix) now) { statics = now.statics - 1 })

-- 3. Attachments

abbrev pub next_label : ReflectNow → SiteNo → ℕ
next_label now site = 16 + slice_index_or now.attachments (home_of now.topology site.0) 0

pub record MayAttach (now : ReflectNow) (site : SiteNo) : Type 0 where
  pub within : site.0 < length now.topology.sites
  pub there : IsEdgeAt now (home_of now.topology site.0)
  pub label : next_label now site < 2 ^ 20
  pub came : AreSayable (exports_over (after_attach (edge_of_node now.edges (home_of now.topology site.0)) site.0 (next_label now site)) site.0)

pub record MayDetach (now : ReflectNow) (site : SiteNo) : Type 0 where
  pub within : site.0 < length now.topology.sites
  pub there : IsEdgeAt now (home_of now.topology site.0)
  pub went : AreSayable (exports_over (edge_of_node now.edges (home_of now.topology site.0)) site.0)

abbrev pub site_attached : SiteNo → ReflectNow → ReflectNow
site_attached site now =
    let home : ℕ = home_of now.topology site.0 in
    told_peers home true (exports_over (after_attach (edge_of_node now.edges home) site.0 (next_label now site)) site.0)
    (record (changed_edge home (λ edge. after_attach edge site.0 (next_label now site)) now) {
      attachments = slice_set now.attachments home (slice_index_or now.attachments home 0 + 1);
    })

abbrev pub site_detached : SiteNo → ReflectNow → ReflectNow
site_detached site now =
    let home : ℕ = home_of now.topology site.0 in
    told_peers home false (exports_over (edge_of_node now.edges home) site.0) (changed_edge home (λ edge. after_detach edge site.0) now)
