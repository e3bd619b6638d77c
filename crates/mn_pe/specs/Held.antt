-- What an edge exports, and which routes its VRFs hold: RFC 4364, sections 4.3 and 5.
use Rattle.std.specs.Prelude.{ℕ, ◌==◌, ◌&&◌, not, List, [], ◌∷◌, ◌++◌, map, filter, slice_index_or, fold, Option, Some, None, length}
use Rattle.std.specs.List.{flat_map, range_with_len}
use Rattle.mn_base.specs.declared.numbers.Rd.{Rd}
use Rattle.mn_base.specs.declared.numbers.Rt.{Rt}
use Rattle.mn_prefix.specs.Prefix.{AddressBlock}
use Rattle.mn_base.specs.Ordered.{with_one}
use Rattle.mn_targets.specs.Targets.{meet}
use Rattle.mn_vrf.specs.declared.source.Source.{Source}
use Rattle.mn_vrf.specs.declared.source.Source.TheVariants.{Own, Near, Far}
use Rattle.mn_vrf.specs.Routes.{route_before}
use Rattle.mn_vrf.specs.Vrf.{Static, VrfState}
use Rattle.mn_pe.specs.Edge.{Edge, heard_of_peer}

-- a route that the edge advertises to its peers
pub record Exported : Type 0 where
  pub vrf : ℕ
  pub rd : Rd
  pub prefix : AddressBlock
  pub label : ℕ
  pub site : ℕ
  pub targets : List Rt

abbrev pub site_label : Edge → ℕ → Option ℕ
site_label edge site = slice_index_or edge.labels site None

abbrev pub export_at : VrfState → List Rt → Static → Option ℕ → List Exported
export_at vrf targets static None = []
export_at vrf targets static (Some label) =
    record { vrf = vrf.number; rd = vrf.rd; prefix = static.prefix; label = label; site = static.site; targets = targets } ∷ []

-- the VRF's statics of attached sites, with these targets
abbrev pub present_with : Edge → VrfState → List Rt → List Exported
present_with edge vrf targets = flat_map (λ static. export_at vrf targets static (site_label edge static.site)) vrf.statics

-- a VRF without an export target exports nothing
abbrev pub exports_with : Edge → VrfState → List Rt → List Exported
exports_with edge vrf [] = []
exports_with edge vrf (target ∷ targets) = present_with edge vrf (target ∷ targets)

-- in the order of VRFs and then of prefixes
abbrev pub exports_of : Edge → List Exported
exports_of edge = flat_map (λ vrf. exports_with edge vrf vrf.exports) edge.vrfs

-- sources, by numbers
abbrev pub own_over : ℕ → Source
own_over site = Own (record { 0 = site })

abbrev pub near_over : ℕ → ℕ → Source
near_over vrf site = Near (record { 0 = vrf }) (record { 0 = site })

abbrev pub far_over : ℕ → ℕ → ℕ → ℕ → Source
far_over loopback rd edge label = Far loopback (record { 0 = rd }) (record { 0 = edge }) label

abbrev pub held_own : Edge → VrfState → List (AddressBlock × Source)
held_own edge vrf = map (λ export. (export.prefix, own_over export.site)) (present_with edge vrf [])

-- those whose targets meet the VRF's import set
abbrev pub held_near : Edge → VrfState → List (AddressBlock × Source)
held_near edge vrf =
    map (λ export. (export.prefix, near_over export.vrf export.site))
    (filter (λ export. not (export.vrf == vrf.number) && meet export.targets vrf.imports) (exports_of edge))

abbrev pub held_far : Edge → VrfState → ℕ → List (AddressBlock × Source)
held_far edge vrf peer =
    map (λ route. (route.prefix, far_over (slice_index_or edge.loopbacks peer 0) route.rd.0 peer route.label))
    (filter (λ route. meet route.targets vrf.imports) (heard_of_peer edge peer))

-- in the order in which they are kept
abbrev pub in_order : List (AddressBlock × Source) → List (AddressBlock × Source)
in_order routes = fold (λ kept route. with_one route_before route kept) [] routes

abbrev pub held_by : Edge → VrfState → List (AddressBlock × Source)
held_by edge vrf = in_order (held_own edge vrf ++ (held_near edge vrf ++ flat_map (held_far edge vrf) (range_with_len 0 (length edge.heard))))
