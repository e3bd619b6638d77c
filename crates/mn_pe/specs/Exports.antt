-- What VRFs export, by the labels of sites.
use Rattle.std.specs.Prelude.{ℕ, ◌==◌, List, [], ◌∷◌, filter, slice_index_or, Option, None, Some, option_map, if◌then◌else◌}
use Rattle.std.specs.List.{flat_map}
use Rattle.mn_base.specs.declared.numbers.Rt.{Rt}
use Rattle.mn_prefix.specs.Prefix.{AddressBlock}
use Rattle.mn_vrf.specs.Vrf.{Static, VrfState, static_of}
use Rattle.mn_pe.specs.Edge.{Edge, vrf_of_site}
use Rattle.mn_pe.specs.Held.{Exported, export_at, exports_with}
use Rattle.mn_pe.specs.Pe.{found_in}

-- an edge of which only the labels of sites are looked at
abbrev pub labelled : List (Option ℕ) → Edge
labelled labels = record { vrfs = []; sites = []; labels = labels; loopbacks = []; heard = [] }

-- what a VRF exports
abbrev pub exports_by : List (Option ℕ) → VrfState → List Exported
exports_by labels vrf = exports_with (labelled labels) vrf vrf.exports

-- what VRFs export, in their order
abbrev pub exports_among : List (Option ℕ) → List VrfState → List Exported
exports_among labels vrfs = flat_map (exports_by labels) vrfs

-- what the VRFs of a number export
abbrev pub exports_at_among : List (Option ℕ) → ℕ → List VrfState → List Exported
exports_at_among labels v vrfs = flat_map (exports_by labels) (filter (λ (vrf : VrfState). vrf.number == v) vrfs)

-- a static, if it is over the site
abbrev pub export_over : List (Option ℕ) → VrfState → List Rt → ℕ → Static → List Exported
export_over labels vrf targets site static = if static.site == site then export_at vrf targets static (slice_index_or labels static.site None) else []

-- what a VRF exports over the site
abbrev pub exports_by_over : List (Option ℕ) → ℕ → VrfState → List Rt → List Exported
exports_by_over labels site vrf [] = []
exports_by_over labels site vrf (target ∷ targets) = flat_map (export_over labels vrf (target ∷ targets) site) vrf.statics

-- and what the VRFs of a number do
abbrev pub exports_over_among : List (Option ℕ) → ℕ → ℕ → List VrfState → List Exported
exports_over_among labels v site vrfs =
    flat_map (λ (vrf : VrfState). exports_by_over labels site vrf vrf.exports) (filter (λ (vrf : VrfState). vrf.number == v) vrfs)

-- the export of one static, if it is one
abbrev pub export_by : List (Option ℕ) → VrfState → List Rt → Option Static → Option Exported
export_by labels vrf targets None = None
export_by labels vrf [] (Some static) = None
export_by labels vrf (target ∷ targets) (Some static) =
    option_map (λ label. record { vrf = vrf.number; rd = vrf.rd; prefix = static.prefix; label = label; site = static.site; targets = target ∷ targets })
    (slice_index_or labels static.site None)

-- an edge's exports of the VRFs of a number, of a site, and of a site's prefix
abbrev pub exports_at : Edge → ℕ → List Exported
exports_at edge v = exports_at_among edge.labels v edge.vrfs

abbrev pub exports_over : Edge → ℕ → List Exported
exports_over edge site = exports_over_among edge.labels (vrf_of_site edge site) site edge.vrfs

abbrev pub export_of : Edge → ℕ → AddressBlock → Option Exported
export_of edge site prefix =
    found_in (vrf_of_site edge site) (λ (vrf : VrfState). export_by edge.labels vrf vrf.exports (static_of prefix vrf.statics)) edge.vrfs
