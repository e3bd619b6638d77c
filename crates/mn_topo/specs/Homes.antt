-- The edge of a VRF, and the VRF and the edge of a site, by number.
use Rattle.std.specs.Prelude.{ℕ, [], slice_index_or}
use Rattle.mn_topo.specs.declared.vrfs.VrfDef.{VrfDef}
use Rattle.mn_topo.specs.declared.sites.SiteDef.{SiteDef}
use Rattle.mn_topo.specs.Network.{Network}

abbrev pub vrf_at : Network → ℕ → VrfDef
vrf_at topology v = slice_index_or topology.vrfs v (record { node = record { 0 = 0 }; rd = record { 0 = 0 }; «import» = []; export = [] })

abbrev pub site_at : Network → ℕ → SiteDef
site_at topology s = slice_index_or topology.sites s (record { vrf = record { 0 = 0 }; prefixes = [] })

-- the VRF of a site, attached or not
abbrev pub vrf_of : Network → ℕ → ℕ
vrf_of topology s = (site_at topology s).vrf.0

-- the edge at which a VRF is
abbrev pub edge_of : Network → ℕ → ℕ
edge_of topology v = (vrf_at topology v).node.0

-- the edge of a site, attached or not
abbrev pub home_of : Network → ℕ → ℕ
home_of topology s = edge_of topology (vrf_of topology s)
