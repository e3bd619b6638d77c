-- An edge at the start: what the topology says of it, no site attached, and nothing received.
use Rattle.std.specs.Prelude.{ℕ, ◌≡◌, ◌+◌, ◌==◌, true, List, [], ◌∷◌, ◌++◌, map, None, if◌then◌else◌}
use Rattle.mn_base.specs.declared.numbers.Rt.{Rt}
use Rattle.mn_base.specs.Ordered.{with_one}
use Rattle.mn_prefix.specs.Prefix.{AddressBlock}
use Rattle.mn_topo.specs.Network.{Network}
use Rattle.mn_topo.specs.declared.vrfs.VrfDef.{VrfDef}
use Rattle.mn_topo.specs.declared.sites.SiteDef.{SiteDef}
use Rattle.mn_targets.specs.Targets.{target_set, has_target}
use Rattle.mn_vrf.specs.Vrf.{Static, VrfState, Holding, static_before}
use Rattle.mn_pe.specs.Edge.{Edge}

-- a set with a target, once
abbrev pub with_target : Rt → List Rt → List Rt
with_target target set = if has_target target set then set else target_set target true set

abbrev pub after_targets : List Rt → List Rt → List Rt
after_targets set [] = set
after_targets set (target ∷ targets) = after_targets (with_target target set) targets

-- statics with a site's prefixes
abbrev pub after_prefixes : ℕ → List Static → List AddressBlock → List Static
after_prefixes site statics [] = statics
after_prefixes site statics (prefix ∷ prefixes) = after_prefixes site (with_one static_before (record { prefix = prefix; site = site }) statics) prefixes

-- and with those of the VRF's sites, which are numbered from a number on
abbrev pub after_sites : ℕ → ℕ → List Static → List SiteDef → List Static
after_sites v site statics [] = statics
after_sites v site statics (def ∷ defs) = after_sites v (site + 1) (if def.vrf.0 == v then after_prefixes site statics def.prefixes else statics) defs

abbrev pub vrf_at_start : List SiteDef → ℕ → VrfDef → VrfState
vrf_at_start sites v def = record {
  number = v;
  rd = def.rd;
  statics = after_sites v 0 [] sites;
  imports = after_targets [] def.«import»;
  exports = after_targets [] def.export;
}

-- the VRF, if it is the node's
abbrev pub vrf_if : List SiteDef → ℕ → ℕ → VrfDef → List VrfState
vrf_if sites node v def = if def.node.0 == node then vrf_at_start sites v def ∷ [] else []

-- the node's VRFs, of those numbered from a number on
abbrev pub vrfs_from : List SiteDef → ℕ → ℕ → List VrfDef → List VrfState
vrfs_from sites node v [] = []
vrfs_from sites node v (def ∷ defs) = vrf_if sites node v def ++ vrfs_from sites node (v + 1) defs

-- a VRF that holds no route
abbrev pub HoldsNone : Holding → Type 0
HoldsNone holding = holding.held ≡ []

abbrev pub edge_at_start : Network → ℕ → Edge
edge_at_start topology node = record {
  vrfs = vrfs_from topology.sites node 0 topology.vrfs;
  sites = map (λ (def : SiteDef). def.vrf) topology.sites;
  labels = map (λ (def : SiteDef). None) topology.sites;
  loopbacks = topology.loopbacks;
  heard = map (λ (loopback : ℕ). []) topology.loopbacks;
}
