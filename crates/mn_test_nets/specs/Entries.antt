-- A link, a VRF and a site of the networks.
use Rattle.std.specs.Prelude.{ℕ, ◌+◌, ◌*◌, ◌^◌, List, [], ◌∷◌}
use Rattle.mn_wiring.specs.declared.links.LinkEnds.{LinkEnds}
use Rattle.mn_base.specs.declared.numbers.Rt.{Rt}
use Rattle.mn_topo.specs.declared.vrfs.VrfDef.{VrfDef}
use Rattle.mn_topo.specs.declared.sites.SiteDef.{SiteDef}

-- a link of this cost, with a delay of 1, a life of 2000 and no loss
abbrev pub link : ℕ → ℕ → ℕ → LinkEnds
link a b cost = record { a = record { 0 = a }; b = record { 0 = b }; cost = cost; delay = 1; loss = 0; life = 2000 }

-- the target 65000:100
abbrev pub target : Rt
target = record { 0 = 2 * 2 ^ 48 + 65000 * 2 ^ 32 + 100 }

-- a VRF at the node with the distinguisher 65000:number and these targets, which it imports and exports
abbrev pub vrf_with : List Rt → ℕ → ℕ → VrfDef
vrf_with targets node number = record { node = record { 0 = node }; rd = record { 0 = 65000 * 2 ^ 32 + number }; import = targets; export = targets }

abbrev pub apart : ℕ → ℕ → VrfDef
apart = vrf_with []

abbrev pub joined : ℕ → ℕ → VrfDef
joined = vrf_with (target ∷ [])

abbrev pub bare : ℕ → SiteDef
bare vrf = record { vrf = record { 0 = vrf }; prefixes = [] }

abbrev pub of_one : ℕ → ℕ → SiteDef
of_one vrf address = record { vrf = record { 0 = vrf }; prefixes = record { address = address; length = 16 } ∷ [] }
