-- VRFs by their distinguishers.
use Rattle.std.specs.Prelude.{◌≡◌, ◌<◌, ℕ, length, Option, Some}
use Rattle.std.specs.Ordering.{nat_cmp}
use Rattle.std.specs.BTreeMap.{BTreeMap}
use Rattle.std.specs.BTreeMap as tree
use Rattle.mn_base.specs.declared.numbers.VrfNo.{VrfNo}
use Rattle.mn_topo.specs.Network.{Network}
use Rattle.mn_ledger.specs.Places.{vrf_at}

-- the VRF of a distinguisher
abbrev pub vrf_with : BTreeMap ℕ VrfNo → ℕ → Option VrfNo
vrf_with vrfs rd = tree.get nat_cmp vrfs rd

-- each VRF is found by its distinguisher
abbrev pub FindsEach : Network → BTreeMap ℕ VrfNo → Type 0
FindsEach topology vrfs = (v : ℕ) → v < length topology.vrfs → vrf_with vrfs (vrf_at topology v).rd.0 ≡ Some (record { 0 = v })
