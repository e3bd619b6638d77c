-- VRFs in order, and which nodes have one.
use Rattle.std.specs.Prelude.{ℕ, Bool, ◌==◌, if◌then◌else◌, List, [], ◌∷◌, ◌++◌, fold}
use Rattle.std.specs.List.{list_any}
use Rattle.mn_wiring.specs.Rd.{Rd}
use Rattle.mn_topo.specs.declared.vrfs.VrfDef.{VrfDef}

-- VRFs in order: their names, and what they are
pub record VrfTable : Type 0 where
  pub names : List (List ℕ)
  pub vrfs : List VrfDef

abbrev pub no_vrfs : VrfTable
no_vrfs = record { names = []; vrfs = [] }

-- one of the VRFs has the distinguisher, as eight bytes
abbrev pub has_rd : List VrfDef → Rd → Bool
has_rd vrfs rd = list_any (λ vrf. rd.0 == vrf.rd.0) vrfs

-- one of the VRFs is at the node
abbrev pub is_edge : List VrfDef → ℕ → Bool
is_edge vrfs node = list_any (λ vrf. node == vrf.node.0) vrfs

-- the VRF's node is one of these edges, or one more
abbrev pub with_edge : List ℕ → VrfDef → List ℕ
with_edge edges vrf = if list_any (λ edge. vrf.node.0 == edge) edges then edges else edges ++ vrf.node.0 ∷ []

-- the nodes at which a VRF is, each once
abbrev pub edges_of : List VrfDef → List ℕ
edges_of vrfs = fold with_edge [] vrfs
