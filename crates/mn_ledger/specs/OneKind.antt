-- What an edge advertises of a change of its exports: withdrawals, or announcements.
use Rattle.std.specs.Prelude.{◌≡◌, ◌⊎◌, ℕ, []}
use Rattle.mn_topo.specs.Network.{Network}
use Rattle.mn_ledger.specs.World.{Config}
use Rattle.mn_ledger.specs.Exports.{exports_of}
use Rattle.mn_ledger.specs.Bgp.{withdrawn, announced}

-- none of the edge's exports went, or none is new or another: so what is sent stands in the order of VRF and prefix
abbrev pub TellsOneKind : Network → Config → Config → ℕ → Type 0
TellsOneKind topology before after edge =
    (withdrawn (exports_of topology before edge) (exports_of topology after edge) ≡ []) ⊎
    (announced (exports_of topology before edge) (exports_of topology after edge) ≡ [])
