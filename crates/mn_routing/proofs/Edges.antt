-- The edge of a VRF is there.
use Rattle.std.proofs.Common.{ℕ, ◌≡◌, ◌<◌, List, length, subst, sym, Option}
use Rattle.std.proofs.lemmas.Option.{slice_get_within}
use Rattle.mn_topo.specs.Network.{Network}
use Rattle.mn_topo.specs.Lawful.{IsLawful}
use Rattle.mn_topo.specs.declared.steps.JournalEntry.{JournalEntry}
use Rattle.mn_ledger.specs.Places.{edge_of}
use Rattle.mn_ledger.specs.Ledger.{world_of}
use Rattle.mn_ledger_laws.proofs.There as there
use Rattle.mn_frame_laws.specs.Numbers.{labels_of}
use Rattle.mn_pe.specs.Pe.{PeNow}
use Rattle.mn_routing_laws.specs.Routed.{Routed, IsRoutes}
use Rattle.mn_routing_laws.proofs.Home.{is_edge_of}
use Rattle.mn_routing_laws.proofs.Placed.{edge_there}

-- contracts see the edges as `routed` has them, the code as `edges`
pub within : (t : Network) → IsLawful t → (routed : Routed) (v : ℕ) → v < length t.vrfs → (es : List JournalEntry) → IsRoutes t es routed →
    (edges : List (Option PeNow)) → edges ≡ routed.edges → edge_of t v < length edges
within t lawful routed v below es stands edges same =
    subst (λ xs. edge_of t v < length xs) (sym same)
    (slice_get_within routed.edges (edge_of t v) _
    (edge_there t (labels_of t es) (world_of t es) routed stands (edge_of t v) (there.edge_there t v lawful below) (is_edge_of t v below)))
