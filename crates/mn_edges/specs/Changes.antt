-- What one edge is told in a step, and which of its exports come or go then: RFC 4364, section 4.3.
use Rattle.std.specs.Prelude.{◌≡◌, ℕ, Bool, true, false, List, [], ◌∷◌, slice_get, slice_index_or, slice_set, Option, Some, None}
use Rattle.mn_base.specs.declared.numbers.Rt.{Rt}
use Rattle.mn_base.specs.declared.numbers.VrfNo.{VrfNo}
use Rattle.mn_base.specs.declared.numbers.SiteNo.{SiteNo}
use Rattle.mn_prefix.specs.Prefix.{AddressBlock}
use Rattle.mn_targets.specs.Targets.{target_set}
use Rattle.mn_vrf.specs.Vrf.{Static, with_static, without_static, with_imports, with_exports}
use Rattle.mn_pe.specs.Edge.{Edge, vrf_of_site, after_vrf}
use Rattle.mn_pe.specs.Held.{Exported}
use Rattle.mn_pe.specs.Pe.{PeNow}
use Rattle.mn_pe.specs.Exports.{labelled}

-- 1. Edges, by node: none of a node that is no edge

-- an edge that works
abbrev pub working : Edge → PeNow
working edge = record { edge = edge; failed = false }

abbrev pub edge_or_blank : Option PeNow → Edge
edge_or_blank None = labelled []
edge_or_blank (Some pe) = pe.edge

-- what the edge at a node was told
abbrev pub edge_of_node : List (Option PeNow) → ℕ → Edge
edge_of_node edges node = edge_or_blank (slice_index_or edges node None)

-- an edge is at the node, and works
abbrev pub IsThere : List (Option PeNow) → ℕ → Type 0
IsThere edges node = slice_get edges node ≡ Some (Some (working (edge_of_node edges node)))

-- it is this now
abbrev pub edge_set : ℕ → Edge → List (Option PeNow) → List (Option PeNow)
edge_set node now edges = slice_set edges node (Some (working now))

-- 2. What an edge is told

-- a VRF imports routes with a target, or doesn't
abbrev pub import_set : Edge → VrfNo → Rt → Bool → Edge
import_set was v target on = after_vrf was v.0 (with_imports (target_set target on))

-- a VRF exports routes with a target, or doesn't
abbrev pub export_set : Edge → VrfNo → Rt → Bool → Edge
export_set was v target on = after_vrf was v.0 (with_exports (target_set target on))

-- a site's VRF has a prefix over the site, or has it no longer
abbrev pub static_over : SiteNo → AddressBlock → Static
static_over site prefix = record { prefix = prefix; site = site.0 }

abbrev pub static_added : Edge → SiteNo → AddressBlock → Edge
static_added was site prefix = after_vrf was (vrf_of_site was site.0) (with_static (static_over site prefix))

abbrev pub static_deleted : Edge → SiteNo → AddressBlock → Edge
static_deleted was site prefix = after_vrf was (vrf_of_site was site.0) (without_static (static_over site prefix))

-- 3. What comes or goes

abbrev pub those_of : Option Exported → List Exported
those_of None = []
those_of (Some export) = export ∷ []

-- what comes, and where that is nothing what is gone
abbrev pub AreNews : Bool → List Exported → List Exported → List Exported → Type 0
AreNews comes exports [] gone = (comes ≡ false) × (exports ≡ gone)
AreNews comes exports (export ∷ come) gone = (comes ≡ true) × (exports ≡ export ∷ come)
