-- How an export is announced or withdrawn.
use Rattle.std.specs.Prelude.{ℕ, ◌≡◌, ◌<◌, ◌≤◌, ◌^◌, Bool, true, false, List, length}
use Rattle.std.specs.List.{AllByRecursion}
use Rattle.mn_base.specs.Numbers.{has_rd_form}
use Rattle.mn_base.specs.Ordered.{IsAscending}
use Rattle.mn_topo.specs.Network.{Network}
use Rattle.mn_vpn_nlri.specs.Grammar.{AllTargets}
use Rattle.mn_bgp_wire.specs.Written.{update_bytes, announced, withdrawn}
use Rattle.mn_ledger.specs.Places.{loopback}
use Rattle.mn_pe.specs.Held.{Exported}

-- an export can be announced: RFC 4364, sections 4.2 and 4.3.1; RFC 8277, section 2.2
pub record IsSayable (export : Exported) : Type 0 where
  pub distinguisher : has_rd_form export.rd.0 ≡ true
  pub label : export.label < 2 ^ 20
  pub ascending : IsAscending export.targets
  pub targets : AllTargets export.targets
  pub few : length export.targets ≤ 16

abbrev pub AreSayable : List Exported → Type 0
AreSayable exports = AllByRecursion IsSayable exports

-- an export that comes is announced, and one that goes is withdrawn: RFC 4364, section 4.3.2
abbrev pub spelled_in : Network → ℕ → Bool → Exported → List ℕ
spelled_in topology edge true export =
    update_bytes (announced (loopback topology edge) (record { rd = export.rd; prefix = export.prefix; label = export.label }) export.targets)
spelled_in topology edge false export = update_bytes (withdrawn export.rd export.prefix)
