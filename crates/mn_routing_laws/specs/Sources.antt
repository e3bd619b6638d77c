-- The ledger's held routes, as an edge holds them.
use Rattle.std.specs.Prelude.{ℕ}
use Rattle.mn_prefix.specs.Prefix.{AddressBlock}
use Rattle.mn_ledger.specs.Held.{HeldRoute}
use Rattle.mn_ledger.specs.Held as ledger_held
use Rattle.mn_vrf.specs.declared.source.Source.{Source}
use Rattle.mn_pe.specs.Held.{own_over, near_over, far_over}
use Rattle.mn_bgp_spelling_laws.specs.Spelling.{Labels}

abbrev pub source_from : Labels → ℕ → ℕ → ℕ → ledger_held.Source → Source
source_from labels edge site attachment ledger_held.Own = own_over site
source_from labels edge site attachment (ledger_held.Near v) = near_over v site
source_from labels edge site attachment (ledger_held.Far address rd) = far_over address rd edge (labels site attachment)

-- a held route: a prefix and where it comes from
abbrev pub as_held : Labels → HeldRoute → AddressBlock × Source
as_held labels route = (route.prefix, source_from labels route.edge route.site route.attachment route.source)
