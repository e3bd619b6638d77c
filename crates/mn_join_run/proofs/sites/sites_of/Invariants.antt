use Rattle.std.proofs.Common.{◌≡◌, take}
use Rattle.mn_join_run.specs.Report.{sites_of}
use Rattle.mn_join_run.proofs.sites.sites_of.Given as goal

abbrev pub invariant-loop-entry : goal.invariant-loop-entry
invariant-loop-entry l = l.sites.items ≡ sites_of (take l.entry-index l.entries)
