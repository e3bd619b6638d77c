use Rattle.std.proofs.Common.{◌≡◌, drop, filter}
use Rattle.mn_prefix.specs.Table.{first_of}
use Rattle.mn_vrf.specs.Routes.{is_open}
use Rattle.mn_vrf.proofs.sources.Sources.first_open.Given as goal

-- it is none of those so far
abbrev pub invariant-loop-source : goal.invariant-loop-source
invariant-loop-source l = first_of (filter (is_open l.ways) (drop l.source-index l.self)) ≡ first_of (filter (is_open l.ways) l.self)
