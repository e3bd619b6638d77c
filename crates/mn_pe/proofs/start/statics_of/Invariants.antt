use Rattle.std.proofs.Common.{◌≡◌, [], drop}
use Rattle.mn_pe.specs.Start.{after_sites}
use Rattle.mn_pe.proofs.start.statics_of.Given as goal

-- the sites to come end it
abbrev pub invariant-loop-at : goal.invariant-loop-at
invariant-loop-at l = after_sites l.number.0 l.at l.statics (drop l.at l.sites) ≡ after_sites l.number.0 0 [] l.sites
