use Rattle.std.proofs.Common.{◌≡◌, drop}
use Rattle.mn_pe.specs.Start.{after_prefixes}
use Rattle.mn_pe.proofs.start.put_prefixes.Given as goal

-- the prefixes to come end it
abbrev pub invariant-loop-prefix : goal.invariant-loop-prefix
invariant-loop-prefix l = after_prefixes l.site.0 l.statics (drop l.prefix-index l.prefixes) ≡ after_prefixes l.site.0 l.fn.statics l.prefixes
