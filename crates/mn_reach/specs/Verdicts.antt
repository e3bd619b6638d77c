-- Verdicts as the ledger's fates.
use Rattle.std.specs.Prelude.{ℕ, Bool, List}
use Rattle.mn_topo.specs.Network.{Network}
use Rattle.mn_fate_laws.specs.Fate as fate
use Rattle.mn_fate_laws.specs.Fate.{Fate}
use Rattle.mn_reach.specs.declared.verdict.End.{End}
use Rattle.mn_reach.specs.declared.verdict.End.TheVariants.{Arrives, Falls}
use Rattle.mn_reach.specs.declared.verdict.Verdict.{Verdict}
use Rattle.mn_reach.specs.Plans.{numbers_of}

-- the network as it is, but for whether routes to whose edge no label path leads stand aside for the others
abbrev pub resolving : Network → Bool → Network
resolving topology resolve = record topology { resolve = resolve }

abbrev pub fate_with : End → List ℕ → Fate
fate_with (Arrives site ttl) path = fate.Arrives site.0 ttl path
fate_with (Falls rule node) path = fate.Falls rule node.0 path

abbrev pub fate_as : Verdict → Fate
fate_as verdict = fate_with verdict.end (numbers_of verdict.path.items)
