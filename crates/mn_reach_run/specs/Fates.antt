-- What becomes of a pair under the parts that fail, and what they change for it.
use Rattle.std.specs.Prelude.{ℕ, ◌==◌, ◌&&◌, Bool, true, false, if◌then◌else◌, List, []}
use Rattle.std.specs.Str.{bytes_eq}
use Rattle.mn_topo.specs.Network.{Network}
use Rattle.mn_fate_laws.specs.Fate.{Fate, Arrives, Falls}
use Rattle.mn_failure_laws.specs.Failures.{Failure}
use Rattle.mn_failure_laws.specs.Fates.{fate_under}
use Rattle.mn_candidates.specs.declared.pairs.Pair.{Pair}
use Rattle.mn_failures.specs.declared.command.Part.{Part}
use Rattle.mn_failures.specs.declared.command.Resolve.{Resolve}
use Rattle.mn_failures.specs.declared.command.Resolve.TheVariants.{AsTopology, Never, ByLabel}
use Rattle.mn_failures.specs.Meaning.{is_down, is_ldp_off, is_bgp_off}
use Rattle.mn_reach.specs.Verdicts.{resolving}
use Rattle.mn_reach_run.specs.declared.settings.Settings.{Settings}
use Rattle.mn_reach_run.specs.declared.change.Change.{Change}
use Rattle.mn_reach_run.specs.declared.change.Change.TheVariants.{Nothing, Lost, Moved}

-- these parts have failed, and sessions between edges that no links join have ended or stay
abbrev pub failure_under : Network → Bool → List Part → Failure
failure_under topology ends parts = record {
  is_down = is_down topology parts;
  ldp_off = is_ldp_off parts;
  bgp_off = is_bgp_off parts;
  ends = ends;
}

-- whether routes to whose edge no label path leads stand aside for the others, where the topology says so or doesn't
abbrev pub resolves : Resolve → Bool → Bool
resolves AsTopology said = said
resolves Never said = false
resolves ByLabel said = true

-- the network as it is, with that key of its topology set
abbrev pub network_by : Network → Resolve → Network
network_by topology resolve = resolving topology (resolves resolve topology.resolve)

-- what becomes of each packet of the pair, once the network is at rest under them
abbrev pub fate_of : Network → Settings → List Part → Pair → Fate
fate_of topology settings parts pair =
    fate_under (network_by topology settings.resolve) (failure_under topology settings.ends parts) pair.site.0 settings.ttl pair.address

-- of the same site, TTL and path
abbrev pub is_same_way : ℕ → ℕ → List ℕ → ℕ → ℕ → List ℕ → Bool
is_same_way site ttl path other left way = (site == other) && ((ttl == left) && bytes_eq path way)

-- where packets were delivered they are lost now; or they are delivered otherwise than before
abbrev pub change_between : Fate → Fate → Change
change_between (Arrives site ttl path) (Arrives other left way) = if is_same_way site ttl path other left way then Nothing else Moved
change_between (Arrives site ttl path) (Falls rule node way) = Lost
change_between (Falls rule node path) (Arrives other left way) = Moved
change_between (Falls rule node path) (Falls cause place way) = Nothing

-- from nothing failed to these parts
abbrev pub change_of : Network → Settings → List Part → Pair → Change
change_of topology settings parts pair = change_between (fate_of topology settings [] pair) (fate_of topology settings parts pair)

abbrev pub is_lost : Change → Bool
is_lost Lost = true
is_lost _ = false

abbrev pub is_moved : Change → Bool
is_moved Moved = true
is_moved _ = false
