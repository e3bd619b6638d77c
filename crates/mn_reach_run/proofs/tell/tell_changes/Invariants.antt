use Rattle.std.proofs.Common.{◌≡◌, ◌≤◌, ℕ, List, take}
use Rattle.std.specs.List.{flat_map}
use Rattle.std.specs.Io.Iter.{u64_saturate}
use Rattle.mn_tables.specs.Telling.{standing, Told}
use Rattle.mn_candidates.specs.Pairs.{pairs_of}
use Rattle.mn_failures.specs.declared.command.Part.{Part}
use Rattle.mn_reach_run.specs.Playing.{IsKnown}
use Rattle.mn_reach_run.specs.Telling.{told_change, AreCounted}
use Rattle.mn_reach_run.proofs.tell.tell_changes.Given as goal

-- of the pairs before this one
abbrev pub invariant-loop-pair : goal.invariant-loop-pair
invariant-loop-pair g l = record {
  told : (parts : List Part) → IsKnown l.case.at.topology.now l.case.at.settings parts l.found → (count : ℕ) → l.case.number ≡ u64_saturate count →
      Told (flat_map (told_change l.case.at.topology.now l.case.at.settings count parts) (take l.pair (pairs_of l.case.at.topology.now)))
      (standing l.fn.desk.page (g.O.Sink.written l.fn.out) (g.O.Sink.faults l.fn.out)) (standing l.desk.page (g.O.Sink.written l.out) (g.O.Sink.faults l.out));
  counted : (parts : List Part) → IsKnown l.case.at.topology.now l.case.at.settings parts l.found →
      AreCounted l.case.at.topology.now l.case.at.settings parts (take l.pair (pairs_of l.case.at.topology.now)) l.changes;
  few_lost : l.changes.lost ≤ l.pair;
  few_moved : l.changes.moved ≤ l.pair;
}
