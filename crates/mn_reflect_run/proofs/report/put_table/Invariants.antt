use Rattle.std.proofs.Common.{◌≡◌, ℕ, List, take}
use Rattle.std.specs.Prelude.{option_map}
use Rattle.std.specs.List.{flat_map}
use Rattle.mn_topo.specs.declared.steps.Step.{Step}
use Rattle.mn_ledger.specs.Places.{edge_of}
use Rattle.mn_routing_laws.specs.Sources.{as_held}
use Rattle.mn_reflect_ledger_laws.specs.World.{world_of}
use Rattle.mn_reflect_ledger_laws.specs.Quiet.{held}
use Rattle.mn_ledger.specs.Heads.{prefixes_of, held_at}
use Rattle.mn_reflect_world_laws.specs.Labels.{labels_of}
use Rattle.mn_reflect.specs.Course.{IsRun}
use Rattle.mn_tables.specs.Telling.{standing, Told}
use Rattle.mn_reflect_run.proofs.Routed.{line_at}
use Rattle.mn_reflect_run.proofs.report.put_table.Given as goal

-- the lines so far are put, and the route is the next one
abbrev pub invariant-loop : goal.invariant-loop
invariant-loop g l = record {
  told : (reflectors : List ℕ) (steps : List Step) → IsRun l.topology reflectors steps l.reflect →
      Told (flat_map (line_at l.topology (labels_of l.topology steps) l.vrf.0
      (held l.topology reflectors (world_of l.topology reflectors steps) (edge_of l.topology l.vrf.0) l.vrf.0))
      (take l.counter (prefixes_of (held l.topology reflectors (world_of l.topology reflectors steps) (edge_of l.topology l.vrf.0) l.vrf.0))))
      (standing l.fn.desk.page (g.O.Sink.written l.fn.out) (g.O.Sink.faults l.fn.out)) (standing l.desk.page (g.O.Sink.written l.out) (g.O.Sink.faults l.out));
  next : (reflectors : List ℕ) (steps : List Step) → IsRun l.topology reflectors steps l.reflect →
      l.route ≡ option_map (as_held (labels_of l.topology steps))
      (held_at (held l.topology reflectors (world_of l.topology reflectors steps) (edge_of l.topology l.vrf.0) l.vrf.0) l.counter);
}
