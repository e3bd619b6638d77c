use Rattle.std.proofs.Common.{◌≡◌, take}
use Rattle.std.specs.Prelude.{option_map}
use Rattle.std.specs.List.{flat_map}
use Rattle.mn_ledger.specs.Ledger.{world_of}
use Rattle.mn_frame_laws.specs.Given.{given}
use Rattle.mn_pe.specs.Entries.{as_held}
use Rattle.mn_ledger.specs.Heads.{held_at, prefixes_of}
use Rattle.mn_output_laws.specs.Tables.{held_in}
use Rattle.mn_tables.specs.Telling.{standing, Told}
use Rattle.mn_report.proofs.Routed.{line_at}
use Rattle.mn_report.proofs.routes.put_routes.Given as goal

-- the lines so far are put, and the route is the next one
abbrev pub invariant-loop : goal.invariant-loop
invariant-loop g l = record {
  told :
      Told (flat_map (line_at l.net.topology (world_of l.net.topology l.net.journal) (given l.net.topology l.net.journal) l.vrf.0
      (held_in l.net.topology (world_of l.net.topology l.net.journal) l.vrf.0))
      (take l.counter (prefixes_of (held_in l.net.topology (world_of l.net.topology l.net.journal) l.vrf.0))))
      (standing l.fn.page (g.O.Sink.written l.fn.out) (g.O.Sink.faults l.fn.out)) (standing l.page (g.O.Sink.written l.out) (g.O.Sink.faults l.out));
  next :
      l.route ≡ option_map (as_held (given l.net.topology l.net.journal))
      (held_at (held_in l.net.topology (world_of l.net.topology l.net.journal) l.vrf.0) l.counter);
}
