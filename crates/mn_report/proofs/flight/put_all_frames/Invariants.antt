use Rattle.std.proofs.Common.{◌≡◌, List, ℕ, take}
use Rattle.std.specs.Prelude.{length}
use Rattle.std.specs.List.{flat_map, range_with_len}
use Rattle.mn_ledger.specs.Items.{flight_of}
use Rattle.mn_net.specs.Now.{StandsFor}
use Rattle.mn_output_laws.specs.Tables.{frames_lines}
use Rattle.mn_tables.specs.Telling.{standing, Told}
use Rattle.mn_report.proofs.flight.put_all_frames.Given as goal

abbrev pub invariant-loop-link : goal.invariant-loop-link
invariant-loop-link g l = record {
  told : (inputs : List (List ℕ)) → StandsFor l.net inputs →
      Told (flat_map (frames_lines l.net.topology (flight_of l.net.topology l.net.journal inputs).items)
      (take l.link (range_with_len 0 (length l.net.topology.links))))
      (standing l.fn.page (g.O.Sink.written l.fn.out) (g.O.Sink.faults l.fn.out)) (standing l.page (g.O.Sink.written l.out) (g.O.Sink.faults l.out));
  faults : g.O.Sink.faults l.out ≡ g.O.Sink.faults l.fn.out;
}
