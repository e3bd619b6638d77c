use Rattle.std.proofs.Common.{Ok}
use Rattle.std.specs.List.{flat_map, range_with_len}
use Rattle.mn_edge.specs.declared.device.DeviceBad.{DeviceBad}
use Rattle.mn_frame_laws.specs.Given.{given}
use Rattle.mn_output_laws.specs.Contents.{label_lines}
use Rattle.mn_perform.specs.Adding.{Puts, Stays, only_in}
use Rattle.mn_perform.proofs.books.put_labels.Given as goal

abbrev pub invariant-loop-number : goal.invariant-loop-number
invariant-loop-number g l = record {
  puts : Puts {T = Unit {0}} {E = DeviceBad}
      (only_in 1 (flat_map (λ node. label_lines l.net.topology node (given l.net.topology l.net.journal node).given) (range_with_len 0 l.number)))
      l.fn.output l.output (g.S.Shelf.files l.fn.shelf) (g.S.Shelf.files l.shelf) (Ok tt);
  stays : Stays {T = Unit {0}} g.S.Shelf.files g.S.Shelf.write_faults g.S.Shelf.read_faults l.fn.output l.output l.fn.shelf l.shelf (Ok tt);
}
