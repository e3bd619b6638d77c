use Rattle.std.proofs.Common.{Ok, take}
use Rattle.mn_edge.specs.declared.device.DeviceBad.{DeviceBad}
use Rattle.mn_output_laws.specs.Contents.{label_lines}
use Rattle.mn_perform.specs.Adding.{Puts, Stays, only_in}
use Rattle.mn_perform.proofs.books.put_labels_of.Given as goal

abbrev pub invariant-loop-giving : goal.invariant-loop-giving
invariant-loop-giving g l = record {
  puts : Puts {T = Unit {0}} {E = DeviceBad} (only_in 1 (label_lines l.topology l.node.0 (take l.giving-index l.givings))) l.fn.output l.output
      (g.S.Shelf.files l.fn.shelf) (g.S.Shelf.files l.shelf) (Ok tt);
  stays : Stays {T = Unit {0}} g.S.Shelf.files g.S.Shelf.write_faults g.S.Shelf.read_faults l.fn.output l.output l.fn.shelf l.shelf (Ok tt);
}
