use Rattle.std.proofs.Common.{Ok}
use Rattle.mn_edge.specs.declared.device.DeviceBad.{DeviceBad}
use Rattle.mn_perform.specs.Recorded.{IsFor}
use Rattle.mn_perform.specs.Adding.{Puts, Stays}
use Rattle.mn_perform.specs.Heads.{frame_heads}
use Rattle.mn_perform.specs.Parts.{by_number}
use Rattle.mn_perform.proofs.books.put_frame_heads.Given as goal

abbrev pub invariant-loop-link : goal.invariant-loop-link
invariant-loop-link g l = record {
  puts : IsFor l.fn.output l.topology →
      Puts {T = Unit {0}} {E = DeviceBad} (by_number l.topology (frame_heads l.link)) l.fn.output l.output (g.S.Shelf.files l.fn.shelf)
      (g.S.Shelf.files l.shelf) (Ok tt);
  stays : Stays {T = Unit {0}} g.S.Shelf.files g.S.Shelf.write_faults g.S.Shelf.read_faults l.fn.output l.output l.fn.shelf l.shelf (Ok tt);
}
