use Rattle.std.proofs.Common.{◌≤◌, ◌-◌, max, ℕ, List, Ok}
use Rattle.mn_edge.specs.declared.device.DeviceBad.{DeviceBad}
use Rattle.mn_net_laws.specs.Now.{StandsFor}
use Rattle.mn_perform.specs.Recorded.{IsFor}
use Rattle.mn_perform.specs.Adding.{Puts, Stays}
use Rattle.mn_perform.specs.Parts.{by_number, items_part}
use Rattle.mn_perform.proofs.step.write_items.Given as goal

abbrev pub invariant-loop-number : goal.invariant-loop-number
invariant-loop-number g l = record {
  puts : (inputs : List (List ℕ)) → StandsFor l.net inputs → IsFor l.fn.output l.net.topology →
      Puts {T = Unit {0}} {E = DeviceBad}
      (by_number l.net.topology (items_part l.net.topology l.net.journal inputs l.fn.tick l.fn.made.first (l.number - l.fn.made.first)))
      l.fn.output l.output (g.S.Shelf.files l.fn.shelf) (g.S.Shelf.files l.shelf) (Ok tt);
  within : l.number ≤ max l.fn.made.first l.fn.made.end;
  stays : Stays {T = Unit {0}} g.S.Shelf.files g.S.Shelf.write_faults g.S.Shelf.read_faults l.fn.output l.output l.fn.shelf l.shelf (Ok tt);
}
