use Rattle.std.proofs.Common.{take}
use Rattle.mn_output_laws.specs.Shown.{hex_text}
use Rattle.mn_tables.specs.Telling.{standing, Told}
use Rattle.mn_tables.proofs.frame.put_hex.Given as goal

abbrev pub invariant-loop-byte : goal.invariant-loop-byte
invariant-loop-byte g l = Told (hex_text (take l.byte-index l.bytes))
    (standing l.fn.page (g.O.Sink.written l.fn.out) (g.O.Sink.faults l.fn.out)) (standing l.page (g.O.Sink.written l.out) (g.O.Sink.faults l.out))
