-- A table, put behind the fetch of the packet that it names.
use Rattle.std.proofs.Common.{◌≡◌, ℕ, List, Option, Result, Ok, Err, inr}
use Rattle.mn_lines.specs.Putting.{PutsPart}
use Rattle.mn_lines.proofs.Putting.{part_of, part_of_more}
use Rattle.mn_perform.specs.Faults.{Blamed, SinkBlamed}
use Rattle.mn_perform.specs.declared.ended.Fault.{Fault}
use Rattle.mn_perform.specs.declared.ended.Fault.TheVariants.{Read, Write, NoMemory}

-- nothing was put
pub none_put : (text page : List ℕ) (written : Option (List ℕ)) → PutsPart text page written written
none_put text page written = λ before so_far on. part_of_more before so_far text written (part_of before so_far page written on)

-- after calls on the shelf that found no fault, only the sink is to blame
pub only_sink : {T : Type 0} (unread unwritten : Type 0) (reads reads_new writes writes_new sink sink_new : Option ℕ) (result : Result T Fault) →
    reads_new ≡ reads →
    writes_new ≡ writes → SinkBlamed sink sink_new result → Blamed unread unwritten (reads, writes, sink) (reads_new, writes_new, sink_new) result
only_sink unread unwritten reads reads_new writes writes_new sink sink_new (Ok x) r w h = (r, w, h)
only_sink unread unwritten reads reads_new writes writes_new sink sink_new (Err Read) r w h = absurd h
only_sink unread unwritten reads reads_new writes writes_new sink sink_new (Err Write) r w h = (r, inr (h, w))
only_sink unread unwritten reads reads_new writes writes_new sink sink_new (Err NoMemory) r w h = (r, w, h)
