use Rattle.std.proofs.Common.{◌≡◌, take, None}
use Rattle.mn_edge.specs.Place.{bytes_at}
use Rattle.mn_edge.specs.Written.{pairs}
use Rattle.mn_edge.proofs.named.place.Given as goal

abbrev pub invariant-loop-i : goal.invariant-loop-i
invariant-loop-i l = bytes_at (take l.i (pairs l.files)) l.name ≡ None
