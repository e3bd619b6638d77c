use Rattle.std.proofs.Common.{sym, subst, take, ◌≤◌, length}
use Rattle.std.specs.Io.KnownBytes.{Appends}
use Rattle.mn_edge_real.proofs.Writing.{Wrote, wrote_more, wrote_same, rest_is, room_left}
use Rattle.mn_edge_real.proofs.sink.write_whole.Goals as goal
use Rattle.mn_edge_real.proofs.sink.write_whole.Goals.{in-Ok, in-Err}

pub tries-preserved : goal.tries-preserved
tries-preserved g c =
    let first = g.W.Write.contents c.args.writer.now in
    let now = g.W.Write.contents c.tries.writer in
    let new = g.W.Write.contents c.write.new.self in
    let piece = c.args.piece.now in
    elim c.match-write.branch [
      | in-Ok w ↦ record {
        within = subst (λ n. n ≤ length piece) (sym w.done-is)
            (room_left c.tries.done w.in-Ok.count piece c.tries.invariant.within w.in-Ok.ensures.bound);
        so_far = subst (λ n. Wrote first new piece n) (sym w.done-is)
            (wrote_more first now new piece c.tries.done w.in-Ok.count c.tries.invariant.so_far
            (subst (λ l. Appends now new (take w.in-Ok.count l)) (rest_is c.tries.done piece) w.in-Ok.ensures.bytes));
      }
      | in-Err w ↦ record {
        within = subst (λ n. n ≤ length piece) (sym w.done-is) c.tries.invariant.within;
        so_far = subst (λ n. Wrote first new piece n) (sym w.done-is)
            (wrote_same first now new piece c.tries.done c.tries.invariant.so_far w.in-Err.ensures.bytes);
      }
    ]
