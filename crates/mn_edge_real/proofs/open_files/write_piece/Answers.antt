use Rattle.std.proofs.Common.{ℕ, List, ◌+◌, ◌≤◌, length, take, sym, subst, arith}
use Rattle.std.specs.Option.{ForSome}
use Rattle.mn_edge.specs.Files.{Grows}
use Rattle.mn_edge_real.proofs.Writing.{rest_is, room_left}
use Rattle.mn_edge_real.proofs.Putting.{Put, put_more, put_on, put_same, put_whole, put_part}
use Rattle.mn_edge_real.proofs.open_files.write_piece.Goals as goal
use Rattle.mn_edge_real.proofs.open_files.write_piece.Goals.{in-Ok-2, in-Err}

pub returns-in-Ok-clause-grown : goal.returns-in-Ok-clause-grown
returns-in-Ok-clause-grown g c = λ name is.
    let first = g.D.Disk.files c.args.disk.now in
    let now = g.D.Disk.files c.tries.disk in
    let new = g.D.Disk.files c.write.new.self in
    let piece = c.args.piece.now in
    put_whole first new name piece (c.tries.done + c.in-Ok.count) (omega arith)
    (put_more first now new name piece c.tries.done c.in-Ok.count (c.tries.invariant.so_far name is)
    (subst (λ l. ForSome now (λ m. Grows m name (take c.in-Ok.count l) new)) (rest_is c.tries.done piece) (c.in-Ok.ensures.grown name is)))

pub returns-in-Ok-eq0-clause-refused : goal.returns-in-Ok-eq0-clause-refused
returns-in-Ok-eq0-clause-refused g c = λ name is.
    let first = g.D.Disk.files c.args.disk.now in
    let now = g.D.Disk.files c.tries.disk in
    let new = g.D.Disk.files c.write.new.self in
    let piece = c.args.piece.now in
    put_part first new name piece (c.tries.done + c.in-Ok.count) (put_on first new name piece (c.tries.done + c.in-Ok.count)
    (put_more first now new name piece c.tries.done c.in-Ok.count (c.tries.invariant.so_far name is)
    (subst (λ l. ForSome now (λ m. Grows m name (take c.in-Ok.count l) new)) (rest_is c.tries.done piece) (c.in-Ok.ensures.grown name is))))

pub returns-in-Err-2-clause-refused : goal.returns-in-Err-2-clause-refused
returns-in-Err-2-clause-refused g c = λ name is.
    put_part _ _ name c.args.piece.now c.tries.done
    (put_same _ _ _ name c.args.piece.now c.tries.done c.in-Err.ensures.refused (c.tries.invariant.so_far name is))

pub returns-clause-refused : goal.returns-clause-refused
returns-clause-refused g c = λ name is. put_part _ _ name c.args.piece.now c.tries.done (c.tries.invariant.so_far name is)

pub tries-preserved : goal.tries-preserved
tries-preserved g c =
    let first = g.D.Disk.files c.args.disk.now in
    let now = g.D.Disk.files c.tries.disk in
    let new = g.D.Disk.files c.write.new.self in
    let piece = c.args.piece.now in
    elim c.match-write.branch [
      | in-Ok-2 w ↦ record {
        within = subst (λ n. n ≤ length piece) (sym w.done-is)
            (room_left c.tries.done w.in-Ok.count piece c.tries.invariant.within w.in-Ok.ensures.room);
        so_far = λ name is. subst (λ n. Put first new name piece n) (sym w.done-is)
            (put_on first new name piece (c.tries.done + w.in-Ok.count)
            (put_more first now new name piece c.tries.done w.in-Ok.count (c.tries.invariant.so_far name is)
            (subst (λ l. ForSome now (λ m. Grows m name (take w.in-Ok.count l) new)) (rest_is c.tries.done piece) (w.in-Ok.ensures.grown name is))));
        silent = λ none. c.write.ensures.silent (c.tries.invariant.silent none);
      }
      | in-Err w ↦ record {
        within = subst (λ n. n ≤ length piece) (sym w.done-is) c.tries.invariant.within;
        so_far = λ name is. subst (λ n. Put first new name piece n) (sym w.done-is)
            (put_same first now new name piece c.tries.done w.in-Err.ensures.refused (c.tries.invariant.so_far name is));
        silent = λ none. c.write.ensures.silent (c.tries.invariant.silent none);
      }
    ]
