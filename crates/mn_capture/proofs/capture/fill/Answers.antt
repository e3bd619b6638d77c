use Rattle.std.proofs.Common.{◌<◌, length, ℕ, ◌∙◌, arith, length-take, length-drop}
use Rattle.mn_edge.specs.FaultLaws.{counted_out}
use Rattle.mn_edge.specs.KeptLaws.{absent_same}
use Rattle.mn_capture.proofs.Fetched.{filled_on, filled_room, filled_all}
use Rattle.mn_capture.proofs.capture.fill.Goals as goal

pub returns-then-more-eq0-clause-content : goal.returns-then-more-eq0-clause-content
returns-then-more-eq0-clause-content g c = λ m is whole there.
    let room : 0 < length c.fetch.new.buf = let a = c.fetch.auto.buf in let t = c.pieces-test.true in
    omega (arith, a, t, length-take {A = ℕ}, length-drop {A = ℕ}) in
    filled_all m c.args.name.now whole c.pieces.buf c.fetch.new.buf c.args.at c.pieces.count c.in_ok-more.more there c.pieces.invariant.within
    (c.in_ok-more.ensures.content m (c.pieces.invariant.same ∙ is)) c.if-more-eq0.true room (c.pieces.invariant.so_far m is whole there)

pub pieces-preserved : goal.pieces-preserved
pieces-preserved g c = record {
  within = filled_room c.pieces.buf c.fetch.new.buf c.pieces.count c.in_ok-more.more c.pieces.invariant.within c.in_ok-more.ensures.room;
  so_far = λ m is whole there.
      filled_on m c.args.name.now whole c.pieces.buf c.fetch.new.buf c.args.at c.pieces.count c.in_ok-more.more there c.pieces.invariant.within
      c.in_ok-more.ensures.room (c.in_ok-more.ensures.content m (c.pieces.invariant.same ∙ is)) (c.pieces.invariant.so_far m is whole there);
  same = c.in_ok-more.ensures.same ∙ c.pieces.invariant.same;
  reads = c.in_ok-more.ensures.reads ∙ c.pieces.invariant.reads;
  writes = c.in_ok-more.ensures.writes ∙ c.pieces.invariant.writes;
}

pub returns-in_err-more-clause-reads : goal.returns-in_err-more-clause-reads
returns-in_err-more-clause-reads g c =
    counted_out _ _ _ _ _ _ _ c.from_residual.ensures c.pieces.invariant.reads (absent_same _ _ _ c.pieces.invariant.same) c.in_err-more.ensures.reads
