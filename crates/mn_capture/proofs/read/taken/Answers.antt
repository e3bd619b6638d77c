use Rattle.std.proofs.Common.{◌≤◌, ◌<◌, length, ◌∙◌, arith}
use Rattle.mn_edge.specs.FaultLaws.{counted_out}
use Rattle.mn_edge.specs.KeptLaws.{absent_same}
use Rattle.mn_capture.proofs.Feeds.{comes_on, whole_file, past_limit}
use Rattle.mn_capture.proofs.read.taken.Goals as goal

pub returns-then-count-eq0-clause-told : goal.returns-then-count-eq0-clause-told
returns-then-count-eq0-clause-told g c = λ m is.
    let come = c.pieces.invariant.come in
    let room : 0 < length c.fetch.new.buf = let a = c.fetch.auto.buf in let b = c.pieces.auto.piece in let r = c.requires in omega (arith, a, b, r) in
    let few : length come.bytes ≤ c.args.most_bytes = let s = come.size in let w = c.pieces.invariant.within in omega (arith, s, w) in (
      come.bytes,
      whole_file (g.S.Shelf.files c.args.shelf.now) c.args.name.now c.args.most_records c.pieces.at c.in_ok-count.count c.fetch.new.buf c.pieces.scan come
          (λ m is. c.in_ok-count.ensures.content m (c.pieces.invariant.same ∙ is)) room c.if-count-eq0.true m is,
      (few, come.taken),
    )

pub returns-then-count-most_bytes-clause-told : goal.returns-then-count-most_bytes-clause-told
returns-then-count-most_bytes-clause-told g c = λ m is.
    past_limit (g.S.Shelf.files c.args.shelf.now) c.args.name.now c.args.most_records c.pieces.at c.in_ok-count.count c.args.most_bytes c.fetch.new.buf
    c.pieces.scan
    c.pieces.invariant.come (λ m is. c.in_ok-count.ensures.content m (c.pieces.invariant.same ∙ is)) c.pieces.invariant.within c.if-count-most_bytes.true m is

pub pieces-preserved : goal.pieces-preserved
pieces-preserved g c = record {
  come =
      comes_on (g.S.Shelf.files c.args.shelf.now) c.args.name.now c.args.most_records c.pieces.at c.in_ok-count.count c.fetch.new.buf c.pieces.scan
      c.feed.new.scan
      c.pieces.invariant.come (λ m is. c.in_ok-count.ensures.content m (c.pieces.invariant.same ∙ is)) c.in_ok-count.ensures.room c.in_ok-feed.ensures;
  within = let f = c.if-count-most_bytes.false in let w = c.pieces.invariant.within in omega (arith, f, w);
  same = c.in_ok-count.ensures.same ∙ c.pieces.invariant.same;
  reads = c.in_ok-count.ensures.reads ∙ c.pieces.invariant.reads;
  writes = c.in_ok-count.ensures.writes ∙ c.pieces.invariant.writes;
}

pub returns-in_err-count-clause-reads : goal.returns-in_err-count-clause-reads
returns-in_err-count-clause-reads g c =
    counted_out _ _ _ _ _ _ _ c.from_residual.ensures c.pieces.invariant.reads (absent_same _ _ _ c.pieces.invariant.same) c.in_err-count.ensures.reads
