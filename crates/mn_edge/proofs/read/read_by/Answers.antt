use Rattle.std.proofs.Common.{sym, ◌∙◌, subst, arith, length, take, ◌≤◌, ◌<◌, ◌≡◌}
use Rattle.std.proofs.lemmas.List.{length-take-le}
use Rattle.mn_edge.specs.FaultLaws.{counted_out}
use Rattle.mn_edge.specs.KeptLaws.{absent_same}
use Rattle.mn_edge.proofs.Fetching.{whole, past, more}
use Rattle.mn_edge.proofs.read.read_by.Goals as goal

pub returns-then-count-eq0-clause-content : goal.returns-then-count-eq0-clause-content
returns-then-count-eq0-clause-content g c = λ m is.
    let len : c.len-at.result ≡ length c.loop-bytes.bytes.items = c.len-at.ensures ∙ c.loop-bytes.bytes.ok.0 in
    let room : 0 < length c.fetch.new.buf = let a = c.fetch.auto.buf in let b = c.loop-bytes.auto.piece in let r = c.requires in omega (arith, a, b, r) in (
      whole m c.args.name.now c.loop-bytes.bytes.items c.fetch.new.buf c.len-at.result c.in_ok-count.count len
          (c.in_ok-count.ensures.content m (c.loop-bytes.invariant.same ∙ is)) room c.if-count-eq0.true (c.loop-bytes.invariant.so_far m is),
      subst (λ n. n ≤ c.args.limit) c.loop-bytes.bytes.ok.0 c.loop-bytes.invariant.within,
    )

pub returns-then-count-limit-clause-content : goal.returns-then-count-limit-clause-content
returns-then-count-limit-clause-content g c = λ m is.
    let len : c.len-at.result ≡ length c.loop-bytes.bytes.items = c.len-at.ensures ∙ c.loop-bytes.bytes.ok.0 in
    past m c.args.name.now c.loop-bytes.bytes.items c.fetch.new.buf c.len-at.result c.in_ok-count.count c.args.limit len
    (c.in_ok-count.ensures.content m (c.loop-bytes.invariant.same ∙ is))
    (subst (λ n. n ≤ c.args.limit) (sym c.len-at.ensures) c.loop-bytes.invariant.within) c.if-count-limit.true

pub loop-bytes-preserved : goal.loop-bytes-preserved
loop-bytes-preserved g c = record {
  within = let h = c.in_ok-extend_from_slice.ensures.len in let f = c.if-count-limit.false in let e = c.len-at.ensures in let w =
      c.loop-bytes.invariant.within in
      let t : length (take c.in_ok-count.count c.fetch.new.buf) ≡ c.in_ok-count.count = length-take-le _ _ c.in_ok-count.ensures.room in
      rw (h, t) (omega (arith, f, e, w));
  so_far = λ m is. rw c.in_ok-extend_from_slice.ensures.items
      (more m c.args.name.now c.loop-bytes.bytes.items c.fetch.new.buf c.len-at.result c.in_ok-count.count (c.len-at.ensures ∙ c.loop-bytes.bytes.ok.0)
      (c.in_ok-count.ensures.content m (c.loop-bytes.invariant.same ∙ is)) c.in_ok-count.ensures.room (c.loop-bytes.invariant.so_far m is));
  same = c.in_ok-count.ensures.same ∙ c.loop-bytes.invariant.same;
  reads = c.in_ok-count.ensures.reads ∙ c.loop-bytes.invariant.reads;
  writes = c.in_ok-count.ensures.writes ∙ c.loop-bytes.invariant.writes;
}

pub returns-in_err-count-clause-reads : goal.returns-in_err-count-clause-reads
returns-in_err-count-clause-reads g c =
    counted_out _ _ _ _ _ _ _ c.from_residual.ensures c.loop-bytes.invariant.reads (absent_same _ _ _ c.loop-bytes.invariant.same) c.in_err-count.ensures.reads
