use Rattle.std.proofs.Common.{ℕ, suc, ◌+◌, ◌-◌, sym, ap, ◌∙◌, arith}
use Rattle.mn_way.specs.Switched.{edge_at}
use Rattle.mn_way.specs.Way.{Hop, hops_within}
use Rattle.mn_way.proofs.Steps.{with-hop, at-end, left, counted, count-on, count-off, count-end}
use Rattle.mn_way.proofs.ways.Ways.length_within.Goals as goal

pub returns-then-not-has_ldp : goal.returns-then-not-has_ldp
returns-then-not-has_ldp c = λ wiring over.
    let s = c.args.self.now in
    let to = edge_at s c.args.edge in
    let at = c.loop-passed.at.0 in
    let passed = c.loop-passed._passed in
    let more : ℕ = c.args.most - (passed + 1) in
    let hop : Hop = (c.in-Some.hop.0.0, c.in-Some.hop.1.0) in
    sym (ap (counted s.ldp c.loop-passed.length) (with-hop wiring s.up to at more hop (c.in-Some.ensures.hop wiring over))
    ∙ count-off s.ldp c.loop-passed.length hop (hops_within wiring s.up to more hop.0) (sym c.has_ldp.ensures ∙ c.if-not-has_ldp.true))
    ∙ c.loop-passed.invariant.left (suc more) (left passed c.args.most c.loop-passed-test.true) wiring over

pub returns-in-None : goal.returns-in-None
returns-in-None c = λ wiring over.
    let s = c.args.self.now in
    let to = edge_at s c.args.edge in
    let at = c.loop-passed.at.0 in
    let passed = c.loop-passed._passed in
    let more : ℕ = c.args.most - (passed + 1) in
    sym (ap (counted s.ldp c.loop-passed.length) (at-end wiring s.up to at (suc more) (c.in-None.ensures.hop wiring over))
    ∙ count-end s.ldp c.loop-passed.length)
    ∙ c.loop-passed.invariant.left (suc more) (left passed c.args.most c.loop-passed-test.true) wiring over

pub loop-passed-preserved : goal.loop-passed-preserved
loop-passed-preserved c =
    let s = c.args.self.now in
    let to = edge_at s c.args.edge in
    let at = c.loop-passed.at.0 in
    let passed = c.loop-passed._passed in
    let hop : Hop = (c.in-Some.hop.0.0, c.in-Some.hop.1.0) in
    record {
      here = c.in-Some.ensures.there.0;
      count = omega arith;
      left =
          λ more whole wiring over. sym
          (ap (counted s.ldp c.loop-passed.length) (with-hop wiring s.up to at more hop (c.in-Some.ensures.hop wiring over))
          ∙ count-on s.ldp c.loop-passed.length hop (hops_within wiring s.up to more hop.0) (sym c.has_ldp.ensures ∙ c.if-not-has_ldp.false))
          ∙ c.loop-passed.invariant.left (suc more) (omega (arith, whole)) wiring over;
    }

pub returns : goal.returns
returns c = λ wiring over.
    sym (count-end c.args.self.now.ldp c.loop-passed.length) ∙ c.loop-passed.invariant.left 0 (omega arith) wiring over
