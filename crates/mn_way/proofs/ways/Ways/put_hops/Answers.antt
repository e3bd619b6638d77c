use Rattle.std.proofs.Common.{ℕ, suc, ◌+◌, ◌-◌, List, ◌∷◌, ◌++◌, [], map, sym, ap, ◌∙◌, arith, append_assoc}
use Rattle.mn_base.specs.declared.numbers.LinkNo.{LinkNo}
use Rattle.mn_way.specs.Switched.{edge_at}
use Rattle.mn_way.specs.Way.{Hop, hops_within, links_on, link_numbered}
use Rattle.mn_way.proofs.Steps.{with-hop, at-end, left, no_more}
use Rattle.mn_way.proofs.ways.Ways.put_hops.Goals as goal

abbrev numbers : List Hop → List LinkNo
numbers hops = map link_numbered (links_on hops)

pub returns-in-None : goal.returns-in-None
returns-in-None c = λ wiring over.
    let s = c.args.self.now in
    let to = edge_at s c.args.edge in
    let links = c.loop-passed.links.items in
    let passed = c.loop-passed._passed in
    let more : ℕ = c.args.most - (passed + 1) in
    no_more links
    ∙ sym (ap (λ hops. links ++ numbers hops) (at-end wiring s.up to c.loop-passed.at.0 (suc more) (c.in-None.ensures.hop wiring over)))
    ∙ c.loop-passed.invariant.left (suc more) (left passed c.args.most c.loop-passed-test.true) wiring over

pub loop-passed-preserved : goal.loop-passed-preserved
loop-passed-preserved c =
    let s = c.args.self.now in
    let to = edge_at s c.args.edge in
    let links = c.loop-passed.links.items in
    let hop : Hop = (c.in-Some.hop.0.0, c.in-Some.hop.1.0) in
    record {
      here = c.in-Some.ensures.there.0;
      left =
          λ more whole wiring over. ap (λ ls. ls ++ numbers (hops_within wiring s.up to more hop.0)) c.in_ok-push-in-Some.ensures.items
          ∙ append_assoc links (c.in-Some.hop.1 ∷ []) (numbers (hops_within wiring s.up to more hop.0))
          ∙ sym (ap (λ hops. links ++ numbers hops) (with-hop wiring s.up to c.loop-passed.at.0 more hop (c.in-Some.ensures.hop wiring over)))
          ∙ c.loop-passed.invariant.left (suc more) (omega (arith, whole)) wiring over;
    }

pub returns : goal.returns
returns c = λ wiring over.
    no_more c.loop-passed.links.items ∙ c.loop-passed.invariant.left 0 (omega arith) wiring over
