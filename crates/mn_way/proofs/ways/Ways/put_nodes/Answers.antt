use Rattle.std.proofs.Common.{ℕ, suc, ◌+◌, ◌-◌, List, ◌∷◌, ◌++◌, [], map, sym, ap, ◌∙◌, arith, append_assoc}
use Rattle.std.specs.Prelude.{◌&&◌}
use Rattle.std.specs.List.{list_all}
use Rattle.mn_base.specs.declared.numbers.NodeNo.{NodeNo}
use Rattle.mn_base.proofs.Bools.{no}
use Rattle.mn_way.specs.Switched.{edge_at}
use Rattle.mn_way.specs.Way.{Hop, has_ldp, hops_within, numbered}
use Rattle.mn_way.proofs.Steps.{with-hop, at-end, left, no_more, front-of}
use Rattle.mn_way.proofs.ways.Ways.put_nodes.Goals as goal

abbrev numbers : List Hop → List NodeNo
numbers hops = map numbered (map (λ (hop : Hop). hop.0) hops)

-- LDP is off on the next link

pub returns-then-not-has_ldp-clause-behind : goal.returns-then-not-has_ldp-clause-behind
returns-then-not-has_ldp-clause-behind c = front-of c.args.path.now.items c.loop-passed.invariant.behind.0 c.loop-passed.path.items
    c.loop-passed.invariant.behind.1

pub returns-then-not-has_ldp-clause-on : goal.returns-then-not-has_ldp-clause-on
returns-then-not-has_ldp-clause-on c = λ wiring over.
    let s = c.args.self.now in
    let to = edge_at s c.args.edge in
    let passed = c.loop-passed._passed in
    let more : ℕ = c.args.most - (passed + 1) in
    let hop : Hop = (c.in-Some.hop.0.0, c.in-Some.hop.1.0) in
    sym (ap (list_all (has_ldp s.ldp)) (with-hop wiring s.up to c.loop-passed.at.0 more hop (c.in-Some.ensures.hop wiring over))
    ∙ ap (λ b. b && list_all (has_ldp s.ldp) (hops_within wiring s.up to more hop.0)) (sym c.has_ldp-has_ldp.ensures ∙ c.if-not-has_ldp.true))
    ∙ c.loop-passed.invariant.on (suc more) (left passed c.args.most c.loop-passed-test.true) wiring over

pub returns-then-not-has_ldp-clause-nodes : goal.returns-then-not-has_ldp-clause-nodes
returns-then-not-has_ldp-clause-nodes c = λ wiring over e. absurd (no e)

-- The way ends

pub returns-in-None-clause-behind : goal.returns-in-None-clause-behind
returns-in-None-clause-behind c = front-of c.args.path.now.items c.loop-passed.invariant.behind.0 c.loop-passed.path.items c.loop-passed.invariant.behind.1

pub returns-in-None-clause-on : goal.returns-in-None-clause-on
returns-in-None-clause-on c = λ wiring over.
    let s = c.args.self.now in
    let to = edge_at s c.args.edge in
    let passed = c.loop-passed._passed in
    let more : ℕ = c.args.most - (passed + 1) in
    sym (ap (list_all (has_ldp s.ldp)) (at-end wiring s.up to c.loop-passed.at.0 (suc more) (c.in-None.ensures.hop wiring over)))
    ∙ c.loop-passed.invariant.on (suc more) (left passed c.args.most c.loop-passed-test.true) wiring over

pub returns-in-None-clause-nodes : goal.returns-in-None-clause-nodes
returns-in-None-clause-nodes c = λ wiring over e.
    let s = c.args.self.now in
    let to = edge_at s c.args.edge in
    let path = c.loop-passed.path.items in
    let passed = c.loop-passed._passed in
    let more : ℕ = c.args.most - (passed + 1) in
    no_more path
    ∙ sym (ap (λ hops. path ++ numbers hops) (at-end wiring s.up to c.loop-passed.at.0 (suc more) (c.in-None.ensures.hop wiring over)))
    ∙ c.loop-passed.invariant.left (suc more) (left passed c.args.most c.loop-passed-test.true) wiring over

-- One hop more

pub loop-passed-preserved : goal.loop-passed-preserved
loop-passed-preserved c =
    let s = c.args.self.now in
    let to = edge_at s c.args.edge in
    let path = c.loop-passed.path.items in
    let hop : Hop = (c.in-Some.hop.0.0, c.in-Some.hop.1.0) in
    record {
      here = c.in-Some.ensures.there.0;
      behind = (
        c.loop-passed.invariant.behind.0 ++ c.in-Some.hop.0 ∷ [],
        c.in_ok-push-in-Some.ensures.items ∙ ap (λ ns. ns ++ c.in-Some.hop.0 ∷ []) c.loop-passed.invariant.behind.1
            ∙ append_assoc c.args.path.now.items c.loop-passed.invariant.behind.0 (c.in-Some.hop.0 ∷ []),
      );
      on = λ more whole wiring over.
          sym (ap (list_all (has_ldp s.ldp)) (with-hop wiring s.up to c.loop-passed.at.0 more hop (c.in-Some.ensures.hop wiring over))
          ∙ ap (λ b. b && list_all (has_ldp s.ldp) (hops_within wiring s.up to more hop.0)) (sym c.has_ldp-has_ldp.ensures ∙ c.if-not-has_ldp.false))
          ∙ c.loop-passed.invariant.on (suc more) (omega (arith, whole)) wiring over;
      left =
          λ more whole wiring over. ap (λ ls. ls ++ numbers (hops_within wiring s.up to more hop.0)) c.in_ok-push-in-Some.ensures.items
          ∙ append_assoc path (c.in-Some.hop.0 ∷ []) (numbers (hops_within wiring s.up to more hop.0))
          ∙ sym (ap (λ hops. path ++ numbers hops) (with-hop wiring s.up to c.loop-passed.at.0 more hop (c.in-Some.ensures.hop wiring over)))
          ∙ c.loop-passed.invariant.left (suc more) (omega (arith, whole)) wiring over;
    }

pub returns-clause-behind : goal.returns-clause-behind
returns-clause-behind c = front-of c.args.path.now.items c.loop-passed.invariant.behind.0 c.loop-passed.path.items c.loop-passed.invariant.behind.1

pub returns-clause-on : goal.returns-clause-on
returns-clause-on c = λ wiring over. c.loop-passed.invariant.on 0 (omega arith) wiring over

pub returns-clause-nodes : goal.returns-clause-nodes
returns-clause-nodes c = λ wiring over e.
    no_more c.loop-passed.path.items ∙ c.loop-passed.invariant.left 0 (omega arith) wiring over
