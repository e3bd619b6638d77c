use Rattle.std.proofs.Common.{◌≡◌, ◌++◌, [], length, map, take, sym, ap, ◌∙◌, arith}
use Rattle.std.specs.Prelude.{unwrap_or}
use Rattle.mn_way.specs.Switched.{edge_at}
use Rattle.mn_way.specs.Way.{hops_within, numbered}
use Rattle.mn_way.proofs.Steps.{put-whole, put-none, label-path-is}
use Rattle.mn_way.proofs.ways.Ways.put_path.Goals as goal

pub returns-then-not-branch : goal.returns-then-not-branch
returns-then-not-branch c = λ wiring over.
    let s = c.args.self.now in
    let to = edge_at s c.args.edge in
    let old = c.args.path.now.items in
    let before : c.len-before.result ≡ length old = omega (arith, c.len-before.ensures, c.args.path.now.ok.0) in
    put-none s.ldp c.args.node.0 (hops_within wiring s.up to c.in-Some.cost c.args.node.0) old c.truncate.new.self.items
    (sym c.if-not-branch.true ∙ c.in_ok-put_nodes.ensures.on wiring over)
    (c.truncate.ensures.items ∙ ap (λ n. take n c.put_nodes.new.path.items) before ∙ c.in_ok-put_nodes.ensures.behind)
    ∙ ap (λ o. old ++ map numbered (unwrap_or o []))
    (sym (label-path-is wiring s.up s.ldp c.args.node.0 to c.in-Some.cost (c.in-Some.ensures.least wiring over)))

pub returns-else-not-branch : goal.returns-else-not-branch
returns-else-not-branch c = λ wiring over.
    let s = c.args.self.now in
    let to = edge_at s c.args.edge in
    let old = c.args.path.now.items in
    put-whole s.ldp c.args.node.0 (hops_within wiring s.up to c.in-Some.cost c.args.node.0) old c.put_nodes.new.path.items
    (sym c.if-not-branch.false ∙ c.in_ok-put_nodes.ensures.on wiring over) (c.in_ok-put_nodes.ensures.nodes wiring over c.if-not-branch.false)
    ∙ ap (λ o. old ++ map numbered (unwrap_or o []))
    (sym (label-path-is wiring s.up s.ldp c.args.node.0 to c.in-Some.cost (c.in-Some.ensures.least wiring over)))
