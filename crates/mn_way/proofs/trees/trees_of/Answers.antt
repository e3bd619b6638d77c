use Rattle.std.proofs.Common.{List, ◌∙◌, sym, ap, replicate, length, true, subst, All}
use Rattle.std.proofs.lemmas.List.Elements.{All-push}
use Rattle.mn_spf_inc.specs.Mended.{Mended}
use Rattle.mn_way.specs.Switched.{Follows, roots_of}
use Rattle.mn_way.proofs.Turning.{one-root}
use Rattle.mn_way.proofs.trees.trees_of.Goals as goal

pub loop-edge-preserved : goal.loop-edge-preserved
loop-edge-preserved c =
    let trees = c.loop-edge.trees.items in
    let new = c.in_ok-new.field-0 in
    let links = c.args.links.now in
    let items = c.in_ok-push.ensures.items in
    record {
      roots =
          ap roots_of items ∙ one-root trees new c.args.edges.now c.loop-edge.edge-index _ c.loop-edge-test.true c.loop-edge.invariant.roots
          c.in_ok-new.ensures.root;
      follow =
          subst (All (Follows links (replicate (length links.ends) true))) (sym {A = List Mended} items)
          (All-push (Follows links (replicate (length links.ends) true)) trees new c.loop-edge.invariant.follow c.in_ok-new.ensures.follows);
    }
