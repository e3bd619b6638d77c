use Rattle.std.proofs.Common.{rules, ◌≡◌, ◌∙◌, ap, length, replicate, false, Bool, List}
use Rattle.std.proofs.lemmas.List.{length-replicate}
use Rattle.mn_wiring.specs.declared.links.LinkEnds.{LinkEnds}
use Rattle.mn_flood.specs.Queue.{Queued}
use Rattle.mn_flood.proofs.Worlds.{start_shape, started}
use Rattle.mn_flood.proofs.world.World.new.Goals as goal

pub invariant_of-result : goal.invariant_of-result
invariant_of-result c =
    let down : c.in_ok-up.up.items ≡ replicate (length c.in_ok-links.links.ends) false = search rules in
    record {
      shaped = start_shape c.in_ok-links.links c.in_ok-up.up.items c.in_ok-kept.kept.items c.in_ok-queue.queue.sents c.nodes.result
          (ap (λ (bs : List Bool). length bs) down ∙ length-replicate (length c.in_ok-links.links.ends) false) c.nodes.ensures c.in_ok-kept.ensures;
      same_links = ap (λ (q : Queued). q.links) c.in_ok-queue.ensures ∙ ap (λ (es : List LinkEnds). length es) c.ends-count.ensures;
    }

pub returns : goal.returns
returns c =
    let down : c.in_ok-up.up.items ≡ replicate (length c.in_ok-links.links.ends) false = search rules in
    started _ c.in_ok-links.links c.in_ok-up.up.items c.in_ok-kept.kept.items c.nodes.result c.in_ok-queue.queue c.in_ok-links.ensures down c.nodes.ensures
    c.in_ok-kept.ensures
    (ap (λ (q : Queued). q.sents) c.in_ok-queue.ensures) (ap (λ (q : Queued). q.made) c.in_ok-queue.ensures)
