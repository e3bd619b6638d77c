use Rattle.std.proofs.Common.{◌≡◌, ◌<◌, List, [], All, length, sym, ◌∙◌, ap, subst, arith}
use Rattle.std.specs.Prelude.{slice_index_or}
use Rattle.std.specs.List.{Contains}
use Rattle.std.proofs.lemmas.List.{get_or_default, length-replicate}
use Rattle.mn_base.specs.declared.numbers.LinkNo.{LinkNo}
use Rattle.mn_reach.specs.declared.plan.Prospect.{Prospect}
use Rattle.mn_reach.specs.Plans.{no_prospect}
use Rattle.mn_reach.proofs.Listing.{by_link_none, by_link_more}
use Rattle.mn_reach.proofs.listed.pairs_by_link.Goals as goal

pub loop-pair-init : goal.loop-pair-init
loop-pair-init c =
    by_link_none c.args.links c.args.prospects.now c.in_ok-lists.lists.items (ap length c.in_ok-lists.ensures ∙ length-replicate c.args.links [])

pub add_to_each-requires : goal.add_to_each-requires
add_to_each-requires c =
    let prospect = c.index-prospects-pair.result in
    subst (λ (links : List LinkNo). All (λ (link : LinkNo). link.0 < length c.loop-pair.lists.items) links)
    (sym c.as_slice.ensures)
    (λ k d h. subst (λ n. (slice_index_or (slice_index_or c.args.prospects.now c.loop-pair.pair prospect).links k d).0 < n) (sym c.loop-pair.invariant.each)
    (c.requires c.loop-pair.pair prospect c.loop-pair-test.true k d h))

pub loop-pair-preserved : goal.loop-pair-preserved
loop-pair-preserved c =
    let i = c.loop-pair.pair in
    let same : c.as_slice.result.now ≡ (slice_index_or c.args.prospects.now i no_prospect).links =
    c.as_slice.ensures
    ∙ ap (λ (p : Prospect). p.links) (get_or_default c.args.prospects.now i c.index-prospects-pair.result no_prospect c.loop-pair-test.true) in
    by_link_more c.args.links c.args.prospects.now i c.loop-pair.lists.items c.add_to_each.new.lists.items c.loop-pair.invariant
    c.in_ok-add_to_each.ensures.keep
    (λ link h. c.in_ok-add_to_each.ensures.added link (subst (λ (ls : List LinkNo). Contains ls link) (sym same) h))

pub returns : goal.returns
returns c = record {
  each = c.loop-pair.invariant.each;
  at = λ k link h. c.loop-pair.invariant.at k link (omega (arith, h));
}
