use Rattle.std.proofs.Common.{[], length, ◌∙◌, ap, arith}
use Rattle.std.proofs.lemmas.List.{get_or_default, length-map, length-replicate}
use Rattle.mn_ledger.specs.Places.{home_of}
use Rattle.mn_candidates.specs.declared.pairs.Pair.{Pair}
use Rattle.mn_reach.specs.Plans.{no_pair}
use Rattle.mn_reach.proofs.Listing.{by_home_none, by_home_more}
use Rattle.mn_reach.proofs.listed.pairs_by_home.Goals as goal

pub loop-number-init : goal.loop-number-init
loop-number-init c =
    by_home_none c.args.topology.now c.args.pairs.now c.in_ok-lists.lists.items
    (ap length c.in_ok-lists.ensures ∙ length-replicate _ [] ∙ ap (λ xs. length xs) c.nodes.ensures
    ∙ length-map c.args.topology.now.loopbacks (λ loopback. record { loopback = loopback }))

pub home_of-home-requires : goal.home_of-home-requires
home_of-home-requires c =
    c.requires c.loop-number.number c.index-pairs-number.result c.loop-number-test.true

pub add-requires : goal.add-requires
add-requires c = omega (arith, c.home_of-home.ensures.there, c.from.ensures, c.loop-number.invariant.each)

pub loop-number-preserved : goal.loop-number-preserved
loop-number-preserved c =
    let i = c.loop-number.number in
    by_home_more c.args.topology.now c.args.pairs.now i c.loop-number.lists.items c.add.new.lists.items c.from.result
    (c.from.ensures ∙ c.home_of-home.ensures.home
    ∙ ap (λ (pair : Pair). home_of c.args.topology.now pair.site.0)
    (get_or_default c.args.pairs.now i c.index-pairs-number.result no_pair c.loop-number-test.true))
    (omega (arith, c.home_of-home.ensures.there, c.from.ensures, c.loop-number.invariant.each)) c.in_ok-add.ensures c.loop-number.invariant

pub returns : goal.returns
returns c = record {
  each = c.loop-number.invariant.each;
  at = λ k h. c.loop-number.invariant.at k (omega (arith, h));
}
