use Rattle.std.proofs.Common.{arith}
use Rattle.std.proofs.lemmas.Grind.{common_steps}
use Rattle.mn_transit.proofs.Arriving.{stands_dropped, stands_delivered, stands_hopped}
use Rattle.mn_transit.proofs.transit.Transit.arrive.Goals as goal

pub returns-in-Drop-clause-stands : goal.returns-in-Drop-clause-stands
returns-in-Drop-clause-stands c =
    λ given world packets token. stands_dropped _ given world _ _ packets token c.args.node _ c.args.flown c.in-Drop.rule _ c.laws.ensures c.requires.node
    c.in-Drop.ensures.cases c.judge.ensures

pub returns-in-Site-clause-stands : goal.returns-in-Site-clause-stands
returns-in-Site-clause-stands c =
    λ given world packets token. stands_delivered _ given world _ _ packets token _ _ c.args.flown c.in-Site.site _ c.top.result _ c.laws.ensures
    c.requires.node c.in-Site.ensures.cases c.top.ensures.top c.saturating_sub-ttl.ensures c.deliver.ensures

pub returns-in-Next-clause-stands : goal.returns-in-Next-clause-stands
returns-in-Next-clause-stands c =
    λ given world packets token. stands_hopped _ given world _ _ packets token c.args.node c.in-Next.next _ c.args.flown _ c.laws.ensures c.requires.node
    c.in-Next.ensures.cases c.hop.ensures.stands

pub hop-requires : goal.hop-requires
hop-requires c = record {
  may = record {
    place = c.requires.place;
    hops = record { one = grind (arith, common_steps); hops = grind (arith, common_steps) };
    entry = grind (arith, common_steps);
  };
}
