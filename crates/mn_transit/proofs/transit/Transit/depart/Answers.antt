use Rattle.std.proofs.Common.{arith, sym, ◌∙◌}
use Rattle.mn_transit.proofs.Leaving.{stands_left}
use Rattle.mn_transit.proofs.transit.Transit.depart.Goals as goal

pub returns-clause-stands : goal.returns-clause-stands
returns-clause-stands c = λ given world packets route bytes there apart mapped out pushed stands.
    stands_left _ given world _ _ packets route bytes _ c.args.node c.in-Some.next c.in-Some.label _ _ c.laws.ensures c.push_outer.ensures.entries
    c.push_outer.ensures.packet c.hop.ensures.stands
    there apart mapped (sym c.in-Some.is ∙ out) pushed stands

pub hop-requires : goal.hop-requires
hop-requires c = record {
  may = record {
    place = c.requires.may.place;
    hops = record { one = c.requires.may.hops.one; hops = omega (arith, c.push_outer.ensures.ttl, c.requires.may.hops.hops) };
    entry = c.push_outer.ensures.entry;
  };
}
