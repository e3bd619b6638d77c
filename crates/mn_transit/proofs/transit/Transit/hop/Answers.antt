use Rattle.std.proofs.Common.{sym, subst, length}
use Rattle.mn_transit.specs.Moving.{Moving, MayFly, CountsOn}
use Rattle.mn_transit.specs.Stands.{StandsFor}
use Rattle.mn_transit.proofs.Arriving.{stands_over}
use Rattle.mn_transit.proofs.Counts.{counts_sent}
use Rattle.mn_transit.proofs.transit.Transit.hop.Goals as goal

pub send-requires-clause-may : goal.send-requires-clause-may
send-requires-clause-may c =
    subst (λ (transit : Moving). MayFly c.args.topology.now c.args.clock.tick c.args.clock.number c.args.flown transit) (sym c.way.ensures.same)
    c.requires.may

pub returns-clause-stands : goal.returns-clause-stands
returns-clause-stands c = λ given packets token stands flies joined.
    stands_over _ given _ _ packets token _ _ c.in-Some.link c.in-Some.dir _ _ _ c.args.flown c.in-Some.ensures.leads c.send.ensures
    (subst (λ (transit : Moving). StandsFor c.args.topology.now given transit packets) (sym c.way.ensures.same) stands) flies

pub returns-clause-counts : goal.returns-clause-counts
returns-clause-counts c =
    subst (λ (transit : Moving). CountsOn transit c.send.new.self 0 0 (length c.args.flown.frame.packet)) c.way.ensures.same
    (counts_sent _ _ _ _ _ _ c.send.ensures)
