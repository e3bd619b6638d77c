use Rattle.std.proofs.Common.{ap, sym, subst, ◌∙◌}
use Rattle.mn_net_laws.specs.Now.{StandsFor}
use Rattle.mn_ledger.specs.Ledger.{packets_of}
use Rattle.mn_ledger.specs.Verdicts.{verdict_on}
use Rattle.mn_join_laws.specs.Pairing.{side}
use Rattle.mn_join_run.proofs.Reading.{works, stands_for, packets_are}
use Rattle.mn_join_run.proofs.ends.verdict_of.Goals as goal

pub verdict_on-requires : goal.verdict_on-requires
verdict_on-requires c = ap (λ n. n.failed) c.net.ensures ∙ works c.requires.pairing c.args.pair.now c.requires.both c.requires.become c.args.leg.which

pub returns : goal.returns
returns c = λ pairing both stands.
    c.verdict_on.ensures (side both c.args.leg.which).inputs
    (subst (λ n. StandsFor n (side both c.args.leg.which).inputs) (sym c.net.ensures) (stands_for pairing c.args.pair.now both stands c.args.leg.which))
    ∙ ap (λ n. verdict_on (packets_of n.topology n.journal (side both c.args.leg.which).inputs) c.args.leg.packet) c.net.ensures
    ∙ ap (λ p. verdict_on p c.args.leg.packet) (packets_are pairing c.args.pair.now both stands c.args.leg.which)
