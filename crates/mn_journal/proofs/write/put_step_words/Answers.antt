use Rattle.std.proofs.Common.{sym, ap, ◌∙◌}
use Rattle.mn_topo.specs.Steps.{fits}
use Rattle.mn_journal.proofs.Plain.{ordered_are_nodes, edges_are_nodes}
use Rattle.mn_journal.proofs.write.put_step_words.Goals as goal

pub put_nodes-requires : goal.put_nodes-requires
put_nodes-requires c =
    ordered_are_nodes c.args.topology.now c.in-BgpUp.a c.in-BgpUp.b c.laws.ensures (ap (fits c.args.topology.now) (sym c.in-BgpUp.is) ∙ c.requires)

pub put_nodes-requires-in-BgpDown : goal.put_nodes-requires-in-BgpDown
put_nodes-requires-in-BgpDown c =
    ordered_are_nodes c.args.topology.now c.in-BgpDown.a c.in-BgpDown.b c.laws.ensures (ap (fits c.args.topology.now) (sym c.in-BgpDown.is) ∙ c.requires)

pub put_nodes-requires-in-HearBgp : goal.put_nodes-requires-in-HearBgp
put_nodes-requires-in-HearBgp c =
    edges_are_nodes c.args.topology.now c.in-HearBgp.a c.in-HearBgp.b c.laws.ensures (ap (fits c.args.topology.now) (sym c.in-HearBgp.is) ∙ c.requires)
