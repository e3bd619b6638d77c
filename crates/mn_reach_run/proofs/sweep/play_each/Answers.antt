use Rattle.std.proofs.Common.{◌∙◌, sym, ap, [], ◌∷◌}
use Rattle.std.specs.List.{flat_map, range_with_len}
use Rattle.mn_failures.specs.Failures.{each_of, each_bgp, each_many, links, nodes}
use Rattle.mn_reach_run.specs.declared.sweep.Kind.TheVariants as kind
use Rattle.mn_reach_run.specs.Sweeping.{part_of, alone, count_of}
use Rattle.mn_reach_run.proofs.Sweeping.{sweeps_as, mapped}
use Rattle.mn_reach_run.proofs.sweep.play_each.Goals as goal

pub returns-in-Link-clause-told : goal.returns-in-Link-clause-told
returns-in-Link-clause-told g c =
    sweeps_as c.args.at.topology.now c.args.at.settings c.args.at.line
    (flat_map (alone kind.Link) (range_with_len 0 (count_of c.args.at.topology.now kind.Link)))
    (each_of c.args.at.topology.now c.args.each) _ _ c.play_kind.result
    (mapped (λ l. part_of kind.Link l ∷ []) (links c.args.at.topology.now) ∙ sym (ap (each_of c.args.at.topology.now) c.in-Link.is)) c.play_kind.ensures.told

pub returns-in-Ldp-clause-told : goal.returns-in-Ldp-clause-told
returns-in-Ldp-clause-told g c =
    sweeps_as c.args.at.topology.now c.args.at.settings c.args.at.line (flat_map (alone kind.Ldp) (range_with_len 0 (count_of c.args.at.topology.now kind.Ldp)))
    (each_of c.args.at.topology.now c.args.each) _ _ c.play_kind-in-Ldp.result
    (mapped (λ l. part_of kind.Ldp l ∷ []) (links c.args.at.topology.now)
    ∙ sym (ap (each_of c.args.at.topology.now) c.in-Ldp.is)) c.play_kind-in-Ldp.ensures.told

pub returns-in-Node-clause-told : goal.returns-in-Node-clause-told
returns-in-Node-clause-told g c =
    sweeps_as c.args.at.topology.now c.args.at.settings c.args.at.line
    (flat_map (alone kind.Node) (range_with_len 0 (count_of c.args.at.topology.now kind.Node)))
    (each_of c.args.at.topology.now c.args.each) _ _ c.play_kind-in-Node.result
    (mapped (λ l. part_of kind.Node l ∷ []) (nodes c.args.at.topology.now)
    ∙ sym (ap (each_of c.args.at.topology.now) c.in-Node.is)) c.play_kind-in-Node.ensures.told

pub returns-in-Bgp-clause-told : goal.returns-in-Bgp-clause-told
returns-in-Bgp-clause-told g c =
    sweeps_as c.args.at.topology.now c.args.at.settings c.args.at.line (each_bgp c.args.at.topology.now) (each_of c.args.at.topology.now c.args.each) _ _
    c.play_sessions.result (sym (ap (each_of c.args.at.topology.now) c.in-Bgp.is)) c.play_sessions.ensures.told

pub returns-in-Links-clause-told : goal.returns-in-Links-clause-told
returns-in-Links-clause-told g c =
    sweeps_as c.args.at.topology.now c.args.at.settings c.args.at.line
    (each_many c.args.at.topology.now c.in-Links.many c.in-Links.from c.in-Links.to) (each_of c.args.at.topology.now c.args.each) _ _
    c.play_many.result (sym (ap (each_of c.args.at.topology.now) c.in-Links.is)) c.play_many.ensures.told
