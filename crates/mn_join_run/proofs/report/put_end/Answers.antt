use Rattle.std.proofs.Common.{[], ◌∷◌, sym, ap, ◌∙◌}
use Rattle.std.specs.Prelude.{codes}
use Rattle.mn_lines.specs.Lines.{text}
use Rattle.mn_lines.specs.Names.{names_of}
use Rattle.mn_tables.proofs.Telling.{tells_as}
use Rattle.mn_topo.specs.Network.{Network}
use Rattle.mn_join_run.specs.Report.{verdict_text, end_text}
use Rattle.mn_join_run.proofs.Reading.{topology_is}
use Rattle.mn_join_run.proofs.report.put_end.Goals as goal

pub returns-in-Judged : goal.returns-in-Judged
returns-in-Judged g c = λ pairing both stands. tells_as _ _ _ _ _ c.put_verdict.ensures
    (ap (λ (t : Network). verdict_text (names_of t) c.in-Judged.verdict)
    (c.topology.ensures ∙ ap (λ n. n.topology) c.net.ensures ∙ topology_is pairing c.args.pair.now both stands c.in-Judged.which)
    ∙ ap (end_text pairing) (sym c.in-Judged.is))

pub returns-in-Refused : goal.returns-in-Refused
returns-in-Refused g c = λ pairing both stands. tells_as _ _ _ _ _ c.put_pieces.ensures
    (ap (λ cause. text (codes "refused " ∷ cause ∷ codes "\n" ∷ [])) (c.as_bytes-cause.ensures.value ∙ c.cause_name.ensures)
    ∙ ap (end_text pairing) (sym c.in-Refused.is))
