use Rattle.std.proofs.Common.{refl, []}
use Rattle.std.specs.Prelude.{Some, None}
use Rattle.mn_answer.proofs.Ending.{sink_answers}
use Rattle.mn_reach_run.specs.Answer.{reach_done}
use Rattle.mn_reach_run.specs.Fates.{failure_under, network_by}
use Rattle.mn_reach_run.proofs.Fated.{lawful_by}
use Rattle.mn_reach_run.proofs.Endings.{failures_told, writes_none}
use Rattle.mn_reach_run.proofs.run.reach_whole.Goals as goal

pub returns-clause-answers : goal.returns-clause-answers
returns-clause-answers g c = λ files is.
    sink_answers (Some (reach_done c.args.topology.now [])) files _ _ _ (g.O.Sink.faults c.args.out.now) (g.O.Sink.faults c.reach_lines.new.out)
    c.reach_lines.result
    (writes_none c.args.topology.now []) is c.reach_lines.ensures.outcome c.reach_lines.ensures.text c.reach_lines.ensures.cause

pub returns-clause-told : goal.returns-clause-told
returns-clause-told g c = λ files is before begun.
    failures_told c.args.topology.now None [] files before _ c.reach_lines.result refl
    (λ resolve ends parts. c.each_packet_comes_to_its_fate.ensures (network_by c.args.topology.now resolve) (failure_under c.args.topology.now ends parts)
    (lawful_by c.args.topology.now resolve c.laws.ensures))
    (c.reach_lines.ensures.text before begun) c.reach_lines.ensures.outcome
