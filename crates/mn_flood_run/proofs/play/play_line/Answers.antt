use Rattle.std.proofs.Common.{ap}
use Rattle.mn_flood_laws.specs.Flood.{Change, Hear}
use Rattle.mn_flood_run.specs.Language.{ordered}
use Rattle.mn_flood_run.proofs.Courses.{line_follows, drain_follows}
use Rattle.mn_flood_run.proofs.play.play_line.Goals as goal

pub returns-in-Change-clause-played : goal.returns-in-Change-clause-played
returns-in-Change-clause-played c =
    line_follows c.answer_of.result c.change.result c.args.line c.args.flood.now c.change.new.self (Change c.in-Change.link.0 c.in-Change.up)
    c.done-steps.result
    (ap ordered c.in-Change.is) (c.change.ensures.refused, c.change.ensures.unchanged, c.change.ensures.done, c.change.ensures.else_memory) c.done-steps.ensures
    c.answer_of.ensures

pub returns-in-Hear-clause-played : goal.returns-in-Hear-clause-played
returns-in-Hear-clause-played c =
    line_follows c.answer_of-in-Hear.result c.hear.result c.args.line c.args.flood.now c.hear.new.self (Hear c.in-Hear.link.0 c.in-Hear.dir) c.done-steps.result
    (ap ordered c.in-Hear.is) (c.hear.ensures.refused, c.hear.ensures.unchanged, c.hear.ensures.done, c.hear.ensures.else_memory) c.done-steps.ensures
    c.answer_of-in-Hear.ensures

pub returns-in-Drain-clause-played : goal.returns-in-Drain-clause-played
returns-in-Drain-clause-played c =
    drain_follows c.drain.result c.args.line c.args.flood.now c.drain.new.flood (ap ordered c.in-Drain.is) c.drain.ensures.drained
