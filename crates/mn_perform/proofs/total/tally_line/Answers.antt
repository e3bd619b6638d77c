use Rattle.std.proofs.Common.{refl, sym, subst, arith}
use Rattle.mn_course_laws.specs.Expansion.{with_line}
use Rattle.mn_sched.specs.declared.line.Played.TheVariants.{All, Refused, NoRecord}
use Rattle.mn_perform.specs.declared.ended.Ended.TheVariants as ended
use Rattle.mn_perform.specs.Memory.{packets_at}
use Rattle.mn_perform.specs.Total.{PlayedTo}
use Rattle.mn_perform.proofs.Played.{not_shown}
use Rattle.mn_perform.proofs.Totals.{table_passed, line_counted, line_met_full}
use Rattle.mn_perform.proofs.total.tally_line.Goals as goal

pub returns-in-Show-clause-played : goal.returns-in-Show-clause-played
returns-in-Show-clause-played c = λ run running plays.
    subst (λ k. PlayedTo c.args.net.now.topology (packets_at c.args.capture.now)
    (with_line c.args.net.now.topology (packets_at c.args.capture.now) run (record { number = c.args.line.now.number; command = k })) c.args.net.now
    c.args.refused.now ended.All)
    (sym c.in-Show.is) (table_passed _ _ run c.args.line.now.number c.in-Show.field-0 c.args.net.now c.args.refused.now running plays)

pub returns-in-Ok-All-clause-played : goal.returns-in-Ok-All-clause-played
returns-in-Ok-All-clause-played c = λ run running plays.
    line_counted _ _ run c.args.line.now _ c.play.new.net _ _ running plays All (not_shown c.args.line.now.command c.in_default.not-Show)
    (rw c.in-Ok-All.field-0-is at (c.in-Ok-All.ensures.course _ refl)) c.play.ensures.topology (c.in-Ok-All.ensures.after _ refl).0 (omega arith)

pub returns-in-Ok-Refused-clause-played : goal.returns-in-Ok-Refused-clause-played
returns-in-Ok-Refused-clause-played c = λ run running plays.
    line_counted _ _ run c.args.line.now _ c.play.new.net _ _ running plays (Refused c.in-Ok-Refused.field-0-0)
    (not_shown c.args.line.now.command c.in_default.not-Show)
    (rw c.in-Ok-Refused.field-0-is at (c.in-Ok-Refused.ensures.course _ refl)) c.play.ensures.topology (c.in-Ok-Refused.ensures.after _ refl).0 refl

pub returns-in-Ok-NoRecord-clause-played : goal.returns-in-Ok-NoRecord-clause-played
returns-in-Ok-NoRecord-clause-played c = λ run running plays.
    line_counted _ _ run c.args.line.now _ c.play.new.net _ _ running plays NoRecord (not_shown c.args.line.now.command c.in_default.not-Show)
    (rw c.in-Ok-NoRecord.field-0-is at (c.in-Ok-NoRecord.ensures.course _ refl)) c.play.ensures.topology (c.in-Ok-NoRecord.ensures.after _ refl).0 refl

pub returns-in-Err-TooManySteps-clause-played : goal.returns-in-Err-TooManySteps-clause-played
returns-in-Err-TooManySteps-clause-played c = λ run running plays.
    line_met_full _ _ run c.args.line.now _ c.play.new.net c.args.refused.now c.args.refused.now running plays
    (rw c.in-Err-TooManySteps.field-0-is at (c.in-Err-TooManySteps.ensures.course _ refl)) c.play.ensures.topology
    (rw c.in-Err-TooManySteps.field-0-is at (c.in-Err-TooManySteps.ensures.after) _ refl).0
