use Rattle.mn_reflect_run.proofs.Plays.{refusal_cut, shown_cut, full_line}
use Rattle.mn_reflect_run.proofs.play.put_told.Goals as goal

pub returns-in_err-put_refusal-in-Refused-clause-told : goal.returns-in_err-put_refusal-in-Refused-clause-told
returns-in_err-put_refusal-in-Refused-clause-told g c = λ reflectors steps shows.
    refusal_cut c.args.topology.now reflectors steps c.args.line c.args.played c.in-Refused.cause _ _ c.in_err-put_refusal-in-Refused.field-0.0 _
    c.in-Refused.is
    c.from_residual.ensures c.in_err-put_refusal-in-Refused.ensures

pub returns-in_err-put_shown-in-All-clause-told : goal.returns-in_err-put_shown-in-All-clause-told
returns-in_err-put_shown-in-All-clause-told g c = λ reflectors steps shows.
    shown_cut c.args.topology.now reflectors steps c.args.line c.args.played _ _ c.in_err-put_shown-in-All.field-0.0 _ c.in-All.is
    c.from_residual-in_err-put_shown-in-All.ensures (c.in_err-put_shown-in-All.ensures reflectors steps shows)

pub returns-in-TooManySteps-clause-told : goal.returns-in-TooManySteps-clause-told
returns-in-TooManySteps-clause-told g c = λ reflectors steps shows.
    full_line c.args.topology.now reflectors steps c.args.line c.args.played _ 0 c.in-TooManySteps.is
