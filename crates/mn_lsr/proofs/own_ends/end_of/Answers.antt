use Rattle.std.proofs.Common.{sym, None}
use Rattle.mn_lsr.specs.declared.own_ends.End.{End}
use Rattle.mn_lsr.proofs.Noted.{no_end, end_at, is_here, none_before, none_there}
use Rattle.mn_lsr.proofs.own_ends.end_of.Goals as goal

pub returns-in-Err : goal.returns-in-Err
returns-in-Err c =
    sym (no_end c.args.ends.now c.args.link.0 (none_there c.args.ends.now c.requires c.args.link.0 c.in-Err.field-0 c.in-Err.ensures.place))

pub returns-in-Ok : goal.returns-in-Ok
returns-in-Ok c =
    let es = c.args.ends.now in
    let l = c.args.link.0 in
    let here = c.in-Ok.place in
    let none : End = record { link = record { 0 = 0 }; noted = None } in
    sym (end_at es here l none c.in-Ok.ensures.bound
    (is_here es c.requires l here c.in-Ok.ensures.bound c.in-Ok.ensures.place none)
    (none_before es c.requires l here c.in-Ok.ensures.bound c.in-Ok.ensures.place none))
