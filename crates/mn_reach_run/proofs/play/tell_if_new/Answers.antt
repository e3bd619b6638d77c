use Rattle.mn_reach_run.proofs.Lasting.{told_before, told_anew, whole_played}
use Rattle.mn_reach_run.proofs.play.tell_if_new.Goals as goal

pub returns-then-manner-clause-told : goal.returns-then-manner-clause-told
returns-then-manner-clause-told g c = told_before c.args.topology.now c.args.manner _ c.if-manner.true

pub returns-clause-told : goal.returns-clause-told
returns-clause-told g c =
    told_anew c.args.topology.now c.args.manner _ _ c.tell_whole.result c.if-manner.false
    (whole_played c.args.topology.now c.args.manner.settings c.args.player.now.sums _ _ c.tell_whole.result c.tell_whole.ensures.told)
