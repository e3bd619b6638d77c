use Rattle.std.proofs.Common.{◌∙◌, sym}
use Rattle.std.proofs.lemmas.Result.{on_ok_weaker}
use Rattle.mn_reach_run.proofs.Lasting.{setting_played, failures_played, whole_cut, lasts_behind_setting, lasts_behind_failures}
use Rattle.mn_reach_run.proofs.play.play_line.Goals as goal

pub returns-then-is_setting-clause-told : goal.returns-then-is_setting-clause-told
returns-then-is_setting-clause-told g c = setting_played c.args.topology.now c.args.manner c.args.line.now _ (sym c.is_setting.ensures ∙ c.if-is_setting.true)

pub returns-then-is_setting-clause-lasts : goal.returns-then-is_setting-clause-lasts
returns-then-is_setting-clause-lasts g c =
    lasts_behind_setting c.args.topology.now c.args.manner c.args.line.now c.args.player.now.found c.requires.fits (sym c.is_setting.ensures
    ∙ c.if-is_setting.true)
    c.requires.lasts

pub returns-in_err-tell_if_new-clause-told : goal.returns-in_err-tell_if_new-clause-told
returns-in_err-tell_if_new-clause-told g c =
    whole_cut c.args.topology.now c.args.manner c.args.line.now _ _ c.in_err-tell_if_new.field-0.0 _ c.from_residual.ensures
    (sym c.is_setting.ensures ∙ c.if-is_setting.false) c.in_err-tell_if_new.ensures.told

pub returns-clause-told : goal.returns-clause-told
returns-clause-told g c =
    failures_played c.args.topology.now c.args.manner c.args.line.now _ _ _ c.play_failures.result (sym c.is_setting.ensures ∙ c.if-is_setting.false)
    c.in_ok-tell_if_new.ensures.told c.play_failures.ensures.told

pub returns-clause-lasts : goal.returns-clause-lasts
returns-clause-lasts g c =
    on_ok_weaker c.play_failures.result
    (lasts_behind_failures c.args.topology.now c.args.manner c.args.line.now _ (sym c.is_setting.ensures ∙ c.if-is_setting.false)) c.play_failures.ensures.known
