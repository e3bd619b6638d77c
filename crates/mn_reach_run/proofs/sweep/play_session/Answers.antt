use Rattle.std.proofs.Common.{◌∙◌, sym, ap, []}
use Rattle.std.specs.Prelude.{◌∷◌, if◌then◌else◌, Ok}
use Rattle.mn_failures.specs.declared.command.Part.TheVariants.{BgpDown}
use Rattle.mn_failures.specs.Failures.{session_of}
use Rattle.mn_reach_run.proofs.Sweeping.{sweeps_none, sweeps_as}
use Rattle.mn_reach_run.proofs.sweep.play_session.Goals as goal

pub returns-then-not-is_session-clause-told : goal.returns-then-not-is_session-clause-told
returns-then-not-is_session-clause-told g c =
    sweeps_as c.args.at.topology.now c.args.at.settings c.args.at.line [] (session_of c.args.at.topology.now c.args.one c.args.other) _ _ (Ok tt)
    (sym (ap (λ b. if b then (BgpDown (record { 0 = c.args.one }) (record { 0 = c.args.other }) ∷ []) ∷ [] else [])
    (sym c.is_session.ensures ∙ c.if-not-is_session.true))) (sweeps_none c.args.at.topology.now c.args.at.settings c.args.at.line _)

pub returns-clause-told : goal.returns-clause-told
returns-clause-told g c =
    sweeps_as c.args.at.topology.now c.args.at.settings c.args.at.line
    ((BgpDown (record { 0 = c.args.one }) (record { 0 = c.args.other }) ∷ []) ∷ []) (session_of c.args.at.topology.now c.args.one c.args.other) _ _ _
    (sym (ap (λ b. if b then (BgpDown (record { 0 = c.args.one }) (record { 0 = c.args.other }) ∷ []) ∷ [] else [])
    (sym c.is_session.ensures ∙ c.if-not-is_session.false))) c.play_one.ensures.told
