use Rattle.std.proofs.Common.{refl, ◌∙◌, subst}
use Rattle.mn_edge.specs.FaultLaws.{counted_out}
use Rattle.mn_edge.specs.Files.{file}
use Rattle.mn_answer.specs.Inputs.{TopologyIs, SecondIs, JointsAre, JointsFit, LinesAre, LinesFit, CaptureIs, CaptureOf}
use Rattle.mn_join_script.specs.Language.{join_says, line_fits}
use Rattle.mn_join_run.proofs.Loading.{first_on, second_on, joints_on, lines_on, all_read}
use Rattle.mn_join_run.proofs.Loading.{first_refused, second_refused, joints_refused, lines_refused, capture_refused}
use Rattle.mn_join_run.proofs.Loading.{first_absent, second_absent, joints_absent, lines_absent, capture_absent}
use Rattle.mn_join_run.proofs.load.load.Goals as goal

pub returns-in-Err-clause-answer : goal.returns-in-Err-clause-answer
returns-in-Err-clause-answer g c = λ m is.
    first_refused c.args.names.now m c.in-Err.outcome (subst (TopologyIs (file m c.args.names.now.first.now)) c.in-Err.is (c.in_ok-first.ensures.answer m is))

pub returns-in_err-first-clause-reads : goal.returns-in_err-first-clause-reads
returns-in_err-first-clause-reads g c =
    counted_out _ _ _ _ _ _ _ c.from_residual.ensures refl
    (λ absent m is. first_absent c.args.names.now m (absent m is))
    c.in_err-first.ensures.reads

pub returns-in-Err-2-clause-answer : goal.returns-in-Err-2-clause-answer
returns-in-Err-2-clause-answer g c = λ m is.
    second_refused c.args.names.now m c.in-Ok.first c.in-Err-2.outcome
    (first_on c.args.names.now m c.in-Ok.first (subst (TopologyIs (file m c.args.names.now.first.now)) c.in-Ok.is (c.in_ok-first.ensures.answer m is)))
    (subst (SecondIs (file m c.args.names.now.second.now)) c.in-Err-2.is (c.in_ok-second.ensures.answer m (c.in_ok-first.ensures.same ∙ is)))

pub returns-in_err-second-clause-reads : goal.returns-in_err-second-clause-reads
returns-in_err-second-clause-reads g c =
    counted_out _ _ _ _ _ _ _ c.from_residual-in_err-second.ensures c.in_ok-first.ensures.reads
    (λ absent m is. second_absent c.args.names.now m c.in-Ok.first (first_on c.args.names.now m c.in-Ok.first
    (subst (TopologyIs (file m c.args.names.now.first.now)) c.in-Ok.is (c.in_ok-first.ensures.answer m is))) (absent m (c.in_ok-first.ensures.same ∙ is)))
    c.in_err-second.ensures.reads

pub returns-in-Err-3-clause-answer : goal.returns-in-Err-3-clause-answer
returns-in-Err-3-clause-answer g c = λ m is.
    joints_refused c.args.names.now m c.in-Ok.first c.in-Ok-2.second c.in-Err-3.outcome
    (second_on c.args.names.now m c.in-Ok.first c.in-Ok-2.second
    (first_on c.args.names.now m c.in-Ok.first (subst (TopologyIs (file m c.args.names.now.first.now)) c.in-Ok.is (c.in_ok-first.ensures.answer m is)))
    (subst (SecondIs (file m c.args.names.now.second.now)) c.in-Ok-2.is (c.in_ok-second.ensures.answer m (c.in_ok-first.ensures.same ∙ is))))
    (subst (JointsAre c.in-Ok.first c.in-Ok-2.second (file m c.args.names.now.joints.now)) c.in-Err-3.is
    (c.in_ok-joints.ensures.answer m (c.in_ok-second.ensures.same ∙ c.in_ok-first.ensures.same ∙ is)))

pub returns-in_err-joints-clause-reads : goal.returns-in_err-joints-clause-reads
returns-in_err-joints-clause-reads g c =
    counted_out _ _ _ _ _ _ _ c.from_residual-in_err-joints.ensures (c.in_ok-second.ensures.reads ∙ c.in_ok-first.ensures.reads)
    (λ absent m is. joints_absent c.args.names.now m c.in-Ok.first c.in-Ok-2.second
    (second_on c.args.names.now m c.in-Ok.first c.in-Ok-2.second
    (first_on c.args.names.now m c.in-Ok.first (subst (TopologyIs (file m c.args.names.now.first.now)) c.in-Ok.is (c.in_ok-first.ensures.answer m is)))
    (subst (SecondIs (file m c.args.names.now.second.now)) c.in-Ok-2.is (c.in_ok-second.ensures.answer m (c.in_ok-first.ensures.same ∙ is))))
    (absent m (c.in_ok-second.ensures.same ∙ c.in_ok-first.ensures.same ∙ is)))
    c.in_err-joints.ensures.reads

pub returns-in-Err-4-clause-answer : goal.returns-in-Err-4-clause-answer
returns-in-Err-4-clause-answer g c = λ m is.
    lines_refused c.args.names.now m c.in-Ok.first c.in-Ok-2.second c.in-Ok-3.joints.items c.in-Err-4.outcome
    (joints_on c.args.names.now m c.in-Ok.first c.in-Ok-2.second c.in-Ok-3.joints
    (second_on c.args.names.now m c.in-Ok.first c.in-Ok-2.second
    (first_on c.args.names.now m c.in-Ok.first
    (subst (TopologyIs (file m c.args.names.now.first.now)) c.in-Ok.is (c.in_ok-first.ensures.answer m is)))
    (subst (SecondIs (file m c.args.names.now.second.now)) c.in-Ok-2.is (c.in_ok-second.ensures.answer m (c.in_ok-first.ensures.same
    ∙ is)))) (subst (JointsAre c.in-Ok.first c.in-Ok-2.second (file m c.args.names.now.joints.now)) c.in-Ok-3.is
    (c.in_ok-joints.ensures.answer m (c.in_ok-second.ensures.same ∙ c.in_ok-first.ensures.same ∙ is))))
    (subst (LinesAre (join_says c.in-Ok.first c.in-Ok-2.second) (file m c.args.names.now.script.now)) c.in-Err-4.is
    (c.in_ok-lines.ensures.answer m (c.in_ok-joints.ensures.same ∙ c.in_ok-second.ensures.same ∙ c.in_ok-first.ensures.same
    ∙ is)))

pub returns-in_err-lines-clause-reads : goal.returns-in_err-lines-clause-reads
returns-in_err-lines-clause-reads g c =
    counted_out _ _ _ _ _ _ _ c.from_residual-in_err-lines.ensures (c.in_ok-joints.ensures.reads ∙ c.in_ok-second.ensures.reads ∙ c.in_ok-first.ensures.reads)
    (λ absent m is. lines_absent c.args.names.now m c.in-Ok.first c.in-Ok-2.second c.in-Ok-3.joints.items
    (joints_on c.args.names.now m c.in-Ok.first c.in-Ok-2.second c.in-Ok-3.joints
    (second_on c.args.names.now m c.in-Ok.first c.in-Ok-2.second
    (first_on c.args.names.now m c.in-Ok.first
    (subst (TopologyIs (file m c.args.names.now.first.now)) c.in-Ok.is (c.in_ok-first.ensures.answer m is)))
    (subst (SecondIs (file m c.args.names.now.second.now)) c.in-Ok-2.is (c.in_ok-second.ensures.answer m (c.in_ok-first.ensures.same
    ∙ is)))) (subst (JointsAre c.in-Ok.first c.in-Ok-2.second (file m c.args.names.now.joints.now)) c.in-Ok-3.is
    (c.in_ok-joints.ensures.answer m (c.in_ok-second.ensures.same ∙ c.in_ok-first.ensures.same ∙ is))))
    (absent m (c.in_ok-joints.ensures.same ∙ c.in_ok-second.ensures.same ∙ c.in_ok-first.ensures.same ∙ is)))
    c.in_err-lines.ensures.reads

pub returns-in-Err-5-clause-answer : goal.returns-in-Err-5-clause-answer
returns-in-Err-5-clause-answer g c = λ m is.
    capture_refused c.args.names.now m c.in-Ok.first c.in-Ok-2.second c.in-Ok-3.joints.items c.in-Ok-4.lines.items c.in-Err-5.outcome
    (lines_on c.args.names.now m c.in-Ok.first c.in-Ok-2.second c.in-Ok-3.joints.items c.in-Ok-4.lines
    (joints_on c.args.names.now m c.in-Ok.first c.in-Ok-2.second c.in-Ok-3.joints
    (second_on c.args.names.now m c.in-Ok.first c.in-Ok-2.second
    (first_on c.args.names.now m c.in-Ok.first
    (subst (TopologyIs (file m c.args.names.now.first.now)) c.in-Ok.is (c.in_ok-first.ensures.answer m is)))
    (subst (SecondIs (file m c.args.names.now.second.now)) c.in-Ok-2.is (c.in_ok-second.ensures.answer m (c.in_ok-first.ensures.same
    ∙ is)))) (subst (JointsAre c.in-Ok.first c.in-Ok-2.second (file m c.args.names.now.joints.now)) c.in-Ok-3.is
    (c.in_ok-joints.ensures.answer m (c.in_ok-second.ensures.same ∙ c.in_ok-first.ensures.same ∙ is))))
    (subst (LinesAre (join_says c.in-Ok.first c.in-Ok-2.second) (file m c.args.names.now.script.now)) c.in-Ok-4.is
    (c.in_ok-lines.ensures.answer m (c.in_ok-joints.ensures.same ∙ c.in_ok-second.ensures.same
    ∙ c.in_ok-first.ensures.same ∙ is))))
    (subst (CaptureIs (file m c.args.names.now.capture.now)) c.in-Err-5.is
    (c.in_ok-capture.ensures.answer m (c.in_ok-lines.ensures.same ∙ c.in_ok-joints.ensures.same
    ∙ c.in_ok-second.ensures.same ∙ c.in_ok-first.ensures.same ∙ is)))

pub returns-in_err-capture-clause-reads : goal.returns-in_err-capture-clause-reads
returns-in_err-capture-clause-reads g c =
    counted_out _ _ _ _ _ _ _ c.from_residual-in_err-capture.ensures (c.in_ok-lines.ensures.reads ∙ c.in_ok-joints.ensures.reads ∙ c.in_ok-second.ensures.reads
    ∙ c.in_ok-first.ensures.reads)
    (λ absent m is. capture_absent c.args.names.now m c.in-Ok.first c.in-Ok-2.second c.in-Ok-3.joints.items c.in-Ok-4.lines.items
    (lines_on c.args.names.now m c.in-Ok.first c.in-Ok-2.second c.in-Ok-3.joints.items c.in-Ok-4.lines
    (joints_on c.args.names.now m c.in-Ok.first c.in-Ok-2.second c.in-Ok-3.joints
    (second_on c.args.names.now m c.in-Ok.first c.in-Ok-2.second
    (first_on c.args.names.now m c.in-Ok.first
    (subst (TopologyIs (file m c.args.names.now.first.now)) c.in-Ok.is (c.in_ok-first.ensures.answer m is)))
    (subst (SecondIs (file m c.args.names.now.second.now)) c.in-Ok-2.is (c.in_ok-second.ensures.answer m (c.in_ok-first.ensures.same
    ∙ is)))) (subst (JointsAre c.in-Ok.first c.in-Ok-2.second (file m c.args.names.now.joints.now)) c.in-Ok-3.is
    (c.in_ok-joints.ensures.answer m (c.in_ok-second.ensures.same ∙ c.in_ok-first.ensures.same ∙ is))))
    (subst (LinesAre (join_says c.in-Ok.first c.in-Ok-2.second) (file m c.args.names.now.script.now)) c.in-Ok-4.is
    (c.in_ok-lines.ensures.answer m (c.in_ok-joints.ensures.same ∙ c.in_ok-second.ensures.same
    ∙ c.in_ok-first.ensures.same ∙ is)))) (absent m (c.in_ok-lines.ensures.same ∙ c.in_ok-joints.ensures.same
    ∙ c.in_ok-second.ensures.same ∙ c.in_ok-first.ensures.same ∙ is)))
    c.in_err-capture.ensures.reads

pub returns-in-Ok-5-clause-answer : goal.returns-in-Ok-5-clause-answer
returns-in-Ok-5-clause-answer g c = λ m is.
    all_read c.args.names.now m (record {
      first = c.in-Ok.first;
      second = c.in-Ok-2.second;
      joints = c.in-Ok-3.joints;
      lines = c.in-Ok-4.lines;
      capture =
          c.in-Ok-5.capture;
    })
    (subst (TopologyIs (file m c.args.names.now.first.now)) c.in-Ok.is (c.in_ok-first.ensures.answer m is))
    (subst (SecondIs (file m c.args.names.now.second.now)) c.in-Ok-2.is (c.in_ok-second.ensures.answer m (c.in_ok-first.ensures.same ∙ is)))
    (subst (JointsAre c.in-Ok.first c.in-Ok-2.second (file m c.args.names.now.joints.now)) c.in-Ok-3.is
    (c.in_ok-joints.ensures.answer m (c.in_ok-second.ensures.same ∙ c.in_ok-first.ensures.same ∙ is)))
    (subst (LinesAre (join_says c.in-Ok.first c.in-Ok-2.second) (file m c.args.names.now.script.now)) c.in-Ok-4.is
    (c.in_ok-lines.ensures.answer m (c.in_ok-joints.ensures.same ∙ c.in_ok-second.ensures.same ∙ c.in_ok-first.ensures.same ∙ is)))
    (subst (CaptureIs (file m c.args.names.now.capture.now)) c.in-Ok-5.is (c.in_ok-capture.ensures.answer m (c.in_ok-lines.ensures.same
    ∙ c.in_ok-joints.ensures.same ∙ c.in_ok-second.ensures.same ∙ c.in_ok-first.ensures.same ∙ is)))

pub returns-in-Ok-5-clause-fits : goal.returns-in-Ok-5-clause-fits
returns-in-Ok-5-clause-fits g c =
    let joined = subst (JointsFit c.in-Ok.first c.in-Ok-2.second) c.in-Ok-3.is c.in_ok-joints.ensures.fits in
    let fit = subst (LinesFit (line_fits c.in-Ok.first c.in-Ok-2.second)) c.in-Ok-4.is c.in_ok-lines.ensures.fits in (
      record { sites = joined.0; apart = joined.1; fit = fit.0 },
      subst (CaptureOf c.args.names.now.capture.now) c.in-Ok-5.is c.in_ok-capture.ensures.of,
    )
