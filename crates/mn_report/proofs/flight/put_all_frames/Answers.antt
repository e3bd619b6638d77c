use Rattle.std.proofs.Common.{◌<◌, ◌≤◌, refl, ◌∙◌, arith}
use Rattle.std.specs.Prelude.{length}
use Rattle.mn_ledger.specs.Items.{flight_of}
use Rattle.mn_output_laws.specs.Tables.{frames_lines}
use Rattle.mn_tables.proofs.Telling.{told_nothing, told_next_number, tells_cut_number, tells_all_numbers, counted_err}
use Rattle.mn_report.proofs.flight.put_all_frames.Goals as goal

pub loop-link-init : goal.loop-link-init
loop-link-init g c = record { told = λ inputs h. told_nothing _; faults = refl }

pub loop-link-preserved : goal.loop-link-preserved
loop-link-preserved g c =
    let below : c.loop-link.link < length c.args.net.now.topology.links = omega arith in
    record {
      told = λ inputs h. told_next_number (frames_lines c.args.net.now.topology (flight_of c.args.net.now.topology c.args.net.now.journal inputs).items)
          (length c.args.net.now.topology.links) c.loop-link.link _ _ _ below
          (c.loop-link.invariant.told inputs h) (c.in_ok-put_frames_of.ensures.told inputs h);
      faults = c.in_ok-put_frames_of.ensures.cause ∙ c.loop-link.invariant.faults;
    }

pub returns-in_err-put_frames_of-clause-told : goal.returns-in_err-put_frames_of-clause-told
returns-in_err-put_frames_of-clause-told g c = λ inputs h.
    let below : c.loop-link.link < length c.args.net.now.topology.links = omega arith in
    tells_cut_number (frames_lines c.args.net.now.topology (flight_of c.args.net.now.topology c.args.net.now.journal inputs).items)
    (length c.args.net.now.topology.links) c.loop-link.link _ _ _ _ _ c.from_residual.ensures below
    (c.loop-link.invariant.told inputs h) (c.in_err-put_frames_of.ensures.told inputs h)

pub returns-in_err-put_frames_of-clause-cause : goal.returns-in_err-put_frames_of-clause-cause
returns-in_err-put_frames_of-clause-cause g c = counted_err _ _ _ _ _ c.from_residual.ensures c.loop-link.invariant.faults c.in_err-put_frames_of.ensures.cause

pub returns-clause-told : goal.returns-clause-told
returns-clause-told g c = λ inputs h.
    let past : length c.args.net.now.topology.links ≤ c.loop-link.link = omega arith in
    tells_all_numbers (frames_lines c.args.net.now.topology (flight_of c.args.net.now.topology c.args.net.now.journal inputs).items)
    (length c.args.net.now.topology.links) c.loop-link.link _ _ past (c.loop-link.invariant.told inputs h)

pub returns-clause-cause : goal.returns-clause-cause
returns-clause-cause g c = c.loop-link.invariant.faults
