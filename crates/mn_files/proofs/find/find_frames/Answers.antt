use Rattle.std.proofs.Common.{◌≡◌, ◌≢◌, ◌+◌, ◌<◌, ◌≤◌, length, refl, sym, ◌∙◌, ap, subst, arith, true, false}
use Rattle.mn_output_laws.specs.Files.{Frames}
use Rattle.mn_files.proofs.Finding.{is_there, frames_there}
use Rattle.mn_files.proofs.find.find_frames.Goals as goal

pub returns-else-link-links : goal.returns-else-link-links
returns-else-link-links c = λ number within is.
    let many : length c.links.result.now ≡ length c.args.topology.now.links = ap length c.links.ensures in
    let there : c.args.link.0 < length c.args.topology.now.links =
    frames_there c.args.topology.now c.args.link.0 (is_there c.args.topology.now number (Frames c.args.link.0) within is) in
    let past : length c.links.result.now ≤ c.args.link.0 = c.if-link-links.false in
    omega (arith, many, there, past)
