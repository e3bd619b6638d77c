use Rattle.std.proofs.Common.{◌≡◌, ◌≢◌, ◌+◌, ◌<◌, ◌≤◌, length, refl, sym, ◌∙◌, ap, subst, arith, true, false}
use Rattle.mn_output_laws.specs.Files.{Said}
use Rattle.mn_files.proofs.Finding.{is_there, said_there}
use Rattle.mn_files.proofs.find.find_said.Goals as goal

pub returns-else-link-links : goal.returns-else-link-links
returns-else-link-links c = λ number within is.
    let many : length c.links.result.now ≡ length c.args.topology.now.links = ap length c.links.ensures in
    let there : c.args.link.0 < length c.args.topology.now.links =
    said_there c.args.topology.now c.args.link.0 c.args.dir (is_there c.args.topology.now number (Said c.args.link.0 c.args.dir) within is) in
    let past : length c.links.result.now ≤ c.args.link.0 = c.if-link-links.false in
    omega (arith, many, there, past)
