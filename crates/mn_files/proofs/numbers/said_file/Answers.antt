use Rattle.std.proofs.Common.{arith, length, ap, ◌≡◌, ◌+◌, ◌*◌, subst, sym}
use Rattle.mn_wiring.specs.declared.links.Dir.TheVariants.{Forth, Back}
use Rattle.mn_output_laws.specs.Files.{Said}
use Rattle.mn_files.specs.Numbers.{IsNumber}
use Rattle.mn_files.proofs.Places.{said_is}
use Rattle.mn_files.proofs.numbers.said_file.Goals as goal

pub returns-in-Forth : goal.returns-in-Forth
returns-in-Forth c =
    let many : length c.links.result.now ≡ length c.args.topology.now.links = ap length c.links.ensures in
    let number : c.from.result ≡ c.args.link.0 = c.from.ensures in
    subst (λ dir. IsNumber c.args.topology.now (3 + length c.links.result.now + 2 * c.from.result) (Said c.args.link.0 dir)) (sym c.in-Forth.is)
    (said_is c.args.topology.now c.args.link.0 Forth _ (omega (arith, many, number)) c.requires)

pub returns-in-Back : goal.returns-in-Back
returns-in-Back c =
    let many : length c.links.result.now ≡ length c.args.topology.now.links = ap length c.links.ensures in
    let number : c.from.result ≡ c.args.link.0 = c.from.ensures in
    subst (λ dir. IsNumber c.args.topology.now (3 + length c.links.result.now + 2 * c.from.result + 1) (Said c.args.link.0 dir)) (sym c.in-Back.is)
    (said_is c.args.topology.now c.args.link.0 Back _ (omega (arith, many, number)) c.requires)
