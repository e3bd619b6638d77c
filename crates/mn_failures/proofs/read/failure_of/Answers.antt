use Rattle.std.proofs.Common.{◌≡◌, true, false, ap, sym, ◌∙◌}
use Rattle.std.specs.List.{list_all}
use Rattle.mn_failures.specs.Language.{are_refused}
use Rattle.mn_failures.specs.Meaning.{part_fits}
use Rattle.mn_failures.proofs.Lines.{parts_fit}
use Rattle.mn_failures.proofs.read.failure_of.Goals as goal

pub returns-else-are_refused-clause-fits : goal.returns-else-are_refused-clause-fits
returns-else-are_refused-clause-fits c =
    let each : list_all (part_fits c.args.topology.now) c.in-Ok.parts ≡ true = rw c.in-Ok.is at c.in_ok-parts.ensures.fits in
    let taken : are_refused c.in-Ok.parts ≡ false = sym (ap are_refused c.as_slice.ensures) ∙ sym c.are_refused.ensures ∙ c.if-are_refused.false in
    parts_fit c.args.topology.now c.args.text.now c.in-Ok.parts (sym c.in-Ok.is ∙ c.in_ok-parts.ensures.value) each taken
