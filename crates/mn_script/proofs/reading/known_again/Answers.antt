use Rattle.std.proofs.Common.{rules, ◌≡◌, length, refl, Some}
use Rattle.std.proofs.lemmas.Option.{slice_get_read}
use Rattle.std.proofs.Common.{slice_get}
use Rattle.mn_script.specs.Reading.{IsSaidAt}
use Rattle.mn_script.proofs.Gathering.{said_again}
use Rattle.mn_script.proofs.reading.known_again.Goals as goal

pub returns-clause-value : goal.returns-clause-value
returns-clause-value g c =
    let known : IsSaidAt (g.L.Language.says c.args.language.now) c.args.script.now c.in_ok-text.text.now c.in_ok-text.place = search rules in
    let got : slice_get c.args.script.now c.in_ok-text.place ≡ Some c.in_ok-get.field-0.now =
    slice_get_read c.args.script.now (length c.args.script.now) c.in_ok-text.place c.in_ok-get.field-0.now refl known.0 c.in_ok-get.ensures.lookup.1 in
    let same : c.args.line.now ≡ c.in_ok-text.text.now = search rules in
    said_again (g.L.Language.says c.args.language.now) c.args.script.now c.in_ok-text.text.now c.args.line.now c.in_ok-text.place c.args.number
    c.in_ok-get.field-0.now c.again.result known got same c.again.ensures.says
