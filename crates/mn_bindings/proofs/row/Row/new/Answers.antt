use Rattle.std.proofs.Common.{◌≡◌, ◌∙◌, ap, rules, replicate, false}
use Rattle.mn_bindings.specs.Rows.{labels_of}
use Rattle.mn_bindings.proofs.Rows.{none_mapped}
use Rattle.mn_bindings.proofs.row.Row.new.Goals as goal

pub returns : goal.returns
returns c =
    let said = c.in_ok-new.field-0.value in
    let labels : said.labels.items ≡ replicate c.args.nodes 0 = search rules in
    let mapped : said.mapped.items ≡ replicate c.args.nodes false = search rules in
    ap (λ xs. labels_of xs said.labels.items) mapped ∙ ap (λ xs. labels_of (replicate c.args.nodes false) xs) labels ∙ none_mapped c.args.nodes
