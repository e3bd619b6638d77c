use Rattle.std.proofs.Common.{◌≡◌, ◌++◌, ap, ◌∙◌, sym, false, true}
use Rattle.std.proofs.lemmas.Slice.Eq.{bytes_eq-Decides}
use Rattle.mn_journal.specs.Lines.{text_of}
use Rattle.mn_journal.proofs.Words.{no_text, other_text}
use Rattle.mn_journal.proofs.read.read_line.Goals as goal

pub returns-in_default : goal.returns-in_default
returns-in_default c = no_text c.args.topology.now c.args.line.now c.in_ok-entry.field-0 c.laws.ensures c.in_ok-entry.ensures.value c.in_default.is

pub returns-else-eq : goal.returns-else-eq
returns-else-eq c =
    other_text c.args.topology.now c.args.line.now c.in_ok-entry.field-0 c.in-Some.entry c.laws.ensures c.in_ok-entry.ensures.value c.in-Some.is (λ same.
    let e = c.eq.ensures in
    let f = c.if-eq.false in
    let put =
    c.as_slice.ensures.value ∙ c.in_ok-put_text.ensures.ok ∙ ap (λ xs. xs ++ text_of c.args.topology.now c.in-Some.entry) c.clear.ensures.items
    ∙ same in
    let on = (bytes_eq-Decides c.as_slice.result.now c.args.line.now).1 put in
    let both : true ≡ false = sym on ∙ sym e ∙ f in
    cc)
