use Rattle.std.proofs.Common.{◌≡◌, ◌∙◌}
use Rattle.mn_stack.specs.Entry.{bit}
use Rattle.mn_stack.proofs.Entries.{or-fields, bit-le, byte-of_bool}
use Rattle.mn_stack.proofs.write.number_of.Goals as goal

pub returns : goal.returns
returns c =
    let e = c.args.entry in
    let fields = or-fields e.label e.exp (bit e.bottom) e.ttl c.requires.label c.requires.exp (bit-le e.bottom) c.requires.ttl in
    let low : c.from-2.result ≡ bit e.bottom = c.from-2.ensures ∙ byte-of_bool e.bottom in
    cc (c.from.ensures, c.from-3.ensures, fields, low)
