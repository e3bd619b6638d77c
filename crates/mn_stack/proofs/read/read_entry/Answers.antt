use Rattle.std.proofs.Common.{◌≡◌, ap, ◌∙◌, arith}
use Rattle.byteorder.specs.Endian.{big_number}
use Rattle.mn_stack.specs.Entry.{entry_bytes, entry_of}
use Rattle.mn_stack.proofs.Entries.{entry_bytes-four}
use Rattle.mn_stack.proofs.read.read_entry.Goals as goal

pub returns-clause-bytes : goal.returns-clause-bytes
returns-clause-bytes c =
    let b = c.args.bytes.now in
    let n : c.from_be_bytes.result ≡ big_number 4 b = omega (arith, c.from_be_bytes.ensures) in
    let e : c.entry_of.result ≡ entry_of (big_number 4 b) = c.entry_of.ensures ∙ ap entry_of n in
    ap entry_bytes e ∙ entry_bytes-four b c.fits-bytes c.told-bytes
