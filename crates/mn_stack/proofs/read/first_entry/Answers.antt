use Rattle.std.proofs.Common.{◌∷◌, drop, ap, ◌∙◌, sym}
use Rattle.mn_stack.specs.Entry.{entry_of}
use Rattle.mn_stack.specs.Reading.{entries_of}
use Rattle.mn_stack.proofs.Entries.{entries_of-first}
use Rattle.mn_stack.proofs.read.first_entry.Goals as goal

pub returns-clause-first : goal.returns-clause-first
returns-clause-first c =
    entries_of-first c.args.bytes.now c.requires
    ∙ ap (λ e. e ∷ entries_of (drop 4 c.args.bytes.now)) (ap entry_of (sym c.read_u32.ensures) ∙ sym c.entry_of.ensures)
