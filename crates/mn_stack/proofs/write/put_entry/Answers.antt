use Rattle.std.proofs.Common.{◌++◌, ◌-◌, drop, take, length, ap, ◌∙◌}
use Rattle.byteorder.specs.Endian.{big_bytes}
use Rattle.mn_stack.specs.Entry.{entry_bytes}
use Rattle.mn_stack.proofs.Entries.{drop-written}
use Rattle.mn_stack.proofs.write.put_entry.Goals as goal

pub returns : goal.returns
unfolding entry_bytes
returns c =
    drop-written c.args.place c.args.bytes.now c.write_u32.new.buf (entry_bytes c.args.entry) c.requires.there
    (c.write_u32.ensures
    ∙ ap (λ n. big_bytes 4 n ++ drop 4 (take (length c.args.bytes.now - c.args.place) (drop c.args.place c.args.bytes.now))) c.number_of.ensures)
