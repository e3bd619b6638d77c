use Rattle.mn_stack.specs.Entry.{entry_bytes}
use Rattle.mn_stack.proofs.write.write_entry.Goals as goal

pub returns : goal.returns
unfolding entry_bytes
returns c = let h = c.number_of.ensures in let k = c.to_be_bytes.ensures in cc
