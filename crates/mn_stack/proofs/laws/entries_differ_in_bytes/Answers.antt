use Rattle.mn_stack.proofs.Entries.{entry-from_bytes}
use Rattle.mn_stack.proofs.laws.entries_differ_in_bytes.Goals as goal

pub returns : goal.returns
returns c = entry-from_bytes
