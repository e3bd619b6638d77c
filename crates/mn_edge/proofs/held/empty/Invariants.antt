use Rattle.std.proofs.Common.{◌≡◌, length, map}
use Rattle.mn_edge.proofs.Gathering.{emptied}
use Rattle.mn_edge.proofs.held.empty.Given as goal

abbrev pub invariant-loop-file : goal.invariant-loop-file
invariant-loop-file l = record {
  files : length l.files.items ≡ length l.fn.files.items;
  emptied : map (λ v. v.items) l.files.items ≡ emptied l.file (map (λ v. v.items) l.fn.files.items);
}
