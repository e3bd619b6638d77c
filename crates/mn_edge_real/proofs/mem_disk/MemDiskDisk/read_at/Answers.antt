use Rattle.std.proofs.Common.{Some, refl, ap, ◌∙◌, subst, string_bytes}
use Rattle.mn_edge.specs.Files.{Fetched}
use Rattle.mn_edge_real.proofs.mem_disk.MemDiskDisk.read_at.Goals as goal
use Rattle.mn_edge_real.proofs.mem_disk.MemDiskDisk.read_at.Goals.{in-Ok, in-Err}

pub returns-clause-content : goal.returns-clause-content
returns-clause-content c = λ name is. elim c.match-fetch.branch [
  | in-Ok w ↦ rw w.result-is (λ m e.
      subst (λ q. Fetched m q c.args.at w.in-Ok.count c.fetch.new.buf)
      (c.as_str.ensures.value ∙ (is (c.args.file.now.mode, string_bytes c.args.file.now.name) refl).1)
      (w.in-Ok.ensures.content m (ap Some c.self.view_is ∙ e)))
  | in-Err w ↦ rw w.result-is tt
]
