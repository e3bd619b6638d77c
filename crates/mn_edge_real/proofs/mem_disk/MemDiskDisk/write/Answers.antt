use Rattle.std.proofs.Common.{Some, refl, ap, sym, ◌∙◌, subst, string_bytes, length, arith}
use Rattle.std.proofs.lemmas.List.{take_all}
use Rattle.mn_edge.specs.Files.{Grows}
use Rattle.mn_edge.specs.Memory.{is_due}
use Rattle.mn_edge_real.proofs.Refusing.{same_after}
use Rattle.mn_edge_real.proofs.mem_disk.MemDiskDisk.write.Goals as goal
use Rattle.mn_edge_real.proofs.mem_disk.MemDiskDisk.write.Goals.{in-Ok, in-Err}

pub returns-clause-grown : goal.returns-clause-grown
returns-clause-grown c = λ name is. elim c.match-append.branch [
  | in-Ok w ↦ rw w.result-is (λ m e.
      subst (λ l. Grows m name l (Some c.append.new.self.files)) (sym (take_all (length c.args.piece.now) c.args.piece.now (omega arith)))
      (subst (λ q. Grows m q c.args.piece.now (Some c.append.new.self.files))
      (c.as_str.ensures.value ∙ (is (c.args.file.now.mode, string_bytes c.args.file.now.name) refl).1)
      (w.in-Ok.ensures.grown m (ap Some c.self.view_is ∙ e))))
  | in-Err w ↦ rw w.result-is tt
]

pub returns-clause-refused : goal.returns-clause-refused
returns-clause-refused c = elim c.match-append.branch [
  | in-Ok w ↦ rw w.result-is tt
  | in-Err w ↦ rw w.result-is
      (ap Some (same_after c.self.inside.shelf.files c.append.new.self.files c.as_str.result.now c.args.piece.now
      (is_due c.self.inside.shelf.failing c.self.inside.shelf.calls) w.in-Err.bad
      (ap (λ calls. is_due calls c.self.inside.shelf.calls) c.self.inside.sound) w.in-Err.ensures.exact w.in-Err.ensures.files
      ∙ c.self.view_is))
]
