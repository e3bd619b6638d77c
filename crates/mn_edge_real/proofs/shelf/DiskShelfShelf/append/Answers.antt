use Rattle.mn_edge_real.proofs.Putting.{grew_may, kept_on}
use Rattle.mn_edge_real.proofs.shelf.DiskShelfShelf.append.Goals as goal

pub invariant_of-self : goal.invariant_of-self
invariant_of-self g c = record {
  kept = kept_on (g.D.Disk.files c.args.self.now.opened.disk) (g.D.Disk.files c.append.new.self.disk) c.args.name.now c.args.piece.now
      c.args.self.now.reads.last c.append.ensures.silent
      (λ m e. grew_may m c.args.name.now c.args.piece.now (g.D.Disk.files c.append.new.self.disk) (c.in-Ok.ensures.grown m e)) c.args.self.now.kept;
}

pub invariant_of-self-in-Err : goal.invariant_of-self-in-Err
invariant_of-self-in-Err g c = record {
  kept = kept_on (g.D.Disk.files c.args.self.now.opened.disk) (g.D.Disk.files c.append.new.self.disk) c.args.name.now c.args.piece.now
      c.args.self.now.reads.last c.append.ensures.silent (λ m e. c.in-Err.ensures.refused m e) c.args.self.now.kept;
}
