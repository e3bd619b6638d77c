use Rattle.std.proofs.Common.{sym, ◌∙◌}
use Rattle.mn_edge_real.proofs.Putting.{repeated, noted}
use Rattle.mn_edge_real.proofs.shelf.DiskShelf.read.Goals as goal

pub returns-then-repeat-clause-content : goal.returns-then-repeat-clause-content
returns-then-repeat-clause-content g c =
    repeated (g.D.Disk.files c.args.self.now.opened.disk) c.args.name.now c.args.at c.repeat.new.buf c.args.self.now.reads.last c.args.self.now.kept
    (c.repeat.ensures.bytes c.if-repeat.true) (c.repeat.ensures.place c.if-repeat.true) (c.repeat.ensures.file c.if-repeat.true)
    (c.repeat.ensures.some c.if-repeat.true)

pub invariant_of-self-2 : goal.invariant_of-self-2
invariant_of-self-2 g c = record {
  kept = noted (g.D.Disk.files c.read_at.new.self.disk) c.args.name.now c.args.at c.in_ok-count.count c.read_at.new.buf c.note.new.self.last
      c.note.ensures.last (λ m e. c.in_ok-count.ensures.content m (sym c.in_ok-count.ensures.same ∙ e));
}
