use Rattle.std.proofs.Common.{◌∙◌}
use Rattle.mn_lines.specs.Lines.{text, pieces_of}
use Rattle.mn_lines.proofs.Pieces.{laid_behind}
use Rattle.mn_lines.proofs.write.put_pieces.Goals as goal

pub returns-clause-begins : goal.returns-clause-begins
returns-clause-begins c = (
  text (pieces_of c.args.pieces.now),
  laid_behind c.args.line.now.items c.resize.new.self.items c.deref_mut.result.now c.lay_all.new.bytes
      (text (pieces_of c.args.pieces.now)) _ c.len-before.result c.in-Some.end _ c.resize.new.self.len (c.len-before.ensures ∙ c.args.line.now.ok.0)
      c.args.line.now.ok.0 c.in-Some.ensures c.in_ok-resize.ensures.items c.deref_mut.ensures.value c.lay_all.ensures c.resize.new.self.ok.0,
)
