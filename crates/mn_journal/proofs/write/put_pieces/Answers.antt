use Rattle.std.proofs.Common.{◌∙◌, sym}
use Rattle.mn_journal.specs.Lines.{joined, texts}
use Rattle.mn_journal.proofs.Spaces.{laid_behind}
use Rattle.mn_journal.proofs.write.put_pieces.Goals as goal

pub returns-clause-grew : goal.returns-clause-grew
returns-clause-grew c = record {
  more = joined (texts c.args.pieces.now);
  new_is = sym (laid_behind c.args.out.now.items c.resize.new.self.items c.deref_mut.result.now c.lay_all.new.bytes
      (joined (texts c.args.pieces.now)) _ c.len-before.result c.in-Some.end _ c.resize.new.self.len (c.len-before.ensures ∙ c.args.out.now.ok.0)
      c.args.out.now.ok.0 c.in-Some.ensures c.in_ok-resize.ensures.items c.deref_mut.ensures.value c.lay_all.ensures c.resize.new.self.ok.0);
}
