use Rattle.mn_pe.proofs.Fates.{is_the_fate}
use Rattle.mn_pe.proofs.pe.Pe.enter_among.Goals as goal

-- what the edge says is the packet's fate
pub returns-clause-fate : goal.returns-clause-fate
returns-clause-fate c = is_the_fate c.entered_among.result c.args.self.now.edge _ c.args.site.0 c.args.packet.now c.entered_among.ensures.bytes
    c.entered_among.ensures.answer
