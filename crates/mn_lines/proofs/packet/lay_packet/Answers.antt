use Rattle.std.proofs.Common.{◌∷◌, [], take}
use Rattle.std.specs.Prelude.{codes}
use Rattle.mn_lines.specs.Names.{names_of}
use Rattle.mn_lines.specs.Lines.{packet_line, path_text, sent_text, verdict_text}
use Rattle.mn_lines.proofs.Pieces.{four_put}
use Rattle.mn_lines.proofs.packet.lay_packet.Goals as goal

pub returns-clause-laid : goal.returns-clause-laid
unfolding packet_line
returns-clause-laid c =
    let names = names_of c.args.topology.now in
    four_put (take c.args.at c.args.bytes.now) (take c.lay_sent-after_sent.result c.lay_sent-after_sent.new.bytes)
    (take c.lay_verdict-after_verdict.result c.lay_verdict-after_verdict.new.bytes) (take c.lay_path-end.result c.lay_path-end.new.bytes)
    (take c.lay.result c.lay.new.bytes)
    (sent_text names c.args.packet.number c.args.packet.sent) (codes " ") (verdict_text names c.args.packet.verdict) (codes " path")
    (path_text names c.args.packet.path.now) (10 ∷ [])
    c.lay_sent-after_sent.ensures.laid c.lay_verdict-after_verdict.ensures.laid c.lay_path-end.ensures.laid c.lay.ensures.laid
