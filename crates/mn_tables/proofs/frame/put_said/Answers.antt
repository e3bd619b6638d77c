use Rattle.std.proofs.Common.{sym, append_assoc}
use Rattle.std.specs.Prelude.{codes}
use Rattle.mn_lines.specs.Lines.{pieces_of, text}
use Rattle.mn_output_laws.specs.Shown.{hex_text}
use Rattle.mn_tables.proofs.Telling.{told_by, tells_as, tells_then, tells_first, tells_within}
use Rattle.mn_tables.proofs.frame.put_said.Goals as goal

pub returns-in_err-put_pieces : goal.returns-in_err-put_pieces
returns-in_err-put_pieces g c =
    tells_as _ _ _ _ _ (tells_first _ _ _ _ _ _ c.from_residual.ensures c.in_err-put_pieces.ensures)
    (sym (append_assoc (text (pieces_of c.args.said.now)) (hex_text c.args.bytes.now) (codes "\n")))

pub returns-in_err-put_hex : goal.returns-in_err-put_hex
returns-in_err-put_hex g c =
    tells_within _ _ (codes "\n") _ _ _ _ _ _ c.from_residual-in_err-put_hex.ensures (told_by _ _ _ c.in_ok-put_pieces.ensures) c.in_err-put_hex.ensures
    (sym (append_assoc (text (pieces_of c.args.said.now)) (hex_text c.args.bytes.now) (codes "\n")))

pub returns : goal.returns
returns g c =
    tells_as _ _ _ _ _
    (tells_then _ _ _ _ _ _ (told_by _ _ _ c.in_ok-put_pieces.ensures)
    (tells_then _ _ _ _ _ _ (told_by _ _ _ c.in_ok-put_hex.ensures) c.put_pieces-2.ensures))
    (sym (append_assoc (text (pieces_of c.args.said.now)) (hex_text c.args.bytes.now) (codes "\n")))
