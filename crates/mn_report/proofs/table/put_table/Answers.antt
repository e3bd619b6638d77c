use Rattle.mn_net.specs.Now.{StandsFor}
use Rattle.mn_output_laws.specs.Tables.{table_text}
use Rattle.mn_tables.specs.Telling.{standing}
use Rattle.mn_tables.proofs.Telling.{tells_want}
use Rattle.mn_report.specs.Frames.{packet_of}
use Rattle.mn_report.proofs.Standing.{put_where, part_where}
use Rattle.mn_report.proofs.table.put_table.Goals as goal

pub returns-then-not-works-clause-part : goal.returns-then-not-works-clause-part
returns-then-not-works-clause-part g c =
    λ inputs h. (tells_want _ (standing c.args.page.now (g.O.Sink.written c.args.out.now) (g.O.Sink.faults c.args.out.now))).part

pub returns-clause-put : goal.returns-clause-put
returns-clause-put g c =
    put_where (StandsFor c.args.net.now)
    (λ inputs. table_text c.args.net.now.topology c.args.net.now.journal inputs (packet_of c.args.asked.packet) c.args.asked.table) _ _ _
    c.put_rows.ensures.told

pub returns-clause-part : goal.returns-clause-part
returns-clause-part g c =
    part_where (StandsFor c.args.net.now)
    (λ inputs. table_text c.args.net.now.topology c.args.net.now.journal inputs (packet_of c.args.asked.packet) c.args.asked.table) _ _ _
    c.put_rows.ensures.told

pub returns-clause-cause : goal.returns-clause-cause
returns-clause-cause g c = c.put_rows.ensures.cause
