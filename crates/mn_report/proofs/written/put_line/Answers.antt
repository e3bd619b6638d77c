use Rattle.mn_report.proofs.written.put_line.Goals as goal

pub returns : goal.returns
returns g c = record { put = c.put.ensures.put; part = c.put.ensures.part; cause = c.put.ensures.cause }
