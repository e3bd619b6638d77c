use Rattle.mn_pe.proofs.Places.{by_nobody, by_one}
use Rattle.mn_pe.proofs.switching.switch_export.Goals as goal

pub returns-in-None : goal.returns-in-None
returns-in-None c = by_nobody c.args.number.0 _ c.args.vrfs.now.items c.deref.result.now c.deref.ensures.value c.in-None.ensures

pub returns-in-Some : goal.returns-in-Some
returns-in-Some c = by_one c.args.number.0 _ c.args.vrfs.now.items c.deref.result.now c.deref.ensures.value c.export_at.new.vrfs.items c.in-Some.at
    c.export_at.result c.in-Some.ensures c.export_at.ensures
