use Rattle.mn_pe.proofs.Places.{told_nobody, told_one}
use Rattle.mn_pe.proofs.changes.del_in.Goals as goal

pub returns-in-None : goal.returns-in-None
returns-in-None c = told_nobody c.args.number.0 _ _ c.args.vrfs.now.items c.deref.result.now c.deref.ensures.value c.in-None.ensures

pub returns-in-Some : goal.returns-in-Some
returns-in-Some c = told_one c.args.number.0 _ _ c.args.vrfs.now.items c.deref.result.now c.deref.ensures.value c.in-Some.at c.index_mut.result.now
    c.del_static.new.self c.del_static.result c.requires c.in-Some.ensures c.index_mut.ensures.value c.del_static.ensures.ok c.del_static.ensures.err
    c.del_static.ensures.refusal
