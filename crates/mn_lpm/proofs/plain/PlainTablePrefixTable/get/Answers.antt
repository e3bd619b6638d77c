use Rattle.std.proofs.Common.{ap, sym, ◌∙◌, Some}
use Rattle.mn_prefix.proofs.Tables.{at_place, value_found, value_missing}
use Rattle.mn_lpm.proofs.plain.PlainTablePrefixTable.get.Goals as goal

pub returns-in-Some-clause-value : goal.returns-in-Some-clause-value
returns-in-Some-clause-value g c =
    let e = value_found c.args.prefix c.self.inside.pairs.items c.in-Some.i c.index.result.now
    (at_place _ _ _ _ _ c.place.ensures c.deref.ensures.value c.in-Some.is) in
    rw (← c.self.view_is) (ap (λ x. Some x.1) c.index.ensures ∙ sym e)

pub returns-in-None-clause-value : goal.returns-in-None-clause-value
returns-in-None-clause-value g c =
    rw (← c.self.view_is)
    (sym (value_missing c.args.prefix c.self.inside.pairs.items (at_place _ _ _ _ _ c.place.ensures c.deref.ensures.value c.in-None.is)))
