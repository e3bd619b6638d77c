use Rattle.std.proofs.Common.{ap, sym, ◌≡◌, ◌∙◌, ◌++◌, ◌∷◌, [], Some}
use Rattle.mn_prefix.proofs.Tables.{at_place, value_found, value_missing, write_changes, write_keeps, push_changes, push_keeps, none_held}
use Rattle.mn_lpm.proofs.plain.PlainTablePrefixTable.insert.Goals as goal

pub invariant_of-self : goal.invariant_of-self
invariant_of-self g c =
    write_keeps c.args.prefix c.self.inside.pairs.items c.in-Some.i c.index_mut-pair.result.now c.args.value c.replace.new.dest
    (at_place _ _ _ _ _ c.place.ensures c.deref.ensures.value c.in-Some.is) c.index_mut-pair.ensures.value c.replace.ensures.after c.self.invariant

pub returns-in-Some-clause-table : goal.returns-in-Some-clause-table
returns-in-Some-clause-table g c =
    write_keeps c.args.prefix c.self.inside.pairs.items c.in-Some.i c.index_mut-pair.result.now c.args.value c.replace.new.dest
    (at_place _ _ _ _ _ c.place.ensures c.deref.ensures.value c.in-Some.is) c.index_mut-pair.ensures.value c.replace.ensures.after c.self.invariant

pub returns-in-Some-clause-before : goal.returns-in-Some-clause-before
returns-in-Some-clause-before g c =
    let e = value_found c.args.prefix c.self.inside.pairs.items c.in-Some.i c.index_mut-pair.result.now
    (at_place _ _ _ _ _ c.place.ensures c.deref.ensures.value c.in-Some.is) in
    rw (← c.self.view_is) (ap (λ x. Some x) c.replace.ensures.value ∙ ap (λ x. Some x.1) c.index_mut-pair.ensures.value ∙ sym e)

pub returns-in-Some-clause-ok : goal.returns-in-Some-clause-ok
returns-in-Some-clause-ok g c =
    rw (← c.self.view_is)
    (write_changes c.args.prefix c.self.inside.pairs.items c.in-Some.i c.index_mut-pair.result.now c.args.value c.replace.new.dest
    (at_place _ _ _ _ _ c.place.ensures c.deref.ensures.value c.in-Some.is) c.index_mut-pair.ensures.value c.replace.ensures.after)

pub returns-in_err-push-in-None-clause-held : goal.returns-in_err-push-in-None-clause-held
returns-in_err-push-in-None-clause-held g c =
    rw (← c.self.view_is)
    (λ some. none_held c.args.prefix c.self.inside.pairs.items (at_place _ _ _ _ _ c.place.ensures c.deref.ensures.value c.in-None.is) some)

pub invariant_of-self-in-None : goal.invariant_of-self-in-None
invariant_of-self-in-None g c =
    let pushed : c.push.new.self.items ≡ c.self.inside.pairs.items ++ (c.args.prefix, c.args.value) ∷ [] = c.in_ok-push-in-None.ensures.items in
    rw pushed
    (push_keeps c.args.prefix c.args.value c.self.inside.pairs.items c.self.invariant c.length-form.ensures.form
    (value_missing c.args.prefix c.self.inside.pairs.items (at_place _ _ _ _ _ c.place.ensures c.deref.ensures.value c.in-None.is)))

pub returns-in_ok-push-in-None-clause-before : goal.returns-in_ok-push-in-None-clause-before
returns-in_ok-push-in-None-clause-before g c =
    rw (← c.self.view_is) (sym (value_missing c.args.prefix c.self.inside.pairs.items (at_place _ _ _ _ _ c.place.ensures c.deref.ensures.value c.in-None.is)))

pub returns-in_ok-push-in-None-clause-ok : goal.returns-in_ok-push-in-None-clause-ok
returns-in_ok-push-in-None-clause-ok g c =
    let pushed : c.push.new.self.items ≡ c.self.inside.pairs.items ++ (c.args.prefix, c.args.value) ∷ [] = c.in_ok-push-in-None.ensures.items in
    rw (pushed, ← c.self.view_is)
    (push_changes c.args.prefix c.args.value c.self.inside.pairs.items
    (value_missing c.args.prefix c.self.inside.pairs.items (at_place _ _ _ _ _ c.place.ensures c.deref.ensures.value c.in-None.is)))

pub returns-in_ok-push-in-None-clause-table : goal.returns-in_ok-push-in-None-clause-table
returns-in_ok-push-in-None-clause-table g c =
    let pushed : c.push.new.self.items ≡ c.self.inside.pairs.items ++ (c.args.prefix, c.args.value) ∷ [] = c.in_ok-push-in-None.ensures.items in
    rw pushed
    (push_keeps c.args.prefix c.args.value c.self.inside.pairs.items c.self.invariant c.length-form.ensures.form
    (value_missing c.args.prefix c.self.inside.pairs.items (at_place _ _ _ _ _ c.place.ensures c.deref.ensures.value c.in-None.is)))
