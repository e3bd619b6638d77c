use Rattle.std.proofs.Common.{◌≡◌, Bool, true, false, refl, ◌∙◌, ap, get_or, map, Some}
use Rattle.std.specs.Prelude.{not}
use Rattle.std.proofs.lemmas.Result.{on_ok_weaker}
use Rattle.mn_failure_laws.specs.Failures.{config_under}
use Rattle.mn_reach.specs.Plans.{held_in}
use Rattle.mn_reach.specs.Reaching.{Reaching, failure_of}
use Rattle.mn_reach.specs.Verdicts.{resolving}
use Rattle.mn_reach.proofs.Asked.{fate_is}
use Rattle.mn_reach.proofs.Choosing.{by_first, by_reached, by_told}
use Rattle.mn_reach.proofs.Resolved.{of_so}
use Rattle.mn_reach.proofs.reach.Reach.fate.Goals as goal

off : (b : Bool) → not b ≡ true → b ≡ false
off true h = cc
off false h = refl

on : (b : Bool) → not b ≡ false → b ≡ true
on true h = refl
on false h = cc

pub returns-then-not-terms : goal.returns-then-not-terms
returns-then-not-terms c =
    let t = resolving c.args.topology.now c.args.terms.resolve in
    let of = of_so c.args.topology.now c.args.terms.resolve c.args.self.now.plan c.requires.of in
    on_ok_weaker c.put_told.result
    (λ f. f ∙ fate_is t c.args.self.now of c.args.pair c.requires.pair c.index-2.result.now
    (c.index-2.ensures ∙ ap (λ (r : Reaching). get_or r.plan.prospects c.args.pair c.index-2.result.now) c.self.view_is) c.index.result.now
    (c.index.ensures ∙ ap (λ (r : Reaching). get_or r.plan.pairs c.args.pair c.index.result.now) c.self.view_is) c.home_of-home.result.0
    c.home_of-home.ensures.home
    c.as_slice-candidates.result.now c.as_slice-candidates.ensures c.args.terms.ttl _
    (by_first t (config_under t (failure_of c.args.self.now)) c.home_of-home.result.0 (map held_in c.as_slice-candidates.result.now)
    (off c.args.terms.resolve c.if-not-terms.true)))
    (c.put_told.ensures t of)

pub returns-then-branch : goal.returns-then-branch
returns-then-branch c =
    let t = resolving c.args.topology.now c.args.terms.resolve in
    let of = of_so c.args.topology.now c.args.terms.resolve c.args.self.now.plan c.requires.of in
    let found = c.in_ok-put_first_reached.ensures.some t of c.if-branch.true in
    found.2 ∙ fate_is t c.args.self.now of c.args.pair c.requires.pair c.index-2.result.now
    (c.index-2.ensures ∙ ap (λ (r : Reaching). get_or r.plan.prospects c.args.pair c.index-2.result.now) c.self.view_is) c.index.result.now
    (c.index.ensures ∙ ap (λ (r : Reaching). get_or r.plan.pairs c.args.pair c.index.result.now) c.self.view_is) c.home_of-home.result.0
    c.home_of-home.ensures.home
    c.as_slice-candidates.result.now c.as_slice-candidates.ensures c.args.terms.ttl (Some found.0)
    (by_reached t (config_under t (failure_of c.args.self.now)) c.home_of-home.result.0 (map held_in c.as_slice-candidates.result.now)
    (on c.args.terms.resolve c.if-not-terms.false) found.0 found.1)

pub returns : goal.returns
returns c =
    let t = resolving c.args.topology.now c.args.terms.resolve in
    let of = of_so c.args.topology.now c.args.terms.resolve c.args.self.now.plan c.requires.of in
    on_ok_weaker c.put_told-2.result
    (λ f. f ∙ fate_is t c.args.self.now of c.args.pair c.requires.pair c.index-2.result.now
    (c.index-2.ensures ∙ ap (λ (r : Reaching). get_or r.plan.prospects c.args.pair c.index-2.result.now) c.self.view_is) c.index.result.now
    (c.index.ensures ∙ ap (λ (r : Reaching). get_or r.plan.pairs c.args.pair c.index.result.now) c.self.view_is) c.home_of-home.result.0
    c.home_of-home.ensures.home
    c.as_slice-candidates.result.now c.as_slice-candidates.ensures c.args.terms.ttl _
    (by_told t (config_under t (failure_of c.args.self.now)) c.home_of-home.result.0 (map held_in c.as_slice-candidates.result.now)
    (on c.args.terms.resolve c.if-not-terms.false)
    (c.in_ok-put_first_reached.ensures.none t of c.if-branch.false)))
    (c.put_told-2.ensures t of)
