use Rattle.std.proofs.Common.{◌≡◌, refl, sym, ◌∙◌, ap, get_or}
use Rattle.mn_ledger.specs.Places.{home_of}
use Rattle.mn_reach.specs.Reaching.{Reaching}
use Rattle.mn_reach.specs.Spared.{is_spared}
use Rattle.mn_reach.specs.Verdicts.{resolving}
use Rattle.mn_reach.proofs.Asked.{spared_by, not_spared}
use Rattle.mn_reach.proofs.Staying.{spared_stays}
use Rattle.mn_reach.proofs.Resolved.{of_so}
use Rattle.mn_reach.proofs.reach.Reach.is_spared.Goals as goal

pub returns-then-are_whole-clause-exact : goal.returns-then-are_whole-clause-exact
returns-then-are_whole-clause-exact c =
    spared_by c.args.topology.now c.args.self.now c.requires.of c.args.pair c.requires.pair c.index-prospect.result.now
    (c.index-prospect.ensures ∙ ap (λ (r : Reaching). get_or r.plan.prospects c.args.pair c.index-prospect.result.now) c.self.view_is) c.index.result.now
    (c.index.ensures ∙ ap (λ (r : Reaching). get_or r.plan.pairs c.args.pair c.index.result.now) c.self.view_is)
    (home_of c.args.topology.now c.index.result.now.site.0) refl
    c.as_slice-then-are_whole.result.now c.as_slice-then-are_whole.ensures c.are_whole.result c.keeps_sessions.result c.as_slice.result.now c.are_whole.ensures
    c.as_slice.ensures c.if-are_whole.true c.keeps_sessions.ensures

pub returns-then-are_whole-clause-stays : goal.returns-then-are_whole-clause-stays
returns-then-are_whole-clause-stays c = λ h resolve ttl.
    let exact : c.keeps_sessions.result ≡ is_spared c.args.topology.now c.args.self.now c.args.pair =
    spared_by c.args.topology.now c.args.self.now c.requires.of c.args.pair c.requires.pair c.index-prospect.result.now
    (c.index-prospect.ensures ∙ ap (λ (r : Reaching). get_or r.plan.prospects c.args.pair c.index-prospect.result.now) c.self.view_is) c.index.result.now
    (c.index.ensures ∙ ap (λ (r : Reaching). get_or r.plan.pairs c.args.pair c.index.result.now) c.self.view_is)
    (home_of c.args.topology.now c.index.result.now.site.0) refl
    c.as_slice-then-are_whole.result.now c.as_slice-then-are_whole.ensures c.are_whole.result c.keeps_sessions.result c.as_slice.result.now c.are_whole.ensures
    c.as_slice.ensures c.if-are_whole.true c.keeps_sessions.ensures in
    spared_stays (resolving c.args.topology.now resolve) c.args.self.now (of_so c.args.topology.now resolve c.args.self.now.plan c.requires.of)
    c.a_path_that_is_spared_stays.ensures c.args.pair c.requires.pair (sym exact ∙ h) ttl

pub returns-else-are_whole-clause-exact : goal.returns-else-are_whole-clause-exact
returns-else-are_whole-clause-exact c =
    not_spared c.args.topology.now c.args.self.now c.requires.of c.args.pair c.requires.pair c.index-prospect.result.now
    (c.index-prospect.ensures ∙ ap (λ (r : Reaching). get_or r.plan.prospects c.args.pair c.index-prospect.result.now) c.self.view_is)
    c.are_whole.result c.as_slice.result.now c.are_whole.ensures c.as_slice.ensures c.if-are_whole.false
