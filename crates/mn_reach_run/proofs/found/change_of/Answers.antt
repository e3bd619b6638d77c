use Rattle.mn_reach.specs.Verdicts.{fate_as}
use Rattle.mn_reach_run.specs.Fates.{resolves, network_by}
use Rattle.mn_reach_run.proofs.Fated.{on_terms}
use Rattle.mn_reach_run.proofs.Knowing.{unmarked_stays, spared_nothing, spared_line, found_change, found_line}
use Rattle.mn_reach_run.proofs.found.change_of.Goals as goal

pub returns-then-not-index-clause-change : goal.returns-then-not-index-clause-change
returns-then-not-index-clause-change c = λ parts known.
    let t = c.args.topology.now in
    let settings = c.args.settings in
    spared_nothing t settings parts c.args.found.now known (c.alike_failures_have_the_same_fates.ensures (network_by t settings.resolve)) c.args.pair
    c.requires.pair
    (unmarked_stays t settings c.args.found.now c.requires.ready c.requires.marked c.args.pair c.index.result.now c.requires.pair c.index.ensures
    c.if-not-index.true)

pub returns-then-not-index-clause-line : goal.returns-then-not-index-clause-line
returns-then-not-index-clause-line c = λ parts known number.
    let t = c.args.topology.now in
    let settings = c.args.settings in
    let alike = c.alike_failures_have_the_same_fates.ensures (network_by t settings.resolve) in
    spared_line t settings parts c.args.found.now known alike c.args.pair c.requires.pair
    (spared_nothing t settings parts c.args.found.now known alike c.args.pair c.requires.pair
    (unmarked_stays t settings c.args.found.now c.requires.ready c.requires.marked c.args.pair c.index.result.now c.requires.pair c.index.ensures
    c.if-not-index.true)) number (fate_as c.args.verdict.now)

pub returns-then-is_spared-clause-change : goal.returns-then-is_spared-clause-change
returns-then-is_spared-clause-change c = λ parts known.
    let t = c.args.topology.now in
    let settings = c.args.settings in
    spared_nothing t settings parts c.args.found.now known (c.alike_failures_have_the_same_fates.ensures (network_by t settings.resolve)) c.args.pair
    c.requires.pair (c.is_spared.ensures.stays c.if-is_spared.true (resolves settings.resolve t.resolve) settings.ttl)

pub returns-then-is_spared-clause-line : goal.returns-then-is_spared-clause-line
returns-then-is_spared-clause-line c = λ parts known number.
    let t = c.args.topology.now in
    let settings = c.args.settings in
    let alike = c.alike_failures_have_the_same_fates.ensures (network_by t settings.resolve) in
    spared_line t settings parts c.args.found.now known alike c.args.pair c.requires.pair
    (spared_nothing t settings parts c.args.found.now known alike c.args.pair c.requires.pair
    (c.is_spared.ensures.stays c.if-is_spared.true (resolves settings.resolve t.resolve) settings.ttl)) number (fate_as c.args.verdict.now)

pub returns-clause-change : goal.returns-clause-change
returns-clause-change c = λ parts known.
    let t = c.args.topology.now in
    let settings = c.args.settings in
    let alike = c.alike_failures_have_the_same_fates.ensures (network_by t settings.resolve) in
    found_change t settings parts c.args.found.now known alike c.args.pair c.requires.pair c.fate.new.into c.index-2.result.now c.change_between.result
    (on_terms t settings parts c.args.found.now.reach known.ready known.failed c.args.pair c.requires.pair alike c.resolves.result (fate_as c.fate.new.into)
    c.resolves.ensures c.in_ok-fate.ensures) c.index-2.ensures c.change_between.ensures

pub returns-clause-line : goal.returns-clause-line
returns-clause-line c = λ parts known number.
    let t = c.args.topology.now in
    let settings = c.args.settings in
    let alike = c.alike_failures_have_the_same_fates.ensures (network_by t settings.resolve) in
    found_line t settings parts c.args.found.now known alike c.args.pair c.requires.pair c.fate.new.into c.index-2.result.now c.change_between.result
    (on_terms t settings parts c.args.found.now.reach known.ready known.failed c.args.pair c.requires.pair alike c.resolves.result (fate_as c.fate.new.into)
    c.resolves.ensures c.in_ok-fate.ensures) c.index-2.ensures c.change_between.ensures number
