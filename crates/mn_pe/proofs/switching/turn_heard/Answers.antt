use Rattle.std.proofs.Common.{◌<◌, ◌-◌, ◌+◌, [], length, arith, sym, ◌∙◌, ap}
use Rattle.std.specs.Prelude.{slice_index_or}
use Rattle.std.specs.List.{range_with_len}
use Rattle.std.proofs.lemmas.List.{get_or_default}
use Rattle.mn_pe.specs.Switched.{after_heard, after_all}
use Rattle.mn_pe.proofs.Ranges.{first_of_range}
use Rattle.mn_pe.proofs.switching.turn_heard.Goals as goal

-- one more peer's routes come or go
pub loop-at-preserved : goal.loop-at-preserved
loop-at-preserved c =
    let there : c.loop-at.at < length c.args.heard.now = grind (arith, c.loop-at-test.true, c.loop-at.auto.at-end) in
    ap (λ ks. after_all c.args.on c.args.target c.args.loopbacks.now c.args.heard.now c.args.imports.now ks
    (range_with_len (c.loop-at.at + 1) (length c.args.heard.now - (c.loop-at.at + 1))))
    (c.in_ok-turn_far.ensures
    ∙ ap (λ lb. after_heard c.args.on c.args.target lb c.loop-at.at c.args.imports.now c.loop-at.held c.index-heard-at.result) c.loopback_at-loopback.ensures
    ∙ ap (after_heard c.args.on c.args.target (slice_index_or c.args.loopbacks.now c.loop-at.at 0) c.loop-at.at c.args.imports.now c.loop-at.held)
    (c.index-heard-at.is ∙ get_or_default c.args.heard.now c.loop-at.at c.index-heard-at.result [] there))
    ∙ sym (ap (after_all c.args.on c.args.target c.args.loopbacks.now c.args.heard.now c.args.imports.now c.loop-at.held)
    (first_of_range c.loop-at.at (length c.args.heard.now) there))
    ∙ c.loop-at.invariant
