use Rattle.std.proofs.Common.{◌≡◌, length, refl, ◌∙◌, arith}
use Rattle.mn_perform.specs.declared.ended.Ended.TheVariants.{All, TooManySteps}
use Rattle.mn_perform.proofs.Totals.{line_played, plays_on, plays_no_more, plays_from_start, all_played}
use Rattle.mn_perform.proofs.total.tally_lines.Goals as goal

pub loop-line-init : goal.loop-line-init
loop-line-init c = record {
  topology = refl;
  clock = omega (arith, c.requires.tick);
  refused = omega (arith, c.requires.none);
  at = plays_from_start _ _ c.args.lines.now c.args.net.now _ refl c.requires.journal c.requires.tick c.requires.stands c.requires.none;
}

pub returns-then-not-works-clause-topology : goal.returns-then-not-works-clause-topology
returns-then-not-works-clause-topology c = c.loop-line.invariant.topology

pub tally_line-requires-clause-stands : goal.tally_line-requires-clause-stands
tally_line-requires-clause-stands c = c.loop-line.invariant.at.plays.stands

pub loop-line-preserved : goal.loop-line-preserved
loop-line-preserved c =
    let l = c.loop-line in
    let at = l.invariant.at in
    let paced = c.in_ok-tally_line.ensures.clock c.in-All.is in
    record {
      topology = c.tally_line.ensures.topology ∙ l.invariant.topology;
      clock = omega (arith, paced.0, paced.1, l.invariant.clock);
      refused = omega (arith, c.tally_line.ensures.refused, l.invariant.refused);
      at = plays_on _ _ c.args.lines.now l.line-index c.line-item.result c.loop-line-test.true c.line-item.is at.run at.running at.rest _ _
          (line_played _ _ _ at.run c.line-item.result _ c.tally_line.new.net _ c.tally_line.new.refused All l.invariant.topology
          (rw c.in-All.is at c.in_ok-tally_line.ensures.played) at.running at.plays);
    }

pub returns-in-TooManySteps-clause-played : goal.returns-in-TooManySteps-clause-played
returns-in-TooManySteps-clause-played c =
    let l = c.loop-line in
    let at = l.invariant.at in
    plays_no_more _ _ c.args.lines.now l.line-index c.line-item.result c.loop-line-test.true c.line-item.is at.run at.running at.rest _ _
    (line_played _ _ _ at.run c.line-item.result _ c.tally_line.new.net _ c.tally_line.new.refused TooManySteps l.invariant.topology
    (rw c.in-TooManySteps.is at c.in_ok-tally_line.ensures.played) at.running at.plays)

pub returns-clause-played : goal.returns-clause-played
returns-clause-played c =
    let l = c.loop-line in
    all_played _ _ c.args.lines.now l.line-index _ _ (let e : l.line-index ≡ length c.args.lines.now =
    omega (arith, l.auto.line-index-end, c.loop-line-test.false) in e)
    l.invariant.at
