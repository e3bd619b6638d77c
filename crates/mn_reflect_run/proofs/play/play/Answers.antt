use Rattle.std.proofs.Common.{List, ◌<◌, ◌≡◌, take, length, sym, arith, subst}
use Rattle.std.specs.Prelude.{All, true}
use Rattle.mn_edge.specs.declared.device.DeviceBad.TheVariants.{NoMemory}
use Rattle.mn_reflect_telling.specs.Mentions.{numbers_of}
use Rattle.mn_reflect_run.specs.declared.command.ReflectLine.{ReflectLine}
use Rattle.mn_reflect_run.specs.Course.{run_of}
use Rattle.mn_reflect_run.specs.Language.{command_fits}
use Rattle.mn_reflect_run.proofs.Plays.{none_played, want_at, line_played, played_cut, cut_at, plays_err, plays_as, cut_as, all_played, tells_in, at_most_one}
use Rattle.mn_reflect_run.proofs.Plays.{this_fits, table_there, over_after}
use Rattle.mn_reflect_run.proofs.play.play.Goals as goal

pub loop-line-init : goal.loop-line-init
loop-line-init g c = record {
  few = omega arith;
  played = none_played c.args.topology.now (numbers_of c.args.script.now.reflectors) c.args.reflect.now _ c.requires.start;
}

pub play_line-requires : goal.play_line-requires
play_line-requires g c =
    let t = c.args.topology.now in
    let reflectors = numbers_of c.args.script.now.reflectors in
    let lines : List ReflectLine = c.lines-lines.result.now in
    let fit : All (λ (line : ReflectLine). command_fits t reflectors line.command ≡ true) lines =
    subst (All (λ (line : ReflectLine). command_fits t reflectors line.command ≡ true)) (sym c.lines-lines.ensures) c.requires.lawful.fit in
    record {
      topology = t;
      reflectors = reflectors;
      run = run_of t reflectors (take c.loop-line.line-index lines);
      at = c.loop-line.invariant.played.at;
      fits = this_fits t reflectors lines c.loop-line.line-index c.line-item.result c.line-item.is c.loop-line-test.true fit;
    }

pub put_told-requires-clause-over : goal.put_told-requires-clause-over
put_told-requires-clause-over g c =
    let t = c.args.topology.now in
    let reflectors = numbers_of c.args.script.now.reflectors in
    let lines : List ReflectLine = c.lines-lines.result.now in
    let fit : All (λ (line : ReflectLine). command_fits t reflectors line.command ≡ true) lines =
    subst (All (λ (line : ReflectLine). command_fits t reflectors line.command ≡ true)) (sym c.lines-lines.ensures) c.requires.lawful.fit in
    over_after t reflectors _ (run_of t reflectors (take c.loop-line.line-index lines)) _ c.in_ok-played.played c.play_line.new.reflect
    c.in_default.not-TooManySteps
    (c.in_ok-played.ensures t reflectors (run_of t reflectors (take c.loop-line.line-index lines)) c.loop-line.invariant.played.at
    (this_fits t reflectors lines c.loop-line.line-index c.line-item.result c.line-item.is c.loop-line-test.true fit))

pub put_told-requires-clause-there : goal.put_told-requires-clause-there
put_told-requires-clause-there g c =
    let t = c.args.topology.now in
    let reflectors = numbers_of c.args.script.now.reflectors in
    let lines : List ReflectLine = c.lines-lines.result.now in
    let fit : All (λ (line : ReflectLine). command_fits t reflectors line.command ≡ true) lines =
    subst (All (λ (line : ReflectLine). command_fits t reflectors line.command ≡ true)) (sym c.lines-lines.ensures) c.requires.lawful.fit in
    table_there t reflectors c.line-item.result.command
    (this_fits t reflectors lines c.loop-line.line-index c.line-item.result c.line-item.is c.loop-line-test.true fit)

pub loop-line-preserved : goal.loop-line-preserved
loop-line-preserved g c =
    let t = c.args.topology.now in
    let reflectors = numbers_of c.args.script.now.reflectors in
    let lines : List ReflectLine = c.lines-lines.result.now in
    let fit : All (λ (line : ReflectLine). command_fits t reflectors line.command ≡ true) lines =
    subst (All (λ (line : ReflectLine). command_fits t reflectors line.command ≡ true)) (sym c.lines-lines.ensures) c.requires.lawful.fit in
    let below : c.loop-line.line-index < length lines = c.loop-line-test.true in
    let past = c.loop-line.invariant.played in
    let follows =
    c.in_ok-played.ensures t reflectors (run_of t reflectors (take c.loop-line.line-index lines)) past.at
    (this_fits t reflectors lines c.loop-line.line-index c.line-item.result c.line-item.is below fit) in
    record {
      few = let few = c.loop-line.invariant.few in let one = at_most_one c.in_ok-played.played in let count = c.in_ok-refused.ensures.counted in omega (
        arith,
        few,
        one,
        count,
      );
      played = line_played t reflectors lines c.loop-line.line-index _ _ c.loop-line.refused c.loop-line.reflect past c.line-item.result below
          c.line-item.is c.in_ok-played.played c.play_line.new.reflect follows _ c.in_ok-refused.field-0
          c.in_default.not-TooManySteps
          (c.in_ok-refused.ensures.told reflectors (run_of t reflectors (take c.loop-line.line-index lines)).steps follows.shows)
          c.in_ok-refused.ensures.counted;
    }

pub returns-in_err-played : goal.returns-in_err-played
returns-in_err-played g c =
    let t = c.args.topology.now in
    let reflectors = numbers_of c.args.script.now.reflectors in
    let lines : List ReflectLine = c.lines-lines.result.now in
    plays_as t reflectors lines c.args.script.now.lines c.play_line.new.reflect _ _ c.from_residual.result c.lines-lines.ensures
    (plays_err t reflectors lines c.play_line.new.reflect _ _ NoMemory c.from_residual.result c.from_residual.ensures
    (want_at t reflectors lines c.loop-line.line-index _ _ c.loop-line.refused c.loop-line.reflect c.loop-line.invariant.played))

pub returns-in-TooManySteps : goal.returns-in-TooManySteps
returns-in-TooManySteps g c =
    let t = c.args.topology.now in
    let reflectors = numbers_of c.args.script.now.reflectors in
    let lines : List ReflectLine = c.lines-lines.result.now in
    let fit : All (λ (line : ReflectLine). command_fits t reflectors line.command ≡ true) lines =
    subst (All (λ (line : ReflectLine). command_fits t reflectors line.command ≡ true)) (sym c.lines-lines.ensures) c.requires.lawful.fit in
    let below : c.loop-line.line-index < length lines = c.loop-line-test.true in
    let past = c.loop-line.invariant.played in
    let follows =
    rw c.in-TooManySteps.is at
    (c.in_ok-played.ensures t reflectors (run_of t reflectors (take c.loop-line.line-index lines)) past.at
    (this_fits t reflectors lines c.loop-line.line-index c.line-item.result c.line-item.is below fit)) in
    cut_as t reflectors lines c.args.script.now.lines _ _ c.lines-lines.ensures
    (cut_at t reflectors lines c.loop-line.line-index _ _ c.loop-line.refused c.loop-line.reflect past c.line-item.result below
    c.line-item.is c.play_line.new.reflect follows)

pub returns-in_err-refused : goal.returns-in_err-refused
returns-in_err-refused g c =
    let t = c.args.topology.now in
    let reflectors = numbers_of c.args.script.now.reflectors in
    let lines : List ReflectLine = c.lines-lines.result.now in
    let fit : All (λ (line : ReflectLine). command_fits t reflectors line.command ≡ true) lines =
    subst (All (λ (line : ReflectLine). command_fits t reflectors line.command ≡ true)) (sym c.lines-lines.ensures) c.requires.lawful.fit in
    let below : c.loop-line.line-index < length lines = c.loop-line-test.true in
    let past = c.loop-line.invariant.played in
    let follows =
    c.in_ok-played.ensures t reflectors (run_of t reflectors (take c.loop-line.line-index lines)) past.at
    (this_fits t reflectors lines c.loop-line.line-index c.line-item.result c.line-item.is below fit) in
    plays_as t reflectors lines c.args.script.now.lines c.play_line.new.reflect _ _ c.from_residual-in_err-refused.result c.lines-lines.ensures
    (plays_err t reflectors lines c.play_line.new.reflect _ _ c.in_err-refused.field-0.0 c.from_residual-in_err-refused.result
    c.from_residual-in_err-refused.ensures
    (played_cut t reflectors lines c.loop-line.line-index _ _ c.loop-line.refused c.loop-line.reflect past c.line-item.result below
    c.line-item.is c.in_ok-played.played c.play_line.new.reflect follows _ c.in_err-refused.field-0.0
    c.in_default.not-TooManySteps
    (tells_in _ _ _ c.in_err-refused.field-0.0
    (c.in_err-refused.ensures.told reflectors (run_of t reflectors (take c.loop-line.line-index lines)).steps follows.shows))))

pub returns : goal.returns
returns g c =
    all_played c.args.topology.now (numbers_of c.args.script.now.reflectors) c.lines-lines.result.now c.args.script.now.lines c.loop-line.line-index
    c.loop-line.reflect c.loop-line.refused _ _ c.loop-line-test.false c.lines-lines.ensures c.loop-line.invariant.played
