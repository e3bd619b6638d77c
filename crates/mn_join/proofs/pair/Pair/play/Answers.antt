use Rattle.std.proofs.Common.{Err, Some, refl, ap, sym, subst}
use Rattle.mn_join_laws.specs.Course.{played}
use Rattle.mn_join.specs.Pairs.{PairNow}
use Rattle.mn_join.specs.Plays.{Plays}
use Rattle.mn_join.proofs.Starting.{same_stands, same_plays}
use Rattle.mn_join.proofs.pair.Pair.play.Goals as goal

pub returns-in-Ok-clause-course : goal.returns-in-Ok-clause-course
returns-in-Ok-clause-course c = λ goes pairing both stands.
    c.in-Ok.ensures.course pairing both
    (same_stands pairing c.args.self.now _ both (ap (λ (p : PairNow). p.first) c.self.view_is) (ap (λ (p : PairNow). p.second) c.self.view_is)
    (ap (λ (p : PairNow). p.travels) c.self.view_is) stands)

pub returns-in-Err-clause-course : goal.returns-in-Err-clause-course
returns-in-Err-clause-course c = λ goes pairing both stands.
    let after = c.self-2.inside in
    let old : PairNow = record {
      first = after.first;
      second = after.second;
      travels = after.travels.items;
      exits = after.exits.items;
      stopped =
          after.stopped;
    } in
    let new : PairNow = record {
      first = after.first;
      second = after.second;
      travels = after.travels.items;
      exits = after.exits.items;
      stopped =
          Some c.in-Err.bad;
    } in
    let course = played pairing c.args.which both c.args.command.now c.args.packet.now in
    same_plays pairing course old new c.in-Err.bad refl refl refl refl
    (subst (λ p. Plays pairing course p (Err c.in-Err.bad)) (sym c.self-2.view_is)
    (c.in-Err.ensures.course pairing both
    (same_stands pairing c.args.self.now _ both (ap (λ (p : PairNow). p.first) c.self.view_is) (ap (λ (p : PairNow). p.second) c.self.view_is)
    (ap (λ (p : PairNow). p.travels) c.self.view_is) stands)))
