use Rattle.std.proofs.Common.{[], refl, sym, subst}
use Rattle.mn_topo.specs.declared.steps.Damaged.TheVariants.{Undamaged}
use Rattle.mn_join_laws.specs.Pairing.{with_plain_step}
use Rattle.mn_join_laws.specs.Course.{refusal_on}
use Rattle.mn_join_laws.specs.declared.leg.Which.TheVariants.{First, Second}
use Rattle.mn_join.specs.Pairs.{PairNow, PairStands}
use Rattle.mn_join.specs.Moves.{Tries}
use Rattle.mn_join.proofs.Sending.{first_tries, second_tries}
use Rattle.mn_join.proofs.pair.Pair.step.Goals as goal

pub returns-in-First-clause-tries : goal.returns-in-First-clause-tries
returns-in-First-clause-tries c = λ pairing both stands.
    let old : PairNow = record {
      first = c.self.inside.first;
      second = c.self.inside.second;
      travels = c.self.inside.travels.items;
      exits =
          c.self.inside.exits.items;
      stopped = c.self.inside.stopped;
    } in
    let new : PairNow = record {
      first = c.step.new.self;
      second = c.self.inside.second;
      travels = c.self.inside.travels.items;
      exits =
          c.self.inside.exits.items;
      stopped = c.self.inside.stopped;
    } in
    let stand : PairStands pairing old both = subst (λ p. PairStands pairing p both) (sym c.self.view_is) stands in
    subst (λ w. Tries pairing both (with_plain_step both w c.args.step) (refusal_on pairing both w c.args.step []) new c.step.result) (sym c.in-First.is)
    (first_tries pairing old both stand c.args.step Undamaged _ c.step.result c.step.new.self
    (c.step.ensures.steps pairing First both.first (stand.sides First)) new refl refl refl)

pub returns-in-Second-clause-tries : goal.returns-in-Second-clause-tries
returns-in-Second-clause-tries c = λ pairing both stands.
    let old : PairNow = record {
      first = c.self.inside.first;
      second = c.self.inside.second;
      travels = c.self.inside.travels.items;
      exits =
          c.self.inside.exits.items;
      stopped = c.self.inside.stopped;
    } in
    let new : PairNow = record {
      first = c.self.inside.first;
      second = c.step-in-Second.new.self;
      travels = c.self.inside.travels.items;
      exits =
          c.self.inside.exits.items;
      stopped = c.self.inside.stopped;
    } in
    let stand : PairStands pairing old both = subst (λ p. PairStands pairing p both) (sym c.self.view_is) stands in
    subst (λ w. Tries pairing both (with_plain_step both w c.args.step) (refusal_on pairing both w c.args.step []) new c.step-in-Second.result)
    (sym c.in-Second.is)
    (second_tries pairing old both stand c.args.step Undamaged _ c.step-in-Second.result c.step-in-Second.new.self
    (c.step-in-Second.ensures.steps pairing Second both.second (stand.sides Second)) new refl refl refl)
