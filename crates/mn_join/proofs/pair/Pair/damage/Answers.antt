use Rattle.std.proofs.Common.{refl, sym, subst}
use Rattle.mn_entry.specs.Damages.{ending, mark_of}
use Rattle.mn_damage.specs.Refusals.{damage_refusal}
use Rattle.mn_join_laws.specs.Pairing.{network, side, with_damage}
use Rattle.mn_join_laws.specs.declared.leg.Which.TheVariants.{First, Second}
use Rattle.mn_join.specs.Pairs.{PairNow, PairStands}
use Rattle.mn_join.specs.Moves.{Tries}
use Rattle.mn_join.proofs.Sending.{first_tries, second_tries}
use Rattle.mn_join.proofs.pair.Pair.damage.Goals as goal

pub returns-in-First-clause-tries : goal.returns-in-First-clause-tries
returns-in-First-clause-tries c = λ pairing both stands.
    let old : PairNow = record {
      first = c.self.inside.first;
      second = c.self.inside.second;
      travels = c.self.inside.travels.items;
      exits =
          c.self.inside.exits.items;
      stopped = c.self.inside.stopped;
    } in
    let new : PairNow = record {
      first = c.damage.new.self;
      second = c.self.inside.second;
      travels = c.self.inside.travels.items;
      exits =
          c.self.inside.exits.items;
      stopped = c.self.inside.stopped;
    } in
    let stand : PairStands pairing old both = subst (λ p. PairStands pairing p both) (sym c.self.view_is) stands in
    subst (λ w. Tries pairing both (with_damage both w c.args.damage) (damage_refusal (network pairing w) (side both w).past.entries
    (side both w).inputs c.args.damage c.args.packet.now) new c.damage.result) (sym c.in-First.is)
    (first_tries pairing old both stand (ending c.args.damage) (mark_of c.args.damage) _ c.damage.result c.damage.new.self
    (c.damage.ensures.damages pairing First both.first (stand.sides First)) new refl refl refl)

pub returns-in-Second-clause-tries : goal.returns-in-Second-clause-tries
returns-in-Second-clause-tries c = λ pairing both stands.
    let old : PairNow = record {
      first = c.self.inside.first;
      second = c.self.inside.second;
      travels = c.self.inside.travels.items;
      exits =
          c.self.inside.exits.items;
      stopped = c.self.inside.stopped;
    } in
    let new : PairNow = record {
      first = c.self.inside.first;
      second = c.damage-in-Second.new.self;
      travels = c.self.inside.travels.items;
      exits =
          c.self.inside.exits.items;
      stopped = c.self.inside.stopped;
    } in
    let stand : PairStands pairing old both = subst (λ p. PairStands pairing p both) (sym c.self.view_is) stands in
    subst (λ w. Tries pairing both (with_damage both w c.args.damage) (damage_refusal (network pairing w) (side both w).past.entries
    (side both w).inputs c.args.damage c.args.packet.now) new c.damage-in-Second.result) (sym c.in-Second.is)
    (second_tries pairing old both stand (ending c.args.damage) (mark_of c.args.damage) _ c.damage-in-Second.result c.damage-in-Second.new.self
    (c.damage-in-Second.ensures.damages pairing Second both.second (stand.sides Second)) new refl refl refl)
