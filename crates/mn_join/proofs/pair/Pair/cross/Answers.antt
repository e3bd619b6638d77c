use Rattle.std.proofs.Common.{refl, sym, subst}
use Rattle.mn_join_laws.specs.declared.leg.Which.TheVariants.{First, Second}
use Rattle.mn_join.specs.Pairs.{PairNow, PairStands}
use Rattle.mn_join.specs.Moves.{Standing, HandsOver, Crosses}
use Rattle.mn_join.proofs.HandedOver.{to_standing, first_crosses, second_crosses}
use Rattle.mn_join.proofs.pair.Pair.cross.Goals as goal

pub returns-in-First-clause-crosses : goal.returns-in-First-clause-crosses
returns-in-First-clause-crosses c = λ pairing both stands.
    let old : PairNow = record {
      first = c.self.inside.first;
      second = c.self.inside.second;
      travels = c.self.inside.travels.items;
      exits =
          c.self.inside.exits.items;
      stopped = c.self.inside.stopped;
    } in
    let new : PairNow = record {
      first = c.self.inside.first;
      second = c.hand_over.new.there;
      travels = c.hand_over.new.crossings.items;
      exits =
          c.hand_over.new.exits.items;
      stopped = c.self.inside.stopped;
    } in
    let stand : PairStands pairing old both = subst (λ p. PairStands pairing p both) (sym c.self.view_is) stands in
    let standing = subst (λ w. Standing pairing w old.first old.second old.travels both) (sym c.in-First.is) (to_standing pairing First old both stand) in
    let over = subst (λ w. HandsOver pairing w both old.first new.second new.travels old.exits new.exits c.hand_over.result) c.in-First.is
    (c.hand_over.ensures.over pairing both standing) in
    subst (λ p. Crosses pairing c.args.which both p new c.hand_over.result) c.self.view_is
    (subst (λ w. Crosses pairing w both old new c.hand_over.result) (sym c.in-First.is) (first_crosses pairing both old new refl c.hand_over.result over))

pub returns-in-Second-clause-crosses : goal.returns-in-Second-clause-crosses
returns-in-Second-clause-crosses c = λ pairing both stands.
    let old : PairNow = record {
      first = c.self.inside.first;
      second = c.self.inside.second;
      travels = c.self.inside.travels.items;
      exits =
          c.self.inside.exits.items;
      stopped = c.self.inside.stopped;
    } in
    let new : PairNow = record {
      first = c.hand_over-in-Second.new.there;
      second = c.self.inside.second;
      travels =
          c.hand_over-in-Second.new.crossings.items;
      exits = c.hand_over-in-Second.new.exits.items;
      stopped = c.self.inside.stopped;
    } in
    let stand : PairStands pairing old both = subst (λ p. PairStands pairing p both) (sym c.self.view_is) stands in
    let standing = subst (λ w. Standing pairing w old.second old.first old.travels both) (sym c.in-Second.is) (to_standing pairing Second old both stand) in
    let over = subst (λ w. HandsOver pairing w both old.second new.first new.travels old.exits new.exits c.hand_over-in-Second.result) c.in-Second.is
    (c.hand_over-in-Second.ensures.over pairing both standing) in
    subst (λ p. Crosses pairing c.args.which both p new c.hand_over-in-Second.result) c.self.view_is
    (subst (λ w. Crosses pairing w both old new c.hand_over-in-Second.result) (sym c.in-Second.is)
    (second_crosses pairing both old new refl c.hand_over-in-Second.result over))
