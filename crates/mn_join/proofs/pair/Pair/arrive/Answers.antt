use Rattle.std.proofs.Common.{Ok, Err, Some, ◌∙◌, ap, sym, subst}
use Rattle.mn_join_laws.specs.declared.leg.Which.TheVariants.{First, Second}
use Rattle.mn_join.specs.Pairs.{PairNow, PairStands}
use Rattle.mn_join.specs.Moves.{Arrives, ArrivesIn}
use Rattle.mn_join.proofs.Sending.{first_arrives, second_arrives}
use Rattle.mn_join.proofs.pair.Pair.arrive.Goals.{in-First, in-Second}
use Rattle.mn_join.proofs.pair.Pair.arrive.Goals as goal

pub returns-in-Ok-clause-arrives : goal.returns-in-Ok-clause-arrives
returns-in-Ok-clause-arrives c = λ pairing both stands.
    let old : PairNow = record {
      first = c.self.inside.first;
      second = c.self.inside.second;
      travels = c.self.inside.travels.items;
      exits =
          c.self.inside.exits.items;
      stopped = c.self.inside.stopped;
    } in
    let mid = c.match-which.self-inside in
    let new : PairNow = record { first = mid.first; second = mid.second; travels = mid.travels.items; exits = mid.exits.items; stopped = mid.stopped } in
    let stand : PairStands pairing old both = subst (λ p. PairStands pairing p both) (sym c.self.view_is) stands in
    elim c.match-which.branch [
      | in-First w ↦ subst (λ v. ArrivesIn pairing v c.args.arrivals both new (Ok c.in-Ok.came)) (sym w.in-First.is)
          (first_arrives pairing old both stand c.args.arrivals (Ok c.in-Ok.came) w.arrive-arrived.new.self
          (subst (Arrives pairing First c.args.arrivals both.first w.arrive-arrived.new.self) (sym w.arrived-is ∙ c.in-Ok.is)
          (w.arrive-arrived.ensures.arrives pairing First both.first (stand.sides First))) new
          (ap (λ p. p.first) w.self-inside-is) (ap (λ p. p.second) w.self-inside-is) (ap (λ p. p.travels.items) w.self-inside-is))
      | in-Second w ↦ subst (λ v. ArrivesIn pairing v c.args.arrivals both new (Ok c.in-Ok.came)) (sym w.in-Second.is)
          (second_arrives pairing old both stand c.args.arrivals (Ok c.in-Ok.came) w.arrive-arrived-in-Second.new.self
          (subst (Arrives pairing Second c.args.arrivals both.second w.arrive-arrived-in-Second.new.self) (sym w.arrived-is ∙ c.in-Ok.is)
          (w.arrive-arrived-in-Second.ensures.arrives pairing Second both.second (stand.sides Second))) new
          (ap (λ p. p.second) w.self-inside-is) (ap (λ p. p.first) w.self-inside-is) (ap (λ p. p.travels.items) w.self-inside-is))
    ]

pub returns-in-Err-clause-arrives : goal.returns-in-Err-clause-arrives
returns-in-Err-clause-arrives c = λ pairing both stands.
    let old : PairNow = record {
      first = c.self.inside.first;
      second = c.self.inside.second;
      travels = c.self.inside.travels.items;
      exits =
          c.self.inside.exits.items;
      stopped = c.self.inside.stopped;
    } in
    let mid = c.match-which.self-inside in
    let new : PairNow = record { first = mid.first; second = mid.second; travels = mid.travels.items; exits = mid.exits.items; stopped = Some c.in-Err.bad } in
    let stand : PairStands pairing old both = subst (λ p. PairStands pairing p both) (sym c.self.view_is) stands in
    elim c.match-which.branch [
      | in-First w ↦ subst (λ v. ArrivesIn pairing v c.args.arrivals both new (Err c.in-Err.bad)) (sym w.in-First.is)
          (first_arrives pairing old both stand c.args.arrivals (Err c.in-Err.bad) w.arrive-arrived.new.self
          (subst (Arrives pairing First c.args.arrivals both.first w.arrive-arrived.new.self) (sym w.arrived-is ∙ c.in-Err.is)
          (w.arrive-arrived.ensures.arrives pairing First both.first (stand.sides First))) new
          (ap (λ p. p.first) w.self-inside-is) (ap (λ p. p.second) w.self-inside-is) (ap (λ p. p.travels.items) w.self-inside-is))
      | in-Second w ↦ subst (λ v. ArrivesIn pairing v c.args.arrivals both new (Err c.in-Err.bad)) (sym w.in-Second.is)
          (second_arrives pairing old both stand c.args.arrivals (Err c.in-Err.bad) w.arrive-arrived-in-Second.new.self
          (subst (Arrives pairing Second c.args.arrivals both.second w.arrive-arrived-in-Second.new.self) (sym w.arrived-is ∙ c.in-Err.is)
          (w.arrive-arrived-in-Second.ensures.arrives pairing Second both.second (stand.sides Second))) new
          (ap (λ p. p.second) w.self-inside-is) (ap (λ p. p.first) w.self-inside-is) (ap (λ p. p.travels.items) w.self-inside-is))
    ]
