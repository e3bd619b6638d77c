use Rattle.std.proofs.Common.{[], ◌≡◌, ◌<◌, List, ◌∷◌, length, ap, sym, subst, ◌∙◌, rules}
use Rattle.std.specs.List.{AllByRecursion}
use Rattle.mn_offers.specs.Heard.{Heard}
use Rattle.mn_reflect_world_laws.specs.Now.{ReflectNow}
use Rattle.mn_reflect_world_laws.specs.Choice.{row_at, names_in}
use Rattle.mn_reflect_world_laws.specs.Goes.{decide_all}
use Rattle.mn_reflect_telling.specs.Mentions.{key_of_heard}
use Rattle.mn_reflect_telling.specs.Passing.{IsPassable}
use Rattle.mn_reflect.specs.Doing.{changed_edge, decided_on}
use Rattle.mn_reflect.proofs.Turns.{key_is, next_decided, edges_alone, may_next, isnt_then, not_changed}
use Rattle.mn_reflect.proofs.reflect.Reflect.decide_gone.Goals as goal

pub decide-requires : goal.decide-requires
decide-requires c =
    let at = c.loop-offered in
    let now = c.args.self.now in
    let step : at.offered-iterator ≡ c.in-Some.offered.now ∷ c.next.new.self = search rules in
    record {
      edge = subst (λ (r : ReflectNow). c.args.edge.0 < length r.topology.loopbacks) (sym at.invariant.same) c.requires.edge;
      vrf = subst (λ (r : ReflectNow). c.vrf.result.0 < length r.topology.vrfs) (sym at.invariant.same)
          (subst (λ v. v < length now.topology.vrfs) (sym c.vrf.ensures) (subst (AllByRecursion (IsPassable now.topology)) step at.invariant.passable).0.vrf);
      may = at.invariant.may;
      isnt = isnt_then now at.self c.args.edge.0 at.invariant.same c.requires.isnt at.invariant.may;
    }

pub loop-offered-preserved : goal.loop-offered-preserved
loop-offered-preserved c =
    let at = c.loop-offered in
    let now = c.args.self.now in
    let edge = c.args.edge.0 in
    let route : Heard = c.in-Some.offered.now in
    let step : at.offered-iterator ≡ route ∷ c.next.new.self = search rules in
    let decided : c.decide.new.self ≡ decided_on edge (key_of_heard route) at.self =
    c.in_ok-decide.ensures
    ∙ ap (λ k. decided_on edge k at.self) (key_is route c.vrf.result c.prefix.result c.vrf.ensures c.prefix.ensures) in
    record {
      decided = next_decided now at.self edge at.invariant.same c.requires.isnt at.invariant.may c.decide.new.self (key_of_heard route) decided
          (names_in c.next.new.self) _
          (sym (ap (λ (rs : List Heard). changed_edge edge (decide_all now.topology now.reflectors (row_at now.heard edge) edge (names_in rs)) at.self) step)
          ∙ at.invariant.decided);
      same = edges_alone now at.self edge at.invariant.same c.requires.isnt at.invariant.may c.decide.new.self (key_of_heard route) decided;
      may = may_next now at.self edge at.invariant.same c.requires.isnt at.invariant.may c.decide.new.self (key_of_heard route) decided;
      passable = (subst (AllByRecursion (IsPassable now.topology)) step at.invariant.passable).1;
    }

pub returns : goal.returns
returns c =
    let at = c.loop-offered in
    let now = c.args.self.now in
    let edge = c.args.edge.0 in
    let none : at.offered-iterator ≡ [] = search rules in
    sym (not_changed at.self edge (at.invariant.may.edge (isnt_then now at.self edge at.invariant.same c.requires.isnt at.invariant.may)))
    ∙ sym (ap (λ (rs : List Heard). changed_edge edge (decide_all now.topology now.reflectors (row_at now.heard edge) edge (names_in rs)) at.self) none)
    ∙ at.invariant.decided
