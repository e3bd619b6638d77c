use Rattle.std.proofs.Common.{◌≡◌, ◌<◌, [], ◌∷◌, length, ap, sym, subst, ◌∙◌, rules}
use Rattle.std.specs.List.{AllByRecursion}
use Rattle.mn_offers.specs.Heard.{Heard}
use Rattle.mn_reflect_ledger_laws.specs.Words.{Key}
use Rattle.mn_reflect_telling.specs.Mentions.{numbers_of, row_in, row_with, key_of_heard}
use Rattle.mn_reflect_telling.specs.Names.{named}
use Rattle.mn_reflect_telling.specs.Passing.{IsPassable}
use Rattle.mn_reflect_telling.proofs.Gone.{shown_before, shown_after, lost_next, lost_all}
use Rattle.mn_reflect_telling.proofs.teller.Teller.tell_gone.Goals as goal

pub tell_lost-requires-clause-nodes : goal.tell_lost-requires-clause-nodes
tell_lost-requires-clause-nodes c = c.loop-offered.invariant.nodes

pub tell_lost-requires-clause-name : goal.tell_lost-requires-clause-name
tell_lost-requires-clause-name c =
    let t = c.args.self.now.topology.now in
    let step : c.loop-offered.offered-iterator ≡ c.in-Some.offered.now ∷ c.next.new.self = search rules in
    subst (λ v. v < length t.vrfs) (sym c.vrf.ensures) (subst (AllByRecursion (IsPassable t)) step c.loop-offered.invariant.passable).0.vrf

pub loop-offered-preserved : goal.loop-offered-preserved
loop-offered-preserved c =
    let at = c.loop-offered in
    let self = c.args.self.now in
    let heard = c.args.heard.now in
    let peer = c.args.peer.0 in
    let gone = c.args.gone.now in
    let route : Heard = c.in-Some.offered.now in
    let key : Key = named c.vrf.result c.prefix.result in
    let step : at.offered-iterator ≡ route ∷ c.next.new.self = search rules in
    let same : key ≡ key_of_heard route =
    ap (λ v. let k : Key = record { vrf = v; prefix = c.prefix.result } in k) c.vrf.ensures
    ∙ ap (λ p. let k : Key = record { vrf = route.vrf; prefix = p } in k) c.prefix.ensures in
    record {
      told = lost_next self.topology.now (numbers_of self.reflectors.now) self.node.0 c.args.peers.now (row_with heard peer gone)
          (row_in heard) at.offered-iterator c.next.new.self route key at.mail c.tell_lost.new.mail _
          step same
          (c.in_ok-tell_lost.ensures.told (row_with heard peer gone) (row_in heard) (shown_before heard peer gone key)
          (shown_after heard peer gone c.requires.forgotten key))
          at.invariant.told;
      nodes = c.in_ok-tell_lost.ensures.nodes ∙ at.invariant.nodes;
      passable = (subst (AllByRecursion (IsPassable self.topology.now)) step at.invariant.passable).1;
    }

pub returns-clause-told : goal.returns-clause-told
returns-clause-told c =
    let at = c.loop-offered in
    let none : at.offered-iterator ≡ [] = search rules in
    lost_all c.args.self.now.topology.now (numbers_of c.args.self.now.reflectors.now) c.args.self.now.node.0 c.args.peers.now
    (row_with c.args.heard.now c.args.peer.0 c.args.gone.now) (row_in c.args.heard.now) at.offered-iterator at.mail _ none at.invariant.told

pub returns-clause-nodes : goal.returns-clause-nodes
returns-clause-nodes c = c.loop-offered.invariant.nodes ∙ sym c.requires.nodes
