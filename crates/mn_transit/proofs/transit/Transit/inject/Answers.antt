use Rattle.std.proofs.Common.{arith, sym, ◌∙◌, ap, subst}
use Rattle.std.proofs.lemmas.Grind.{common_steps}
use Rattle.mn_ipv4.specs.Header.{ttl_of}
use Rattle.mn_frame_laws.specs.Entries.{outer_for}
use Rattle.mn_pe.specs.Entries.{IsItsFate}
use Rattle.mn_transit.specs.Entering.{IsWayOut}
use Rattle.mn_transit.proofs.Injecting.{ready, stands_fallen, stands_stayed, leaves_home, stands_gone}
use Rattle.mn_transit.proofs.transit.Transit.inject.Goals as goal

pub depart-requires-clause-may : goal.depart-requires-clause-may
depart-requires-clause-may c = record {
  place = record {
    channels = grind (arith, common_steps);
    clock = c.requires.clock;
    last = grind (arith, common_steps);
    bytes = grind (arith, common_steps);
    room = grind (arith, common_steps);
    injected = grind (arith, common_steps);
    apart = grind (arith, common_steps);
  };
  hops = grind (arith, common_steps);
  entry = grind (arith, common_steps);
}

pub returns-in-Drop-clause-moved : goal.returns-in-Drop-clause-moved
returns-in-Drop-clause-moved c = λ given world packets site number bytes home mapped is out stands.
    stands_fallen _ given world _ _ packets c.args.node _ number site bytes c.in-Drop.rule c.judge.ensures home
    (subst (IsItsFate c.args.topology.now given world site.0 bytes) c.in-Drop.is is)
    (ready _ given _ _ _ packets c.args.node _ _ _ c.in_ok-packet.ensures.more c.in_ok-packet.ensures.number c.begin.ensures.begun stands)

pub returns-in-Local-clause-moved : goal.returns-in-Local-clause-moved
returns-in-Local-clause-moved c = λ given world packets site number bytes home mapped is out stands.
    let local = subst (IsItsFate c.args.topology.now given world site.0 bytes) c.in-Local.is is in
    stands_stayed _ given world _ _ packets c.args.node _ number _ site c.in-Local.site bytes c.in-Local.frame c.deliver.ensures
    (c.ttl_of-ttl.ensures ∙ ap ttl_of c.packet.ensures.packet) home local.0 local.1
    (ready _ given _ _ _ packets c.args.node _ _ _ c.in_ok-packet.ensures.more c.in_ok-packet.ensures.number c.begin.ensures.begun stands)

pub returns-in-Tunnel-clause-moved : goal.returns-in-Tunnel-clause-moved
returns-in-Tunnel-clause-moved c = λ given world packets site number bytes home mapped is out stands.
    let tunnel = subst (IsItsFate c.args.topology.now given world site.0 bytes) c.in-Tunnel.is is in
    let way = subst (λ e. IsWayOut c.args.topology.now given world c.args.node.0 e c.args.outer) c.in-Tunnel.is out in
    let are = ready _ given _ _ _ packets c.args.node _ _ _ c.in_ok-packet.ensures.more c.in_ok-packet.ensures.number c.begin.ensures.begun stands in
    stands_gone _ given world c.args.self.now _ packets c.args.node _ number site bytes tunnel.0 home tunnel.1 are.number
    (c.depart.ensures.stands given world _ tunnel.0 bytes c.requires.node (leaves_home _ world c.args.node.0 site bytes tunnel.0 home tunnel.1)
    mapped (way ∙ ap (λ e. outer_for c.args.topology.now given world c.args.node.0 e) (sym tunnel.2)) tunnel.3 are.stands)
