use Rattle.std.proofs.Common.{◌≡◌, List, map, false, sym, ◌∙◌, ap, subst}
use Rattle.mn_rib_in.specs.Heard.{Heard, has_heard}
use Rattle.mn_vrf.specs.declared.source.Source.{Source}
use Rattle.mn_vrf.specs.Vrf.{Holding}
use Rattle.mn_pe.specs.Pe.{AreOfEdge, giving, far_route}
use Rattle.mn_pe.proofs.Unheard.{given-of, unheard-given}
use Rattle.mn_pe.proofs.hearing.hear_one_withdrawn.Goals as goal

pub returns-then-remove-clause-edge : goal.returns-then-remove-clause-edge
returns-then-remove-clause-edge c =
    let hs : List Holding = c.args.vrfs.now.items in
    let r = far_route c.args.loopback c.args.peer.0 c.args.route.now.rd c.args.route.now.prefix 0 in
    let made : c.give_in_all.new.vrfs.items ≡ map (giving r) hs =
    c.give_in_all.ensures ∙ ap (λ (s : Source). map (giving (c.args.route.now.prefix, s)) hs) c.far_source.ensures in
    subst (λ (xs : List Holding). AreOfEdge xs c.remove.new.self c.args.loopback c.args.peer.0) (sym made)
    (subst (λ (heard : List Heard). AreOfEdge (map (giving r) hs) heard c.args.loopback c.args.peer.0) (sym c.remove.ensures.removed)
    (given-of hs c.args.heard.now c.args.loopback c.args.peer.0 c.requires c.args.route.now.rd c.args.route.now.prefix))

-- it wasn't received, so none holds it
pub returns-else-remove-clause-vrfs : goal.returns-else-remove-clause-vrfs
returns-else-remove-clause-vrfs c =
    let none : has_heard c.args.route.now.rd c.args.route.now.prefix c.args.heard.now ≡ false = sym c.remove.ensures.there ∙ c.if-remove.false in
    sym (unheard-given c.args.vrfs.now.items c.args.heard.now c.args.loopback c.args.peer.0 c.requires c.args.route.now.rd c.args.route.now.prefix none)

pub returns-else-remove-clause-edge : goal.returns-else-remove-clause-edge
returns-else-remove-clause-edge c =
    let hs : List Holding = c.args.vrfs.now.items in
    let none : has_heard c.args.route.now.rd c.args.route.now.prefix c.args.heard.now ≡ false = sym c.remove.ensures.there ∙ c.if-remove.false in
    subst (λ (xs : List Holding). AreOfEdge xs c.remove.new.self c.args.loopback c.args.peer.0)
    (unheard-given hs c.args.heard.now c.args.loopback c.args.peer.0 c.requires c.args.route.now.rd c.args.route.now.prefix none)
    (subst (λ (heard : List Heard).
    AreOfEdge (map (giving (far_route c.args.loopback c.args.peer.0 c.args.route.now.rd c.args.route.now.prefix 0)) hs) heard c.args.loopback c.args.peer.0)
    (sym c.remove.ensures.removed)
    (given-of hs c.args.heard.now c.args.loopback c.args.peer.0 c.requires c.args.route.now.rd c.args.route.now.prefix))
