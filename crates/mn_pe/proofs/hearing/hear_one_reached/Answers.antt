use Rattle.std.proofs.Common.{◌≡◌, List, map, sym, ◌∙◌, ap, subst}
use Rattle.mn_rib_in.specs.Heard.{Heard}
use Rattle.mn_vrf.specs.declared.source.Source.{Source}
use Rattle.mn_vrf.specs.Vrf.{Holding}
use Rattle.mn_pe.specs.Pe.{AreOfEdge, taking, offering, far_route}
use Rattle.mn_pe.proofs.Places.{on_ok}
use Rattle.mn_pe.proofs.Unheard.{taken-of, unheard-taken}
use Rattle.mn_pe.proofs.hearing.hear_one_reached.Goals as goal
use Rattle.mn_pe.proofs.hearing.hear_one_reached.Goals.{Joined-has, then-has+in_ok-take_in_all, else-has+in_ok-offer_in_all}

-- each VRF has taken it: one that wasn't received was held by none
taken : (c : Joined-has) → c.if-has.vrfs.items ≡ map (taking
    (far_route c.args.loopback c.args.peer.0 c.args.route.now.rd c.args.route.now.prefix c.args.route.now.label) c.args.targets.now) c.args.vrfs.now.items
taken c =
    let hs : List Holding = c.args.vrfs.now.items in
    let p = c.args.route.now.prefix in
    let ts = c.args.targets.now in
    elim c.if-has.branch [
      | then-has+in_ok-take_in_all w ↦
          ap (λ v. v.items) w.vrfs-is ∙ w.in_ok-take_in_all.ensures.ok ∙ ap (λ (s : Source). map (taking (p, s) ts) hs) c.far_source-source.ensures
      | else-has+in_ok-offer_in_all w ↦
          ap (λ v. v.items) w.vrfs-is ∙ w.in_ok-offer_in_all.ensures.ok ∙ ap (λ (s : Source). map (offering (p, s) ts) hs) c.far_source-source.ensures
          ∙ unheard-taken hs c.args.heard.now c.args.loopback c.args.peer.0 c.requires.edge c.args.route.now.rd p
          (sym c.has.ensures ∙ w.if-has.false) c.args.route.now.label ts
    ]

pub returns-clause-vrfs : goal.returns-clause-vrfs
returns-clause-vrfs c = on_ok c.set.result _ _ (λ set. taken (goal.at.returns-clause-vrfs c).Joined-has) c.set.ensures.ok

pub returns-clause-edge : goal.returns-clause-edge
returns-clause-edge c =
    let hs : List Holding = c.args.vrfs.now.items in
    let p = c.args.route.now.prefix in
    let ts = c.args.targets.now in
    on_ok c.set.result _ _ (λ set.
    subst (λ (xs : List Holding). AreOfEdge xs c.set.new.self c.args.loopback c.args.peer.0) (sym (taken (goal.at.returns-clause-edge c).Joined-has))
    (subst (λ (heard : List Heard). AreOfEdge (map (taking (far_route c.args.loopback c.args.peer.0 c.args.route.now.rd p c.args.route.now.label) ts) hs) heard
    c.args.loopback c.args.peer.0) (sym set)
    (taken-of hs c.args.heard.now c.args.loopback c.args.peer.0 c.requires.edge
    (record { rd = c.args.route.now.rd; prefix = p; label = c.args.route.now.label; targets = ts }) c.requires.label))) c.set.ensures.ok
