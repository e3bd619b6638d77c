use Rattle.std.proofs.Common.{◌≡◌, ℕ, List, [], ◌∷◌, map, None, Option, refl, ◌∙◌, ap}
use Rattle.mn_base.specs.declared.numbers.VrfNo.{VrfNo}
use Rattle.mn_topo.specs.Network.{Network, nodes_with}
use Rattle.mn_topo.specs.declared.nodes.Node.{Node}
use Rattle.mn_topo.specs.declared.sites.SiteDef.{SiteDef}
use Rattle.mn_rib_in.specs.Heard.{Heard}
use Rattle.mn_vrf.specs.Vrf.{VrfState}
use Rattle.mn_pe.specs.Edge.{Edge}
use Rattle.mn_pe.specs.Pe.{edge_of}
use Rattle.mn_pe.specs.Start.{vrfs_from, edge_at_start}
use Rattle.mn_pe.proofs.AtStart.{start_sound}
use Rattle.mn_pe.proofs.Becomes.{working}
use Rattle.mn_pe.proofs.pe.Pe.laid.Goals as goal
use Rattle.mn_pe.proofs.pe.Pe.laid.Goals.{In_ok-heard}

addresses : (loopbacks : List ℕ) → map (λ (node : Node). node.loopback) (nodes_with loopbacks) ≡ loopbacks
addresses [] = refl
addresses (x ∷ xs) = ap (λ ys. x ∷ ys) (addresses xs)

edge_as : (vs us : List VrfState) (ss rs : List VrfNo) (ls ms : List (Option ℕ)) (bs cs : List ℕ) (hs gs : List (List Heard)) → vs ≡ us → ss ≡ rs → ls ≡ ms →
    bs ≡ cs → hs ≡ gs
    → (let e : Edge = record { vrfs = vs; sites = ss; labels = ls; loopbacks = bs; heard = hs } in e)
    ≡ (let e : Edge = record { vrfs = us; sites = rs; labels = ms; loopbacks = cs; heard = gs } in e)
edge_as vs us ss rs ls ms bs cs hs gs a b c d e = rw (a, b, c, d, e) refl

-- the edge is as the topology has it
at_start : (c : In_ok-heard) → edge_of c.in_ok-vrfs.vrfs.items c.in_ok-sites.sites.items c.in_ok-labels.labels.items c.in_ok-loopbacks.loopbacks.items
    c.in_ok-heard.heard.items ≡ edge_at_start c.args.topology.now c.args.node.0
at_start c =
    let t : Network = c.args.topology.now in
    let addresses_are : c.in_ok-loopbacks.loopbacks.items ≡ t.loopbacks =
    c.in_ok-loopbacks.ensures ∙ ap (map (λ (node : Node). node.loopback)) c.nodes.ensures ∙ addresses t.loopbacks in
    edge_as _ _ _ _ _ _ _ _ _ _
    (c.in_ok-vrfs.ensures.told ∙ ap (λ sites. vrfs_from sites c.args.node.0 0 c.vrfs.result.now) c.sites.ensures
    ∙ ap (vrfs_from t.sites c.args.node.0 0) c.vrfs.ensures)
    (c.in_ok-sites.ensures ∙ ap (map (λ (def : SiteDef). def.vrf)) c.sites-2.ensures)
    (c.in_ok-labels.ensures ∙ ap (map (λ (def : SiteDef). let none : Option ℕ = None in none)) c.sites-3.ensures)
    addresses_are
    (c.in_ok-heard.ensures ∙ ap (map (λ (loopback : ℕ). let nothing : List Heard = [] in nothing)) (c.as_slice.ensures.value ∙ addresses_are))

pub returns : goal.returns
returns c = ap working (at_start (goal.at.returns c).In_ok-heard)

-- and its VRFs hold nothing
pub invariant_of-result : goal.invariant_of-result
invariant_of-result c _ =
    start_sound c.args.topology.now c.args.node.0 c.in_ok-vrfs.vrfs.items c.in_ok-sites.sites.items c.in_ok-labels.labels.items
    c.in_ok-loopbacks.loopbacks.items c.in_ok-heard.heard.items c.laws.ensures (at_start (goal.at.invariant_of-result c).In_ok-heard)
    c.in_ok-vrfs.ensures.held
