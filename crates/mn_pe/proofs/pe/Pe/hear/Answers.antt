use Rattle.std.proofs.Common.{◌≡◌, ◌<◌, [], List, length, arith, refl, sym, ◌∙◌, ap, subst}
use Rattle.std.specs.Prelude.{slice_index_or, slice_set}
use Rattle.std.proofs.lemmas.List.{get_or-set_same, get_or_default}
use Rattle.mn_rib_in.specs.Heard.{Heard}
use Rattle.mn_pe.specs.Pe.{AreOfEdge, AreLabelled, edge_of}
use Rattle.mn_pe.specs.Edge.{after_withdrawn, after_reached, after_update}
use Rattle.mn_pe.specs.Pe.{PeNow, after_giving, after_taking}
use Rattle.mn_pe.proofs.Becomes.{Becomes, seen}
use Rattle.mn_pe.proofs.Sound.{heard_then}
use Rattle.mn_pe.proofs.pe.Pe.hear.Goals as goal
use Rattle.mn_pe.proofs.pe.Pe.hear.Goals.{In-Ok}

-- the VRFs and what was received are the edge's
pub hear_withdrawn-requires : goal.hear_withdrawn-requires
hear_withdrawn-requires c =
    let address : c.args.loopback ≡ slice_index_or c.self.inside.loopbacks.items c.args.peer.0 0 = c.requires.address
    ∙ ap (λ (p : PeNow). slice_index_or p.edge.loopbacks c.args.peer.0 0) (sym c.self.view_is) in
    let below : c.args.peer.0 < length c.self.inside.heard.items = omega arith in
    record {
      edge =
          edge_of c.self.inside.vrfs.items c.self.inside.sites.items c.self.inside.labels.items c.self.inside.loopbacks.items c.self.inside.heard.items;
      below = below;
      same = refl;
      sound = c.self.invariant c.if-self.false;
      heard_is = sym (c.index_mut.ensures.value ∙ get_or_default c.self.inside.heard.items c.args.peer.0 c.index_mut.result.now [] below);
      loopback_is = address;
    }

pub hear_reached-requires-clause-edge : goal.hear_reached-requires-clause-edge
hear_reached-requires-clause-edge c =
    let below : c.args.peer.0 < length c.self.inside.heard.items = omega arith in
    subst (λ (heard : List Heard). AreOfEdge c.hear_withdrawn.new.vrfs.items heard c.args.loopback c.args.peer.0)
    (sym (c.index_mut-2.ensures.value
    ∙ get_or-set_same c.self.inside.heard.items c.args.peer.0 c.hear_withdrawn.new.heard c.index_mut-2.result.now below)) c.hear_withdrawn.ensures.edge

pub hear_reached-requires-clause-labels : goal.hear_reached-requires-clause-labels
hear_reached-requires-clause-labels c = subst AreLabelled (sym c.reached.ensures) c.requires.labels

-- the edge has received the UPDATE
heard : (c : In-Ok) → Becomes c.hear_reached.new.vrfs.items c.self.inside.sites.items c.self.inside.labels.items c.self.inside.loopbacks.items
    (slice_set (slice_set c.self.inside.heard.items c.args.peer.0 c.hear_withdrawn.new.heard) c.args.peer.0 c.hear_reached.new.heard)
    (after_update c.args.self.now.edge c.args.peer.0 c.args.update.now)
heard c =
    let address : c.args.loopback ≡ slice_index_or c.self.inside.loopbacks.items c.args.peer.0 0 = c.requires.address
    ∙ ap (λ (p : PeNow). slice_index_or p.edge.loopbacks c.args.peer.0 0) (sym c.self.view_is) in
    let below : c.args.peer.0 < length c.self.inside.heard.items = omega arith in
    seen (λ edge. after_update edge c.args.peer.0 c.args.update.now) c.self.view_is
    (heard_then c.self.inside.vrfs.items c.self.inside.sites.items c.self.inside.labels.items c.self.inside.loopbacks.items c.self.inside.heard.items
    c.args.peer.0 c.args.update.now c.index_mut.result.now c.index_mut-2.result.now c.hear_withdrawn.new.heard c.hear_reached.new.heard
    c.hear_withdrawn.new.vrfs.items c.hear_reached.new.vrfs.items
    below
    (record {
      first_is = c.index_mut.ensures.value;
      one_is = c.hear_withdrawn.ensures.heard ∙ ap (after_withdrawn c.index_mut.result.now) c.withdrawn.ensures;
      given_is = c.hear_withdrawn.ensures.vrfs ∙ ap (after_giving c.args.loopback c.args.peer.0 c.self.inside.vrfs.items) c.withdrawn.ensures
          ∙ ap (λ n. after_giving n c.args.peer.0 c.self.inside.vrfs.items c.args.update.now.withdrawn) address;
      last_is = c.index_mut-2.ensures.value;
      two_is = c.in-Ok.ensures.heard ∙ ap (after_reached c.targets.result.now c.index_mut-2.result.now) c.reached.ensures
          ∙ ap (λ ts. after_reached ts c.index_mut-2.result.now c.args.update.now.reached) c.targets.ensures;
      taken_is = c.in-Ok.ensures.vrfs ∙ ap (after_taking c.args.loopback c.args.peer.0 c.targets.result.now c.hear_withdrawn.new.vrfs.items) c.reached.ensures
          ∙ ap (λ ts. after_taking c.args.loopback c.args.peer.0 ts c.hear_withdrawn.new.vrfs.items c.args.update.now.reached) c.targets.ensures
          ∙ ap (λ n. after_taking n c.args.peer.0 c.args.update.now.targets c.hear_withdrawn.new.vrfs.items c.args.update.now.reached) address;
    }) c.requires.labels (c.self.invariant c.if-self.false))

pub invariant_of-self-2 : goal.invariant_of-self-2
invariant_of-self-2 c _ = (heard (goal.at.invariant_of-self-2 c).In-Ok).sound

pub returns-clause-ok : goal.returns-clause-ok
returns-clause-ok c = (heard (goal.at.returns-clause-ok c).In-Ok).is
