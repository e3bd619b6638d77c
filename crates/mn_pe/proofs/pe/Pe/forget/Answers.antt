use Rattle.std.proofs.Common.{◌≡◌, ◌<◌, [], Bool, length, arith, sym, ◌∙◌, ap}
use Rattle.std.specs.Prelude.{slice_index_or, slice_set}
use Rattle.std.proofs.lemmas.List.{get_or_default}
use Rattle.mn_pe.specs.Edge.{after_forget}
use Rattle.mn_pe.specs.Pe.{PeNow, edge_of, after_forgetting}
use Rattle.mn_pe.proofs.Becomes.{Becomes, seen}
use Rattle.mn_pe.proofs.Sound.{forgot}
use Rattle.mn_pe.proofs.pe.Pe.forget.Goals as goal
use Rattle.mn_pe.proofs.pe.Pe.forget.Goals.{After-clear}

-- nothing is known of the peer
unheard : (c : After-clear) → Becomes c.forget_in_all.new.vrfs.items c.self.inside.sites.items c.self.inside.labels.items c.self.inside.loopbacks.items
    (slice_set c.self.inside.heard.items c.args.peer.0 c.clear.new.self) (after_forget c.args.self.now.edge c.args.peer.0)
unheard c =
    let below : c.args.peer.0 < length c.self.inside.heard.items = omega arith in
    let new_is : c.forget_in_all.new.vrfs.items ≡ after_forgetting
    (slice_index_or c.self.inside.loopbacks.items c.args.peer.0 0) c.args.peer.0 c.self.inside.vrfs.items
    (slice_index_or c.self.inside.heard.items c.args.peer.0 []) =
    c.forget_in_all.ensures
    ∙ ap (after_forgetting c.loopback-loopback.result c.args.peer.0 c.self.inside.vrfs.items)
    (c.index.ensures ∙ get_or_default c.self.inside.heard.items c.args.peer.0 c.index.result.now [] below)
    ∙ ap (λ n. after_forgetting n c.args.peer.0 c.self.inside.vrfs.items (slice_index_or c.self.inside.heard.items c.args.peer.0 []))
    (c.loopback-loopback.ensures ∙ ap (λ (p : PeNow). slice_index_or p.edge.loopbacks c.args.peer.0 0) (sym c.self.view_is)) in
    seen (λ edge. after_forget edge c.args.peer.0) c.self.view_is
    (forgot c.self.inside.vrfs.items c.forget_in_all.new.vrfs.items c.self.inside.sites.items c.self.inside.labels.items c.self.inside.loopbacks.items
    c.self.inside.heard.items c.clear.new.self c.args.peer.0 below new_is c.clear.ensures (c.self.invariant c.if-self.false))

pub invariant_of-self : goal.invariant_of-self
invariant_of-self c works = (unheard (goal.at.invariant_of-self c).After-clear).sound

pub returns-clause-ok : goal.returns-clause-ok
returns-clause-ok c =
    ap (λ (b : Bool). let p : PeNow = record {
      edge = edge_of c.forget_in_all.new.vrfs.items c.self.inside.sites.items c.self.inside.labels.items
          c.self.inside.loopbacks.items (slice_set c.self.inside.heard.items c.args.peer.0 c.clear.new.self);
      failed = b;
    } in p) c.if-self.false
    ∙ (unheard (goal.at.returns-clause-ok c).After-clear).is
