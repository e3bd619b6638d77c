use Rattle.std.proofs.Common.{Ok, true, refl, arith, ◌≡◌, ◌+◌, ◌++◌, List, [], map, length, ◌∙◌, sym, ap, subst, slice_index}
use Rattle.std.specs.List.{flat_map}
use Rattle.std.proofs.Math.ListN.{length-set}
use Rattle.mn_linkdb.specs.Learned.{Learned, links_up, after_learn}
use Rattle.mn_linkdb.specs.PathTable.{PathTable}
use Rattle.mn_bindings.specs.declared.event.LibEvent.{LibEvent}
use Rattle.mn_bindings.specs.Tells.{tells}
use Rattle.mn_node.specs.Machine.{Learns}
use Rattle.mn_lsr.specs.declared.parts.Parts.{Parts}
use Rattle.mn_lsr.specs.declared.said.Said.{Said}
use Rattle.mn_lsr.specs.Said.{pdu_of}
use Rattle.mn_lsr.specs.Telling.{said_by_tell}
use Rattle.mn_labels.specs.Labels.{own_labels}
use Rattle.mn_lsr.specs.Parts.{Stands, wiring_in, node_in, stays, kept_of, pdus_by, ends_after, hop_events}
use Rattle.mn_lsr.proofs.Learning.{learning, events-of, releases-of}
use Rattle.mn_lsr.proofs.Mended.{link_there, turns, tree-of, mended-then, tree-then}
use Rattle.mn_lsr.proofs.Unmoved.{all_stay}
use Rattle.mn_lsr.proofs.Numbers.{by-ends, few-owed}
use Rattle.mn_lsr.proofs.After.{Happens, IsThen, may-follow, stands-then, kept-of, said-then, length-machines}
use Rattle.mn_lsr.specs.Turns.{Kept, kept_then}
use Rattle.mn_lsr.proofs.parts.Parts.learn.Goals as goal
use Rattle.mn_lsr.proofs.parts.Parts.learn.Goals.{After-deref, In-Ok-follow}

pub turn_telling-requires-clause-there : goal.turn_telling-requires-clause-there
turn_telling-requires-clause-there c = link_there c.args.self.now c.requires.stands c.args.link.0 c.requires.there

pub turn_telling-requires-clause-turns : goal.turn_telling-requires-clause-turns
turn_telling-requires-clause-turns c =
    turns c.args.self.now c.requires.stands c.args.link.0 c.requires.there c.learn.new.self c.in-Ok.ensures.learned c.up-up.result c.up-up.ensures

pub new_hops-requires-clause-still : goal.new_hops-requires-clause-still
new_hops-requires-clause-still c = λ still fec h.
    let p = c.args.self.now in
    let st = c.requires.stands in
    let tree_is = tree-of (wiring_in p) (links_up p.view) p.me.0 p.mended st.mended c.tree-before.ensures.least in
    subst (λ (t : PathTable). stays p.me.0 p.lib.bindings.hops t fec ≡ true)
    (sym (c.tree-tree.ensures.value ∙ c.in-Ok-turn_telling.ensures.same (ap Ok still)))
    (all_stay (wiring_in p) (node_in p) p.lib.bindings p.mended.tree st.wired.joins st.me st.tied tree_is fec
    (omega (arith, h, ap (λ (v : Learned). v.nodes) c.in-Ok.ensures.learned, st.nodes)))

pub follow-requires-clause-numbers : goal.follow-requires-clause-numbers
follow-requires-clause-numbers c = by-ends c.args.self.now (length c.new-out.result.items) c.requires.numbers

-- what is followed is the next hops that change
events : (c : After-deref) →
    c.deref.result.now ≡ hop_events c.args.self.now.me.0 c.args.self.now.lib.bindings.hops c.tree-tree.result.now (length c.args.self.now.loopbacks.items)
events c =
    events-of c.args.self.now c.requires.stands c.args.link.0 c.learn.new.self c.tree-tree.result.now c.learn.new.self.nodes c.in-Ok-new_hops.events.items
    c.deref.result.now
    c.in-Ok.ensures.learned refl c.in-Ok-new_hops.ensures c.deref.ensures.value

happens : (c : After-deref) →
    Happens c.args.self.now (Learns c.args.link.0) (after_learn c.args.self.now.view c.args.link.0).counts c.deref.result.now c.args.self.now.sessions.items 0
    []
happens c =
    let p = c.args.self.now in
    let st = c.requires.stands in
    let l = c.args.link.0 in
    let tree_is =
    tree-then p st l c.requires.there c.learn.new.self c.in-Ok.ensures.learned c.up-up.result c.up-up.ensures c.turn_telling.new.self
    c.turn_telling.ensures.of c.in-Ok-turn_telling.ensures.turned c.in-Ok-turn_telling.ensures.ok.1 c.tree-tree.result.now c.tree-tree.ensures.value
    c.tree-tree.ensures.least in
    subst (λ (es : List LibEvent). Happens p (Learns l) (after_learn p.view l).counts es p.sessions.items 0 []) (sym (events c))
    (learning p st l c.tree-tree.result.now tree_is)

-- the node once they are followed
done : (c : In-Ok-follow) →
    Happens c.args.self.now (Learns c.args.link.0) (after_learn c.args.self.now.view c.args.link.0).counts c.deref.result.now c.args.self.now.sessions.items 0
    []
    → Stands c.follow.new.self
    × (kept_of c.follow.new.self ≡ kept_then (wiring_in c.args.self.now) c.args.tick (kept_of c.args.self.now) (Learns c.args.link.0))
done c happens =
    let p = c.args.self.now in
    let st = c.requires.stands in
    let l = c.args.link.0 in
    let mended_is =
    mended-then p st l c.requires.there c.learn.new.self c.in-Ok.ensures.learned c.up-up.result c.up-up.ensures c.turn_telling.new.self
    c.turn_telling.ensures.of c.in-Ok-turn_telling.ensures.turned c.in-Ok-turn_telling.ensures.ok.1 in
    let q : Parts = c.follow.new.self in
    let counted : q.sessions.items ≡ ends_after p.sessions.items
    (flat_map (said_by_tell (record { loopbacks = p.loopbacks.items; ends = p.view.ends }) p.me.0) (tells p.lib.bindings c.deref.result.now)) =
    c.in-Ok-follow.ensures.counted
    ∙ ap (λ (v : Learned). ends_after p.sessions.items
    (flat_map (said_by_tell (record { loopbacks = p.loopbacks.items; ends = v.ends }) p.me.0) (tells p.lib.bindings c.deref.result.now)))
    c.in-Ok.ensures.learned
    in
    let is : IsThen p st (Learns l) (after_learn p.view l).counts c.deref.result.now p.sessions.items 0 [] happens c.args.tick c.learn.new.self q.sessions q.lib
    q.labels =
    record { view_is = c.in-Ok.ensures.learned; known_is = c.in-Ok-follow.ensures.known; ends_are = counted; labels_are = c.in-Ok-follow.ensures.labels } in (
      subst Stands (sym c.in-Ok-follow.ensures.others)
          (stands-then p st (Learns l) (after_learn p.view l).counts c.deref.result.now p.sessions.items 0 [] happens c.args.tick c.learn.new.self
          c.turn_telling.new.self
          q.sessions q.lib q.labels q.lfib is (length-set p.view.counts l (slice_index p.view.counts l + 1)) mended_is c.in-Ok-follow.ensures.have
          c.in-Ok-follow.ensures.table),
      ap kept_of c.in-Ok-follow.ensures.others
          ∙ kept-of p st (Learns l) (after_learn p.view l).counts c.deref.result.now p.sessions.items 0 [] happens c.args.tick c.learn.new.self
          c.turn_telling.new.self q.sessions
          q.lib q.labels q.lfib is,
    )

pub follow-requires-clause-follow : goal.follow-requires-clause-follow
follow-requires-clause-follow c =
    let at = goal.at.follow-requires-clause-follow c in
    let p = c.args.self.now in
    let st = c.requires.stands in
    let l = c.args.link.0 in
    may-follow p st (Learns l) (after_learn p.view l).counts c.deref.result.now p.sessions.items 0 [] (happens at.After-deref) c.learn.new.self
    c.turn_telling.new.self
    p.sessions 0 c.in-Ok.ensures.learned (sym (length-machines p.sessions.items) ∙ st.ends.one_each)
    (releases-of p c.tree-tree.result.now 0 c.deref.result.now (events at.After-deref))

pub follow-requires-clause-owed : goal.follow-requires-clause-owed
follow-requires-clause-owed c =
    few-owed c.args.self.now c.requires.stands (length c.new-out.result.items) (by-ends c.args.self.now (length c.new-out.result.items) c.requires.numbers)

pub returns-clause-stands : goal.returns-clause-stands
returns-clause-stands c =
    let at = goal.at.returns-clause-stands c in
    (done at.In-Ok-follow (happens at.After-deref)).0

pub returns-clause-node : goal.returns-clause-node
returns-clause-node c =
    let at = goal.at.returns-clause-node c in
    ap (λ (k : Kept). k.node) (done at.In-Ok-follow (happens at.After-deref)).1

pub returns-clause-labels : goal.returns-clause-labels
returns-clause-labels c =
    let at = goal.at.returns-clause-labels c in
    ap (λ (k : Kept). k.labels) (done at.In-Ok-follow (happens at.After-deref)).1

pub returns-clause-resting : goal.returns-clause-resting
returns-clause-resting c =
    let at = goal.at.returns-clause-resting c in
    ap (λ (k : Kept). k.resting) (done at.In-Ok-follow (happens at.After-deref)).1

pub returns-clause-said : goal.returns-clause-said
returns-clause-said c =
    let p = c.args.self.now in
    let st = c.requires.stands in
    let l = c.args.link.0 in
    let q : Parts = c.follow.new.self in
    let own = own_labels p.me.0 q.labels.labels in
    c.in-Ok-follow.ensures.said
    ∙ ap (λ (xs : List Said). map pdu_of xs ++ pdus_by (record { loopbacks = p.loopbacks.items; ends = c.learn.new.self.ends }) p.me.0 own 0 p.sessions.items
    (flat_map (said_by_tell (record { loopbacks = p.loopbacks.items; ends = c.learn.new.self.ends }) p.me.0) (tells p.lib.bindings c.deref.result.now)))
    c.new-out.ensures.items
    ∙ ap (λ (v : Learned). pdus_by (record { loopbacks = p.loopbacks.items; ends = v.ends }) p.me.0 own 0 p.sessions.items
    (flat_map (said_by_tell (record { loopbacks = p.loopbacks.items; ends = v.ends }) p.me.0) (tells p.lib.bindings c.deref.result.now)))
    c.in-Ok.ensures.learned
    ∙ said-then p st (Learns l) (after_learn p.view l).counts c.deref.result.now p.sessions.items 0 [] (happens (goal.at.returns-clause-said c).After-deref) own
    0
