use Rattle.std.proofs.Common.{rules, ◌≡◌, ◌<◌, ◌+◌, ℕ, length, refl, sym, subst}
use Rattle.mn_wiring.specs.Wiring.{Wiring, link}
use Rattle.mn_flood.proofs.Wired.{AreBelow, both_put, put}
use Rattle.mn_flood.proofs.links.links_by_node.Goals as goal

pub loop-number-preserved : goal.loop-number-preserved
loop-number-preserved c =
    let wiring : Wiring = record { loopbacks = c.args.loopbacks.now; ends = c.args.ends.now } in
    let k : ℕ = c.loop-number.number in
    let there : k < length wiring.ends = c.loop-number-test.true in
    let below = c.loop-number.invariant in
    let joins = c.requires.joins k there in
    let both : c.add-in-loop-number.new.lists.items ≡ put (put c.loop-number.lists.items (link wiring k).a.0 (record { 0 = k })) (link wiring k).b.0
    (record { 0 = k }) = search rules in
    subst (AreBelow wiring (k + 1)) (sym both)
    (both_put wiring k (link wiring k).a.0 (link wiring k).b.0 refl refl (c.requires.differ k there) c.loop-number.lists.items below
    (subst (λ n. (link wiring k).a.0 < n) (sym below.one_each) joins.0) (subst (λ n. (link wiring k).b.0 < n) (sym below.one_each) joins.1))
