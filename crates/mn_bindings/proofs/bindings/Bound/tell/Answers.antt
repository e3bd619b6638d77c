use Rattle.std.proofs.Common.{◌≡◌, ◌++◌, ◌∙◌, ap, sym, subst, append-nil}
use Rattle.std.specs.List.{flat_map}
use Rattle.std.proofs.lemmas.List.{drop_all}
use Rattle.mn_base.specs.declared.numbers.NodeNo.{NodeNo}
use Rattle.mn_bindings.specs.Bindings.{Bindings}
use Rattle.mn_bindings.specs.Tells.{told, tells_of}
use Rattle.mn_bindings.proofs.Staying.{rest_more}
use Rattle.mn_bindings.proofs.Opening.{told_peers}
use Rattle.mn_bindings.proofs.bindings.Bound.tell.Goals as goal

pub loop-to-preserved : goal.loop-to-preserved
loop-to-preserved c =
    rest_more (λ (to : NodeNo). told c.args.before c.args.self.now c.args.events.now c.args.fec.0 to.0) _ _ (record { 0 = 0 }) _ _ _ c.loop-to-test.true
    c.in_ok-tell_one.ensures.told c.loop-to.invariant

pub returns : goal.returns
returns c =
    let f = λ (to : NodeNo). told c.args.before c.args.self.now c.args.events.now c.args.fec.0 to.0 in
    let peers = c.deref-to-items.result.now in
    let b : Bindings = record { me = c.self.inside.me; heard = c.self.inside.heard.items; hops = c.self.inside.hops.items } in
    sym (append-nil c.loop-to.tells.items)
    ∙ ap (λ xs. c.loop-to.tells.items ++ flat_map f xs) (sym (drop_all c.loop-to.to-index peers c.loop-to-test.false))
    ∙ c.loop-to.invariant
    ∙ ap (λ xs. c.args.tells.now.items ++ flat_map f xs) c.deref-to-items.ensures.value
    ∙ ap (λ xs. c.args.tells.now.items ++ xs)
    (subst (λ (b : Bindings). flat_map (λ (to : NodeNo). told c.args.before b c.args.events.now c.args.fec.0 to.0) c.self.inside.peers.items
    ≡ tells_of c.args.before b c.args.events.now c.args.fec.0)
    c.self.view_is (told_peers c.args.before b c.args.events.now c.args.fec.0 c.self.inside.peers.items c.self.invariant.peers c.self.invariant.rows))
