use Rattle.std.proofs.Common.{[], ◌≡◌, ◌∙◌, ap, refl, subst, sym}
use Rattle.std.specs.Prelude.{slice_index_or}
use Rattle.mn_reflect_world_laws.specs.Now.{ReflectNow}
use Rattle.mn_reflect_telling.specs.Mentions.{AreNodes, numbers_of}
use Rattle.mn_reflect_telling.specs.Names.{named}
use Rattle.mn_reflect_telling.proofs.Results.{on_ok}
use Rattle.mn_reflect.proofs.Turns.{shows_at, told_by}
use Rattle.mn_reflect.proofs.Views.{heard_row, kept_there, reflectors_there}
use Rattle.mn_reflect.proofs.reflect.Reflect.tell_heard.Goals as goal

pub tell_heard-requires-clause-peers : goal.tell_heard-requires-clause-peers
tell_heard-requires-clause-peers c =
    subst (λ (x : ReflectNow). AreNodes x.topology c.deref-2.result.now) (sym c.self.view_is)
    (subst (AreNodes c.args.self.now.topology) (sym c.deref-2.ensures.value) c.in_ok-peers.ensures.nodes)

pub tell_heard-requires-clause-reflectors : goal.tell_heard-requires-clause-reflectors
tell_heard-requires-clause-reflectors c =
    reflectors_there c.self.view_is c.self.invariant.shape c.self.inside.topology.now (ap (λ (x : ReflectNow). x.topology) c.self.view_is) c.deref.result.now
    (ap numbers_of c.deref.ensures.value ∙ ap (λ (x : ReflectNow). x.reflectors) c.self.view_is)

pub tell_heard-requires-clause-heard : goal.tell_heard-requires-clause-heard
tell_heard-requires-clause-heard c =
    kept_there c.self.view_is c.self.invariant.shape c.args.node.0 c.requires.node c.requires.may c.self.inside.topology.now
    (ap (λ (x : ReflectNow). x.topology) c.self.view_is) c.as_slice-heard.result.now
    (c.as_slice-heard.ensures.value
    ∙ heard_row c.self.view_is c.self.invariant.shape c.self.inside.heard.items refl c.from.ensures c.requires.node c.index.ensures)

pub returns : goal.returns
returns c = λ row shows.
    let heard_is : c.as_slice-heard.result.now ≡ slice_index_or c.args.self.now.heard c.args.node.0 [] =
    c.as_slice-heard.ensures.value
    ∙ heard_row c.self.view_is c.self.invariant.shape c.self.inside.heard.items refl c.from.ensures c.requires.node c.index.ensures in
    on_ok c.tell_heard.result
    (told_by _ _ c.self.view_is c.args.node.0 (numbers_of c.deref.result.now) c.deref-2.result.now c.as_slice-heard.result.now c.tell_heard.new.mail
    (ap numbers_of c.deref.ensures.value ∙ ap (λ (x : ReflectNow). x.reflectors) c.self.view_is) (c.deref-2.ensures.value ∙ c.in_ok-peers.ensures.are)
    heard_is (named c.args.vrf c.args.prefix) row)
    (c.tell_heard.ensures.told row (shows_at heard_is shows))
