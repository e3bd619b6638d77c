use Rattle.std.proofs.Common.{[], ◌∙◌, ap, refl, subst, sym}
use Rattle.std.specs.Prelude.{slice_index_or}
use Rattle.std.specs.List.{AllByRecursion}
use Rattle.mn_reflect_world_laws.specs.Now.{ReflectNow}
use Rattle.mn_reflect_telling.specs.Mentions.{AreNodes, numbers_of}
use Rattle.mn_reflect_telling.specs.Passing.{IsPassable}
use Rattle.mn_reflect_telling.proofs.Results.{on_ok}
use Rattle.mn_reflect.proofs.Turns.{told_gone_by}
use Rattle.mn_reflect.proofs.Views.{heard_row, kept_there, reflectors_there}
use Rattle.mn_reflect.proofs.reflect.Reflect.tell_gone.Goals as goal

pub tell_gone-requires-clause-peers : goal.tell_gone-requires-clause-peers
tell_gone-requires-clause-peers c =
    subst (λ (x : ReflectNow). AreNodes x.topology c.deref-2.result.now) (sym c.self.view_is)
    (subst (AreNodes c.args.self.now.topology) (sym c.deref-2.ensures.value) c.in_ok-peers.ensures.nodes)

pub tell_gone-requires-clause-reflectors : goal.tell_gone-requires-clause-reflectors
tell_gone-requires-clause-reflectors c =
    reflectors_there c.self.view_is c.self.invariant.shape c.self.inside.topology.now (ap (λ (x : ReflectNow). x.topology) c.self.view_is) c.deref.result.now
    (ap numbers_of c.deref.ensures.value ∙ ap (λ (x : ReflectNow). x.reflectors) c.self.view_is)

pub tell_gone-requires-clause-heard : goal.tell_gone-requires-clause-heard
tell_gone-requires-clause-heard c =
    kept_there c.self.view_is c.self.invariant.shape c.args.node.0 c.requires.node c.requires.may c.self.inside.topology.now
    (ap (λ (x : ReflectNow). x.topology) c.self.view_is) c.as_slice-heard.result.now
    (c.as_slice-heard.ensures.value
    ∙ heard_row c.self.view_is c.self.invariant.shape c.self.inside.heard.items refl c.from.ensures c.requires.node c.index.ensures)

pub tell_gone-requires-clause-gone : goal.tell_gone-requires-clause-gone
tell_gone-requires-clause-gone c = subst (λ (x : ReflectNow). AllByRecursion (IsPassable x.topology) c.args.gone.now) (sym c.self.view_is) c.requires.gone

pub tell_gone-requires-clause-forgotten : goal.tell_gone-requires-clause-forgotten
tell_gone-requires-clause-forgotten c =
    ap (λ hs. slice_index_or hs c.args.peer.0 [])
    (c.as_slice-heard.ensures.value
    ∙ heard_row c.self.view_is c.self.invariant.shape c.self.inside.heard.items refl c.from.ensures c.requires.node c.index.ensures)
    ∙ c.requires.forgotten

pub returns : goal.returns
returns c = on_ok c.tell_gone.result
    (told_gone_by _ _ c.self.view_is c.args.node.0 (numbers_of c.deref.result.now) c.deref-2.result.now c.as_slice-heard.result.now c.tell_gone.new.mail
    (ap numbers_of c.deref.ensures.value ∙ ap (λ (x : ReflectNow). x.reflectors) c.self.view_is) (c.deref-2.ensures.value ∙ c.in_ok-peers.ensures.are)
    (c.as_slice-heard.ensures.value
    ∙ heard_row c.self.view_is c.self.invariant.shape c.self.inside.heard.items refl c.from.ensures c.requires.node c.index.ensures)
    c.args.peer.0 c.args.gone.now) c.tell_gone.ensures.told
