use Rattle.std.proofs.Common.{◌∙◌, ap, map, refl, length}
use Rattle.mn_reflect_world_laws.specs.Now.{ReflectNow}
use Rattle.mn_reflect_world_laws.specs.Choice.{all_names}
use Rattle.mn_reflect_telling.specs.Mentions.{numbers_of, AreKept}
use Rattle.mn_reflect_telling.specs.Names.{key_in}
use Rattle.mn_reflect_telling.proofs.Results.{on_ok}
use Rattle.mn_reflect.proofs.Known.{names_below, all_known, offers_by}
use Rattle.mn_reflect.proofs.Views.{heard_row, kept_there, reflectors_there}
use Rattle.mn_reflect.proofs.reflect.Reflect.tell_tables.Goals as goal

pub tell_all-requires-clause-reflectors : goal.tell_all-requires-clause-reflectors
tell_all-requires-clause-reflectors c =
    reflectors_there c.self.view_is c.self.invariant.shape c.self.inside.topology.now (ap (λ (x : ReflectNow). x.topology) c.self.view_is) c.deref.result.now
    (ap numbers_of c.deref.ensures.value ∙ ap (λ (x : ReflectNow). x.reflectors) c.self.view_is)

pub tell_all-requires-clause-heard : goal.tell_all-requires-clause-heard
tell_all-requires-clause-heard c =
    kept_there c.self.view_is c.self.invariant.shape c.args.node.0 c.requires.node c.requires.may c.self.inside.topology.now
    (ap (λ (x : ReflectNow). x.topology) c.self.view_is) c.as_slice-heard.result.now
    (c.as_slice-heard.ensures.value
    ∙ heard_row c.self.view_is c.self.invariant.shape c.self.inside.heard.items refl c.from.ensures c.requires.node c.index.ensures)

pub tell_all-requires-clause-names : goal.tell_all-requires-clause-names
tell_all-requires-clause-names c =
    let t = c.self.inside.topology.now in
    let kept : AreKept t c.as_slice-heard.result.now =
    kept_there c.self.view_is c.self.invariant.shape c.args.node.0 c.requires.node c.requires.may t (ap (λ (x : ReflectNow). x.topology) c.self.view_is)
    c.as_slice-heard.result.now
    (c.as_slice-heard.ensures.value
    ∙ heard_row c.self.view_is c.self.invariant.shape c.self.inside.heard.items refl c.from.ensures c.requires.node c.index.ensures) in
    names_below (length t.vrfs) c.deref-2.result.now (all_names c.as_slice-heard.result.now)
    (ap (map key_in) c.deref-2.ensures.value ∙ c.in_ok-names.ensures) (all_known t c.as_slice-heard.result.now kept.each)

pub returns : goal.returns
returns c = on_ok c.tell_all.result
    (offers_by _ _ c.self.view_is c.args.node.0 c.args.peer.0 (numbers_of c.deref.result.now) (map key_in c.deref-2.result.now) c.as_slice-heard.result.now
    c.tell_all.new.mail (ap numbers_of c.deref.ensures.value ∙ ap (λ (x : ReflectNow). x.reflectors) c.self.view_is)
    (ap (map key_in) c.deref-2.ensures.value ∙ c.in_ok-names.ensures)
    (c.as_slice-heard.ensures.value
    ∙ heard_row c.self.view_is c.self.invariant.shape c.self.inside.heard.items refl c.from.ensures c.requires.node c.index.ensures))
    c.tell_all.ensures.told
