use Rattle.std.proofs.Common.{◌<◌, length, ap, subst, sym, ◌∙◌}
use Rattle.mn_reflect_ledger_laws.specs.Picks.{is_reflector}
use Rattle.mn_reflect_world_laws.specs.Now.{ReflectNow}
use Rattle.mn_reflect_telling.specs.Names.{named}
use Rattle.mn_reflect_telling.specs.Passing.{IfPassable}
use Rattle.mn_reflect_telling.proofs.Results.{on_ok}
use Rattle.mn_reflect.specs.Doing.{MayTurn}
use Rattle.mn_reflect.proofs.Turns.{shows_of, as_told, may_keep, told_and_kept, kept_and_decided}
use Rattle.mn_reflect.proofs.reflect.Reflect.hear_route.Goals as goal

pub tell_heard-requires-clause-mention : goal.tell_heard-requires-clause-mention
tell_heard-requires-clause-mention c = subst (IfPassable c.args.self.now.topology) (sym c.as_ref.ensures.value) c.requires.passable

pub keep-requires : goal.keep-requires
keep-requires c =
    let told = as_told c.args.self.now c.shape.ensures c.args.node.0 c.args.peer.0 c.requires.node c.requires.peer
    (named c.args.vrf c.args.prefix) c.args.mention
    c.requires.name c.tell_heard.new.self (λ row shows. c.in_ok-tell_heard.ensures row (shows_of (sym c.as_ref.ensures.value) shows)) in
    record {
      node = subst (λ (r : ReflectNow). c.args.node.0 < length r.topology.loopbacks) (sym told) c.requires.node;
      peer = subst (λ (r : ReflectNow). c.args.peer.0 < length r.topology.loopbacks) (sym told) c.requires.peer;
    }

pub decide-requires : goal.decide-requires
decide-requires c =
    let then_kept = c.in_ok-keep.ensures in
    record {
      edge = subst (λ (r : ReflectNow). c.args.node.0 < length r.topology.loopbacks) (sym then_kept) c.requires.node;
      vrf = subst (λ (r : ReflectNow). c.args.vrf.0 < length r.topology.vrfs) (sym then_kept) c.requires.vrf;
      may = subst (λ (r : ReflectNow). MayTurn r c.args.node.0) (sym then_kept)
          (may_keep c.args.self.now c.shape.ensures c.args.node.0 c.args.peer.0 c.requires.node c.requires.peer (named c.args.vrf c.args.prefix) c.args.mention
          c.requires.name c.requires.may c.requires.passable);
      isnt = ap (λ (r : ReflectNow). is_reflector r.reflectors c.args.node.0) then_kept ∙ sym c.is_reflector.ensures ∙ c.if-is_reflector.false;
    }

pub returns-then-is_reflector : goal.returns-then-is_reflector
returns-then-is_reflector c = on_ok c.keep.result (λ then_kept.
    told_and_kept c.args.self.now c.shape.ensures c.args.node.0 c.args.peer.0 c.requires.node c.requires.peer (named c.args.vrf c.args.prefix) c.args.mention
    c.requires.name (sym c.is_reflector.ensures ∙ c.if-is_reflector.true) c.tell_heard.new.self c.keep.new.self
    (λ row shows. c.in_ok-tell_heard.ensures row (shows_of (sym c.as_ref.ensures.value) shows)) then_kept) c.keep.ensures

pub returns : goal.returns
returns c = on_ok c.decide.result (λ decided.
    kept_and_decided c.args.self.now c.shape.ensures c.args.node.0 c.args.peer.0 c.requires.node c.requires.peer (named c.args.vrf c.args.prefix) c.args.mention
    c.requires.name (sym c.is_reflector.ensures ∙ c.if-is_reflector.false) c.keep-2.new.self c.decide.new.self c.in_ok-keep.ensures decided) c.decide.ensures
