use Rattle.std.proofs.Common.{[], ◌<◌, length, ap, subst, sym, ◌∙◌}
use Rattle.std.specs.Prelude.{slice_index_or}
use Rattle.std.specs.List.{AllByRecursion}
use Rattle.mn_reflect_telling.proofs.Results.{on_ok}
use Rattle.mn_reflect_ledger_laws.specs.Picks.{is_reflector}
use Rattle.mn_reflect_world_laws.specs.Now.{ReflectNow}
use Rattle.mn_reflect_world_laws.specs.Choice.{row_at}
use Rattle.mn_reflect_telling.specs.Passing.{IsPassable}
use Rattle.mn_reflect.specs.Doing.{MayTurn}
use Rattle.mn_reflect_telling.proofs.Kept.{row_passes}
use Rattle.mn_reflect.proofs.Turns.{none_left, may_still, gone_and_told, gone_and_decided}
use Rattle.mn_reflect.proofs.reflect.Reflect.forget.Goals as goal

pub tell_gone-requires : goal.tell_gone-requires
tell_gone-requires c =
    let now = c.args.self.now in
    let left = c.take_row-gone.ensures.left in
    record {
      node = subst (λ (r : ReflectNow). c.args.node.0 < length r.topology.loopbacks) (sym left) c.requires.node;
      peer = subst (λ (r : ReflectNow). c.args.peer.0 < length r.topology.loopbacks) (sym left) c.requires.peer;
      may = subst (λ (r : ReflectNow). MayTurn r c.args.node.0) (sym left)
          (may_still now c.shape.ensures c.args.node.0 c.args.peer.0 c.requires.node c.requires.peer [] c.requires.may tt);
      gone = subst (λ (r : ReflectNow). AllByRecursion (IsPassable r.topology) c.take_row-gone.result) (sym left)
          (subst (AllByRecursion (IsPassable now.topology)) (sym c.take_row-gone.ensures.row)
          (row_passes now.topology (slice_index_or now.heard c.args.node.0 []) c.args.peer.0 c.requires.may.rows));
      forgotten = ap (λ (r : ReflectNow). row_at r.heard c.args.node.0 c.args.peer.0) left
          ∙ none_left now c.shape.ensures c.args.node.0 c.args.peer.0 c.requires.node c.requires.peer;
    }

pub decide_gone-requires : goal.decide_gone-requires
decide_gone-requires c =
    let now = c.args.self.now in
    let left = c.take_row-gone.ensures.left in
    record {
      edge = subst (λ (r : ReflectNow). c.args.node.0 < length r.topology.loopbacks) (sym left) c.requires.node;
      may = subst (λ (r : ReflectNow). MayTurn r c.args.node.0) (sym left)
          (may_still now c.shape.ensures c.args.node.0 c.args.peer.0 c.requires.node c.requires.peer [] c.requires.may tt);
      isnt = sym c.is_reflector.ensures ∙ c.if-is_reflector.false;
      gone = subst (λ (r : ReflectNow). AllByRecursion (IsPassable r.topology) c.take_row-gone.result) (sym left)
          (subst (AllByRecursion (IsPassable now.topology)) (sym c.take_row-gone.ensures.row)
          (row_passes now.topology (slice_index_or now.heard c.args.node.0 []) c.args.peer.0 c.requires.may.rows));
    }

pub returns-then-is_reflector : goal.returns-then-is_reflector
returns-then-is_reflector c = on_ok c.tell_gone.result (λ told.
    gone_and_told c.args.self.now c.shape.ensures c.args.node.0 c.args.peer.0 c.requires.node c.requires.peer
    (ap (λ (r : ReflectNow). is_reflector r.reflectors c.args.node.0) (sym c.take_row-gone.ensures.left) ∙ sym c.is_reflector.ensures ∙ c.if-is_reflector.true)
    c.take_row-gone.result c.take_row-gone.new.self c.tell_gone.new.self c.take_row-gone.ensures.row c.take_row-gone.ensures.left told) c.tell_gone.ensures

pub returns : goal.returns
returns c = on_ok c.decide_gone.result (λ decided.
    gone_and_decided c.args.self.now c.shape.ensures c.args.node.0 c.args.peer.0 c.requires.node c.requires.peer
    (ap (λ (r : ReflectNow). is_reflector r.reflectors c.args.node.0) (sym c.take_row-gone.ensures.left) ∙ sym c.is_reflector.ensures ∙ c.if-is_reflector.false)
    c.take_row-gone.result c.take_row-gone.new.self c.decide_gone.new.self c.take_row-gone.ensures.row c.take_row-gone.ensures.left decided)
    c.decide_gone.ensures
