use Rattle.std.proofs.Common.{rules, sym, ◌∙◌, ap, Some}
use Rattle.std.specs.Prelude.{is_some}
use Rattle.mn_bindings.specs.declared.row.Row.{Row}
use Rattle.mn_bindings.proofs.Opening.{open_still}
use Rattle.mn_bindings.proofs.bindings.Bound.undo.Goals as goal

pub invariant_of-self-in-Some : goal.invariant_of-self-in-Some
invariant_of-self-in-Some c = record {
  rows = search rules;
  peers = open_still {A = Row} c.self.inside.heard.items c.self.inside.peers.items c.in-Label.from.0 (Some c.set.new.self) c.index_mut-then-at-len-2.result.now
      c.self.invariant.peers (sym (ap is_some c.in-Some.is) ∙ ap is_some c.index_mut-then-at-len-2.ensures.value);
  room = search rules;
  few = search rules;
  me = search rules;
}
