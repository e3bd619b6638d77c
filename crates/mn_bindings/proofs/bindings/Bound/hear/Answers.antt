use Rattle.std.proofs.Common.{rules, sym, ◌∙◌, ap, Some}
use Rattle.std.specs.Prelude.{is_some}
use Rattle.mn_bindings.specs.declared.row.Row.{Row}
use Rattle.mn_bindings.proofs.Opening.{open_still}
use Rattle.mn_bindings.proofs.bindings.Bound.hear.Goals as goal
use Rattle.mn_bindings.proofs.bindings.Bound.hear.Goals.{in-Some, in_default}

pub invariant_of-self : goal.invariant_of-self
invariant_of-self c = elim c.match-index_mut.branch [
  | in-Some w ↦ rw w.self-inside-is (record {
    rows = search rules;
    peers = open_still {A = Row} c.self.inside.heard.items c.self.inside.peers.items c.args.from.0 (Some w.set.new.self) c.index_mut.result.now
        c.self.invariant.peers (sym (ap is_some w.in-Some.is) ∙ ap is_some c.index_mut.ensures.value);
    room = search rules;
    few = search rules;
    me = search rules;
  })
  | in_default w ↦ rw w.self-inside-is (record {
    rows = search rules;
    peers = open_still {A = Row} c.self.inside.heard.items c.self.inside.peers.items c.args.from.0 c.index_mut.result.now c.index_mut.result.now
        c.self.invariant.peers (ap is_some c.index_mut.ensures.value);
    room = search rules;
    few = search rules;
    me = search rules;
  })
]
