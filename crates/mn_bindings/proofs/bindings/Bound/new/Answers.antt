use Rattle.std.proofs.Common.{◌≡◌, ◌∙◌, rules, arith, replicate, map, [], None, sym, ap}
use Rattle.std.specs.Prelude.{is_some}
use Rattle.std.proofs.lemmas.Grind.{common_steps}
use Rattle.mn_bindings.specs.Kept.{open_from}
use Rattle.mn_bindings.proofs.Opening.{none_open}
use Rattle.mn_bindings.proofs.bindings.Bound.new.Goals as goal

pub invariant_of-result : goal.invariant_of-result
invariant_of-result c =
    let rows : c.loop.heard.items ≡ replicate c.args.nodes None = search rules in
    let none : c.in_ok-peers.peers.items ≡ [] = search rules in
    record {
      rows = grind (arith, common_steps, rows);
      peers = none ∙ none_open _ 0 c.args.nodes ∙ ap (λ xs. open_from 0 (map is_some xs)) (sym rows);
      room = grind (arith, common_steps, rows);
      few = grind (arith, common_steps);
      me = grind (arith, common_steps);
    }
