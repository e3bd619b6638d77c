use Rattle.std.proofs.Common.{rules, ◌≡◌, ◌++◌, ◌∷◌, [], ◌∙◌, ap, sym, arith, map, ℕ}
use Rattle.std.specs.List.{range_with_len}
use Rattle.std.proofs.lemmas.List.FromFn.{map-range_with_len_more}
use Rattle.mn_flood_laws.specs.Flood.{first_of}
use Rattle.mn_flood.proofs.world.first_databases.Goals as goal

pub loop-node-preserved : goal.loop-node-preserved
loop-node-preserved c =
    let kept_by = λ (node : ℕ). map (first_of node) (range_with_len 0 c.args.nodes) in
    let grown : c.push.new.self.items ≡ c.loop-node.kept.items ++ map (first_of c.loop-node.node) (range_with_len 0 c.args.nodes) ∷ [] = search rules in
    grown ∙ ap (λ xs. xs ++ map (first_of c.loop-node.node) (range_with_len 0 c.args.nodes) ∷ []) c.loop-node.invariant
    ∙ sym (map-range_with_len_more kept_by 0 c.loop-node.node c.loop-node.node (omega arith))
