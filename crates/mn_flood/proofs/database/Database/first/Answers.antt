use Rattle.std.proofs.Common.{◌≡◌, ◌++◌, ◌∷◌, [], ◌∙◌, ap, sym, arith}
use Rattle.std.proofs.lemmas.List.FromFn.{map-range_with_len_more}
use Rattle.mn_flood_laws.specs.Flood.{first_of}
use Rattle.mn_flood.proofs.database.Database.first.Goals as goal

pub loop-origin-preserved : goal.loop-origin-preserved
loop-origin-preserved c =
    let grown : c.push.new.self.items ≡ c.loop-origin.adverts.items ++ first_of c.args.node.0 c.loop-origin.origin ∷ [] = c.in_ok-push.ensures.items
    ∙ ap (λ x. c.loop-origin.adverts.items ++ x ∷ []) c.in_ok-first_of.ensures in
    grown ∙ ap (λ xs. xs ++ first_of c.args.node.0 c.loop-origin.origin ∷ []) c.loop-origin.invariant
    ∙ sym (map-range_with_len_more (first_of c.args.node.0) 0 c.loop-origin.origin c.loop-origin.origin (omega arith))
