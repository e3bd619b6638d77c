use Rattle.std.proofs.Common.{map, sym, ap, ◌∙◌, arith}
use Rattle.mn_edge.specs.Kept.{held_bytes}
use Rattle.mn_edge.proofs.Gathering.{none_held-bytes}
use Rattle.mn_edge.proofs.held.Held.clear.Goals as goal

pub invariant_of-self : goal.invariant_of-self
invariant_of-self c = (sym (ap held_bytes c.empty.ensures ∙ none_held-bytes (map (λ v. v.items) c.self.inside.files.items)), omega arith)
