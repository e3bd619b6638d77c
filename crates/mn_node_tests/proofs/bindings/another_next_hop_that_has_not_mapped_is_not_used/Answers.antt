use Rattle.std.proofs.Common.{◌∙◌, [], ◌∷◌, refl, ap, Some}
use Rattle.mn_bindings.specs.declared.event.LibEvent.TheVariants.{Opened, Map, Next}
use Rattle.mn_bindings.specs.Known.{Known, nothing_known, known_after}
use Rattle.mn_node_tests.proofs.Few.{node, few_for}
use Rattle.mn_node_tests.proofs.bindings.another_next_hop_that_has_not_mapped_is_not_used.Goals as goal

abbrev begins : Known → Known
begins known = known_after known (Opened (node 1) ∷ Opened (node 2) ∷ Map (node 1) (node 3) 19 ∷ Next (node 3) (Some (node 1)) ∷ []) 0

pub apply-requires-2-clause-few : goal.apply-requires-2-clause-few
apply-requires-2-clause-few g c =
    few_for c.apply.new.self (begins (nothing_known (node 0) 4 10)) (Next (node 3) (Some (node 2)) ∷ [])
    (c.in_ok-apply.ensures.after ∙ ap begins c.in_ok-lib.ensures) refl refl
