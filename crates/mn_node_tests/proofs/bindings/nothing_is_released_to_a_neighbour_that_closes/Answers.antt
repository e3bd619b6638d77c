use Rattle.std.proofs.Common.{◌∙◌, [], ◌∷◌, refl, ap, Some}
use Rattle.mn_bindings.specs.declared.event.LibEvent.TheVariants.{Opened, Closed, Map, Withdraw, Next}
use Rattle.mn_bindings.specs.Known.{Known, nothing_known, known_after}
use Rattle.mn_node_tests.proofs.Few.{node, few_for}
use Rattle.mn_node_tests.proofs.bindings.nothing_is_released_to_a_neighbour_that_closes.Goals as goal

abbrev begins : Known → Known
begins known =
    known_after known (Next (node 0) (Some (node 0)) ∷ Next (node 2) (Some (node 2)) ∷ Opened (node 0) ∷ Opened (node 2) ∷ Map (node 0) (node 0) 3
    ∷ Map (node 2) (node 2) 3 ∷ []) 0

pub apply-requires-2-clause-few : goal.apply-requires-2-clause-few
apply-requires-2-clause-few g c =
    few_for c.apply.new.self (begins (nothing_known (node 1) 3 10)) (Withdraw (node 2) (node 2) ∷ Withdraw (node 0) (node 0) ∷ Closed (node 2) ∷ [])
    (c.in_ok-apply.ensures.after ∙ ap begins c.in_ok-lib.ensures) refl refl
