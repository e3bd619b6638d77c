use Rattle.std.proofs.Common.{◌∙◌, [], ◌∷◌, refl, ap, Some, None}
use Rattle.mn_bindings.specs.declared.event.LibEvent.TheVariants.{Opened, Map, Next}
use Rattle.mn_bindings.specs.Known.{Known, nothing_known, known_after}
use Rattle.mn_node_tests.proofs.Few.{node, few_for}
use Rattle.mn_node_tests.proofs.bindings.another_next_hop_that_has_mapped_is_used.Goals as goal

abbrev begins : Known → Known
begins known =
    known_after known (Opened (node 1) ∷ Opened (node 2) ∷ Map (node 1) (node 3) 19 ∷ Map (node 2) (node 3) 18 ∷ Next (node 3) (Some (node 1)) ∷ []) 0

abbrev turns : Known → Known
turns known = known_after known (Next (node 3) (Some (node 2)) ∷ []) 0

pub apply-requires-2-clause-few : goal.apply-requires-2-clause-few
apply-requires-2-clause-few g c =
    few_for c.apply.new.self (begins (nothing_known (node 0) 4 10)) (Next (node 3) (Some (node 2)) ∷ [])
    (c.in_ok-apply.ensures.after ∙ ap begins c.in_ok-lib.ensures) refl refl

pub apply-requires-3-clause-few : goal.apply-requires-3-clause-few
apply-requires-3-clause-few g c =
    few_for c.apply-2.new.self (turns (begins (nothing_known (node 0) 4 10))) (Next (node 3) None ∷ [])
    (c.in_ok-other.ensures.after ∙ ap turns (c.in_ok-apply.ensures.after ∙ ap begins c.in_ok-lib.ensures)) refl refl
