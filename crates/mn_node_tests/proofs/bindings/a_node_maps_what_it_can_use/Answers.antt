use Rattle.std.proofs.Common.{◌∙◌, [], ◌∷◌, refl, ap, Some}
use Rattle.mn_bindings.specs.declared.event.LibEvent.TheVariants.{Opened, Map, Next}
use Rattle.mn_bindings.specs.Known.{Known, nothing_known, known_after}
use Rattle.mn_node_tests.proofs.Few.{node, few_for}
use Rattle.mn_node_tests.proofs.bindings.a_node_maps_what_it_can_use.Goals as goal

abbrev begins : Known → Known
begins known = known_after known (Next (node 0) (Some (node 0)) ∷ Next (node 2) (Some (node 2)) ∷ Opened (node 0) ∷ []) 0

abbrev hears : Known → Known
hears known = known_after known (Map (node 0) (node 0) 3 ∷ []) 0

pub apply-requires-3-clause-few : goal.apply-requires-3-clause-few
apply-requires-3-clause-few g c =
    few_for c.apply-2.new.self (hears (begins (nothing_known (node 1) 3 10))) (Opened (node 2) ∷ Map (node 2) (node 2) 3 ∷ [])
    (c.in_ok-mapped.ensures.after ∙ ap hears (c.in_ok-first.ensures.after ∙ ap begins c.in_ok-lib.ensures)) refl refl
