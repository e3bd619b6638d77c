use Rattle.std.proofs.Common.{◌≡◌, ◌∙◌, [], ◌∷◌, refl, ap, Some, None}
use Rattle.std.specs.Prelude.{is_some, slice_index_or}
use Rattle.mn_bindings.specs.declared.event.LibEvent.TheVariants.{Opened, Map, Withdraw, Released, Next}
use Rattle.mn_bindings.specs.Known.{Known, nothing_known, known_after}
use Rattle.mn_node_tests.proofs.Few.{node, few_for, has_node}
use Rattle.mn_node_tests.proofs.bindings.a_label_is_free_once_released_and_a_life_later.Goals as goal

abbrev begins : Known → Known
begins known = known_after known (Next (node 0) (Some (node 0)) ∷ Opened (node 0) ∷ Opened (node 2) ∷ Map (node 0) (node 0) 3 ∷ []) 0

abbrev ends : Known → Known
ends known = known_after known (Withdraw (node 0) (node 0) ∷ []) 5

abbrev releases : Known → Known
releases known = known_after known (Released (node 0) (node 0) ∷ []) 6

abbrev releases_last : Known → Known
releases_last known = known_after known (Released (node 2) (node 0) ∷ []) 7

abbrev start : Known
start = nothing_known (node 1) 3 10

pub apply-requires-2-clause-few : goal.apply-requires-2-clause-few
apply-requires-2-clause-few g c =
    few_for c.apply.new.self (begins start) (Withdraw (node 0) (node 0) ∷ []) (c.in_ok-begun.ensures.after ∙ ap begins c.in_ok-lib.ensures) refl refl

pub apply-requires-3-clause-few : goal.apply-requires-3-clause-few
apply-requires-3-clause-few g c =
    few_for c.apply-2.new.self (ends (begins start)) (Released (node 0) (node 0) ∷ [])
    (c.in_ok-ended.ensures.after ∙ ap ends (c.in_ok-begun.ensures.after ∙ ap begins c.in_ok-lib.ensures)) refl refl

pub is_free-requires : goal.is_free-requires
is_free-requires g c =
    has_node c.apply-3.new.self (releases (ends (begins start))) 0
    (c.in_ok-apply.ensures.after ∙ ap releases (c.in_ok-ended.ensures.after ∙ ap ends (c.in_ok-begun.ensures.after ∙ ap begins c.in_ok-lib.ensures))) refl

pub apply-requires-4-clause-fit : goal.apply-requires-4-clause-fit
apply-requires-4-clause-fit g c =
    let is : c.apply-3.new.self ≡ releases (ends (begins start)) =
    c.in_ok-apply.ensures.after ∙ ap releases (c.in_ok-ended.ensures.after ∙ ap ends (c.in_ok-begun.ensures.after ∙ ap begins c.in_ok-lib.ensures)) in (
      (
        has_node c.apply-3.new.self (releases (ends (begins start))) 2 is refl,
        ap (λ (k : Known). is_some (slice_index_or k.bindings.heard 2 None)) is,
        has_node c.apply-3.new.self (releases (ends (begins start))) 0 is refl,
      ),
      tt,
    )

pub apply-requires-4-clause-few : goal.apply-requires-4-clause-few
apply-requires-4-clause-few g c =
    few_for c.apply-3.new.self (releases (ends (begins start))) (Released (node 2) (node 0) ∷ [])
    (c.in_ok-apply.ensures.after ∙ ap releases (c.in_ok-ended.ensures.after ∙ ap ends (c.in_ok-begun.ensures.after ∙ ap begins c.in_ok-lib.ensures))) refl refl

pub is_free-requires-2 : goal.is_free-requires-2
is_free-requires-2 g c =
    has_node c.apply-4.new.self (releases_last (releases (ends (begins start)))) 0
    (c.in_ok-apply-2.ensures.after ∙ ap releases_last (c.in_ok-apply.ensures.after
    ∙ ap releases (c.in_ok-ended.ensures.after ∙ ap ends (c.in_ok-begun.ensures.after ∙ ap begins c.in_ok-lib.ensures)))) refl

pub is_free-requires-3 : goal.is_free-requires-3
is_free-requires-3 g c =
    has_node c.apply-4.new.self (releases_last (releases (ends (begins start)))) 0
    (c.in_ok-apply-2.ensures.after ∙ ap releases_last (c.in_ok-apply.ensures.after
    ∙ ap releases (c.in_ok-ended.ensures.after ∙ ap ends (c.in_ok-begun.ensures.after ∙ ap begins c.in_ok-lib.ensures)))) refl
