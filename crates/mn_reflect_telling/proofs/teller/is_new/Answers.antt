use Rattle.std.proofs.Common.{List, ◌==◌, Bool, refl, ap, sym, ◌∙◌, eqb}
use Rattle.std.specs.Prelude.{not}
use lib.Pointwise.{pointwise}
use Rattle.mn_base.specs.declared.numbers.Rt.{Rt}
use Rattle.mn_base.proofs.Bools.{no}
use Rattle.mn_reflect_telling.proofs.Newness.{unlike, by_label, by_targets, by_clusters}
use Rattle.mn_reflect_telling.proofs.teller.is_new.Goals.{then-label, else-label}
use Rattle.mn_reflect_telling.proofs.teller.is_new.Goals as goal

abbrev same_rt : Rt → Rt → Bool
same_rt a b = a.0 == b.0

abbrev differ : List Rt → List Rt → Bool
differ ts us = not (pointwise same_rt ts us)

pub returns-then-ne : goal.returns-then-ne
returns-then-ne c =
    c.if-ne.true ∙ elim c.if-label.branch [
      | then-label w ↦ by_label same_rt (λ a b. refl) c.args.old.now c.args.new.now
          (λ same. w.if-label.true (c.label.ensures ∙ same ∙ sym c.label-2.ensures))
      | else-label w ↦ by_targets same_rt (λ a b. refl) c.args.old.now c.args.new.now
          (sym (w.ne.ensures ∙ ap (λ ts. differ ts w.targets-else-label.result.now) w.targets.ensures
          ∙ ap (differ c.args.old.now.targets) w.targets-else-label.ensures)
          ∙ sym w.value-is ∙ c.if-ne.true)
    ]

pub returns-else-ne : goal.returns-else-ne
returns-else-ne c =
    c.ne-else-ne.ensures ∙ ap (λ cs. not (pointwise eqb cs c.clusters-else-ne.result.now)) c.clusters.ensures
    ∙ ap (λ cs. not (pointwise eqb c.args.old.now.clusters cs)) c.clusters-else-ne.ensures
    ∙ elim c.if-label.branch [
      | then-label w ↦ absurd (no (sym c.if-ne.false ∙ w.value-is ∙ unlike c.label.result c.label-2.result w.if-label.true))
      | else-label w ↦ by_clusters same_rt (λ a b. refl) c.args.old.now c.args.new.now (sym c.label.ensures ∙ w.if-label.false ∙ c.label-2.ensures)
          (sym (w.ne.ensures ∙ ap (λ ts. differ ts w.targets-else-label.result.now) w.targets.ensures
          ∙ ap (differ c.args.old.now.targets) w.targets-else-label.ensures)
          ∙ sym w.value-is ∙ c.if-ne.false)
    ]
