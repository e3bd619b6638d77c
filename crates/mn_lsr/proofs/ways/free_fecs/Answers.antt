use Rattle.std.proofs.Common.{ℕ, Bool, true, false, ◌≡◌, ◌++◌, ◌∷◌, List, [], sym, ◌∙◌, ap, append-nil}
use Rattle.std.specs.Prelude.{◌&&◌, is_some, if◌then◌else◌}
use Rattle.std.proofs.lemmas.List.{map-append}
use Rattle.mn_base.specs.declared.numbers.NodeNo.{NodeNo}
use Rattle.mn_labels.specs.Labels.{Labels, label_now, numbers}
use Rattle.mn_bindings.specs.Known.{Known, is_free}
use Rattle.mn_bindings.proofs.Ranges.{flat_range-more}
use Rattle.mn_lsr.specs.Parts.{free_of}
use Rattle.mn_lsr.proofs.ways.free_fecs.Goals as goal
use Rattle.mn_lsr.proofs.ways.free_fecs.Goals.{then-has_free_label+in_ok-push, else-has_free_label}

free_if : (known : Known) (labels : Labels) (tick at : ℕ) (x : Bool) → (is_some (label_now labels at) && is_free known tick at) ≡ x →
    free_of known labels tick at ≡ (if x then at ∷ [] else [])
free_if known labels tick at x e = ap (λ b. let o : List ℕ = if b then at ∷ [] else [] in o) e

pub loop-at-preserved : goal.loop-at-preserved
loop-at-preserved c =
    let known : Known = c.args.bindings.now in
    let labels : Labels = c.args.labels.now.labels in
    let tick : ℕ = c.args.tick in
    let at : ℕ = c.loop-at.at in
    flat_range-more (free_of known labels tick) [] (numbers c.loop-at.free.items) (numbers c.if-has_free_label.free.items) at c.loop-at.invariant
    (elim c.if-has_free_label.branch [
      | then-has_free_label+in_ok-push w ↦
          ap (λ v. numbers v.items) w.free-is ∙ ap numbers w.in_ok-push.ensures.items
          ∙ map-append (λ (n : NodeNo). n.0) c.loop-at.free.items (record { 0 = at } ∷ [])
          ∙ ap (λ xs. numbers c.loop-at.free.items ++ xs)
          (sym (free_if known labels tick at true (sym c.has_free_label.ensures ∙ w.if-has_free_label.true)))
      | else-has_free_label w ↦
          ap (λ v. numbers v.items) w.free-is ∙ sym (append-nil (numbers c.loop-at.free.items))
          ∙ ap (λ xs. numbers c.loop-at.free.items ++ xs)
          (sym (free_if known labels tick at false (sym c.has_free_label.ensures ∙ w.if-has_free_label.false)))
    ])
