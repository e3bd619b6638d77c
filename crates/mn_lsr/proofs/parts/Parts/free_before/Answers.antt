use Rattle.std.proofs.Common.{ℕ, zero, suc, ◌≡◌, ◌+◌, ◌++◌, ◌∷◌, List, [], false, refl, sym, ◌∙◌, ap}
use Rattle.std.specs.Prelude.{◌&&◌, is_some, if◌then◌else◌}
use Rattle.std.specs.List.{flat_map, range_with_len}
use Rattle.mn_base.proofs.Bools.{and_false}
use Rattle.mn_labels.specs.Labels.{Labels, label_now, numbers}
use Rattle.mn_bindings.specs.Known.{Known, is_free}
use Rattle.mn_lsr.specs.Parts.{free_of}
use Rattle.mn_lsr.proofs.parts.Parts.free_before.Goals as goal
use Rattle.mn_lsr.proofs.parts.Parts.free_before.Goals.{else-may_be_free-via-then-may_be_free+else-may_begin, else-may_be_free-via-else-may_be_free}

-- where no FEC is free none is found
none_free : (known : Known) (labels : Labels) (tick q n : ℕ) → ((fec : ℕ) → is_free known tick fec ≡ false) →
    flat_map (free_of known labels tick) (range_with_len q n) ≡ []
none_free known labels tick q zero none = refl
none_free known labels tick q (suc n) none =
    ap (λ free. (let o : List ℕ = if is_some (label_now labels q) && free then q ∷ [] else [] in o) ++ flat_map (free_of known labels tick)
    (range_with_len (q + 1) n)) (none q)
    ∙ ap (λ both. (let o : List ℕ = if both then q ∷ [] else [] in o) ++ flat_map (free_of known labels tick) (range_with_len (q + 1) n))
    (and_false (is_some (label_now labels q)))
    ∙ none_free known labels tick (q + 1) n none

pub returns-else-may_be_free : goal.returns-else-may_be_free
returns-else-may_be_free c = λ some. elim c.else-may_be_free.branch [
  | else-may_be_free-via-then-may_be_free+else-may_begin w ↦ absurd (some (w.may_begin.ensures.none w.if-may_begin.false))
  | else-may_be_free-via-else-may_be_free w ↦
      ap numbers c.new.ensures.items
      ∙ sym (none_free c.args.self.now.lib c.args.self.now.labels.labels c.args.tick 0 c.args.self.now.view.nodes (c.may_be_free.ensures.none
      w.if-may_be_free.false))
]
