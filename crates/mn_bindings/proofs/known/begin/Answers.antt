use Rattle.std.proofs.Common.{ℕ, ◌++◌, ◌∷◌, [], ◌∙◌, sym, ap, true, false, map, arith, List}
use Rattle.std.specs.Prelude.{slice_index_or}
use Rattle.std.proofs.lemmas.List.{map-append}
use Rattle.std.proofs.Common.{append-nil}
use Rattle.mn_base.specs.declared.numbers.NodeNo.{NodeNo}
use Rattle.mn_bindings.specs.declared.news.SoFar.{SoFar}
use Rattle.mn_bindings.specs.News.{begun_since}
use Rattle.mn_bindings.proofs.Resting.{begun_case}
use Rattle.mn_bindings.proofs.Staying.{rest_more}
use Rattle.mn_bindings.proofs.known.begin.Goals as goal
use Rattle.mn_bindings.proofs.known.begin.Goals.{then-begins, else-begins}

pub loop-one-preserved : goal.loop-one-preserved
loop-one-preserved c =
    let none : SoFar = record { fec = record { 0 = 0 }; offered = false } in
    let i : ℕ = c.loop-one.one-index in
    let one : SoFar = slice_index_or c.args.before.now c.loop-one.one-index none in
    let was : List ℕ = map (λ (fec : NodeNo). fec.0) c.loop-one.begun.items in
    elim c.if-begins.branch [
      | then-begins w ↦ record {
        rest = rest_more (begun_since c.args.bound.now) c.args.before.now i none was (map (λ (fec : NodeNo). fec.0) c.if-begins.begun.items) _
            c.loop-one-test.true
            (ap (λ v. map (λ (fec : NodeNo). fec.0) v.items) w.begun-is
            ∙ ap (map (λ (fec : NodeNo). fec.0)) w.push_reserved.ensures.items
            ∙ map-append (λ (fec : NodeNo). fec.0) c.loop-one.begun.items (one.fec ∷ [])
            ∙ ap (λ ys. was ++ ys) (begun_case c.args.bound.now one true (sym w.if-begins.true ∙ c.begins.ensures)))
            c.loop-one.invariant.rest;
        room = rw w.begun-is (omega (arith, w.push_reserved.ensures.len, w.push_reserved.ensures.capacity, c.loop-one.invariant.room));
      }
      | else-begins w ↦ record {
        rest = rest_more (begun_since c.args.bound.now) c.args.before.now i none was (map (λ (fec : NodeNo). fec.0) c.if-begins.begun.items) _
            c.loop-one-test.true
            (ap (λ v. map (λ (fec : NodeNo). fec.0) v.items) w.begun-is ∙ sym (append-nil was)
            ∙ ap (λ ys. was ++ ys) (begun_case c.args.bound.now one false (sym w.if-begins.false ∙ c.begins.ensures)))
            c.loop-one.invariant.rest;
        room = rw w.begun-is (omega (arith, c.loop-one.invariant.room));
      }
    ]
